use Rattle.std.proofs.Common.{None, rules, [], ◌∷◌}
use Rattle.sqlite.specs.declared.types.Value.TheVariants.{Text}
use Rattle.mx_layout.specs.kept.Cells.{kept_programme}
use Rattle.mx_table_rows.specs.chosen.Texts.{by_value}
use Rattle.mx_table_rows.proofs.ChosenProofs.Understood.{programme_by_kind_finds}
use Rattle.mx_table_rows.proofs.chosen.programmes.programme_by_kind.Goals as goal

pub returns-clause-reads : goal.returns-clause-reads
returns-clause-reads g c = c.rows_chosen.ensures.reads None kept_programme.order (by_value 1) (Text c.args.kind.now ∷ []) programme_by_kind_finds (search rules)
