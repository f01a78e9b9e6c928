use Rattle.std.proofs.Common.{Some, rules, [], ◌∷◌, pos}
use Rattle.sqlite.specs.declared.types.Value.TheVariants.{Int}
use Rattle.mx_layout.specs.kept.Cells.{kept_component}
use Rattle.mx_table_rows.specs.chosen.Texts.{above}
use Rattle.mx_moves.proofs.ItemTexts.{next_component_finds}
use Rattle.mx_moves.proofs.rows.next_components.Goals as goal

pub returns-clause-reads : goal.returns-clause-reads
returns-clause-reads g c = c.rows_chosen.ensures.reads (Some 1) kept_component.order (above 0) (Int (pos c.args.seq) ∷ []) next_component_finds (search rules)
