use Rattle.std.proofs.Common.{None, rules, [], ◌∷◌}
use Rattle.sqlite.specs.declared.types.Value.TheVariants.{Text}
use Rattle.mx_layout.specs.kept.Cells.{kept_entry}
use Rattle.mx_table_rows.specs.chosen.Texts.{by_value}
use Rattle.mx_table_rows.proofs.ChosenProofs.Understood.{entry_by_doc_finds}
use Rattle.mx_table_rows.proofs.chosen.entries.entry_by_doc.Goals as goal

pub returns-clause-reads : goal.returns-clause-reads
returns-clause-reads g c = c.rows_chosen.ensures.reads None kept_entry.order (by_value 1) (Text c.args.doc.now ∷ []) entry_by_doc_finds (search rules)
