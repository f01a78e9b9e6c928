use Rattle.std.proofs.Common.{Some, rules, []}
use Rattle.mx_layout.specs.kept.Cells.{kept_entry}
use Rattle.mx_table_rows.specs.chosen.Choices.{backward}
use Rattle.mx_table_rows.specs.chosen.Texts.{any_row}
use Rattle.mx_table_rows.proofs.ChosenProofs.Understood.{last_entry_finds}
use Rattle.mx_table_rows.proofs.chosen.entries.last_entry.Goals as goal

pub returns-clause-reads : goal.returns-clause-reads
returns-clause-reads g c = c.rows_chosen.ensures.reads (Some 1) (backward kept_entry.order) any_row [] last_entry_finds (search rules)
