use Rattle.std.proofs.Common.{None, rules, []}
use Rattle.mx_layout.specs.kept.Cells.{kept_defect3}
use Rattle.mx_table_rows.specs.chosen.Texts.{any_row}
use Rattle.mx_table_rows.proofs.ChosenProofs.Understood.{all_defects3_finds}
use Rattle.mx_table_rows.proofs.chosen.later.all_defects3.Goals as goal

pub returns-clause-reads : goal.returns-clause-reads
returns-clause-reads g c = c.rows_chosen.ensures.reads None kept_defect3.order any_row [] all_defects3_finds (search rules)
