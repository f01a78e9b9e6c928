use Rattle.std.proofs.Common.{None, rules, []}
use Rattle.mx_layout.specs.kept.Cells.{kept_crs_line}
use Rattle.mx_table_rows.specs.chosen.Texts.{any_row}
use Rattle.mx_table_rows.proofs.ChosenProofs.Understood.{all_crs_lines_finds}
use Rattle.mx_table_rows.proofs.chosen.works.all_crs_lines.Goals as goal

pub returns-clause-reads : goal.returns-clause-reads
returns-clause-reads g c = c.rows_chosen.ensures.reads None kept_crs_line.order any_row [] all_crs_lines_finds (search rules)
