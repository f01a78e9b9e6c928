use Rattle.std.proofs.Common.{Some, rules, []}
use Rattle.mx_layout.specs.kept.Cells.{kept_sector1}
use Rattle.mx_table_rows.specs.chosen.Texts.{any_row}
use Rattle.mx_moves.proofs.SectorTexts.{first_sectors_finds}
use Rattle.mx_moves.proofs.rows.first_sectors.Goals as goal

pub returns-clause-reads : goal.returns-clause-reads
returns-clause-reads g c = c.rows_chosen.ensures.reads (Some 64) kept_sector1.order any_row [] first_sectors_finds (search rules)
