use Rattle.std.proofs.Common.{Some, rules, []}
use Rattle.mx_layout.specs.kept.Cells.{kept_defect}
use Rattle.mx_table_rows.specs.chosen.Texts.{any_row}
use Rattle.mx_moves.proofs.DeferralTexts.{first_deferrals_finds}
use Rattle.mx_moves.proofs.later_rows.first_deferrals.Goals as goal

pub returns-clause-reads : goal.returns-clause-reads
returns-clause-reads g c = c.rows_chosen.ensures.reads (Some 64) kept_defect.order any_row [] first_deferrals_finds (search rules)
