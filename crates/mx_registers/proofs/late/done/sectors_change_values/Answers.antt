use Rattle.std.proofs.Common.{sym, ◌∙◌}
use Rattle.mx_registers.specs.kept.Totals.{numbers_flown}
use Rattle.mx_registers.proofs.LateProofs.DoneLate.{credited_values, credited_rebased}
use Rattle.mx_registers.proofs.LateProofs.DoneMoved.{late_moved}
use Rattle.mx_registers.proofs.LateProofs.DoneOrder.{uncredited_rows}
use Rattle.mx_registers.proofs.late.done.sectors_change_values.Goals as goal

pub returns-clause-values : goal.returns-clause-values
returns-clause-values c book doc s number item id b new shape known at = credited_values book doc s number item id b new shape known at

pub returns-clause-rebased : goal.returns-clause-rebased
returns-clause-rebased c book doc s number item id b new shape known at = credited_rebased book doc s number item id b new shape known at

pub returns-clause-moved : goal.returns-clause-moved
returns-clause-moved c book doc s number item id b new shape known at =
    sym (late_moved book doc s (numbers_flown book s) number item id b) ∙ credited_rebased book doc s number item id b new shape known at

pub returns-clause-left : goal.returns-clause-left
returns-clause-left c book doc s number item id b new shape known at out = uncredited_rows book doc s number item id b new shape known at out
