use Rattle.std.proofs.Common.{sym, ap, ◌∙◌}
use Rattle.mx_registers.specs.late.Done.{last_base}
use Rattle.mx_registers.proofs.KeptProofs.BaseRows.{base_in_rows}
use Rattle.mx_registers.proofs.LateProofs.DoneLate.{last_base_done}
use Rattle.mx_registers.proofs.LateProofs.DoneTable.{rows_of_task}
use Rattle.mx_registers.proofs.late.done.last_rows_have_the_bases.Goals as goal

pub returns-clause-base : goal.returns-clause-base
returns-clause-base c = last_base_done

pub returns-clause-rows : goal.returns-clause-rows
returns-clause-rows c book number item id b at =
    base_in_rows book number item id b at ∙ sym (ap last_base (rows_of_task book number item id b at) ∙ last_base_done book number item id)
