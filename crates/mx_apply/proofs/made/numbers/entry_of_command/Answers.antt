use Rattle.std.proofs.Common.{◌∙◌, ap}
use Rattle.mx_registers.specs.Registers.{entry_row}
use Rattle.mx_lookups.proofs.NumbersProofs.AnyLemmas.{any_so}
use Rattle.mx_lookups.proofs.NumbersProofs.ReadLemmas.{told}
use Rattle.mx_apply.proofs.MadeProofs.MadeLemmas.{next_number}
use Rattle.mx_apply.proofs.made.numbers.entry_of_command.Goals as goal

pub returns-clause-reads : goal.returns-clause-reads
returns-clause-reads g c = told _ _ _ _ _ _ (λ book b is. c.entry_row.ensures.row ∙ ap (λ n. entry_row n c.args.command.now) (next_number book c.in_ok-count.count _ b is c.saturating_add.ensures)) c.in_ok-count.ensures.looks_up.reads

pub returns-clause-any_rows : goal.returns-clause-any_rows
returns-clause-any_rows g c =
    any_so _ _ _ _ _ _ (λ trees gave. (c.in_ok-count.count, gave, c.entry_row.ensures.row ∙ ap (λ n. entry_row n c.args.command.now) c.saturating_add.ensures)) c.in_ok-count.ensures.looks_up.any_rows
