use Rattle.std.proofs.Common.{◌∙◌, ap}
use Rattle.mx_registers.specs.Names.{or_zero}
use Rattle.mx_lookups.proofs.NumbersProofs.AnyLemmas.{any_so}
use Rattle.mx_lookups.proofs.NumbersProofs.ReadLemmas.{told}
use Rattle.mx_apply.proofs.made.numbers.number_of_component.Goals as goal

pub returns-clause-reads : goal.returns-clause-reads
returns-clause-reads g c = told _ _ _ _ _ _ (λ book b is. c.or_zero.ensures ∙ ap or_zero is) c.in_ok-found.ensures.looks_up.now.reads

pub returns-clause-any_rows : goal.returns-clause-any_rows
returns-clause-any_rows g c = any_so _ _ _ _ _ _ (λ trees gave. (c.in_ok-found.found, gave, c.or_zero.ensures)) c.in_ok-found.ensures.looks_up.now.any_rows
