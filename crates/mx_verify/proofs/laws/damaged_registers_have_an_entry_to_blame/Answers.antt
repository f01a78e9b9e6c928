use Rattle.std.proofs.Common.{[]}
use Rattle.mx_verify.proofs.MergedProofs.BlameLemmas.{blamed_damaged, damaged_blamed}
use Rattle.mx_verify.proofs.laws.damaged_registers_have_an_entry_to_blame.Goals as goal

pub returns : goal.returns
returns c = λ entries rest kind. (damaged_blamed [] entries rest kind, blamed_damaged [] entries rest kind)
