use Rattle.mx_apply.proofs.WritingProofs.EnterLemmas.{enter}
use Rattle.mx_apply.proofs.writing.laws.commands_enter.Goals as goal

pub returns : goal.returns
returns c book command rows due b new shape = enter book command rows due b new shape
