use Rattle.std.proofs.Common.{◌∙◌, rules}
use Rattle.mx_intake.proofs.ObjectLemmas.{has_other-as_object}
use Rattle.mx_intake.proofs.object.has_other.Goals as goal

pub loop-key-init : goal.loop-key-init
loop-key-init c = has_other-as_object _ _ c.in-Some.members.now.entries _ (search rules) (c.into_iter-key-iterator.ensures.into_iter_gives ∙ c.keys-key-items.ensures.rest)
