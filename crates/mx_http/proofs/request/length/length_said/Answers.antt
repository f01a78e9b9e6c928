use Rattle.std.proofs.Common.{◌∙◌, arith, sym}
use Rattle.std.proofs.lemmas.Grind.{common_steps}
use Rattle.mx_http.proofs.RequestProofs.LengthLemmas.{too_large}
use Rattle.mx_http.proofs.request.length.length_said.Goals as goal

pub returns-then-number-gt-MOST_BODY : goal.returns-then-number-gt-MOST_BODY
returns-then-number-gt-MOST_BODY c =
    too_large c.args.text.now c.in-Some.later.now _ (sym c.is_number.ensures ∙ c.if-not-is_number.false) (grind (arith, common_steps)) c.if-number-gt-MOST_BODY.true
