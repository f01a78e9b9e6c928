use Rattle.std.proofs.Common.{ap, arith, sym}
use Rattle.std.proofs.lemmas.Grind.{common_steps}
use Rattle.std.proofs.lemmas.Result.{IfErr-weaker, IfOk-weaker}
use Rattle.mx_words.proofs.RunLemmas.{ends}
use Rattle.mx_words.proofs.run.answer_words.Goals as goal

pub returns : goal.returns
returns g c =
    let done = c.perform-done in
    let printed = c.print_done-2 in
    let all = ends _ _ _ done.result printed.result.is_whole printed.result.status _ _ _ printed.ensures.status printed.ensures.printed printed.ensures.cut c.new-text.ensures.items c.deref.ensures.value
    (IfOk-weaker done.result _ _ (λ ending shows. (_, sym c.in-Some.ensures, shows)) done.ensures.done) (IfErr-weaker done.result _ _ (λ stop same two. ap (λ v. v.items) (same two)) done.ensures.unprinted) done.ensures.unread in record {
      bound = grind (arith, common_steps);
      done = all.done;
      refused = all.refused;
      unasked = grind (arith, common_steps);
      unread_words = grind (arith, common_steps);
      quiet = grind (arith, common_steps);
      unprinted = all.unprinted;
      unread = all.unread;
    }
