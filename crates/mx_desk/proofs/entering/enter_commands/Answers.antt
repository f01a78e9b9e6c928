use Rattle.std.proofs.Common.{◌≡◌, subst, List, IfOk}
use Rattle.http.specs.Response.{body_of, head_of}
use Rattle.mx_book.specs.declared.verdict.Reply.{Reply}
use Rattle.mx_http.specs.responses.Answer.{replies_answer}
use Rattle.mx_desk.proofs.entering.enter_commands.Goals as goal

pub returns-clause-ran : goal.returns-clause-ran
returns-clause-ran g c = (
  c.run-outcomes.result.replies.items,
  c.run-outcomes.result.stopped,
  c.run-outcomes.ensures,
  subst (λ (said : List Reply). IfOk c.replies_response.result (λ r. ((head_of r).status, (body_of r).items) ≡ replies_answer said c.run-outcomes.result.stopped)) c.deref.ensures.value c.replies_response.ensures.answer,
)
