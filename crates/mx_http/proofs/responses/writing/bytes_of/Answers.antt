use Rattle.std.proofs.Common.{◌≡◌, ◌∙◌, ap, ℕ, List, None}
use Rattle.http.specs.Response.{body_of, head_of}
use Rattle.mx_http.specs.request.Response.{response_bytes}
use Rattle.mx_http.proofs.ResponsesProofs.WritingLemmas.{ok_and}
use Rattle.mx_http.proofs.responses.writing.bytes_of.Goals as goal

pub returns-in_ok-response_bytes-in-Ok-clause-bytes :
    goal.returns-in_ok-response_bytes-in-Ok-clause-bytes
returns-in_ok-response_bytes-in-Ok-clause-bytes c =
    let made = c.in_ok-response_bytes-in-Ok in
    ok_and c.args.answered c.in-Ok.response (λ r. made.field-0.items ≡ response_bytes (head_of r).status None (body_of r).items) c.in-Ok.is
    (made.ensures
    ∙ ap (λ (status : ℕ). response_bytes status None c.deref.result.now) c.status.ensures
    ∙ ap (λ (body : List ℕ). response_bytes (head_of c.in-Ok.response).status None body) (c.deref.ensures.value ∙ ap (λ v. v.items) c.body.ensures))
