use Rattle.std.proofs.Common.{◌∙◌, Err, ap, subst, sym}
use Rattle.http_header.specs.Token.{IsToken}
use Rattle.mx_http.proofs.RequestProofs.AskedLemmas.{is_rejected, method_is_token}
use Rattle.mx_http.proofs.request.asked.asked_of.Goals as goal

pub returns-in-Err-Invalid : goal.returns-in-Err-Invalid
returns-in-Err-Invalid c =
    let token = method_is_token c.args.head.now c.parts_of.new.headers c.in-Some.parts c.in-Some.ensures.readable in
    absurd (c.in-Err-Invalid.ensures.invalid.0 (ap Err c.in-Err-Invalid.field-0-is) (subst IsToken (sym c.of.ensures) token))

pub returns-in-Err : goal.returns-in-Err
returns-in-Err c =
    is_rejected c.args.head.now c.parts_of.new.headers c.in-Some.parts c.in-Some.ensures.readable
    c.in-Ok.method c.in-Ok-from_utf8.target.now c.in-Err.why c.in_ok-rejected-in-Err.field-0
    (c.in-Ok.ensures.ok ∙ c.of.ensures) (c.in-Ok-from_utf8.ensures.cases.0 ∙ c.of-2.ensures)
    (c.in-Err.ensures.err c.in_ok-rejected-in-Err.ensures.0) c.in_ok-rejected-in-Err.ensures.1
