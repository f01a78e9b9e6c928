use Rattle.std.proofs.Common.{◌≡◌, ◌∙◌, sym, ap, refl, subst, take, drop, length, ◌-◌, ◌++◌, ℕ, Result, Ok, Err, IfOk, Some, inl}
use Rattle.std.specs.Option.{option_map}
use Rattle.http.specs.Response.{body_of, head_of}
use Rattle.sqlite.specs.Held.{state}
use Rattle.mx_http.specs.request.Asked.{AsksFor, as_asked}
use Rattle.mx_http.specs.request.Body.{whole_body}
use Rattle.mx_http.specs.request.Routes.{asked}
use Rattle.mx_http.specs.declared.request.rejection.Rejection.{Rejection}
use Rattle.mx_http.specs.declared.request.routes.Route.{Route}
use Rattle.mx_http.specs.responses.Request.{request_of}
use Rattle.mx_http.proofs.ResponsesProofs.WritingLemmas.{all_behind}
use Rattle.mx_desk.proofs.ServedLemmas.{left_here}
use Rattle.mx_desk.proofs.ServeLemmas.{a_body, no_body, on_err, rejected_answers, request_answers, request_stopped}
use Rattle.mx_desk.proofs.TakenLemmas.{front_asked, front_rejected, on_ok, takes_none}
use Rattle.mx_desk.proofs.serve.answer_request.Goals as goal

-- ── no head ──

pub returns-in-Err-clause-answered : goal.returns-in-Err-clause-answered
returns-in-Err-clause-answered g c = λ input rest known whole cut.
    rejected_answers c.args.office.now c.args.office.now input c.in-Err.why c.reject.result (λ text. text.items) (sym cut ∙ sym c.in-Err.ensures.exact) refl c.reject.ensures.bytes

pub returns-in-Err-clause-takes : goal.returns-in-Err-clause-takes
returns-in-Err-clause-takes g c = on_ok c.reject.result _ (front_rejected c.args.front.now c.in-Err.why _ c.in-Err.ensures.exact)

pub returns-in-Err-clause-crash : goal.returns-in-Err-clause-crash
returns-in-Err-clause-crash g c = λ book rests. left_here book (state g.S.Store c.args.office.now.conn) rests

-- ── a head that is rejected ──

pub returns-in-Ok-Err-clause-answered : goal.returns-in-Ok-Err-clause-answered
returns-in-Ok-Err-clause-answered g c = λ input rest known whole cut.
    let front = c.args.front.now in
    let n = c.in-Ok.end in
    request_answers c.args.office.now c.args.office.now input front rest (drop n front) n (Err c.in-Ok-Err.why) c.reject-in-Ok-Err.result (λ text. text.items) whole (sym cut ∙ sym c.in-Ok.ensures.exact) c.in-Ok.ensures.within refl
    (subst (λ (said : Result (Route × ℕ) Rejection). AsksFor (take n front) (as_asked said)) c.in-Ok-Err.field-0-is c.in-Ok-Err.ensures) (inl (refl, c.reject-in-Ok-Err.ensures.bytes))

pub returns-in-Ok-Err-clause-takes : goal.returns-in-Ok-Err-clause-takes
returns-in-Ok-Err-clause-takes g c =
    let front = c.args.front.now in
    let n = c.in-Ok.end in
    on_ok c.reject-in-Ok-Err.result _ (front_asked front (drop n front) n _ _ c.in-Ok.ensures.exact refl
    (Err c.in-Ok-Err.why, subst (λ (said : Result (Route × ℕ) Rejection). AsksFor (take n front) (as_asked said)) c.in-Ok-Err.field-0-is c.in-Ok-Err.ensures, takes_none _))

pub returns-in-Ok-Err-clause-crash : goal.returns-in-Ok-Err-clause-crash
returns-in-Ok-Err-clause-crash g c = λ book rests. left_here book (state g.S.Store c.args.office.now.conn) rests

pub returns-in-Err-asked_of-clause-crash : goal.returns-in-Err-asked_of-clause-crash
returns-in-Err-asked_of-clause-crash g c = λ book rests. left_here book (state g.S.Store c.args.office.now.conn) rests

-- ── a body ──

pub returns-in-Ok-Some-clause-answered : goal.returns-in-Ok-Some-clause-answered
returns-in-Ok-Some-clause-answered g c = λ input rest known whole cut.
    let front = c.args.front.now in
    let n = c.in-Ok.end in
    let begun = take (length front - n) (drop n front) in
    let route = asked c.in-Ok-Ok.asked.0 in
    request_answers c.args.office.now c.route_response.new.office input front rest begun n (Ok (route, c.in-Ok-Ok.asked.1)) c.bytes_of.result (λ text. text.items) whole (sym cut ∙ sym c.in-Ok.ensures.exact) c.in-Ok.ensures.within (all_behind n front)
    (subst (λ (said : Result (Route × ℕ) Rejection). AsksFor (take n front) (as_asked said)) c.in-Ok-Ok.field-0-is c.in-Ok-Ok.ensures)
    (a_body c.args.office.now c.route_response.new.office route c.deref.result.now c.route_response.result (λ r. ((head_of r).status, (body_of r).items)) c.bytes_of.result (λ text. text.items)
    (whole_body c.in-Ok-Ok.asked.1 (begun ++ rest)) (sym (c.in-Ok-Some.ensures.body rest known) ∙ ap (option_map (λ v. v.items)) c.in-Ok-Some.field-0-is ∙ sym (ap Some c.deref.ensures.value))
    c.route_response.ensures.answered c.bytes_of.ensures.bytes)

pub returns-in-Ok-Some-clause-stopped : goal.returns-in-Ok-Some-clause-stopped
returns-in-Ok-Some-clause-stopped g c = λ input rest known whole cut.
    let front = c.args.front.now in
    let n = c.in-Ok.end in
    let begun = take (length front - n) (drop n front) in
    let route = asked c.in-Ok-Ok.asked.0 in
    on_err c.bytes_of.result _ (request_stopped c.args.office.now c.route_response.new.office input front rest begun n (Ok (route, c.in-Ok-Ok.asked.1)) c.bytes_of.result (λ text. text.items) whole (sym cut ∙ sym c.in-Ok.ensures.exact) c.in-Ok.ensures.within (all_behind n front)
    (subst (λ (said : Result (Route × ℕ) Rejection). AsksFor (take n front) (as_asked said)) c.in-Ok-Ok.field-0-is c.in-Ok-Ok.ensures)
    (a_body c.args.office.now c.route_response.new.office route c.deref.result.now c.route_response.result (λ r. ((head_of r).status, (body_of r).items)) c.bytes_of.result (λ text. text.items)
    (whole_body c.in-Ok-Ok.asked.1 (begun ++ rest)) (sym (c.in-Ok-Some.ensures.body rest known) ∙ ap (option_map (λ v. v.items)) c.in-Ok-Some.field-0-is ∙ sym (ap Some c.deref.ensures.value))
    c.route_response.ensures.answered c.bytes_of.ensures.bytes))

pub returns-in-Ok-Some-clause-takes : goal.returns-in-Ok-Some-clause-takes
returns-in-Ok-Some-clause-takes g c =
    let front = c.args.front.now in
    let n = c.in-Ok.end in
    on_ok c.bytes_of.result _ (front_asked front (take (length front - n) (drop n front)) n _ _ c.in-Ok.ensures.exact (all_behind n front)
    (Ok (asked c.in-Ok-Ok.asked.0, c.in-Ok-Ok.asked.1), subst (λ (said : Result (Route × ℕ) Rejection). AsksFor (take n front) (as_asked said)) c.in-Ok-Ok.field-0-is c.in-Ok-Ok.ensures, c.in-Ok-Some.ensures.takes))

pub returns-in-Ok-Some-clause-crash : goal.returns-in-Ok-Some-clause-crash
returns-in-Ok-Some-clause-crash g c = λ book rests.
    let left = c.route_response.ensures.crash book rests in
    (request_of (asked c.in-Ok-Ok.asked.0) c.deref.result.now, left.0, left.1)

-- ── no body ──

pub returns-in-Ok-None-clause-answered : goal.returns-in-Ok-None-clause-answered
returns-in-Ok-None-clause-answered g c = λ input rest known whole cut.
    let front = c.args.front.now in
    let n = c.in-Ok.end in
    let begun = take (length front - n) (drop n front) in
    let route = asked c.in-Ok-Ok.asked.0 in
    request_answers c.args.office.now c.args.office.now input front rest begun n (Ok (route, c.in-Ok-Ok.asked.1)) c.reject-in-Ok-None.result (λ text. text.items) whole (sym cut ∙ sym c.in-Ok.ensures.exact) c.in-Ok.ensures.within (all_behind n front)
    (subst (λ (said : Result (Route × ℕ) Rejection). AsksFor (take n front) (as_asked said)) c.in-Ok-Ok.field-0-is c.in-Ok-Ok.ensures)
    (no_body c.args.office.now c.args.office.now route (whole_body c.in-Ok-Ok.asked.1 (begun ++ rest)) (λ bytes. IfOk c.reject-in-Ok-None.result (λ text. text.items ≡ bytes))
    (sym (c.in-Ok-None.ensures.body rest known) ∙ ap (option_map (λ v. v.items)) c.in-Ok-None.field-0-is) refl c.reject-in-Ok-None.ensures.bytes)

pub returns-in-Ok-None-clause-takes : goal.returns-in-Ok-None-clause-takes
returns-in-Ok-None-clause-takes g c =
    let front = c.args.front.now in
    let n = c.in-Ok.end in
    on_ok c.reject-in-Ok-None.result _ (front_asked front (take (length front - n) (drop n front)) n _ _ c.in-Ok.ensures.exact (all_behind n front)
    (Ok (asked c.in-Ok-Ok.asked.0, c.in-Ok-Ok.asked.1), subst (λ (said : Result (Route × ℕ) Rejection). AsksFor (take n front) (as_asked said)) c.in-Ok-Ok.field-0-is c.in-Ok-Ok.ensures, c.in-Ok-None.ensures.takes))

pub returns-in-Ok-None-clause-crash : goal.returns-in-Ok-None-clause-crash
returns-in-Ok-None-clause-crash g c = λ book rests. left_here book (state g.S.Store c.args.office.now.conn) rests

pub returns-in-Err-read_body-clause-crash : goal.returns-in-Err-read_body-clause-crash
returns-in-Err-read_body-clause-crash g c = λ book rests. left_here book (state g.S.Store c.args.office.now.conn) rests
