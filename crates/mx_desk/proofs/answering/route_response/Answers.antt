use Rattle.http.specs.Response.{body_of, head_of}
use Rattle.mx_http.specs.responses.Request.{request_of}
use Rattle.mx_desk.proofs.ServedLemmas.{leaves, serves_result, stays}
use Rattle.mx_http.specs.request.Routes.{asked}
use Rattle.mx_desk.proofs.answering.route_response.Goals as goal

pub returns-clause-served : goal.returns-clause-served
returns-clause-served g c = λ book rests clean.
    serves_result book c.args.office.now c.ask_office.new.office rests clean (request_of (asked c.args.route.now) c.args.body.now) c.ask_office.result (λ r. ((head_of r).status, (body_of r).items)) c.ask_office.ensures.answered

pub returns-clause-crash : goal.returns-clause-crash
returns-clause-crash g c = λ book rests.
    leaves book c.args.office.now c.ask_office.new.office rests (request_of (asked c.args.route.now) c.args.body.now) _ c.ask_office.ensures.answered

pub returns-clause-kept : goal.returns-clause-kept
returns-clause-kept g c = λ book rests ready.
    stays book c.args.office.now c.ask_office.new.office rests (request_of (asked c.args.route.now) c.args.body.now) _ ready c.ask_office.ensures.answered
