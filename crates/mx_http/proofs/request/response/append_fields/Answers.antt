use Rattle.std.proofs.Common.{codes}
use Rattle.std.proofs.lemmas.Result.{IfOk-equal}
use Rattle.mx_http.specs.request.Response.{line, length_line, allow_line}
use Rattle.mx_http.proofs.RequestProofs.ResponseLemmas.{four_in_turn}
use Rattle.mx_http.proofs.request.response.append_fields.Goals as goal

pub returns : goal.returns
returns c =
    IfOk-equal c.append_allowed.result _ _ _ c.append_allowed.ensures
    (four_in_turn c.args.out.now.items c.append_line.new.out.items c.append_length.new.out.items c.append_line-2.new.out.items
    (line (codes "Content-Type: text/plain")) (length_line c.args.length) (line (codes "Connection: close")) (allow_line c.args.allowed)
    c.in_ok-append_line.ensures c.in_ok-append_length.ensures c.in_ok-append_line-2.ensures)
