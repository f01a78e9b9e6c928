use Rattle.std.proofs.Common.{rules, append_assoc}
use Rattle.std.proofs.lemmas.Result.{IfOk-equal}
use Rattle.mx_http.proofs.request.response.append_status_line.Goals as goal

pub returns : goal.returns
returns c = search (rules, IfOk-equal, append_assoc)
