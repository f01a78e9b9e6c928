use Rattle.mx_http.proofs.RequestProofs.AskedLemmas.{asks_for_one}
use Rattle.mx_http.proofs.request.laws.a_head_asks_for_one.Goals as goal

pub returns : goal.returns
returns c = asks_for_one
