use Rattle.std.proofs.Common.{◌-◌, vec_len}
use Rattle.mx_http.proofs.RequestProofs.BodyLemmas.{IsBegun}
use Rattle.mx_http.proofs.request.body.read_body.Given as goal

abbrev pub invariant-loop-body : goal.invariant-loop-body
invariant-loop-body g l = IsBegun (g.R.Read.remaining l.fn.reader) (g.R.Read.remaining l.reader) l.begun l.length l.body.items

abbrev pub decreases-loop-body : goal.decreases-loop-body
decreases-loop-body g l = l.length - vec_len l.body
