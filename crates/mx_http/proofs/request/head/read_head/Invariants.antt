use Rattle.std.proofs.Common.{◌≤◌, ◌-◌, vec_len}
use Rattle.std.specs.Io.KnownBytes.{Consumes}
use Rattle.mx_http.specs.request.Head.{HasNoHeadBefore}
use Rattle.mx_http.specs.declared.request.input.TheConstants.{CHUNK}
use Rattle.mx_http.specs.declared.request.head.TheConstants.{MOST_HEAD}
use Rattle.mx_http.proofs.request.head.read_head.Given as goal

abbrev pub invariant-loop-bytes : goal.invariant-loop-bytes
invariant-loop-bytes g l =
    (vec_len l.bytes ≤ MOST_HEAD)
    × Consumes (g.R.Read.remaining l.fn.reader) (g.R.Read.remaining l.reader) l.bytes.items
    × HasNoHeadBefore CHUNK l.bytes.items

abbrev pub decreases-loop-bytes : goal.decreases-loop-bytes
decreases-loop-bytes g l = MOST_HEAD - vec_len l.bytes
