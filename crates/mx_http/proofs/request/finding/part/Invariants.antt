use Rattle.std.proofs.Common.{◌≡◌}
use denote.Text.{Utf8}
use denote.Shadow.{shadow}
use Rattle.mx_http.specs.request.Routes.{part}
use Rattle.mx_http.proofs.request.finding.part.Given as goal

abbrev pub invariant-loop-left : goal.invariant-loop-left
invariant-loop-left l = shadow (Utf8 l.rest) × (part l.n l.path ≡ part l.left l.rest)

abbrev pub decreases-loop-left : goal.decreases-loop-left
decreases-loop-left l = l.left
