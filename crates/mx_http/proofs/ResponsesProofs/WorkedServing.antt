-- What is printed where connections were served, computed from the definition.
use Rattle.std.proofs.Common.{refl, ◌≡◌}
use Rattle.std.specs.Prelude.{codes}
use Rattle.std.specs.Fmt.{digits}
use Rattle.mx_http.specs.responses.Serving.{served_line}

one : served_line 1 ≡ codes "served 1\n"
unfolding digits
one = refl

many : served_line 1000000 ≡ codes "served 1000000\n"
unfolding digits
many = refl
