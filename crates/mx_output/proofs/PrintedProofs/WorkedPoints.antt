-- What is printed of a file that is moved, computed from the definitions.
use Rattle.std.proofs.Common.{refl, ◌≡◌, [], ◌∷◌}
use Rattle.std.specs.Prelude.{codes}
use Rattle.std.specs.Fmt.{digits}
use Rattle.std.specs.List.{flat_map}
use Rattle.mx_output.specs.printed.Moved.{point_line}

-- a file where no move has begun, and one whose sectors are moved up to that of entry 67
points : flat_map point_line (record { layout = 2; step = 0; mark = 0 } ∷ record { layout = 1; step = 1; mark = 67 } ∷ []) ≡ codes "point 2 0 0\npoint 1 1 67\n"
unfolding digits
points = refl
