-- What is printed of a file that is verified, computed from the definitions.
use Rattle.std.proofs.Common.{refl, ◌≡◌, [], ◌∷◌, true, false, map}
use Rattle.std.specs.Prelude.{codes}
use Rattle.std.specs.List.{flat_map}
use Rattle.mx_output.specs.endings.Status.{ending_status}
use Rattle.mx_output.specs.printed.Verified.{verified_ending, verified_line}

verified : flat_map verified_line (true ∷ false ∷ []) ≡ codes "verified\ndiffers\n"
verified = refl

statuses_of_verified : map (λ same. ending_status (verified_ending same)) (true ∷ false ∷ []) ≡ 0 ∷ 4 ∷ []
statuses_of_verified = refl
