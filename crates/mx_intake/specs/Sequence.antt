-- What the entries of a list give: all of them, or the fault of the first faulty one.
use Rattle.std.specs.Prelude.{ℕ, List, [], ◌∷◌, ◌++◌, Result, Ok, Err}
use Rattle.mx_intake.specs.declared.fault.IntakeFault.{IntakeFault}
use Rattle.mx_intake.specs.Fault.{fault}

-- these, and then those
abbrev pub after : {A : Type 0} → List A → Result (List A) IntakeFault → Result (List A) IntakeFault
after first (Ok rest) = Ok (first ++ rest)
after first (Err f) = Err f

-- what entry `place` gives, and what the entries behind it give: its fault is found before theirs
abbrev pub given_before : {A : Type 0} → ℕ → Result A ℕ → Result (List A) IntakeFault → Result (List A) IntakeFault
given_before place (Ok a) rest = after (a ∷ []) rest
given_before place (Err which) rest = Err (fault which place)
