-- What is printed of a file whose tables are verified, and how the word ends.
use Rattle.std.specs.Prelude.{◌≡◌, ℕ, List, ◌++◌, Bool, true, false, Result, Ok, Err, codes}
use Rattle.mx_faults.specs.declared.fault.Fault.{Fault}
use Rattle.mx_output.specs.declared.endings.ending.Ending.{Ending}
use Rattle.mx_output.specs.declared.endings.ending.Ending.TheVariants.{Done, Differs}
use Rattle.mx_output.specs.declared.endings.ending.Stop.{Stop}
use Rattle.mx_output.specs.declared.endings.ending.Stop.TheVariants as stop

-- the line that says whether the tables of a file are those of a book
abbrev pub verified_line : Bool → List ℕ
verified_line true = codes "verified\n"
verified_line false = codes "differs\n"

-- how the word ends by that
abbrev pub verified_ending : Bool → Ending
verified_ending true = Done
verified_ending false = Differs

-- the text is one of these lines, and the ending is its
abbrev pub IsVerifiedLine : List ℕ → Ending → Type 0
IsVerifiedLine text ending = (same : Bool) × (text ≡ verified_line same) × (ending ≡ verified_ending same)

-- What was appended of this answer of an office: its line, and the ending says which; nothing where a fault stopped the answer, or memory ran out for the line.
abbrev pub PrintsVerified : List ℕ → List ℕ → Result Ending Stop → Result Bool Fault → Type 0
PrintsVerified old new (Ok ending) (Ok same) = (new ≡ old ++ verified_line same) × (ending ≡ verified_ending same)
PrintsVerified old new (Ok ending) (Err fault) = ⊥
PrintsVerified old new (Err (stop.Office fault)) answer = (answer ≡ Err fault) × (new ≡ old)
PrintsVerified old new (Err stop.Print) (Ok same) = new ≡ old
PrintsVerified old new (Err stop.Print) (Err fault) = ⊥
PrintsVerified old new (Err _) answer = ⊥
