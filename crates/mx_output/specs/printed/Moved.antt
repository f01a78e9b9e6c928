-- What is printed of a file that is moved to the newest layout, and how the word ends.
use Rattle.std.specs.Prelude.{◌≡◌, ℕ, List, [], ◌∷◌, ◌++◌, Result, Ok, Err, codes}
use Rattle.std.specs.Fmt.{decimal}
use Rattle.mx_base.specs.declared.point.Point.{Point}
use Rattle.mx_faults.specs.declared.moving.MoveFault.{MoveFault}
use Rattle.mx_reports.specs.Words.{spaced}
use Rattle.mx_output.specs.declared.endings.ending.Ending.{Ending}
use Rattle.mx_output.specs.declared.endings.ending.Ending.TheVariants.{Done}
use Rattle.mx_output.specs.declared.endings.ending.Stop.{Stop}
use Rattle.mx_output.specs.declared.endings.ending.Stop.TheVariants.{Move, Print}

-- point LAYOUT STEP MARK
abbrev pub point_line : Point → List ℕ
point_line at = codes "point" ++ (spaced (decimal at.layout) ++ (spaced (decimal at.step) ++ (spaced (decimal at.mark) ++ 10 ∷ [])))

-- the text is the line of a point, and all was done
abbrev pub IsPointLine : List ℕ → Ending → Type 0
IsPointLine text ending = (at : Point) × (text ≡ point_line at) × (ending ≡ Done)

-- What was appended of this answer of a move: the line of the point that the file is at; nothing where a fault stopped the move, or memory ran out for the line.
abbrev pub PrintsPoint : List ℕ → List ℕ → Result Ending Stop → Result Point MoveFault → Type 0
PrintsPoint old new (Ok ending) (Ok at) = (new ≡ old ++ point_line at) × (ending ≡ Done)
PrintsPoint old new (Ok ending) (Err why) = ⊥
PrintsPoint old new (Err (Move fault)) (Ok at) = ⊥
PrintsPoint old new (Err (Move fault)) (Err why) = (fault ≡ why) × (new ≡ old)
PrintsPoint old new (Err Print) (Ok at) = new ≡ old
PrintsPoint old new (Err Print) (Err why) = ⊥
PrintsPoint old new (Err _) answer = ⊥
