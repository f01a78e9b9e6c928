-- What is known of the lines of a release, and the rows that are made of it.
use Rattle.std.specs.Prelude.{⊤, ◌≡◌, ℕ, List, [], ◌∷◌, Option, Some, None}
use Rattle.mx_book.specs.commands.Act.{Entry}
use Rattle.mx_book.specs.declared.commands.release.Line.{Line}
use Rattle.mx_book.specs.declared.commands.release.Line.TheVariants as lines
use Rattle.mx_book.specs.declared.commands.release.Release.{Release}
use Rattle.mx_book.specs.due.Due.{IsLife, base_done}
use Rattle.mx_book.specs.Life.{life_now, use_or_none}
use Rattle.mx_registers.specs.Names.{or_zero, seq_of_defect}
use Rattle.mx_base.specs.rows.Rows.{base_row_with}
use Rattle.mx_base.specs.declared.rows.rows.BaseRow.{BaseRow}
use Rattle.mx_base.specs.declared.rows.rows.ReleaseLineRow.{ReleaseLineRow}
use Rattle.mx_registers.specs.kept.Changes.{due_at}
use Rattle.mx_registers.specs.kept.Items.{number_of_item}
use Rattle.mx_row_rules.specs.declared.changes.releases.Certified.{Certified}
use Rattle.mx_row_rules.specs.declared.changes.releases.Certified.TheVariants.{Done, Rectified}

-- the row of a line, on this line of the release of the entry with a number
abbrev pub line_made : ℕ → ℕ → Certified → ReleaseLineRow
line_made seq line (Done item task reached due) = record { seq = seq; line = line; item = Some item; task = Some task; defect = None }
line_made seq line (Rectified defect) = record { seq = seq; line = line; item = None; task = None; defect = Some defect }

-- the last base that a line sets on a day
abbrev pub base_made : ℕ → Certified → Option BaseRow
base_made day (Done item task reached due) = Some (base_row_with item task (base_done reached day due))
base_made day (Rectified defect) = None

-- the life that is reached is one that an item may have
abbrev pub HasLifeReached : Certified → Type 0
HasLifeReached (Done item task reached due) = IsLife reached
HasLifeReached (Rectified defect) = ⊤

-- this is known of the line: the number of its item, the life of that now, and when the task is due; or the number of its defect
abbrev pub IsKnownOf : List Entry → Release → Line → Certified → Type 0
IsKnownOf book r (lines.Done item task) (Done number id reached due) =
    (number ≡ number_of_item book item) × (id ≡ task) × (reached ≡ use_or_none (life_now book item)) × (due ≡ due_at book r.place item task)
IsKnownOf book r (lines.Rectified doc) (Rectified number) = number ≡ or_zero (seq_of_defect book doc)
IsKnownOf book r _ _ = ⊥

-- these are known of the lines, one after another
abbrev pub AreKnownOf : List Entry → Release → List Line → List Certified → Type 0
AreKnownOf book r [] [] = ⊤
AreKnownOf book r (line ∷ lines) (known ∷ more) = IsKnownOf book r line known × AreKnownOf book r lines more
AreKnownOf book r _ _ = ⊥
