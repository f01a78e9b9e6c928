-- Worked examples: the rows that the tables have of an aircraft with two deferred defects, one of them extended, the other rectified.
use Rattle.std.proofs.Common.{refl, ◌≡◌, ℕ, pos, List, [], ◌∷◌}
use Rattle.std.specs.Prelude.{codes}
use Rattle.sqlite.specs.declared.types.Value.{Value}
use Rattle.sqlite.specs.declared.types.Value.TheVariants.{Int, Null, Text}
use Rattle.mx_book.specs.commands.Act.{Act, Entry, Released, Deferred, Extended}
use Rattle.mx_base.specs.declared.category.Category.{Category}
use Rattle.mx_base.specs.declared.category.Category.TheVariants.{A, D}
use Rattle.mx_book.specs.declared.commands.release.Line.TheVariants.{Rectified}
use Rattle.mx_book.specs.declared.commands.release.Place.TheVariants as place
use Rattle.mx_book.proofs.Worked.{at, abcd, logged}
use Rattle.mx_book.proofs.WorkedFittings.{first_aircraft}
use Rattle.mx_layout.specs.declared.fault.Table.TheVariants.{Entry as Entries, Defect, Extension, Crs, CrsLine}
use Rattle.mx_book_tables.specs.stands.Family.{rows_given}
use Rattle.mx_office.specs.Layout.{office_point}

abbrev number : ℕ → Value
number n = Int (pos n)

abbrev deferred : ℕ → List ℕ → Category → Act
deferred moment reference category = Deferred (record { tail = abcd; moment = moment; reference = reference; category = category })

-- found on 2024-03-02 at 10:00, where the list states 5 days, and on 2024-03-03 at 08:00, within 120 days; the second is extended by 3 days on 2024-03-04, and the first rectified
abbrev defects : List Entry
defects = first_aircraft ∷ logged (codes "D1") (deferred (at 19784 10 0) (codes "34-11-1") (A 5)) ∷ logged (codes "D2") (deferred (at 19785 8 0) (codes "21-60-1") D)
    ∷ logged (codes "X1") (Extended (record { defect = codes "D2"; day = 19786; days = 3 }))
    ∷ logged (codes "WO1") (Released (record { place = place.Aircraft abcd; moment = at 19786 12 0 }) (Rectified (codes "D1") ∷ [])) ∷ []

five_entries : rows_given office_point defects Entries
    ≡ (number 1 ∷ Text (codes "A1") ∷ number 1 ∷ []) ∷ (number 2 ∷ Text (codes "D1") ∷ number 9 ∷ []) ∷ (number 3 ∷ Text (codes "D2") ∷ number 9 ∷ [])
    ∷ (number 4 ∷ Text (codes "X1") ∷ number 10 ∷ []) ∷ (number 5 ∷ Text (codes "WO1") ∷ number 8 ∷ []) ∷ []
five_entries = refl

-- a category that states no days has none
two_defects : rows_given office_point defects Defect
    ≡ (number 2 ∷ number 1 ∷ number 28489560 ∷ Text (codes "34-11-1") ∷ number 1 ∷ number 5 ∷ []) ∷ (number 3 ∷ number 1 ∷ number 28490880 ∷ Text (codes "21-60-1") ∷ number 4 ∷ Null ∷ []) ∷ []
two_defects = refl

one_extension : rows_given office_point defects Extension ≡ (number 4 ∷ number 3 ∷ number 19786 ∷ number 3 ∷ []) ∷ []
one_extension = refl

one_release : rows_given office_point defects Crs ≡ (number 5 ∷ number 1 ∷ Null ∷ number 28492560 ∷ []) ∷ []
one_release = refl

-- the line has the number of the entry that deferred its defect
one_line : rows_given office_point defects CrsLine ≡ (number 5 ∷ number 1 ∷ Null ∷ Null ∷ number 2 ∷ []) ∷ []
one_line = refl
