-- Worked registers of deferred defects: their rows, and the book that rows give.
use Rattle.std.proofs.Common.{refl, ◌≡◌, ℕ, List, [], ◌∷◌, true, Some, None}
use Rattle.std.specs.Prelude.{codes, map, option_map}
use Rattle.std.specs.List.{list_all}
use Rattle.mx_book.specs.commands.Act.{Act, Entry, Released, Deferred, Extended}
use Rattle.mx_book.specs.commands.Shape.{has_shape}
use Rattle.mx_base.specs.declared.category.Category.{Category}
use Rattle.mx_base.specs.declared.category.Category.TheVariants.{A, B, C, D}
use Rattle.mx_book.specs.declared.commands.item.Item.TheVariants as items
use Rattle.mx_book.specs.declared.commands.release.Line.TheVariants.{Done, Rectified}
use Rattle.mx_book.specs.declared.commands.release.Place.TheVariants.{Aircraft}
use Rattle.mx_book.specs.Book.{is_book}
use Rattle.mx_book.proofs.Worked.{at, abcd, logged}
use Rattle.mx_book.proofs.WorkedFittings.{engine, propeller, first_aircraft}
use Rattle.mx_base.specs.declared.rows.rows.EntryKind.TheVariants as kinds
use Rattle.mx_base.specs.declared.rows.rows.EntryRow.{EntryRow}
use Rattle.mx_base.specs.declared.rows.rows.ReleaseLineRow.{ReleaseLineRow}
use Rattle.mx_base.specs.declared.rows.rows.DeferralRow.{DeferralRow}
use Rattle.mx_base.specs.declared.rows.rows.ExtensionRow.{ExtensionRow}
use Rattle.mx_base.specs.rows.Rows.{category_number, days_stated}
use Rattle.mx_registers.specs.Names.{seq_of_defect, defect_at}
use Rattle.mx_registers.specs.Registers.{entry_rows, release_line_rows}
use Rattle.mx_registers.specs.Merge.{Rest, line_said, merged}
use Rattle.mx_registers.proofs.MergeLemmas.{all_later}
use Rattle.mx_registers.proofs.Worked.{entry, first_aircraft_row, place, no_rows}
use Rattle.mx_registers.proofs.WorkedProgrammes.{hundred_hours, once, loaded, programme, hundred_hours_row, once_row}

-- ── the rows of a book: an aircraft, a programme, two deferred defects, the extension of one, and a release that rectifies the other ──

abbrev d1 : List ℕ
d1 = codes "D1"

abbrev d2 : List ℕ
d2 = codes "D2"

abbrev deferred : ℕ → List ℕ → Category → Act
deferred moment reference category = Deferred (record { tail = abcd; moment = moment; reference = reference; category = category })

-- found on 2024-03-02, where the item of the list states 5 days
abbrev stated : Act
stated = deferred (at 19784 10 0) (codes "34-11-1") (A 5)

-- found on 2024-03-03, to be rectified within 3 days
abbrev within_three : Act
within_three = deferred (at 19785 8 0) (codes "21-60-1") B

-- on 2024-03-04, by 3 days
abbrev extended : Act
extended = Extended (record { defect = d2; day = 19786; days = 3 })

-- on 2024-03-04 at 12:00, an inspection of the airframe, and the first defect
abbrev released : Act
released = Released (record { place = Aircraft abcd; moment = at 19786 12 0 }) (Done (items.Airframe abcd) (codes "100H") ∷ Rectified d1 ∷ [])

abbrev defects : List Entry
defects = first_aircraft ∷ logged (codes "P1") (loaded 1 (hundred_hours ∷ once ∷ [])) ∷ logged d1 stated ∷ logged d2 within_three
    ∷ logged (codes "X1") extended ∷ logged (codes "WO1") released ∷ []

shapes : list_all has_shape defects ≡ true
shapes = refl

accepted : is_book defects ≡ true
accepted = refl

abbrev entries : List EntryRow
entries = entry 1 (codes "A1") kinds.AddAircraft ∷ entry 2 (codes "P1") kinds.LoadProgramme ∷ entry 3 (codes "D1") kinds.Defer ∷ entry 4 (codes "D2") kinds.Defer
    ∷ entry 5 (codes "X1") kinds.Extend ∷ entry 6 (codes "WO1") kinds.Release ∷ []

-- the first deferral, with this number for its aircraft
abbrev stated_row : ℕ → DeferralRow
stated_row aircraft = record { seq = 3; aircraft = aircraft; moment = at 19784 10 0; reference = codes "34-11-1"; category = A 5 }

abbrev within_three_row : DeferralRow
within_three_row = record { seq = 4; aircraft = 1; moment = at 19785 8 0; reference = codes "21-60-1"; category = B }

-- the extension, with this number for its defect
abbrev extended_row : ℕ → ExtensionRow
extended_row defect = record { seq = 5; defect = defect; day = 19786; days = 3 }

abbrev done_row : ReleaseLineRow
done_row = record { seq = 6; line = 1; item = Some 1; task = Some (codes "100H"); defect = None }

-- the second line of the release, with this number for its defect
abbrev rectified_row : ℕ → ReleaseLineRow
rectified_row defect = record { seq = 6; line = 2; item = None; task = None; defect = Some defect }

abbrev rows : Rest
rows = record no_rows {
  aircraft = first_aircraft_row ∷ [];
  places = place 1 1 engine (codes "IO360") ∷ place 1 2 propeller (codes "HC2") ∷ [];
  programmes = programme 2 1 ∷ [];
  tasks = record hundred_hours_row { seq = 2 } ∷ record once_row { seq = 2 } ∷ [];
  releases = record { seq = 6; item = 1; kind = None; moment = at 19786 12 0 } ∷ [];
  release_lines = done_row ∷ rectified_row 3 ∷ [];
  deferrals = stated_row 1 ∷ within_three_row ∷ [];
  extensions = extended_row 4 ∷ [];
}

entries_listed : entry_rows defects ≡ entries
entries_listed = refl

-- each deferral has the number of the entry that added its aircraft, and its category with the days that are stated; the extension, and a line without an item and a task, that of the entry that deferred its defect
registers_listed : all_later [] defects ≡ rows
registers_listed = refl

-- ── documents and numbers ──

-- a document by which no defect was deferred, and one that no entry has
numbers_of_defects : map (seq_of_defect defects) (d1 ∷ d2 ∷ codes "A1" ∷ codes "X1" ∷ codes "WO1" ∷ codes "D3" ∷ []) ≡ Some 3 ∷ Some 4 ∷ None ∷ None ∷ None ∷ None ∷ []
numbers_of_defects = refl

-- an entry that defers nothing, and numbers that no entry has
defects_of_numbers : map (defect_at defects) (3 ∷ 4 ∷ 1 ∷ 5 ∷ 6 ∷ 0 ∷ 7 ∷ []) ≡ Some d1 ∷ Some d2 ∷ None ∷ None ∷ None ∷ None ∷ None ∷ []
defects_of_numbers = refl

-- ── what rows say ──

-- a defect alone is a line, and so is an item with a task
lines_of_rows : map (line_said defects) (done_row ∷ rectified_row 3 ∷ rectified_row 4 ∷ []) ≡ Some (Done (items.Airframe abcd) (codes "100H")) ∷ Some (Rectified d1) ∷ Some (Rectified d2) ∷ []
lines_of_rows = refl

-- a defect beside an item, a task or both says nothing, and neither does a row with none of the three
mixed_rows : map (line_said defects) (record (rectified_row 3) { item = Some 1 } ∷ record (rectified_row 3) { task = Some (codes "100H") } ∷ record done_row { defect = Some 3 } ∷ record (rectified_row 3) { defect = None } ∷ [])
    ≡ None ∷ None ∷ None ∷ None ∷ []
mixed_rows = refl

-- an entry that defers nothing says none
rows_of_other_entries : map (λ defect. line_said defects (rectified_row defect)) (1 ∷ 5 ∷ 6 ∷ 0 ∷ 7 ∷ []) ≡ None ∷ None ∷ None ∷ None ∷ None ∷ []
rows_of_other_entries = refl

-- ── the book that rows give ──

given_back : merged [] entries rows ≡ Some defects
given_back = refl

-- a deferral that names an entry which adds no aircraft, or none
other_aircraft : map (λ aircraft. merged [] entries (record rows { deferrals = stated_row aircraft ∷ within_three_row ∷ [] })) (2 ∷ 0 ∷ []) ≡ None ∷ None ∷ []
other_aircraft = refl

-- the deferral of another entry
other_entry : merged [] entries (record rows { deferrals = within_three_row ∷ stated_row 1 ∷ [] }) ≡ None
other_entry = refl

-- an extension that names an entry which defers nothing, none, or the defect whose days are stated
other_defect : map (λ defect. merged [] entries (record rows { extensions = extended_row defect ∷ [] })) (1 ∷ 0 ∷ 3 ∷ []) ≡ None ∷ None ∷ None ∷ []
other_defect = refl

-- a line that has a defect beside an item and a task, or names an entry which defers nothing
other_line : map (λ line. merged [] entries (record rows { release_lines = done_row ∷ line ∷ [] })) (record (rectified_row 3) { item = Some 1; task = Some (codes "100H") } ∷ rectified_row 1 ∷ []) ≡ None ∷ None ∷ []
other_line = refl

-- a deferral, an extension or each line of the release less is of no book
rows_less : map (merged [] entries) (record rows { deferrals = stated_row 1 ∷ [] } ∷ record rows { extensions = [] } ∷ record rows { release_lines = [] } ∷ []) ≡ None ∷ None ∷ None ∷ []
rows_less = refl

-- the last line of the release less gives another book, in which the defect is open
line_less : option_map release_line_rows (merged [] entries (record rows { release_lines = done_row ∷ [] })) ≡ Some (done_row ∷ [])
line_less = refl

-- a row that no entry takes is of no book
deferral_left : merged [] [] (record no_rows { deferrals = stated_row 1 ∷ [] }) ≡ None
deferral_left = refl

extension_left : merged [] [] (record no_rows { extensions = extended_row 4 ∷ [] }) ≡ None
extension_left = refl

-- ── categories ──

categories_numbered : map category_number (A 5 ∷ B ∷ C ∷ D ∷ []) ≡ 1 ∷ 2 ∷ 3 ∷ 4 ∷ []
categories_numbered = refl

days_of_categories : map days_stated (A 5 ∷ B ∷ C ∷ D ∷ []) ≡ Some 5 ∷ None ∷ None ∷ None ∷ []
days_of_categories = refl
