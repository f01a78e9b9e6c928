-- Worked rows: the table of the rows of each kind of entry, by the number of the kind and by the name in the file, and which commands documents and what rows state come to.
use Rattle.std.proofs.Common.{refl, ◌≡◌, ℕ, List, [], ◌∷◌, map, Some, None}
use Rattle.std.specs.Prelude.{codes}
use Rattle.std.specs.Fmt.{digits}
use Rattle.mx_base.specs.rows.Rows.{kind_number}
use Rattle.mx_base.specs.declared.rows.rows.EntryKind.{EntryKind}
use Rattle.mx_base.specs.declared.rows.rows.EntryKind.TheVariants.{AddAircraft, AddComponent, LoadProgramme, Opening, Sector, Fit, Remove, Release, Defer, Extend}
use Rattle.mx_book.specs.commands.Act.{Act, Fitted}
use Rattle.mx_book.proofs.Worked.{a1, abcd, aircraft_with, at, first_sector, sector}
use Rattle.mx_layout.specs.Names.{table_name}
use Rattle.mx_row_questions.specs.entries.Entries.{command_said, table_of}

-- ── the tables of entries ──

abbrev kinds : List EntryKind
kinds = AddAircraft ∷ AddComponent ∷ LoadProgramme ∷ Opening ∷ Sector ∷ Fit ∷ Remove ∷ Release ∷ Defer ∷ Extend ∷ []

-- a removal has no row of its own: it ends the span that the fitting began
tables_of_kinds : map {B = ℕ × List ℕ} (λ kind. (kind_number kind, table_name (table_of kind))) kinds
    ≡ (1, codes "aircraft") ∷ (2, codes "component") ∷ (3, codes "programme") ∷ (4, codes "opening") ∷ (5, codes "sector2") ∷ (6, codes "span2") ∷ (7, codes "span2") ∷ (8, codes "crs")
    ∷ (9, codes "defect") ∷ (10, codes "extension") ∷ []
tables_of_kinds = refl

-- ── commands ──

-- the sector of line 1 of page 12
abbrev flown : Act
flown = sector 1 (at 19783 8 0) (at 19783 9 30) 1

abbrev fitted : Act
fitted = Fitted (record { serial = codes "E1"; tail = abcd; position = codes "ENG"; moment = at 19754 0 0 })

aircraft_by_its_document : command_said (codes "A1") (Some (aircraft_with abcd)) ≡ Some a1
aircraft_by_its_document = refl

sector_by_its_document : command_said (codes "TL/D-ABCD/12/1") (Some flown) ≡ Some (first_sector 1)
unfolding digits
sector_by_its_document = refl

-- of another line, of no page of the log, and another command by the document of a page
other_documents : map (λ (entry : List ℕ × Act). command_said entry.0 (Some entry.1)) ((codes "TL/D-ABCD/12/2", flown) ∷ (codes "S1", flown) ∷ (codes "TL/D-ABCD/12/1", fitted) ∷ []) ≡ None ∷ None ∷ None ∷ []
unfolding digits
other_documents = refl

-- 51 cycles are more than a sector has
too_many_cycles : command_said (codes "TL/D-ABCD/12/1") (Some (sector 1 (at 19783 8 0) (at 19783 9 30) 51)) ≡ None
unfolding digits
too_many_cycles = refl

nothing_stated : command_said (codes "A1") None ≡ None
nothing_stated = refl
