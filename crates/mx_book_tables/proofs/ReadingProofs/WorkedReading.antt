-- Worked rows: the table of the rows of each kind of entry, by the number of the kind and by the name in the file, and the point whose tables are verified.
use Rattle.std.proofs.Common.{refl, ◌≡◌, ℕ, List, [], ◌∷◌, map, pos, true, false, Ok, Err}
use Rattle.std.specs.Prelude.{codes}
use Rattle.sqlite.specs.declared.types.Value.TheVariants.{Int}
use Rattle.mx_base.specs.declared.point.Point.{Point}
use Rattle.mx_base.specs.rows.Rows.{kind_number}
use Rattle.mx_base.specs.declared.rows.rows.EntryKind.{EntryKind}
use Rattle.mx_base.specs.declared.rows.rows.EntryKind.TheVariants.{AddAircraft, AddComponent, LoadProgramme, Opening, Sector, Fit, Remove, Release, Defer, Extend}
use Rattle.mx_layout.specs.Names.{table_name}
use Rattle.mx_layout.specs.Point.{point_cells}
use Rattle.mx_layout.specs.declared.fault.Table.TheVariants.{Entry, Office}
use Rattle.mx_layout.specs.declared.fault.TableFault.TheVariants.{Damaged, Exists, Memory, NotOurs, Store}
use Rattle.mx_book_tables.specs.reading.Damage.{table_of}
use Rattle.mx_book_tables.specs.reading.Layout.{verified_point}
use Rattle.mx_book_tables.specs.reading.Looks.{is_verified_point, told_point}

-- ── the tables of entries ──

abbrev kinds : List EntryKind
kinds = AddAircraft ∷ AddComponent ∷ LoadProgramme ∷ Opening ∷ Sector ∷ Fit ∷ Remove ∷ Release ∷ Defer ∷ Extend ∷ []

-- a removal has no row of its own: it ends the span that the fitting began
tables_of_kinds : map {B = ℕ × List ℕ} (λ kind. (kind_number kind, table_name (table_of kind))) kinds
    ≡ (1, codes "aircraft") ∷ (2, codes "component") ∷ (3, codes "programme") ∷ (4, codes "opening") ∷ (5, codes "sector2") ∷ (6, codes "span2") ∷ (7, codes "span2") ∷ (8, codes "crs")
    ∷ (9, codes "defect") ∷ (10, codes "extension") ∷ []
tables_of_kinds = refl

-- ── the point ──

-- the row of `office`: layout 2, no step, up to no entry
verified_row : point_cells verified_point ≡ Int (pos 1) ∷ Int (pos 2) ∷ Int (pos 0) ∷ Int (pos 0) ∷ []
verified_row = refl

-- a point by its layout, its step and its mark
abbrev point : ℕ → ℕ → ℕ → Point
point layout step mark = record { layout = layout; step = step; mark = mark }

-- each part counts: another layout, a step of a move, a mark
points : map is_verified_point (point 2 0 0 ∷ point 1 0 0 ∷ point 3 0 0 ∷ point 1 1 0 ∷ point 2 1 0 ∷ point 2 0 7 ∷ []) ≡ true ∷ false ∷ false ∷ false ∷ false ∷ false ∷ []
points = refl

-- where `office` has not exactly one row the file is at no point, and any other fault is told
told : map told_point (Ok (point 2 0 0) ∷ Ok (point 1 0 0) ∷ Err NotOurs ∷ Err Memory ∷ Err Store ∷ Err Exists ∷ Err (Damaged Office) ∷ Err (Damaged Entry) ∷ [])
    ≡ Ok true ∷ Ok false ∷ Ok false ∷ Err Memory ∷ Err Store ∷ Err Exists ∷ Err (Damaged Office) ∷ Err (Damaged Entry) ∷ []
told = refl
