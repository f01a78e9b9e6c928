-- Raw look-ups near a sector that is entered late: what the rows that are chosen are of the book that the tables stand for, at either layout.
use Rattle.std.proofs.Common.{refl, subst, ap₂, ◌≡◌, ℕ, pos, ◌&&◌, map, filter, nat_eq, Vec, Result, None}
use Rattle.std.specs.declared.alloc.Global.{Global}
use Rattle.sqlite.specs.State.{State}
use Rattle.sqlite.specs.declared.types.Value.TheVariants.{Int}
use Rattle.mx_base.specs.declared.rows.rows.ReleaseRow.{ReleaseRow}
use Rattle.mx_base.specs.declared.rows.rows.Sector2Row.{Sector2Row}
use Rattle.mx_base.specs.declared.rows.rows.SectorRow.{SectorRow}
use Rattle.mx_book.specs.declared.commands.sector.Sector.{Sector}
use Rattle.mx_registers.specs.Registers.{release_rows, sector_rows}
use Rattle.mx_registers.specs.kept.Spans.{span_rows}
use Rattle.mx_registers.specs.kept.Totals.{total_rows}
use Rattle.mx_layout.specs.declared.fault.TableFault.{TableFault}
use Rattle.mx_layout.specs.kept.Cells.{kept_crs, kept_sector2, kept_sector2_rows, kept_span2, kept_total2}
use Rattle.mx_table_rows.proofs.ChosenProofs.EqualLemmas.{below_number, from_number}
use Rattle.mx_table_rows.specs.chosen.Calls.{ReadsBy, ReadsFirst}
use Rattle.mx_table_rows.specs.chosen.Choices.{is_between}
use Rattle.mx_row_rules.specs.found.Crossings.{earliest_overlapping, is_near, is_released_near}
use Rattle.mx_lookups.specs.numbers.Crossings.{is_near_row, is_released_row}
use Rattle.mx_lookups.specs.numbers.Reads.{IsRowsPoint, ReadsAt}
use Rattle.mx_lookups.proofs.NumbersProofs.BookRows.{by_number}
use Rattle.mx_lookups.proofs.NumbersProofs.LookupLemmas.{number_is, rows_read}
use Rattle.mx_lookups.proofs.NumbersProofs.SectorRows.{held_read}
use Rattle.mx_lookups.proofs.NumbersProofs.TableLemmas.{releases_at, sectors_at, spans_at, totals_at}

-- ── what the tests of WHERE say ──

near_is : (n : ℕ) (s : Sector) (row : SectorRow) → is_near_row n s (kept_sector2.as_cells row) ≡ is_near n s row
near_is n s row = ap₂ ◌&&◌ (number_is row.aircraft n) (ap₂ ◌&&◌ (from_number row.took_off (earliest_overlapping s)) (below_number row.took_off s.on))

released_is : (n : ℕ) (s : Sector) (row : ReleaseRow) → is_released_row n s (kept_crs.as_cells row) ≡ is_released_near n s row
released_is n s row = ap₂ ◌&&◌ (number_is row.item n) (ap₂ ◌&&◌ (from_number row.moment s.off) (below_number row.moment s.on))

-- ── each raw look-up ──

-- from the take-off that was reckoned on
pub near_from : (n from : ℕ) (s : Sector) → from ≡ earliest_overlapping s → (old new : State) (result : Result (Vec Sector2Row Global) TableFault)
    → ReadsFirst kept_sector2_rows None kept_sector2_rows.order (is_between 1 (Int (pos n)) 4 (Int (pos from)) (Int (pos s.on))) (λ rows. rows.items) old new result
    → ReadsFirst kept_sector2_rows None kept_sector2_rows.order (is_near_row n s) (λ rows. rows.items) old new result
near_from n from s reckoned old new result = subst (λ m. ReadsFirst kept_sector2_rows None kept_sector2_rows.order (is_between 1 (Int (pos n)) 4 (Int (pos m)) (Int (pos s.on))) (λ rows. rows.items) old new result) reckoned

-- the sectors near it behind what holds them
pub near_held : (n : ℕ) (s : Sector) (old new : State) (result : Result (Vec Sector2Row Global) TableFault) → ReadsFirst kept_sector2_rows None kept_sector2_rows.order (is_near_row n s) (λ rows. rows.items) old new result
    → ReadsFirst kept_sector2 None kept_sector2.order (is_near_row n s) (λ rows. map (λ (row : Sector2Row). row.sector) rows.items) old new result
near_held n s = held_read kept_sector2 (λ (row : Sector2Row). row.sector) (λ row. record { sector = row }) (λ _. refl) None kept_sector2.order (is_near_row n s) (λ rows. rows.items)

pub near_read : {at : _} → IsRowsPoint at → (n : ℕ) (s : Sector) (old new : State) (result : Result (Vec Sector2Row Global) TableFault) → ReadsFirst kept_sector2_rows None kept_sector2_rows.order (is_near_row n s) (λ rows. rows.items) old new result
    → ReadsAt at (λ book rows. map (λ (row : Sector2Row). row.sector) rows.items ≡ filter (is_near n s) (sector_rows book)) old new result
near_read is n s old new result r = rows_read kept_sector2 sector_rows (sectors_at is) (is_near_row n s) (is_near n s) (near_is n s) _ old new result (near_held n s old new result r)

module _ {A : Type 0} {old new : State} where
  pub totals_of_at : {at : _} {result : Result (Vec _ A) TableFault} → IsRowsPoint at → (n : ℕ) → ReadsBy kept_total2 0 (Int (pos n)) old new result → ReadsAt at (λ book rows. rows.items ≡ filter (λ row. nat_eq row.item n) (total_rows book)) old new result
  totals_of_at {result = result} is = by_number kept_total2 total_rows (totals_at is) old new result 0 (λ row. row.item) (λ row. refl)

  pub spans_of_aircraft_at : {at : _} {result : Result (Vec _ A) TableFault} → IsRowsPoint at → (n : ℕ) → ReadsBy kept_span2 2 (Int (pos n)) old new result → ReadsAt at (λ book rows. rows.items ≡ filter (λ row. nat_eq row.aircraft n) (span_rows book)) old new result
  spans_of_aircraft_at {result = result} is = by_number kept_span2 span_rows (spans_at is) old new result 2 (λ row. row.aircraft) (λ row. refl)

  pub releases_near_at : {at : _} {result : Result (Vec _ A) TableFault} → IsRowsPoint at → (n : ℕ) (s : Sector) → ReadsFirst kept_crs None kept_crs.order (is_released_row n s) (λ rows. rows.items) old new result
      → ReadsAt at (λ book rows. rows.items ≡ filter (is_released_near n s) (release_rows book)) old new result
  releases_near_at {result = result} is n s = rows_read kept_crs release_rows (releases_at is) (is_released_row n s) (is_released_near n s) (released_is n s) (λ rows. rows.items) old new result
