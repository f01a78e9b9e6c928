-- What registers give stays so while what is kept of items is written: no table of theirs changes.
use Rattle.std.proofs.Common.{◌≡◌, ◌∙◌, inl, inr, ◌≤◌, true, false, cond, ◌++◌, List, [], ◌∷◌, map, filter, not, nat_eq, Option, None, Some, refl, sym, ap, subst, arith}
use Rattle.std.specs.List.Sorted.{IsPermutation}
use Rattle.std.proofs.lemmas.List.Sorted.{IsPermutation-sym, IsPermutation-trans}
use Rattle.sqlite.specs.Order.{Row}
use Rattle.sqlite.specs.Tree.{Trees}
use Rattle.mx_base.specs.declared.point.Point.{Point}
use Rattle.mx_base.specs.Settled.{settled}
use Rattle.mx_registers.specs.points.Points.{moving}
use Rattle.mx_registers.specs.declared.file.file_rows.FileRows.{FileRows}
use Rattle.mx_layout.specs.TableName.{TableName}
use Rattle.mx_layout.specs.declared.fault.Table.TheVariants as table
use Rattle.mx_layout.specs.Contents.{rows_in}
use Rattle.mx_layout.specs.Names.{table_named}
use Rattle.mx_layout.specs.kept.Cells.{kept_aircraft, kept_base2, kept_component, kept_crs, kept_crs_line, kept_defect, kept_entry, kept_extension, kept_opening, kept_place, kept_programme, kept_sector2, kept_span2, kept_task, kept_total2}
use Rattle.mx_layout.specs.kept.Family.{on_top}
use Rattle.mx_layout.specs.kept.Kept.{Kept}
use Rattle.mx_book_tables.specs.reading.Stored.{AreRegisters}
use Rattle.mx_book_tables.specs.stands.Family.{is_at}
use Rattle.mx_tables.specs.inserts.Sets.{AreRowsOf}
use Rattle.mx_moves.specs.Changes.{emptied, less}
use Rattle.mx_moves.specs.Keeping.{is_point_row, kept_point, point_set}
use Rattle.mx_moves.specs.steps.Rows.{MakesRows}
use Rattle.mx_moves.specs.steps.Tables.{table_made}
use Rattle.mx_moves.specs.steps.Written.{bases_written, total_written}
use Rattle.mx_verify.specs.declared.derived.kept.KeptRows.{KeptRows}
use Rattle.mx_migrate.specs.settle.Due.{IsFor, MakesBy}
use Rattle.mx_migrate.specs.settle.Found.{AreKeptIn, KnowsIn, MayBeRead}
use Rattle.mx_migrate.specs.declared.settle.due.Due.{Due}
use Rattle.mx_migrate.specs.declared.settle.due.Due.TheVariants as due

-- ── tables that stay ──

-- the table is none of those that such a step writes
abbrev IsNoneOf : TableName → TableName → Type 0
IsNoneOf other name = nat_eq (table_named other).tree (table_named name).tree ≡ false

abbrev IsBeside : TableName → Type 0
IsBeside name = IsNoneOf table.Office name × IsNoneOf table.Total2 name × IsNoneOf table.Base2 name

top_stays : {X : Type 0} (k : Kept X) (xs : List X) (name : TableName) → IsNoneOf k.name name → (rows : List Row) → on_top k xs name rows ≡ rows
top_stays k xs name other rows = ap (λ b. cond b (map k.as_cells xs ++ rows) rows) other

point_stays : (to : Point) (name : TableName) → IsNoneOf table.Office name → (rows : List Row) → point_set to name rows ≡ rows
point_stays to name other rows =
    top_stays kept_point (to ∷ []) name other (less kept_point is_point_row name rows)
    ∙ ap (λ b. cond b (filter (λ row. not (is_point_row row)) rows) rows) other

-- what the step makes of the rows of a table beside those
abbrev Stays : (TableName → List Row → List Row) → Type 0
Stays onto = (name : TableName) → IsBeside name → (rows : List Row) → onto name rows ≡ rows

module _ (to : Point) where
  total_stays : (row : _) → Stays (total_written row to)
  total_stays row name beside rows = top_stays kept_total2 (row ∷ []) name beside.1 (point_set to name rows) ∙ point_stays to name beside.0 rows

  bases_stay : (bases : _) → Stays (bases_written bases to)
  bases_stay bases name beside rows = top_stays kept_base2 bases name beside.2 (point_set to name rows) ∙ point_stays to name beside.0 rows

  made_stays : Stays (table_made table.Base2 to)
  made_stays name beside rows = point_stays to name beside.0 (emptied table.Base2 name rows) ∙ ap (λ b. cond b [] rows) beside.2

  end_stays : Stays (point_set to)
  end_stays name beside rows = point_stays to name beside.0 rows

-- ── registers ──

-- those of their tables that not every file has are there
abbrev AreThere : Point → Type 0
AreThere at = (is_at at table.Defect ≡ true) × (is_at at table.Sector2 ≡ true) × (is_at at table.Span2 ≡ true)

module _ (onto : TableName → List Row → List Row) (stays : Stays onto) (to : Point) (old new : Trees) (made : MakesRows onto to old new) (there : AreThere to) where
  still : {X : Type 0} (k : Kept X) → is_at to k.name ≡ true → IsBeside k.name → (xs : List X) → AreRowsOf k old xs → AreRowsOf k new xs
  still k there beside xs are =
      let same : IsPermutation (rows_in (table_named k.name) old) (rows_in (table_named k.name) new) =
      subst (λ rows. IsPermutation rows (rows_in (table_named k.name) new)) (stays k.name beside (rows_in (table_named k.name) old)) (made.tables k.name there) in
      (record { all = IsPermutation-trans _ _ _ (IsPermutation-sym _ _ same) are.0.all; sorted = are.0.sorted }, are.1)

  registers_still : (rows : FileRows) → AreRegisters old rows → AreRegisters new rows
  registers_still rows are =
      let r = are.registers in
      record {
        registers = record {
          entries = still kept_entry refl (refl, refl, refl) _ r.entries;
          aircraft = still kept_aircraft refl (refl, refl, refl) _ r.aircraft;
          places = still kept_place refl (refl, refl, refl) _ r.places;
          components = still kept_component refl (refl, refl, refl) _ r.components;
          programmes = still kept_programme refl (refl, refl, refl) _ r.programmes;
          tasks = still kept_task refl (refl, refl, refl) _ r.tasks;
          openings = still kept_opening refl (refl, refl, refl) _ r.openings;
          releases = still kept_crs refl (refl, refl, refl) _ r.releases;
          release_lines = still kept_crs_line refl (refl, refl, refl) _ r.release_lines;
          deferrals = still kept_defect there.0 (refl, refl, refl) _ r.deferrals;
          extensions = still kept_extension refl (refl, refl, refl) _ r.extensions;
          sectors = still kept_sector2 there.1 (refl, refl, refl) _ r.sectors;
        };
        spans = still kept_span2 there.2 (refl, refl, refl) _ are.spans;
        totals = are.totals;
        bases = are.bases;
      }

  kept_still : (kept : KeptRows) → AreKeptIn kept old → AreKeptIn kept new
  kept_still kept (book, merged, of) =
      (book, record { rows = merged.rows; are = registers_still merged.rows merged.are; early = merged.early; put = merged.put; in_order = merged.in_order; gives = merged.gives }, of)

-- ── what is known behind a step ──

-- before the registers may be read nothing is known of them
early_point : (at p : Point) → at ≡ p → p.layout ≤ 1 → p.step ≤ 2 → MayBeRead at → ⊥
early_point at p is layout step (inl far) = let same : at.step ≡ p.step = ap (λ (q : Point). q.step) is in absurd (omega (arith, same, far, step))
early_point at p is layout step (inr newer) = let same : at.layout ≡ p.layout = ap (λ (q : Point). q.layout) is in absurd (omega (arith, same, newer, layout))

may_behind : (to p : Point) → to ≡ p → MayBeRead p → MayBeRead to
may_behind to p is may = subst MayBeRead (sym is) may

module _ (kept : KeptRows) (at to : Point) (old new : Trees) (knows : MayBeRead at × AreKeptIn kept old) where
  abbrev Still : Type 0
  Still = MayBeRead to × AreKeptIn kept new

  behind : (onto : TableName → List Row → List Row) → Stays onto → (p : Point) → to ≡ p → MayBeRead p → AreThere p → MakesRows onto to old new → Still
  behind onto stays p is may there made =
      (may_behind to p is may, kept_still onto stays to old new made (subst AreThere (sym is) there) kept knows.1)

  kept_on : (step : Due) → IsFor step at → MakesBy step at to old new → Still
  kept_on (due.SectorTable step) here it = absurd (early_point at (settled 1) here (omega arith) (omega arith) knows.0)
  kept_on (due.Sectors step) here it = absurd (early_point at (moving 1 step.mark) here (omega arith) (omega arith) knows.0)
  kept_on (due.SpanTable step) here it = absurd (early_point at (moving 1 step.mark) here.0 (omega arith) (omega arith) knows.0)
  kept_on (due.Component step) here it = absurd (early_point at (moving 2 step.mark) here (omega arith) (omega arith) knows.0)
  kept_on (due.TotalTable step) here it = absurd (early_point at (moving 2 step.mark) here.0 (omega arith) (omega arith) knows.0)
  kept_on (due.Total step) here it = behind (total_written step.row to) (total_stays to step.row) (moving 3 step.row.item) it.point (inl (omega arith)) (refl, refl, refl) it.made
  kept_on (due.BaseTable step) here it = behind (table_made table.Base2 to) (made_stays to) (moving 4 0) it.point (inl (omega arith)) (refl, refl, refl) it.made
  kept_on (due.Bases step) here it = behind (bases_written step.rows.items to) (bases_stay to step.rows.items) (moving 4 step.item) it.point (inl (omega arith)) (refl, refl, refl) it.made
  kept_on (due.End step) here it = behind (point_set to) (end_stays to) (settled 2) it.point (inr (omega arith)) (refl, refl, refl) it.made

pub knows_on : (known : Option KeptRows) (step : Due) (at to : Point) (old new : Trees) → IsFor step at → MakesBy step at to old new → KnowsIn at known old → KnowsIn to known new
knows_on None step at to old new here it knows = tt
knows_on (Some kept) step at to old new here it knows = kept_on kept at to old new knows step here it
