-- The registers of a file: which schemas have their tables, and whose rows are read of them where all sectors and spans of a book stand there.
use Rattle.std.proofs.Common.{◌≡◌, inl, inr, ℕ, true, List, [], ◌++◌, ◌∷◌, map, All, refl, sym, subst}
use Rattle.std.specs.Prelude.{IsPermutation}
use Rattle.std.proofs.lemmas.List.Sorted.{All-permutation, IsPermutation-map, IsPermutation-sym, IsPermutation-trans}
use Rattle.sqlite.specs.Schema.{Schema}
use Rattle.sqlite.specs.Tree.{Trees}
use Rattle.mx_book.specs.commands.Act.{Entry}
use Rattle.mx_base.specs.declared.rows.rows.DeferralRow.{DeferralRow}
use Rattle.mx_registers.specs.Registers.{deferral_rows, sector_rows}
use Rattle.mx_registers.specs.kept.Spans.{span_rows}
use Rattle.mx_base.specs.declared.point.Point.{Point}
use Rattle.mx_registers.specs.points.Points.{moving}
use Rattle.mx_registers.specs.points.Tables.{Line, rows_at, entries_all, aircraft_all, places_all, components_all, programmes_all, tasks_all, openings_all, releases_all, release_lines_all, extensions_all, deferrals_2, sectors_2, spans_2}
use Rattle.mx_registers.proofs.PointsProofs.OneBook.{all_there}
use Rattle.mx_registers.proofs.PointsProofs.StandingLemmas.{always_whole}
use Rattle.mx_layout.specs.TableName.{TableName}
use Rattle.mx_layout.specs.declared.fault.Table.TheVariants as table
use Rattle.mx_layout.specs.Contents.{rows_in}
use Rattle.mx_layout.specs.Names.{table_named}
use Rattle.mx_layout.specs.Tables.{sector2, span2, total2, base2}
use Rattle.mx_layout.specs.kept.Kept.{Kept}
use Rattle.mx_layout.specs.kept.Cells.{kept_aircraft, kept_component, kept_crs, kept_crs_line, kept_defect, kept_entry, kept_extension, kept_opening, kept_place, kept_programme, kept_sector2, kept_span2, kept_task}
use Rattle.mx_layout.specs.kept.Schemas.{HasPermanent}
use Rattle.mx_book_tables.specs.stands.Family.{first_rows, is_at}
use Rattle.mx_book_tables.specs.stands.Schemas.{HasTablesAt, indexes_at, own_at, schema_at}
use Rattle.mx_book_tables.specs.stands.Stands.{HasRowsAt}
use Rattle.mx_book_tables.proofs.StandsProofs.FamilyLemmas.{AreFacts, facts}
use Rattle.mx_book_tables.proofs.StandsProofs.RowLemmas.{rows_once}
use Rattle.mx_tables.specs.inserts.Sets.{AreRowsOf}
use Rattle.mx_registers.specs.file.Tables.{AreRegistersIn}
use Rattle.mx_registers.specs.declared.file.file_rows.FileRows.{FileRows}
use Rattle.mx_book_tables.specs.reading.Layout.{HasTables, verified_point}
use Rattle.mx_book_tables.specs.reading.Stored.{AreRegisterRows, AreRegisterRowsBy, AreRegisters, HasRegisters}

-- ── which schemas have their tables ──

registers_in : (schema : Schema) → HasPermanent schema → kept_defect.IsIn schema → kept_sector2.IsIn schema → kept_span2.IsIn schema → HasRegisters schema
registers_in schema each deferrals sectors spans = record {
  entries = each;
  aircraft = each;
  places = each;
  components = each;
  programmes = each;
  tasks = each;
  openings = each;
  releases = each;
  release_lines = each;
  deferrals = deferrals;
  extensions = each;
  sectors = sectors;
  spans = spans;
}

permanent_too : (at : Point) (schema : Schema) → HasTablesAt at schema → HasPermanent schema
permanent_too at schema has = record { rest = own_at at ++ has.rest; more = has.more; is = has.is }

-- that of a file whose totals are being made
pub registers_at_totals : (mark : ℕ) (schema : Schema) → HasTablesAt (moving 3 mark) schema → HasRegisters schema
registers_at_totals mark schema has =
    registers_in schema (permanent_too (moving 3 mark) schema has) (record { rest = sector2 ∷ span2 ∷ total2 ∷ has.rest; more = has.more; is = has.is }) (inr (inr (inl (record { rest = span2 ∷ total2 ∷ has.rest; more = has.more; is = has.is }))))
    (inr (inl (record { rest = total2 ∷ has.rest; more = has.more; is = has.is })))

-- that of a file whose last bases are being made
pub registers_at_bases : (mark : ℕ) (schema : Schema) → HasTablesAt (moving 4 mark) schema → HasRegisters schema
registers_at_bases mark schema has =
    registers_in schema (permanent_too (moving 4 mark) schema has) (record { rest = sector2 ∷ span2 ∷ total2 ∷ base2 ∷ has.rest; more = has.more; is = has.is }) (inr (inr (inl (record { rest = span2 ∷ total2 ∷ base2 ∷ has.rest; more = has.more; is = has.is }))))
    (inr (inl (record { rest = total2 ∷ base2 ∷ has.rest; more = has.more; is = has.is })))

-- that of a file whose tables are verified
pub registers_settled : (schema : Schema) → HasTables schema → HasRegisters schema
registers_settled schema has =
    registers_in schema (permanent_too verified_point schema has) (record { rest = sector2 ∷ span2 ∷ total2 ∷ base2 ∷ has.rest; more = has.more; is = has.is }) (inr (inr (inl (record { rest = span2 ∷ total2 ∷ base2 ∷ has.rest; more = has.more; is = has.is }))))
    (inr (inl (record { rest = total2 ∷ base2 ∷ has.rest; more = has.more; is = has.is })))

-- the schemas at these points themselves
pub schema_at_totals : (mark : ℕ) → HasRegisters (schema_at (moving 3 mark))
schema_at_totals mark = registers_at_totals mark (schema_at (moving 3 mark)) (record { rest = []; more = indexes_at (moving 3 mark); is = refl })

pub schema_at_bases : (mark : ℕ) → HasRegisters (schema_at (moving 4 mark))
schema_at_bases mark = registers_at_bases mark (schema_at (moving 4 mark)) (record { rest = []; more = indexes_at (moving 4 mark); is = refl })

-- ── one table ──

module _ {X : Type 0} (at : Point) (name : TableName) (k : Kept X) (line : Line X) (facts : AreFacts name k line) (trees : Trees) (book : List Entry) where
  abbrev at_point : List X
  at_point = rows_at line at book

  -- where the table has what the book gives it at the point, so has what was read of it
  pub read_there : (xs : List X) → AreRowsOf k trees xs → All k.Fits at_point → IsPermutation (first_rows at name ++ map k.as_cells at_point) (rows_in (table_named name) trees) → IsPermutation xs at_point
  read_there xs stored fit given =
      let named = subst (λ n. IsPermutation (map k.as_cells at_point) (rows_in (table_named n) trees)) (sym facts.is_named)
      (subst (λ first. IsPermutation (first ++ map k.as_cells at_point) (rows_in (table_named name) trees)) (facts.no_first at) given) in
      rows_once k facts.law xs at_point stored.1 fit (IsPermutation-sym _ _ (IsPermutation-trans _ _ _ named stored.0.all))

  -- where all rows that a book gives to the table stand there at the point
  module _ (all : rows_at line at book ≡ line.rows book) where
    -- what was read of it is all of these
    pub read_as : (xs : List X) → AreRowsOf k trees xs → All k.Fits at_point → IsPermutation (first_rows at name ++ map k.as_cells at_point) (rows_in (table_named name) trees) → IsPermutation xs (line.rows book)
    read_as xs stored fit given = subst (IsPermutation xs) all (read_there xs stored fit given)

    -- and the other way round
    pub given_as : (xs : List X) → AreRowsOf k trees xs → IsPermutation xs (line.rows book) → All k.Fits at_point × IsPermutation (first_rows at name ++ map k.as_cells at_point) (rows_in (table_named name) trees)
    given_as xs stored same =
        let is = subst (IsPermutation xs) (sym all) same in
        let cells = IsPermutation-sym _ _ (IsPermutation-trans _ _ _ stored.0.all (IsPermutation-map k.as_cells xs at_point is)) in (
          All-permutation k.Fits xs at_point is stored.1,
          subst (λ first. IsPermutation (first ++ map k.as_cells at_point) (rows_in (table_named name) trees)) (sym (facts.no_first at))
              (subst (λ n. IsPermutation (map k.as_cells at_point) (rows_in (table_named n) trees)) facts.is_named cells),
        )

-- ── all registers ──

-- all sectors and spans of the book stand in the tables that are read
pub record AreFlown (at : Point) (book : List Entry) : Type 0 where
  pub flown : is_at at table.Sector2 ≡ true
  pub fitted : is_at at table.Span2 ≡ true
  pub sectors : rows_at sectors_2 at book ≡ sector_rows book
  pub spans : rows_at spans_2 at book ≡ span_rows book

-- and all deferrals
pub record AreMoved (at : Point) (book : List Entry) : Type 0 where
  pub deferred : is_at at table.Defect ≡ true
  pub flown : is_at at table.Sector2 ≡ true
  pub fitted : is_at at table.Span2 ≡ true
  pub deferrals : rows_at deferrals_2 at book ≡ deferral_rows book
  pub sectors : rows_at sectors_2 at book ≡ sector_rows book
  pub spans : rows_at spans_2 at book ≡ span_rows book

pub moved_at_totals : (mark : ℕ) (book : List Entry) → AreMoved (moving 3 mark) book
moved_at_totals mark book = record { deferred = refl; flown = refl; fitted = refl; deferrals = all_there (deferral_rows book); sectors = all_there (sector_rows book); spans = all_there (span_rows book) }

pub moved_at_bases : (mark : ℕ) (book : List Entry) → AreMoved (moving 4 mark) book
moved_at_bases mark book = record { deferred = refl; flown = refl; fitted = refl; deferrals = all_there (deferral_rows book); sectors = all_there (sector_rows book); spans = all_there (span_rows book) }

pub moved_settled : (book : List Entry) → AreMoved verified_point book
moved_settled book = record { deferred = refl; flown = refl; fitted = refl; deferrals = all_there (deferral_rows book); sectors = all_there (sector_rows book); spans = all_there (span_rows book) }

-- over tables that have the rows of a book, what was read of the registers is those of the book, where the deferrals are
pub registers_with : (AreDeferrals : Trees → List DeferralRow → Type 0) (at : Point) (trees : Trees) (rows : FileRows) (book : List Entry) → AreFlown at book → AreRegisterRowsBy AreDeferrals trees rows.registers → AreRowsOf kept_span2 trees rows.spans.items
    → HasRowsAt at trees book → IsPermutation rows.registers.rows.deferrals.items (deferral_rows book) → AreRegistersIn rows book
registers_with AreDeferrals at trees rows book moved are spans has deferred =
    let all = always_whole at book in
    record {
      entries = read_as at table.Entry kept_entry entries_all (facts table.Entry) trees book all.entries rows.registers.entries.items are.entries (has.fit table.Entry refl) (has.tables table.Entry refl);
      aircraft = read_as at table.Aircraft kept_aircraft aircraft_all (facts table.Aircraft) trees book all.aircraft rows.registers.rows.aircraft.items are.aircraft (has.fit table.Aircraft refl) (has.tables table.Aircraft refl);
      places = read_as at table.Place kept_place places_all (facts table.Place) trees book all.places rows.registers.rows.places.items are.places (has.fit table.Place refl) (has.tables table.Place refl);
      components = read_as at table.Component kept_component components_all (facts table.Component) trees book all.components rows.registers.rows.components.items are.components (has.fit table.Component refl) (has.tables table.Component refl);
      programmes = read_as at table.Programme kept_programme programmes_all (facts table.Programme) trees book all.programmes rows.registers.rows.programmes.items are.programmes (has.fit table.Programme refl) (has.tables table.Programme refl);
      tasks = read_as at table.Task kept_task tasks_all (facts table.Task) trees book all.tasks rows.registers.rows.tasks.items are.tasks (has.fit table.Task refl) (has.tables table.Task refl);
      openings = read_as at table.Opening kept_opening openings_all (facts table.Opening) trees book all.openings rows.registers.rows.openings.items are.openings (has.fit table.Opening refl) (has.tables table.Opening refl);
      releases = read_as at table.Crs kept_crs releases_all (facts table.Crs) trees book all.releases rows.registers.rows.releases.items are.releases (has.fit table.Crs refl) (has.tables table.Crs refl);
      release_lines = read_as at table.CrsLine kept_crs_line release_lines_all (facts table.CrsLine) trees book all.release_lines rows.registers.rows.release_lines.items are.release_lines (has.fit table.CrsLine refl) (has.tables table.CrsLine refl);
      deferrals = deferred;
      extensions = read_as at table.Extension kept_extension extensions_all (facts table.Extension) trees book all.extensions rows.registers.rows.extensions.items are.extensions (has.fit table.Extension refl) (has.tables table.Extension refl);
      sectors = read_as at table.Sector2 kept_sector2 sectors_2 (facts table.Sector2) trees book moved.sectors rows.registers.rows.sectors.items are.sectors (has.fit table.Sector2 moved.flown) (has.tables table.Sector2 moved.flown);
      spans = read_as at table.Span2 kept_span2 spans_2 (facts table.Span2) trees book moved.spans rows.spans.items spans (has.fit table.Span2 moved.fitted) (has.tables table.Span2 moved.fitted);
    }

-- so where all of them stand in one table
pub registers_read : (at : Point) (trees : Trees) (rows : FileRows) (book : List Entry) → AreMoved at book → AreRegisterRows trees rows.registers → AreRowsOf kept_span2 trees rows.spans.items → HasRowsAt at trees book → AreRegistersIn rows book
registers_read at trees rows book moved are spans has =
    registers_with (AreRowsOf kept_defect) at trees rows book (record { flown = moved.flown; fitted = moved.fitted; sectors = moved.sectors; spans = moved.spans }) are spans has
    (read_as at table.Defect kept_defect deferrals_2 (facts table.Defect) trees book moved.deferrals rows.registers.rows.deferrals.items are.deferrals (has.fit table.Defect moved.deferred) (has.tables table.Defect moved.deferred))

-- so where the registers alone were read
pub registers_of : (at : Point) (trees : Trees) (rows : FileRows) (book : List Entry) → AreMoved at book → AreRegisters trees rows → HasRowsAt at trees book → AreRegistersIn rows book
registers_of at trees rows book moved are has = registers_read at trees rows book moved are.registers are.spans has
