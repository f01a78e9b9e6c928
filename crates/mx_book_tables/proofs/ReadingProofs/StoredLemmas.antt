-- The rows that are read of a file are those of its tables, and say whether these have the rows of a book.
use Rattle.std.proofs.Common.{◌≡◌, ◌⊎◌, inl, inr, true, List, [], ◌∷◌, map, All, Ok, Err, Result, refl, sym, ap, subst, arith}
use Rattle.std.specs.Prelude.{Vec, IsPermutation, IfErr, Contains}
use Rattle.std.specs.declared.alloc.Global.{Global}
use Rattle.std.proofs.lemmas.List.Sorted.{All-permutation, IsPermutation-refl, length_permutation}
use Rattle.std.proofs.lemmas.List.Elements.{All-map, All-head, All-from_recursion, All-contains}
use Rattle.std.proofs.lemmas.Simd.{map-map}
use Rattle.sqlite.specs.Order.{Row}
use Rattle.sqlite.specs.Schema.{Schema}
use Rattle.sqlite.specs.State.{State}
use Rattle.sqlite.specs.Tree.{Trees}
use Rattle.mx_book.specs.commands.Act.{Entry}
use Rattle.mx_book.specs.Book.{IsBook}
use Rattle.mx_base.specs.declared.rows.rows.BaseRow.{BaseRow}
use Rattle.mx_base.specs.declared.rows.rows.DeferralRow.{DeferralRow}
use Rattle.mx_base.specs.declared.rows.rows.Sector2Row.{Sector2Row}
use Rattle.mx_base.specs.declared.rows.rows.SpanRow.{SpanRow}
use Rattle.mx_base.specs.declared.rows.rows.TotalRow.{TotalRow}
use Rattle.mx_registers.specs.kept.Bases.{base_rows}
use Rattle.mx_registers.specs.kept.Totals.{total_rows}
use Rattle.mx_registers.specs.points.Tables.{rows_at, entries_all, aircraft_all, places_all, components_all, programmes_all, tasks_all, openings_all, releases_all, release_lines_all, extensions_all, deferrals_2, sectors_2, spans_2, totals_2, bases_2}
use Rattle.mx_registers.proofs.PointsProofs.OneBook.{all_there}
use Rattle.mx_registers.proofs.PointsProofs.StandingLemmas.{always_whole}
use Rattle.mx_layout.specs.TableName.{TableName}
use Rattle.mx_layout.specs.declared.fault.TableFault.{TableFault}
use Rattle.mx_layout.specs.declared.fault.TableFault.TheVariants as fault
use Rattle.mx_layout.specs.declared.fault.Table.TheVariants as table
use Rattle.mx_layout.specs.Contents.{rows_in}
use Rattle.mx_layout.specs.Names.{table_named}
use Rattle.mx_layout.specs.Point.{IsPoint, point_cells}
use Rattle.mx_layout.specs.Reading.{AreAllBy}
use Rattle.mx_layout.specs.Tables.{office}
use Rattle.mx_layout.specs.kept.Kept.{Kept}
use Rattle.mx_layout.specs.kept.Cells.{kept_aircraft, kept_base2, kept_component, kept_crs, kept_crs_line, kept_defect, kept_entry, kept_extension, kept_opening, kept_place, kept_programme, kept_sector2, kept_sector2_rows, kept_span2, kept_task, kept_total2}
use Rattle.mx_layout.specs.kept.Family.{IsReadable}
use Rattle.mx_book_tables.specs.stands.Family.{Fit, is_at, rows_given, rows_of}
use Rattle.mx_book_tables.specs.stands.Schemas.{schema_at}
use Rattle.mx_book_tables.specs.stands.Stands.{HasRowsAt}
use Rattle.mx_book_tables.proofs.StandsProofs.PointLemmas.{file_is_up_to_3}
use Rattle.mx_book_tables.proofs.StandsProofs.FamilyLemmas.{facts, never}
use Rattle.mx_book_tables.proofs.StandsProofs.RowLemmas.{readable_stored}
use Rattle.mx_book_tables.proofs.StandsProofs.SchemaLemmas.{has_tables}
use Rattle.mx_tables.specs.inserts.Sets.{AreRowsOf, IsDamaged, ReadsTables}
use Rattle.mx_registers.specs.file.Tables.{AreTablesOf}
use Rattle.mx_registers.specs.declared.file.file_rows.FileRows.{FileRows}
use Rattle.mx_book_tables.specs.reading.Layout.{HasTables, verified_point}
use Rattle.mx_book_tables.specs.reading.Damage.{HasBadRow, IsCause}
use Rattle.mx_book_tables.specs.reading.Stored.{AreInPairs, AreRegisterRows, AreRegisters, AreRegistersBy, AreStored, HasRegisters, HasRegistersBy, RegisterPairs}
use Rattle.mx_book_tables.specs.reading.Looks.{IsAtPoint, Looks}
use Rattle.mx_book_tables.proofs.ReadingProofs.ReadLemmas.{read_too}
use Rattle.mx_book_tables.proofs.ReadingProofs.RegisterLemmas.{given_as, moved_settled, read_as, registers_read}

-- ── all tables ──

-- at the point that is verified the kept rows of all items stand there too
all_totals : (book : List Entry) → rows_at totals_2 verified_point book ≡ total_rows book
all_totals book = all_there (total_rows book)

all_bases : (book : List Entry) → rows_at bases_2 verified_point book ≡ base_rows book
all_bases book = all_there (base_rows book)

-- over tables that have the rows of a book, the rows that are read are those of the book
pub tables_read : (trees : Trees) (rows : FileRows) (book : List Entry) → AreStored trees rows → HasRowsAt verified_point trees book → AreTablesOf rows book
tables_read trees rows book are has = record {
  registers = registers_read verified_point trees rows book (moved_settled book) are.registers are.spans has;
  totals = read_as verified_point table.Total2 kept_total2 totals_2 (facts table.Total2) trees book (all_totals book) rows.totals.items are.totals (has.fit table.Total2 refl) (has.tables table.Total2 refl);
  bases = read_as verified_point table.Base2 kept_base2 bases_2 (facts table.Base2) trees book (all_bases book) rows.bases.items are.bases (has.fit table.Base2 refl) (has.tables table.Base2 refl);
}

-- that the rows of a book fit a table, and stand in it
abbrev Gives : Trees → List Entry → TableName → Type 0
Gives trees book name = Fit (rows_of name) verified_point book × IsPermutation (rows_given verified_point book name) (rows_in (table_named name) trees)

-- and rows that are those of a book are those of tables that have the rows of the book
pub tables_given : (trees : Trees) (rows : FileRows) (book : List Entry) → AreStored trees rows → IsAtPoint trees → IsBook book → AreTablesOf rows book → HasRowsAt verified_point trees book
tables_given trees rows book are at_point is_book same = record {
  is_book = is_book;
  point = (omega arith, omega arith, omega arith);
  fit = λ name there. (each name there).0;
  tables = λ name there. (each name there).1;
}
  where
    each : (name : TableName) → is_at verified_point name ≡ true → Gives trees book name
    each table.Office there = (tt, subst (IsPermutation (point_cells verified_point ∷ [])) (sym at_point) (IsPermutation-refl (point_cells verified_point ∷ [])))
    each table.Entry there = given_as verified_point table.Entry kept_entry entries_all (facts table.Entry) trees book (always_whole verified_point book).entries rows.registers.entries.items are.registers.entries same.registers.entries
    each table.Aircraft there = given_as verified_point table.Aircraft kept_aircraft aircraft_all (facts table.Aircraft) trees book (always_whole verified_point book).aircraft rows.registers.rows.aircraft.items are.registers.aircraft same.registers.aircraft
    each table.Place there = given_as verified_point table.Place kept_place places_all (facts table.Place) trees book (always_whole verified_point book).places rows.registers.rows.places.items are.registers.places same.registers.places
    each table.Component there = given_as verified_point table.Component kept_component components_all (facts table.Component) trees book (always_whole verified_point book).components rows.registers.rows.components.items are.registers.components same.registers.components
    each table.Programme there = given_as verified_point table.Programme kept_programme programmes_all (facts table.Programme) trees book (always_whole verified_point book).programmes rows.registers.rows.programmes.items are.registers.programmes same.registers.programmes
    each table.Task there = given_as verified_point table.Task kept_task tasks_all (facts table.Task) trees book (always_whole verified_point book).tasks rows.registers.rows.tasks.items are.registers.tasks same.registers.tasks
    each table.Opening there = given_as verified_point table.Opening kept_opening openings_all (facts table.Opening) trees book (always_whole verified_point book).openings rows.registers.rows.openings.items are.registers.openings same.registers.openings
    each table.Crs there = given_as verified_point table.Crs kept_crs releases_all (facts table.Crs) trees book (always_whole verified_point book).releases rows.registers.rows.releases.items are.registers.releases same.registers.releases
    each table.CrsLine there = given_as verified_point table.CrsLine kept_crs_line release_lines_all (facts table.CrsLine) trees book (always_whole verified_point book).release_lines rows.registers.rows.release_lines.items are.registers.release_lines same.registers.release_lines
    each table.Defect there = given_as verified_point table.Defect kept_defect deferrals_2 (facts table.Defect) trees book (moved_settled book).deferrals rows.registers.rows.deferrals.items are.registers.deferrals same.registers.deferrals
    each table.Extension there = given_as verified_point table.Extension kept_extension extensions_all (facts table.Extension) trees book (always_whole verified_point book).extensions rows.registers.rows.extensions.items are.registers.extensions same.registers.extensions
    each table.Sector2 there = given_as verified_point table.Sector2 kept_sector2 sectors_2 (facts table.Sector2) trees book (moved_settled book).sectors rows.registers.rows.sectors.items are.registers.sectors same.registers.sectors
    each table.Span2 there = given_as verified_point table.Span2 kept_span2 spans_2 (facts table.Span2) trees book (moved_settled book).spans rows.spans.items are.spans same.registers.spans
    each table.Total2 there = given_as verified_point table.Total2 kept_total2 totals_2 (facts table.Total2) trees book (all_totals book) rows.totals.items are.totals same.totals
    each table.Base2 there = given_as verified_point table.Base2 kept_base2 bases_2 (facts table.Base2) trees book (all_bases book) rows.bases.items are.bases same.bases
    each table.Sector1 there = never there
    each table.Fit1 there = never there
    each table.Removal1 there = never there
    each table.Defect3 there = never there
    each table.Done3 there = never there

-- the row of office is that of the point where tables have the rows of a book
pub point_given : (trees : Trees) (book : List Entry) → HasRowsAt verified_point trees book → IsAtPoint trees
point_given trees book has = one_row (rows_in office trees) (has.tables table.Office refl)
  where
    one_row : (rows : List Row) → IsPermutation (point_cells verified_point ∷ []) rows → rows ≡ point_cells verified_point ∷ []
    one_row [] same = absurd (let long = length_permutation (point_cells verified_point ∷ []) [] same in omega (arith, long))
    one_row (row ∷ []) same =
        let Is = λ (r : Row). r ≡ point_cells verified_point in
        ap (λ r. r ∷ []) (All-head Is row [] (All-permutation Is (point_cells verified_point ∷ []) (row ∷ []) same (All-from_recursion Is (point_cells verified_point ∷ []) (refl, tt))))
    one_row (row ∷ other ∷ more) same = absurd (let long = length_permutation (point_cells verified_point ∷ []) (row ∷ other ∷ more) same in omega (arith, long))

-- no row of such tables is none of its type
pub none_bad : (trees : Trees) (book : List Entry) → HasRowsAt verified_point trees book → (name : TableName) → is_at verified_point name ≡ true → HasBadRow trees name → ⊥
none_bad trees book has table.Office there bad =
    let Is = IsPoint in
    bad.2 (All-contains Is (rows_in office trees) bad.0 (subst (All Is) (sym (point_given trees book has)) (All-from_recursion Is (point_cells verified_point ∷ []) ((verified_point, has.point, refl), tt))) bad.1)
none_bad trees book has name there bad = bad.2 (All-contains (IsReadable name) (rows_in (table_named name) trees) bad.0 (readable_stored verified_point trees book has name there) bad.1)

-- ── as they are read ──

-- a table that holds rows has the rows that they hold
held_rows : {X Y : Type 0} (k : Kept X) (inner : Y → X) (trees : Trees) (ys : List Y) → AreAllBy k.order (table_named k.name) trees (map (λ y. k.as_cells (inner y)) ys) × All (λ y. k.Fits (inner y)) ys → AreRowsOf k trees (map inner ys)
held_rows k inner trees ys are = (subst (AreAllBy k.order (table_named k.name) trees) (sym (map-map k.as_cells inner ys)) are.0, All-map k.Fits inner ys are.1)

stored_by : {X : Type 0} (k : Kept X) (trees : Trees) (xs ys : List X) → ys ≡ xs → AreRowsOf k trees xs → AreRowsOf k trees ys
stored_by k trees xs ys is = subst (AreRowsOf k trees) (sym is)

-- the tables of the deferrals, as they were read
module _ {Deferred : Type 0} (HasDeferrals : Schema → Type 0) (AreRead : Trees → Deferred → Type 0) (deferrals_of : Deferred → List DeferralRow) where
  -- the deferrals are those of what was read
  abbrev pub AreDeferrals : Trees → List DeferralRow → Type 0
  AreDeferrals trees deferrals = (read : Deferred) × AreRead trees read × (deferrals ≡ deferrals_of read)

  -- the rows in the pairs are exactly those of the tables
  abbrev pub ArePairs : Trees → RegisterPairs Deferred → Type 0
  ArePairs trees pairs = AreRowsOf kept_entry trees pairs.0.items
      × (AreRowsOf kept_aircraft trees pairs.1.0.items
      × (AreRowsOf kept_place trees pairs.1.1.0.items
      × (AreRowsOf kept_component trees pairs.1.1.1.0.items
      × (AreRowsOf kept_programme trees pairs.1.1.1.1.0.items
      × (AreRowsOf kept_task trees pairs.1.1.1.1.1.0.items
      × (AreRowsOf kept_opening trees pairs.1.1.1.1.1.1.0.items
      × (AreRowsOf kept_crs trees pairs.1.1.1.1.1.1.1.0.items
      × (AreRowsOf kept_crs_line trees pairs.1.1.1.1.1.1.1.1.0.items
      × (AreRead trees pairs.1.1.1.1.1.1.1.1.1.0
      × (AreRowsOf kept_extension trees pairs.1.1.1.1.1.1.1.1.1.1.0.items
      × (AreRowsOf kept_sector2_rows trees pairs.1.1.1.1.1.1.1.1.1.1.1.0.items
      × AreRowsOf kept_span2 trees pairs.1.1.1.1.1.1.1.1.1.1.1.1.items)))))))))))

  -- the schema has each of the tables
  abbrev pub AreIn : Schema → Type 0
  AreIn schema = kept_entry.IsIn schema × (kept_aircraft.IsIn schema × (kept_place.IsIn schema × (kept_component.IsIn schema × (kept_programme.IsIn schema × (kept_task.IsIn schema × (kept_opening.IsIn schema × (kept_crs.IsIn schema × (kept_crs_line.IsIn schema × (HasDeferrals schema × (kept_extension.IsIn schema × (kept_sector2_rows.IsIn schema × kept_span2.IsIn schema)))))))))))

  -- a schema with the tables of the registers has them
  pub all_in : (schema : Schema) → HasRegistersBy HasDeferrals schema → AreIn schema
  all_in schema has = (has.entries, (has.aircraft, (has.places, (has.components, (has.programmes, (has.tasks, (has.openings, (has.releases, (has.release_lines, (has.deferrals, (has.extensions, (has.sectors, has.spans))))))))))))

  -- the rows that stand in such pairs are those of the tables
  pub stored_in : (trees : Trees) (pairs : RegisterPairs Deferred) (rows : FileRows) → AreInPairs deferrals_of pairs rows → ArePairs trees pairs → AreRegistersBy AreDeferrals trees rows
  stored_in trees pairs rows is are = record {
    registers = record {
      entries = stored_by kept_entry trees pairs.0.items rows.registers.entries.items is.entries are.0;
      aircraft = stored_by kept_aircraft trees pairs.1.0.items rows.registers.rows.aircraft.items is.aircraft are.1.0;
      places = stored_by kept_place trees pairs.1.1.0.items rows.registers.rows.places.items is.places are.1.1.0;
      components = stored_by kept_component trees pairs.1.1.1.0.items rows.registers.rows.components.items is.components are.1.1.1.0;
      programmes = stored_by kept_programme trees pairs.1.1.1.1.0.items rows.registers.rows.programmes.items is.programmes are.1.1.1.1.0;
      tasks = stored_by kept_task trees pairs.1.1.1.1.1.0.items rows.registers.rows.tasks.items is.tasks are.1.1.1.1.1.0;
      openings = stored_by kept_opening trees pairs.1.1.1.1.1.1.0.items rows.registers.rows.openings.items is.openings are.1.1.1.1.1.1.0;
      releases = stored_by kept_crs trees pairs.1.1.1.1.1.1.1.0.items rows.registers.rows.releases.items is.releases are.1.1.1.1.1.1.1.0;
      release_lines = stored_by kept_crs_line trees pairs.1.1.1.1.1.1.1.1.0.items rows.registers.rows.release_lines.items is.release_lines are.1.1.1.1.1.1.1.1.0;
      deferrals = (pairs.1.1.1.1.1.1.1.1.1.0, are.1.1.1.1.1.1.1.1.1.0, is.deferrals);
      extensions = stored_by kept_extension trees pairs.1.1.1.1.1.1.1.1.1.1.0.items rows.registers.rows.extensions.items is.extensions are.1.1.1.1.1.1.1.1.1.1.0;
      sectors = stored_by kept_sector2 trees (map (λ (row : Sector2Row). row.sector) pairs.1.1.1.1.1.1.1.1.1.1.1.0.items) rows.registers.rows.sectors.items is.sectors (held_rows kept_sector2 (λ (row : Sector2Row). row.sector) trees pairs.1.1.1.1.1.1.1.1.1.1.1.0.items are.1.1.1.1.1.1.1.1.1.1.1.0);
    };
    spans = stored_by kept_span2 trees pairs.1.1.1.1.1.1.1.1.1.1.1.1.items rows.spans.items is.spans are.1.1.1.1.1.1.1.1.1.1.1.1;
    totals = is.totals;
    bases = is.bases;
  }

-- what is said of the deferrals says more
pub deferrals_too : (AreRead Are : Trees → List DeferralRow → Type 0) (trees : Trees) (rows : FileRows) → ((deferrals : List DeferralRow) → AreRead trees deferrals → Are trees deferrals) → AreRegistersBy AreRead trees rows → AreRegistersBy Are trees rows
deferrals_too AreRead Are trees rows so are = record {
  registers = record {
    entries = are.registers.entries;
    aircraft = are.registers.aircraft;
    places = are.registers.places;
    components = are.registers.components;
    programmes = are.registers.programmes;
    tasks = are.registers.tasks;
    openings = are.registers.openings;
    releases = are.registers.releases;
    release_lines = are.registers.release_lines;
    deferrals = so rows.registers.rows.deferrals.items are.registers.deferrals;
    extensions = are.registers.extensions;
    sectors = are.registers.sectors;
  };
  spans = are.spans;
  totals = are.totals;
  bases = are.bases;
}

-- and what a schema has of their tables
pub tables_too : (Has HasToo : Schema → Type 0) (schema : Schema) → (Has schema → HasToo schema) → HasRegistersBy Has schema → HasRegistersBy HasToo schema
tables_too Has HasToo schema so has = record {
  entries = has.entries;
  aircraft = has.aircraft;
  places = has.places;
  components = has.components;
  programmes = has.programmes;
  tasks = has.tasks;
  openings = has.openings;
  releases = has.releases;
  release_lines = has.release_lines;
  deferrals = so has.deferrals;
  extensions = has.extensions;
  sectors = has.sectors;
  spans = has.spans;
}

-- so of the registers that were read, where the tables are those of a schema that has others
pub registers_too : (Has HasToo : Schema → Type 0) (AreRead Are : Trees → List DeferralRow → Type 0) → ((schema : Schema) → HasToo schema → Has schema) → ((trees : Trees) (deferrals : List DeferralRow) → AreRead trees deferrals → Are trees deferrals)
    → (old new : State) (result : Result FileRows TableFault) → ReadsTables (HasRegistersBy Has) (AreRegistersBy AreRead) old new result → ReadsTables (HasRegistersBy HasToo) (AreRegistersBy Are) old new result
registers_too Has HasToo AreRead Are has so old new result r =
    read_too (HasRegistersBy Has) (HasRegistersBy HasToo) (AreRegistersBy AreRead) (AreRegistersBy Are) (λ schema. tables_too HasToo Has schema (has schema)) (λ trees rows. deferrals_too AreRead Are trees rows (so trees)) old new result r

-- where all deferrals stand in one table
pub one_table : (old new : State) (result : Result FileRows TableFault) → ReadsTables (HasRegistersBy kept_defect.IsIn) (AreRegistersBy (AreDeferrals kept_defect.IsIn (λ trees (read : Vec DeferralRow Global). AreRowsOf kept_defect trees read.items) (λ read. read.items))) old new result
    → ReadsTables HasRegisters AreRegisters old new result
one_table = registers_too kept_defect.IsIn kept_defect.IsIn (AreDeferrals kept_defect.IsIn (λ trees (read : Vec DeferralRow Global). AreRowsOf kept_defect trees read.items) (λ read. read.items)) (AreRowsOf kept_defect) (λ schema has. has)
    (λ trees deferrals are. stored_by kept_defect trees are.0.items deferrals are.2 are.1)

-- ── the kept rows ──

-- the tables of the kept rows of items, in a pair
abbrev pub KeptPairs : Type 0
KeptPairs = Vec TotalRow Global × Vec BaseRow Global

-- they are exactly the rows of these tables
abbrev pub AreKept : Trees → KeptPairs → Type 0
AreKept trees kept = AreRowsOf kept_total2 trees kept.0.items × AreRowsOf kept_base2 trees kept.1.items

abbrev pub AreKeptIn : Schema → Type 0
AreKeptIn schema = kept_total2.IsIn schema × kept_base2.IsIn schema

-- a schema with the tables of the layout has these
pub kept_in : (schema : Schema) → HasTables schema → AreKeptIn schema
kept_in schema has = ((facts table.Total2).is_in verified_point (file_is_up_to_3 verified_point (inr refl)) refl schema has, (facts table.Base2).is_in verified_point (file_is_up_to_3 verified_point (inr refl)) refl schema has)

-- the rows of the registers, with them, are those of all tables
pub stored_with : (trees : Trees) (registers : FileRows) (kept : KeptPairs) (rows : FileRows) → rows.registers ≡ registers.registers → rows.spans ≡ registers.spans → rows.totals ≡ kept.0 → rows.bases ≡ kept.1
    → AreRegisters trees registers × AreKept trees kept → AreStored trees rows
stored_with trees registers kept rows same fitted totals bases are = record {
  registers = subst (AreRegisterRows trees) (sym same) are.0.registers;
  spans = stored_by kept_span2 trees registers.spans.items rows.spans.items (ap (λ (v : Vec SpanRow Global). v.items) fitted) are.0.spans;
  totals = stored_by kept_total2 trees kept.0.items rows.totals.items (ap (λ (v : Vec TotalRow Global). v.items) totals) are.1.0;
  bases = stored_by kept_base2 trees kept.1.items rows.bases.items (ap (λ (v : Vec BaseRow Global). v.items) bases) are.1.1;
}

-- ── a set of tables that was read ──

bad_row : (trees : Trees) (name : TableName) → IsDamaged trees name → HasBadRow trees name
bad_row trees table.Office damaged = absurd (damaged.2 tt)
bad_row trees name damaged = damaged

module _ {V : Type 0} (IsIn : Schema → Type 0) (AreRows : Trees → V → Type 0) (in_file : (schema : Schema) → HasTables schema → IsIn schema) (old new : State) where
  pub reads_look : (result : Result V TableFault) → ReadsTables IsIn AreRows old new result → Looks AreRows old new result
  reads_look result r = record {
    found = λ clean has. r.rows clean (in_file old.now.schema has);
    cause = λ clean. caused result r.cause (r.there (schema_at verified_point) (in_file (schema_at verified_point) itself));
    damaged = λ clean has name is. bad_row old.now.trees name (damages result name is (r.damaged clean (in_file old.now.schema has) name));
    unchanged = λ clean has. r.unchanged clean (in_file old.now.schema has);
    inside = r.inside;
    within = r.within;
  }
    where
      itself : HasTables (schema_at verified_point)
      itself = record { rest = []; more = _; is = refl }

      caused : (result : Result V TableFault) → IfErr result (λ e. (e ≡ fault.Memory) ⊎ ((e ≡ fault.Store) ⊎ ((name : TableName) × (e ≡ fault.Damaged name))))
          → ((name : TableName) → IfErr result (λ e. e ≡ fault.Damaged name → Contains (schema_at verified_point).tables (table_named name))) → IfErr result IsCause
      caused (Ok v) why there = tt
      caused (Err e) (inl memory) there = inl (inl memory)
      caused (Err e) (inr (inl store)) there = inl (inr store)
      caused (Err e) (inr (inr at)) there = inr (at.0, (has_tables verified_point at.0).1 (there at.0 at.1), at.1)

      damages : (result : Result V TableFault) (name : TableName) → result ≡ Err (fault.Damaged name) → IfErr result (λ e. e ≡ fault.Damaged name → IsDamaged old.now.trees name) → IsDamaged old.now.trees name
      damages (Ok v) name is damaged = absurd cc
      damages (Err e) name is damaged = damaged (let same : e ≡ fault.Damaged name = cc in same)
