-- What holds of the tables at every point: a row that moves stands in one table alone, a table that is not there has none, and what a command does not touch stays.
use Rattle.std.specs.Prelude.{◌≡◌, ℕ, List, [], ◌∷◌, ◌++◌, true, false, not, filter, map, nat_eq, IsPermutation}
use Rattle.std.specs.List.{filter_map}
use Rattle.mx_book.specs.commands.Act.{Act, Entry}
use Rattle.mx_registers.specs.Registers.{aircraft_by, components_by, deferral_rows, deferrals_by, extensions_by, fitting_rows, fittings_by, openings_by, places_by, programmes_by, release_lines_by, releases_by, removal_rows, removals_by, sector_rows, sectors_by, tasks_by}
use Rattle.mx_registers.specs.kept.Spans.{fitting_in, is_span_touched, removal_in, span_rows, spans_opened}
use Rattle.mx_base.specs.declared.rows.rows.Deferral3Row.{Deferral3Row}
use Rattle.mx_registers.specs.late.Found.{found_rows, is_found_touched}
use Rattle.mx_registers.specs.kept.Totals.{is_among, numbers_touched, total_rows, totals_opened}
use Rattle.mx_base.specs.declared.point.Point.{Point}
use Rattle.mx_registers.specs.points.Tables.{Line, aircraft_all, bases_2, components_all, deferrals_2, deferrals_3, done_3, entries_all, extensions_all, fittings_1, is_table_at, openings_all, places_all, programmes_all, release_lines_all, releases_all, removals_1, rows_at, sectors_1, sectors_2, spans_2, stands_there, tasks_all, totals_2}

-- the sectors stand each in one of two tables, and so do the deferrals; the fittings and removals stand in theirs or in the spans, and of each item its last bases or its accomplishments
pub record StandOnce (at : Point) (book : List Entry) : Type 0 where
  pub sectors : IsPermutation (sector_rows book) (rows_at sectors_2 at book ++ rows_at sectors_1 at book)
  pub fittings : IsPermutation (fitting_rows book) (map fitting_in (rows_at spans_2 at book) ++ rows_at fittings_1 at book)
  pub removals : IsPermutation (removal_rows book) (filter_map removal_in (rows_at spans_2 at book) ++ rows_at removals_1 at book)
  pub deferrals : IsPermutation (deferral_rows book) (map (λ (row : Deferral3Row). row.deferral) (rows_at deferrals_3 at book) ++ rows_at deferrals_2 at book)
  pub items : (item : ℕ) → is_table_at done_3 at ≡ true → stands_there bases_2 at item ≡ not (stands_there done_3 at item)

-- ── tables that are not there, and tables that are whole ──

-- where there is no such table, no row stands in it
abbrev pub IsEmptyWhereAbsent : {Row : Type 0} → Line Row → Point → List Entry → Type 0
IsEmptyWhereAbsent line at book = is_table_at line at ≡ false → rows_at line at book ≡ []

-- all rows that the book gives the table stand in it
abbrev pub IsWhole : {Row : Type 0} → Line Row → Point → List Entry → Type 0
IsWhole line at book = rows_at line at book ≡ line.rows book

-- the table is whole where there is such a table and no step is under way
abbrev pub IsWholeWhereSettled : {Row : Type 0} → Line Row → Point → List Entry → Type 0
IsWholeWhereSettled line at book = nat_eq at.step 0 ≡ true → is_table_at line at ≡ true → IsWhole line at book

-- the tables of some layouts have no row where they are not there
pub record AreEmptyWhereAbsent (at : Point) (book : List Entry) : Type 0 where
  pub sectors_old : IsEmptyWhereAbsent sectors_1 at book
  pub sectors_new : IsEmptyWhereAbsent sectors_2 at book
  pub fittings : IsEmptyWhereAbsent fittings_1 at book
  pub removals : IsEmptyWhereAbsent removals_1 at book
  pub spans : IsEmptyWhereAbsent spans_2 at book
  pub totals : IsEmptyWhereAbsent totals_2 at book
  pub bases : IsEmptyWhereAbsent bases_2 at book
  pub deferrals_old : IsEmptyWhereAbsent deferrals_2 at book
  pub deferrals_new : IsEmptyWhereAbsent deferrals_3 at book
  pub done : IsEmptyWhereAbsent done_3 at book

-- the tables of some layouts are whole where no step is under way
pub record AreWholeWhereSettled (at : Point) (book : List Entry) : Type 0 where
  pub sectors_old : IsWholeWhereSettled sectors_1 at book
  pub sectors_new : IsWholeWhereSettled sectors_2 at book
  pub fittings : IsWholeWhereSettled fittings_1 at book
  pub removals : IsWholeWhereSettled removals_1 at book
  pub spans : IsWholeWhereSettled spans_2 at book
  pub totals : IsWholeWhereSettled totals_2 at book
  pub bases : IsWholeWhereSettled bases_2 at book
  pub deferrals_old : IsWholeWhereSettled deferrals_2 at book
  pub deferrals_new : IsWholeWhereSettled deferrals_3 at book
  pub done : IsWholeWhereSettled done_3 at book

-- the tables that all layouts have are whole
pub record AreAlwaysWhole (at : Point) (book : List Entry) : Type 0 where
  pub entries : IsWhole entries_all at book
  pub aircraft : IsWhole aircraft_all at book
  pub places : IsWhole places_all at book
  pub components : IsWhole components_all at book
  pub programmes : IsWhole programmes_all at book
  pub tasks : IsWhole tasks_all at book
  pub openings : IsWhole openings_all at book
  pub releases : IsWhole releases_all at book
  pub release_lines : IsWhole release_lines_all at book
  pub extensions : IsWhole extensions_all at book

-- ── what a command does not touch ──

-- the table has the same rows with the command as without it
abbrev pub IsLeft : {Row : Type 0} → Line Row → Point → List Entry → Entry → Type 0
IsLeft line at book command = rows_at line at (book ++ command ∷ []) ≡ rows_at line at book

-- a register to which the command adds no row has the same rows with it
abbrev pub IsLeftWithout : {Row : Type 0} → Line Row → (List Entry → Act → List Row) → Point → List Entry → Entry → Type 0
IsLeftWithout line by at book command = by book command.act ≡ [] → IsLeft line at book command

-- the registers but the entries to which the command adds no row, and the new deferrals, the spans and totals if it touches none either, have the same rows with it
pub record AreLeft (at : Point) (book : List Entry) (command : Entry) : Type 0 where
  pub aircraft : IsLeftWithout aircraft_all aircraft_by at book command
  pub places : IsLeftWithout places_all places_by at book command
  pub components : IsLeftWithout components_all components_by at book command
  pub programmes : IsLeftWithout programmes_all programmes_by at book command
  pub tasks : IsLeftWithout tasks_all tasks_by at book command
  pub openings : IsLeftWithout openings_all openings_by at book command
  pub sectors_old : IsLeftWithout sectors_1 sectors_by at book command
  pub sectors_new : IsLeftWithout sectors_2 sectors_by at book command
  pub fittings : IsLeftWithout fittings_1 fittings_by at book command
  pub removals : IsLeftWithout removals_1 removals_by at book command
  pub releases : IsLeftWithout releases_all releases_by at book command
  pub release_lines : IsLeftWithout release_lines_all release_lines_by at book command
  pub deferrals_old : IsLeftWithout deferrals_2 deferrals_by at book command
  pub deferrals_new : filter (is_found_touched book command.act) (found_rows book) ≡ [] → deferrals_by book command.act ≡ [] → IsLeft deferrals_3 at book command
  pub extensions : IsLeftWithout extensions_all extensions_by at book command
  pub spans : filter (is_span_touched book command.act) (span_rows book) ≡ [] → spans_opened book command.act ≡ [] → IsLeft spans_2 at book command
  pub totals : filter (is_among (numbers_touched book command.act)) (total_rows book) ≡ [] → totals_opened book command.act ≡ [] → IsLeft totals_2 at book command
