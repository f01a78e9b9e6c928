-- From what the rows of a command make of those of each table to the book that the tables stand for.
use Rattle.std.proofs.Common.{◌≡◌, Bool, true, List, [], ◌∷◌, ◌++◌, map, All, refl, sym, subst, ◌∙◌, Some, None}
use Rattle.std.specs.Prelude.{Contains}
use Rattle.std.specs.List.Sorted.{IsPermutation}
use Rattle.std.proofs.lemmas.List.Elements.{All-append, All-cons, All-head, All-nil, All-tail}
use Rattle.std.proofs.lemmas.List.Sorted.{All-permutation, IsPermutation-sym, IsPermutation-trans}
use Rattle.sqlite.specs.Schema.{Schema}
use Rattle.sqlite.specs.Effect.{Database}
use Rattle.sqlite_catalog.specs.Listing.{IsSound}
use Rattle.mx_book.specs.commands.Act.{Act, Entry}
use Rattle.mx_book.specs.commands.Shape.{has_shape}
use Rattle.mx_book.specs.declared.verdict.Verdict.TheVariants.{New}
use Rattle.mx_book.specs.Book.{IsBook}
use Rattle.mx_book.specs.Judge.{judge}
use Rattle.mx_book.proofs.JudgeLemmas.{IsBook-entered, both_true}
use Rattle.mx_base.specs.rows.Rows.{FitsEntry, FitsAircraft, FitsPlace, FitsComponent, FitsProgramme, FitsTask, FitsOpening, FitsRelease, FitsReleaseLine, FitsDeferral, FitsExtension, FitsBase, FitsSector, FitsSpan, FitsTotal}
use Rattle.mx_base.specs.declared.rows.rows.SectorRow.{SectorRow}
use Rattle.mx_base.specs.declared.rows.rows.SpanRow.{SpanRow}
use Rattle.mx_base.specs.declared.rows.rows.TotalRow.{TotalRow}
use Rattle.mx_registers.specs.Added.{AreAdded}
use Rattle.mx_registers.specs.Registers.{aircraft_by, components_by, deferrals_by, extensions_by, openings_by, places_by, programmes_by, release_lines_by, releases_by, sectors_by, tasks_by}
use Rattle.mx_registers.specs.kept.Bases.{base_rows, bases_by}
use Rattle.mx_registers.specs.kept.Spans.{span_rows, spans_opened}
use Rattle.mx_registers.specs.kept.Totals.{total_rows, totals_opened}
use Rattle.mx_registers.proofs.KeptProofs.PutBases.{command_bases}
use Rattle.mx_row_rules.specs.changes.Puts.{has_number_of, rows_put}
use Rattle.mx_row_rules.specs.changes.Rows.{AreCommandRows, FitsHeld, held, sectors_held_by, spans_touched, totals_touched}
use Rattle.mx_row_rules.specs.declared.changes.rows.AddedRows.{AddedRows}
use Rattle.mx_row_rules.specs.declared.changes.rows.ChangedRows.{ChangedRows}
use Rattle.mx_row_rules.specs.declared.changes.rows.CommandRows.{CommandRows}
use Rattle.mx_row_rules.proofs.ChangesProofs.PutLemmas.{put_fit}
use Rattle.mx_row_rules.proofs.ChangesProofs.TouchLemmas.{spans_are_put, totals_are_put}
use Rattle.mx_layout.specs.TableName.{TableName}
use Rattle.mx_layout.specs.declared.fault.Table.TheVariants as table
use Rattle.mx_layout.specs.Names.{table_named}
use Rattle.mx_layout.specs.kept.Cells.{kept_entry, kept_aircraft, kept_place, kept_component, kept_programme, kept_task, kept_opening, kept_crs, kept_crs_line, kept_defect, kept_extension, kept_sector2_rows, kept_span2, kept_total2, kept_base2}
use Rattle.mx_layout.proofs.KeptProofs.OntoLemmas.{on_top_keeps}
use Rattle.mx_book_tables.specs.stands.Family.{Fit, FitBrought, Rows, is_at, is_register, is_there, none, of, rows_of}
use Rattle.mx_book_tables.specs.stands.Stands.{StandsInSchema}
use Rattle.mx_registers.specs.declared.points.points.TheConstants.{NEWEST_LAYOUT}
use Rattle.mx_book_tables.proofs.StandsProofs.PointLemmas.{newest_is_layout}
use Rattle.mx_book_tables.proofs.StandsProofs.FamilyLemmas.{Facts, RegisterFacts, facts, never, register_facts}
use Rattle.mx_tables.specs.inserts.Sets.{GainsRows}
use Rattle.mx_apply.specs.writing.Written.{IsSettled, written_point, is_same_base, is_same_span, is_same_total, with_added, with_changed, with_rows}
use Rattle.mx_apply.proofs.WritingProofs.CellLemmas.{bases_put_are, is_of_same_task}
use Rattle.mx_apply.proofs.WritingProofs.EnterLemmas.{base_facts, enter, span_facts, total_facts}
use Rattle.mx_apply.proofs.WritingProofs.RowLemmas.{Keeps, all_in_place_keeps}
use Rattle.mx_apply.proofs.WritingProofs.ThereLemmas.{in_settled}

-- ── in any order ──

pub added_keep : (v : AddedRows) (name : TableName) → Keeps (with_added v name)
added_keep v name = λ xs ys same.
    on_top_keeps kept_total2 _ name _ _ (on_top_keeps kept_span2 _ name _ _ (on_top_keeps kept_sector2_rows _ name _ _ (on_top_keeps kept_extension _ name _ _ (on_top_keeps kept_defect _ name _ _ (on_top_keeps kept_crs_line _ name _ _ (on_top_keeps kept_crs _ name _ _ (on_top_keeps kept_opening _ name _ _ (on_top_keeps kept_task _ name _ _ (on_top_keeps kept_programme _ name _ _ (on_top_keeps kept_component _ name _ _ (on_top_keeps kept_place _ name _ _ (on_top_keeps kept_aircraft _ name xs ys same))))))))))))

pub changed_keep : (v : ChangedRows) (name : TableName) → Keeps (with_changed v name)
changed_keep v name = λ xs ys same.
    all_in_place_keeps kept_base2 is_same_base v.bases.items name _ _ (all_in_place_keeps kept_total2 is_same_total v.totals.items name _ _ (all_in_place_keeps kept_span2 is_same_span v.spans.items name xs ys same))

pub rows_keep : (x : CommandRows) (name : TableName) → Keeps (with_rows x name)
rows_keep x name = λ xs ys same.
    added_keep x.added name _ _ (changed_keep x.changed name _ _ (on_top_keeps kept_entry (x.entry ∷ []) name xs ys same))

-- ── rows that fit ──

-- the rows that a command adds to a register fit where those that were made do
fit_of : {Row : Type 0} (Fits : Row → Type 0) (by : List Entry → Act → List Row) (rows : List Row) (book : List Entry) (command : Entry) → AreAdded Fits by rows book command → All Fits (by book command.act)
fit_of Fits by rows book command are = subst (All Fits) are.0 are.1

-- sectors fit, as rows of their register
unwrapped : (rows : List SectorRow) → All FitsHeld (map held rows) → All FitsSector rows
unwrapped [] fit = All-nil FitsSector
unwrapped (row ∷ rows) fit =
    let wrapped = map held rows in
    All-cons FitsSector row rows (All-head FitsHeld (held row) wrapped fit) (unwrapped rows (All-tail FitsHeld (held row) wrapped fit))

-- what stands in a register fits with what a command brings to it
more_fit : (name : TableName) (f : Rows) → Facts name f → RegisterFacts f → is_register f ≡ true → is_there f written_point ≡ true → (book : List Entry) (command : Entry) → Fit f written_point book → FitBrought f written_point book command → Fit f written_point (book ++ command ∷ [])
more_fit name (of k line change (Some read)) facts register is there book command fit fits =
    let before = facts.whole NEWEST_LAYOUT newest_is_layout there book in
    subst (All k.Fits) (sym (facts.whole NEWEST_LAYOUT newest_is_layout there (book ++ command ∷ []) ∙ register.more book command))
    (All-append k.Fits (line.rows book) (change book command []) (subst (All k.Fits) before fit) (fits there))
more_fit name (of k line change None) facts register other there book command fit fits = never other
more_fit name none facts register other there book command fit fits = never other

module _ (book : List Entry) (command : Entry) (x : CommandRows) (due : AreCommandRows book command x) (b : IsBook book) (new : judge book command ≡ New) (shape : has_shape command ≡ true) where
  abbrev after : List Entry
  after = book ++ command ∷ []

  -- what the command brings to a register fits
  brought_fit : (name : TableName) → is_register (rows_of name) ≡ true → is_at written_point name ≡ true → FitBrought (rows_of name) written_point book command
  brought_fit table.Entry is there = λ _. All-cons FitsEntry _ [] (subst FitsEntry due.entry due.entry_fits) (All-nil FitsEntry)
  brought_fit table.Aircraft is there = λ _. fit_of FitsAircraft aircraft_by x.added.aircraft.items book command due.added.aircraft
  brought_fit table.Place is there = λ _. fit_of FitsPlace places_by x.added.places.items book command due.added.places
  brought_fit table.Component is there = λ _. fit_of FitsComponent components_by x.added.components.items book command due.added.components
  brought_fit table.Programme is there = λ _. fit_of FitsProgramme programmes_by x.added.programmes.items book command due.added.programmes
  brought_fit table.Task is there = λ _. fit_of FitsTask tasks_by x.added.tasks.items book command due.added.tasks
  brought_fit table.Opening is there = λ _. fit_of FitsOpening openings_by x.added.openings.items book command due.added.openings
  brought_fit table.Crs is there = λ _. fit_of FitsRelease releases_by x.added.releases.items book command due.added.releases
  brought_fit table.CrsLine is there = λ _. fit_of FitsReleaseLine release_lines_by x.added.release_lines.items book command due.added.release_lines
  brought_fit table.Defect is there = λ _. fit_of FitsDeferral deferrals_by x.added.deferrals.items book command due.added.deferrals
  brought_fit table.Extension is there = λ _. fit_of FitsExtension extensions_by x.added.extensions.items book command due.added.extensions
  brought_fit table.Sector2 is there = λ _. unwrapped (sectors_by book command.act) (fit_of FitsHeld sectors_held_by x.added.sectors.items book command due.added.sectors)
  brought_fit table.Sector1 is there = never there
  brought_fit table.Fit1 is there = never there
  brought_fit table.Removal1 is there = never there
  brought_fit _ is there = never is

  -- kept rows fit
  put_all_fit : {X : Type 0} (Fits : X → Type 0) (same : X → X → Bool) (more news old all : List X) → All Fits more → All Fits news → All Fits old → IsPermutation (more ++ rows_put same news old) all → All Fits all
  put_all_fit Fits same more news old all tops puts fit is = All-permutation Fits _ all is (All-append Fits more (rows_put same news old) tops (put_fit Fits same news old puts fit))

  spans_fit : All FitsSpan (span_rows book) → All FitsSpan (span_rows after)
  spans_fit fit =
      put_all_fit FitsSpan (has_number_of (λ (row : SpanRow). row.fit_seq)) (spans_opened book command.act) (spans_touched book command.act) (span_rows book) (span_rows after)
      (fit_of FitsSpan spans_opened x.added.spans.items book command due.added.spans) (fit_of FitsSpan spans_touched x.changed.spans.items book command due.changed.spans) fit (spans_are_put book command b new)

  totals_fit : All FitsTotal (total_rows book) → All FitsTotal (total_rows after)
  totals_fit fit =
      put_all_fit FitsTotal (has_number_of (λ (row : TotalRow). row.item)) (totals_opened book command.act) (totals_touched book command.act) (total_rows book) (total_rows after)
      (fit_of FitsTotal totals_opened x.added.totals.items book command due.added.totals) (fit_of FitsTotal totals_touched x.changed.totals.items book command due.changed.totals) fit (totals_are_put book command b new (both_true _ _ shape).0)

  bases_fit : All FitsBase (base_rows book) → All FitsBase (base_rows after)
  bases_fit fit =
      let news = bases_by book command.act in
      All-permutation FitsBase _ (base_rows after) (command_bases book command.doc command.act b new shape)
      (subst (All FitsBase) (bases_put_are news (base_rows book)) (put_fit FitsBase is_of_same_task news (base_rows book) (fit_of FitsBase bases_by x.changed.bases.items book command due.changed.bases) fit))

  -- all rows of the book with the command fit
  rows_fit : (name : TableName) → is_at written_point name ≡ true → Fit (rows_of name) written_point book → Fit (rows_of name) written_point after
  rows_fit table.Span2 there fit = subst (All FitsSpan) (sym (span_facts.whole NEWEST_LAYOUT newest_is_layout refl after)) (spans_fit (subst (All FitsSpan) (span_facts.whole NEWEST_LAYOUT newest_is_layout refl book) fit))
  rows_fit table.Total2 there fit = subst (All FitsTotal) (sym (total_facts.whole NEWEST_LAYOUT newest_is_layout refl after)) (totals_fit (subst (All FitsTotal) (total_facts.whole NEWEST_LAYOUT newest_is_layout refl book) fit))
  rows_fit table.Base2 there fit = subst (All FitsBase) (sym (base_facts.whole NEWEST_LAYOUT newest_is_layout refl after)) (bases_fit (subst (All FitsBase) (base_facts.whole NEWEST_LAYOUT newest_is_layout refl book) fit))
  rows_fit table.Office there fit = tt
  rows_fit table.Sector1 there fit = never there
  rows_fit table.Fit1 there fit = never there
  rows_fit table.Removal1 there fit = never there
  rows_fit table.Defect3 there fit = never there
  rows_fit table.Done3 there fit = never there
  rows_fit name there fit = more_fit name (rows_of name) (facts name) (register_facts name) refl there book command fit (brought_fit name refl there)

  -- tables that stood for the book, and whose rows became what the rows of the command make of them, stand for the book with it
  pub stand : (schema : Schema) → IsSettled schema → (old next : Database) → old.schema ≡ schema → StandsInSchema schema written_point old.trees book → GainsRows (with_rows x) old next → (next.schema ≡ schema) × StandsInSchema schema written_point next.trees after
  stand schema settled old next has stands gains =
      let new_has = gains.schema ∙ has in
      let in_old : (name : TableName) → is_at written_point name ≡ true → Contains old.schema.tables (table_named name) = λ name there.
      subst (λ (s : Schema). Contains s.tables (table_named name)) (sym has) (in_settled schema settled name there) in (
        new_has,
        record {
          lies = record {
            sound = subst (λ (s : Schema). IsSound s next.trees) new_has (gains.sound (subst (λ (s : Schema). IsSound s old.trees) (sym has) stands.lies.sound));
            rises = λ name there. gains.rises name (subst (λ (s : Schema). Contains s.tables (table_named name)) (sym has) there) (stands.lies.rises name there);
          };
          rows = record {
            is_book = IsBook-entered book command b shape new;
            point = stands.rows.point;
            fit = λ name there. rows_fit name there (stands.rows.fit name there);
            tables = λ name there. IsPermutation-trans _ _ _ (IsPermutation-sym _ _ (enter book command x due b new shape name there)) (IsPermutation-trans _ _ _ (rows_keep x name _ _ (stands.rows.tables name there)) (gains.tables name (in_old name there)));
          };
        },
      )
