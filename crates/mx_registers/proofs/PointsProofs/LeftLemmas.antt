-- Tables that a command leaves: one lemma for all registers, and one for the tables whose rows it changes.
use Rattle.std.proofs.Common.{refl, ap, ◌∙◌, ◌≡◌, List, [], ◌∷◌, ◌++◌, Bool, true, false, cond, append-nil}
use Rattle.std.specs.Prelude.{filter, map}
use Rattle.std.specs.List.{AllByRecursion}
use Rattle.mx_book.specs.commands.Act.{Act, Entry, Deferred, Flown}
use Rattle.mx_book.specs.commands.Shape.{has_shape}
use Rattle.mx_book.specs.Book.{IsBook}
use Rattle.mx_book.specs.Judge.{judge}
use Rattle.mx_book.specs.declared.verdict.Verdict.TheVariants.{New}
use Rattle.mx_book.proofs.JudgeLemmas.{both_true}
use Rattle.mx_base.specs.declared.rows.rows.SpanRow.{SpanRow}
use Rattle.mx_registers.specs.Registers.{aircraft_by, components_by, deferrals_by, extensions_by, fittings_by, openings_by, places_by, programmes_by, release_lines_by, releases_by, removals_by, sectors_by, tasks_by}
use Rattle.mx_base.specs.declared.rows.rows.Deferral3Row.{Deferral3Row}
use Rattle.mx_registers.specs.late.Found.{found_added, found_become, found_moved, found_rows, is_found_touched, with_cycles}
use Rattle.mx_registers.proofs.LateProofs.FoundBecomes.{found_with_command}
use Rattle.mx_registers.specs.kept.Becomes.{Becomes, Change, adding, spans_become, totals_become}
use Rattle.mx_registers.specs.kept.Spans.{is_span_touched, span_ended, span_rows, spans_opened}
use Rattle.mx_registers.specs.kept.Totals.{is_among, numbers_touched, total_changed, total_rows, totals_opened}
use Rattle.mx_registers.proofs.KeptProofs.ItemNumbers.{total_rows-changed}
use Rattle.mx_registers.proofs.KeptProofs.SpanRows.{span_rows-more}
use Rattle.mx_registers.proofs.KeptProofs.TableLemmas.{register_becomes}
use Rattle.mx_registers.proofs.KeptProofs.TouchedLemmas.{spans_untouched, totals_untouched}
use Rattle.mx_base.specs.declared.point.Point.{Point}
use Rattle.mx_registers.specs.points.Standing.{AreLeft, IsLeft}
use Rattle.mx_registers.specs.points.Tables.{Line, aircraft_all, components_all, deferrals_2, deferrals_3, extensions_all, fittings_1, openings_all, places_all, programmes_all, release_lines_all, releases_all, removals_1, sectors_1, sectors_2, spans_2, stands_there, tasks_all, totals_2}

-- rows of which none passes a test that all those pass which change stay as they are
none_changed : {Row : Type 0} (touched : Row → Bool) (change : Row → Row) (rows : List Row) → AllByRecursion (λ row. touched row ≡ false → change row ≡ row) rows → filter touched rows ≡ [] → map change rows ≡ rows
none_changed touched change [] h none = refl
none_changed touched change (row ∷ rows) h none = at (touched row) refl none (none_changed touched change rows h.1)
  where
    at : (b : Bool) → touched row ≡ b → cond b (row ∷ filter touched rows) (filter touched rows) ≡ [] → (filter touched rows ≡ [] → map change rows ≡ rows) → change row ∷ map change rows ≡ row ∷ rows
    at true e n rest = (cc)
    at false e n rest = ap (λ r. r ∷ map change rows) (h.0 e) ∙ ap (λ l. row ∷ l) (rest n)

each_span : (book : List Entry) (act : Act) (rows : List SpanRow) → AllByRecursion (λ row. is_span_touched book act row ≡ false → span_ended book act row ≡ row) rows
each_span book act [] = tt
each_span book act (row ∷ rows) = (spans_untouched book act row, each_span book act rows)

-- a deferral that a command does not touch stays
found_untouched : (book : List Entry) (act : Act) (row : Deferral3Row) → is_found_touched book act row ≡ false → found_moved book act row ≡ row
found_untouched book (Flown s) row none = ap (λ c. cond {A = Deferral3Row} c (with_cycles s.cycles row) row) none
found_untouched book _ row none = refl

each_found : (book : List Entry) (act : Act) (rows : List Deferral3Row) → AllByRecursion (λ row. is_found_touched book act row ≡ false → found_moved book act row ≡ row) rows
each_found book act [] = tt
each_found book act (row ∷ rows) = (found_untouched book act row, each_found book act rows)

module _ (at : Point) (book : List Entry) (command : Entry) (b : IsBook book) (new : judge book command ≡ New) (shape : has_shape command ≡ true) where
  -- where the change of a table leaves its rows, the table has the same rows at each point
  unchanged : {Row : Type 0} (line : Line Row) (change : Change Row) → Becomes line.rows change → change book command (line.rows book) ≡ line.rows book → IsLeft line at book command
  unchanged line change becomes same = ap (filter (λ row. stands_there line at (line.number row))) (becomes book command b new shape ∙ same)

  -- so where the command adds none to a register
  without : {Row : Type 0} (line : Line Row) (by : List Entry → Act → List Row) → Becomes line.rows (adding by) → by book command.act ≡ [] → IsLeft line at book command
  without line by becomes none = unchanged line (adding by) becomes (ap (λ l. line.rows book ++ l) none ∙ append-nil (line.rows book))

  spans_left : filter (is_span_touched book command.act) (span_rows book) ≡ [] → spans_opened book command.act ≡ [] → IsLeft spans_2 at book command
  spans_left none opened =
      let rest = map (span_ended book command.act) (span_rows book) in
      unchanged spans_2 spans_become (λ book command b new shape. span_rows-more book command b new)
      (ap (λ l. rest ++ l) opened ∙ append-nil rest ∙ none_changed (is_span_touched book command.act) (span_ended book command.act) (span_rows book) (each_span book command.act (span_rows book)) none)

  totals_left : filter (is_among (numbers_touched book command.act)) (total_rows book) ≡ [] → totals_opened book command.act ≡ [] → IsLeft totals_2 at book command
  totals_left none opened =
      let rest = map (total_changed book command.act) (total_rows book) in
      unchanged totals_2 totals_become (λ book command b new shape. total_rows-changed book command.doc command.act b new (both_true _ _ shape).0)
      (ap (λ l. rest ++ l) opened ∙ append-nil rest ∙ none_changed (is_among (numbers_touched book command.act)) (total_changed book command.act) (total_rows book) (totals_untouched book command.doc command.act b new) none)

  -- what a deferral adds is added without cycles too
  none_added : (act : Act) → deferrals_by book act ≡ [] → found_added book act ≡ []
  none_added (Deferred d) none = (cc)
  none_added _ none = refl

  found_left : filter (is_found_touched book command.act) (found_rows book) ≡ [] → deferrals_by book command.act ≡ [] → IsLeft deferrals_3 at book command
  found_left none added =
      let rest = map (found_moved book command.act) (found_rows book) in
      unchanged deferrals_3 found_become (λ book command b new shape. found_with_command book command.doc command.act b new shape)
      (ap (λ l. rest ++ l) (none_added command.act added) ∙ append-nil rest ∙ none_changed (is_found_touched book command.act) (found_moved book command.act) (found_rows book) (each_found book command.act (found_rows book)) none)

  pub are_left : AreLeft at book command
  are_left = record {
    aircraft = without aircraft_all aircraft_by (register_becomes aircraft_by);
    places = without places_all places_by (register_becomes places_by);
    components = without components_all components_by (register_becomes components_by);
    programmes = without programmes_all programmes_by (register_becomes programmes_by);
    tasks = without tasks_all tasks_by (register_becomes tasks_by);
    openings = without openings_all openings_by (register_becomes openings_by);
    sectors_old = without sectors_1 sectors_by (register_becomes sectors_by);
    sectors_new = without sectors_2 sectors_by (register_becomes sectors_by);
    fittings = without fittings_1 fittings_by (register_becomes fittings_by);
    removals = without removals_1 removals_by (register_becomes removals_by);
    releases = without releases_all releases_by (register_becomes releases_by);
    release_lines = without release_lines_all release_lines_by (register_becomes release_lines_by);
    deferrals_old = without deferrals_2 deferrals_by (register_becomes deferrals_by);
    deferrals_new = found_left;
    extensions = without extensions_all extensions_by (register_becomes extensions_by);
    spans = spans_left;
    totals = totals_left;
  }
