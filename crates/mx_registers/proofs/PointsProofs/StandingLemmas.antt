-- Which rows stand where at each point: each in one table alone, none where there is no such table, all at a settled point.
use Rattle.std.proofs.Common.{arith, refl, sym, subst, ap, ◌∙◌, ◌≡◌, ℕ, zero, suc, List, ◌++◌, Bool, true, false, nat_eq, ◌&&◌, ◌||◌, Option, Some, None}
use Rattle.std.specs.Prelude.{filter, map, nat_le, nat_lt, not, IsPermutation}
use Rattle.std.specs.List.{filter_map}
use Rattle.std.specs.Option.{option_map_or}
use Rattle.std.proofs.lemmas.Bool.Decides.{Decides-eqb}
use Rattle.std.proofs.lemmas.List.Elements.{filter_agree}
use Rattle.std.proofs.lemmas.List.Sorted.{IsPermutation-append, IsPermutation-refl, IsPermutation-trans}
use Rattle.mx_book.specs.commands.Act.{Entry}
use Rattle.mx_book.specs.Book.{IsBook}
use Rattle.mx_base.specs.declared.rows.rows.FittingRow.{FittingRow}
use Rattle.mx_base.specs.declared.rows.rows.RemovalRow.{RemovalRow}
use Rattle.mx_base.specs.declared.rows.rows.SpanRow.{SpanRow}
use Rattle.mx_registers.specs.Registers.{fitting_rows, removal_rows, sector_rows}
use Rattle.mx_registers.specs.kept.Spans.{fitting_in, removal_in, span_rows}
use Rattle.mx_registers.proofs.KeptProofs.SpanRegisters.{fittings_in_spans, removals_in_spans}
use Rattle.mx_base.specs.declared.point.Point.{Point}
use Rattle.mx_registers.specs.points.Points.{Step, has_moved, is_past, is_within_step, step_of}
use Rattle.mx_registers.specs.points.Standing.{AreAlwaysWhole, AreEmptyWhereAbsent, AreWholeWhereSettled, IsWholeWhereSettled, StandOnce}
use Rattle.mx_registers.specs.points.Tables.{Line, aircraft_all, bases_2, components_all, deferrals_2, deferrals_3, done_3, entries_all, extensions_all, fittings_1, is_table_at, openings_all, places_all, programmes_all, release_lines_all, releases_all, removals_1, rows_at, sectors_1, sectors_2, spans_2, stands_there, tasks_all, totals_2}
use Rattle.mx_registers.proofs.PointsProofs.StepLemmas.{lt_true}
use Rattle.mx_registers.proofs.PointsProofs.OneBook.{absent_none, all_there, deferrals_once, each_once, filter_through, new_is, split}

-- ── each row once ──

module _ (at : Point) (book : List Entry) where
  abbrev step : Step
  step = step_of 1 2

  abbrev is_moved : ℕ → Bool
  is_moved number = has_moved at step number

  moved_spans : rows_at spans_2 at book ≡ filter (λ (row : SpanRow). is_moved row.component) (span_rows book)
  moved_spans = new_is span_rows (λ (row : SpanRow). row.component) step at book

  moved_fittings : filter (λ (row : FittingRow). is_moved row.component) (fitting_rows book) ≡ map fitting_in (rows_at spans_2 at book)
  moved_fittings =
      ap (filter (λ (row : FittingRow). is_moved row.component)) (fittings_in_spans book)
      ∙ filter_through fitting_in (λ (row : FittingRow). is_moved row.component) (span_rows book) ∙ ap (map fitting_in) (sym moved_spans)

  fittings_once : IsPermutation (fitting_rows book) (map fitting_in (rows_at spans_2 at book) ++ rows_at fittings_1 at book)
  fittings_once = subst (λ l. IsPermutation (fitting_rows book) (l ++ rows_at fittings_1 at book)) moved_fittings (split fitting_rows (λ (row : FittingRow). row.component) step at book)

  removals_once : IsBook book → IsPermutation (removal_rows book) (filter_map removal_in (rows_at spans_2 at book) ++ rows_at removals_1 at book)
  removals_once b =
      let moved = λ (row : RemovalRow). is_moved row.component in
      let left = rows_at removals_1 at book in
      let there : IsPermutation (filter moved (removal_rows book)) (filter_map removal_in (rows_at spans_2 at book)) =
      subst (λ l. IsPermutation (filter moved (removal_rows book)) (filter_map removal_in l)) (sym moved_spans) (removals_in_spans is_moved book b) in
      IsPermutation-trans (removal_rows book) (filter moved (removal_rows book) ++ left) (filter_map removal_in (rows_at spans_2 at book) ++ left) (split removal_rows (λ (row : RemovalRow). row.component) step at book)
      (IsPermutation-append (filter moved (removal_rows book)) (filter_map removal_in (rows_at spans_2 at book)) left left there (IsPermutation-refl left))

-- a point that has begun the last step from layout 2 is behind the steps from layout 1
behind_first : (layout : ℕ) (step : ℕ) → (nat_lt 2 layout || (nat_eq 2 layout && nat_lt 2 step)) || (nat_eq 2 layout && nat_eq 2 step) ≡ true → nat_lt 1 layout ≡ true
behind_first zero step h = (cc)
behind_first (suc zero) step h = (cc)
behind_first (suc (suc layout)) step h = lt_true 1 (suc (suc layout)) (omega arith)

and_begun : (begun : Bool) → begun && true ≡ true → begun ≡ true
and_begun true h = refl
and_begun false h = (cc)

-- so of each item the last bases stand there, or its accomplishments
items_once : (at : Point) (item : ℕ) → is_table_at done_3 at ≡ true → stands_there bases_2 at item ≡ not (stands_there done_3 at item)
items_once at item there =
    let past : nat_lt 1 at.layout ≡ true = behind_first at.layout at.step (and_begun (is_past at (step_of 2 2) || is_within_step at (step_of 2 2)) there) in
    let done = has_moved at (step_of 2 2) item in
    ap (λ b. ((b || (nat_eq 1 at.layout && nat_lt 4 at.step)) || (is_within_step at (step_of 1 4) && nat_le item at.mark)) && not done) past
    ∙ sym (ap not (and_true done))
  where
    and_true : (b : Bool) → b && true ≡ b
    and_true true = refl
    and_true false = refl

pub stand_once : (at : Point) (book : List Entry) → IsBook book → StandOnce at book
stand_once at book b = record {
  sectors = each_once sector_rows sectors_1.number (step_of 1 1) at book;
  fittings = fittings_once at book;
  removals = removals_once at book b;
  deferrals = deferrals_once at book;
  items = items_once at;
}

-- ── none where there is no such table ──

pub empty_where_absent : (at : Point) (book : List Entry) → AreEmptyWhereAbsent at book
empty_where_absent at book = record {
  sectors_old = absent_none sectors_1 at book;
  sectors_new = absent_none sectors_2 at book;
  fittings = absent_none fittings_1 at book;
  removals = absent_none removals_1 at book;
  spans = absent_none spans_2 at book;
  totals = absent_none totals_2 at book;
  bases = absent_none bases_2 at book;
  deferrals_old = absent_none deferrals_2 at book;
  deferrals_new = absent_none deferrals_3 at book;
  done = absent_none done_3 at book;
}

-- ── all at a settled point ──

-- the steps of moves have numbers from 1
abbrev HasNumber : Option Step → Type 0
HasNumber o = option_map_or (λ step. nat_eq step.number 0) o false ≡ false

and_false : (b : Bool) → b && false ≡ false
and_false true = refl
and_false false = refl

-- no step is under way at a settled point
not_within : (at : Point) (step : Step) → nat_eq step.number 0 ≡ false → nat_eq at.step 0 ≡ true → is_within_step at step ≡ false
not_within at step some settled =
    let none = (Decides-eqb at.step 0).0 settled in
    ap (λ s. nat_eq step.layout at.layout && nat_eq step.number s) none ∙ ap (λ c. nat_eq step.layout at.layout && c) some ∙ and_false (nat_eq step.layout at.layout)

-- so a step that has begun there has moved all, and one that is not past none
moved_all : (at : Point) (o : Option Step) (number : ℕ) → HasNumber o → nat_eq at.step 0 ≡ true → option_map_or (λ step. is_past at step || is_within_step at step) o true ≡ true → option_map_or (λ step. has_moved at step number) o true ≡ true
moved_all at None number some settled begun = refl
moved_all at (Some step) number some settled begun = past (is_past at step) (is_within_step at step) (not_within at step some settled) begun
  where
    past : (past within : Bool) → within ≡ false → past || within ≡ true → past || (within && nat_le number at.mark) ≡ true
    past true within e h = refl
    past false true e h = (cc)
    past false false e h = (cc)

moved_none : (at : Point) (o : Option Step) (number : ℕ) → HasNumber o → nat_eq at.step 0 ≡ true → option_map_or (is_past at) o false ≡ false → option_map_or (λ step. has_moved at step number) o false ≡ false
moved_none at None number some settled ahead = refl
moved_none at (Some step) number some settled ahead = ap (λ w. is_past at step || (w && nat_le number at.mark)) (not_within at step some settled) ∙ or_false (is_past at step) ∙ ahead
  where
    or_false : (b : Bool) → b || false ≡ b
    or_false true = refl
    or_false false = refl

both_there : (begun past : Bool) → begun && not past ≡ true → (begun ≡ true) × (past ≡ false)
both_there true true h = (cc)
both_there true false h = (refl, refl)
both_there false past h = (cc)

whole_line : {Row : Type 0} (line : Line Row) (at : Point) (book : List Entry) → HasNumber line.brought → HasNumber line.taken → IsWholeWhereSettled line at book
whole_line line at book brought taken settled there =
    let parts = both_there (option_map_or (λ step. is_past at step || is_within_step at step) line.brought true) (option_map_or (is_past at) line.taken false) there in
    filter_agree (λ row. stands_there line at (line.number row)) (λ row. true)
    (λ row.
    let n = line.number row in
    ap (λ b. b && not (option_map_or (λ step. has_moved at step n) line.taken false)) (moved_all at line.brought n brought settled parts.0)
    ∙ ap not (moved_none at line.taken n taken settled parts.1))
    (line.rows book)
    ∙ all_there (line.rows book)

pub whole_where_settled : (at : Point) (book : List Entry) → AreWholeWhereSettled at book
whole_where_settled at book = record {
  sectors_old = whole_line sectors_1 at book refl refl;
  sectors_new = whole_line sectors_2 at book refl refl;
  fittings = whole_line fittings_1 at book refl refl;
  removals = whole_line removals_1 at book refl refl;
  spans = whole_line spans_2 at book refl refl;
  totals = whole_line totals_2 at book refl refl;
  bases = whole_line bases_2 at book refl refl;
  deferrals_old = whole_line deferrals_2 at book refl refl;
  deferrals_new = whole_line deferrals_3 at book refl refl;
  done = whole_line done_3 at book refl refl;
}

pub always_whole : (at : Point) (book : List Entry) → AreAlwaysWhole at book
always_whole at book = record {
  entries = all_there (entries_all.rows book);
  aircraft = all_there (aircraft_all.rows book);
  places = all_there (places_all.rows book);
  components = all_there (components_all.rows book);
  programmes = all_there (programmes_all.rows book);
  tasks = all_there (tasks_all.rows book);
  openings = all_there (openings_all.rows book);
  releases = all_there (releases_all.rows book);
  release_lines = all_there (release_lines_all.rows book);
  extensions = all_there (extensions_all.rows book);
}
