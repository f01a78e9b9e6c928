-- Books that give the same rows to the tables at a point are one.
use Rattle.std.proofs.Common.{arith, refl, sym, subst, ap, ◌∙◌, ◌≡◌, ℕ, ◌+◌, ◌*◌, ◌^◌, ◌≤◌, length, List, [], ◌∷◌, ◌++◌, Bool, true, false, cond, nat_le, ◌&&◌, ◌||◌, Option, Some, None}
use Rattle.std.specs.Prelude.{not, map, filter, IsPermutation}
use Rattle.std.specs.List.{filter_map}
use Rattle.std.specs.Option.{option_map_or}
use Rattle.std.proofs.lemmas.List.Elements.{filter_agree}
use Rattle.std.proofs.lemmas.List.Sorted.{IsPermutation-refl, IsPermutation-sym, IsPermutation-trans, IsPermutation-append, IsPermutation-filter_both, IsPermutation-map}
use Rattle.mx_book.specs.commands.Act.{Entry}
use Rattle.mx_book.specs.Book.{IsBook}
use Rattle.mx_base.specs.declared.rows.rows.AircraftRow.{AircraftRow}
use Rattle.mx_base.specs.declared.rows.rows.ComponentRow.{ComponentRow}
use Rattle.mx_base.specs.declared.rows.rows.Deferral3Row.{Deferral3Row}
use Rattle.mx_base.specs.declared.rows.rows.DeferralRow.{DeferralRow}
use Rattle.mx_base.specs.declared.rows.rows.EntryRow.{EntryRow}
use Rattle.mx_base.specs.declared.rows.rows.ExtensionRow.{ExtensionRow}
use Rattle.mx_base.specs.declared.rows.rows.FittingRow.{FittingRow}
use Rattle.mx_base.specs.declared.rows.rows.OpeningRow.{OpeningRow}
use Rattle.mx_base.specs.declared.rows.rows.ProgrammeRow.{ProgrammeRow}
use Rattle.mx_base.specs.declared.rows.rows.ReleaseRow.{ReleaseRow}
use Rattle.mx_base.specs.declared.rows.rows.RemovalRow.{RemovalRow}
use Rattle.mx_base.specs.declared.rows.rows.SectorRow.{SectorRow}
use Rattle.mx_base.specs.rows.Rising.{IsRising}
use Rattle.mx_base.specs.rows.Rows.{place_key, task_key, release_line_key}
use Rattle.mx_registers.specs.Registers.{sector_rows, fitting_rows, removal_rows, entry_rows, aircraft_rows, place_rows, component_rows, programme_rows, task_rows, opening_rows, release_rows, release_line_rows, deferral_rows, extension_rows}
use Rattle.mx_registers.proofs.MergeLemmas.{HaveSameRegisters, book_once}
use Rattle.mx_base.proofs.RowsProofs.SortedLemmas.{sorted_once, IsFrom-rising}
use Rattle.mx_registers.proofs.RegisterLemmas.{entry_rows-rising, aircraft_rows-rising, place_rows-rising, component_rows-rising, programme_rows-rising, task_rows-rising, opening_rows-rising, sector_rows-rising, fitting_rows-rising, removal_rows-rising, release_rows-rising, release_line_rows-rising, deferral_rows-rising, extension_rows-rising}
use Rattle.mx_base.specs.declared.point.Point.{Point}
use Rattle.mx_base.specs.declared.rows.rows.SpanRow.{SpanRow}
use Rattle.mx_registers.specs.kept.Spans.{fitting_in, removal_in, span_rows}
use Rattle.mx_registers.specs.late.Found.{found_rows}
use Rattle.mx_registers.proofs.LateProofs.FoundBecomes.{found_of_deferrals}
use Rattle.mx_registers.specs.points.Points.{Step, has_moved, is_past, is_within_step, step_of}
use Rattle.mx_registers.specs.points.Same.{GiveSame, GiveSameRegisters}
use Rattle.mx_registers.specs.points.Tables.{Line, fittings_1, is_table_at, removals_1, rows_at, sectors_1, spans_2, stands_there, always, entries_all, aircraft_all, places_all, components_all, programmes_all, tasks_all, openings_all, releases_all, release_lines_all, deferrals_2, deferrals_3, extensions_all}
use Rattle.mx_registers.proofs.KeptProofs.SpanRegisters.{fittings_in_spans, removals_in_spans}

-- two rising lists of the same rows are one
rising_once : {Row : Type 0} (key : Row → ℕ) (low high limit : ℕ) (xs ys : List Row) → IsRising key low xs high → IsRising key low ys limit → IsPermutation xs ys → xs ≡ ys
rising_once key low high limit xs ys up also perm = sorted_once key low low high xs ys up (IsFrom-rising key low limit ys also) perm

-- ── where there is no such table, no row stands in it ──

filter_none : {X : Type 0} (p : X → Bool) (xs : List X) → ((x : X) → p x ≡ false) → filter p xs ≡ []
filter_none p [] h = refl
filter_none p (x ∷ xs) h = ap (λ b. cond b (x ∷ filter p xs) (filter p xs)) (h x) ∙ filter_none p xs h

and_false : (b : Bool) → b && false ≡ false
and_false true = refl
and_false false = refl

-- a step that has not begun has moved nothing
not_begun : (past within : Bool) (by : Bool) → past || within ≡ false → past || (within && by) ≡ false
not_begun true within by h = (cc)
not_begun false true by h = (cc)
not_begun false false by h = refl

past_moved : (past rest : Bool) → past ≡ true → past || rest ≡ true
past_moved true rest h = refl
past_moved false rest h = (cc)

-- a table that is not there has not been begun, or its rows have gone
absent : (begun past moved taken : Bool) → begun && not past ≡ false → (begun ≡ false → moved ≡ false) → (past ≡ true → taken ≡ true) → moved && not taken ≡ false
absent false past moved taken h none all = ap (λ b. b && not taken) (none refl)
absent true true moved taken h none all = ap (λ b. moved && not b) (all refl) ∙ and_false moved
absent true false moved taken h none all = (cc)

module _ {Row : Type 0} (line : Line Row) (at : Point) where
  pub absent_none : (book : List Entry) → is_table_at line at ≡ false → rows_at line at book ≡ []
  absent_none book h = filter_none (λ row. stands_there line at (line.number row)) (line.rows book)
      (λ row.
      let n = line.number row in
      absent (option_map_or (λ step. is_past at step || is_within_step at step) line.brought true) (option_map_or (is_past at) line.taken false)
      (option_map_or (λ step. has_moved at step n) line.brought true) (option_map_or (λ step. has_moved at step n) line.taken false) h (none n line.brought) (all n line.taken))
    where
      none : (n : ℕ) (o : Option Step) → option_map_or (λ step. is_past at step || is_within_step at step) o true ≡ false → option_map_or (λ step. has_moved at step n) o true ≡ false
      none n None h = h
      none n (Some step) h = not_begun (is_past at step) (is_within_step at step) (nat_le n at.mark) h

      all : (n : ℕ) (o : Option Step) → option_map_or (is_past at) o false ≡ true → option_map_or (λ step. has_moved at step n) o false ≡ true
      all n None h = h
      all n (Some step) h = past_moved (is_past at step) (is_within_step at step && nat_le n at.mark) h

and_true : (b : Bool) → b && true ≡ b
and_true true = refl
and_true false = refl

module _ {Row : Type 0} (rows : List Entry → List Row) (number : Row → ℕ) (step : Step) (at : Point) where
  abbrev pub new : Line Row
  new = record { rows = rows; number = number; brought = Some step; taken = None }

  abbrev pub old : Line Row
  old = record { rows = rows; number = number; brought = None; taken = Some step }

  abbrev moved : Row → Bool
  moved row = has_moved at step (number row)

  pub new_is : (book : List Entry) → rows_at new at book ≡ filter moved (rows book)
  new_is book = filter_agree (λ row. stands_there new at (number row)) moved (λ row. and_true (moved row)) (rows book)

  -- the rows of both tables are all
  pub split : (book : List Entry) → IsPermutation (rows book) (filter moved (rows book) ++ filter (λ row. not (moved row)) (rows book))
  split book = IsPermutation-filter_both moved (λ row. not (moved row)) (λ row. refl) (rows book)

  -- so they stand each in one of both
  pub each_once : (book : List Entry) → IsPermutation (rows book) (rows_at new at book ++ rows_at old at book)
  each_once book = subst (λ l. IsPermutation (rows book) (l ++ rows_at old at book)) (sym (new_is book)) (split book)

given_or_none : {Row : Type 0} (line : Line Row) (at : Point) (one other : List Entry) → GiveSame line at one other → IsPermutation (rows_at line at one) (rows_at line at other)
given_or_none line at one other same = on (is_table_at line at) refl
  where
    on : (b : Bool) → is_table_at line at ≡ b → IsPermutation (rows_at line at one) (rows_at line at other)
    on true e = same e
    on false e =
        let none = absent_none line at in
        subst (λ l. IsPermutation l (rows_at line at other)) (sym (none one e)) (subst (λ l. IsPermutation [] l) (sym (none other e)) (IsPermutation-refl []))

-- ── rows that a step moves from one table to another ──

same_moved : {Row : Type 0} (rows : List Entry → List Row) (number : Row → ℕ) (step : Step) (at : Point) (one other : List Entry) → GiveSame (old rows number step at) at one other → GiveSame (new rows number step at) at one other → IsPermutation (rows one) (rows other)
same_moved rows number step at one other before after =
    let was = old rows number step at in
    let is = new rows number step at in
    IsPermutation-trans (rows one) (rows_at is at one ++ rows_at was at one) (rows other) (each_once rows number step at one)
    (IsPermutation-trans (rows_at is at one ++ rows_at was at one) (rows_at is at other ++ rows_at was at other) (rows other)
    (IsPermutation-append (rows_at is at one) (rows_at is at other) (rows_at was at one) (rows_at was at other) (given_or_none is at one other after) (given_or_none was at one other before))
    (IsPermutation-sym (rows other) (rows_at is at other ++ rows_at was at other) (each_once rows number step at other)))

-- ── fittings and removals ──

pub filter_through : {X Y : Type 0} (f : X → Y) (p : Y → Bool) (xs : List X) → filter p (map f xs) ≡ map f (filter (λ x. p (f x)) xs)
filter_through f p [] = refl
filter_through f p (x ∷ xs) = at (p (f x)) (filter_through f p xs)
  where
    at : (b : Bool) → filter p (map f xs) ≡ map f (filter (λ x. p (f x)) xs) → cond b (f x ∷ filter p (map f xs)) (filter p (map f xs)) ≡ map f (cond b (x ∷ filter (λ x. p (f x)) xs) (filter (λ x. p (f x)) xs))
    at true h = ap (λ l. f x ∷ l) h
    at false h = h

rising_lower : {Row : Type 0} (key : Row → ℕ) (low more high : ℕ) (xs : List Row) → low ≤ more → IsRising key more xs high → IsRising key low xs high
rising_lower key low more high [] h up = omega arith
rising_lower key low more high (x ∷ xs) h up = (omega (arith, up.0), up.1)

-- some rows of a rising list rise
rising_some : {Row : Type 0} (key : Row → ℕ) (p : Row → Bool) (low high : ℕ) (xs : List Row) → IsRising key low xs high → IsRising key low (filter p xs) high
rising_some key p low high [] up = up
rising_some key p low high (x ∷ xs) up = at (p x) (rising_some key p (key x + 1) high xs up.1)
  where
    at : (b : Bool) → IsRising key (key x + 1) (filter p xs) high → IsRising key low (cond b (x ∷ filter p xs) (filter p xs)) high
    at true rest = (up.0, rest)
    at false rest = rising_lower key low (key x + 1) high (filter p xs) (omega (arith, up.0)) rest

rising_unmapped : (low high : ℕ) (xs : List SpanRow) → IsRising (λ (row : FittingRow). row.seq) low (map fitting_in xs) high → IsRising (λ (row : SpanRow). row.fit_seq) low xs high
rising_unmapped low high [] up = up
rising_unmapped low high (x ∷ xs) up = (up.0, rising_unmapped (x.fit_seq + 1) high xs up.1)

-- the numbers of the fittings rise in the rows of the spans
pub span_rows-rising : (book : List Entry) → IsBook book → IsRising (λ (row : SpanRow). row.fit_seq) 1 (span_rows book) (length book + 1)
span_rows-rising book b = rising_unmapped 1 (length book + 1) (span_rows book) (subst (λ (l : List FittingRow). IsRising (λ (row : FittingRow). row.seq) 1 l (length book + 1)) (fittings_in_spans book) (fitting_rows-rising book b.shaped))

module _ (at : Point) (one other : List Entry) (is : IsBook one) (was : IsBook other) where
  abbrev step : Step
  step = step_of 1 2

  abbrev is_moved : ℕ → Bool
  is_moved number = has_moved at step number

  abbrev moved_spans : List Entry → List SpanRow
  moved_spans book = filter (λ (row : SpanRow). is_moved row.component) (span_rows book)

  same_spans : GiveSame spans_2 at one other → moved_spans one ≡ moved_spans other
  same_spans same =
      let number = λ (row : SpanRow). row.component in
      let given = given_or_none spans_2 at one other same in
      let perm : IsPermutation (moved_spans one) (moved_spans other) =
      subst (λ l. IsPermutation l (moved_spans other)) (new_is span_rows number step at one) (subst (λ l. IsPermutation (rows_at spans_2 at one) l) (new_is span_rows number step at other) given) in
      rising_once (λ (row : SpanRow). row.fit_seq) 1 (length one + 1) (length other + 1) (moved_spans one) (moved_spans other)
      (rising_some (λ (row : SpanRow). row.fit_seq) (λ (row : SpanRow). is_moved row.component) 1 (length one + 1) (span_rows one) (span_rows-rising one is))
      (rising_some (λ (row : SpanRow). row.fit_seq) (λ (row : SpanRow). is_moved row.component) 1 (length other + 1) (span_rows other) (span_rows-rising other was)) perm

  joined : {Row : Type 0} (rows : List Entry → List Row) (number : Row → ℕ) → IsPermutation (filter (λ row. is_moved (number row)) (rows one)) (filter (λ row. is_moved (number row)) (rows other))
      → IsPermutation (filter (λ row. not (is_moved (number row))) (rows one)) (filter (λ row. not (is_moved (number row))) (rows other)) → IsPermutation (rows one) (rows other)
  joined {Row} rows number brought left =
      let moved : Row → Bool = λ row. is_moved (number row) in
      let kept : Row → Bool = λ row. not (is_moved (number row)) in
      IsPermutation-trans (rows one) (filter moved (rows one) ++ filter kept (rows one)) (rows other) (split rows number step at one)
      (IsPermutation-trans (filter moved (rows one) ++ filter kept (rows one)) (filter moved (rows other) ++ filter kept (rows other)) (rows other)
      (IsPermutation-append (filter moved (rows one)) (filter moved (rows other)) (filter kept (rows one)) (filter kept (rows other)) brought left)
      (IsPermutation-sym (rows other) (filter moved (rows other) ++ filter kept (rows other)) (split rows number step at other)))

  moved_fittings : (book : List Entry) → filter (λ (row : FittingRow). is_moved row.component) (fitting_rows book) ≡ map fitting_in (moved_spans book)
  moved_fittings book = ap (filter (λ (row : FittingRow). is_moved row.component)) (fittings_in_spans book) ∙ filter_through fitting_in (λ (row : FittingRow). is_moved row.component) (span_rows book)

  same_fittings : GiveSame fittings_1 at one other → GiveSame spans_2 at one other → IsPermutation (fitting_rows one) (fitting_rows other)
  same_fittings before after =
      let number = λ (row : FittingRow). row.component in
      let old = given_or_none fittings_1 at one other before in
      let same : filter (λ (row : FittingRow). is_moved row.component) (fitting_rows one) ≡ filter (λ (row : FittingRow). is_moved row.component) (fitting_rows other) = moved_fittings one ∙ ap (map fitting_in) (same_spans after) ∙ sym (moved_fittings other) in
      joined fitting_rows number (subst (λ l. IsPermutation (filter (λ (row : FittingRow). is_moved row.component) (fitting_rows one)) l) same (IsPermutation-refl (filter (λ (row : FittingRow). is_moved row.component) (fitting_rows one)))) old

  same_removals : GiveSame removals_1 at one other → GiveSame spans_2 at one other → IsPermutation (removal_rows one) (removal_rows other)
  same_removals before after =
      let number = λ (row : RemovalRow). row.component in
      let old = given_or_none removals_1 at one other before in
      let moved = λ (row : RemovalRow). is_moved row.component in
      let there : IsPermutation (filter moved (removal_rows one)) (filter_map removal_in (moved_spans other)) =
      subst (λ l. IsPermutation (filter moved (removal_rows one)) (filter_map removal_in l)) (same_spans after) (removals_in_spans is_moved one is) in
      joined removal_rows number
      (IsPermutation-trans (filter moved (removal_rows one)) (filter_map removal_in (moved_spans other)) (filter moved (removal_rows other)) there
      (IsPermutation-sym (filter moved (removal_rows other)) (filter_map removal_in (moved_spans other)) (removals_in_spans is_moved other was))) old

-- ── deferrals ──

abbrev deferral_in : Deferral3Row → DeferralRow
deferral_in row = row.deferral

-- those of the new table stand there by the deferrals that they have
found_there : (at : Point) (book : List Entry) → map deferral_in (rows_at deferrals_3 at book) ≡ rows_at (new deferral_rows deferrals_2.number (step_of 2 1) at) at book
found_there at book =
    let there = λ (row : DeferralRow). stands_there deferrals_3 at row.seq in
    sym (filter_through deferral_in there (found_rows book)) ∙ ap (filter there) (found_of_deferrals book)

pub deferrals_once : (at : Point) (book : List Entry) → IsPermutation (deferral_rows book) (map deferral_in (rows_at deferrals_3 at book) ++ rows_at deferrals_2 at book)
deferrals_once at book =
    subst (λ l. IsPermutation (deferral_rows book) (l ++ rows_at deferrals_2 at book)) (sym (found_there at book)) (each_once deferral_rows deferrals_2.number (step_of 2 1) at book)

same_deferrals : (at : Point) (one other : List Entry) → GiveSame deferrals_2 at one other → GiveSame deferrals_3 at one other → IsPermutation (deferral_rows one) (deferral_rows other)
same_deferrals at one other before after =
    let found = λ (book : List Entry). map deferral_in (rows_at deferrals_3 at book) in
    let left = rows_at deferrals_2 at in
    let came : IsPermutation (found one) (found other) = IsPermutation-map deferral_in (rows_at deferrals_3 at one) (rows_at deferrals_3 at other) (given_or_none deferrals_3 at one other after) in
    IsPermutation-trans (deferral_rows one) (found one ++ left one) (deferral_rows other) (deferrals_once at one)
    (IsPermutation-trans (found one ++ left one) (found other ++ left other) (deferral_rows other)
    (IsPermutation-append (found one) (found other) (left one) (left other) came (given_or_none deferrals_2 at one other before))
    (IsPermutation-sym (deferral_rows other) (found other ++ left other) (deferrals_once at other)))

-- ── the tables that all layouts have ──

pub all_there : {X : Type 0} (xs : List X) → filter (λ x. true) xs ≡ xs
all_there [] = refl
all_there (x ∷ xs) = ap (λ l. x ∷ l) (all_there xs)

whole : {Row : Type 0} (rows : List Entry → List Row) (number : Row → ℕ) (at : Point) (one other : List Entry) → GiveSame (always rows number) at one other → IsPermutation (rows one) (rows other)
whole {Row} rows number at one other same =
    let both : IsPermutation (filter (λ (row : Row). true) (rows one)) (filter (λ (row : Row). true) (rows other)) = same refl in
    subst (λ (l : List Row). IsPermutation l (rows other)) (all_there (rows one)) (subst (λ (l : List Row). IsPermutation (filter (λ (row : Row). true) (rows one)) l) (all_there (rows other)) both)

-- ── one book ──

same_registers : (at : Point) (one other : List Entry) → IsBook one → IsBook other → GiveSameRegisters at one other → HaveSameRegisters one other
same_registers at one other is was same = record {
  entries = rising_once (λ (row : EntryRow). row.seq) 1 (length one + 1) (length other + 1) _ _ (entry_rows-rising one is.shaped) (entry_rows-rising other was.shaped) (whole entry_rows entries_all.number at one other same.entries);
  aircraft = rising_once (λ (row : AircraftRow). row.seq) 1 (length one + 1) (length other + 1) _ _ (aircraft_rows-rising one is.shaped) (aircraft_rows-rising other was.shaped) (whole aircraft_rows aircraft_all.number at one other same.aircraft);
  places = rising_once place_key (1 * 2 ^ 32) ((length one + 1) * 2 ^ 32) ((length other + 1) * 2 ^ 32) _ _ (place_rows-rising one is.shaped) (place_rows-rising other was.shaped) (whole place_rows places_all.number at one other same.places);
  components = rising_once (λ (row : ComponentRow). row.seq) 1 (length one + 1) (length other + 1) _ _ (component_rows-rising one is.shaped) (component_rows-rising other was.shaped) (whole component_rows components_all.number at one other same.components);
  programmes = rising_once (λ (row : ProgrammeRow). row.seq) 1 (length one + 1) (length other + 1) _ _ (programme_rows-rising one is.shaped) (programme_rows-rising other was.shaped) (whole programme_rows programmes_all.number at one other same.programmes);
  tasks = rising_once task_key (1 * 2 ^ 32) ((length one + 1) * 2 ^ 32) ((length other + 1) * 2 ^ 32) _ _ (task_rows-rising one is.shaped) (task_rows-rising other was.shaped) (whole task_rows tasks_all.number at one other same.tasks);
  openings = rising_once (λ (row : OpeningRow). row.seq) 1 (length one + 1) (length other + 1) _ _ (opening_rows-rising one is.shaped) (opening_rows-rising other was.shaped) (whole opening_rows openings_all.number at one other same.openings);
  sectors = rising_once (λ (row : SectorRow). row.seq) 1 (length one + 1) (length other + 1) _ _ (sector_rows-rising one is.shaped) (sector_rows-rising other was.shaped) (same_moved sector_rows sectors_1.number (step_of 1 1) at one other same.sectors_old same.sectors_new);
  fittings = rising_once (λ (row : FittingRow). row.seq) 1 (length one + 1) (length other + 1) _ _ (fitting_rows-rising one is.shaped) (fitting_rows-rising other was.shaped) (same_fittings at one other is was same.fittings same.spans);
  removals = rising_once (λ (row : RemovalRow). row.seq) 1 (length one + 1) (length other + 1) _ _ (removal_rows-rising one is.shaped) (removal_rows-rising other was.shaped) (same_removals at one other is was same.removals same.spans);
  releases = rising_once (λ (row : ReleaseRow). row.seq) 1 (length one + 1) (length other + 1) _ _ (release_rows-rising one is.shaped) (release_rows-rising other was.shaped) (whole release_rows releases_all.number at one other same.releases);
  release_lines = rising_once release_line_key (1 * 2 ^ 32) ((length one + 1) * 2 ^ 32) ((length other + 1) * 2 ^ 32) _ _ (release_line_rows-rising one is.shaped) (release_line_rows-rising other was.shaped) (whole release_line_rows release_lines_all.number at one other same.release_lines);
  deferrals = rising_once (λ (row : DeferralRow). row.seq) 1 (length one + 1) (length other + 1) _ _ (deferral_rows-rising one is.shaped) (deferral_rows-rising other was.shaped) (same_deferrals at one other same.deferrals_old same.deferrals_new);
  extensions = rising_once (λ (row : ExtensionRow). row.seq) 1 (length one + 1) (length other + 1) _ _ (extension_rows-rising one is.shaped) (extension_rows-rising other was.shaped) (whole extension_rows extensions_all.number at one other same.extensions);
}

-- books that give the same rows to the registers at a point are one
pub one_book_at : (at : Point) (one other : List Entry) → IsBook one → IsBook other → GiveSameRegisters at one other → one ≡ other
one_book_at at one other is was same = book_once one other (same_registers at one other is was same) is was
