-- The totals of a book with a new command, by the numbers of the items that it names.
use Rattle.std.proofs.Common.{arith, refl, sym, subst, ap, ◌∙◌, ◌≡◌, ℕ, List, [], ◌∷◌, ◌++◌, Bool, true, false, cond, nat_eq, ◌&&◌, ◌||◌, Some, append_assoc}
use Rattle.std.specs.Prelude.{filter, is_none, is_some, map, max}
use Rattle.std.specs.List.{list_any, AllByRecursion}
use Rattle.mx_base.specs.declared.amounts.Use.{Use}
use Rattle.mx_book.specs.commands.Act.{Act, Entry, Added, Listed, Loaded, Opened, Flown, Fitted, Removed, Released, Deferred, Extended}
use Rattle.mx_book.specs.commands.Same.{same_text, same_item}
use Rattle.mx_book.specs.commands.Shape.{act_shape}
use Rattle.mx_book.specs.declared.commands.fitting.Fitting.{Fitting}
use Rattle.mx_book.specs.declared.commands.fitting.Removal.{Removal}
use Rattle.mx_book.specs.declared.commands.deferral.Deferral.{Deferral}
use Rattle.mx_book.specs.declared.commands.item.Item.{Item}
use Rattle.mx_book.specs.declared.commands.item.Item.TheVariants.{Airframe, Component}
use Rattle.mx_book.specs.declared.commands.release.Line.{Line}
use Rattle.mx_book.specs.declared.commands.release.Release.{Release}
use Rattle.mx_book.specs.declared.verdict.Verdict.TheVariants.{New}
use Rattle.mx_book.specs.Register.{aircraft, component}
use Rattle.mx_book.specs.Book.{IsBook, is_new, is_book_from}
use Rattle.mx_book.specs.Judge.{judge, item_at as item_of_place}
use Rattle.mx_book.specs.Life.{latest, if_same, use_after}
use Rattle.mx_book.specs.Span.{span_begun, is_fitted_to}
use Rattle.mx_book.proofs.JudgeLemmas.{both_true}
use Rattle.mx_registers.specs.Names.{has_item, item_at, serial_at, or_zero, seq_of_item, seq_of_serial, seq_of_tail}
use Rattle.mx_registers.proofs.NameLemmas.{item_known, item_number, tail_known}
use Rattle.mx_registers.proofs.NewLemmas.{added_is_unknown, deferred_is_known, fitted_is_known, listed_is_unknown, released_is_known, removed_is_known}
use Rattle.mx_base.specs.declared.rows.rows.SpanRow.{SpanRow}
use Rattle.mx_base.specs.declared.rows.rows.TotalRow.{TotalRow}
use Rattle.mx_registers.specs.kept.Changes.{moments_given, sectors_given}
use Rattle.mx_registers.specs.kept.Items.{items}
use Rattle.mx_registers.specs.kept.Spans.{is_open_of, span_row, span_rows, span_rows_from}
use Rattle.mx_registers.specs.kept.Totals.{clocked_row, numbers_there, numbers_touched, total_by_number, total_grown, total_row, total_rows, totals_opened}
use Rattle.mx_registers.proofs.KeptProofs.ItemNumbers.{items_numbered, other_number, serial_at_item, tail_at_item}
use Rattle.mx_registers.proofs.KeptProofs.KnownLemmas.{aircraft_kept, other_name}
use Rattle.mx_registers.proofs.KeptProofs.LifeGrowth.{use_after_none}
use Rattle.mx_registers.proofs.KeptProofs.NumberLemmas.{number_same}
use Rattle.mx_registers.proofs.KeptProofs.NumbersThere.{eq_swap, numbers_are_there, sector_row_changed, tail_number_kept}
use Rattle.mx_registers.proofs.KeptProofs.SetClock.{given_there, if_latest}
use Rattle.mx_registers.proofs.KeptProofs.SpanGrowth.{same_sym, span_of}
use Rattle.mx_registers.proofs.KeptProofs.TotalRows.{items_there, total_rows-more}

-- ── the aircraft of the open spans of a component, and the components of those of an aircraft ──

any_picked : (p : SpanRow → Bool) (f : SpanRow → ℕ) (n : ℕ) (rows : List SpanRow) → list_any (nat_eq n) (map f (filter p rows)) ≡ list_any (λ row. p row && nat_eq n (f row)) rows
any_picked p f n [] = refl
any_picked p f n (x ∷ rows) = at (p x) (any_picked p f n rows)
  where
    at : (b : Bool) → list_any (nat_eq n) (map f (filter p rows)) ≡ list_any (λ row. p row && nat_eq n (f row)) rows
        → list_any (nat_eq n) (map f (cond b (x ∷ filter p rows) (filter p rows))) ≡ (b && nat_eq n (f x)) || list_any (λ row. p row && nat_eq n (f row)) rows
    at true rest = ap (λ c. nat_eq n (f x) || c) rest
    at false rest = rest

any_agree : (p q : SpanRow → Bool) → ((row : SpanRow) → p row ≡ q row) → (rows : List SpanRow) → list_any p rows ≡ list_any q rows
any_agree p q same [] = refl
any_agree p q same (x ∷ rows) = ap (λ b. b || list_any p rows) (same x) ∙ ap (λ b. q x || b) (any_agree p q same rows)

turn : (o p q : Bool) → (o && p) && q ≡ (o && q) && p
turn true true true = refl
turn true true false = refl
turn true false true = refl
turn true false false = refl
turn false p q = refl

swapped : (a c : ℕ) (rows : List SpanRow)
    → list_any (nat_eq a) (map (λ (row : SpanRow). row.aircraft) (filter (is_open_of c) rows)) ≡ list_any (nat_eq c) (map (λ (row : SpanRow). row.component) (filter (λ (row : SpanRow). is_none row.to && nat_eq row.aircraft a) rows))
swapped a c rows =
    any_picked (is_open_of c) (λ (row : SpanRow). row.aircraft) a rows
    ∙ any_agree (λ row. is_open_of c row && nat_eq a row.aircraft) (λ row. (is_none row.to && nat_eq row.aircraft a) && nat_eq c row.component)
    (λ row. ap (λ b. (is_none row.to && nat_eq row.component c) && b) (eq_swap a row.aircraft) ∙ turn (is_none row.to) (nat_eq row.component c) (nat_eq row.aircraft a) ∙ ap (λ b. (is_none row.to && nat_eq row.aircraft a) && b) (eq_swap row.component c)) rows
    ∙ sym (any_picked (λ (row : SpanRow). is_none row.to && nat_eq row.aircraft a) (λ (row : SpanRow). row.component) c rows)

-- the number of a component is that of no aircraft in the rows of the spans
module _ (p : SpanRow → Bool) (n : ℕ) where
  abbrev aircraft_in : List SpanRow → List ℕ
  aircraft_in rows = map (λ (row : SpanRow). row.aircraft) (filter p rows)

  none_more : (row : SpanRow) (rows : List SpanRow) → nat_eq n row.aircraft ≡ false → list_any (nat_eq n) (aircraft_in rows) ≡ false → list_any (nat_eq n) (aircraft_in (row ∷ rows)) ≡ false
  none_more row rows e rest = at (p row)
    where
      at : (c : Bool) → list_any (nat_eq n) (map (λ (row : SpanRow). row.aircraft) (cond c (row ∷ filter p rows) (filter p rows))) ≡ false
      at true = ap (λ d. d || list_any (nat_eq n) (aircraft_in rows)) e ∙ rest
      at false = rest

  not_aircraft : (serial : List ℕ) (before later : List Entry) → is_book_from before later ≡ true → serial_at (before ++ later) n ≡ Some serial → list_any (nat_eq n) (aircraft_in (span_rows_from before later)) ≡ false
  not_aircraft serial before [] h e = refl
  not_aircraft serial before (x ∷ later) h e =
      let both = both_true (is_new (judge before x)) (is_book_from (before ++ x ∷ []) later) h in
      let same = append_assoc before (x ∷ []) later in
      at x.act both.0 (not_aircraft serial (before ++ x ∷ []) later both.1 (subst (λ (b : List Entry). serial_at b n ≡ Some serial) (sym same) e))
    where
      at : (act : Act) → is_new (judge before (record { doc = x.doc; act = act })) ≡ true → list_any (nat_eq n) (aircraft_in (span_rows_from (before ++ x ∷ []) later)) ≡ false
          → list_any (nat_eq n) (aircraft_in (map (span_row before later) (span_begun act later) ++ span_rows_from (before ++ x ∷ []) later)) ≡ false
      at (Fitted f0) new rest =
          let whole = before ++ x ∷ later in
          let names = fitted_is_known before x.doc f0 new in
          let row = span_row before later (span_of f0 later) in
          let a = or_zero (seq_of_tail whole f0.tail) in
          let known : is_some (aircraft whole f0.tail) ≡ true = ap is_some (aircraft_kept before (x ∷ later) f0.tail names.0) ∙ names.0 in
          let other : nat_eq n row.aircraft ≡ false =
          ap (nat_eq n) (sym (tail_number_kept before (x ∷ later) f0.tail names.0)) ∙ eq_swap n a ∙ other_number whole a n f0.tail serial (tail_known whole f0.tail known) e in
          none_more row (span_rows_from (before ++ x ∷ []) later) other rest
      at _ new rest = rest

-- ── the moment that a command gives the clock of an item, by its number ──

first_of_two : (p q u : Bool) → p ≡ u → q ≡ false → p || (q || false) ≡ u
first_of_two p q u h k = ap (λ d. d || (q || false)) h ∙ at u q k
  where
    at : (u q : Bool) → q ≡ false → u || (q || false) ≡ u
    at true q k = refl
    at false q k = ap (λ d. d || false) k

second_of_two : (p q u : Bool) → p ≡ false → q ≡ u → p || (q || false) ≡ u
second_of_two p q u h k = ap (λ d. d || (q || false)) h ∙ ap (λ d. d || false) k ∙ at u
  where
    at : (u : Bool) → u || false ≡ u
    at true = refl
    at false = refl

first_alone : (p q u : Bool) → p ≡ u → q ≡ false → p || q ≡ u
first_alone p q u h k = ap (λ d. d || q) h ∙ ap (λ d. u || d) k ∙ at u
  where
    at : (u : Bool) → u || false ≡ u
    at true = refl
    at false = refl

second_alone : (p q u : Bool) → p ≡ false → q ≡ u → p || q ≡ u
second_alone p q u h k = ap (λ d. d || q) h ∙ k

pub none_given : (a b : List ℕ) (m : ℕ) → same_text a b ≡ false → latest (if_same a b m) ≡ 0
none_given a b m e = ap (λ c. latest (cond c (m ∷ []) [])) e

module _ (book : List Entry) (doc : List ℕ) (n : ℕ) (b : IsBook book) where
  -- the number is that of another item exactly where this is the item
  pub own_number : (named item : Item) → has_item book named ≡ true → item_at book n ≡ Some item → nat_eq n (or_zero (seq_of_item book named)) ≡ same_item named item
  own_number named item known h = eq_swap n (or_zero (seq_of_item book named)) ∙ number_same book named item n b known h

  -- the latest of a moment that is given where a test holds
  moment_where : (m : ℕ) (test there : Bool) → there ≡ test → latest (cond test (m ∷ []) []) ≡ cond there m 0
  moment_where m test there e = if_latest test m ∙ ap (λ c. cond c m 0) (sym e)

  pub fitting_moves : (f : Fitting) (item : Item) → judge book (record { doc = doc; act = Fitted f }) ≡ New → item_at book n ≡ Some item
      → latest (moments_given book item (Fitted f)) ≡ cond (list_any (nat_eq n) (numbers_touched book (Fitted f))) f.moment 0
  fitting_moves f (Airframe t) new h =
      let names = fitted_is_known book doc f (ap is_new new) in
      moment_where f.moment (same_text f.tail t) _ (first_of_two _ _ (same_text f.tail t) (own_number (Airframe f.tail) (Airframe t) names.0 h) (own_number (Component f.serial) (Airframe t) names.1 h))
  fitting_moves f (Component s) new h =
      let names = fitted_is_known book doc f (ap is_new new) in
      moment_where f.moment (same_text f.serial s) _ (second_of_two _ _ (same_text f.serial s) (own_number (Airframe f.tail) (Component s) names.0 h) (own_number (Component f.serial) (Component s) names.1 h))

  pub removal_moves : (r : Removal) (item : Item) → judge book (record { doc = doc; act = Removed r }) ≡ New → has_item book item ≡ true → item_at book n ≡ Some item
      → latest (moments_given book item (Removed r)) ≡ cond (list_any (nat_eq n) (numbers_touched book (Removed r))) r.moment 0
  removal_moves r (Airframe t) new known h =
      let c = or_zero (seq_of_serial book r.serial) in
      let there = removed_is_known book doc r (ap is_new new) in
      let at_c = item_known book (Component r.serial) there in
      let number : n ≡ or_zero (seq_of_tail book t) = item_number book (Airframe t) n b.judged h in
      let apart : nat_eq c n ≡ false = eq_swap c n ∙ other_number book n c t r.serial (tail_at_item book n t h) (serial_at_item book c r.serial at_c) in
      let fitted : list_any (nat_eq n) (map (λ (row : SpanRow). row.aircraft) (filter (is_open_of c) (span_rows book))) ≡ is_fitted_to book t r.serial =
      swapped n c (span_rows book)
      ∙ sym (ap (λ d. d || list_any (nat_eq c) (map (λ (row : SpanRow). row.component) (filter (λ (row : SpanRow). is_none row.to && nat_eq row.aircraft n) (span_rows book)))) apart)
      ∙ ap (λ m. list_any (nat_eq c) (numbers_there m (span_rows book))) number
      ∙ numbers_are_there book t c (Component r.serial) b known there at_c in
      moment_where r.moment (is_fitted_to book t r.serial) _ (second_alone _ _ (is_fitted_to book t r.serial) (own_number (Component r.serial) (Airframe t) there h) fitted)
  removal_moves r (Component s) new known h =
      let there = removed_is_known book doc r (ap is_new new) in
      moment_where r.moment (same_text r.serial s) _ (first_alone _ _ (same_text r.serial s) (own_number (Component r.serial) (Component s) there h) (not_aircraft (is_open_of (or_zero (seq_of_serial book r.serial))) n s [] book b.judged (serial_at_item book n s h)))

  pub deferral_moves : (d : Deferral) (item : Item) → judge book (record { doc = doc; act = Deferred d }) ≡ New → item_at book n ≡ Some item
      → latest (moments_given book item (Deferred d)) ≡ cond (list_any (nat_eq n) (numbers_touched book (Deferred d))) d.moment 0
  deferral_moves d (Airframe t) new h =
      moment_where d.moment (same_text d.tail t) _ (first_alone _ false (same_text d.tail t) (own_number (Airframe d.tail) (Airframe t) (deferred_is_known book doc d (ap is_new new)) h) refl)
  deferral_moves d (Component s) new h =
      ap (λ c. cond c d.moment 0) (sym (first_alone _ false false (own_number (Airframe d.tail) (Component s) (deferred_is_known book doc d (ap is_new new)) h) refl))

  -- an item of the book gets no moment from a command that adds another
  pub addition_moves : (act : Act) (item : Item) → judge book (record { doc = doc; act = act }) ≡ New → has_item book item ≡ true → numbers_touched book act ≡ [] → latest (moments_given book item act) ≡ 0
  addition_moves (Added a positions) (Airframe t) new known h =
      none_given a.tail t a.as_of (same_sym a.tail t ∙ other_name (λ (x : List ℕ). is_some (aircraft book x)) t a.tail known (added_is_unknown book doc a positions (ap is_new new)))
  addition_moves (Listed c) (Component s) new known h =
      none_given c.serial s c.as_of (same_sym c.serial s ∙ other_name (λ (x : List ℕ). is_some (component book x)) s c.serial known (listed_is_unknown book doc c (ap is_new new)))
  addition_moves (Added a positions) (Component s) new known h = refl
  addition_moves (Listed c) (Airframe t) new known h = refl
  addition_moves (Loaded p tasks) (Airframe t) new known h = refl
  addition_moves (Loaded p tasks) (Component s) new known h = refl
  addition_moves (Opened o) (Airframe t) new known h = refl
  addition_moves (Opened o) (Component s) new known h = refl
  addition_moves (Extended x) (Airframe t) new known h = refl
  addition_moves (Extended x) (Component s) new known h = refl
  addition_moves (Flown s) item new known h = (cc)
  addition_moves (Fitted f) item new known h = (cc)
  addition_moves (Removed r) item new known h = (cc)
  addition_moves (Released r lines) item new known h = (cc)
  addition_moves (Deferred d) item new known h = (cc)

-- ── the rows of the totals ──

abbrev row_of : ℕ → Use → ℕ → TotalRow
row_of n life clock = record { item = n; life = life; clock = clock }

-- where an item gets no sector, its total has its clock raised where its number is among those that the command names
clock_raised : (book : List Entry) (act : Act) (item : Item) (row : TotalRow) (numbers : List ℕ) (m : ℕ) → sectors_given book item act ≡ []
    → latest (moments_given book item act) ≡ cond (list_any (nat_eq row.item) numbers) m 0 → total_grown book act item row ≡ clocked_row numbers m row
clock_raised book act item row numbers m none given =
    ap (λ (u : Use). row_of row.item u (max row.clock (latest (moments_given book item act)))) (ap (λ l. use_after l row.life) none ∙ use_after_none row.life)
    ∙ ap (λ (k : ℕ). row_of row.item row.life (max row.clock k)) given
    ∙ at (list_any (nat_eq row.item) numbers)
  where
    at : (c : Bool) → row_of row.item row.life (max row.clock (cond c m 0)) ≡ cond {A = TotalRow} c (record row { clock = max row.clock m }) row
    at true = refl
    at false = let same : max row.clock 0 ≡ row.clock = omega arith in ap (row_of row.item row.life) same

-- where it gets no moment either, its total stays
pub total_stays : (book : List Entry) (act : Act) (item : Item) (row : TotalRow) → sectors_given book item act ≡ [] → latest (moments_given book item act) ≡ 0 → total_grown book act item row ≡ row
total_stays book act item row none zero =
    let clock : max row.clock (latest (moments_given book item act)) ≡ row.clock = omega arith in
    ap (λ (u : Use). row_of row.item u (max row.clock (latest (moments_given book item act)))) (ap (λ l. use_after l row.life) none ∙ use_after_none row.life)
    ∙ ap (row_of row.item row.life) clock

module _ (book : List Entry) (doc : List ℕ) (b : IsBook book) where
  pub release_moves : (r : Release) (lines : List Line) (x : ℕ × Item) → judge book (record { doc = doc; act = Released r lines }) ≡ New → item_at book x.0 ≡ Some x.1
      → latest (moments_given book x.1 (Released r lines)) ≡ cond (list_any (nat_eq x.0) (numbers_touched book (Released r lines))) r.moment 0
  release_moves r lines x new h =
      let place = item_of_place r.place in
      let known = (released_is_known book doc r lines (ap is_new new)).0 in
      given_there book r.place r.moment lines x.1
      ∙ ap (λ c. cond c r.moment 0) (sym (first_alone _ false (same_item place x.1) (own_number book doc x.0 b place x.1 known h) refl))

  by_number : (act : Act) (x : ℕ × Item) → judge book (record { doc = doc; act = act }) ≡ New → act_shape act ≡ true → has_item book x.1 ≡ true → item_at book x.0 ≡ Some x.1
      → total_grown book act x.1 (total_row book x) ≡ total_by_number book act (total_row book x)
  by_number (Flown s) x new shape known h = sector_row_changed book doc s x b new shape known h
  by_number (Fitted f) x new shape known h = clock_raised book (Fitted f) x.1 (total_row book x) (numbers_touched book (Fitted f)) f.moment refl (fitting_moves book doc x.0 b f x.1 new h)
  by_number (Removed r) x new shape known h = clock_raised book (Removed r) x.1 (total_row book x) (numbers_touched book (Removed r)) r.moment refl (removal_moves book doc x.0 b r x.1 new known h)
  by_number (Released r lines) x new shape known h = clock_raised book (Released r lines) x.1 (total_row book x) (numbers_touched book (Released r lines)) r.moment refl (release_moves r lines x new h)
  by_number (Deferred d) x new shape known h = clock_raised book (Deferred d) x.1 (total_row book x) (numbers_touched book (Deferred d)) d.moment refl (deferral_moves book doc x.0 b d x.1 new h)
  by_number (Added a positions) x new shape known h = total_stays book (Added a positions) x.1 (total_row book x) refl (addition_moves book doc x.0 b (Added a positions) x.1 new known refl)
  by_number (Listed c) x new shape known h = total_stays book (Listed c) x.1 (total_row book x) refl (addition_moves book doc x.0 b (Listed c) x.1 new known refl)
  by_number (Loaded p tasks) x new shape known h = total_stays book (Loaded p tasks) x.1 (total_row book x) refl (addition_moves book doc x.0 b (Loaded p tasks) x.1 new known refl)
  by_number (Opened o) x new shape known h = total_stays book (Opened o) x.1 (total_row book x) refl (addition_moves book doc x.0 b (Opened o) x.1 new known refl)
  by_number (Extended e) x new shape known h = total_stays book (Extended e) x.1 (total_row book x) refl (addition_moves book doc x.0 b (Extended e) x.1 new known refl)

  each_by_number : (act : Act) → judge book (record { doc = doc; act = act }) ≡ New → act_shape act ≡ true → (xs : List (ℕ × Item))
      → AllByRecursion (λ (x : ℕ × Item). has_item book x.1 ≡ true) xs → AllByRecursion (λ (x : ℕ × Item). item_at book x.0 ≡ Some x.1) xs
      → map (λ (x : ℕ × Item). total_grown book act x.1 (total_row book x)) xs ≡ map (total_by_number book act) (map (total_row book) xs)
  each_by_number act new shape [] known h = refl
  each_by_number act new shape (x ∷ xs) known h =
      ap (λ row. row ∷ map (λ (x : ℕ × Item). total_grown book act x.1 (total_row book x)) xs) (by_number act x new shape known.0 h.0)
      ∙ ap (λ l. total_by_number book act (total_row book x) ∷ l) (each_by_number act new shape xs known.1 h.1)

-- the totals with a new command, by the numbers that it names
pub totals_by_number : (book : List Entry) (doc : List ℕ) (act : Act) → IsBook book → judge book (record { doc = doc; act = act }) ≡ New → act_shape act ≡ true
    → total_rows (book ++ record { doc = doc; act = act } ∷ []) ≡ map (total_by_number book act) (total_rows book) ++ totals_opened book act
totals_by_number book doc act b new shape =
    total_rows-more book doc act b new shape
    ∙ ap (λ l. l ++ totals_opened book act) (each_by_number book doc b act new shape (items book) (items_there book b) (items_numbered book b))
