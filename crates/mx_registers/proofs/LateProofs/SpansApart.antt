-- The spans of a component follow one another, so that a sector is within at most one of them.
use Rattle.std.proofs.Common.{arith, refl, sym, subst, ap, ◌∙◌, ◌≡◌, ℕ, ◌≤◌, ◌<◌, List, [], ◌∷◌, ◌++◌, Bool, true, false, cond, nat_eq, not, ◌&&◌, ◌||◌, Option, Some, None, append_assoc, append-nil}
use Rattle.std.specs.Prelude.{max, nat_le, find, filter, is_none, is_some, map, IfSome}
use Rattle.std.specs.List.{list_any, AllByRecursion}
use Rattle.std.specs.Option.{option_map_or}
use Rattle.std.proofs.lemmas.Bool.Decides.{nat_tests}
use Rattle.std.proofs.lemmas.List.{map-id}
use Rattle.mx_book.specs.commands.Act.{Act, Entry, Fitted, Removed}
use Rattle.mx_book.specs.commands.Bounds.{are_distinct}
use Rattle.mx_book.specs.commands.Same.{same_text}
use Rattle.mx_book.specs.declared.commands.fitting.Fitting.{Fitting}
use Rattle.mx_book.specs.declared.commands.item.Item.TheVariants.{Airframe, Component}
use Rattle.mx_book.proofs.CommandsProofs.SameLemmas.{text_same}
use Rattle.mx_book.specs.declared.verdict.Verdict.TheVariants.{New}
use Rattle.mx_book.specs.Register.{aircraft, component}
use Rattle.mx_book.specs.Book.{IsBook, is_new, is_book_from}
use Rattle.mx_book.specs.Judge.{judge}
use Rattle.mx_book.specs.Life.{clock}
use Rattle.mx_book.specs.Span.{Span, first_removal, span_begun, spans}
use Rattle.mx_book.proofs.JudgeLemmas.{both_true}
use Rattle.mx_book.proofs.PassLemmas.{new-fitting}
use Rattle.mx_registers.specs.Names.{or_zero, seq_of_tail, seq_of_serial}
use Rattle.mx_registers.proofs.NameLemmas.{tail_known}
use Rattle.mx_registers.proofs.NewLemmas.{fitted_is_known}
use Rattle.mx_base.specs.declared.rows.rows.SpanRow.{SpanRow}
use Rattle.mx_registers.specs.kept.Changes.{ended_by, IsTimed}
use Rattle.mx_registers.specs.kept.Spans.{span_row, span_rows, span_rows_from}
use Rattle.mx_base.specs.rows.Spans.{has_between}
use Rattle.mx_registers.specs.kept.Totals.{numbers_during}
use Rattle.mx_registers.proofs.KeptProofs.ClockLemmas.{spans_timed}
use Rattle.mx_registers.proofs.KeptProofs.CreditLemmas.{serial_kept}
use Rattle.mx_registers.proofs.KeptProofs.DoneLemmas.{both}
use Rattle.mx_registers.proofs.KeptProofs.JudgedLemmas.{new-timely, not_passed}
use Rattle.mx_registers.proofs.KeptProofs.ReleaseBases.{all_both}
use Rattle.mx_registers.proofs.KeptProofs.Induction.{of_each_book}
use Rattle.mx_registers.proofs.KeptProofs.KnownLemmas.{component_kept}
use Rattle.mx_registers.proofs.KeptProofs.NumbersThere.{fitted_numbers, is_on, among, not_among}
use Rattle.mx_registers.proofs.KeptProofs.SpanGrowth.{span_of, spans-more}
use Rattle.mx_registers.proofs.KeptProofs.SpanRows.{serial_number_kept}

-- ── the spans of a component follow one another ──

-- where both are of one component, the first ends by the beginning of the other
pub record IsBefore (x y : Span) : Type 0 where
  pub ended : same_text y.serial x.serial ≡ true → is_some x.to ≡ true
  pub by : same_text y.serial x.serial ≡ true → IfSome x.to (λ m. m ≤ y.from)

abbrev pub AreApart : List Span → Type 0
AreApart [] = Unit {0}
AreApart (x ∷ xs) = AllByRecursion (IsBefore x) xs × AreApart xs

-- an entry leaves when a span begins, and when one ends that has ended
from_kept : (act : Act) (x : Span) → (ended_by act x).from ≡ x.from
from_kept (Removed r) x = at (is_none x.to && same_text x.serial r.serial)
  where
    at : (b : Bool) → (cond {A = Span} b (record x { to = Some r.moment }) x).from ≡ x.from
    at true = refl
    at false = refl
from_kept _ x = refl

to_kept : (act : Act) (x : Span) → is_some x.to ≡ true → (ended_by act x).to ≡ x.to
to_kept (Removed r) x h = at x.to refl h
  where
    at : (o : Option ℕ) → x.to ≡ o → is_some o ≡ true → (cond {A = Span} (is_none x.to && same_text x.serial r.serial) (record x { to = Some r.moment }) x).to ≡ x.to
    at None e h = (cc)
    at (Some m) e h = ap (λ o. (cond {A = Span} (is_none o && same_text x.serial r.serial) (record x { to = Some r.moment }) x).to) e
to_kept _ x h = refl

still_before : (act : Act) (x y : Span) → IsBefore x y → IsBefore (ended_by act x) (ended_by act y)
still_before act x y h = record {
  ended = λ e. let same = unmoved e in ap is_some (to_kept act x (h.ended same)) ∙ h.ended same;
  by = λ e.
      let same = unmoved e in
      subst (λ (o : Option ℕ). IfSome o (λ m. m ≤ (ended_by act y).from)) (sym (to_kept act x (h.ended same)))
      (subst (λ (n : ℕ). IfSome x.to (λ m. m ≤ n)) (sym (from_kept act y)) (h.by same));
}
  where
    unmoved : same_text (ended_by act y).serial (ended_by act x).serial ≡ true → same_text y.serial x.serial ≡ true
    unmoved e =
        ap (λ (t : List ℕ). same_text t x.serial) (sym (serial_kept act y)) ∙ ap (same_text (ended_by act y).serial) (sym (serial_kept act x)) ∙ e

all_before : (act : Act) (x : Span) (ys : List Span) → AllByRecursion (IsBefore x) ys → AllByRecursion (IsBefore (ended_by act x)) (map (ended_by act) ys)
all_before act x [] h = tt
all_before act x (y ∷ ys) h = (still_before act x y h.0, all_before act x ys h.1)

still_apart : (act : Act) (xs : List Span) → AreApart xs → AreApart (map (ended_by act) xs)
still_apart act [] h = tt
still_apart act (x ∷ xs) h = (all_before act x xs h.0, still_apart act xs h.1)

all_one : {X : Type 0} (P : X → Type 0) (xs : List X) (y : X) → AllByRecursion P xs → P y → AllByRecursion P (xs ++ y ∷ [])
all_one P [] y h k = (k, tt)
all_one P (x ∷ xs) y h k = (h.0, all_one P xs y h.1 k)

one_more : (xs : List Span) (y : Span) → AreApart xs → AllByRecursion (λ x. IsBefore x y) xs → AreApart (xs ++ y ∷ [])
one_more [] y h k = (tt, tt)
one_more (x ∷ xs) y h k = (all_one (IsBefore x) xs y h.0 k.0, one_more xs y h.1 k.1)

none_found : {X : Type 0} (p : X → Bool) (xs : List X) → is_some (find p xs) ≡ false → AllByRecursion (λ x. p x ≡ false) xs
none_found p [] h = tt
none_found p (x ∷ xs) h = at (p x) refl h (none_found p xs)
  where
    at : (b : Bool) → p x ≡ b → is_some (cond b (Some x) (find p xs)) ≡ false → (is_some (find p xs) ≡ false → AllByRecursion (λ x. p x ≡ false) xs) → (p x ≡ false) × AllByRecursion (λ x. p x ≡ false) xs
    at true e h rest = (cc)
    at false e h rest = (e, rest h)

-- the spans of a component that is fitted ended by then
before_fitting : (book : List Entry) (f : Fitting) (x : Span) → clock book (Component f.serial) ≤ f.moment → same_text x.serial f.serial && is_none x.to ≡ false → IsTimed book x → IsBefore x (span_of f [])
before_fitting book f x by free timed = record { ended = λ e. ends x.to refl (same_of e); by = λ e. timely x.to (same_of e) timed.1 }
  where
    same_of : same_text f.serial x.serial ≡ true → x.serial ≡ f.serial
    same_of e = sym ((text_same f.serial x.serial).0 e)

    ends : (o : Option ℕ) → x.to ≡ o → x.serial ≡ f.serial → is_some x.to ≡ true
    ends (Some m) e s = ap is_some e
    ends None e s =
        let unended : same_text x.serial f.serial && is_none x.to ≡ true = ap (λ b. b && is_none x.to) ((text_same x.serial f.serial).1 s) ∙ ap is_none e in (cc)

    timely : (o : Option ℕ) → x.serial ≡ f.serial → IfSome o (λ m. (m ≤ clock book (Airframe x.tail)) × (m ≤ clock book (Component x.serial))) → IfSome o (λ m. m ≤ f.moment)
    timely None s t = tt
    timely (Some m) s t =
        let own : m ≤ clock book (Component f.serial) = subst (λ (c : List ℕ). m ≤ clock book (Component c)) s t.1 in omega arith

apart_with : (book : List Entry) (doc : List ℕ) (act : Act) → IsBook book → judge book (record { doc = doc; act = act }) ≡ New → AreApart (spans book) → AreApart (map (ended_by act) (spans book) ++ span_begun act [])
apart_with book doc (Fitted f) b new h =
    let by = not_passed f.moment (max (clock book (Airframe f.tail)) (clock book (Component f.serial))) (new-timely book (record { doc = doc; act = Fitted f }) new) in
    let free = (new-fitting book (record { doc = doc; act = Fitted f }) f new refl).1 in
    subst (λ xs. AreApart (xs ++ span_of f [] ∷ [])) (sym (map-id (spans book)))
    (one_more (spans book) (span_of f []) h
    (all_both (λ x. same_text x.serial f.serial && is_none x.to ≡ false) (IsTimed book) (λ x. IsBefore x (span_of f [])) (λ x shut timed. before_fitting book f x (omega arith) shut timed) (spans book)
    (none_found (λ (x : Span). same_text x.serial f.serial && is_none x.to) (spans book) free) (spans_timed book)))
apart_with book doc act b new h = subst AreApart (sym (append-nil (map (ended_by act) (spans book)))) (still_apart act (spans book) h)

abbrev SpansApart : List Entry → Type 0
SpansApart book = AreApart (spans book)

-- the spans of a component of a book follow one another
pub spans_apart : (book : List Entry) → IsBook book → AreApart (spans book)
spans_apart = of_each_book SpansApart (λ book e b shape new h. subst AreApart (sym (spans-more book e)) (apart_with book e.doc e.act b new h)) tt

-- ── a sector is within one of them at most ──

later_not : (a b : ℕ) → b < a → nat_le a b ≡ false
later_not a b h = grind (arith, nat_tests)

le_of : (a b : ℕ) → nat_le a b ≡ true → a ≤ b
le_of a b h = grind (arith, nat_tests)

neither : (p q : Bool) → p ≡ false → q ≡ false → p || q ≡ false
neither true q h k = (cc)
neither false q h k = k

and_no : (p q : Bool) → q ≡ false → p && q ≡ false
and_no true q h = h
and_no false q h = refl

not_within : (off on : ℕ) (x y : Span) → off < on → has_between off on x.from x.to ≡ true → IsBefore x y → same_text y.serial x.serial ≡ true → has_between off on y.from y.to ≡ false
not_within off on x y lands inside before same = ap (λ b. b && option_map_or (λ to. nat_le on to) y.to true) (later_not y.from off (at x.to refl (before.ended same) (before.by same)))
  where
    at : (o : Option ℕ) → x.to ≡ o → is_some o ≡ true → IfSome o (λ m. m ≤ y.from) → off < y.from
    at None e some by = (cc)
    at (Some m) e some by =
        let ends : nat_le on m ≡ true = ap (λ o. option_map_or (λ to. nat_le on to) o true) (sym e) ∙ (both (nat_le x.from off) (option_map_or (λ to. nat_le on to) x.to true) inside).1 in
        let lands_by = le_of on m ends in omega arith

pub none_within : (off on : ℕ) (tail : List ℕ) (x : Span) (ys : List Span) → off < on → has_between off on x.from x.to ≡ true → AllByRecursion (IsBefore x) ys
    → list_any (is_on (has_between off on) tail) (filter (λ (y : Span). same_text y.serial x.serial) ys) ≡ false
none_within off on tail x [] lands inside h = refl
none_within off on tail x (y ∷ ys) lands inside h = at (same_text y.serial x.serial) refl (none_within off on tail x ys lands inside h.1)
  where
    at : (b : Bool) → same_text y.serial x.serial ≡ b → list_any (is_on (has_between off on) tail) (filter (λ (y : Span). same_text y.serial x.serial) ys) ≡ false
        → list_any (is_on (has_between off on) tail) (cond b (y ∷ filter (λ (y : Span). same_text y.serial x.serial) ys) (filter (λ (y : Span). same_text y.serial x.serial) ys)) ≡ false
    at true e rest = neither (is_on (has_between off on) tail y) (list_any (is_on (has_between off on) tail) (filter (λ (y : Span). same_text y.serial x.serial) ys)) (and_no (same_text y.tail tail) (has_between off on y.from y.to) (not_within off on x y lands inside h.0 e)) rest
    at false e rest = rest

-- ── the numbers of what is credited ──

module _ (off on : ℕ) (lands : off < on) (tail : List ℕ) (a : ℕ) where
  abbrev w : ℕ → Option ℕ → Bool
  w from to = has_between off on from to

  distinct_from : (before later : List Entry) → is_book_from before later ≡ true → is_some (aircraft (before ++ later) tail) ≡ true → a ≡ or_zero (seq_of_tail (before ++ later) tail) → AreApart (spans later)
      → are_distinct nat_eq (fitted_numbers w a (span_rows_from before later)) ≡ true
  distinct_from before [] h there f apart = refl
  distinct_from before (x ∷ later) h there f apart =
      let both = both_true (is_new (judge before x)) (is_book_from (before ++ x ∷ []) later) h in
      let same = append_assoc before (x ∷ []) later in
      at x.act both.0 apart
      (λ rest. distinct_from (before ++ x ∷ []) later both.1 (subst (λ (b : List Entry). is_some (aircraft b tail) ≡ true) (sym same) there) (f ∙ ap (λ (b : List Entry). or_zero (seq_of_tail b tail)) (sym same)) rest)
      (λ n serial known e. among w tail a n serial (before ++ x ∷ []) later both.1 (subst (λ (b : List Entry). is_some (component b serial) ≡ true) (sym same) known) (subst (λ (b : List Entry). is_some (aircraft b tail) ≡ true) (sym same) there)
      (e ∙ ap (λ (b : List Entry). or_zero (seq_of_serial b serial)) (sym same)) (f ∙ ap (λ (b : List Entry). or_zero (seq_of_tail b tail)) (sym same)))
    where
      at : (act : Act) → is_new (judge before (record { doc = x.doc; act = act })) ≡ true → AreApart (span_begun act later ++ spans later)
          → (AreApart (spans later) → are_distinct nat_eq (fitted_numbers w a (span_rows_from (before ++ x ∷ []) later)) ≡ true)
          → ((n : ℕ) (serial : List ℕ) → is_some (component (before ++ x ∷ later) serial) ≡ true → n ≡ or_zero (seq_of_serial (before ++ x ∷ later) serial)
          → list_any (nat_eq n) (fitted_numbers w a (span_rows_from (before ++ x ∷ []) later)) ≡ list_any (is_on w tail) (filter (λ (y : Span). same_text y.serial serial) (spans later)))
          → are_distinct nat_eq (fitted_numbers w a (map (span_row before later) (span_begun act later) ++ span_rows_from (before ++ x ∷ []) later)) ≡ true
      at (Fitted f0) new apart rest found = chosen (w row.from row.to && nat_eq row.aircraft a) refl
        where
          row : SpanRow
          row = span_row before later (span_of f0 later)

          others : List SpanRow
          others = span_rows_from (before ++ x ∷ []) later

          chosen : (c : Bool) → w f0.moment (first_removal f0.serial later) && nat_eq (or_zero (seq_of_tail before f0.tail)) a ≡ c
              → are_distinct nat_eq (map (λ (r : SpanRow). r.component) (cond c (span_row before later (span_of f0 later) ∷ filter (λ (r : SpanRow). w r.from r.to && nat_eq r.aircraft a) (span_rows_from (before ++ x ∷ []) later)) (filter (λ (r : SpanRow). w r.from r.to && nat_eq r.aircraft a) (span_rows_from (before ++ x ∷ []) later)))) ≡ true
          chosen true e =
              let names = fitted_is_known before x.doc f0 new in
              let known : is_some (component (before ++ x ∷ later) f0.serial) ≡ true = ap is_some (component_kept before (x ∷ later) f0.serial names.1) ∙ names.1 in
              let inside = (both (w f0.moment (first_removal f0.serial later)) (nat_eq (or_zero (seq_of_tail before f0.tail)) a) e).0 in
              let none : list_any (nat_eq (or_zero (seq_of_serial before f0.serial))) (fitted_numbers w a (span_rows_from (before ++ x ∷ []) later)) ≡ false =
              found (or_zero (seq_of_serial before f0.serial)) f0.serial known (sym (serial_number_kept before (x ∷ later) f0.serial names.1))
              ∙ none_within off on tail (span_of f0 later) (spans later) lands inside apart.0 in
              ap (λ b. not b && are_distinct nat_eq (fitted_numbers w a (span_rows_from (before ++ x ∷ []) later))) none ∙ rest apart.1
          chosen false e = rest apart.1
      at _ new apart rest found = rest apart

-- the numbers of an aircraft and of what was fitted to it throughout a flight are distinct
pub numbers_distinct : (book : List Entry) (tail : List ℕ) (off on : ℕ) → IsBook book → is_some (aircraft book tail) ≡ true → off < on
    → are_distinct nat_eq (numbers_during (or_zero (seq_of_tail book tail)) off on (span_rows book)) ≡ true
numbers_distinct book tail off on b there lands =
    let a = or_zero (seq_of_tail book tail) in
    ap (λ c. not c && are_distinct nat_eq (fitted_numbers (has_between off on) a (span_rows book))) (not_among (has_between off on) tail a a tail [] book b.judged (tail_known book tail there))
    ∙ distinct_from off on lands tail a [] book b.judged there refl (spans_apart book b)
