-- Lives by moments, of sectors and spans in any order.
use Rattle.std.proofs.Common.{arith, refl, sym, subst, ap, ◌∙◌, ◌≡◌, ℕ, zero, suc, ◌+◌, ◌-◌, ◌^◌, ◌≤◌, min, List, [], ◌∷◌, length, Bool, true, false, cond, ◌&&◌, nat_eq, Option, Some, drop, take, leb, ltb, eq-eqb, ne_eqb, leb-true, leb-false, ltb-true, ltb-false}
use Rattle.std.specs.Prelude.{filter, IsPermutation}
use Rattle.std.specs.List.{AllWithin}
use Rattle.std.specs.List.Sorted.{IsNonDecreasingBy}
use Rattle.mx_base.specs.declared.amounts.Use.{Use}
use Rattle.mx_base.specs.declared.rows.rows.SectorRow.{SectorRow}
use Rattle.mx_base.specs.declared.rows.rows.SpanRow.{SpanRow}
use Rattle.std.specs.Option.{option_map}
use Rattle.mx_book.specs.commands.Act.{Entry}
use Rattle.mx_book.specs.declared.commands.item.Item.{Item}
use Rattle.mx_book.specs.due.Due.{IsLife}
use Rattle.mx_book.specs.Book.{IsBook}
use Rattle.mx_book.specs.Life.{life_until, opening_of, use_or_none}
use Rattle.mx_book.proofs.LifeLemmas.{life_bounded}
use Rattle.mx_registers.specs.Names.{item_at}
use Rattle.mx_registers.specs.Registers.{sector_rows}
use Rattle.mx_registers.specs.kept.Spans.{span_rows}
use Rattle.mx_registers.specs.kept.Moments.{cycles_in, flown_by_number, flown_while, flown_while_all, flown_with, is_by, minutes_in, rows_landed, sooner, use_more}
use Rattle.mx_registers.proofs.KeptProofs.MomentRows.{cycles_total, lives_by_rows, minutes_total}
use Rattle.mx_registers.proofs.KeptProofs.Weighing.{weigh, weighed_alike}
use Rattle.mx_indexed_book.specs.moments.Flown.{ArePermuted, at_most, component_of}

-- ── the spans of a component ──

module _ (number : ℕ) where
  abbrev pub before : SpanRow → Bool
  before span = ltb (component_of span) number

  abbrev pub up_to : SpanRow → Bool
  up_to span = leb (component_of span) number

  abbrev pub own : SpanRow → Bool
  own span = nat_eq span.component number

  not_own_before : (span : SpanRow) → before span ≡ true → own span ≡ false
  not_own_before span h = let lt = ltb-true (component_of span) number h in ne_eqb span.component number (λ same. omega arith)

  not_own_behind : (span : SpanRow) → up_to span ≡ false → own span ≡ false
  not_own_behind span h = let lt = leb-false (component_of span) number h in ne_eqb span.component number (λ same. omega arith)

  own_between : (span : SpanRow) → before span ≡ false → up_to span ≡ true → own span ≡ true
  own_between span h k = let low = ltb-false (component_of span) number h in let high = leb-true (component_of span) number k in eq-eqb span.component number (omega arith)

  -- those from the first that is not before a component, as many as are up to it
  pub own_spans : (xs : List SpanRow) (first count : ℕ) → AllWithin (λ x. before x ≡ true) xs 0 first → AllWithin (λ x. before x ≡ false) xs first (length xs)
      → AllWithin (λ x. up_to x ≡ true) (drop first xs) 0 count → AllWithin (λ x. up_to x ≡ false) (drop first xs) count (length (drop first xs)) → first ≤ length xs → count ≤ length (drop first xs)
      → take count (drop first xs) ≡ filter own xs
  own_spans [] zero zero a b c d low bound = refl
  own_spans [] zero (suc count) a b c d low bound = elim bound [ ]
  own_spans [] (suc first) count a b c d low bound = elim low [ ]
  own_spans (x ∷ xs) (suc first) count a b c d low bound =
      own_spans xs first count (λ k e l m. a (suc k) e (omega arith) (omega arith)) (λ k e l m. b (suc k) e (omega arith) (omega arith)) c d (omega arith) bound
      ∙ sym (ap (λ t. cond t (x ∷ filter own xs) (filter own xs)) (not_own_before x (a 0 x (omega arith) (omega arith))))
  own_spans (x ∷ xs) zero (suc count) a b c d low bound =
      ap (λ l. x ∷ l) (own_spans xs zero count (λ k e l m. a (suc k) e (omega arith) (omega arith)) (λ k e l m. b (suc k) e (omega arith) (omega arith)) (λ k e l m. c (suc k) e (omega arith) (omega arith)) (λ k e l m. d (suc k) e (omega arith) (omega arith)) (omega arith) (omega arith))
      ∙ sym (ap (λ t. cond t (x ∷ filter own xs) (filter own xs)) (own_between x (b 0 x (omega arith) (omega arith)) (c 0 x (omega arith) (omega arith))))
  own_spans (x ∷ xs) zero zero a b c d low bound =
      own_spans xs zero zero (λ k e l m. a (suc k) e (omega arith) (omega arith)) (λ k e l m. b (suc k) e (omega arith) (omega arith)) (λ k e l m. c (suc k) e (omega arith) (omega arith)) (λ k e l m. d (suc k) e (omega arith) (omega arith)) (omega arith) (omega arith)
      ∙ sym (ap (λ t. cond t (x ∷ filter own xs) (filter own xs)) (not_own_behind x (d 0 x (omega arith) (omega arith))))

-- the same where what begins with the first is named
pub own_split : (number : ℕ) (xs rest these : List SpanRow) (first count : ℕ) → rest ≡ drop first xs → these ≡ take count rest
    → AllWithin (λ x. before number x ≡ true) xs 0 first → AllWithin (λ x. before number x ≡ false) xs first (length xs)
    → AllWithin (λ x. up_to number x ≡ true) rest 0 count → AllWithin (λ x. up_to number x ≡ false) rest count (length rest) → first ≤ length xs → count ≤ length rest
    → these ≡ filter (own number) xs
own_split number xs rest these first count e t a b c d low bound =
    t ∙ ap (take count) e
    ∙ own_spans number xs first count a b (subst (λ r. AllWithin (λ x. up_to number x ≡ true) r 0 count) e c) (subst (λ r. AllWithin (λ x. up_to number x ≡ false) r count (length r)) e d) low
    (subst (λ (r : List SpanRow). count ≤ length r) e bound)

-- what is behind some spans that stand by components stands so too
pub behind_in_order : (count : ℕ) (xs : List SpanRow) → IsNonDecreasingBy component_of xs → IsNonDecreasingBy component_of (drop count xs)
behind_in_order zero [] up = up
behind_in_order zero (x ∷ xs) up = up
behind_in_order (suc count) [] up = up
behind_in_order (suc count) (x ∷ xs) up = behind_in_order count xs (λ i j d le lt. up (suc i) (suc j) d (omega arith) (omega arith))

-- ── in any order ──

-- what passes a test, or nothing
abbrev passed : {X : Type 0} → (X → Bool) → (X → ℕ) → X → ℕ
passed p of x = cond (p x) (of x) 0

passed_weighed : {X : Type 0} (p : X → Bool) (of : X → ℕ) (xs : List X) → weigh of (filter p xs) ≡ weigh (passed p of) xs
passed_weighed p of [] = refl
passed_weighed p of (x ∷ xs) = at (p x) (passed_weighed p of xs)
  where
    at : (t : Bool) → weigh of (filter p xs) ≡ weigh (passed p of) xs → weigh of (cond t (x ∷ filter p xs) (filter p xs)) ≡ cond t (of x) 0 + weigh (passed p of) xs
    at true rest = ap (λ n. of x + n) rest
    at false rest = omega arith

pub filter_weighed : {X : Type 0} (p : X → Bool) (of : X → ℕ) (xs ys : List X) → IsPermutation xs ys → weigh of (filter p ys) ≡ weigh of (filter p xs)
filter_weighed p of xs ys same = passed_weighed p of ys ∙ weighed_alike (passed p of) xs ys same ∙ sym (passed_weighed p of xs)

abbrev used : ℕ → ℕ → Use
used minutes cycles = record { minutes = minutes; cycles = cycles }

module _ (rows others : List SectorRow) (same : IsPermutation rows others) where
  pub with_alike : (aircraft : ℕ) (until : Option ℕ) → flown_with others aircraft until ≡ flown_with rows aircraft until
  with_alike aircraft until =
      let minutes : minutes_in (rows_landed others aircraft until) ≡ minutes_in (rows_landed rows aircraft until) =
      minutes_total (rows_landed others aircraft until) ∙ filter_weighed (λ row. nat_eq row.aircraft aircraft && is_by until row.landed) (λ row. row.landed - row.took_off) rows others same ∙ sym (minutes_total (rows_landed rows aircraft until)) in
      let cycles : cycles_in (rows_landed others aircraft until) ≡ cycles_in (rows_landed rows aircraft until) =
      cycles_total (rows_landed others aircraft until) ∙ filter_weighed (λ row. nat_eq row.aircraft aircraft && is_by until row.landed) (λ row. row.cycles) rows others same ∙ sym (cycles_total (rows_landed rows aircraft until)) in
      ap (λ n. used n (cycles_in (rows_landed others aircraft until))) minutes ∙ ap (used (minutes_in (rows_landed rows aircraft until))) cycles

  while_alike : (until : Option ℕ) (span : SpanRow) → flown_while others until span ≡ flown_while rows until span
  while_alike until span =
      ap (λ (u : Use). used (u.minutes - (flown_with others span.aircraft (Some span.from)).minutes) (u.cycles - (flown_with others span.aircraft (Some span.from)).cycles)) (with_alike span.aircraft (sooner until span.to))
      ∙ ap (λ (u : Use). used ((flown_with rows span.aircraft (sooner until span.to)).minutes - u.minutes) ((flown_with rows span.aircraft (sooner until span.to)).cycles - u.cycles)) (with_alike span.aircraft (Some span.from))

  all_alike : (until : Option ℕ) (spans : List SpanRow) → flown_while_all others until spans ≡ flown_while_all rows until spans
  all_alike until [] = refl
  all_alike until (span ∷ spans) = ap (λ u. use_more u (flown_while others until span)) (all_alike until spans) ∙ ap (use_more (flown_while_all rows until spans)) (while_alike until span)

  minutes_all : (until : Option ℕ) (spans : List SpanRow) → (flown_while_all rows until spans).minutes ≡ weigh (λ span. (flown_while rows until span).minutes) spans
  minutes_all until [] = refl
  minutes_all until (span ∷ spans) = ap (λ n. (flown_while rows until span).minutes + n) (minutes_all until spans)

  cycles_all : (until : Option ℕ) (spans : List SpanRow) → (flown_while_all rows until spans).cycles ≡ weigh (λ span. (flown_while rows until span).cycles) spans
  cycles_all until [] = refl
  cycles_all until (span ∷ spans) = ap (λ n. (flown_while rows until span).cycles + n) (cycles_all until spans)

  module _ (spans behind : List SpanRow) (alike : IsPermutation spans behind) where
    spans_alike : (number : ℕ) (until : Option ℕ) → flown_while_all rows until (filter (own number) behind) ≡ flown_while_all rows until (filter (own number) spans)
    spans_alike number until =
        let minutes = minutes_all until (filter (own number) behind) ∙ filter_weighed (own number) (λ span. (flown_while rows until span).minutes) spans behind alike ∙ sym (minutes_all until (filter (own number) spans)) in
        let cycles = cycles_all until (filter (own number) behind) ∙ filter_weighed (own number) (λ span. (flown_while rows until span).cycles) spans behind alike ∙ sym (cycles_all until (filter (own number) spans)) in
        ap (λ n. used n (flown_while_all rows until (filter (own number) behind)).cycles) minutes ∙ ap (used (flown_while_all rows until (filter (own number) spans)).minutes) cycles

    -- what an item flew is the same by sectors and spans in any order
    pub flown_alike : (number : ℕ) (until : Option ℕ) → flown_by_number others behind number until ≡ flown_by_number rows spans number until
    flown_alike number until =
        ap (λ u. use_more u (flown_while_all others until (filter (own number) behind))) (with_alike number until)
        ∙ ap (use_more (flown_with rows number until)) (all_alike until (filter (own number) behind) ∙ spans_alike number until)

-- ── of a book ──

within : (life : Use) → IsLife life → at_most life ≡ life
within life h =
    let minutes : min life.minutes (2 ^ 32 - 1) ≡ life.minutes = let m = h.minutes in omega arith in
    let cycles : min life.cycles (2 ^ 32 - 1) ≡ life.cycles = let c = h.cycles in omega arith in
    ap (λ n. used n (min life.cycles (2 ^ 32 - 1))) minutes ∙ ap (used life.minutes) cycles

-- by the rows of a book, in any order, a life is that of the definition
pub lives_exact : (book : List Entry) (moments : List SectorRow × List SpanRow) (number : ℕ) (item : Item) (until : Option ℕ) (opening : Use) → IsBook book
    → ArePermuted (sector_rows book) (span_rows book) moments → item_at book number ≡ Some item → opening_of book item ≡ Some opening
    → at_most (use_more (flown_by_number moments.0 moments.1 number until) opening) ≡ use_or_none (life_until book item until)
lives_exact book moments number item until opening b are there opened =
    let alike = flown_alike (sector_rows book) moments.0 are.sectors_are (span_rows book) moments.1 are.spans_are number until in
    let rows : use_or_none (life_until book item until) ≡ use_more (flown_by_number (sector_rows book) (span_rows book) number until) opening =
    ap use_or_none (lives_by_rows book number item until b there ∙ ap (option_map (use_more (flown_by_number (sector_rows book) (span_rows book) number until))) opened) in
    ap (λ u. at_most (use_more u opening)) alike ∙ ap at_most (sym rows) ∙ within (use_or_none (life_until book item until)) (life_bounded book item until b.few b.shaped)
