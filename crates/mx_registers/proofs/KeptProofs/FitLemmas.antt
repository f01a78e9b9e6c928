-- Kept rows fit their columns.
use Rattle.std.proofs.Common.{arith, refl, ◌≡◌, ℕ, ◌+◌, ◌^◌, ◌≤◌, ◌<◌, length, List, [], ◌∷◌, ◌++◌, Bool, true, false, cond, Option, Some, None, length-append}
use Rattle.std.specs.Prelude.{All, IfSome, filter, map}
use Rattle.std.specs.List.{filter_map, flat_map, cons_option, AllByRecursion}
use Rattle.std.specs.Option.{option_map_or}
use Rattle.std.proofs.lemmas.List.Elements.{All-from_recursion}
use Rattle.mx_base.specs.Calendar.{last_moment}
use Rattle.mx_book.specs.commands.Act.{Act, Entry, Added, Listed, Loaded, Opened, Flown, Fitted, Removed, Released, Deferred, Extended}
use Rattle.mx_book.specs.commands.Same.{same_text}
use Rattle.mx_book.specs.declared.commands.item.Item.{Item}
use Rattle.mx_book.specs.declared.commands.item.Item.TheVariants.{Airframe, Component}
use Rattle.mx_book.specs.declared.commands.release.Place.{Place}
use Rattle.mx_book.specs.declared.commands.release.Place.TheVariants as places
use Rattle.mx_book.specs.Book.{IsBook}
use Rattle.mx_book.specs.Life.{latest, if_same, if_at_aircraft, if_in_shop, airframe_moments, component_moments, clock}
use Rattle.mx_book.specs.Span.{Span, first_removal, span_begun, spans}
use Rattle.mx_book.proofs.LifeLemmas.{life_bounded}
use Rattle.mx_base.specs.rows.Rising.{IsRising}
use Rattle.mx_base.specs.rows.Rows.{FitsSpan, FitsTotal}
use Rattle.mx_registers.specs.Names.{number_from, or_zero, serial_added, tail_added}
use Rattle.mx_registers.specs.Registers.{next}
use Rattle.mx_registers.specs.kept.Fits.{FitRegisters}
use Rattle.mx_registers.specs.kept.Items.{items}
use Rattle.mx_registers.specs.kept.Spans.{removal_from, removes, span_row, span_rows, span_rows_from}
use Rattle.mx_registers.specs.kept.Totals.{total_row, total_rows}
use Rattle.mx_registers.proofs.KeptProofs.ClockLemmas.{first_removal-by, latest-append, spans_timed, IsTimedBy}
use Rattle.mx_registers.proofs.KeptProofs.CreditLemmas.{all_of}
use Rattle.mx_registers.proofs.KeptProofs.ItemOrder.{items_from}
use Rattle.mx_registers.proofs.KeptProofs.SaidLemmas.{all_said, SaysFit, SayFit}

-- ── moments ──

same_low : (a b : List ℕ) (m : ℕ) → m ≤ last_moment → latest (if_same a b m) ≤ last_moment
same_low a b m h = at (same_text a b)
  where
    at : (c : Bool) → latest (cond c (m ∷ []) []) ≤ last_moment
    at true = omega arith
    at false = omega arith

no_moment : latest [] ≤ last_moment
no_moment = omega arith

at_place_low : (tail : List ℕ) (place : Place) (m : ℕ) → m ≤ last_moment → latest (if_at_aircraft tail place m) ≤ last_moment
at_place_low tail (places.Aircraft t) m h = same_low t tail m h
at_place_low tail (places.Shop s kind) m h = no_moment

in_shop_low : (serial : List ℕ) (place : Place) (m : ℕ) → m ≤ last_moment → latest (if_in_shop serial place m) ≤ last_moment
in_shop_low serial (places.Aircraft t) m h = no_moment
in_shop_low serial (places.Shop s kind) m h = same_low s serial m h

airframe_low : (tail : List ℕ) (act : Act) → SaysFit act → latest (airframe_moments tail act) ≤ last_moment
airframe_low tail (Added a positions) h = same_low a.tail tail a.as_of h
airframe_low tail (Flown s) h = same_low s.tail tail s.on h
airframe_low tail (Fitted f) h = same_low f.tail tail f.moment h.1
airframe_low tail (Released r lines) h = at_place_low tail r.place r.moment h.0
airframe_low tail (Deferred d) h = same_low d.tail tail d.moment h
airframe_low tail (Listed c) h = no_moment
airframe_low tail (Loaded p tasks) h = no_moment
airframe_low tail (Opened o) h = no_moment
airframe_low tail (Removed r) h = no_moment
airframe_low tail (Extended x) h = no_moment

component_low : (serial : List ℕ) (act : Act) → SaysFit act → latest (component_moments serial act) ≤ last_moment
component_low serial (Listed c) h = same_low c.serial serial c.as_of h
component_low serial (Fitted f) h = same_low f.serial serial f.moment h.1
component_low serial (Removed r) h = same_low r.serial serial r.moment h
component_low serial (Released r lines) h = in_shop_low serial r.place r.moment h.0
component_low serial (Added a positions) h = no_moment
component_low serial (Loaded p tasks) h = no_moment
component_low serial (Opened o) h = no_moment
component_low serial (Flown s) h = no_moment
component_low serial (Deferred d) h = no_moment
component_low serial (Extended x) h = no_moment

moments_low : (moments : Act → List ℕ) → ((act : Act) → SaysFit act → latest (moments act) ≤ last_moment) → (book : List Entry) → SayFit book → latest (flat_map (λ (e : Entry). moments e.act) book) ≤ last_moment
moments_low moments low [] h = no_moment
moments_low moments low (x ∷ book) h =
    let here = low x.act h.0 in
    let later = moments_low moments low book h.1 in
    let joined = latest-append (moments x.act) (flat_map (λ (e : Entry). moments e.act) book) in omega arith

components_low : (book : List Entry) → SayFit book → (serial : List ℕ) → clock book (Component serial) ≤ last_moment
components_low book h serial = moments_low (component_moments serial) (component_low serial) book h

ends_low : (p : Span → Bool) (xs : List Span) → AllByRecursion (λ (s : Span). IfSome s.to (λ m. m ≤ last_moment)) xs → latest (filter_map (λ (s : Span). s.to) (filter p xs)) ≤ last_moment
ends_low p [] h = no_moment
ends_low p (x ∷ xs) h = at (p x) (ends_low p xs h.1)
  where
    end : (o : Option ℕ) (rest : List ℕ) → IfSome o (λ m. m ≤ last_moment) → latest rest ≤ last_moment → latest (cons_option o rest) ≤ last_moment
    end None rest h k = k
    end (Some m) rest h k = omega arith

    at : (c : Bool) → latest (filter_map (λ (s : Span). s.to) (filter p xs)) ≤ last_moment → latest (filter_map (λ (s : Span). s.to) (cond c (x ∷ filter p xs) (filter p xs))) ≤ last_moment
    at true rest = end x.to (filter_map (λ (s : Span). s.to) (filter p xs)) h.0 rest
    at false rest = rest

-- each clock is in the calendar
pub clock_low : (book : List Entry) → SayFit book → (item : Item) → clock book item ≤ last_moment
clock_low book h (Component serial) = components_low book h serial
clock_low book h (Airframe tail) =
    let own = moments_low (airframe_moments tail) (airframe_low tail) book h in
    let ends = ends_low (λ s. same_text s.tail tail) (spans book)
    (all_of (IsTimedBy (λ t. clock book (Airframe t)) (λ c. clock book (Component c))) (λ (s : Span). IfSome s.to (λ m. m ≤ last_moment)) (λ s timed. end s.serial (clock book (Airframe s.tail)) s.to timed.1) (spans book) (spans_timed book)) in omega arith
  where
    end : (serial : List ℕ) (bound : ℕ) (o : Option ℕ) → IfSome o (λ m. (m ≤ bound) × (m ≤ clock book (Component serial))) → IfSome o (λ m. m ≤ last_moment)
    end serial bound None h = tt
    end serial bound (Some m) by = let low = components_low book h serial in omega (arith, by.1)

-- ── numbers ──

-- the number that a name was found at is one of the entries, or 0
pub number_low : (name_of : Entry → Option (List ℕ)) (name : List ℕ) (k : ℕ) (book : List Entry) → or_zero (number_from name_of name k book) ≤ k + length book
number_low name_of name k [] = omega arith
number_low name_of name k (x ∷ book) = at (option_map_or (λ added. same_text added name) (name_of x) false) (number_low name_of name (k + 1) book)
  where
    at : (c : Bool) → or_zero (number_from name_of name (k + 1) book) ≤ k + 1 + length book → or_zero (cond c (Some k) (number_from name_of name (k + 1) book)) ≤ k + length (x ∷ book)
    at true h = omega arith
    at false h = omega arith

removal_low : (serial : List ℕ) (k : ℕ) (later : List Entry) → k + length later < 2 ^ 32 → IfSome (removal_from serial k later) (λ n. n < 2 ^ 32)
removal_low serial k [] h = tt
removal_low serial k (x ∷ later) h = at (removes serial x.act) (removal_low serial (k + 1) later (omega arith))
  where
    at : (c : Bool) → IfSome (removal_from serial (k + 1) later) (λ n. n < 2 ^ 32) → IfSome (cond c (Some k) (removal_from serial (k + 1) later)) (λ n. n < 2 ^ 32)
    at true rest = omega arith
    at false rest = rest

-- ── spans ──

end_fits : (serial : List ℕ) (later : List Entry) → SayFit later → (o : Option ℕ) → first_removal serial later ≡ o → IfSome o (λ moment. moment ≤ last_moment)
end_fits serial later h None e = tt
end_fits serial later h (Some m) e =
    let by = first_removal-by serial later m e in
    let low = moments_low (component_moments serial) (component_low serial) later h in omega arith

spans_fit_from : (before later : List Entry) → SayFit later → length before + length later ≤ 1000000 → AllByRecursion FitsSpan (span_rows_from before later)
spans_fit_from before [] h few = tt
spans_fit_from before (x ∷ later) h few =
    let joined = length-append before (x ∷ []) in
    at x.act h.0 (spans_fit_from (before ++ x ∷ []) later h.1 (omega arith))
  where
    at : (act : Act) → SaysFit act → AllByRecursion FitsSpan (span_rows_from (before ++ x ∷ []) later) → AllByRecursion FitsSpan (map (span_row before later) (span_begun act later) ++ span_rows_from (before ++ x ∷ []) later)
    at (Fitted f) said rest =
        let component = number_low serial_added f.serial 1 before in
        let aircraft = number_low tail_added f.tail 1 before in (
          record {
            fit_seq = omega arith;
            component = omega arith;
            aircraft = omega arith;
            position = said.0;
            from = said.1;
            remove_seq = removal_low f.serial (next before + 1) later (omega arith);
            to = end_fits f.serial later h.1 (first_removal f.serial later) refl;
          },
          rest,
        )
    at _ said rest = rest

pub spans_fit : (book : List Entry) → IsBook book → FitRegisters book → All FitsSpan (span_rows book)
spans_fit book b h = All-from_recursion FitsSpan (span_rows book) (spans_fit_from [] book (all_said book h) (omega (arith, b.few)))

-- ── totals ──

-- the numbers of items have 32 bits
abbrev pub IsLow : ℕ × Item → Type 0
IsLow x = x.0 < 2 ^ 32

rising_low : (low high : ℕ) (xs : List (ℕ × Item)) → high ≤ 2 ^ 32 → IsRising (λ (x : ℕ × Item). x.0) low xs high → (low ≤ high) × AllByRecursion IsLow xs
rising_low low high [] h up = (up, tt)
rising_low low high (x ∷ xs) h up = let rest = rising_low (x.0 + 1) high xs h up.1 in (omega (arith, up.0, rest.0), (omega (arith, rest.0), rest.1))

pub items_low : (book : List Entry) → IsBook book → AllByRecursion IsLow (items book)
items_low book b = (rising_low 1 (1 + length book) (items book) (omega (arith, b.few)) (items_from [] book)).1

totals_fit_of : (book : List Entry) → IsBook book → SayFit book → (xs : List (ℕ × Item)) → AllByRecursion IsLow xs → AllByRecursion FitsTotal (map (total_row book) xs)
totals_fit_of book b h [] low = tt
totals_fit_of book b h (x ∷ xs) low =
    let life = life_bounded book x.1 None b.few b.shaped in
    (record { item = low.0; life = record { minutes = omega (arith, life.minutes); cycles = omega (arith, life.cycles) }; clock = clock_low book h x.1 }, totals_fit_of book b h xs low.1)

pub totals_fit : (book : List Entry) → IsBook book → FitRegisters book → All FitsTotal (total_rows book)
totals_fit book b h = All-from_recursion FitsTotal (total_rows book) (totals_fit_of book b (all_said book h) (items book) (items_low book b))
