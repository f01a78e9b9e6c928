-- A sector that lands after the clock of its airframe is late for no item.
use Rattle.std.proofs.Common.{arith, refl, ap, ◌∙◌, ◌≡◌, ℕ, ◌+◌, ◌≤◌, ◌<◌, List, [], ◌∷◌, Bool, true, false, cond, ◌&&◌, Option, Some, None}
use Rattle.std.specs.Prelude.{nat_le, filter, is_none, IfSome}
use Rattle.std.specs.Option.{option_map, option_map_or}
use Rattle.std.proofs.lemmas.Bool.Decides.{nat_tests}
use Rattle.mx_book.specs.commands.Act.{Entry, Flown}
use Rattle.mx_book.specs.commands.Same.{same_text}
use Rattle.mx_book.specs.declared.commands.item.Item.{Item}
use Rattle.mx_book.specs.declared.commands.item.Item.TheVariants.{Airframe, Component}
use Rattle.mx_book.specs.declared.commands.sector.Sector.{Sector}
use Rattle.mx_book.proofs.CommandsProofs.SameLemmas.{text_same}
use Rattle.mx_book.specs.Book.{IsBook}
use Rattle.mx_book.specs.Life.{clock, has_landed_by, is_credited, is_within}
use Rattle.mx_book.specs.Span.{Span, spans, fitted}
use Rattle.mx_registers.specs.kept.Changes.{IsTimed, clock_of_place, sectors_late}
use Rattle.mx_registers.proofs.KeptProofs.ClockLemmas.{spans_timed}
use Rattle.mx_registers.proofs.KeptProofs.PlaceLemmas.{open_is_fitted}
use Rattle.mx_registers.proofs.KeptProofs.ReleaseBases.{all_both, any_landed, landed_to, within_tail}

-- a component that is credited with such a sector is fitted to its aircraft
still_there : (book : List Entry) (serial : List ℕ) (s : Sector) (span : Span) → clock book (Airframe s.tail) < s.on → IsTimed book span → (same_text span.serial serial && is_none span.to ≡ true → fitted book serial ≡ Some span)
    → same_text span.serial serial ≡ true → is_within s span ≡ true → clock_of_place book (Component serial) + 1 ≤ s.on
still_there book serial s span lands timed only of inside = at span.to refl timed.1
  where
    tail : clock book (Airframe span.tail) ≡ clock book (Airframe s.tail)
    tail = ap (λ (t : List ℕ). clock book (Airframe t)) (within_tail s span inside)

    at : (o : Option ℕ) → span.to ≡ o → IfSome o (λ m. (m ≤ clock book (Airframe span.tail)) × (m ≤ clock book (Component span.serial))) → clock_of_place book (Component serial) + 1 ≤ s.on
    at None e t =
        let there = only (ap (λ c. c && is_none span.to) of ∙ ap is_none e) in
        let place : clock_of_place book (Component serial) ≡ clock book (Airframe span.tail) = ap (λ (o : Option Span). option_map_or (λ tail. clock book (Airframe tail)) (option_map (λ (x : Span). x.tail) o) (clock book (Component serial))) there in
        let same = tail in omega arith
    at (Some m) e t =
        let on = landed_to s span m e inside in
        let by = t.0 in
        let same = tail in omega arith

not_by : (on m : ℕ) → m + 1 ≤ on → nat_le on m ≡ false
not_by on m h = grind (arith, nat_tests)

-- a sector that lands after the clock of its airframe is given to no item late
pub landing_none_late : (book : List Entry) (s : Sector) (item : Item) → IsBook book → clock book (Airframe s.tail) < s.on → sectors_late book item (Flown s) ≡ []
landing_none_late book s item b lands = at (is_credited book item s) refl
  where
    place : (item : Item) → is_credited book item s ≡ true → clock_of_place book item + 1 ≤ s.on
    place (Airframe t) e = let same = ap (λ (x : List ℕ). clock book (Airframe x)) ((text_same s.tail t).0 e) in omega arith
    place (Component serial) e =
        any_landed (is_within s) (λ (x : Span). same_text x.serial serial) (clock_of_place book (Component serial) + 1) s.on (spans book)
        (all_both (IsTimed book) (λ (x : Span). same_text x.serial serial && is_none x.to ≡ true → fitted book serial ≡ Some x) (λ (x : Span). same_text x.serial serial ≡ true → is_within s x ≡ true → clock_of_place book (Component serial) + 1 ≤ s.on)
        (λ x timed only of inside. still_there book serial s x lands timed only of inside) (spans book) (spans_timed book) (open_is_fitted book serial b)) e

    at : (c : Bool) → is_credited book item s ≡ c → filter (has_landed_by (Some (clock_of_place book item))) (cond c (s ∷ []) []) ≡ []
    at true e = ap (λ c. cond c (s ∷ []) []) (not_by s.on (clock_of_place book item) (place item e))
    at false e = refl
