-- A sector that takes off by the clock of its airframe crosses nothing.
use Rattle.std.proofs.Common.{arith, refl, ap, ◌∙◌, ◌≡◌, ℕ, ◌+◌, ◌≤◌, length, List, [], ◌∷◌, ◌++◌, Bool, true, false, cond, ◌&&◌, Some, None, take}
use Rattle.std.specs.Prelude.{nat_lt}
use Rattle.std.proofs.lemmas.Bool.Decides.{nat_tests}
use Rattle.std.proofs.lemmas.List.{take-append-le}
use Rattle.mx_book.specs.commands.Act.{Act, Entry, Flown, Fitted, Removed, Released}
use Rattle.mx_book.specs.commands.Same.{same_text}
use Rattle.mx_book.specs.declared.commands.item.Item.TheVariants.{Airframe}
use Rattle.mx_book.specs.declared.commands.release.Place.{Place}
use Rattle.mx_book.specs.declared.commands.release.Place.TheVariants as places
use Rattle.mx_book.specs.declared.commands.sector.Sector.{Sector}
use Rattle.mx_book.specs.Book.{IsBook}
use Rattle.mx_book.specs.Late.{overlaps, overlap_from, is_during, is_aircraft, straddles, straddle_from}
use Rattle.mx_book.specs.Life.{clock, latest, if_at_aircraft}
use Rattle.mx_book.specs.Span.{is_fitted_to}
use Rattle.mx_registers.specs.kept.Changes.{moments_given}
use Rattle.mx_registers.proofs.KeptProofs.ClockLemmas.{clock-more}
use Rattle.mx_registers.proofs.KeptProofs.Induction.{of_each_book}

-- ── what a sector crosses among entries with one more ──

overlap-more : (s : Sector) (k : ℕ) (book : List Entry) (e : Entry) → overlap_from s k book ≡ None → overlaps s e.act ≡ false → overlap_from s k (book ++ e ∷ []) ≡ None
overlap-more s k [] e h f = ap (λ b. cond b (Some k) None) f
overlap-more s k (x ∷ book) e h f = at (overlaps s x.act) h (λ rest. overlap-more s (k + 1) book e rest f)
  where
    at : (b : Bool) → cond b (Some k) (overlap_from s (k + 1) book) ≡ None → (overlap_from s (k + 1) book ≡ None → overlap_from s (k + 1) (book ++ e ∷ []) ≡ None) → cond b (Some k) (overlap_from s (k + 1) (book ++ e ∷ [])) ≡ None
    at true h rest = (cc)
    at false h rest = rest h

straddle-more : (s : Sector) (book : List Entry) (e : Entry) (k : ℕ) (later : List Entry) → k + length later ≡ length book → straddle_from s book k later ≡ None → straddles s book e.act ≡ false → straddle_from s (book ++ e ∷ []) k (later ++ e ∷ []) ≡ None
straddle-more s book e k [] n h f =
    let all : k ≡ length book = omega arith in
    ap (λ b. cond b (Some (k + 1)) None)
    (ap (λ es. straddles s es e.act) (take-append-le k book (e ∷ []) (omega arith) ∙ ap (λ m. take m book) all ∙ take_all book) ∙ f)
  where
    take_all : (xs : List Entry) → take (length xs) xs ≡ xs
    take_all [] = refl
    take_all (x ∷ xs) = ap (λ l. x ∷ l) (take_all xs)
straddle-more s book e k (x ∷ later) n h f =
    ap (λ es. cond (straddles s es x.act) (Some (k + 1)) (straddle_from s (book ++ e ∷ []) (k + 1) (later ++ e ∷ []))) (take-append-le k book (e ∷ []) (omega arith))
    ∙ at (straddles s (take k book) x.act) h (λ rest. straddle-more s book e (k + 1) later (omega arith) rest f)
  where
    at : (b : Bool) → cond b (Some (k + 1)) (straddle_from s book (k + 1) later) ≡ None → (straddle_from s book (k + 1) later ≡ None → straddle_from s (book ++ e ∷ []) (k + 1) (later ++ e ∷ []) ≡ None)
        → cond b (Some (k + 1)) (straddle_from s (book ++ e ∷ []) (k + 1) (later ++ e ∷ [])) ≡ None
    at true h rest = (cc)
    at false h rest = rest h

-- ── a sector that takes off by the clock crosses nothing ──

not_after : (a b : ℕ) → b ≤ a → nat_lt a b ≡ false
not_after a b h = grind (arith, nat_tests)

and_left : (p q : Bool) → (p ≡ true → q ≡ false) → p && q ≡ false
and_left true q h = h refl
and_left false q h = refl

-- a moment that is given where a test passes is by what the given ones are
given : (b : Bool) (m by : ℕ) → latest (cond b (m ∷ []) []) ≤ by → b ≡ true → m ≤ by
given true m by h e = omega arith
given false m by h e = (cc)

module _ (s : Sector) where
  -- what gives no moment after the take-off is not during the sector
  none_during : (b : Bool) (m : ℕ) → latest (cond b (m ∷ []) []) ≤ s.off → b && is_during s m ≡ false
  none_during b m h = and_left b (is_during s m) (λ e. ap (λ c. c && nat_lt m s.on) (not_after s.off m (given b m s.off h e)))

  overlaps_none : (book : List Entry) (act : Act) → latest (moments_given book (Airframe s.tail) act) ≤ s.off → overlaps s act ≡ false
  overlaps_none book (Flown o) h = and_left (same_text o.tail s.tail) (nat_lt o.off s.on && nat_lt s.off o.on) (λ e. both (nat_lt o.off s.on) (not_after s.off o.on (given (same_text o.tail s.tail) o.on s.off h e)))
    where
      both : (b : Bool) → nat_lt s.off o.on ≡ false → b && nat_lt s.off o.on ≡ false
      both true e = e
      both false e = refl
  overlaps_none book _ h = refl

  straddles_none : (book : List Entry) (act : Act) → latest (moments_given book (Airframe s.tail) act) ≤ s.off → straddles s book act ≡ false
  straddles_none book (Fitted f) h = none_during (same_text f.tail s.tail) f.moment h
  straddles_none book (Removed r) h = none_during (is_fitted_to book s.tail r.serial) r.moment h
  straddles_none book (Released r lines) h = at r.place h
    where
      at : (place : Place) → latest (if_at_aircraft s.tail place r.moment) ≤ s.off → is_aircraft s.tail place && is_during s r.moment ≡ false
      at (places.Aircraft t) h = none_during (same_text t s.tail) r.moment h
      at (places.Shop c kind) h = refl
  straddles_none book _ h = refl

-- a sector that takes off by the clock of its airframe crosses nothing
abbrev CrossesNone : List Entry → Type 0
CrossesNone book = (s : Sector) → clock book (Airframe s.tail) ≤ s.off → (overlap_from s 1 book ≡ None) × (straddle_from s book 0 book ≡ None)

pub crosses_none : (book : List Entry) → IsBook book → CrossesNone book
crosses_none = of_each_book CrossesNone (λ book e b shape new before s by.
    let more = clock-more book e (Airframe s.tail) b in
    let given : latest (moments_given book (Airframe s.tail) e.act) ≤ s.off = omega arith in
    let old = before s (omega arith) in
    (overlap-more s 1 book e old.0 (overlaps_none s book e.act given), straddle-more s book e 0 book (omega arith) old.1 (straddles_none s book e.act given)))
    (λ s by. (refl, refl))
