-- What an entry changes of the clocks.
use Rattle.std.proofs.Common.{arith, refl, sym, ap, ◌∙◌, ◌≡◌, ℕ, max, List, [], ◌∷◌, ◌++◌, Bool, true, false, cond, Option, Some, None}
use Rattle.std.specs.Option.{option_map, option_map_or}
use Rattle.std.specs.Ordering.{nat_cmp}
use Rattle.std.specs.Cmp.Lexicographic.{slice_cmp}
use Rattle.mx_book.specs.commands.Act.{Act, Entry, Added, Listed, Loaded, Opened, Flown, Fitted, Removed, Released, Deferred, Extended}
use Rattle.mx_book.specs.commands.Same.{same_text}
use Rattle.mx_book.specs.declared.commands.item.Item.TheVariants.{Airframe, Component}
use Rattle.mx_book.specs.declared.commands.release.Place.{Place}
use Rattle.mx_book.specs.declared.commands.release.Place.TheVariants as places
use Rattle.mx_book.proofs.CommandsProofs.SameLemmas.{text_same}
use Rattle.mx_book.specs.Book.{IsBook}
use Rattle.mx_book.specs.Life.{latest, if_at_aircraft, if_in_shop}
use Rattle.mx_book.specs.Span.{tail_fitted}
use Rattle.mx_registers.specs.kept.Changes.{moments_given}
use Rattle.mx_registers.proofs.KeptProofs.ClockLemmas.{clock-more}
use Rattle.mx_indexed_book.specs.maps.Clocks.{aircraft_at, airframe_clock, airframe_moment, component_clock, component_in_shop, component_moment, raised}
use Rattle.mx_indexed_book.specs.maps.Maps.{changed}
use Rattle.mx_indexed_book.proofs.MapsProofs.MapLemmas.{tie}

-- the moment that is given to the clock with this name, or the first of all
abbrev given_to : Option (List ℕ × ℕ) → List ℕ → ℕ
given_to None name = 0
given_to (Some to) name = cond (same_text to.0 name) to.1 0

latest_of : (b : Bool) (m : ℕ) → latest (cond b (m ∷ []) []) ≡ cond b m 0
latest_of true m = let e : max m 0 ≡ m = omega arith in e
latest_of false m = refl

-- a clock that is raised to a later moment, and the others as they were
raised_is : (clocks : List ℕ → ℕ) (given : Option (List ℕ × ℕ)) (name : List ℕ) → max (clocks name) (given_to given name) ≡ changed (slice_cmp nat_cmp) (raised clocks given) name (clocks name)
raised_is clocks None name = omega arith
raised_is clocks (Some to) name = at (same_text to.0 name) refl ∙ ap (λ b. cond b (max (clocks to.0) to.1) (clocks name)) (sym (tie to.0 name))
  where
    at : (b : Bool) → same_text to.0 name ≡ b → max (clocks name) (cond b to.1 0) ≡ cond b (max (clocks to.0) to.1) (clocks name)
    at true e = ap (λ (t : List ℕ). max (clocks t) to.1) (sym ((text_same to.0 name).0 e))
    at false e = omega arith

-- ── airframes ──

at_aircraft : (tail : List ℕ) (place : Place) (m : ℕ) → latest (if_at_aircraft tail place m) ≡ given_to (aircraft_at place m) tail
at_aircraft tail (places.Aircraft t) m = latest_of (same_text t tail) m
at_aircraft tail (places.Shop s kind) m = refl

at_removal : (o : Option (List ℕ)) (tail : List ℕ) (m : ℕ) → latest (cond (option_map_or (λ t. same_text t tail) o false) (m ∷ []) []) ≡ given_to (option_map (λ (t : List ℕ). (t, m)) o) tail
at_removal None tail m = refl
at_removal (Some t) tail m = latest_of (same_text t tail) m

airframe_given : (book : List Entry) (tail : List ℕ) (act : Act) → latest (moments_given book (Airframe tail) act) ≡ given_to (airframe_moment book act) tail
airframe_given book tail (Added a positions) = latest_of (same_text a.tail tail) a.as_of
airframe_given book tail (Listed c) = refl
airframe_given book tail (Loaded p tasks) = refl
airframe_given book tail (Opened o) = refl
airframe_given book tail (Flown s) = latest_of (same_text s.tail tail) s.on
airframe_given book tail (Fitted f) = latest_of (same_text f.tail tail) f.moment
airframe_given book tail (Removed r) = at_removal (tail_fitted book r.serial) tail r.moment
airframe_given book tail (Released r lines) = at_aircraft tail r.place r.moment
airframe_given book tail (Deferred d) = latest_of (same_text d.tail tail) d.moment
airframe_given book tail (Extended x) = refl

pub airframe_moves : (book : List Entry) (entry : Entry) → IsBook book → (tail : List ℕ)
    → airframe_clock (book ++ entry ∷ []) tail ≡ changed (slice_cmp nat_cmp) (raised (airframe_clock book) (airframe_moment book entry.act)) tail (airframe_clock book tail)
airframe_moves book entry b tail =
    clock-more book entry (Airframe tail) b ∙ ap (max (airframe_clock book tail)) (airframe_given book tail entry.act)
    ∙ raised_is (airframe_clock book) (airframe_moment book entry.act) tail

-- ── components ──

in_shop : (serial : List ℕ) (place : Place) (m : ℕ) → latest (if_in_shop serial place m) ≡ given_to (component_in_shop place m) serial
in_shop serial (places.Aircraft t) m = refl
in_shop serial (places.Shop s kind) m = latest_of (same_text s serial) m

component_given : (book : List Entry) (serial : List ℕ) (act : Act) → latest (moments_given book (Component serial) act) ≡ given_to (component_moment act) serial
component_given book serial (Added a positions) = refl
component_given book serial (Listed c) = latest_of (same_text c.serial serial) c.as_of
component_given book serial (Loaded p tasks) = refl
component_given book serial (Opened o) = refl
component_given book serial (Flown s) = refl
component_given book serial (Fitted f) = latest_of (same_text f.serial serial) f.moment
component_given book serial (Removed r) = latest_of (same_text r.serial serial) r.moment
component_given book serial (Released r lines) = in_shop serial r.place r.moment
component_given book serial (Deferred d) = refl
component_given book serial (Extended x) = refl

pub component_moves : (book : List Entry) (entry : Entry) → IsBook book → (serial : List ℕ)
    → component_clock (book ++ entry ∷ []) serial ≡ changed (slice_cmp nat_cmp) (raised (component_clock book) (component_moment entry.act)) serial (component_clock book serial)
component_moves book entry b serial =
    clock-more book entry (Component serial) b ∙ ap (max (component_clock book serial)) (component_given book serial entry.act)
    ∙ raised_is (component_clock book) (component_moment entry.act) serial
