-- The lives of items: bounds of their sectors, and what an entry adds.
use Rattle.std.proofs.Common.{arith, refl, sym, subst, ap, ◌∙◌, ◌≡◌, ℕ, ◌+◌, ◌-◌, ◌*◌, ◌≤◌, length, List, [], ◌∷◌, Bool, true, false, cond, ◌&&◌, Option, Some, None, zero-add}
use Rattle.std.proofs.lemmas.Bool.Decides.{nat_tests}
use Rattle.std.specs.Prelude.{find, filter, IfSome}
use Rattle.std.specs.List.{cons_option, list_all}
use Rattle.std.specs.Option.{option_map}
use Rattle.mx_book.specs.commands.Act.{Act, Entry, Added, Listed, Flown, aircraft_of, component_of, sector_of}
use Rattle.mx_book.specs.commands.Shape.{has_shape, act_shape, doc_shape, opening_shape, sector_shape, use_shape}
use Rattle.mx_base.specs.declared.amounts.Use.{Use}
use Rattle.mx_book.specs.declared.commands.item.Item.{Item}
use Rattle.mx_book.specs.declared.commands.item.Item.TheVariants.{Airframe as OfAirframe, Component as OfComponent}
use Rattle.mx_book.specs.declared.commands.sector.Sector.{Sector}
use Rattle.mx_book.specs.declared.commands.aircraft.Aircraft.{Aircraft}
use Rattle.mx_book.specs.declared.commands.component.Component.{Component}
use Rattle.mx_book.specs.commands.Same.{same_text}
use Rattle.mx_book.specs.Register.{register, aircraft, component}
use Rattle.mx_book.specs.due.Due.{IsLife}
use Rattle.mx_book.specs.Life.{opening_of, life_until, selected, share, use_after, minutes_of, cycles_of, is_credited, has_landed_by, use_or_none}
use Rattle.mx_book.specs.Book.{IsBook}

pub both_true : (p q : Bool) → p && q ≡ true → (p ≡ true) × (q ≡ true)
both_true true true h = (refl, refl)
both_true true false h = (cc)
both_true false q h = (cc)

-- ── a row that is found is of an entry ──

module _ {R : Type 0} (pick : Act → Option R) (p good : R → Bool) (g : (act : Act) (r : R) → act_shape act ≡ true → pick act ≡ Some r → good r ≡ true) where
  found_at : (act : Act) (rest : List R) (r x : R) → act_shape act ≡ true → (find p rest ≡ Some r → good r ≡ true) → pick act ≡ Some x → (b : Bool) → cond b (Some x) (find p rest) ≡ Some r → good r ≡ true
  found_at act rest r x s later q true h = let e : x ≡ r = cc in subst (λ y. good y ≡ true) e (g act x s q)
  found_at act rest r x s later q false h = later h

  found_in : (act : Act) (rest : List R) (r : R) → act_shape act ≡ true → (find p rest ≡ Some r → good r ≡ true) → (o : Option R) → pick act ≡ o → find p (cons_option o rest) ≡ Some r → good r ≡ true
  found_in act rest r s later None q h = later h
  found_in act rest r s later (Some x) q h = found_at act rest r x s later q (p x) h

  pub found_good : (book : List Entry) (r : R) → list_all has_shape book ≡ true → find p (register pick book) ≡ Some r → good r ≡ true
  found_good [] r s h = (cc)
  found_good (e ∷ book) r s h =
      let both = both_true (has_shape e) (list_all has_shape book) s in
      let shape = both_true (act_shape e.act) (doc_shape e.doc e.act) both.0 in
      found_in e.act (register pick book) r shape.0 (found_good book r both.1) (pick e.act) refl h

aircraft_good : (act : Act) (a : Aircraft) → act_shape act ≡ true → aircraft_of act ≡ Some a → use_shape a.opening ≡ true
aircraft_good (Added b positions) a s h = let e : b ≡ a = cc in
    let opening = both_true (opening_shape b.birth b.opening b.as_of) _ s in
    subst (λ y. use_shape y.opening ≡ true) e (both_true (use_shape b.opening) _ opening.0).0
aircraft_good _ a s h = (cc)

aircraft_opening : (book : List Entry) (tail : List ℕ) (u : Use) → list_all has_shape book ≡ true → (o : Option Aircraft) → aircraft book tail ≡ o → option_map (λ (a : Aircraft). a.opening) o ≡ Some u → use_shape u ≡ true
aircraft_opening book tail u s None q h = (cc)
aircraft_opening book tail u s (Some a) q h = let e : a.opening ≡ u = cc in subst (λ y. use_shape y ≡ true) e (found_good aircraft_of (λ b. same_text b.tail tail) (λ b. use_shape b.opening) aircraft_good book a s q)

component_good : (act : Act) (c : Component) → act_shape act ≡ true → component_of act ≡ Some c → use_shape c.opening ≡ true
component_good (Listed b) c s h = let e : b ≡ c = cc in
    subst (λ y. use_shape y.opening ≡ true) e (both_true (use_shape b.opening) _ s).0
component_good _ c s h = (cc)

component_opening : (book : List Entry) (serial : List ℕ) (u : Use) → list_all has_shape book ≡ true → (o : Option Component) → component book serial ≡ o → option_map (λ (c : Component). c.opening) o ≡ Some u → use_shape u ≡ true
component_opening book serial u s None q h = (cc)
component_opening book serial u s (Some c) q h = let e : c.opening ≡ u = cc in subst (λ y. use_shape y ≡ true) e (found_good component_of (λ b. same_text b.serial serial) (λ b. use_shape b.opening) component_good book c s q)

-- an opening has its shape
pub opening_small : (book : List Entry) (item : Item) (u : Use) → list_all has_shape book ≡ true → opening_of book item ≡ Some u → use_shape u ≡ true
opening_small book (OfAirframe tail) u s h = aircraft_opening book tail u s (aircraft book tail) refl h
opening_small book (OfComponent serial) u s h = component_opening book serial u s (component book serial) refl h

-- the bounds of an opening of its shape
pub opening_bounds : (u : Use) → use_shape u ≡ true → (u.minutes ≤ 100000000) × (u.cycles ≤ 1000000)
opening_bounds u s = (grind (arith, nat_tests), grind (arith, nat_tests))

-- ── what an entry adds ──

module _ (book : List Entry) (item : Item) (until : Option ℕ) where
  landed_minutes : (f : Sector) (fs : List Sector) (b : Bool) → minutes_of (cond b (f ∷ fs) fs) ≡ (cond b (f.on - f.off) 0) + minutes_of fs
  landed_minutes f fs true = refl
  landed_minutes f fs false = sym (zero-add (minutes_of fs))

  landed_cycles : (f : Sector) (fs : List Sector) (b : Bool) → cycles_of (cond b (f ∷ fs) fs) ≡ (cond b f.cycles 0) + cycles_of fs
  landed_cycles f fs true = refl
  landed_cycles f fs false = sym (zero-add (cycles_of fs))

  taken_minutes : (f : Sector) (fs : List Sector) (b c : Bool) → has_landed_by until f ≡ c → minutes_of (filter (has_landed_by until) (cond b (f ∷ fs) fs)) ≡ (cond (b && c) (f.on - f.off) 0) + minutes_of (filter (has_landed_by until) fs)
  taken_minutes f fs true c e = landed_minutes f (filter (has_landed_by until) fs) (has_landed_by until f) ∙ ap (λ z. (cond z (f.on - f.off) 0) + minutes_of (filter (has_landed_by until) fs)) e
  taken_minutes f fs false c e = sym (zero-add (minutes_of (filter (has_landed_by until) fs)))

  taken_cycles : (f : Sector) (fs : List Sector) (b c : Bool) → has_landed_by until f ≡ c → cycles_of (filter (has_landed_by until) (cond b (f ∷ fs) fs)) ≡ (cond (b && c) f.cycles 0) + cycles_of (filter (has_landed_by until) fs)
  taken_cycles f fs true c e = landed_cycles f (filter (has_landed_by until) fs) (has_landed_by until f) ∙ ap (λ z. (cond z f.cycles 0) + cycles_of (filter (has_landed_by until) fs)) e
  taken_cycles f fs false c e = sym (zero-add (cycles_of (filter (has_landed_by until) fs)))

  use_minutes : (m c : ℕ) (b : Bool) → (cond {A = Use} b (record { minutes = m; cycles = c }) (record { minutes = 0; cycles = 0 })).minutes ≡ cond b m 0
  use_minutes m c true = refl
  use_minutes m c false = refl

  use_cycles : (m c : ℕ) (b : Bool) → (cond {A = Use} b (record { minutes = m; cycles = c }) (record { minutes = 0; cycles = 0 })).cycles ≡ cond b c 0
  use_cycles m c true = refl
  use_cycles m c false = refl

  act_minutes : (act : Act) (fs : List Sector) → minutes_of (filter (has_landed_by until) (filter (is_credited book item) (cons_option (sector_of act) fs))) ≡ (share book item until act).minutes + minutes_of (filter (has_landed_by until) (filter (is_credited book item) fs))
  act_minutes (Flown f) fs =
      taken_minutes f (filter (is_credited book item) fs) (is_credited book item f) (has_landed_by until f) refl
      ∙ ap (λ z. z + minutes_of (filter (has_landed_by until) (filter (is_credited book item) fs))) (sym (use_minutes (f.on - f.off) f.cycles (is_credited book item f && has_landed_by until f)))
  act_minutes _ fs = sym (zero-add (minutes_of (filter (has_landed_by until) (filter (is_credited book item) fs))))

  act_cycles : (act : Act) (fs : List Sector) → cycles_of (filter (has_landed_by until) (filter (is_credited book item) (cons_option (sector_of act) fs))) ≡ (share book item until act).cycles + cycles_of (filter (has_landed_by until) (filter (is_credited book item) fs))
  act_cycles (Flown f) fs =
      taken_cycles f (filter (is_credited book item) fs) (is_credited book item f) (has_landed_by until f) refl
      ∙ ap (λ z. z + cycles_of (filter (has_landed_by until) (filter (is_credited book item) fs))) (sym (use_cycles (f.on - f.off) f.cycles (is_credited book item f && has_landed_by until f)))
  act_cycles _ fs = sym (zero-add (cycles_of (filter (has_landed_by until) (filter (is_credited book item) fs))))

  -- the first of some entries adds its share
  pub minutes-cons : (e : Entry) (entries : List Entry) → minutes_of (selected book item until (e ∷ entries)) ≡ (share book item until e.act).minutes + minutes_of (selected book item until entries)
  minutes-cons e entries = act_minutes e.act (register sector_of entries)

  pub cycles-cons : (e : Entry) (entries : List Entry) → cycles_of (selected book item until (e ∷ entries)) ≡ (share book item until e.act).cycles + cycles_of (selected book item until entries)
  cycles-cons e entries = act_cycles e.act (register sector_of entries)

  sector_small : (f : Sector) → sector_shape f ≡ true → (f.on - f.off ≤ 1440) × (f.cycles ≤ 50)
  sector_small f s = (grind (arith, nat_tests), grind (arith, nat_tests))

  share_if : (f : Sector) (b : Bool) → (f.on - f.off ≤ 1440) × (f.cycles ≤ 50) → ((cond {A = Use} b (record { minutes = f.on - f.off; cycles = f.cycles }) (record { minutes = 0; cycles = 0 })).minutes ≤ 1440) × ((cond {A = Use} b (record { minutes = f.on - f.off; cycles = f.cycles }) (record { minutes = 0; cycles = 0 })).cycles ≤ 50)
  share_if f true h = h
  share_if f false h = (omega arith, omega arith)

  share_small : (act : Act) → act_shape act ≡ true → ((share book item until act).minutes ≤ 1440) × ((share book item until act).cycles ≤ 50)
  share_small (Flown f) s = share_if f (is_credited book item f && has_landed_by until f) (sector_small f s)
  share_small _ s = (omega arith, omega arith)

  -- the sectors of n entries have at most n days and 50 n cycles
  pub selected_small : (entries : List Entry) → list_all has_shape entries ≡ true → (minutes_of (selected book item until entries) ≤ 1440 * length entries) × (cycles_of (selected book item until entries) ≤ 50 * length entries)
  selected_small [] s = (omega arith, omega arith)
  selected_small (e ∷ entries) s =
      let both = both_true (has_shape e) (list_all has_shape entries) s in
      let shape = both_true (act_shape e.act) (doc_shape e.doc e.act) both.0 in
      let here = share_small e.act shape.0 in
      let later = selected_small entries both.1 in
      (omega (arith, minutes-cons e entries, here.0, later.0), omega (arith, cycles-cons e entries, here.1, later.1))

  -- the life so far and an entry's share are within the bounds of a life
  pub life_room : (opening : Use) (minutes cycles : ℕ) (rest later : List Entry) (e : Entry) → rest ≡ e ∷ later → length book ≤ 1000000 → list_all has_shape book ≡ true → use_shape opening ≡ true
      → minutes + minutes_of (selected book item until rest) ≡ opening.minutes + minutes_of (selected book item until book)
      → cycles + cycles_of (selected book item until rest) ≡ opening.cycles + cycles_of (selected book item until book)
      → (minutes + (share book item until e.act).minutes ≤ 1540000000) × (cycles + (share book item until e.act).cycles ≤ 51000000)
  life_room opening minutes cycles rest later e is few shaped small m c =
      let total = selected_small book shaped in
      let begun = opening_bounds opening small in
      let em = ap (λ es. minutes_of (selected book item until es)) is ∙ minutes-cons e later in
      let ec = ap (λ es. cycles_of (selected book item until es)) is ∙ cycles-cons e later in
      (omega (arith, total.0, begun.0, em, m), omega (arith, total.1, begun.1, ec, c))

  life_within : length book ≤ 1000000 → list_all has_shape book ≡ true → (o : Option Use) → opening_of book item ≡ o → IsLife (use_or_none (option_map (use_after (selected book item until book)) o))
  life_within few shaped None e = record { minutes = omega arith; cycles = omega arith }
  life_within few shaped (Some opening) e =
      let total = selected_small book shaped in
      let begun = opening_bounds opening (opening_small book item opening shaped e) in
      record { minutes = omega (arith, total.0, begun.0); cycles = omega (arith, total.1, begun.1) }

-- the life of an item is within the bounds of a life
pub life_bounded : (book : List Entry) (item : Item) (until : Option ℕ) → length book ≤ 1000000 → list_all has_shape book ≡ true → IsLife (use_or_none (life_until book item until))
life_bounded book item until few shaped = life_within book item until few shaped (opening_of book item) refl

-- the life of an item of a book is within the bounds of a life, if it has one
pub life_in_bounds : (book : List Entry) (item : Item) (until : Option ℕ) (found : Option Use) → IsBook book → found ≡ life_until book item until → IfSome found IsLife
life_in_bounds book item until None is_book is = tt
life_in_bounds book item until (Some life) is_book is = subst IsLife (ap use_or_none (sym is)) (life_bounded book item until is_book.few is_book.shaped)
