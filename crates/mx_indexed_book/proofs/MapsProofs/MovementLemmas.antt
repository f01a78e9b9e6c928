-- What an entry adds to the movements of an aircraft, and which of them came behind a moment.
use Rattle.std.proofs.Common.{arith, refl, sym, subst, ap, ◌∙◌, ◌≡◌, ℕ, suc, ◌+◌, ◌-◌, ◌≤◌, ◌<◌, length, List, [], ◌∷◌, ◌++◌, Bool, true, false, cond, ◌&&◌, nat_eq, Option, Some, None, append-nil, append_assoc}
use Rattle.std.specs.Prelude.{max, nat_lt}
use Rattle.std.specs.List.{AllByRecursion}
use Rattle.std.specs.Option.{option_and_then, option_map, option_map_or}
use Rattle.std.specs.Ordering.{is_eq, nat_cmp}
use Rattle.std.specs.Cmp.Lexicographic.{slice_cmp}
use Rattle.std.proofs.lemmas.Bool.Decides.{nat_tests}
use Rattle.mx_book.specs.commands.Act.{Act, Entry, Fitted, Removed}
use Rattle.mx_book.specs.commands.Same.{same_text}
use Rattle.mx_book.specs.commands.Shape.{has_shape}
use Rattle.mx_book.specs.declared.verdict.Verdict.TheVariants.{New}
use Rattle.mx_book.proofs.CommandsProofs.SameLemmas.{text_same}
use Rattle.mx_book.specs.declared.commands.item.Item.TheVariants.{Airframe, Component}
use Rattle.mx_book.specs.Book.{IsBook}
use Rattle.mx_book.specs.Judge.{clock_where_fitted, judge, too_early}
use Rattle.mx_book.specs.Life.{clock, latest}
use Rattle.mx_book.specs.Span.{tail_fitted}
use Rattle.mx_registers.specs.kept.Changes.{moments_given}
use Rattle.mx_registers.proofs.KeptProofs.ClockLemmas.{clock-more}
use Rattle.mx_registers.proofs.KeptProofs.CreditLemmas.{all_of}
use Rattle.mx_registers.proofs.KeptProofs.Induction.{of_each_book}
use Rattle.mx_registers.proofs.KeptProofs.JudgedLemmas.{not_passed}
use Rattle.mx_indexed_book.specs.maps.Maps.{changed}
use Rattle.mx_indexed_book.specs.maps.Movements.{at_place, behind, count_changed, last_behind, movement, movement_added, movement_at, movement_count, movements, movements_changed, movements_from, place_cmp, with_movement}
use Rattle.mx_indexed_book.specs.declared.maps.movements.Movement.{Movement}
use Rattle.mx_indexed_book.specs.declared.maps.movements.MovementChanges.{MovementChanges}
use Rattle.mx_indexed_book.proofs.MapsProofs.MapLemmas.{tie, tie_number}
use Rattle.mx_indexed_book.proofs.MapsProofs.PlaceLemmas.{then_eq}

-- ── one entry more ──

with_more : (tail : List ℕ) (before later : List Entry) (e : Entry) (earlier : List Movement) → movements_from tail before (later ++ e ∷ []) earlier ≡ with_movement tail (movement (before ++ later) e.act) (movements_from tail before later earlier)
with_more tail before [] e earlier = ap (λ (b : List Entry). with_movement tail (movement b e.act) earlier) (sym (append-nil before))
with_more tail before (x ∷ later) e earlier =
    let first = with_movement tail (movement before x.act) earlier in
    with_more tail (before ++ x ∷ []) later e first
    ∙ ap (λ (b : List Entry). with_movement tail (movement b e.act) (movements_from tail (before ++ x ∷ []) later first)) (append_assoc before (x ∷ []) later)

-- the movement of one entry more is the last
pub movements-more : (book : List Entry) (e : Entry) (tail : List ℕ) → movements (book ++ e ∷ []) tail ≡ with_movement tail (movement book e.act) (movements book tail)
movements-more book e tail = with_more tail [] book e []

pub count_moves : (book : List Entry) (e : Entry) (tail : List ℕ) → movement_count (book ++ e ∷ []) tail ≡ changed (slice_cmp nat_cmp) (count_changed book (movement book e.act)) tail (movement_count book tail)
count_moves book e tail = ap length (movements-more book e tail) ∙ at (movement book e.act)
  where
    one : (n : ℕ) → suc n ≡ n + 1
    one n = omega arith

    both : (g : List ℕ × Movement) (b : Bool) → same_text g.0 tail ≡ b → length (cond b (g.1 ∷ movements book tail) (movements book tail)) ≡ cond b (movement_count book g.0 + 1) (movement_count book tail)
    both g true h = one (movement_count book tail) ∙ ap (λ (t : List ℕ). movement_count book t + 1) (sym ((text_same g.0 tail).0 h))
    both g false h = refl

    at : (o : Option (List ℕ × Movement)) → length (with_movement tail o (movements book tail)) ≡ changed (slice_cmp nat_cmp) (count_changed book o) tail (movement_count book tail)
    at None = refl
    at (Some g) = both g (same_text g.0 tail) refl ∙ ap (λ b. cond b (movement_count book g.0 + 1) (movement_count book tail)) (sym (tie g.0 tail))

-- the order of places tells the same place of the same aircraft
pub tie_place : (a b : List ℕ × ℕ) → is_eq (place_cmp a b) ≡ same_text a.0 b.0 && nat_eq a.1 b.1
tie_place a b = then_eq (slice_cmp nat_cmp a.0 b.0) (nat_cmp a.1 b.1) ∙ ap (λ c. c && is_eq (nat_cmp a.1 b.1)) (tie a.0 b.0) ∙ ap (λ c. same_text a.0 b.0 && c) (tie_number a.1 b.1)

pub placed_moves : (book : List Entry) (e : Entry) (place : List ℕ × ℕ) → movement_at (book ++ e ∷ []) place ≡ changed place_cmp (movement_added book (movement book e.act)) place (movement_at book place)
placed_moves book e place = ap (λ ms. at_place ms place.1) (movements-more book e place.0) ∙ at (movement book e.act)
  where
    both : (g : List ℕ × Movement) (b : Bool) → same_text g.0 place.0 ≡ b
        → at_place (cond b (g.1 ∷ movements book place.0) (movements book place.0)) place.1 ≡ cond (b && nat_eq (movement_count book g.0) place.1) (Some g.1) (movement_at book place)
    both g true h = ap (λ (t : List ℕ). cond (nat_eq (movement_count book t) place.1) (Some g.1) (movement_at book place)) (sym ((text_same g.0 place.0).0 h))
    both g false h = refl

    at : (o : Option (List ℕ × Movement)) → at_place (with_movement place.0 o (movements book place.0)) place.1 ≡ changed place_cmp (movement_added book o) place (movement_at book place)
    at None = refl
    at (Some g) = both g (same_text g.0 place.0) refl ∙ ap (λ b. cond b (Some g.1) (movement_at book place)) (sym (tie_place (g.0, movement_count book g.0) place))

-- ── how many there are ──

with_few : (tail : List ℕ) (o : Option (List ℕ × Movement)) (ms : List Movement) → length (with_movement tail o ms) ≤ length ms + 1
with_few tail None ms = omega arith
with_few tail (Some g) ms = at (same_text g.0 tail)
  where
    at : (b : Bool) → length (cond b (g.1 ∷ ms) ms) ≤ length ms + 1
    at true = omega arith
    at false = omega arith

from_few : (tail : List ℕ) (before later : List Entry) (earlier : List Movement) → length (movements_from tail before later earlier) ≤ length earlier + length later
from_few tail before [] earlier = omega arith
from_few tail before (x ∷ later) earlier =
    let first = with_movement tail (movement before x.act) earlier in
    let rest = from_few tail (before ++ x ∷ []) later first in
    let one = with_few tail (movement before x.act) earlier in omega arith

-- no more than entries
pub few_movements : (book : List Entry) (tail : List ℕ) → movement_count book tail ≤ length book
few_movements book tail = let few = from_few tail [] book [] in omega arith

-- the count of an aircraft and the place of its movement
abbrev changes_at : List ℕ → Movement → ℕ → ℕ → MovementChanges
changes_at tail m count next = record { count = Some (tail, next); added = Some ((tail, count), Some m) }

-- what an entry changes that moves a component
pub changes_are : (book : List Entry) (e : Entry) (tail : List ℕ) (m : Movement) (count next : ℕ) → Some (tail, m) ≡ movement book e.act → count ≡ movement_count book tail → next ≡ count + 1 → changes_at tail m count next ≡ movements_changed book e
changes_are book e tail m count next is counted one =
    ap (changes_at tail m count) one ∙ ap (λ n. changes_at tail m n (n + 1)) counted
    ∙ ap (λ (o : Option (List ℕ × Movement)). changes_of (count_changed book o) (movement_added book o)) is
  where
    changes_of : Option (List ℕ × ℕ) → Option ((List ℕ × ℕ) × Option Movement) → MovementChanges
    changes_of counts added = record { count = counts; added = added }

-- ── those behind a moment ──

-- so many of the earliest movements
abbrev pub earliest : ℕ → List Movement → List Movement
earliest count [] = []
earliest count (m ∷ earlier) = cond (nat_eq count (length earlier + 1)) (m ∷ earlier) (earliest count earlier)

pub all_earliest : (count : ℕ) (ms : List Movement) → count ≡ length ms → earliest count ms ≡ ms
all_earliest count [] is = refl
all_earliest count (m ∷ earlier) is = let same : nat_eq count (length earlier + 1) ≡ true = grind (arith, nat_tests) in ap (λ b. cond b (m ∷ earlier) (earliest count earlier)) same

none_earliest : (ms : List Movement) → earliest 0 ms ≡ []
none_earliest [] = refl
none_earliest (m ∷ earlier) = let other : nat_eq 0 (length earlier + 1) ≡ false = grind (arith, nat_tests) in ap (λ b. cond b (m ∷ earlier) (earliest 0 earlier)) other ∙ none_earliest earlier

-- the last of so many stands before one fewer
last_of : (less : ℕ) (ms : List Movement) → less < length ms → (m : Movement) × (at_place ms less ≡ Some m) × (earliest (less + 1) ms ≡ m ∷ earliest less ms)
last_of less [] h = absurd (omega arith)
last_of less (x ∷ earlier) h = at (nat_eq (length earlier) less) refl (last_of less earlier)
  where
    shorter : less ≤ length earlier → earliest less (x ∷ earlier) ≡ earliest less earlier
    shorter by = let other : nat_eq less (length earlier + 1) ≡ false = grind (arith, nat_tests) in ap (λ b. cond b (x ∷ earlier) (earliest less earlier)) other

    at : (b : Bool) → nat_eq (length earlier) less ≡ b → (less < length earlier → (m : Movement) × (at_place earlier less ≡ Some m) × (earliest (less + 1) earlier ≡ m ∷ earliest less earlier))
        → (m : Movement) × (cond b (Some x) (at_place earlier less) ≡ Some m) × (earliest (less + 1) (x ∷ earlier) ≡ m ∷ earliest less (x ∷ earlier))
    at true e rest =
        let is : less ≡ length earlier = grind (arith, nat_tests) in
        let whole : nat_eq (less + 1) (length earlier + 1) ≡ true = grind (arith, nat_tests) in (
          x,
          refl,
          ap (λ b. cond b (x ∷ earlier) (earliest (less + 1) earlier)) whole ∙ ap (λ l. x ∷ l) (sym (shorter (omega arith) ∙ all_earliest less earlier is)),
        )
    at false e rest =
        let fewer : less < length earlier = grind (arith, nat_tests) in
        let part : nat_eq (less + 1) (length earlier + 1) ≡ false = grind (arith, nat_tests) in
        let one = rest fewer in (
          one.0,
          one.1,
          ap (λ b. cond b (x ∷ earlier) (earliest (less + 1) earlier)) part ∙ one.2 ∙ ap (λ l. one.0 ∷ l) (sym (shorter (omega arith))),
        )

-- whether the last of so many came behind a moment tells whether those that did go on
pub behind_by_last : (moment : ℕ) (ms : List Movement) (count : ℕ) → count ≤ length ms → behind moment (earliest count ms) ≡ option_map_or (λ m. m ∷ behind moment (earliest (count - 1) ms)) (last_behind moment ms count) []
behind_by_last moment ms count few = at (nat_eq count 0) refl
  where
    came : (x : Movement) (c : Bool) → cond c (x ∷ behind moment (earliest (count - 1) ms)) [] ≡ option_map_or (λ m. m ∷ behind moment (earliest (count - 1) ms)) (cond c (Some x) None) []
    came x true = refl
    came x false = refl

    -- the last of so many, where there is one
    at_last : Option Movement → Option Movement
    at_last o = option_and_then (λ (x : Movement). cond (nat_lt moment x.moment) (Some x) None) o

    at : (b : Bool) → nat_eq count 0 ≡ b → behind moment (earliest count ms) ≡ option_map_or (λ m. m ∷ behind moment (earliest (count - 1) ms)) (at_last (cond b None (at_place ms (count - 1)))) []
    at true e = let none : count ≡ 0 = grind (arith, nat_tests) in ap (λ n. behind moment (earliest n ms)) none ∙ ap (behind moment) (none_earliest ms)
    at false e =
        let some : 0 < count = grind (arith, nat_tests) in
        let one : count - 1 + 1 ≡ count = omega arith in
        let last = last_of (count - 1) ms (omega arith) in
        ap (λ n. behind moment (earliest n ms)) (sym one) ∙ ap (behind moment) last.2 ∙ came last.0 (nat_lt moment last.0.moment)
        ∙ ap (λ o. option_map_or (λ m. m ∷ behind moment (earliest (count - 1) ms)) (at_last o) []) (sym last.1)

-- ── their moments ──

some_pair : (tail : List ℕ) (m : Movement) (g : List ℕ × Movement) → Some (tail, m) ≡ Some g → (tail ≡ g.0) × (m.moment ≡ g.1.moment)
some_pair tail m g is =
    let pair : (tail, m) ≡ g = cc in
    (ap (λ (x : List ℕ × Movement). x.0) pair, ap (λ (x : List ℕ × Movement). x.1.moment) pair)

-- a movement gives its moment to the clock of its aircraft
given_moment : (book : List Entry) (act : Act) (g : List ℕ × Movement) (tail : List ℕ) → movement book act ≡ Some g → same_text g.0 tail ≡ true → moments_given book (Airframe tail) act ≡ g.1.moment ∷ []
given_moment book (Fitted f) g tail is same =
    let one = some_pair f.tail (record { serial = f.serial; moment = f.moment; is_fitting = true }) g is in
    ap (λ (t : List ℕ). cond (same_text t tail) (f.moment ∷ []) []) one.0 ∙ ap (λ b. cond b (f.moment ∷ []) []) same ∙ ap (λ n. n ∷ []) one.1
given_moment book (Removed r) g tail is same = at (tail_fitted book r.serial) is
  where
    at : (o : Option (List ℕ)) → option_map (λ t. (t, record { serial = r.serial; moment = r.moment; is_fitting = false })) o ≡ Some g → cond (option_map_or (λ t. same_text t tail) o false) (r.moment ∷ []) [] ≡ g.1.moment ∷ []
    at None h = absurd (cc)
    at (Some t) h =
        let one = some_pair t (record { serial = r.serial; moment = r.moment; is_fitting = false }) g h in
        ap (λ (x : List ℕ). cond (same_text x tail) (r.moment ∷ []) []) one.0 ∙ ap (λ b. cond b (r.moment ∷ []) []) same ∙ ap (λ n. n ∷ []) one.1
given_moment book _ g tail is same = absurd (cc)

-- and comes not before it
pub not_before : (book : List Entry) (act : Act) (g : List ℕ × Movement) → too_early book act ≡ None → movement book act ≡ Some g → clock book (Airframe g.0) ≤ g.1.moment
not_before book (Fitted f) g timely is =
    let by = not_passed f.moment (max (clock book (Airframe f.tail)) (clock book (Component f.serial))) timely in
    let one = some_pair f.tail (record { serial = f.serial; moment = f.moment; is_fitting = true }) g is in
    let moment = one.1 in
    subst (λ (t : List ℕ). clock book (Airframe t) ≤ g.1.moment) one.0 (omega arith)
not_before book (Removed r) g timely is = at (tail_fitted book r.serial) refl is
  where
    by : max (clock_where_fitted book r.serial) (clock book (Component r.serial)) ≤ r.moment
    by = not_passed r.moment (max (clock_where_fitted book r.serial) (clock book (Component r.serial))) timely

    at : (o : Option (List ℕ)) → tail_fitted book r.serial ≡ o → option_map (λ t. (t, record { serial = r.serial; moment = r.moment; is_fitting = false })) o ≡ Some g → clock book (Airframe g.0) ≤ g.1.moment
    at None e h = absurd (cc)
    at (Some t) e h =
        let one = some_pair t (record { serial = r.serial; moment = r.moment; is_fitting = false }) g h in
        let moment = one.1 in
        let limit = by in
        let own : clock_where_fitted book r.serial ≡ clock book (Airframe t) = ap (λ (x : Option (List ℕ)). option_map_or (λ y. clock book (Airframe y)) x 0) e in
        subst (λ (x : List ℕ). clock book (Airframe x) ≤ g.1.moment) one.0 (omega arith)
not_before book _ g timely is = absurd (cc)

-- the clock of the aircraft behind a movement
pub clock_moved : (book : List Entry) (e : Entry) (g : List ℕ × Movement) (tail : List ℕ) → IsBook book → movement book e.act ≡ Some g → same_text g.0 tail ≡ true → clock (book ++ e ∷ []) (Airframe tail) ≡ max (clock book (Airframe tail)) g.1.moment
clock_moved book e g tail b is same = let given = ap latest (given_moment book e.act g tail is same) in let more = clock-more book e (Airframe tail) b in omega arith

-- each movement of an aircraft came by its clock
pub moved_by_clock : (tail : List ℕ) (book : List Entry) → IsBook book → AllByRecursion (λ (m : Movement). m.moment ≤ clock book (Airframe tail)) (movements book tail)
moved_by_clock tail = of_each_book (λ book. AllByRecursion (λ (m : Movement). m.moment ≤ clock book (Airframe tail)) (movements book tail)) step tt
  where
    step : (book : List Entry) (e : Entry) → IsBook book → has_shape e ≡ true → judge book e ≡ New → AllByRecursion (λ (m : Movement). m.moment ≤ clock book (Airframe tail)) (movements book tail) → AllByRecursion (λ (m : Movement). m.moment ≤ clock (book ++ e ∷ []) (Airframe tail)) (movements (book ++ e ∷ []) tail)
    step book e b shape new before =
        let more = clock-more book e (Airframe tail) b in
        let still = all_of (λ (m : Movement). m.moment ≤ clock book (Airframe tail)) (λ (m : Movement). m.moment ≤ clock (book ++ e ∷ []) (Airframe tail)) (λ m by. omega arith) (movements book tail) before in
        subst (AllByRecursion (λ (m : Movement). m.moment ≤ clock (book ++ e ∷ []) (Airframe tail))) (sym (movements-more book e tail)) (at (movement book e.act) refl still)
      where
        both : (g : List ℕ × Movement) (c : Bool) → movement book e.act ≡ Some g → same_text g.0 tail ≡ c → AllByRecursion (λ (m : Movement). m.moment ≤ clock (book ++ e ∷ []) (Airframe tail)) (movements book tail) → AllByRecursion (λ (m : Movement). m.moment ≤ clock (book ++ e ∷ []) (Airframe tail)) (cond c (g.1 ∷ movements book tail) (movements book tail))
        both g true is same still = (let moved = clock_moved book e g tail b is same in omega arith, still)
        both g false is same still = still

        at : (o : Option (List ℕ × Movement)) → movement book e.act ≡ o → AllByRecursion (λ (m : Movement). m.moment ≤ clock (book ++ e ∷ []) (Airframe tail)) (movements book tail) → AllByRecursion (λ (m : Movement). m.moment ≤ clock (book ++ e ∷ []) (Airframe tail)) (with_movement tail o (movements book tail))
        at None is still = still
        at (Some g) is still = both g (same_text g.0 tail) is refl still

-- none came behind a moment that is not before that
pub none_behind : (book : List Entry) (tail : List ℕ) (moment : ℕ) → IsBook book → clock book (Airframe tail) ≤ moment → [] ≡ behind moment (movements book tail)
none_behind book tail moment b by = at (movements book tail) (moved_by_clock tail book b)
  where
    at : (ms : List Movement) → AllByRecursion (λ (m : Movement). m.moment ≤ clock book (Airframe tail)) ms → [] ≡ behind moment ms
    at [] h = refl
    at (m ∷ earlier) h =
        let first = h.0 in
        let early : m.moment ≤ moment = omega (arith, by) in
        let no : nat_lt moment m.moment ≡ false = grind (arith, nat_tests) in ap (λ b. cond b (m ∷ behind moment earlier) []) (sym no)
