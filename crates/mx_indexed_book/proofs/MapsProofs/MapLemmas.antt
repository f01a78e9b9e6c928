-- A map of answers, behind room for one key more and behind a change of one key.
use Rattle.std.proofs.Common.{arith, refl, sym, ap, subst, ◌∙◌, ◌≡◌, ℕ, List, [], ◌∷◌, Bool, true, false, cond, nat_eq, Option, Some}
use Rattle.std.specs.Prelude.{nat_lt}
use Rattle.std.specs.Ordering.{is_eq, nat_cmp}
use Rattle.std.specs.declared.cmp.Ordering.{Ordering}
use Rattle.std.specs.declared.cmp.Ordering.TheVariants.{Less, Equal, Greater}
use Rattle.std.specs.BTreeMap.{BTreeMap}
use Rattle.std.specs.Cmp.Lexicographic.{slice_cmp, texts_ties}
use Rattle.std.proofs.lemmas.Bool.Decides.{nat_tests}
use Rattle.mx_book.specs.commands.Same.{same_text}
use Rattle.mx_indexed_book.specs.maps.Maps.{HasRoomForAll, IsIndex, KeepsRows, changed, changed_all, held}

module _ {K V : Type 0} (cmp : K → K → Ordering) (none : V) where
  -- with room for one key more a map has the answers that it had
  pub stays : (answer : K → V) (old new : BTreeMap K V) → ((key : K) → held cmp none new key ≡ held cmp none old key) → IsIndex cmp none answer old → IsIndex cmp none answer new
  stays answer old new same i key = same key ∙ i key

  -- where an entry changes the answer of one key, and the map is changed so, it has the answers behind the entry
  pub moves : (answer later : K → V) (old new : BTreeMap K V) (change said : Option (K × V)) → ((key : K) → held cmp none new key ≡ changed cmp change key (held cmp none old key))
      → change ≡ said → ((key : K) → later key ≡ changed cmp said key (answer key)) → IsIndex cmp none answer old → IsIndex cmp none later new
  moves answer later old new change said put is law i key = put key ∙ ap (changed cmp change key) (i key) ∙ ap (λ (o : Option (K × V)). changed cmp o key (answer key)) is ∙ sym (law key)

-- the order of texts tells the same texts
pub tie : (text name : List ℕ) → is_eq (slice_cmp nat_cmp text name) ≡ same_text text name
tie text name = sym (texts_ties text name)

-- the order of numbers tells the same number
pub tie_number : (n m : ℕ) → is_eq (nat_cmp n m) ≡ nat_eq n m
tie_number n m = at (nat_lt n m) (nat_eq n m) (λ h. grind (arith, nat_tests))
  where
    at : (less same : Bool) → (less ≡ true → same ≡ false) → is_eq (cond less Less (cond same Equal Greater)) ≡ same
    at true same h = sym (h refl)
    at false true h = refl
    at false false h = refl

-- ── several changes ──

module _ {K V : Type 0} (cmp : K → K → Ordering) where
  room_kept : (changes : List (K × V)) (old new : BTreeMap K V) → KeepsRows cmp old new → HasRoomForAll cmp changes old → HasRoomForAll cmp changes new
  room_kept [] old new keeps h = tt
  room_kept (change ∷ changes) old new keeps h = (keeps change.0 h.0, room_kept changes old new keeps h.1)

  -- behind one change there is room for those that are left
  pub room_left : (rest later : List (K × V)) (change : K × V) (old new : BTreeMap K V) → rest ≡ change ∷ later → KeepsRows cmp old new → HasRoomForAll cmp rest old → HasRoomForAll cmp later new
  room_left rest later change old new is keeps h = room_kept later old new keeps ((subst (λ (cs : List (K × V)). HasRoomForAll cmp cs old) is h).1)

  -- and those that are left make the same of the map
  pub same_left : (rest later : List (K × V)) (change : K × V) (old new : BTreeMap K V) (none : V) (key : K) → rest ≡ change ∷ later → held cmp none new key ≡ changed cmp (Some change) key (held cmp none old key)
      → changed_all cmp later key (held cmp none new key) ≡ changed_all cmp rest key (held cmp none old key)
  same_left rest later change old new none key is put = ap (changed_all cmp later key) put ∙ ap (λ (cs : List (K × V)). changed_all cmp cs key (held cmp none old key)) (sym is)
