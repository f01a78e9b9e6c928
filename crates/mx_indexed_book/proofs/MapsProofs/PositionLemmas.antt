-- What an entry gives of positions.
use Rattle.std.proofs.Common.{refl, sym, ap, ◌∙◌, ◌≡◌, ℕ, List, [], ◌∷◌, ◌++◌, append_assoc, append-nil, map, Bool, true, false, cond, ◌&&◌, Option, Some, None}
use Rattle.std.specs.Prelude.{find, is_some, not}
use Rattle.std.specs.List.{flat_map, list_any}
use Rattle.std.specs.Option.{option_map, option_or}
use Rattle.std.proofs.lemmas.List.Folds.{find-append}
use Rattle.mx_book.specs.commands.Act.{Act, Entry, Added, Listed, Loaded, Opened, Flown, Fitted, Removed, Released, Deferred, Extended, aircraft_of, positions_of}
use Rattle.mx_book.specs.commands.Bounds.{are_distinct}
use Rattle.mx_book.specs.commands.Same.{same_text}
use Rattle.mx_book.specs.commands.Shape.{act_shape, has_shape, opening_shape, positions_shape, same_name}
use Rattle.mx_book.specs.declared.commands.aircraft.Aircraft.{Aircraft}
use Rattle.mx_book.proofs.CommandsProofs.SameLemmas.{text_same}
use Rattle.mx_book.specs.declared.verdict.Verdict.TheVariants.{New}
use Rattle.mx_book.specs.Book.{is_new}
use Rattle.mx_book.specs.Judge.{judge}
use Rattle.mx_book.specs.Register.{aircraft, part_among, part_at, positions, positions_added}
use Rattle.mx_book.proofs.JudgeLemmas.{both_true}
use Rattle.mx_registers.proofs.KeptProofs.DoneLemmas.{neither}
use Rattle.mx_registers.proofs.KeptProofs.SpanGrowth.{same_sym}
use Rattle.mx_registers.proofs.NewLemmas.{added_is_unknown}
use Rattle.mx_indexed_book.specs.maps.Maps.{changed, changed_all}
use Rattle.mx_indexed_book.specs.maps.Places.{names_cmp}
use Rattle.mx_indexed_book.specs.maps.Positions.{part_of, parts_given}
use Rattle.mx_indexed_book.proofs.MapsProofs.PlaceLemmas.{tie_names}

-- ── the positions of one more entry ──

flat_more : {X Y : Type 0} (f : X → List Y) (xs : List X) (x : X) → flat_map f (xs ++ x ∷ []) ≡ flat_map f xs ++ f x
flat_more f [] x = append-nil (f x)
flat_more f (y ∷ xs) x = ap (λ l. f y ++ l) (flat_more f xs x) ∙ sym (append_assoc (f y) (flat_map f xs) (f x))

map_or : {X Y : Type 0} (f : X → Y) (o p : Option X) → option_map f (option_or o p) ≡ option_or (option_map f o) (option_map f p)
map_or f None p = refl
map_or f (Some x) p = refl

part-more : (book : List Entry) (entry : Entry) (tail position : List ℕ) → part_at (book ++ entry ∷ []) tail position ≡ option_or (part_at book tail position) (part_among (positions_added tail entry.act) position)
part-more book entry tail position =
    ap (λ ps. part_among ps position) (flat_more (λ (e : Entry). positions_added tail e.act) book entry)
    ∙ ap (option_map (λ (p : List ℕ × List ℕ). p.1)) (find-append (λ (p : List ℕ × List ℕ). same_text p.0 position) (positions book tail) (positions_added tail entry.act))
    ∙ map_or (λ (p : List ℕ × List ℕ). p.1) (find (λ (p : List ℕ × List ℕ). same_text p.0 position) (positions book tail)) (find (λ (p : List ℕ × List ℕ). same_text p.0 position) (positions_added tail entry.act))

-- ── an aircraft that is not there has no positions ──

no_positions : (book : List Entry) (tail : List ℕ) → is_some (aircraft book tail) ≡ false → positions book tail ≡ []
no_positions [] tail h = refl
no_positions (e ∷ book) tail h = at e.act h (no_positions book tail)
  where
    at_added : (b : Bool) (a : Aircraft) (ps : List (List ℕ × List ℕ)) → is_some (cond b (Some a) (aircraft book tail)) ≡ false → (is_some (aircraft book tail) ≡ false → positions book tail ≡ []) → (cond b ps []) ++ positions book tail ≡ []
    at_added true a ps g rest = absurd (cc)
    at_added false a ps g rest = rest g

    at : (act : Act) → is_some (aircraft (record { doc = e.doc; act = act } ∷ book) tail) ≡ false → (is_some (aircraft book tail) ≡ false → positions book tail ≡ []) → positions_added tail act ++ positions book tail ≡ []
    at (Added a ps) g rest = at_added (same_text a.tail tail) a ps g rest
    at (Listed c) g rest = rest g
    at (Loaded p tasks) g rest = rest g
    at (Opened o) g rest = rest g
    at (Flown s) g rest = rest g
    at (Fitted f) g rest = rest g
    at (Removed r) g rest = rest g
    at (Released r lines) g rest = rest g
    at (Deferred d) g rest = rest g
    at (Extended x) g rest = rest g

-- ── the changes of positions with distinct names ──

module _ (own tail position : List ℕ) where
  abbrev given : List (List ℕ × List ℕ) → List ((List ℕ × List ℕ) × Option (List ℕ))
  given ps = map (λ p. ((own, p.0), Some p.1)) ps

  -- a change of one position
  one_given : (p : List ℕ × List ℕ) (v : Option (List ℕ)) → changed names_cmp (Some ((own, p.0), Some p.1)) (tail, position) v ≡ cond (same_text own tail && same_text p.0 position) (Some p.1) v
  one_given p v = ap (λ b. cond b (Some p.1) v) (tie_names (own, p.0) (tail, position))

  -- of another aircraft nothing changes
  other_given : same_text own tail ≡ false → (ps : List (List ℕ × List ℕ)) (v : Option (List ℕ)) → changed_all names_cmp (given ps) (tail, position) v ≡ v
  other_given h [] v = refl
  other_given h (p ∷ ps) v =
      ap (changed_all names_cmp (given ps) (tail, position)) (one_given p v ∙ ap (λ b. cond (b && same_text p.0 position) (Some p.1) v) h)
      ∙ other_given h ps v

  -- nor where none of the positions has the name
  none_given : (ps : List (List ℕ × List ℕ)) (v : Option (List ℕ)) → same_text own tail ≡ true → list_any (λ (p : List ℕ × List ℕ). same_text position p.0) ps ≡ false → changed_all names_cmp (given ps) (tail, position) v ≡ v
  none_given [] v h none = refl
  none_given (p ∷ ps) v h none =
      let both = neither (same_text position p.0) (list_any (λ (q : List ℕ × List ℕ). same_text position q.0) ps) none in
      ap (changed_all names_cmp (given ps) (tail, position)) (one_given p v ∙ ap (λ b. cond (b && same_text p.0 position) (Some p.1) v) h ∙ ap (λ b. cond b (Some p.1) v) (same_sym p.0 position ∙ both.0))
      ∙ none_given ps v h both.1

  all_given : same_text own tail ≡ true → (ps : List (List ℕ × List ℕ)) (v : Option (List ℕ)) → are_distinct same_name ps ≡ true → changed_all names_cmp (given ps) (tail, position) v ≡ option_or (part_among ps position) v
  all_given h [] v distinct = refl
  all_given h (p ∷ ps) v distinct =
      let both = both_true (not (list_any (same_name p) ps)) (are_distinct same_name ps) distinct in
      ap (changed_all names_cmp (given ps) (tail, position)) (one_given p v ∙ ap (λ b. cond (b && same_text p.0 position) (Some p.1) v) h)
      ∙ at (same_text p.0 position) refl (none_given ps (Some p.1) h) (all_given h ps v both.1) (untrue (list_any (same_name p) ps) both.0)
    where
      untrue : (b : Bool) → not b ≡ true → b ≡ false
      untrue true e = absurd (cc)
      untrue false e = refl

      at : (b : Bool) → same_text p.0 position ≡ b → (list_any (λ (q : List ℕ × List ℕ). same_text position q.0) ps ≡ false → changed_all names_cmp (given ps) (tail, position) (Some p.1) ≡ Some p.1)
          → changed_all names_cmp (given ps) (tail, position) v ≡ option_or (part_among ps position) v → list_any (same_name p) ps ≡ false
          → changed_all names_cmp (given ps) (tail, position) (cond b (Some p.1) v) ≡ option_or (option_map (λ (q : List ℕ × List ℕ). q.1) (cond b (Some p) (find (λ (q : List ℕ × List ℕ). same_text q.0 position) ps))) v
      at true e none rest apart = none (ap (λ (t : List ℕ). list_any (λ (q : List ℕ × List ℕ). same_text t q.0) ps) (sym ((text_same p.0 position).0 e)) ∙ apart)
      at false e none rest apart = rest

-- ── the law ──

or_none : {X : Type 0} (o : Option X) → option_or o None ≡ o
or_none None = refl
or_none (Some x) = refl

shape_of : (a : Aircraft) (ps : List (List ℕ × List ℕ)) → act_shape (Added a ps) ≡ true → are_distinct same_name ps ≡ true
shape_of a ps h =
    let both = both_true (opening_shape a.birth a.opening a.as_of) (positions_shape ps) h in
    (both_true _ (are_distinct same_name ps) both.1).1

part_by : (book : List Entry) (doc : List ℕ) (act : Act) → act_shape act ≡ true → judge book (record { doc = doc; act = act }) ≡ New → (tail position : List ℕ)
    → option_or (part_at book tail position) (part_among (positions_added tail act) position) ≡ changed_all names_cmp (parts_given act) (tail, position) (part_at book tail position)
part_by book doc (Added a ps) shape new tail position = at (same_text a.tail tail) refl
  where
    free : same_text a.tail tail ≡ true → part_at book tail position ≡ None
    free e =
        let unknown : is_some (aircraft book tail) ≡ false = ap (λ (t : List ℕ). is_some (aircraft book t)) (sym ((text_same a.tail tail).0 e)) ∙ added_is_unknown book doc a ps (ap is_new new) in
        ap (λ l. part_among l position) (no_positions book tail unknown)

    at : (b : Bool) → same_text a.tail tail ≡ b → option_or (part_at book tail position) (part_among (cond b ps []) position) ≡ changed_all names_cmp (given a.tail tail position ps) (tail, position) (part_at book tail position)
    at true e =
        ap (λ o. option_or o (part_among ps position)) (free e)
        ∙ sym (or_none (part_among ps position)) ∙ ap (option_or (part_among ps position)) (sym (free e))
        ∙ sym (all_given a.tail tail position e ps (part_at book tail position) (shape_of a ps shape))
    at false e = or_none (part_at book tail position) ∙ sym (other_given a.tail tail position e ps (part_at book tail position))
part_by book doc _ shape new tail position = or_none (part_at book tail position)

pub part_moves : (book : List Entry) (entry : Entry) → has_shape entry ≡ true → judge book entry ≡ New → (place : List ℕ × List ℕ)
    → part_of (book ++ entry ∷ []) place ≡ changed_all names_cmp (parts_given entry.act) place (part_of book place)
part_moves book entry shape new place =
    part-more book entry place.0 place.1
    ∙ part_by book entry.doc entry.act (both_true (act_shape entry.act) _ shape).0 new place.0 place.1

-- the positions of an entry that adds an aircraft are of that
pub given_is : (act : Act) (a : Aircraft) → aircraft_of act ≡ Some a → parts_given act ≡ map (λ p. ((a.tail, p.0), Some p.1)) (positions_of act)
given_is (Added x ps) a h = let same : x ≡ a = cc in ap (λ (y : Aircraft). map (λ (p : List ℕ × List ℕ). ((y.tail, p.0), Some p.1)) ps) same
given_is _ a h = absurd cc
