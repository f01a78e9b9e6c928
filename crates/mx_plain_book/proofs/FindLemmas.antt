-- Finding positions, entry by entry.
use Rattle.std.proofs.Common.{refl, sym, ap, ◌∙◌, ◌≡◌, ℕ, List, [], ◌∷◌, ◌++◌, Bool, true, false, cond, Some, None}
use Rattle.std.specs.Prelude.{find}
use Rattle.std.specs.List.{flat_map}
use Rattle.std.specs.Option.{option_map}
use Rattle.mx_book.specs.commands.Act.{Entry}
use Rattle.mx_book.specs.commands.Same.{same_text}
use Rattle.mx_book.specs.Register.{part_among, part_at, positions_added}

found_among : (xs ys : List (List ℕ × List ℕ)) (position part : List ℕ) → part_among xs position ≡ Some part → part_among (xs ++ ys) position ≡ Some part
found_among [] ys position part h = (cc)
found_among (x ∷ xs) ys position part h = at (found_among xs ys position part) (same_text x.0 position) h
  where
    at : (part_among xs position ≡ Some part → part_among (xs ++ ys) position ≡ Some part) → (b : Bool) → option_map (λ (p : List ℕ × List ℕ). p.1) (cond b (Some x) (find (λ (p : List ℕ × List ℕ). same_text p.0 position) xs)) ≡ Some part → option_map (λ (p : List ℕ × List ℕ). p.1) (cond b (Some x) (find (λ (p : List ℕ × List ℕ). same_text p.0 position) (xs ++ ys))) ≡ Some part
    at later true h = h
    at later false h = later h

missed_among : (xs ys : List (List ℕ × List ℕ)) (position : List ℕ) → part_among xs position ≡ None → part_among (xs ++ ys) position ≡ part_among ys position
missed_among [] ys position h = refl
missed_among (x ∷ xs) ys position h = at (missed_among xs ys position) (same_text x.0 position) h
  where
    at : (part_among xs position ≡ None → part_among (xs ++ ys) position ≡ part_among ys position) → (b : Bool) → option_map (λ (p : List ℕ × List ℕ). p.1) (cond b (Some x) (find (λ (p : List ℕ × List ℕ). same_text p.0 position) xs)) ≡ None → option_map (λ (p : List ℕ × List ℕ). p.1) (cond b (Some x) (find (λ (p : List ℕ × List ℕ). same_text p.0 position) (xs ++ ys))) ≡ part_among ys position
    at later true h = (cc)
    at later false h = later h

-- a part that the first entry gives the position is what it takes
pub part_found : (entries rest later : List Entry) (entry : Entry) (tail position part : List ℕ) → rest ≡ entry ∷ later → part_at rest tail position ≡ part_at entries tail position
    → part_among (positions_added tail entry.act) position ≡ Some part → part_at entries tail position ≡ Some part
part_found entries rest later entry tail position part e i h =
    sym i ∙ ap (λ es. part_at es tail position) e
    ∙ found_among (positions_added tail entry.act) (flat_map (λ (e : Entry). positions_added tail e.act) later) position part h

-- where the first entry does not give the position, the others decide
pub part_missed : (entries rest later : List Entry) (entry : Entry) (tail position : List ℕ) → rest ≡ entry ∷ later → part_at rest tail position ≡ part_at entries tail position
    → part_among (positions_added tail entry.act) position ≡ None → part_at later tail position ≡ part_at entries tail position
part_missed entries rest later entry tail position e i h =
    sym (missed_among (positions_added tail entry.act) (flat_map (λ (e : Entry). positions_added tail e.act) later) position h)
    ∙ ap (λ es. part_at es tail position) (sym e) ∙ i
