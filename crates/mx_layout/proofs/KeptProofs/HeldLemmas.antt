-- The law of a table holds for things that hold what stands in it.
use Rattle.std.proofs.Common.{◌≡◌, ◌∙◌, ℕ, List, [], ◌∷◌, map, sym, ap, subst}
use Rattle.std.specs.Prelude.{IsSorted}
use Rattle.std.proofs.lemmas.List.Elements.{All-map}
use Rattle.std.proofs.lemmas.Simd.{map-map}
use Rattle.mx_base.specs.rows.Rising.{IsFrom}
use Rattle.mx_layout.specs.kept.Kept.{Kept, held}
use Rattle.mx_layout.specs.kept.Meanings.{IsLawful}

module _ {X Y : Type 0} (k : Kept X) (inner : Y → X) (outer : X → Y) (back : (x : X) → inner (outer x) ≡ x) (one : (a b : Y) → inner a ≡ inner b → a ≡ b) where
  from_inner : (low : ℕ) (ys : List Y) → IsFrom k.key low (map inner ys) → IsFrom (λ y. k.key (inner y)) low ys
  from_inner low [] from = tt
  from_inner low (y ∷ ys) from = (from.0, from_inner (k.key (inner y)) ys from.1)

  pub held_lawful : IsLawful k → IsLawful (held k inner)
  held_lawful law = record {
    there = law.there;
    shows = law.shows;
    adds = λ schema has y. law.adds schema has (inner y);
    once = λ a b fits_a fits_b same. one a b (law.once (inner a) (inner b) fits_a fits_b same);
    tells = λ row readable. (let it = law.tells row readable in
        (outer it.0, subst k.Fits (sym (back it.0)) it.1, it.2 ∙ ap k.as_cells (sym (back it.0))));
    keyed = λ y. law.keyed (inner y);
    in_order = λ ys fits sorted. from_inner 0 ys (law.in_order (map inner ys) (All-map k.Fits inner ys fits) (subst (IsSorted k.order) (sym (map-map k.as_cells inner ys)) sorted));
  }
