-- Joining what there is against lines.
use Rattle.std.proofs.Common.{refl, sym, subst, ap, ◌∙◌, ◌≡◌, length, List, [], ◌∷◌, Bool, true, false, ◌||◌, Option}
use Rattle.std.specs.Prelude.{ℕ}
use Rattle.mx_book.specs.commands.Act.{Entry}
use Rattle.mx_book.specs.declared.commands.release.Line.{Line}
use Rattle.mx_book.specs.declared.commands.release.Place.{Place}
use Rattle.mx_book.specs.Facts.{either, no_facts, line_facts, lines_facts}
use Rattle.mx_book.specs.declared.facts.LineFacts.{LineFacts}

or_assoc : (a b c : Bool) → (a || b) || c ≡ a || (b || c)
or_assoc true b c = refl
or_assoc false b c = refl

or_false : (a : Bool) → a || false ≡ a
or_false true = refl
or_false false = refl

either_assoc : (a b c : LineFacts) → either (either a b) c ≡ either a (either b c)
either_assoc a b c = simp or_assoc

pub either_no_facts : (a : LineFacts) → either a no_facts ≡ a
either_no_facts a = simp or_false

-- one line more is looked at
pub one_more : (book : List Entry) (place : Place) (kind : Option (List ℕ)) (all facts joined whole : LineFacts) (line : Line) (rest later : List Line)
    → rest ≡ line ∷ later → facts ≡ line_facts book place kind line → joined ≡ either all facts
    → either all (lines_facts book place kind rest) ≡ whole → either joined (lines_facts book place kind later) ≡ whole
one_more book place kind all facts joined whole line rest later is e f h =
    ap (λ j. either j (lines_facts book place kind later)) f
    ∙ either_assoc all facts (lines_facts book place kind later)
    ∙ ap (λ x. either all (either x (lines_facts book place kind later))) e
    ∙ subst (λ (r : List Line). either all (lines_facts book place kind r) ≡ whole) is h

-- all lines were looked at
pub all_seen : (book : List Entry) (place : Place) (kind : Option (List ℕ)) (all whole : LineFacts) (rest : List Line)
    → length rest ≡ 0 → either all (lines_facts book place kind rest) ≡ whole → all ≡ whole
all_seen book place kind all whole [] is h = sym (either_no_facts all) ∙ h
all_seen book place kind all whole (line ∷ rest) is h = (cc)
