-- Texts that begin with another.
use Rattle.std.proofs.Common.{◌≡◌, ◌∙◌, ℕ, List, [], ◌∷◌, ◌++◌, length, take, drop, refl, sym, ap, subst}
use Rattle.std.proofs.lemmas.List.{take-append-drop}
use Rattle.mx_reports.specs.Words.{StartsWith}

-- a text that begins with a longer text begins with what that begins with
starts : (old more new : List ℕ) → take (length (old ++ more)) new ≡ old ++ more → take (length old) new ≡ old
starts [] more new h = refl
starts (x ∷ old) more [] h = (cc)
starts (x ∷ old) more (y ∷ new) h =
    let head : y ≡ x = cc in
    let tail : take (length (old ++ more)) new ≡ old ++ more = cc in
    let rest : take (length old) new ≡ old = starts old more new tail in
    cc

pub starts_further : (old more mid new : List ℕ) → mid ≡ old ++ more → StartsWith mid new → StartsWith old new
starts_further old more mid new e h = starts old more new (subst (λ m. take (length m) new ≡ m) e h)

-- a text begins with what it was before something was appended
starts_with : (old more : List ℕ) → StartsWith old (old ++ more)
starts_with [] more = refl
starts_with (x ∷ old) more = ap (λ rest. x ∷ rest) (starts_with old more)

-- what begins with a text that begins with another begins with that
pub starts_then : (old mid new : List ℕ) → StartsWith old mid → StartsWith mid new → StartsWith old new
starts_then old mid new first next =
    let split : mid ≡ old ++ drop (length old) mid = sym (take-append-drop (length old) mid) ∙ ap (λ front. front ++ drop (length old) mid) first in
    starts_further old (drop (length old) mid) mid new split next

-- and so does what begins with it, behind which something is appended
pub starts_longer : (old mid more : List ℕ) → StartsWith old mid → StartsWith old (mid ++ more)
starts_longer old mid more first = starts_then old mid (mid ++ more) first (starts_with mid more)
