-- Where a head ends.
use Rattle.std.proofs.Common.{◌≡◌, ◌≤◌, ◌+◌, ◌-◌, ◌⊎◌, inl, inr, ⊎_elim, ℕ, List, [], ◌∷◌, ◌++◌, length, take, Bool, true, false, cond, eqb, ltb, Option, Some, None, Ok, Err, refl, append-nil, sym, ap, ap₂, subst, ◌∙◌, arith, length-take, length-append}
use Rattle.std.proofs.lemmas.Bool.{cases_Bool, le-ltb}
use Rattle.std.proofs.lemmas.Bool.Decides.{same_from_decides, Decides-like}
use Rattle.std.proofs.lemmas.List.{take-append-le, take_all}
use Rattle.std.proofs.lemmas.Slice.Eq.{bytes_eq-Decides}
use Rattle.std.proofs.Math.Nat.{min-le_right}
use Rattle.std.proofs.Math.Seq.{take-append-add}
use Rattle.std.specs.Option.{option_map, is_some}
use Rattle.std.specs.List.{starts_with, IsFirstAndRest}
use Rattle.std.specs.Str.{bytes_eq}
use Rattle.std.specs.Io.KnownBytes.{Consumes, IsAtEnd}
use Rattle.mx_http.specs.request.Head.{head_mark, head_length, head_of, without_head, cut_at}
use Rattle.mx_http.specs.declared.request.rejection.Rejection.TheVariants.{BadRequest, HeadTooLarge}
use Rattle.mx_http.specs.declared.request.head.TheConstants.{MOST_HEAD}

-- some bytes of an input were passed, in which no head ends
pub record IsPassed (bytes rest : List ℕ) (passed : ℕ) : Type 0 where
  pub long : passed + length rest ≡ length bytes
  pub same : head_length bytes ≡ option_map (λ n. n + passed) (head_length rest)

-- whether the mark stands at the front
abbrev is_marked : List ℕ → Bool
is_marked xs = bytes_eq (take 4 xs) head_mark

-- the length by whether the mark stands at the front, and the length of what is behind the first byte
abbrev choice : Bool → Option ℕ → Option ℕ
choice t o = cond t (Some 4) (option_map (λ n. n + 1) o)

by_choice : (b : ℕ) (xs : List ℕ) → head_length (b ∷ xs) ≡ choice (is_marked (b ∷ xs)) (head_length xs)
by_choice b xs = refl

mark_in_front : (xs : List ℕ) → starts_with eqb xs head_mark ≡ is_marked xs
mark_in_front xs = same_from_decides _ _ (Decides-like _ sym sym (bytes_eq-Decides head_mark (take 4 xs))) (bytes_eq-Decides (take 4 xs) head_mark)

added : (o : Option ℕ) (passed : ℕ) → option_map (λ n. n + passed) (option_map (λ n. n + 1) o) ≡ option_map (λ n. n + (passed + 1)) o
added None passed = refl
added (Some n) passed = ap Some (omega arith)

passed_one : (bytes later : List ℕ) (b passed : ℕ) → IsPassed bytes (b ∷ later) passed → is_marked (b ∷ later) ≡ false → IsPassed bytes later (passed + 1)
passed_one bytes later b passed before unmarked = record {
  long = omega (arith, before.long);
  same = before.same ∙ ap (λ t. option_map (λ n. n + passed) (choice t (head_length later))) unmarked ∙ added (head_length later) passed;
}

-- one more byte is passed
pub passed_more : (bytes rest later : List ℕ) (b passed : ℕ) → IsPassed bytes rest passed → IsFirstAndRest rest b later → starts_with eqb rest head_mark ≡ false → IsPassed bytes later (passed + 1)
passed_more bytes rest later b passed before parts unmarked =
    passed_one bytes later b passed (subst (λ xs. IsPassed bytes xs passed) parts.0 before)
    (ap is_marked (sym parts.0) ∙ sym (mark_in_front rest) ∙ unmarked)

one_more : (o : Option ℕ) (n : ℕ) → option_map (λ k. k + 1) o ≡ Some n → (m : ℕ) × (o ≡ Some m)
one_more None n h = absurd (cc)
one_more (Some m) n h = (m, refl)

marked_long : (xs : List ℕ) → is_marked xs ≡ true → 4 ≤ length xs
marked_long xs h = omega (arith, length-take 4 xs, ap length ((bytes_eq-Decides (take 4 xs) head_mark).0 h))

long_enough : (xs : List ℕ) (n : ℕ) → head_length xs ≡ Some n → 4 ≤ length xs
long_enough [] n h = absurd (cc)
long_enough (b ∷ xs) n h =
    ⊎_elim (λ t. marked_long (b ∷ xs) t)
    (λ f. let behind = one_more (head_length xs) n (sym (ap (λ t. choice t (head_length xs)) f) ∙ h) in
    let enough : 4 ≤ length xs = long_enough xs behind.0 behind.1 in omega arith)
    (cases_Bool (is_marked (b ∷ xs)))

-- a head that ends within some bytes ends there whatever follows them
pub kept : (xs ys : List ℕ) (n : ℕ) → head_length xs ≡ Some n → head_length (xs ++ ys) ≡ head_length xs
kept [] ys n h = absurd (cc)
kept (b ∷ xs) ys n h =
    let same : is_marked (b ∷ xs ++ ys) ≡ is_marked (b ∷ xs) = ap (λ l. bytes_eq l head_mark) (take-append-le 4 (b ∷ xs) ys (long_enough (b ∷ xs) n h)) in
    ap (λ t. choice t (head_length (xs ++ ys))) same
    ∙ ⊎_elim (λ t. ap (λ s. choice s (head_length (xs ++ ys))) t ∙ sym (ap (λ s. choice s (head_length xs)) t))
    (λ f. let behind = one_more (head_length xs) n (sym (ap (λ t. choice t (head_length xs)) f) ∙ h) in
    ap (λ o. choice (is_marked (b ∷ xs)) o) (kept xs ys behind.0 behind.1))
    (cases_Bool (is_marked (b ∷ xs)))

cut_like : (o p : Option ℕ) (xs ys : List ℕ) → o ≡ p → (o ≡ None → without_head xs ≡ without_head ys) → cut_at o xs ≡ cut_at p ys
cut_like None None xs ys e h = ap Err (h refl)
cut_like None (Some n) xs ys e h = absurd (cc)
cut_like (Some m) None xs ys e h = absurd (cc)
cut_like (Some m) (Some n) xs ys e h = ap Ok (cc)

told_more : (bytes rest : List ℕ) → MOST_HEAD ≤ length bytes → without_head bytes ≡ without_head (bytes ++ rest)
told_more bytes rest full =
    let here : ltb (length bytes) MOST_HEAD ≡ false = le-ltb (length bytes) MOST_HEAD full in
    let there : ltb (length (bytes ++ rest)) MOST_HEAD ≡ false = le-ltb (length (bytes ++ rest)) MOST_HEAD (omega (arith, length-append bytes rest)) in
    ap (λ t. cond t BadRequest HeadTooLarge) (here ∙ sym there)

-- a front of as many bytes as a head has tells its end
told_by_full : (bytes rest : List ℕ) → MOST_HEAD ≤ length bytes → head_of bytes ≡ head_of (bytes ++ rest)
told_by_full bytes rest full =
    cut_like _ _ bytes (bytes ++ rest) (ap head_length (sym (take-append-le MOST_HEAD bytes rest full))) (λ _. told_more bytes rest full)

-- a front with a head in it tells its end
told_by_head : (bytes rest : List ℕ) (n : ℕ) → length bytes ≤ MOST_HEAD → head_length bytes ≡ Some n → head_of bytes ≡ head_of (bytes ++ rest)
told_by_head bytes rest n short found =
    let here : head_length (take MOST_HEAD bytes) ≡ Some n = ap head_length (take_all MOST_HEAD bytes short) ∙ found in
    let k : ℕ = MOST_HEAD - length bytes in
    let sum : MOST_HEAD ≡ length bytes + k = omega arith in
    let cut : take MOST_HEAD (bytes ++ rest) ≡ bytes ++ take k rest = ap (λ m. take m (bytes ++ rest)) sum ∙ take-append-add bytes rest k in
    let there : head_length (take MOST_HEAD (bytes ++ rest)) ≡ Some n = ap head_length cut ∙ kept bytes (take k rest) n found ∙ found in
    cut_like _ _ bytes (bytes ++ rest) (here ∙ sym there) (λ none. absurd (cc))

-- why a front of an input tells where its head ends: it is as long as a head may be, a head ends in it, or it is all
abbrev pub IsTelling : List ℕ → Option (List ℕ) → Type 0
IsTelling bytes left = (MOST_HEAD ≤ length bytes) ⊎ (((n : ℕ) × (head_length bytes ≡ Some n)) ⊎ IsAtEnd left)

told : (bytes rest : List ℕ) → length bytes ≤ MOST_HEAD → IsTelling bytes (Some rest) → head_of bytes ≡ head_of (bytes ++ rest)
told bytes rest short (inl full) = told_by_full bytes rest full
told bytes rest short (inr (inl found)) = told_by_head bytes rest found.0 short found.1
told bytes rest short (inr (inr none)) = ap head_of (sym (append-nil bytes) ∙ ap (λ r. bytes ++ r) (sym none))

not_empty : (bytes rest : List ℕ) → IsTelling bytes (Some rest) → bytes ≡ [] → bytes ++ rest ≡ []
not_empty bytes rest (inl full) e = absurd (omega (arith, ap length e))
not_empty bytes rest (inr (inl found)) e = absurd (omega (arith, ap length e, long_enough bytes found.0 found.1))
not_empty bytes rest (inr (inr none)) e = ap₂ (λ xs ys. xs ++ ys) e none

-- what was read of an input tells where its head ends
pub enough : (old new : Option (List ℕ)) (bytes : List ℕ) → Consumes old new bytes → length bytes ≤ MOST_HEAD → IsTelling bytes new
    → (input : List ℕ) → old ≡ Some input
    → (rest : List ℕ) × (new ≡ Some rest) × (input ≡ bytes ++ rest) × (head_of bytes ≡ head_of input) × (bytes ≡ [] → input ≡ [])
enough None new bytes taken short telling input is = absurd (cc)
enough (Some xs) None bytes taken short telling input is = absurd taken
enough (Some xs) (Some rest) bytes taken short telling input is =
    let whole : input ≡ bytes ++ rest = cc in
    (rest, refl, whole, told bytes rest short telling ∙ ap head_of (sym whole), λ empty. whole ∙ not_empty bytes rest telling empty)

-- some head ends there
pub head_there : (o : Option ℕ) (bytes : List ℕ) → o ≡ head_length bytes → is_some o ≡ true → (n : ℕ) × (head_length bytes ≡ Some n)
head_there None bytes is h = absurd (cc)
head_there (Some n) bytes is h = (n, sym is)

-- what is no more than a front has is no more than the whole
pub within_front : (most n : ℕ) (bytes : List ℕ) → n ≤ length (take most bytes) → n ≤ length bytes
within_front most n bytes few =
    let is = length-take most bytes in
    let shorter = min-le_right most (length bytes) in
    grind (arith)
