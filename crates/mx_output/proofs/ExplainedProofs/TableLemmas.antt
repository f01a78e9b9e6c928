-- Lemmas on the table of explanations, and on what is found in it.
use Rattle.std.proofs.Common.{◌≡◌, ◌∙◌, ℕ, Bool, true, false, cond, ◌&&◌, ◌||◌, List, [], ◌∷◌, Option, Some, None, Bor, map, find, IfSome, refl, ap, sym, subst}
use Rattle.std.specs.Prelude.{is_some}
use Rattle.std.specs.List.{list_all, list_any}
use Rattle.std.specs.Option.{option_map}
use Rattle.std.specs.Str.{bytes_eq}
use Rattle.std.specs.Fmt.{digits}
use Rattle.std.proofs.lemmas.Slice.Eq.{bytes_eq-Decides}
use Rattle.mx_output.specs.explained.Explained.{explained_words, explanation_of, explanations, first_word, is_explained}
use Rattle.mx_output.specs.explained.Form.{is_explanation}

-- ── the table, computed ──

-- its texts begin with all that is explained, in that order
words_of_the_table : map first_word explanations ≡ explained_words
unfolding digits explanations
words_of_the_table = refl

-- and each explains what it begins with
forms_of_the_table : list_all (λ text. is_explanation (first_word text) text) explanations ≡ true
unfolding explanations
forms_of_the_table = refl

-- ── what is found in a list ──

one_more : {X Y : Type 0} (f : X → Y) (b : Bool) (x : X) (r : Option X) (s : Option Y) → option_map f r ≡ s → option_map f (cond b (Some x) r) ≡ cond b (Some (f x)) s
one_more f true x r s e = refl
one_more f false x r s e = e

-- what is found by a value of each is found among the values
pub found_by : {X Y : Type 0} (f : X → Y) (p : Y → Bool) (xs : List X) → option_map f (find (λ x. p (f x)) xs) ≡ find p (map f xs)
found_by f p [] = refl
found_by f p (x ∷ xs) = one_more f (p (f x)) x (find (λ x. p (f x)) xs) (find p (map f xs)) (found_by f p xs)

some_more : {X : Type 0} (b c : Bool) (x : X) (r : Option X) → is_some r ≡ c → is_some (cond b (Some x) r) ≡ (b || c)
some_more true c x r e = refl
some_more false c x r e = e

-- something is found where a value of one passes
found_if_any : {X Y : Type 0} (f : X → Y) (p : Y → Bool) (xs : List X) → is_some (find (λ x. p (f x)) xs) ≡ list_any p (map f xs)
found_if_any f p [] = refl
found_if_any f p (x ∷ xs) = some_more (p (f x)) (list_any p (map f xs)) x (find (λ x. p (f x)) xs) (found_if_any f p xs)

both_of : (a b : Bool) → (a && b) ≡ true → (a ≡ true) × (b ≡ true)
both_of true b e = (refl, e)
both_of false b e = absurd (cc)

first_or_later : {X : Type 0} (p q : X → Bool) (b : Bool) (x : X) (r : Option X) → p x ≡ b → q x ≡ true → IfSome r (λ y. (p y ≡ true) × (q y ≡ true)) → IfSome (cond b (Some x) r) (λ y. (p y ≡ true) × (q y ≡ true))
first_or_later p q true x r is all later = (is, all)
first_or_later p q false x r is all later = later

-- what is found passes, and passes what all do
found_passes : {X : Type 0} (p q : X → Bool) (xs : List X) → list_all q xs ≡ true → IfSome (find p xs) (λ y. (p y ≡ true) × (q y ≡ true))
found_passes p q [] all = tt
found_passes p q (x ∷ xs) all =
    let both = both_of (q x) (list_all q xs) all in first_or_later p q (p x) x (find p xs) refl both.0 (found_passes p q xs both.1)

if_some_turned : {X : Type 0} (P Q : X → Type 0) (r : Option X) → ((x : X) → P x → Q x) → IfSome r P → IfSome r Q
if_some_turned P Q None turn h = tt
if_some_turned P Q (Some x) turn h = turn x h

-- a value of what is there is there, and what holds of it holds by what is there
some_by : {X Y : Type 0} (f : X → Y) (r : Option X) → is_some r ≡ is_some (option_map f r)
some_by f None = refl
some_by f (Some x) = refl

if_some_by : {X Y : Type 0} (f : X → Y) (P : Y → Type 0) (r : Option X) → IfSome (option_map f r) P → IfSome r (λ x. P (f x))
if_some_by f P None h = tt
if_some_by f P (Some x) h = h

-- ── what is found in the table ──

is_known : (what : List ℕ) → is_some (explanation_of what) ≡ is_explained what
is_known what = found_if_any first_word (λ word. bytes_eq word what) explanations ∙ ap (list_any (λ word. bytes_eq word what)) words_of_the_table

of_the_word : (what text : List ℕ) → bytes_eq (first_word text) what ≡ true → is_explanation (first_word text) text ≡ true → is_explanation what text ≡ true
of_the_word what text same form = subst (λ (word : List ℕ). is_explanation word text ≡ true) ((bytes_eq-Decides (first_word text) what).0 same) form

has_form : (what : List ℕ) → IfSome (explanation_of what) (λ text. is_explanation what text ≡ true)
has_form what =
    if_some_turned _ _ (explanation_of what) (λ text h. of_the_word what text h.0 h.1)
    (found_passes (λ text. bytes_eq (first_word text) what) (λ text. is_explanation (first_word text) text) explanations forms_of_the_table)

-- the same of a text that says what is found there
pub known_by : (what : List ℕ) (found : Option (Bor (List ℕ))) → option_map (λ text. text.now) found ≡ explanation_of what → is_some found ≡ is_explained what
known_by what found same = some_by (λ text. text.now) found ∙ ap is_some same ∙ is_known what

pub form_by : (what : List ℕ) (found : Option (Bor (List ℕ))) → option_map (λ text. text.now) found ≡ explanation_of what → IfSome found (λ text. is_explanation what text.now ≡ true)
form_by what found same =
    if_some_by (λ text. text.now) (λ text. is_explanation what text ≡ true) found
    (subst (λ (r : Option (List ℕ)). IfSome r (λ text. is_explanation what text ≡ true)) (sym same) (has_form what))
