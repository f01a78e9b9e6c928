-- The bytes of a result, and a text that is written part by part.
use Rattle.std.proofs.Common.{◌≡◌, refl, sym, ap, ◌∙◌, subst, ℕ, List, [], ◌++◌, length, take, drop, Option, Some, None, Result, Ok, IsOkAnd, ◌-◌, arith, append_assoc, length-drop}
use Rattle.std.proofs.lemmas.List.{take_all, take-append-drop, append-nil}
use Rattle.std.proofs.Math.Seq.{take-append_seam}
use Rattle.std.specs.Io.KnownBytes.{Appends, Keeps}
use Rattle.mx_http.specs.responses.Stopped.{AppendsSome}

-- what holds of a value holds of the result that it is
pub ok_and : {X E : Type 0} → (result : Result X E) (x : X) (P : X → Type 0) → result ≡ Ok x → P x → IsOkAnd result P
ok_and {X} {E} result x P is holds = subst (λ (r : Result X E). IsOkAnd r P) (sym is) holds

-- all that is behind a place
pub all_behind : (n : ℕ) (bytes : List ℕ) → take (length bytes - n) (drop n bytes) ≡ drop n bytes
all_behind n bytes = let is = length-drop n bytes in take_all (length bytes - n) (drop n bytes) (grind (arith))

-- ── a text that is written part by part ──

-- what was written so far, and what is left of the text
pub record IsPartWritten (old new : Option (List ℕ)) (text rest : List ℕ) : Type 0 where
  pub front : List ℕ
  pub is : text ≡ front ++ rest
  pub written : Appends old new front

appends_none : (o : Option (List ℕ)) → Appends o o []
appends_none None = tt
appends_none (Some xs) = sym (append-nil xs)

appends_more : (o m n : Option (List ℕ)) (xs ys : List ℕ) → Appends o m xs → Appends m n ys → Appends o n (xs ++ ys)
appends_more None m n xs ys a b = tt
appends_more (Some o) None n xs ys a b = absurd a
appends_more (Some o) (Some m) None xs ys a b = absurd b
appends_more (Some o) (Some m) (Some n) xs ys a b = b ∙ ap (λ front. front ++ ys) a ∙ append_assoc o xs ys

-- nothing was written yet
pub none_written : (o : Option (List ℕ)) (text : List ℕ) → IsPartWritten o o text text
none_written o text = record { front = []; is = refl; written = appends_none o }

-- one more write
pub more_written : (o m n : Option (List ℕ)) (text rest : List ℕ) (count : ℕ) → IsPartWritten o m text rest → Appends m n (take count rest) → IsPartWritten o n text (drop count rest)
more_written o m n text rest count so_far more = record {
  front = so_far.front ++ take count rest;
  is = so_far.is ∙ ap (λ behind. so_far.front ++ behind) (sym (take-append-drop count rest)) ∙ sym (append_assoc so_far.front (take count rest) (drop count rest));
  written = appends_more o m n so_far.front (take count rest) so_far.written more;
}

-- all was written
pub all_written : (o n : Option (List ℕ)) (text rest : List ℕ) → rest ≡ [] → IsPartWritten o n text rest → Appends o n text
all_written o n text rest none it =
    let whole : text ≡ it.front = it.is ∙ ap (λ behind. it.front ++ behind) none ∙ append-nil it.front in
    subst (Appends o n) (sym whole) it.written

-- what was written so far is a beginning of the text
pub begun_written : (o n : Option (List ℕ)) (text rest : List ℕ) → IsPartWritten o n text rest → AppendsSome o n text
begun_written o n text rest it =
    let front : take (length it.front) text ≡ it.front = ap (take (length it.front)) it.is ∙ take-append_seam it.front rest in
    (length it.front, subst (Appends o n) (sym front) it.written)

-- nothing more is written behind a write that failed
pub some_written : (o m n : Option (List ℕ)) (text rest : List ℕ) → IsPartWritten o m text rest → Keeps m n → AppendsSome o n text
some_written o m n text rest it same =
    begun_written o n text rest (record { front = it.front; is = it.is; written = subst (Appends o n) (append-nil it.front) (appends_more o m n it.front [] it.written (kept_appends m n same)) })
  where
    kept_appends : (m n : Option (List ℕ)) → Keeps m n → Appends m n []
    kept_appends None n same = tt
    kept_appends (Some xs) None same = absurd same
    kept_appends (Some xs) (Some ys) same = same ∙ sym (append-nil xs)
