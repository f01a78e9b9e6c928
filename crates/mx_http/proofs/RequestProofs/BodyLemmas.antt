-- The body of a request, as far as it was read.
use Rattle.std.proofs.Common.{◌≡◌, ◌≤◌, ◌<◌, ◌+◌, ◌-◌, ⊎_elim, ℕ, List, [], ◌∷◌, ◌++◌, length, take, cond, min, Option, Some, None, refl, sym, ap, ◌∙◌, append_assoc, append-nil, arith, length-append, length-take}
use Rattle.std.proofs.lemmas.Bool.{cases_lt, le-leb, lt-leb}
use Rattle.std.proofs.lemmas.List.{take-append-le, take_all}
use Rattle.std.proofs.Math.Seq.{take-append_seam}
use Rattle.std.specs.Io.KnownBytes.{Consumes, IsAtEnd}
use Rattle.mx_http.specs.request.Body.{whole_body}
use Rattle.mx_intake.specs.Input.{TakesAtMost}
use Rattle.mx_intake.proofs.InputLemmas.{consumes_more}
use Rattle.mx_http.specs.request.Input.{AddsTaken}
use Rattle.mx_http.proofs.RequestProofs.InputLemmas.{takes_on}

-- a body of so many bytes, as far as it is there: what was begun, cut to its size, and what was taken
pub record IsBegun (old left : Option (List ℕ)) (begun : List ℕ) (size : ℕ) (body : List ℕ) : Type 0 where
  pub within : length body ≤ size
  pub taken : List ℕ
  pub consumed : Consumes old left taken
  pub is : body ≡ take size begun ++ taken

none_taken : (o : Option (List ℕ)) → Consumes o o []
none_taken None = tt
none_taken (Some xs) = refl

-- nothing was taken yet
pub begun_at_first : (o : Option (List ℕ)) (begun body : List ℕ) (size : ℕ) → body ≡ take size begun → IsBegun o o begun size body
begun_at_first o begun body size is = record {
  within = omega (arith, ap length is, length-take size begun);
  taken = [];
  consumed = none_taken o;
  is = is ∙ sym (append-nil (take size begun));
}

-- one more read
pub begun_more : (o m n : Option (List ℕ)) (begun body longer : List ℕ) (size k most : ℕ) → IsBegun o m begun size body
    → AddsTaken m n body longer k most → length body + most ≤ size → IsBegun o n begun size longer
begun_more o m n begun body longer size k most before more h = record {
  within = omega (arith, ap length more.2, length-append body more.0, more.3, more.4);
  taken = before.taken ++ more.0;
  consumed = consumes_more o m n before.taken more.0 before.consumed more.1;
  is = more.2 ∙ ap (λ xs. xs ++ more.0) before.is ∙ append_assoc (take size begun) before.taken more.0;
}

sizes : (o n : Option (List ℕ)) (begun body : List ℕ) (size : ℕ) (b : IsBegun o n begun size body) → length body ≡ min size (length begun) + length b.taken
sizes o n begun body size b = omega (arith, ap length b.is, length-append (take size begun) b.taken, length-take size begun)

no_length : (xs : List ℕ) → length xs ≡ 0 → xs ≡ []
no_length [] h = refl
no_length (x ∷ xs) h = absurd (omega arith)

found : (size : ℕ) (xs body : List ℕ) → size ≤ length xs → take size xs ≡ body → Some body ≡ whole_body size xs
found size xs body h is = sym (ap (λ t. cond t (Some (take size xs)) None) (le-leb size (length xs) h) ∙ ap Some is)

-- the first bytes of what was begun and what was left are the body, where it is as long
cut : (o : List ℕ) (rest begun body : List ℕ) (size : ℕ) → IsBegun (Some o) (Some rest) begun size body → size ≤ length body → take size (begun ++ o) ≡ body
cut o rest begun body size b full =
    let long : length body ≡ min size (length begun) + length b.taken = sizes _ _ begun body size b in
    let within : length body ≤ size = b.within in
    ⊎_elim
    (λ less. let all : take size begun ≡ begun = take_all size begun (omega arith) in
    let is : begun ++ o ≡ body ++ rest =
    ap (λ l. begun ++ l) b.consumed ∙ sym (append_assoc begun b.taken rest) ∙ ap (λ l. l ++ b.taken ++ rest) (sym all) ∙ ap (λ l. l ++ rest) (sym b.is) in
    let same : size ≡ length body = omega arith in
    ap (take size) is ∙ ap (λ k. take k (body ++ rest)) same ∙ take-append_seam body rest)
    (λ enough. let none : b.taken ≡ [] = no_length b.taken (omega arith) in
    take-append-le size begun o enough ∙ sym (append-nil (take size begun)) ∙ ap (λ l. take size begun ++ l) (sym none) ∙ sym b.is)
    (cases_lt (length begun) size)

-- a body that is as long as it should be is the whole body
pub full : (o n : Option (List ℕ)) (begun body : List ℕ) (size : ℕ) → IsBegun o n begun size body → size ≤ length body
    → (left : List ℕ) → o ≡ Some left → Some body ≡ whole_body size (begun ++ left)
full None n begun body size b h left is = absurd (cc)
full (Some o) None begun body size b h left is = absurd b.consumed
full (Some o) (Some rest) begun body size b h left is =
    let long : length body ≡ min size (length begun) + length b.taken = sizes _ _ begun body size b in
    let whole : length o ≡ length b.taken + length rest = ap length b.consumed ∙ length-append b.taken rest in
    let all : Some body ≡ whole_body size (begun ++ o) = found size (begun ++ o) body (omega (arith, length-append begun o)) (cut o rest begun body size b h) in
    all ∙ ap (λ l. whole_body size (begun ++ l)) (cc)

-- where the input ended before, there is no whole body
pub missing : (o n : Option (List ℕ)) (begun body : List ℕ) (size : ℕ) → IsBegun o n begun size body → IsAtEnd n → length body < size
    → (left : List ℕ) → o ≡ Some left → None ≡ whole_body size (begun ++ left)
missing None n begun body size b e h left is = absurd (cc)
missing (Some o) None begun body size b e h left is = absurd b.consumed
missing (Some o) (Some rest) begun body size b e h left is =
    let long : length body ≡ min size (length begun) + length b.taken = sizes _ _ begun body size b in
    let whole : length o ≡ length b.taken + length rest = ap length b.consumed ∙ length-append b.taken rest in
    let short : length (begun ++ o) < size = omega (arith, length-append begun o, ap length e) in
    sym (ap (λ t. cond t (Some (take size (begun ++ o))) None) (lt-leb size (length (begun ++ o)) short)) ∙ ap (λ l. whole_body size (begun ++ l)) (cc)

-- no more was taken than was missing
pub takes_of : (o n : Option (List ℕ)) (begun body : List ℕ) (size : ℕ) → IsBegun o n begun size body → TakesAtMost o n (size - length begun)
takes_of o n begun body size b = (b.taken, b.consumed, omega (arith, sizes o n begun body size b, b.within))

pub takes_at_fault : (o m n : Option (List ℕ)) (begun body : List ℕ) (size k : ℕ) → IsBegun o m begun size body → TakesAtMost m n k → length body + k ≤ size → TakesAtMost o n (size - length begun)
takes_at_fault o m n begun body size k b more h =
    takes_on o m n b.taken k (size - length begun) b.consumed more (omega (arith, sizes o m begun body size b))
