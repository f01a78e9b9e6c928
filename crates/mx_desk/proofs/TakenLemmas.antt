-- What was taken of an input, from what was taken behind its front.
use Rattle.std.proofs.Common.{◌≡◌, ◌≢◌, refl, sym, subst, ℕ, List, [], ◌++◌, take, drop, Option, Some, None, Result, Ok, Err, OnOk, arith}
use Rattle.mx_http.specs.request.Head.{HasNoHeadBefore, head_of}
use Rattle.mx_intake.specs.Input.{TakesAtMost}
use Rattle.mx_http.specs.declared.request.input.TheConstants.{CHUNK}
use Rattle.mx_http.specs.declared.request.rejection.Rejection.{Rejection}
use Rattle.mx_desk.specs.Taken.{TakesBehind, TakesBody, TakesRequest}
use Rattle.mx_http.specs.declared.responses.fault.DeskFault.{DeskFault}
use Rattle.mx_http.specs.declared.responses.fault.DeskFault.TheVariants as desk

-- nothing was taken
pub takes_none : (o : Option (List ℕ)) → TakesAtMost o o 0
takes_none None = ([], tt, omega arith)
takes_none (Some xs) = ([], refl, omega arith)

-- what is there is there where there is a value
pub on_ok : {X E : Type 0} → (result : Result X E) (P : Type 0) → P → OnOk result P
on_ok (Ok x) P is = is
on_ok (Err e) P is = tt

-- behind a front without a head
pub front_rejected : (front : List ℕ) (why : Rejection) (o : Option (List ℕ)) → Err why ≡ head_of front → TakesBehind (head_of front) front o o
front_rejected front why o is = subst (λ (cut : Result ℕ Rejection). TakesBehind cut front o o) is refl

-- behind a front whose head ends here
pub front_asked : (front begun : List ℕ) (n : ℕ) (o m : Option (List ℕ)) → Ok n ≡ head_of front → begun ≡ drop n front → TakesBody (take n front) begun o m
    → TakesBehind (head_of front) front o m
front_asked front begun n o m is same given =
    subst (λ (cut : Result ℕ Rejection). TakesBehind cut front o m) is (subst (λ (behind : List ℕ). TakesBody (take n front) behind o m) same given)

-- of an input that begins with a front
pub request_taken : (input front rest : List ℕ) (mid new : Option (List ℕ)) → mid ≡ Some rest → input ≡ front ++ rest → HasNoHeadBefore CHUNK front
    → TakesBehind (head_of front) front mid new → TakesRequest input new
request_taken input front rest mid new left is prompt given = record {
  front = front;
  rest = rest;
  is = is;
  prompt = prompt;
  behind = subst (λ (o : Option (List ℕ)). TakesBehind (head_of front) front o new) left given;
}

-- of an input of no byte
pub nothing_taken : (input front rest : List ℕ) (new : Option (List ℕ)) → front ≡ [] → new ≡ Some rest → input ≡ front ++ rest → HasNoHeadBefore CHUNK front → TakesRequest input new
nothing_taken input front rest new none left is prompt =
    request_taken input front rest (Some rest) new refl is prompt (subst (λ (bytes : List ℕ). TakesBehind (head_of bytes) bytes (Some rest) new) (sym none) left)

-- a fault that is none of these is no fault of an input
pub no_fault_left : (fault : DeskFault) → fault ≢ desk.Memory → fault ≢ desk.Read → fault ≢ desk.Write → ⊥
no_fault_left desk.Memory memory read write = memory refl
no_fault_left desk.Read memory read write = read refl
no_fault_left desk.Write memory read write = write refl
