-- What is taken of an input by which a request is answered.
use Rattle.std.specs.Prelude.{◌≡◌, ℕ, List, ◌++◌, take, drop, Option, Some, Result, Ok, Err}
use Rattle.mx_http.specs.request.Asked.{AsksFor}
use Rattle.mx_http.specs.request.Body.{missing}
use Rattle.mx_http.specs.request.Head.{HasNoHeadBefore, head_of}
use Rattle.mx_intake.specs.Input.{TakesAtMost}
use Rattle.mx_http.specs.request.Routes.{Asked}
use Rattle.mx_http.specs.declared.request.input.TheConstants.{CHUNK}
use Rattle.mx_http.specs.declared.request.rejection.Rejection.{Rejection}

-- how many bytes of the body that a head asks for are not there yet: a request that is rejected needs none
abbrev pub missing_of : Result (Asked × ℕ) Rejection → List ℕ → ℕ
missing_of (Ok said) begun = missing said.1 begun
missing_of (Err why) begun = 0

-- behind a head at most what is missing of its body was taken
abbrev pub TakesBody : List ℕ → List ℕ → Option (List ℕ) → Option (List ℕ) → Type 0
TakesBody head begun old new = (said : Result (Asked × ℕ) Rejection) × AsksFor head said × TakesAtMost old new (missing_of said begun)

-- the same behind a front whose head ends here; behind one that has no head nothing was taken
abbrev pub TakesBehind : Result ℕ Rejection → List ℕ → Option (List ℕ) → Option (List ℕ) → Type 0
TakesBehind (Ok n) front old new = TakesBody (take n front) (drop n front) old new
TakesBehind (Err why) front old new = new ≡ old

-- no more was taken of an input than one request: a front, in which no head ends before its last 4,096 bytes, and behind it what is missing of the body
pub record TakesRequest (input : List ℕ) (new : Option (List ℕ)) : Type 0 where
  pub front : List ℕ
  pub rest : List ℕ
  pub is : input ≡ front ++ rest
  pub prompt : HasNoHeadBefore CHUNK front
  pub behind : TakesBehind (head_of front) front (Some rest) new
