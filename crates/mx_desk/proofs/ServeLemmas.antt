-- From a head and what is behind it to the input, and from an answer to the bytes of one.
use Rattle.std.proofs.Common.{◌≡◌, ◌⊎◌, refl, sym, ap, ◌∙◌, subst, inl, inr, ℕ, ◌≤◌, List, [], ◌∷◌, ◌++◌, Bool, length, take, drop, Option, Some, None, Result, Ok, Err, true, false, IfOk, IfSome, IsOkAnd, OnErr, OnOk}
use Rattle.std.proofs.lemmas.List.{take-append-le, drop-append-le}
use Rattle.std.specs.Prelude.{⊤, is_err}
use Rattle.sqlite.specs.Store.{Ghosts}
use Rattle.mx_book.specs.commands.Act.{Entry}
use Rattle.mx_jobs.specs.OpenOffice.{Office}
use Rattle.mx_http.specs.request.Asked.{AsksFor}
use Rattle.mx_http.specs.request.Head.{head_of}
use Rattle.mx_http.specs.request.Routes.{Asked}
use Rattle.mx_http.specs.declared.request.rejection.Rejection.{Rejection}
use Rattle.mx_http.specs.responses.Answer.{Answer, rejection_answer}
use Rattle.mx_desk.specs.Answered.{AnswersIfRoom}
use Rattle.mx_output.specs.questions.Asking.{doc_of, due_question, life_question, limits_question}
use Rattle.mx_http.specs.responses.Request.{Request, enters, imports, asks, unread, rejected, entering, entering_one, loading, importing, asking, forecast_in_digits, request_of}
use Rattle.mx_desk.specs.Served.{AnswersBytes, AnswersInput, IsCut, IsRead, allows, behind_head, by_body, bytes_of}
use Rattle.mx_intake.specs.Entries.{entries_of_text}
use Rattle.mx_intake.specs.Loading.{entry_of_programme}
use Rattle.mx_intake.specs.Sectors.{sector_rows}
use Rattle.mx_intake.specs.declared.fault.IntakeFault.{IntakeFault}
use Rattle.mx_lists.specs.declared.question.Question.{Question}
use Rattle.mx_http.specs.request.Response.{response_bytes}
use Rattle.mx_http.specs.declared.request.rejection.Rejection.TheVariants.{BadRequest}
use Rattle.mx_http.specs.declared.request.routes.Place.TheVariants as place

no_error : (b : Bool) → b ≡ true → b ≡ false → ⊥
no_error b failed well = (cc)

-- what an input asks for whose head is at its front
read_on : (input bytes rest : List ℕ) (n : ℕ) (said : Result (Asked × ℕ) Rejection) → input ≡ bytes ++ rest → head_of input ≡ Ok n → n ≤ length bytes → AsksFor (take n bytes) said
    → IsRead input (behind_head said (drop n bytes ++ rest))
read_on input bytes rest n said whole cut within asked_for =
    let front : take n input ≡ take n bytes = ap (take n) whole ∙ take-append-le n bytes rest within in
    let behind : drop n input ≡ drop n bytes ++ rest = ap (drop n) whole ∙ drop-append-le n bytes rest within in
    subst (λ (c : Result ℕ Rejection). IsCut c input (behind_head said (drop n bytes ++ rest))) (sym cut)
    (said, subst (λ (head : List ℕ). AsksFor head said) (sym front) asked_for, ap (behind_head said) (sym behind))

-- no request of a route is answered with a method that is allowed instead
allowed_entering : (r : Result (List Entry) IntakeFault) → allows (entering r) ≡ None
allowed_entering (Ok commands) = refl
allowed_entering (Err fault) = refl

allowed_one : (r : Result Entry IntakeFault) → allows (entering_one r) ≡ None
allowed_one (Ok command) = refl
allowed_one (Err fault) = refl

allowed_loading : (doc : Option (List ℕ)) (body : List ℕ) → allows (loading doc body) ≡ None
allowed_loading (Some doc) body = allowed_one (entry_of_programme doc body)
allowed_loading None body = refl

allowed_importing : (r : Result (List (Result Entry IntakeFault)) IntakeFault) → allows (importing r) ≡ None
allowed_importing (Ok rows) = refl
allowed_importing (Err fault) = refl

allowed_asking : (question : Option Question) → allows (asking question) ≡ None
allowed_asking (Some question) = refl
allowed_asking None = refl

none_allowed : (asked : Asked) (body : List ℕ) → allows (request_of asked body) ≡ None
none_allowed (place.Entries, parts) body = allowed_entering (entries_of_text body)
none_allowed (place.Programme, []) body = refl
none_allowed (place.Programme, doc ∷ more) body = allowed_loading (doc_of doc) body
none_allowed (place.Sectors, parts) body = allowed_importing (sector_rows body)
none_allowed (place.Due, []) body = refl
none_allowed (place.Due, tail ∷ []) body = refl
none_allowed (place.Due, tail ∷ day ∷ more) body = allowed_asking (due_question tail day)
none_allowed (place.Limits, []) body = refl
none_allowed (place.Limits, tail ∷ []) body = refl
none_allowed (place.Limits, tail ∷ day ∷ more) body = allowed_asking (limits_question tail day)
none_allowed (place.Forecast, []) body = refl
none_allowed (place.Forecast, a ∷ []) body = refl
none_allowed (place.Forecast, a ∷ b ∷ []) body = refl
none_allowed (place.Forecast, a ∷ b ∷ c ∷ []) body = refl
none_allowed (place.Forecast, a ∷ b ∷ c ∷ d ∷ []) body = refl
none_allowed (place.Forecast, tail ∷ day ∷ days ∷ minutes ∷ cycles ∷ more) body = allowed_asking (forecast_in_digits tail day days minutes cycles)
none_allowed (place.Life, []) body = refl
none_allowed (place.Life, tail ∷ more) body = allowed_asking (life_question tail)

module _ {S : Type 0} {g : Ghosts S} (old new : Office S g) where
  -- an answer has what follows from what it has
  pub weaker : (request : Request) (P Q : Answer → Type 0) → ((a : Answer) → P a → Q a) → AnswersIfRoom request old new P → AnswersIfRoom request old new Q
  weaker (enters commands) P Q then (inl (said, stopped, entered, is)) = inl (said, stopped, entered, then _ is)
  weaker (imports rows) P Q then (inl (said, stopped, entered, is)) = inl (said, stopped, entered, then _ is)
  weaker (asks question) P Q then (inl (result, asked, answered, kind, is)) = inl (result, asked, answered, kind, then _ is)
  weaker (unread fault) P Q then (inl (same, is)) = inl (same, then _ is)
  weaker (rejected why) P Q then (inl (same, is)) = inl (same, then _ is)
  weaker request P Q then (inr (same, is)) = inr (same, then _ is)

  -- the answer itself
  pub an_answer : (request : Request) (P : Answer → Type 0) → AnswersIfRoom request old new P → (answer : Answer) × P answer × AnswersIfRoom request old new (λ a. answer ≡ a)
  an_answer (enters commands) P (inl (said, stopped, entered, is)) = (_, is, inl (said, stopped, entered, refl))
  an_answer (imports rows) P (inl (said, stopped, entered, is)) = (_, is, inl (said, stopped, entered, refl))
  an_answer (asks question) P (inl (result, asked, answered, kind, is)) = (_, is, inl (result, asked, answered, kind, refl))
  an_answer (unread fault) P (inl (same, is)) = (_, is, inl (same, refl))
  an_answer (rejected why) P (inl (same, is)) = (_, is, inl (same, refl))
  an_answer request P (inr (same, is)) = (_, is, inr (same, refl))

  -- an input that ends within its body is rejected
  pub no_body : (asked : Asked) (found : Option (List ℕ)) (P : List ℕ → Type 0) → found ≡ None → new ≡ old → P (bytes_of (rejected BadRequest) (rejection_answer BadRequest)) → AnswersBytes (by_body asked found) old new P
  no_body asked found P none same is = subst (λ (f : Option (List ℕ)). AnswersBytes (by_body asked f) old new P) (sym none) (inl (same, is))

  module _ {X E Y F : Type 0} (asked : Asked) (body : List ℕ) (response : Result X E) (shown : X → Answer) (result : Result Y F) (text : Y → List ℕ) where
    -- the bytes of a response are those of its answer
    told_by : (r : Result X E) (t : Result Y F) → IfOk t (λ y. IsOkAnd r (λ x. text y ≡ response_bytes (shown x).0 None (shown x).1)) → (a : Answer) → IfOk r (λ x. shown x ≡ a)
        → IfOk t (λ y. text y ≡ bytes_of (request_of asked body) a)
    told_by (Ok x) (Ok y) is a same =
        is ∙ ap (λ (b : Answer). response_bytes b.0 None b.1) same ∙ ap (λ (allowed : Option Bool). response_bytes a.0 allowed a.1) (sym (none_allowed asked body))
    told_by (Err e) (Ok y) is a same = elim is [ ]
    told_by r (Err f) is a same = tt

    -- the bytes of the response to a request with a body
    pub a_body : (found : Option (List ℕ)) → found ≡ Some body → AnswersIfRoom (request_of asked body) old new (λ a. IfOk response (λ x. shown x ≡ a))
        → IfOk result (λ y. IsOkAnd response (λ x. text y ≡ response_bytes (shown x).0 None (shown x).1)) → AnswersBytes (by_body asked found) old new (λ bytes. IfOk result (λ y. text y ≡ bytes))
    a_body found some answers is = subst (λ (f : Option (List ℕ)). AnswersBytes (by_body asked f) old new (λ bytes. IfOk result (λ y. text y ≡ bytes))) (sym some)
        (weaker (request_of asked body) _ _ (told_by response result is) answers)

  module _ {X E : Type 0} (input front rest begun : List ℕ) (n : ℕ) (said : Result (Asked × ℕ) Rejection) (result : Result X E) (shown : X → List ℕ) (whole : input ≡ front ++ rest) (cut : head_of input ≡ Ok n) (within : n ≤ length front) (is_begun : begun ≡ drop n front) (asks_for : AsksFor (take n front) said) where
    is_read : IsRead input (behind_head said (begun ++ rest))
    is_read = subst (λ (behind : List ℕ). IsRead input (behind_head said (behind ++ rest))) (sym is_begun) (read_on input front rest n said whole cut within asks_for)

    told_on : (r : Result X E) → AnswersBytes (behind_head said (begun ++ rest)) old new (λ bytes. IfOk r (λ x. shown x ≡ bytes)) → IfOk r (λ x. AnswersInput input old new (λ b. shown x ≡ b))
    told_on (Ok x) given = (behind_head said (begun ++ rest), is_read, given)
    told_on (Err e) given = tt

    -- what is answered to an input that begins so, and whose head asks for this
    pub request_answers : AnswersBytes (behind_head said (begun ++ rest)) old new (λ bytes. IfOk result (λ x. shown x ≡ bytes)) → IfOk result (λ x. AnswersInput input old new (λ b. shown x ≡ b))
    request_answers given = told_on result given

    -- it was asked, where the answer came to nothing
    pub request_stopped : AnswersBytes (behind_head said (begun ++ rest)) old new (λ bytes. IfOk result (λ x. shown x ≡ bytes)) → (new ≡ old) ⊎ AnswersInput input old new (λ b. ⊤)
    request_stopped given = inr (behind_head said (begun ++ rest), is_read, weaker (behind_head said (begun ++ rest)) _ (λ a. ⊤) (λ a is. tt) given)

  -- an input without a head is rejected
  pub input_rejected : (input : List ℕ) (why : Rejection) (P : List ℕ → Type 0) → head_of input ≡ Err why → new ≡ old → P (bytes_of (rejected why) (rejection_answer why)) → AnswersInput input old new P
  input_rejected input why P cut same is =
      (rejected why, subst (λ (c : Result ℕ Rejection). IsCut c input (rejected why)) (sym cut) refl, inl (same, is))

  -- what is told of an input without a head
  pub rejected_answers : {X E : Type 0} → (input : List ℕ) (why : Rejection) (result : Result X E) (shown : X → List ℕ) → head_of input ≡ Err why → new ≡ old
      → IfOk result (λ x. shown x ≡ bytes_of (rejected why) (rejection_answer why)) → IfOk result (λ x. AnswersInput input old new (λ bytes. shown x ≡ bytes))
  rejected_answers input why (Ok x) shown cut same is = input_rejected input why (λ bytes. shown x ≡ bytes) cut same is
  rejected_answers input why (Err e) shown cut same is = tt

  -- the bytes of the answer were handed on
  pub input_handed : (input text : List ℕ) (P : List ℕ → Type 0) → AnswersInput input old new (λ bytes. text ≡ bytes) → P text → AnswersInput input old new P
  input_handed input text P (request, read, answers) is =
      (request, read, weaker request _ (λ a. P (bytes_of request a)) (λ a same. subst P same is) answers)

-- what is there is there where there is an error
pub on_err : {X E : Type 0} → (result : Result X E) (P : Type 0) → P → OnErr result P
on_err (Ok x) P is = tt
on_err (Err e) P is = is

-- what was not an error was done
pub done_has : {X E : Type 0} → (result : Result X E) (b : Bool) (P : Type 0) → b ≡ is_err result → b ≡ false → OnOk result P → P
done_has (Ok x) b P is well holds = holds
done_has (Err e) b P is well holds = elim (no_error b is well) [ ]

-- and what was an error failed
pub failed_has : {X E : Type 0} → (result : Result X E) (b : Bool) (P : Type 0) → b ≡ is_err result → b ≡ true → OnErr result P → P
failed_has (Ok x) b P is failed holds = elim (no_error b failed is) [ ]
failed_has (Err e) b P is failed holds = holds
