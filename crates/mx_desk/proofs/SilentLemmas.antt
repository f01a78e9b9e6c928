-- An input that is not answered, and one whose answer was handed on.
use Rattle.std.proofs.Common.{◌≡◌, ◌≢◌, ◌⊎◌, ◌∙◌, refl, sym, subst, inl, inr, ℕ, List, [], ◌∷◌, ◌++◌, Option, Some, None, Result, Err}
use Rattle.std.specs.Io.KnownBytes.{Keeps}
use Rattle.std.specs.Prelude.{⊤}
use Rattle.sqlite.specs.Store.{Ghosts}
use Rattle.sqlite.specs.State.{HasCleanDisk}
use Rattle.mx_book.specs.commands.Act.{Entry}
use Rattle.mx_jobs.specs.Office.{office_state}
use Rattle.mx_jobs.specs.Stands.{Rests}
use Rattle.mx_jobs.specs.OpenOffice.{Office}
use Rattle.mx_http.specs.declared.request.input.InputFault.{InputFault}
use Rattle.mx_http.specs.declared.request.input.InputFault.TheVariants as faults
use Rattle.mx_http.specs.declared.responses.fault.DeskFault.{DeskFault}
use Rattle.mx_http.specs.declared.responses.fault.DeskFault.TheVariants.{Memory, Read, Write}
use Rattle.mx_http.specs.responses.Stopped.{fault_of_input}
use Rattle.mx_desk.specs.Served.{AnswersInput, IsSilent, ServesInput, Writes, bytes_of}
use Rattle.mx_desk.proofs.ServedLemmas.{serves}
use Rattle.mx_desk.proofs.ServeLemmas.{an_answer, input_handed, weaker}

-- nothing was written
keeps_all : (o : Option (List ℕ)) → Keeps o o
keeps_all None = tt
keeps_all (Some xs) = refl

-- an input that has begun has a byte
pub has_begun : (input bytes rest : List ℕ) → input ≡ bytes ++ rest → bytes ≢ [] → input ≢ []
has_begun input [] rest whole begun none = begun refl
has_begun input (x ∷ xs) rest whole begun none = no_byte x (xs ++ rest) (sym whole ∙ none)
  where
    no_byte : (x : ℕ) (xs : List ℕ) → x ∷ xs ≢ []
    no_byte x xs is = (cc)

-- so what is known of it
pub begun_told : {A B : Type 0} → (input : List ℕ) → input ≢ [] → A ⊎ B → A ⊎ ((input ≢ []) × B)
begun_told input some (inl a) = inl a
begun_told input some (inr b) = inr (some, b)

module _ {S : Type 0} {g : Ghosts S} (old new : Office S g) (input : List ℕ) where
  -- what a book serves, as an office answers it
  pub served_told : {Left : Type 0} → (book : List Entry) → Rests (office_state old) book → HasCleanDisk (office_state new) → (P : List ℕ → Type 0)
      → Left ⊎ ((input ≢ []) × AnswersInput input old new P) → Left ⊎ ((input ≢ []) × ServesInput book input (office_state new) P)
  served_told book rests clean P (inl left) = inl left
  served_told book rests clean P (inr (some, (request, read, answers))) =
      let given = an_answer old new request (λ a. P (bytes_of request a)) answers in
      inr (some, (request, given.0, read, serves book old new rests clean request given.0 given.2, given.1))

  stopped_at : {X : Type 0} → (fault : DeskFault) → fault ≢ Write → (o : Option (List ℕ)) → (new ≡ old) ⊎ ((input ≢ []) × AnswersInput input old new (λ bytes. ⊤))
      → IsSilent {X = X} input (Err fault) old new o o ⊎ ((input ≢ []) × AnswersInput input old new (Writes {X = X} (Err fault) o o))
  stopped_at Memory other o (inl same) = inl (record { why = inr (inl refl); unasked = same; unwritten = keeps_all o })
  stopped_at Memory other o (inr (some, (request, read, answers))) = inr (some, (request, read, weaker old new request (λ a. ⊤) (λ a. Keeps o o) (λ a is. keeps_all o) answers))
  stopped_at Read other o (inl same) = inl (record { why = inr (inr refl); unasked = same; unwritten = keeps_all o })
  stopped_at Read other o (inr (some, (request, read, answers))) = inr (some, (request, read, weaker old new request (λ a. ⊤) (λ a. Keeps o o) (λ a is. keeps_all o) answers))
  stopped_at Write other o given = elim (other refl) [ ]

  -- what memory or a failed read stopped
  pub stopped_told : {X : Type 0} → (result : Result X DeskFault) (fault : DeskFault) → result ≡ Err fault → fault ≢ Write → (o : Option (List ℕ)) → (new ≡ old) ⊎ ((input ≢ []) × AnswersInput input old new (λ bytes. ⊤))
      → IsSilent {X = X} input result old new o o ⊎ ((input ≢ []) × AnswersInput input old new (Writes {X = X} result o o))
  stopped_told {X} result fault passed other o given =
      subst (λ (r : Result X DeskFault). IsSilent {X = X} input r old new o o ⊎ ((input ≢ []) × AnswersInput input old new (Writes {X = X} r o o))) (sym passed) (stopped_at fault other o given)

  -- what was handed on, or cut off there
  pub answer_told : {Left : Type 0} → (text : List ℕ) (P : List ℕ → Type 0) → input ≢ [] → AnswersInput input old new (λ bytes. text ≡ bytes) → P text
      → Left ⊎ ((input ≢ []) × AnswersInput input old new P)
  answer_told text P some given is = inr (some, input_handed old new input text P given is)

-- no fault of an input is one of writing
pub never_written : (fault : InputFault) → fault_of_input fault ≢ Write
never_written faults.Memory is = absurd cc
never_written faults.Read is = absurd cc
