-- An answer with one of the lists, of an answer with whichever list was asked for.
use Rattle.std.proofs.Common.{◌≡◌, refl, ap, ◌∙◌, subst, sym, inl, inr, List, Option, Some, None, Result, Ok, Err, IfOk}
use Rattle.std.specs.Option.{option_map}
use Rattle.sqlite.specs.Store.{Ghosts}
use Rattle.mx_book.specs.commands.Act.{Entry}
use Rattle.mx_book.specs.declared.verdict.Refusal.{Refusal}
use Rattle.mx_layout.specs.declared.fault.TableFault.{TableFault}
use Rattle.mx_lists.specs.Report.{IsOfKind}
use Rattle.mx_lists.specs.declared.question.Question.{Question}
use Rattle.mx_lists.specs.declared.report.Report.{Report}
use Rattle.mx_lookups.specs.numbers.Told.{Damage}
use Rattle.mx_row_questions.specs.lists.Listing.{HasKind}
use Rattle.mx_faults.specs.declared.fault.Ask.{Ask}
use Rattle.mx_faults.specs.declared.fault.Ask.TheVariants.{Failed}
use Rattle.mx_faults.specs.declared.fault.Fault.{Fault}
use Rattle.mx_faults.specs.declared.fault.Fault.TheVariants.{Damaged, Memory, Store}
use Rattle.mx_office.specs.declared.office.Office.{Office}
use Rattle.mx_office.specs.Faults.{found_or, question_answer, IsAnswer}
use Rattle.mx_office.specs.Questions.{AnswersDamage, IsAnsweredBy}

-- what was found is of the kind that was asked for, if it is answered
pub kind_answered : (question : Question) (found : Result (Result Report Refusal) TableFault) → HasKind question found → IfOk (question_answer found) (IsOfKind question)
kind_answered question (Ok (Ok list)) kind = kind
kind_answered question (Ok (Err refusal)) kind = tt
kind_answered question (Err fault) kind = tt

module _ {X Y : Type 0} (f : X → Y) (decides : (x y : X) → f x ≡ f y → x ≡ y) where
  -- the answer with what was found as another thing, by which it is decided
  abbrev pub as_answer : Result X Ask → Result Y Ask
  as_answer (Ok x) = Ok (f x)
  as_answer (Err why) = Err why

  found_as : (refusal : Refusal) (o : Option X) → found_or refusal (option_map f o) ≡ as_answer (found_or refusal o)
  found_as refusal None = refl
  found_as refusal (Some x) = refl

  same_as : (one other : Result X Ask) → as_answer one ≡ as_answer other → one ≡ other
  same_as (Ok x) (Ok y) e = let same : f x ≡ f y = cc in ap Ok (decides x y same)
  same_as (Ok x) (Err why) e = cc
  same_as (Err why) (Ok y) e = cc
  same_as (Err one) (Err other) e = let same : one ≡ other = cc in ap Err same

  is_answer_of : (said result : Result X Ask) → IsAnswer (as_answer said) (as_answer result) → IsAnswer said result
  is_answer_of said result h = elim h [
    | inl same ↦ inl (same_as result said same)
    | inr stop ↦ elim stop [ inl memory ↦ inr (inl (same_as result (Err (Failed Memory)) memory)) | inr store ↦ inr (inr (same_as result (Err (Failed Store)) store)) ]
  ]

  module _ {S : Type 0} {g : Ghosts S} (old new : Office S g) (result : Result X Ask) where
    -- the answer to a question for one of the lists
    pub answered_of : (refusal : Refusal) (said : List Entry → Option X) → IsAnsweredBy (λ book. found_or refusal (option_map f (said book))) old new (as_answer result)
        → IsAnsweredBy (λ book. found_or refusal (said book)) old new result
    answered_of refusal said h = record {
      exact = λ schema settled book ready stands clean.
          is_answer_of (found_or refusal (said book)) result (subst (λ (r : Result Y Ask). IsAnswer r (as_answer result)) (found_as refusal (said book)) (h.exact schema settled book ready stands clean));
      sound = λ clean own goes book speaks.
          same_as result (found_or refusal (said book)) (h.sound clean own (λ fault e. goes fault (same_as result (Err (Failed fault)) e)) book speaks ∙ found_as refusal (said book));
      damaged = λ clean own table e. h.damaged clean own table (ap as_answer e);
    }

    -- a table is answered damaged for the same reason
    pub damage_of_answer : {Why : Damage} → AnswersDamage Why old new (as_answer result) → AnswersDamage Why old new result
    damage_of_answer h = record { told = λ clean own table e. h.told clean own table (ap as_answer e) }
