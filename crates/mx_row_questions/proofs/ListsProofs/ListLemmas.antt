-- What is listed of rows, where memory may run out as well.
use Rattle.std.proofs.Common.{◌≡◌, inl, inr, List, Ok, Err, IfOk, Option, Some, None, Result, ok_or, refl, sym, ap, subst}
use Rattle.std.specs.Prelude.{IfSome}
use Rattle.sqlite.specs.Store.{Ghosts}
use Rattle.sqlite.specs.Tree.{Trees}
use Rattle.sqlite.specs.Held.{Held, state}
use Rattle.mx_book.specs.commands.Act.{Entry}
use Rattle.mx_book.specs.Reading.{Answers}
use Rattle.mx_book.specs.declared.verdict.Refusal.{Refusal}
use Rattle.mx_book.specs.declared.verdict.Refusal.TheVariants.{UnknownAircraft}
use Rattle.mx_layout.specs.declared.fault.TableFault.{TableFault}
use Rattle.mx_layout.specs.declared.fault.TableFault.TheVariants.{Memory}
use Rattle.mx_layout.proofs.CrashLemmas.{within_itself}
use Rattle.mx_lists.specs.Memory.{with_memory}
use Rattle.mx_lists.specs.Report.{IsOfKind}
use Rattle.mx_lists.specs.declared.question.Question.{Question}
use Rattle.mx_lists.specs.declared.report.Report.{Report}
use Rattle.mx_lists.specs.declared.stop.Stop.{Stop}
use Rattle.mx_lists.specs.declared.stop.Stop.TheVariants.{NoMemory, Fault}
use Rattle.mx_lookups.specs.numbers.Reads.{Reads}
use Rattle.mx_lookups.specs.numbers.Told.{Damage}
use Rattle.mx_lookups.proofs.NumbersProofs.ReadLemmas.{no_memory, told}
use Rattle.mx_row_questions.specs.lists.Listing.{answered, HasKind}
use Rattle.mx_row_judge.specs.View.{Asks, AskedOn, IsAny, SharesWith, StoppedOn, held, rows_reading}
use Rattle.mx_row_judge.specs.declared.view.Rows.{Rows}
use Rattle.mx_row_judge.proofs.ViewLemmas.{unasked}

-- memory runs out behind questions, if any
starved : {S : Type 0} (g : Ghosts S) (Of : Damage) (old new : Held S) → AskedOn g old new → StoppedOn g Of old new Memory
starved g Of old new asked = record { reads = without asked; damage = record { told = λ clean has name is. absurd cc } }
  where
    without : AskedOn g old new → Reads IsAny (state g old) (state g new) (Err Memory)
    without (inl same) = subst (λ h. Reads IsAny (state g old) (state g h) (Err Memory)) (sym same) (record {
      read = λ _ _ _. tt;
      cause = inl refl;
      no_book = λ clean name is. absurd cc;
      damaged = λ clean has name is. absurd cc;
      unchanged = λ _ _. tt;
      inside = λ _ _. tt;
      within = within_itself (state g old);
    })
    without (inr more) = no_memory IsAny IsAny _ _ tt more

module _ {S Q A : Type 0} (g : Ghosts S) (AnswersAs : Trees → List Entry → Type 0) (Of : Damage) (what : List Entry → Option A) (old new : Rows S Q) where
  -- a list stays in the transaction
  pub list_shares : (list : Result (Option A) (Stop TableFault)) → Answers (with_memory (rows_reading g AnswersAs Of)) old new list what → SharesWith old new
  list_shares (Ok a) q = (q.asked old (unasked g AnswersAs Of old)).0
  list_shares (Err NoMemory) q = (q.asked old (unasked g AnswersAs Of old)).0
  list_shares (Err (Fault fault)) q = (q.asked old (unasked g AnswersAs Of old)).0

  -- and what is answered is so of the book
  pub list_asks : (list : Result (Option A) (Stop TableFault)) → Answers (with_memory (rows_reading g AnswersAs Of)) old new list what → Asks g AnswersAs Of (λ book a. a ≡ ok_or (what book) UnknownAircraft) (held old) (held new) (answered list)
  list_asks (Ok a) q = record {
    asked = (q.asked old (unasked g AnswersAs Of old)).1;
    exact = λ clean book speaks. ap (λ o. ok_or o UnknownAircraft) (q.exact old book speaks (unasked g AnswersAs Of old) clean);
  }
  list_asks (Err NoMemory) q = record { asked = starved g Of (held old) (held new) (q.asked old (unasked g AnswersAs Of old)).1; exact = λ clean book speaks. tt }
  list_asks (Err (Fault fault)) q = record { asked = (q.asked old (unasked g AnswersAs Of old)).1; exact = λ clean book speaks. tt }

-- a list that was made of the kind that a question asks for is answered as one of it
pub list_kind : (question : Question) (list : Result (Option Report) (Stop TableFault)) (answer : Result (Result Report Refusal) TableFault) → answer ≡ answered list → IfOk list (λ o. IfSome o (IsOfKind question)) → HasKind question answer
list_kind question list answer is kind = subst (HasKind question) (sym is) (of_kind list kind)
  where
    of_kind : (list : Result (Option Report) (Stop TableFault)) → IfOk list (λ o. IfSome o (IsOfKind question)) → HasKind question (answered list)
    of_kind (Ok (Some report)) kind = kind
    of_kind (Ok None) kind = tt
    of_kind (Err NoMemory) kind = tt
    of_kind (Err (Fault fault)) kind = tt
