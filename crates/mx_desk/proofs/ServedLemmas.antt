-- An office that answered a request as its clauses say, over the tables of a book.
use Rattle.std.proofs.Common.{◌≡◌, ◌≢◌, refl, sym, ap, ◌∙◌, subst, inl, inr, ℕ, ◌≤◌, List, [], length, take, Option, Some, None, Result, Ok, Err, Bool, true, false, arith, ◌+◌, IfOk}
use Rattle.sqlite.specs.Store.{Ghosts}
use Rattle.sqlite.specs.State.{State, HasCleanDisk}
use Rattle.mx_book.specs.commands.Act.{Entry}
use Rattle.mx_book.specs.Run.{book_run}
use Rattle.mx_book.specs.declared.verdict.Refusal.TheVariants.{UnknownAircraft}
use Rattle.mx_book.specs.declared.verdict.Reply.{Reply}
use Rattle.mx_layout.specs.TableName.{TableName}
use Rattle.mx_layout.specs.Crash.{Leaves}
use Rattle.mx_jobs.specs.Faults.{found_or, IsAnswer}
use Rattle.mx_jobs.proofs.CallLemmas.{stopped_asking}
use Rattle.mx_jobs.specs.Calls.{stop_asking, IsAsked, IsRun}
use Rattle.mx_jobs.specs.Office.{office_state, IsReady, StandsFor}
use Rattle.mx_jobs.specs.Questions.{IsAnsweredBy}
use Rattle.mx_jobs.proofs.OfficeLemmas.{rests_still}
use Rattle.mx_jobs.specs.Layout.{office_schema}
use Rattle.mx_jobs.specs.Stands.{IsEither, Rests}
use Rattle.mx_jobs.proofs.StandsLemmas.{own_settled}
use Rattle.mx_faults.specs.declared.fault.Ask.{Ask}
use Rattle.mx_faults.specs.declared.fault.Fault.{Fault}
use Rattle.mx_faults.specs.declared.fault.Fault.TheVariants.{Memory, Store, NeedsReopen, Damaged}
use Rattle.mx_jobs.specs.OpenOffice.{Office}
use Rattle.mx_output.specs.sector_log.Rows.{good_rows, told}
use Rattle.mx_lists.specs.Report.{report_of}
use Rattle.mx_lists.specs.declared.question.Question.{Question}
use Rattle.mx_lists.specs.declared.report.Report.{Report}
use Rattle.mx_http.specs.responses.Answer.{Answer, list_answer, replies_answer, rows_answer}
use Rattle.mx_desk.specs.Answered.{AnswersIfRoom}
use Rattle.mx_desk.specs.BookAnswer.{answer_of}
use Rattle.mx_http.specs.responses.Request.{Request, enters, imports, asks, unread, rejected, commands_of}
use Rattle.mx_desk.specs.Served.{IsServed, LeavesBehind, LeavesSome, Serves}

not_both : (b : Bool) → b ≡ false → b ≡ true → ⊥
not_both b ready doubt = (cc)

-- a book at rest is what a crash leaves, where nothing was handed in
rests_either : (book : List Entry) (other : List Entry) (s : State) → Rests s book → Leaves s (IsEither book other)
rests_either book other s rests = λ clean db may. inl (rests.crash clean db may)

module _ {S : Type 0} {g : Ghosts S} (book : List Entry) (commands : List Entry) (said : List Reply) (stopped : Option Fault) (old new : Office S g) (stands : StandsFor old book) (clean : HasCleanDisk (office_state new)) (run : IsRun commands said stopped old new) where
  served_run : (request : Request) (answer : Answer) → commands_of request ≡ commands → answer ≡ answer_of book request (length said) stopped → IsServed book request (length said) stopped answer (office_state new)
  served_run request answer same is =
      let over = run.over_book office_schema own_settled book stands in
      record {
        counted = subst (λ (cs : List Entry). length said ≤ length cs) (sym same) run.counted;
        done = λ none. subst (λ (cs : List Entry). length said ≡ length cs) (sym same) (run.done none);
        answered = is;
        whole = over.whole clean;
        kept = λ other. subst (λ (cs : List Entry). Rests (office_state new) (book_run book (take (length said) cs))) (sym same) (over.kept other);
        crash = subst (λ (cs : List Entry). Leaves (office_state new) (IsEither (book_run book (take (length said) cs)) (book_run book (take (length said + 1) cs)))) (sym same) over.crash;
      }

-- a request that hands in nothing
served_nothing : (book : List Entry) (request : Request) (stopped : Option Fault) (answer : Answer) (new : State) → commands_of request ≡ [] → Rests new book
    → ((table : TableName) → stopped ≢ Some (Damaged table)) → answer ≡ answer_of book request 0 stopped → IsServed book request 0 stopped answer new
served_nothing book request stopped answer new none rests whole is = record {
  counted = (grind (arith));
  done = λ _. sym (ap length none);
  answered = is;
  whole = whole;
  kept = λ _. rests;
  crash = subst (λ (cs : List Entry). Leaves new (IsEither (book_run book (take 0 cs)) (book_run book (take 1 cs)))) (sym none) (rests_either book book new rests);
}

module _ {S : Type 0} {g : Ghosts S} (book : List Entry) (old new : Office S g) (rests : Rests (office_state old) book) (clean : HasCleanDisk (office_state new)) where
  unchanged : new ≡ old → Rests (office_state new) book
  unchanged same = subst (λ (o : Office S g). Rests (office_state o) book) (sym same) rests

  served_list : (question : Question) (result : Result Report Ask) (answer : Answer) → Rests (office_state new) book → IsAnswer (found_or UnknownAircraft (report_of book question)) result
      → answer ≡ list_answer result → Serves book (asks question) answer (office_state new)
  served_list question result answer kept (inl same) is =
      inl (0, None, served_nothing book (asks question) None answer (office_state new) refl kept (λ table damaged. (cc)) (is ∙ ap list_answer same))
  served_list question result answer kept (inr (inl memory)) is =
      inl (0, Some Memory, served_nothing book (asks question) (Some Memory) answer (office_state new) refl kept (λ table damaged. (cc)) (is ∙ ap list_answer memory))
  served_list question result answer kept (inr (inr store)) is =
      inl (0, Some Store, served_nothing book (asks question) (Some Store) answer (office_state new) refl kept (λ table damaged. (cc)) (is ∙ ap list_answer store))

  served_asked : (question : Question) (result : Result Report Ask) (answer : Answer) (b : Bool) → old.needs_reopen ≡ b
      → IsAsked (stop_asking result) old new → IsAnsweredBy (λ entries. found_or UnknownAircraft (report_of entries question)) old new result
      → answer ≡ list_answer result → Serves book (asks question) answer (office_state new)
  served_asked question result answer false ready asked answered is =
      served_list question result answer (rests_still (office_state old) (office_state new) book (asked.untouched ready) rests) (answered.exact office_schema own_settled book ready rests clean) is
  served_asked question result answer true doubt asked answered is =
      let stopped = asked.doubt.reopen doubt in
      inl (0, Some NeedsReopen, served_nothing book (asks question) (Some NeedsReopen) answer (office_state new) refl (unchanged stopped.1) (λ table damaged. (cc)) (is ∙ ap list_answer (stopped_asking result NeedsReopen stopped.0)))

  -- what an office that answers a request makes of the book, and its answer
  pub serves : (request : Request) (answer : Answer) → AnswersIfRoom request old new (λ a. answer ≡ a) → Serves book request answer (office_state new)
  serves (enters commands) answer (inl (said, stopped, run, is)) =
      inl (
        length said,
        stopped,
        served_run book commands said stopped old new rests clean run (enters commands) answer refl
            (is ∙ ap (λ (given : List Reply). replies_answer given stopped) ((run.over_book office_schema own_settled book rests).answered clean)),
      )
  serves (imports rows) answer (inl (said, stopped, run, is)) =
      inl (
        length said,
        stopped,
        served_run book (good_rows rows) said stopped old new rests clean run (imports rows) answer refl
            (is ∙ ap (λ (given : List Reply). rows_answer (told rows given) stopped) ((run.over_book office_schema own_settled book rests).answered clean)),
      )
  serves (asks question) answer (inl (result, asked, answered, kind, is)) = served_asked question result answer old.needs_reopen refl asked answered is
  serves (unread fault) answer (inl (same, is)) = inl (0, None, served_nothing book (unread fault) None answer (office_state new) refl (unchanged same) (λ table damaged. (cc)) is)
  serves (rejected why) answer (inl (same, is)) = inl (0, None, served_nothing book (rejected why) None answer (office_state new) refl (unchanged same) (λ table damaged. (cc)) is)
  serves request answer (inr (same, is)) = inr (is, unchanged same)

  -- the same of a result, if it is one
  pub serves_result : {X E : Type 0} → (request : Request) (result : Result X E) (shown : X → Answer) → AnswersIfRoom request old new (λ a. IfOk result (λ x. shown x ≡ a))
      → IfOk result (λ x. Serves book request (shown x) (office_state new))
  serves_result request (Ok x) shown given = serves request (shown x) given
  serves_result request (Err e) shown given = tt

module _ {S : Type 0} {g : Ghosts S} (book : List Entry) (old new : Office S g) (rests : Rests (office_state old) book) where
  left_same : (request : Request) → new ≡ old → (n : ℕ) × LeavesBehind book request n (office_state new)
  left_same request same = (0, rests_either book _ (office_state new) (subst (λ (o : Office S g). Rests (office_state o) book) (sym same) rests))

  left_asked : (question : Question) (result : Result Report Ask) (b : Bool) → old.needs_reopen ≡ b → IsAsked (stop_asking result) old new → (n : ℕ) × LeavesBehind book (asks question) n (office_state new)
  left_asked question result false ready asked = (0, rests_either book _ (office_state new) (rests_still (office_state old) (office_state new) book (asked.untouched ready) rests))
  left_asked question result true doubt asked = left_same (asks question) (asked.doubt.reopen doubt).1

  -- what a crash leaves of the book behind a request, whatever is answered
  pub leaves : (request : Request) (P : Answer → Type 0) → AnswersIfRoom request old new P → (n : ℕ) × LeavesBehind book request n (office_state new)
  leaves (enters commands) P (inl (said, stopped, run, is)) = (length said, (run.over_book office_schema own_settled book rests).crash)
  leaves (imports rows) P (inl (said, stopped, run, is)) = (length said, (run.over_book office_schema own_settled book rests).crash)
  leaves (asks question) P (inl (result, asked, answered, kind, is)) = left_asked question result old.needs_reopen refl asked
  leaves (unread fault) P (inl (same, is)) = left_same (unread fault) same
  leaves (rejected why) P (inl (same, is)) = left_same (rejected why) same
  leaves request P (inr (same, is)) = left_same request same

  kept_same : new ≡ old → (commands : List Entry) × Rests (office_state new) (book_run book commands)
  kept_same same = ([], subst (λ (o : Office S g). Rests (office_state o) book) (sym same) rests)

  kept_asked : (result : Result Report Ask) (b : Bool) → old.needs_reopen ≡ b → IsAsked (stop_asking result) old new → (commands : List Entry) × Rests (office_state new) (book_run book commands)
  kept_asked result false ready asked = ([], rests_still (office_state old) (office_state new) book (asked.untouched ready) rests)
  kept_asked result true doubt asked = kept_same (asked.doubt.reopen doubt).1

  kept_run : (commands : List Entry) (said : List Reply) (stopped : Option Fault) → IsReady new → IsRun commands said stopped old new → (handed : List Entry) × Rests (office_state new) (book_run book handed)
  kept_run commands said stopped ready run = (take (length said) commands, (run.over_book office_schema own_settled book rests).kept (λ store. not_both new.needs_reopen ready (run.doubt.stopped store)))

  -- an office that goes on after a request rests at the book behind some commands
  pub stays : (request : Request) (P : Answer → Type 0) → IsReady new → AnswersIfRoom request old new P → (commands : List Entry) × Rests (office_state new) (book_run book commands)
  stays (enters commands) P ready (inl (said, stopped, run, is)) = kept_run commands said stopped ready run
  stays (imports rows) P ready (inl (said, stopped, run, is)) = kept_run (good_rows rows) said stopped ready run
  stays (asks question) P ready (inl (result, asked, answered, kind, is)) = kept_asked result old.needs_reopen refl asked
  stays (unread fault) P ready (inl (same, is)) = kept_same same
  stays (rejected why) P ready (inl (same, is)) = kept_same same
  stays request P ready (inr (same, is)) = kept_same same

-- a book at rest is left, whatever was to be handed in
pub left_here : (book : List Entry) (s : State) → Rests s book → LeavesSome book s
left_here book s rests = (enters [], 0, rests_either book book s rests)
