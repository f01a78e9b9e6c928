-- What becomes of the tables of a book with a command, and with calls that change nothing.
use Rattle.std.proofs.Common.{◌≡◌, inl, true, cond, append_assoc, List, [], ◌∷◌, ◌++◌, refl, sym, ap, subst, ◌∙◌, arith}
use Rattle.std.proofs.lemmas.List.{append-nil}
use Rattle.sqlite.specs.Schema.{Schema}
use Rattle.sqlite.specs.State.{State, HasCleanDisk, Survives}
use Rattle.sqlite.specs.Tree.{Trees}
use Rattle.sqlite.proofs.StateLemmas.{survives_then}
use Rattle.mx_book.specs.commands.Act.{Entry}
use Rattle.mx_book.specs.Book.{is_new, is_book_from, IsBook}
use Rattle.mx_book.specs.Judge.{judge}
use Rattle.mx_book.specs.Run.{book_after, reply, reply_to}
use Rattle.mx_book.specs.declared.verdict.Reply.{Reply}
use Rattle.mx_book.specs.declared.verdict.Reply.TheVariants.{Already, Refused}
use Rattle.mx_book.specs.declared.verdict.Verdict.{Verdict}
use Rattle.mx_book.specs.declared.verdict.Verdict.TheVariants as verdict
use Rattle.mx_book.proofs.JudgeLemmas.{both_true, is_new-New}
use Rattle.mx_layout.specs.Crash.{ChangesNothing}
use Rattle.mx_layout.proofs.CrashLemmas.{rests_kept, rests_same}
use Rattle.mx_book_tables.specs.stands.Stands.{StandsInSchema}
use Rattle.mx_apply.specs.Applies.{behind}
use Rattle.mx_office.specs.Layout.{office_point, office_schema}
use Rattle.mx_office.specs.Stands.{Rests, RestsIn, Stands}

-- ── calls that change nothing ──

-- a call that changed nothing left the tables those of the book
pub rests_still : (old new : State) (book : List Entry) → ChangesNothing old new → Rests old book → Rests new book
rests_still old new book = rests_kept office_schema (λ trees. Stands trees book) old new

-- one after the other
pub nothing_then : (old mid new : State) → ChangesNothing old mid → ChangesNothing mid new → ChangesNothing old new
nothing_then old mid new one two =
    let early : HasCleanDisk new → HasCleanDisk mid = λ clean. omega (arith, two.survives.clean) in
    record {
      survives = survives_then old mid new _ _ _ (λ _ trees none. none) (λ _ trees none. none) one.survives two.survives;
      was_open = λ clean is_open. one.was_open (early clean) (two.was_open clean is_open);
      now_is = λ clean is_open. two.now_is clean is_open ∙ one.committed_is (early clean) (two.was_open clean is_open);
      committed_is = λ clean is_open. two.committed_is clean is_open ∙ one.committed_is (early clean) (two.was_open clean is_open);
    }

-- a connection that is as it was
pub survives_itself : (s : State) (P : Trees → Type 0) → Survives s s P
survives_itself s P = record { clean = omega arith; shield = λ h. h; counts = omega arith; limit = refl; closes = λ _ is_open. inl is_open; crash = λ _ trees may. inl may }

-- ── the book behind a command ──

pub rests_as : (schema : Schema) (s : State) (one other : List Entry) → (HasCleanDisk s → one ≡ other) → RestsIn schema s one → RestsIn schema s other
rests_as schema s one other same = rests_same s schema (λ trees. StandsInSchema schema office_point trees one) (λ trees. StandsInSchema schema office_point trees other) (λ clean trees is. subst (StandsInSchema schema office_point trees) (same clean) is)

after_new : (book : List Entry) (command : Entry) → judge book command ≡ verdict.New → book_after book command ≡ book ++ command ∷ []
after_new book command is = ap (λ v. cond (is_new v) (book ++ command ∷ []) book) is

after_verdict : (book : List Entry) (command : Entry) (v : Verdict) → judge book command ≡ v → (r : Reply) (next : _) → r ≡ reply_to next v → behind book command r ≡ book_after book command
after_verdict book command verdict.New is r next said = ap (behind book command) said ∙ sym (after_new book command is)
after_verdict book command (verdict.Already seq) is r next said = ap (behind book command) said ∙ sym (ap (λ v. cond (is_new v) (book ++ command ∷ []) book) is)
after_verdict book command (verdict.Refused why) is r next said = ap (behind book command) said ∙ sym (ap (λ v. cond (is_new v) (book ++ command ∷ []) book) is)

-- the book behind the reply that it gives
pub behind_is : (book : List Entry) (command : Entry) (r : Reply) → r ≡ reply book command → behind book command r ≡ book_after book command
behind_is book command r said = after_verdict book command (judge book command) refl r _ said

last_new : (before book : List Entry) (command : Entry) → is_book_from before (book ++ command ∷ []) ≡ true → judge (before ++ book) command ≡ verdict.New
last_new before [] command is = ap (λ b. judge b command) (append-nil before) ∙ is_new-New (judge before command) (both_true (is_new (judge before command)) true is).0
last_new before (entry ∷ book) command is =
    let later = (both_true (is_new (judge before entry)) (is_book_from (before ++ entry ∷ []) (book ++ command ∷ [])) is).1 in
    ap (λ b. judge b command) (sym (append_assoc before (entry ∷ []) book)) ∙ last_new (before ++ entry ∷ []) book command later

-- where a book has a command as its last entry, that was new
pub after_is : (book : List Entry) (command : Entry) → IsBook (book ++ command ∷ []) → book_after book command ≡ book ++ command ∷ []
after_is book command is = after_new book command (last_new [] book command is.judged)
