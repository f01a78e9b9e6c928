-- A command that was accepted is known from then on, and no document is entered twice.
use Rattle.std.proofs.Common.{arith, refl, sym, ap, ◌∙◌, ◌≡◌, ◌≢◌, ℕ, ◌+◌, ◌<◌, zero, suc, length, get_or, take, List, [], ◌∷◌, ◌++◌, Bool, true, false, cond, Option, Some, None, append_assoc, append-nil, length-take-le}
use Rattle.std.specs.List.{AllPairs}
use Rattle.std.proofs.lemmas.List.{get_or-take}
use Rattle.mx_book.specs.commands.Act.{Entry}
use Rattle.mx_book.specs.commands.Same.{same_entry, same_text}
use Rattle.mx_book.proofs.CommandsProofs.SameLemmas.{entry_same, text_same}
use Rattle.mx_book.specs.declared.verdict.Refusal.TheVariants.{Conflict}
use Rattle.mx_book.specs.declared.verdict.Verdict.TheVariants.{New, Already, Refused}
use Rattle.mx_book.specs.Judge.{judge, judge_by, known_from}
use Rattle.mx_book.specs.Book.{is_new, is_book_from, IsBook}
use Rattle.mx_book.specs.Run.{book_after}
use Rattle.mx_book.proofs.JudgeLemmas.{both_true, is_new-New}

known_old : (b : Bool) (seq : ℕ) (o : Option (ℕ × Entry)) → cond b (Already seq) (Refused (Conflict seq)) ≡ New → o ≡ None
known_old true seq o h = (cc)
known_old false seq o h = (cc)

unknown_by : (book : List Entry) (command : Entry) (o : Option (ℕ × Entry)) → judge_by book command o ≡ New → o ≡ None
unknown_by book command (Some known) h = known_old (same_entry known.1 command) known.0 (Some known) h
unknown_by book command None h = refl

-- no entry has the document of a command that is new
pub unknown_document : (book : List Entry) (command : Entry) → judge book command ≡ New → known_from command.doc 1 book ≡ None
unknown_document book command h = unknown_by book command (known_from command.doc 1 book) h

known_step : (b : Bool) (k : ℕ) (e : Entry) (o p goal : Option (ℕ × Entry)) → cond b (Some (k, e)) o ≡ None → (o ≡ None → p ≡ goal) → cond b (Some (k, e)) p ≡ goal
known_step true k e o p goal h f = (cc)
known_step false k e o p goal h f = f h

-- behind entries without its document a command is found, whatever follows
known_there : (command : Entry) (k : ℕ) (book more : List Entry) → known_from command.doc k book ≡ None → known_from command.doc k (book ++ command ∷ more) ≡ Some (k + length book, command)
known_there command k [] more h =
    let same : same_text command.doc command.doc ≡ true = (text_same command.doc command.doc).1 refl in
    let e : k + 0 ≡ k = omega arith in
    ap (λ b. cond b (Some (k, command)) (known_from command.doc (k + 1) more)) same ∙ ap (λ (n : ℕ). Some (n, command)) (sym e)
known_there command k (e ∷ book) more h =
    known_step (same_text e.doc command.doc) k e (known_from command.doc (k + 1) book) (known_from command.doc (k + 1) (book ++ command ∷ more)) (Some (k + length (e ∷ book), command)) h
    (λ g. let same : (k + 1) + length book ≡ k + length (e ∷ book) = omega arith in known_there command (k + 1) book more g ∙ ap (λ (n : ℕ). Some (n, command)) same)

-- a command once accepted is answered with its number, whatever was entered since
pub judge_accepted : (book more : List Entry) (command : Entry) → judge book command ≡ New → judge (book ++ command ∷ more) command ≡ Already (length book + 1)
judge_accepted book more command h =
    let known = known_there command 1 book more (unknown_document book command h) in
    let same : same_entry command command ≡ true = (entry_same command command).1 refl in
    let number : 1 + length book ≡ length book + 1 = omega arith in
    ap (judge_by (book ++ command ∷ more) command) known
    ∙ ap (λ b. cond b (Already (1 + length book)) (Refused (Conflict (1 + length book)))) same
    ∙ ap Already number

-- and leaves the book as it is
pub book_after_accepted : (book more : List Entry) (command : Entry) → judge book command ≡ New → book_after (book ++ command ∷ more) command ≡ book ++ command ∷ more
book_after_accepted book more command h =
    ap (λ v. cond (is_new v) ((book ++ command ∷ more) ++ command ∷ []) (book ++ command ∷ more)) (judge_accepted book more command h)

-- ── documents ──

-- each of the later entries is new to those before it
entry_is_new : (before later : List Entry) (j : ℕ) (d : Entry) → is_book_from before later ≡ true → j < length later → judge (before ++ take j later) (get_or later j d) ≡ New
entry_is_new before [] j d h lt = absurd (omega arith)
entry_is_new before (e ∷ later) zero d h lt =
    let both = both_true (is_new (judge before e)) (is_book_from (before ++ e ∷ []) later) h in
    ap (λ (es : List Entry). judge es e) (append-nil before) ∙ is_new-New (judge before e) both.0
entry_is_new before (e ∷ later) (suc j) d h lt =
    let both = both_true (is_new (judge before e)) (is_book_from (before ++ e ∷ []) later) h in
    ap (λ (es : List Entry). judge es (get_or later j d)) (sym (append_assoc before (e ∷ []) (take j later)))
    ∙ entry_is_new (before ++ e ∷ []) later j d both.1 (omega arith)

neither_known : (b : Bool) (k : ℕ) (e : Entry) (o : Option (ℕ × Entry)) → cond b (Some (k, e)) o ≡ None → (b ≡ false) × (o ≡ None)
neither_known true k e o h = (cc)
neither_known false k e o h = (refl, h)

-- an entry among which a document is looked for in vain has another
other_document : (doc : List ℕ) (k : ℕ) (book : List Entry) (i : ℕ) (d : Entry) → known_from doc k book ≡ None → i < length book → (get_or book i d).doc ≢ doc
other_document doc k [] i d h lt = absurd (omega arith)
other_document doc k (e ∷ book) zero d h lt = λ same.
    let found : same_text e.doc doc ≡ true = (text_same e.doc doc).1 same in
    let missed = (neither_known (same_text e.doc doc) k e (known_from doc (k + 1) book) h).0 in cc
other_document doc k (e ∷ book) (suc i) d h lt =
    other_document doc (k + 1) book i d (neither_known (same_text e.doc doc) k e (known_from doc (k + 1) book) h).1 (omega arith)

-- no two entries of a book have one document
pub documents_distinct : (book : List Entry) → IsBook book → AllPairs (λ a b. a.doc ≢ b.doc) book
documents_distinct book h i j d lt within same =
    let new = entry_is_new [] book j d h.judged within in
    let size : i < length (take j book) = omega (arith, length-take-le j book (omega arith)) in
    other_document (get_or book j d).doc 1 (take j book) i d (unknown_document (take j book) (get_or book j d) new) size
    (ap (λ (e : Entry). e.doc) (get_or-take j book i d lt) ∙ same)
