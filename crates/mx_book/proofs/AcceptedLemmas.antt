-- Runs, as the commands that they accept, and what they acknowledge.
use Rattle.std.proofs.Common.{arith, refl, sym, ap, ◌∙◌, ◌≡◌, ◌⊎◌, inl, inr, ℕ, ◌+◌, zero, suc, length, take, drop, List, [], ◌∷◌, ◌++◌, Bool, true, false, cond, Option, Some, None, IsSomeAnd, slice_get, count_by, filter, append_assoc, append-nil}
use Rattle.std.proofs.lemmas.List.{take-append-drop}
use Rattle.std.proofs.lemmas.List.Sums.{length-filter}
use Rattle.std.proofs.lemmas.Option.{none-some, same_Some}
use Rattle.std.proofs.Math.Seq.{take-append_seam}
use Rattle.mx_book.specs.commands.Act.{Entry}
use Rattle.mx_book.specs.commands.Same.{same_entry, same_text}
use Rattle.mx_book.proofs.CommandsProofs.SameLemmas.{entry_same}
use Rattle.mx_book.specs.declared.verdict.Refusal.{Refusal}
use Rattle.mx_book.specs.declared.verdict.Refusal.TheVariants.{Conflict}
use Rattle.mx_book.specs.declared.verdict.Verdict.{Verdict}
use Rattle.mx_book.specs.declared.verdict.Verdict.TheVariants.{New, Already, Refused}
use Rattle.mx_book.specs.declared.verdict.Reply.{Reply}
use Rattle.mx_book.specs.declared.verdict.Reply.TheVariants as said
use Rattle.mx_book.specs.Book.{is_new, entry_at}
use Rattle.mx_book.specs.Judge.{judge, judge_by, known_from, verdict_of, first_of, refusals}
use Rattle.mx_book.specs.Run.{book_after, book_run, reply_to, replies}
use Rattle.mx_book.specs.Accepted.{accepted, is_accepted, Acknowledges, HasAcknowledged}

run_by : (t : Bool) (book commands : List Entry) (command : Entry) → ((d : List Entry) → book_run d commands ≡ d ++ accepted d commands)
    → book_run (cond t (book ++ command ∷ []) book) commands ≡ book ++ cond t (command ∷ accepted (book ++ command ∷ []) commands) (accepted book commands)
run_by true book commands command all = all (book ++ command ∷ []) ∙ append_assoc book (command ∷ []) (accepted (book ++ command ∷ []) commands)
run_by false book commands command all = all book

-- the book after a run is the book from before followed by what was accepted
pub run_accepts : (book commands : List Entry) → book_run book commands ≡ book ++ accepted book commands
run_accepts book [] = sym (append-nil book)
run_accepts book (command ∷ commands) = run_by (is_new (judge book command)) book commands command (λ d. run_accepts d commands)

split_by : (t : Bool) (book xs ys : List Entry) (command : Entry) → ((d : List Entry) → accepted d (xs ++ ys) ≡ accepted d xs ++ accepted (book_run d xs) ys)
    → cond t (command ∷ accepted (book ++ command ∷ []) (xs ++ ys)) (accepted book (xs ++ ys)) ≡ cond t (command ∷ accepted (book ++ command ∷ []) xs) (accepted book xs) ++ accepted (book_run (cond t (book ++ command ∷ []) book) xs) ys
split_by true book xs ys command all = ap (λ l. command ∷ l) (all (book ++ command ∷ []))
split_by false book xs ys command all = all book

pub accepted-append : (book xs ys : List Entry) → accepted book (xs ++ ys) ≡ accepted book xs ++ accepted (book_run book xs) ys
accepted-append book [] ys = refl
accepted-append book (command ∷ xs) ys = split_by (is_new (judge book command)) book xs ys command (λ d. accepted-append d xs ys)

-- a run over the first commands keeps a prefix of the commands accepted
pub run_prefix : (book commands : List Entry) (k : ℕ) → book_run book (take k commands) ≡ book ++ take (length (accepted book (take k commands))) (accepted book commands)
run_prefix book commands k =
    let first = accepted book (take k commands) in
    let whole : accepted book commands ≡ first ++ accepted (book_run book (take k commands)) (drop k commands) = ap (accepted book) (sym (take-append-drop k commands)) ∙ accepted-append book (take k commands) (drop k commands) in
    run_accepts book (take k commands) ∙ ap (λ l. book ++ l) (sym (ap (take (length first)) whole ∙ take-append_seam first _))

said_by : (v : Verdict) (book commands : List Entry) (command : Entry) → ((d : List Entry) → length (filter is_accepted (replies d commands)) ≡ length (accepted d commands))
    → length (filter is_accepted (reply_to (length book + 1) v ∷ replies (cond (is_new v) (book ++ command ∷ []) book) commands)) ≡ length (cond (is_new v) (command ∷ accepted (book ++ command ∷ []) commands) (accepted book commands))
said_by New book commands command all = ap suc (all (book ++ command ∷ []))
said_by (Already seq) book commands command all = all book
said_by (Refused why) book commands command all = all book

said_so : (book commands : List Entry) → length (filter is_accepted (replies book commands)) ≡ length (accepted book commands)
said_so book [] = refl
said_so book (command ∷ commands) = said_by (judge book command) book commands command (λ d. said_so d commands)

-- as many replies say so
pub replies_count : (book commands : List Entry) → count_by is_accepted (replies book commands) ≡ length (accepted book commands)
replies_count book commands = sym (length-filter is_accepted (replies book commands)) ∙ said_so book commands

abbrev IsOneMore : ℕ → ℕ → Type 0
IsOneMore less more = (more ≡ less) ⊎ (more ≡ less + 1)

first_by : (t : Bool) (command : Entry) → IsOneMore 0 (length (cond t (command ∷ []) []))
first_by true command = inr refl
first_by false command = inl refl

next_by : (t : Bool) (book xs ys : List Entry) (command : Entry) → ((d : List Entry) → IsOneMore (length (accepted d xs)) (length (accepted d ys)))
    → IsOneMore (length (cond t (command ∷ accepted (book ++ command ∷ []) xs) (accepted book xs))) (length (cond t (command ∷ accepted (book ++ command ∷ []) ys) (accepted book ys)))
next_by true book xs ys command all = elim (all (book ++ command ∷ [])) [ inl same ↦ inl (omega arith) | inr more ↦ inr (omega arith) ]
next_by false book xs ys command all = all book

-- one command more is at most one more that is accepted
pub one_more : (book commands : List Entry) (n : ℕ) → IsOneMore (length (accepted book (take n commands))) (length (accepted book (take (suc n) commands)))
one_more book [] zero = inl refl
one_more book [] (suc n) = inl refl
one_more book (command ∷ commands) zero = first_by (is_new (judge book command)) command
one_more book (command ∷ commands) (suc n) = next_by (is_new (judge book command)) book (take n commands) (take (suc n) commands) command (λ d. one_more d commands n)

-- ── what is acknowledged ──

got-append : {X : Type 0} (xs ys : List X) (i : ℕ) (x : X) → slice_get xs i ≡ Some x → slice_get (xs ++ ys) i ≡ Some x
got-append [] ys i x h = absurd (none-some _ h)
got-append (z ∷ xs) ys zero x h = h
got-append (z ∷ xs) ys (suc i) x h = got-append xs ys i x h

got_seam : {X : Type 0} (xs ys : List X) (x : X) → slice_get (xs ++ x ∷ ys) (length xs) ≡ Some x
got_seam [] ys x = refl
got_seam (z ∷ xs) ys x = got_seam xs ys x

abbrev IsPlace : ℕ → List Entry → ℕ → Entry → Type 0
IsPlace k book seq e = (i : ℕ) × (seq ≡ k + i) × (slice_get book i ≡ Some e)

place_by : (t : Bool) (k : ℕ) (x : Entry) (book : List Entry) (o : Option (ℕ × Entry)) (seq : ℕ) (e : Entry)
    → cond t (Some (k, x)) o ≡ Some (seq, e) → (o ≡ Some (seq, e) → IsPlace (k + 1) book seq e) → IsPlace k (x ∷ book) seq e
place_by true k x book o seq e h f = let same = same_Some _ _ h in let number : k ≡ seq = ap (λ p. p.0) same in (0, omega arith, ap (λ p. Some p.1) same)
place_by false k x book o seq e h f = let r = f h in (suc r.0, omega (arith, r.1), r.2)

known_place : (doc : List ℕ) (k : ℕ) (book : List Entry) (seq : ℕ) (e : Entry) → known_from doc k book ≡ Some (seq, e) → IsPlace k book seq e
known_place doc k [] seq e h = absurd (none-some _ h)
known_place doc k (x ∷ book) seq e h = place_by (same_text x.doc doc) k x book (known_from doc (k + 1) book) seq e h (known_place doc (k + 1) book seq e)

never_known : (o : Option Refusal) (seq : ℕ) → verdict_of o ≡ Already seq → ⊥
never_known None seq h = cc
never_known (Some why) seq h = cc

known_as : (t : Bool) (known : ℕ × Entry) (seq : ℕ) → cond t (Already known.0) (Refused (Conflict known.0)) ≡ Already seq → (known.0 ≡ seq) × (t ≡ true)
known_as true known seq h = (cc, refl)
known_as false known seq h = absurd (cc)

already_by : (book : List Entry) (command : Entry) (o : Option (ℕ × Entry)) (seq : ℕ) → judge_by book command o ≡ Already seq → o ≡ Some (seq, command)
already_by book command None seq h = absurd (never_known (first_of (refusals book command.act)) seq h)
already_by book command (Some known) seq h =
    let r = known_as (same_entry known.1 command) known seq h in
    let same : known.1 ≡ command = (entry_same known.1 command).0 r.1 in
    ap (λ (n : ℕ). Some (n, known.1)) r.0 ∙ ap (λ e. Some (seq, e)) same

entered_at : (book more : List Entry) (seq : ℕ) (command : Entry) → IsPlace 1 book seq command → entry_at (book ++ more) seq ≡ Some command
entered_at book more seq command at = let next : seq ≡ suc at.0 = omega (arith, at.1) in ap (entry_at (book ++ more)) next ∙ got-append book more at.0 command at.2

new_number : (number n : ℕ) → said.Accepted (n + 1) ≡ said.Accepted number → number ≡ suc n
new_number number n h = let same : n + 1 ≡ number = cc in omega arith

old_number : (number seq : ℕ) → said.Already seq ≡ said.Already number → seq ≡ number
old_number number seq h = cc

not_already : (number n : ℕ) → said.Accepted (n + 1) ≡ said.Already number → ⊥
not_already number n h = cc

not_accepted : (number seq : ℕ) → said.Already seq ≡ said.Accepted number → ⊥
not_accepted number seq h = cc

refused_not : (why : Refusal) (number : ℕ) → said.Refused why ≡ said.Accepted number → ⊥
refused_not why number h = cc

refused_nor : (why : Refusal) (number : ℕ) → said.Refused why ≡ said.Already number → ⊥
refused_nor why number h = cc

here_by : (book commands more : List Entry) (command : Entry) (number : ℕ) (v : Verdict) → judge book command ≡ v → Acknowledges (Some (reply_to (length book + 1) v)) number
    → entry_at (book_run (cond (is_new v) (book ++ command ∷ []) book) commands ++ more) number ≡ Some command
here_by book commands more command number New is says =
    let first = book ++ command ∷ [] in
    let at : number ≡ suc (length book) = elim says [ inl h ↦ new_number number (length book) (same_Some _ _ h) | inr h ↦ absurd (not_already number (length book) (same_Some _ _ h)) ] in
    ap (λ (l : List Entry). entry_at (l ++ more) number) (run_accepts first commands) ∙ ap (λ (l : List Entry). entry_at l number) (append_assoc first (accepted first commands) more ∙ append_assoc book (command ∷ []) (accepted first commands ++ more))
    ∙ ap (entry_at (book ++ command ∷ (accepted first commands ++ more))) at ∙ got_seam book (accepted first commands ++ more) command
here_by book commands more command number (Already seq) is says =
    let at : seq ≡ number = elim says [ inl h ↦ absurd (not_accepted number seq (same_Some _ _ h)) | inr h ↦ old_number number seq (same_Some _ _ h) ] in
    let known = known_place command.doc 1 book seq command (already_by book command (known_from command.doc 1 book) seq is) in
    ap (λ (l : List Entry). entry_at (l ++ more) number) (run_accepts book commands) ∙ ap (λ (l : List Entry). entry_at l number) (append_assoc book (accepted book commands) more)
    ∙ ap (entry_at (book ++ (accepted book commands ++ more))) (sym at) ∙ entered_at book (accepted book commands ++ more) seq command known
here_by book commands more command number (Refused why) is says = absurd (elim says [ inl h ↦ refused_not why number (same_Some _ _ h) | inr h ↦ refused_nor why number (same_Some _ _ h) ])

-- each acknowledged command is in the book that a run makes, at its number, whatever follows
pub run_has : (book commands more : List Entry) → HasAcknowledged (book_run book commands ++ more) (replies book commands) commands
run_has book [] more at number says = absurd (elim says [ inl h ↦ none-some _ h | inr h ↦ none-some _ h ])
run_has book (command ∷ commands) more zero number says = here_by book commands more command number (judge book command) refl says
run_has book (command ∷ commands) more (suc at) number says = run_has (book_after book command) commands more at number says

entry_at-append : (book more : List Entry) (number : ℕ) (entry : Entry) → entry_at book number ≡ Some entry → entry_at (book ++ more) number ≡ Some entry
entry_at-append book more zero entry h = absurd (none-some _ h)
entry_at-append book more (suc k) entry h = got-append book more k entry h

stays_by : (book more : List Entry) (number : ℕ) (o : Option Entry) → IsSomeAnd o (λ command. entry_at book number ≡ Some command) → IsSomeAnd o (λ command. entry_at (book ++ more) number ≡ Some command)
stays_by book more number None h = h
stays_by book more number (Some command) h = entry_at-append book more number command h

-- and stays there as the book grows
pub acknowledged_stays : (book more : List Entry) (said_so : List Reply) (commands : List Entry) → HasAcknowledged book said_so commands → HasAcknowledged (book ++ more) said_so commands
acknowledged_stays book more said_so commands has at number says = stays_by book more number (slice_get commands at) (has at number says)
