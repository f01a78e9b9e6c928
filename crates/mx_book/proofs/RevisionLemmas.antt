-- The revision in force of a kind counts the programmes that were loaded for it.
use Rattle.std.proofs.Common.{arith, refl, sym, subst, ap, ◌∙◌, ◌≡◌, ℕ, ◌+◌, length, List, [], ◌∷◌, ◌++◌, Bool, true, false, cond, Option, Some, None, IfSome, append_assoc, append-nil, length-append}
use Rattle.std.specs.Prelude.{nat_eq}
use Rattle.std.specs.List.{cons_option}
use Rattle.std.specs.Option.{option_map_or}
use Rattle.std.proofs.lemmas.Bool.Decides.{nat_tests}
use Rattle.std.proofs.lemmas.List.Elements.{filter_map-append}
use Rattle.std.proofs.lemmas.List.Sums.{fold-append}
use Rattle.mx_book.specs.commands.Act.{Act, Entry, Loaded}
use Rattle.mx_book.specs.commands.Same.{same_text}
use Rattle.mx_book.specs.declared.commands.programme.Programme.{Programme}
use Rattle.mx_book.specs.declared.commands.programme.Task.{Task}
use Rattle.mx_book.proofs.CommandsProofs.SameLemmas.{text_same}
use Rattle.mx_book.specs.declared.verdict.Verdict.TheVariants.{New}
use Rattle.mx_book.specs.Register.{register}
use Rattle.mx_book.specs.Programme.{last_of, tasks_loaded, revision_loaded, revision_in_force, next_revision}
use Rattle.mx_book.specs.Judge.{judge}
use Rattle.mx_book.specs.Book.{is_new, is_book_from, IsBook}
use Rattle.mx_book.proofs.JudgeLemmas.{both_true, is_new-New}
use Rattle.mx_book.proofs.PassLemmas.{new-passes_as}

-- ── a programme that is new has the next revision ──

expected_by : (test : Bool) (revision expected : ℕ) → nat_eq revision expected ≡ test → cond test None (Some expected) ≡ None → revision ≡ expected
expected_by true revision expected is h = grind (arith, nat_tests)
expected_by false revision expected is h = (cc)

new-revision : (book : List Entry) (command : Entry) (p : Programme) (tasks : List Task) → judge book command ≡ New → command.act ≡ Loaded p tasks → p.revision ≡ next_revision book p.kind
new-revision book command p tasks new says =
    let expected = next_revision book p.kind in
    expected_by (nat_eq p.revision expected) p.revision expected refl (new-passes_as book command (Loaded p tasks) new says).wrong_revision

-- ── entry by entry ──

-- behind the last of these revisions comes one more than the number of these programmes
abbrev Counts : List ℕ → List (List Task) → Type 0
Counts revisions programmes = option_map_or (λ n. n + 1) (last_of revisions) 1 ≡ length programmes + 1

last_more : {X : Type 0} (xs : List X) (x : X) → last_of (xs ++ x ∷ []) ≡ Some x
last_more xs x = fold-append (λ before y. Some y) None xs (x ∷ [])

none_loaded : (revisions : List ℕ) (programmes : List (List Task)) → Counts revisions programmes → Counts (revisions ++ []) (programmes ++ [])
none_loaded revisions programmes h =
    ap (λ (rs : List ℕ). option_map_or (λ n. n + 1) (last_of rs) 1) (append-nil revisions) ∙ h ∙ ap (λ (ps : List (List Task)). length ps + 1) (sym (append-nil programmes))

loaded_by : (test : Bool) (revisions : List ℕ) (programmes : List (List Task)) (revision : ℕ) (tasks : List Task) → Counts revisions programmes → (test ≡ true → revision ≡ length programmes + 1)
    → Counts (revisions ++ cons_option (cond test (Some revision) None) []) (programmes ++ cons_option (cond test (Some tasks) None) [])
loaded_by true revisions programmes revision tasks h is =
    let next = is refl in
    let more = length-append programmes (tasks ∷ []) in
    ap (λ (o : Option ℕ). option_map_or (λ n. n + 1) o 1) (last_more revisions revision) ∙ omega (arith, next, more)
loaded_by false revisions programmes revision tasks h is = none_loaded revisions programmes h

counts_by : (kind : List ℕ) (book : List Entry) (e : Entry) → judge book e ≡ New → Counts (register (revision_loaded kind) book) (register (tasks_loaded kind) book) → (act : Act) → e.act ≡ act
    → Counts (register (revision_loaded kind) book ++ cons_option (revision_loaded kind act) []) (register (tasks_loaded kind) book ++ cons_option (tasks_loaded kind act) [])
counts_by kind book e new h (Loaded p tasks) says =
    loaded_by (same_text p.kind kind) (register (revision_loaded kind) book) (register (tasks_loaded kind) book) p.revision tasks h
    (λ same. new-revision book e p tasks new says ∙ ap (next_revision book) ((text_same p.kind kind).0 same) ∙ h)
counts_by kind book e new h _ says = none_loaded (register (revision_loaded kind) book) (register (tasks_loaded kind) book) h

register_more : {Row : Type 0} (pick : Act → Option Row) (book : List Entry) (e : Entry) → register pick (book ++ e ∷ []) ≡ register pick book ++ cons_option (pick e.act) []
register_more pick book e = filter_map-append (λ (entry : Entry). pick entry.act) book (e ∷ [])

abbrev CountsIn : List ℕ → List Entry → Type 0
CountsIn kind book = Counts (register (revision_loaded kind) book) (register (tasks_loaded kind) book)

counts_after : (kind : List ℕ) (book : List Entry) (e : Entry) → judge book e ≡ New → CountsIn kind book → CountsIn kind (book ++ e ∷ [])
counts_after kind book e new h =
    ap (λ (rs : List ℕ). option_map_or (λ n. n + 1) (last_of rs) 1) (register_more (revision_loaded kind) book e) ∙ counts_by kind book e new h e.act refl
    ∙ ap (λ (ps : List (List Task)). length ps + 1) (sym (register_more (tasks_loaded kind) book e))

counts_from : (kind : List ℕ) (before later : List Entry) → is_book_from before later ≡ true → CountsIn kind before → CountsIn kind (before ++ later)
counts_from kind before [] h n = subst (CountsIn kind) (sym (append-nil before)) n
counts_from kind before (e ∷ later) h n =
    let both = both_true (is_new (judge before e)) (is_book_from (before ++ e ∷ []) later) h in
    subst (CountsIn kind) (append_assoc before (e ∷ []) later) (counts_from kind (before ++ e ∷ []) later both.1 (counts_after kind before e (is_new-New (judge before e) both.0) n))

-- ── in a book ──

-- the next revision of a kind is one more than the number of its programmes
pub next_counts : (book : List Entry) (kind : List ℕ) → IsBook book → next_revision book kind ≡ length (register (tasks_loaded kind) book) + 1
next_counts book kind h = counts_from kind [] book h.judged refl

one_less : (in_force : Option ℕ) (count : ℕ) → option_map_or (λ n. n + 1) in_force 1 ≡ count + 1 → IfSome in_force (λ n. n ≡ count)
one_less None count h = tt
one_less (Some n) count h = omega (arith, h)

-- that in force is their number
pub in_force_counts : (book : List Entry) (kind : List ℕ) → IsBook book → IfSome (revision_in_force book kind) (λ n. n ≡ length (register (tasks_loaded kind) book))
in_force_counts book kind h = one_less (revision_in_force book kind) (length (register (tasks_loaded kind) book)) (next_counts book kind h)
