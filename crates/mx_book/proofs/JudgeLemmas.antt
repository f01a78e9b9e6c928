-- What a verdict says of the book, and that a book stays one.
use Rattle.std.proofs.Common.{arith, refl, sym, subst, ap, ◌∙◌, ◌≡◌, ℕ, List, [], ◌∷◌, ◌++◌, Bool, true, false, cond, ◌&&◌, Option, Some, None, append_assoc, append-nil, length-append}
use Rattle.std.specs.List.{list_all}
use Rattle.std.specs.Option.{option_map}
use Rattle.mx_book.specs.commands.Act.{Entry}
use Rattle.mx_book.specs.commands.Shape.{has_shape}
use Rattle.mx_book.specs.declared.verdict.Refusal.{Refusal}
use Rattle.mx_book.specs.declared.verdict.Verdict.{Verdict}
use Rattle.mx_book.specs.declared.verdict.Verdict.TheVariants.{New, Already, Refused}
use Rattle.mx_book.specs.Judge.{judge, judge_by, known_from, refusals, first_of, verdict_of}
use Rattle.mx_book.specs.Asking.{known_same}
use Rattle.mx_book.specs.Book.{is_new, is_book_from, IsBook}
use Rattle.mx_book.proofs.PassLemmas.{new-room}

refused_by : (book : List Entry) (command : Entry) (why : Refusal) (o : Option (ℕ × Entry)) → None ≡ option_map (known_same command) o → Some why ≡ first_of (refusals book command.act) → Refused why ≡ judge_by book command o
refused_by book command why None unknown h = ap verdict_of h
refused_by book command why (Some known) unknown h = (cc)

-- a command whose document is new is refused by what refuses it
pub refused_new : (book : List Entry) (command : Entry) (why : Refusal) → None ≡ option_map (known_same command) (known_from command.doc 1 book) → Some why ≡ first_of (refusals book command.act) → Refused why ≡ judge book command
refused_new book command why unknown h = refused_by book command why (known_from command.doc 1 book) unknown h

and_of : (p q : Bool) → p ≡ true → q ≡ true → p && q ≡ true
and_of p q h k = ap (λ b. b && q) h ∙ k

pub both_true : (p q : Bool) → p && q ≡ true → (p ≡ true) × (q ≡ true)
both_true true true h = (refl, refl)
both_true true false h = (cc)
both_true false q h = (cc)

shaped_more : (book : List Entry) (command : Entry) → list_all has_shape book ≡ true → has_shape command ≡ true → list_all has_shape (book ++ command ∷ []) ≡ true
shaped_more [] command s h = and_of (has_shape command) true h refl
shaped_more (e ∷ book) command s h =
    let both = both_true (has_shape e) (list_all has_shape book) s in
    and_of (has_shape e) (list_all has_shape (book ++ command ∷ [])) both.0 (shaped_more book command both.1 h)

judged_more : (before book : List Entry) (command : Entry) → is_book_from before book ≡ true → judge (before ++ book) command ≡ New → is_book_from before (book ++ command ∷ []) ≡ true
judged_more before [] command s h =
    let new : judge before command ≡ New = subst (λ (es : List Entry). judge es command ≡ New) (append-nil before) h in
    and_of (is_new (judge before command)) true (ap is_new new) refl
judged_more before (e ∷ book) command s h =
    let both = both_true (is_new (judge before e)) (is_book_from (before ++ e ∷ []) book) s in
    and_of (is_new (judge before e)) (is_book_from (before ++ e ∷ []) (book ++ command ∷ [])) both.0
    (judged_more (before ++ e ∷ []) book command both.1 (subst (λ (es : List Entry). judge es command ≡ New) (sym (append_assoc before (e ∷ []) book)) h))

-- a book stays one when a command that is new is entered
pub IsBook-entered : (book : List Entry) (command : Entry) → IsBook book → has_shape command ≡ true → judge book command ≡ New → IsBook (book ++ command ∷ [])
IsBook-entered book command b shape new = record {
  few = omega (arith, length-append book (command ∷ []), new-room book command new);
  shaped = shaped_more book command b.shaped shape;
  judged = judged_more [] book command b.judged new;
}

pub IsBook-entered_if : (done : Bool) (book : List Entry) (command : Entry) → IsBook book → has_shape command ≡ true → judge book command ≡ New → IsBook (cond done (book ++ command ∷ []) book)
IsBook-entered_if true book command b shape new = IsBook-entered book command b shape new
IsBook-entered_if false book command b shape new = b

-- a verdict that passes the test of a new one is New
pub is_new-New : (verdict : Verdict) → is_new verdict ≡ true → verdict ≡ New
is_new-New New h = refl
is_new-New (Already seq) h = (cc)
is_new-New (Refused refusal) h = (cc)
