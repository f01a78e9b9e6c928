-- Registers give a book exactly where the merge does.
use Rattle.std.proofs.Common.{◌≡◌, ◌+◌, Bool, true, false, cond, ◌&&◌, List, [], ◌∷◌, ◌++◌, length, Option, Some, None, refl, sym, ap, ◌∙◌, nat_eq}
use Rattle.std.specs.Prelude.{Result, Ok, Err, IfOk}
use Rattle.std.specs.Option.{option_and_then, option_map_or}
use Rattle.mx_book.specs.commands.Act.{Entry}
use Rattle.mx_book.specs.Book.{is_new, IsBook}
use Rattle.mx_book.specs.Judge.{judge}
use Rattle.mx_base.specs.declared.rows.rows.EntryRow.{EntryRow}
use Rattle.mx_registers.specs.declared.merge.Registers.{Registers}
use Rattle.mx_registers.specs.Registers.{AreRegistersOf}
use Rattle.mx_registers.specs.Merge.{Rest, are_taken, merged, take_command}
use Rattle.mx_registers.specs.Left.{all_rows}
use Rattle.mx_registers.proofs.MergeLemmas.{merged_from}
use Rattle.mx_registers.proofs.PlainProofs.SoundLemmas.{merged_sound}
use Rattle.mx_verify.specs.merged.Merging.{merging, without_command}
use Rattle.mx_verify.specs.declared.merged.merged.NoBook.{NoBook}
use Rattle.mx_verify.specs.declared.merged.merged.NoBook.TheVariants.{Damaged, Differs}

-- the book that was given, if it was one
abbrev given : Result (List Entry) NoBook → Option (List Entry)
given (Ok book) = Some book
given (Err why) = None

-- the rows give the book of the merge, and none where that gives none
merging_merges : (before : List Entry) (entries : List EntryRow) (rest : Rest) → given (merging before entries rest) ≡ merged before entries rest
merging_merges before [] rest = at (are_taken rest)
  where
    at : (b : Bool) → given (cond b (Ok before) (Err Differs)) ≡ cond b (Some before) None
    at true = refl
    at false = refl
merging_merges before (entry ∷ entries) rest = at (nat_eq entry.seq (length before + 1)) (take_command before entry rest) (λ next. merging_merges (before ++ next.0 ∷ []) entries next.1)
  where
    new : (b : Bool) (one : Result (List Entry) NoBook) (other : Option (List Entry)) → given one ≡ other → given (cond b one (Err (Damaged entry.kind))) ≡ cond b other None
    new true one other h = h
    new false one other h = refl

    at : (b : Bool) (taken : Option (Entry × Rest)) → ((next : Entry × Rest) → given (merging (before ++ next.0 ∷ []) entries next.1) ≡ merged (before ++ next.0 ∷ []) entries next.1)
        → given (cond b (option_map_or (λ (next : Entry × Rest). cond (is_new (judge before next.0)) (merging (before ++ next.0 ∷ []) entries next.1) (Err (Damaged entry.kind))) taken (Err (without_command entry rest))) (Err Differs))
        ≡ option_and_then (λ (next : Entry × Rest). cond (b && is_new (judge before next.0)) (merged (before ++ next.0 ∷ []) entries next.1) None) taken
    at true None rec = refl
    at true (Some next) rec = new (is_new (judge before next.0)) (merging (before ++ next.0 ∷ []) entries next.1) (merged (before ++ next.0 ∷ []) entries next.1) (rec next)
    at false None rec = refl
    at false (Some next) rec = refl

is_given : (result : Result (List Entry) NoBook) (book : List Entry) → given result ≡ Some book → result ≡ Ok book
is_given (Ok found) book h = (cc)
is_given (Err why) book h = (cc)

abbrev Given : Registers → Result (List Entry) NoBook
Given registers = merging [] registers.entries.items (all_rows registers)

-- the registers of a book give it
pub gives_its_book : {Fault : Type 0} (registers : Registers) (book : List Entry) (result : Result (Result (List Entry) NoBook) Fault) → IsBook book → AreRegistersOf registers book
    → IfOk result (λ found. found ≡ Given registers) → IfOk result (λ found. found ≡ Ok book)
gives_its_book registers book (Ok found) is are h = h ∙ is_given (Given registers) book (merging_merges [] registers.entries.items (all_rows registers) ∙ merged_from registers book is are)
gives_its_book registers book (Err fault) is are h = tt

-- the book that registers give has them
given_sound : (registers : Registers) (found : Result (List Entry) NoBook) → found ≡ Given registers → IfOk found (λ book. AreRegistersOf registers book)
given_sound registers (Ok book) h = merged_sound registers book (sym (merging_merges [] registers.entries.items (all_rows registers)) ∙ ap given (sym h))
given_sound registers (Err why) h = tt

pub gives_sound : {Fault : Type 0} (registers : Registers) (result : Result (Result (List Entry) NoBook) Fault) → IfOk result (λ found. found ≡ Given registers)
    → IfOk result (λ found. IfOk found (λ book. AreRegistersOf registers book))
gives_sound registers (Ok found) h = given_sound registers found h
gives_sound registers (Err fault) h = tt
