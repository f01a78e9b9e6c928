-- The merge, one command further.
use Rattle.std.proofs.Common.{◌≡◌, ◌+◌, cond, List, [], ◌∷◌, ◌++◌, length, Some, sym, ap, ◌∙◌, eq-eqb}
use Rattle.std.specs.Prelude.{Result, Err}
use Rattle.std.specs.Option.{option_map_or}
use Rattle.mx_book.specs.commands.Act.{Entry}
use Rattle.mx_book.specs.declared.verdict.Verdict.TheVariants.{New}
use Rattle.mx_book.specs.Book.{is_new}
use Rattle.mx_book.specs.Judge.{judge}
use Rattle.mx_base.specs.declared.rows.rows.EntryRow.{EntryRow}
use Rattle.mx_registers.specs.Merge.{Rest, take_command}
use Rattle.mx_verify.specs.declared.merged.merged.NoBook.{NoBook}
use Rattle.mx_verify.specs.declared.merged.merged.NoBook.TheVariants.{Damaged, Differs}
use Rattle.mx_verify.specs.merged.Merging.{merging, without_command}

pub given_on : (book new : List Entry) (coming later : List EntryRow) (entry : EntryRow) (rest next : Rest) (command : Entry) (all : Result (List Entry) NoBook) → coming ≡ entry ∷ later → entry.seq ≡ length book + 1 → take_command book entry rest ≡ Some (command, next)
    → judge book command ≡ New → new ≡ book ++ command ∷ [] → merging book coming rest ≡ all → merging new later next ≡ all
given_on book new coming later entry rest next command all is number taken judged entered given =
    ap (λ b. merging b later next) entered
    ∙ sym (ap (λ b. cond b (option_map_or (λ (n : Entry × Rest). cond (is_new (judge book n.0)) (merging (book ++ n.0 ∷ []) later n.1) (Err (Damaged entry.kind))) (take_command book entry rest) (Err (without_command entry rest))) (Err Differs)) (eq-eqb entry.seq (length book + 1) number)
    ∙ ap (λ o. option_map_or (λ (n : Entry × Rest). cond (is_new (judge book n.0)) (merging (book ++ n.0 ∷ []) later n.1) (Err (Damaged entry.kind))) o (Err (without_command entry rest))) taken
    ∙ ap (λ v. cond (is_new v) (merging (book ++ command ∷ []) later next) (Err (Damaged entry.kind))) judged)
    ∙ ap (λ es. merging book es rest) (sym is) ∙ given
