-- The rows of defects by those of their deferrals are those of the book.
use Rattle.std.proofs.Common.{refl, sym, subst, ap, ◌∙◌, ◌≡◌, ℕ, List, [], ◌∷◌, ◌++◌, true, append_assoc}
use Rattle.std.specs.Prelude.{is_some, map}
use Rattle.std.specs.Option.{option_and_then}
use Rattle.mx_base.specs.declared.rows.rows.Deferral3Row.{Deferral3Row}
use Rattle.mx_base.specs.declared.rows.rows.DeferralRow.{DeferralRow}
use Rattle.mx_book.specs.commands.Act.{Act, Entry, Deferred}
use Rattle.mx_book.specs.declared.commands.item.Item.TheVariants.{Airframe}
use Rattle.mx_book.specs.Book.{IsBook, is_book_from, is_new}
use Rattle.mx_book.specs.Judge.{judge}
use Rattle.mx_book.specs.Life.{life_at, use_or_none}
use Rattle.mx_book.specs.Register.{aircraft}
use Rattle.mx_book.proofs.JudgeLemmas.{both_true}
use Rattle.mx_registers.specs.Registers.{deferral_row, deferral_rows, deferrals_by, gives_by, next}
use Rattle.mx_registers.specs.kept.Items.{number_of_tail}
use Rattle.mx_registers.specs.late.Found.{cycles_at, found_by, found_rows}
use Rattle.mx_registers.proofs.NameLemmas.{item_known}
use Rattle.mx_registers.proofs.NewLemmas.{deferred_is_known}
use Rattle.mx_registers.proofs.KeptProofs.KnownLemmas.{aircraft_kept}
use Rattle.mx_registers.proofs.KeptProofs.NumbersThere.{tail_number_kept}
use Rattle.mx_indexed_book.specs.moments.Found.{cycles_reached, found_row}

-- an aircraft that was known before has the number still, and its cycles are those of the airframe
own_cycles : (book before more : List Entry) (tail : List ℕ) (moment : ℕ) → before ++ more ≡ book → is_some (aircraft before tail) ≡ true → cycles_reached book (number_of_tail before tail) moment ≡ cycles_at book tail moment
own_cycles book before more tail moment whole known =
    let there : is_some (aircraft book tail) ≡ true = subst (λ (es : List Entry). is_some (aircraft es tail) ≡ true) whole (ap is_some (aircraft_kept before more tail known) ∙ known) in
    let same : number_of_tail before tail ≡ number_of_tail book tail = sym (tail_number_kept before more tail known) ∙ ap (λ (es : List Entry). number_of_tail es tail) whole in
    ap (λ n. cycles_reached book n moment) same
    ∙ ap (λ o. (use_or_none (option_and_then (λ item. life_at book item moment) o)).cycles) (item_known book (Airframe tail) there)

abbrev row_with : DeferralRow → ℕ → Deferral3Row
row_with deferral cycles = record { deferral = deferral; found_cycles = cycles }

found_from : (book before later : List Entry) → is_book_from before later ≡ true → before ++ later ≡ book → map (found_row book) (gives_by deferrals_by before later) ≡ gives_by (found_by book) before later
found_from book before [] h whole = refl
found_from book before (x ∷ later) h whole =
    let both = both_true (is_new (judge before x)) (is_book_from (before ++ x ∷ []) later) h in
    at x.act both.0 (found_from book (before ++ x ∷ []) later both.1 (append_assoc before (x ∷ []) later ∙ whole))
  where
    at : (act : Act) → is_new (judge before (record { doc = x.doc; act = act })) ≡ true
        → map (found_row book) (gives_by deferrals_by (before ++ x ∷ []) later) ≡ gives_by (found_by book) (before ++ x ∷ []) later
        → map (found_row book) (deferrals_by before act ++ gives_by deferrals_by (before ++ x ∷ []) later) ≡ found_by book before act ++ gives_by (found_by book) (before ++ x ∷ []) later
    at (Deferred d) is rest =
        ap (λ n. row_with (deferral_row (next before) (number_of_tail before d.tail) d) n ∷ map (found_row book) (gives_by deferrals_by (before ++ x ∷ []) later)) (own_cycles book before (x ∷ later) d.tail d.moment whole (deferred_is_known before x.doc d is))
        ∙ ap (λ l. row_with (deferral_row (next before) (number_of_tail before d.tail) d) (cycles_at book d.tail d.moment) ∷ l) rest
    at _ is rest = rest

pub found_of_deferrals : (book : List Entry) → IsBook book → map (found_row book) (deferral_rows book) ≡ found_rows book
found_of_deferrals book b = found_from book [] book b.judged refl
