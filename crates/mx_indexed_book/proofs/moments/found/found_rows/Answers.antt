use Rattle.std.proofs.Common.{ap, subst, ◌∙◌, ◌≡◌}
use Rattle.std.specs.Prelude.{map}
use Rattle.mx_book.specs.Book.{IsBook}
use Rattle.mx_registers.specs.late.Found.{found_rows}
use Rattle.mx_indexed_book.specs.moments.Found.{found_row}
use Rattle.mx_indexed_book.proofs.MomentsProofs.DoneLemmas.{made}
use Rattle.mx_indexed_book.proofs.MomentsProofs.FoundLemmas.{found_of_deferrals}
use Rattle.mx_indexed_book.proofs.moments.found.found_rows.Goals as goal

pub returns : goal.returns
returns c =
    let book = c.args.book.now in
    let all = ap (map (found_row book)) c.requires.deferrals ∙ found_of_deferrals book (subst IsBook c.plain.ensures c.len.ensures.book) in
    made (λ rows. rows.items ≡ map (found_row book) c.args.deferrals.now) (λ rows. rows.items ≡ found_rows book) c.rows_of.result c.rows_of.ensures (λ rows is. is ∙ all)
