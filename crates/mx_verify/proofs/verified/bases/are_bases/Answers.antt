use Rattle.std.proofs.Common.{Bool, IsPermutation, sym, subst}
use Rattle.std.specs.Bool.{Decides}
use Rattle.mx_book.specs.Book.{IsBook}
use Rattle.mx_registers.specs.kept.Bases.{base_rows}
use Rattle.mx_verify.proofs.VerifiedProofs.KeyLemmas.{tells, tells_not}
use Rattle.mx_verify.proofs.verified.bases.are_bases.Goals as goal

pub returns-in_default : goal.returns-in_default
returns-in_default c = λ o l. tells_not c.args.book.now (subst IsBook c.plain.ensures c.len.ensures.book) c.args.rows.now (rw c.in_default.is at c.in_ok-keys.ensures)

pub returns : goal.returns
returns c = λ o l.
    let found = rw c.in-Some.is at c.in_ok-keys.ensures in
    subst (λ (same : Bool). Decides same (IsPermutation c.args.rows.now (base_rows c.args.book.now))) (sym c.are_right.ensures)
    (tells c.args.book.now (subst IsBook c.plain.ensures c.len.ensures.book) c.args.openings.now c.args.lines.now c.args.rows.now c.in-Some.keys o l found.0 found.1)
