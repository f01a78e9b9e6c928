use Rattle.std.proofs.Common.{subst, ◌≡◌, ℕ, List}
use Rattle.std.specs.Prelude.{IfSome, IsPermutation}
use Rattle.std.specs.BTreeMap.{get}
use Rattle.mx_book.specs.due.Due.{IsBase}
use Rattle.mx_book.specs.Base.{base}
use Rattle.mx_book.specs.Book.{IsBook}
use Rattle.mx_registers.specs.late.Done.{done_rows}
use Rattle.mx_indexed_book.specs.declared.moments.done.Done.{Done}
use Rattle.mx_indexed_book.specs.moments.Done.{AreDone, task_cmp}
use Rattle.mx_indexed_book.proofs.MomentsProofs.DoneLemmas.{last_bases, made, rows_permuted}
use Rattle.mx_indexed_book.proofs.MomentsProofs.WalkLemmas.{base_bounded}
use Rattle.mx_indexed_book.proofs.moments.done.done_rows.Goals as goal

pub returns-clause-rows : goal.returns-clause-rows
returns-clause-rows c = λ is.
    let book = c.args.book.now in
    let b = subst IsBook c.plain.ensures c.len.ensures.book in
    made (λ (done : Done). AreDone book c.args.said.now done.rows.items done.bases) (λ (done : Done). IsPermutation done.rows.items (done_rows book)) c.all_done.result c.all_done.ensures
    (λ done are. rows_permuted book b c.args.said.now done.rows.items done.bases is are)

pub returns-clause-bases : goal.returns-clause-bases
returns-clause-bases c = λ number item id is there.
    let book = c.args.book.now in
    let b = subst IsBook c.plain.ensures c.len.ensures.book in
    made (λ (done : Done). AreDone book c.args.said.now done.rows.items done.bases) (λ (done : Done). get task_cmp done.bases (number, id) ≡ base book item id) c.all_done.result c.all_done.ensures
    (λ done are. last_bases book b c.args.said.now done.rows.items done.bases is are number item id there)

pub returns-clause-bounded : goal.returns-clause-bounded
returns-clause-bounded c =
    made (λ (done : Done). AreDone c.args.book.now c.args.said.now done.rows.items done.bases) (λ (done : Done). (number : ℕ) (id : List ℕ) → IfSome (get task_cmp done.bases (number, id)) IsBase) c.all_done.result c.all_done.ensures
    (λ done are. λ number id. base_bounded c.args.book.now c.args.said.now done.rows.items done.bases number id are)
