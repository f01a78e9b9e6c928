-- Of all that a book accomplishes, rows and last bases are those of the definitions.
use Rattle.std.proofs.Common.{refl, sym, ap, ◌∙◌, ◌≡◌, ℕ, List, Option, Some, None}
use Rattle.std.specs.Prelude.{Result, Ok, Err, IfOk, IsPermutation, filter}
use Rattle.std.specs.BTreeMap.{BTreeMap, get}
use Rattle.mx_base.specs.declared.amounts.Base.{Base}
use Rattle.mx_base.specs.declared.rows.rows.DoneRow.{DoneRow}
use Rattle.mx_book.specs.commands.Act.{Entry}
use Rattle.mx_book.specs.declared.commands.item.Item.{Item}
use Rattle.mx_book.specs.Base.{base}
use Rattle.mx_book.specs.Book.{IsBook}
use Rattle.mx_registers.specs.Names.{item_at}
use Rattle.mx_registers.specs.late.Done.{done_rows, done_rows_of, is_done_of, last_base}
use Rattle.mx_registers.proofs.LateProofs.DoneBecomes.{no_rows_of}
use Rattle.mx_registers.proofs.LateProofs.DoneLate.{last_base_done}
use Rattle.mx_registers.proofs.LateProofs.DoneOrder.{done_decided}
use Rattle.mx_registers.proofs.LateProofs.DoneTable.{rows_of_task}
use Rattle.mx_indexed_book.specs.declared.moments.done.Accomplished.{Accomplished}
use Rattle.mx_indexed_book.specs.moments.Done.{AreDone, accomplished, is_said_of, said_chain, task_cmp}
use Rattle.mx_indexed_book.proofs.MomentsProofs.SaidLemmas.{task_said}

module _ (book : List Entry) (b : IsBook book) (said : List Accomplished) (rows : List DoneRow) (bases : BTreeMap (ℕ × List ℕ) Base) (is : said ≡ accomplished book) (are : AreDone book said rows bases) where
  own_rows : (number : ℕ) (item : Item) (id : List ℕ) → item_at book number ≡ Some item → filter (is_done_of number id) rows ≡ done_rows_of book number item id
  own_rows number item id there = are.rows_are number item id there ∙ ap (λ xs. said_chain book item None (filter (is_said_of number id) xs)) is ∙ task_said book b number item id there

  -- the rows are those of the book, in some order
  pub rows_permuted : IsPermutation rows (done_rows book)
  rows_permuted = done_decided rows (done_rows book) (λ number id. at number id (item_at book number) refl)
    where
      at : (number : ℕ) (id : List ℕ) (o : Option Item) → item_at book number ≡ o → filter (is_done_of number id) rows ≡ filter (is_done_of number id) (done_rows book)
      at number id (Some item) there = own_rows number item id there ∙ sym (rows_of_task book number item id b there)
      at number id None none = are.no_others number id none ∙ sym (no_rows_of book number id b none)

  -- the last base of each task is that of the book
  pub last_bases : (number : ℕ) (item : Item) (id : List ℕ) → item_at book number ≡ Some item → get task_cmp bases (number, id) ≡ base book item id
  last_bases number item id there = are.bases_are number id ∙ ap last_base (own_rows number item id there) ∙ last_base_done book number item id

-- what holds of what was made follows from what is known of it
pub made : {X E : Type 0} (P Q : X → Type 0) (r : Result X E) → IfOk r P → ((x : X) → P x → Q x) → IfOk r Q
made P Q (Ok x) h f = f x h
made P Q (Err e) h f = tt
