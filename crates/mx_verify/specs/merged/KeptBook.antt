-- A book with what its kept rows are made of.
use Rattle.std.specs.Prelude.{◌≡◌, ℕ, List, Some, IfSome, IsPermutation}
use Rattle.std.specs.BTreeMap.{BTreeMap, get}
use Rattle.std.specs.List.{AllByRecursion}
use Rattle.mx_base.specs.declared.amounts.Base.{Base}
use Rattle.mx_base.specs.declared.rows.rows.DoneRow.{DoneRow}
use Rattle.mx_base.specs.declared.rows.rows.SectorRow.{SectorRow}
use Rattle.mx_base.specs.declared.rows.rows.SpanRow.{SpanRow}
use Rattle.mx_book.specs.commands.Act.{Entry}
use Rattle.mx_book.specs.declared.commands.item.Item.{Item}
use Rattle.mx_book.specs.due.Due.{IsBase}
use Rattle.mx_book.specs.Base.{base}
use Rattle.mx_registers.specs.Names.{item_at}
use Rattle.mx_registers.specs.Registers.{sector_rows}
use Rattle.mx_registers.specs.kept.Spans.{span_rows}
use Rattle.mx_registers.specs.late.Done.{done_rows}
use Rattle.mx_indexed_book.specs.declared.moments.done.Accomplished.{Accomplished}
use Rattle.mx_indexed_book.specs.moments.Done.{IsSayable, accomplished, task_cmp}
use Rattle.mx_indexed_book.specs.moments.Flown.{ArePermuted}

-- this is what the entries of a book accomplish
pub record IsSaid (book : List Entry) (said : List Accomplished) : Type 0 where
  pub all : said ≡ accomplished book
  pub sayable : AllByRecursion (λ (a : Accomplished). IsSayable a.said) said

-- its sectors and its spans, in some order, its accomplishments, in some order too, and the last base of each task of its items
pub record IsKept (book : List Entry) (moments : List SectorRow × List SpanRow) (done : List DoneRow) (bases : BTreeMap (ℕ × List ℕ) Base) : Type 0 where
  pub moments_are : ArePermuted (sector_rows book) (span_rows book) moments
  pub done_are : IsPermutation done (done_rows book)
  pub bases_are : (number : ℕ) (item : Item) (id : List ℕ) → item_at book number ≡ Some item → get task_cmp bases (number, id) ≡ base book item id
  pub bounded : (number : ℕ) (id : List ℕ) → IfSome (get task_cmp bases (number, id)) IsBase
