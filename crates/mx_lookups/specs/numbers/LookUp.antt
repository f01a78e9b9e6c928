-- What a look-up inside a transaction promises.
use Rattle.std.specs.Prelude.{◌≡◌, List, Result}
use Rattle.sqlite.specs.Held.{state}
use Rattle.sqlite.specs.Store.{Ghosts}
use Rattle.sqlite.specs.Tree.{Trees}
use Rattle.sqlite.specs.declared.transaction.Transaction.{Transaction}
use Rattle.mx_base.specs.declared.point.Point.{Point}
use Rattle.mx_book.specs.commands.Act.{Entry}
use Rattle.mx_layout.specs.declared.fault.TableFault.{TableFault}
use Rattle.mx_lookups.specs.numbers.AnyRows.{ReadsAnyAt}
use Rattle.mx_lookups.specs.numbers.Reads.{ReadsAt, later_point, rows_point}
use Rattle.mx_lookups.specs.numbers.Told.{Damage, TellsDamageAt}

-- At the point what is answered is this of a book and this of any rows, and a table is told damaged only for this reason.
pub record IsLookUpAt {S V : Type 0} (at : Point) (g : Ghosts S) (Is : List Entry → V → Type 0) (IsOfRows : Trees → V → Type 0) (Why : Damage) (old new : Transaction S) (result : Result V TableFault) : Type 0 where
  -- it is the transaction of the same connection
  pub same_reference : new.conn.ghost_name ≡ old.conn.ghost_name
  -- of the book that the tables stand for, none of which is damaged then; and what is left, which is all that there was
  pub reads : ReadsAt at Is (state g old.conn.now) (state g new.conn.now) result
  -- of whichever rows the tables have
  pub any_rows : ReadsAnyAt at IsOfRows (state g old.conn.now) (state g new.conn.now) result
  pub damage : TellsDamageAt at Why (state g old.conn.now) (state g new.conn.now) result

-- so at the point at which rows are looked up
abbrev pub IsLookUp : {S V : Type 0} → Ghosts S → (List Entry → V → Type 0) → (Trees → V → Type 0) → Damage → Transaction S → Transaction S → Result V TableFault → Type 0
IsLookUp = IsLookUpAt rows_point

-- It is such a look-up at the point at which rows are looked up, and at layout 3.
pub record LooksUp {S V : Type 0} (g : Ghosts S) (Is : List Entry → V → Type 0) (IsOfRows : Trees → V → Type 0) (Why : Damage) (old new : Transaction S) (result : Result V TableFault) : Type 0 where
  pub now : IsLookUp g Is IsOfRows Why old new result
  pub later : IsLookUpAt later_point g Is IsOfRows Why old new result
