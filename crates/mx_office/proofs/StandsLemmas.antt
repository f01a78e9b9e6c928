-- The tables of a book, at the point of the office.
use Rattle.std.proofs.Common.{IsTrue, ◌≡◌, inr, List, [], ◌∷◌, refl, sym, ap, subst, arith}
use Rattle.std.specs.List.Sorted.{IsPermutation}
use Rattle.sqlite.specs.Order.{Row}
use Rattle.sqlite.specs.Schema.{Schema}
use Rattle.sqlite.specs.State.{State, HasCleanDisk}
use Rattle.sqlite.specs.Tree.{Trees}
use Rattle.mx_book.specs.commands.Act.{Entry}
use Rattle.mx_base.specs.rows.Rising.{IsFrom}
use Rattle.mx_base.proofs.RowsProofs.SortedLemmas.{sorted_once}
use Rattle.mx_layout.specs.Contents.{rows_in}
use Rattle.mx_layout.specs.declared.fault.Table.TheVariants as table
use Rattle.mx_layout.specs.Making.{IsEmptyIn}
use Rattle.mx_layout.specs.Point.{point_cells, HoldsPoint}
use Rattle.mx_book_tables.proofs.StandsProofs.PointLemmas.{newest_is_layout}
use Rattle.mx_layout.specs.Tables.{office, HasOffice}
use Rattle.mx_book_tables.proofs.StandsProofs.EmptyLemmas.{empty_stands as new_tables_stand}
use Rattle.mx_book_tables.proofs.StandsProofs.RowLemmas.{one_book}
use Rattle.mx_lookups.specs.numbers.Reads.{HasTablesOfRows, StandsFor}
use Rattle.mx_lookups.proofs.NumbersProofs.TableLemmas.{tables_at}
use Rattle.mx_apply.specs.writing.Written.{IsSettled}
use Rattle.mx_apply.proofs.WritingProofs.ThereLemmas.{settled_at}
use Rattle.mx_office.specs.Layout.{office_point, office_schema}
use Rattle.mx_office.specs.Stands.{Rests, RestsIn, Stands}

-- tables stand for at most one book
pub stands_once : (trees : Trees) (one other : List Entry) → Stands trees one → Stands trees other → one ≡ other
stands_once trees one other a b = one_book office_point trees one other a.rows b.rows

-- tables that were just made are those of no entry
pub empty_stands : (trees : Trees) → IsEmptyIn office_point.layout trees → Stands trees []
empty_stands = new_tables_stand office_point.layout newest_is_layout

one_row : (row : Row) (rows : List Row) → IsPermutation (row ∷ []) rows → rows ≡ row ∷ []
one_row row rows same = sym (sorted_once (λ _. 0) 0 0 1 (row ∷ []) rows (omega arith, omega arith) (flat rows) same)
  where
    flat : (rows : List Row) → IsFrom (λ (_ : Row). 0) 0 rows
    flat [] = tt
    flat (r ∷ rows) = (omega arith, flat rows)

-- the tables of a book are at the point of the office
stands_point : (trees : Trees) (book : List Entry) → Stands trees book → rows_in office trees ≡ point_cells office_point ∷ []
stands_point trees book stands = one_row (point_cells office_point) (rows_in office trees) (stands.rows.tables table.Office refl)

-- a file whose tables rest as those of a book is at that point
pub rests_point : (s : State) (book : List Entry) → Rests s book → HasCleanDisk s → IsTrue s.is_open → HoldsPoint office_point s.now
rests_point s book rests clean is_open = ((_, ap (λ (schema : Schema). schema.tables) (rests.schema clean is_open)), stands_point s.now.trees book (rests.tables clean is_open))

-- look-ups find the rows of the book, in whatever schema, where the connection is open
pub rests_found : (schema : Schema) → IsSettled schema → (s : State) (book : List Entry) → RestsIn schema s book → HasCleanDisk s → IsTrue s.is_open → StandsFor s book
rests_found schema settled s book rests clean is_open = record { schema = subst HasTablesOfRows (sym (rests.schema clean is_open)) settled.tables; rows = (rests.tables clean is_open).rows }

-- `office` is its first table
pub office_first : (schema : Schema) → IsSettled schema → HasOffice schema
office_first schema settled = (_, ap (λ (s : Schema). s.tables) (tables_at schema settled.tables).is)

-- the schema of the program is one
pub own_settled : IsSettled office_schema
own_settled = settled_at office_schema refl
