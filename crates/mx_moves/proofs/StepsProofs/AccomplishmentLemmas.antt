-- The step that writes the accomplishments of one item in place of its last bases: what the tables stand for behind it, and why the accomplishments of a book can be written.
use Rattle.std.proofs.Common.{◌≡◌, ℕ, true, not, List, ◌++◌, map, filter, All, nat_eq, Some, refl, sym, ap, subst, ◌∙◌, arith}
use Rattle.std.specs.List.Sorted.{IsPermutation}
use Rattle.std.proofs.lemmas.List.Elements.{All-filter, All-nil}
use Rattle.std.proofs.lemmas.List.Sorted.{All-permutation, IsPermutation-refl, IsPermutation-sym}
use Rattle.sqlite.specs.Tree.{Trees}
use Rattle.mx_book.specs.commands.Act.{Entry}
use Rattle.mx_base.specs.declared.rows.rows.BaseRow.{BaseRow}
use Rattle.mx_base.specs.declared.rows.rows.DoneRow.{DoneRow}
use Rattle.mx_base.specs.rows.Rows.{FitsBase, FitsDeferral, FitsDone}
use Rattle.mx_base.specs.declared.point.Point.{Point}
use Rattle.mx_registers.specs.Registers.{sector_rows}
use Rattle.mx_registers.specs.kept.Spans.{span_rows}
use Rattle.mx_registers.specs.late.Done.{done_rows}
use Rattle.mx_registers.specs.points.Points.{moving_from, next_mark, next_point_to}
use Rattle.mx_registers.specs.points.Tables.{bases_2, deferrals_2, done_3, rows_at, stands_there}
use Rattle.mx_registers.proofs.LateProofs.DoneFits.{done_fit}
use Rattle.mx_registers.proofs.PointsProofs.MoveLemmas.{bases_left, done_written}
use Rattle.mx_registers.proofs.PointsProofs.NextLemmas.{bases_next_left, done_next}
use Rattle.mx_registers.proofs.PointsProofs.OneBook.{absent_none, all_there}
use Rattle.mx_layout.specs.TableName.{TableName}
use Rattle.mx_layout.specs.declared.fault.Table.TheVariants as table
use Rattle.mx_layout.specs.kept.Cells.{kept_base2, kept_done3}
use Rattle.mx_layout.proofs.KeptProofs.OntoLemmas.{on_top_keeps}
use Rattle.mx_table_rows.specs.totals.Done.{IsDated}
use Rattle.mx_table_rows.proofs.ChosenProofs.EqualLemmas.{equal_numbers}
use Rattle.mx_book_tables.specs.stands.Family.{rows_of, rows_given, is_at, Fit}
use Rattle.mx_book_tables.specs.stands.Stands.{StandsAt}
use Rattle.mx_moves.proofs.RowLemmas.{Keeps, less_keeps}
use Rattle.mx_moves.specs.steps.Accomplishments.{WritesAccomplishments, accomplishments_of, accomplishments_written, is_of_item}
use Rattle.mx_moves.proofs.StepsProofs.BatchLemmas.{batch_stands, one_point, point_keeps}
use Rattle.mx_moves.proofs.StepsProofs.DeferralLemmas.{deferrals_fit}
use Rattle.mx_moves.proofs.StepsProofs.ThingLemmas.{more_become, next_is, others_become, point_fits}
use Rattle.mx_moves.proofs.StepsProofs.WrittenLemmas.{registers_fit_with}

-- the point in this step
abbrev writing : ℕ → Point
writing mark = moving_from 2 2 mark

-- all accomplishments of a book fit the columns, since its registers do
done_fits : (mark : ℕ) (trees : Trees) (book : List Entry) → StandsAt (writing mark) trees book → All FitsDone (done_rows book)
done_fits mark trees book stands =
    let is_book = stands.rows.is_book in
    let left : All FitsDeferral (rows_at deferrals_2 (writing mark) book) = subst (All FitsDeferral) (sym (absent_none deferrals_2 (writing mark) book refl)) (All-nil FitsDeferral) in
    let deferred = deferrals_fit (writing mark) book is_book (stands.rows.fit table.Defect3 refl) left in
    done_fit book is_book (registers_fit_with (writing mark) trees book stands refl refl (all_there (sector_rows book)) (all_there (span_rows book)) deferred)

module _ (mark item : ℕ) (rows : List DoneRow) (book : List Entry) (due : next_mark (writing mark) book ≡ Some item) (are : IsPermutation rows (accomplishments_of book item)) where
  -- the last bases of the other items
  bases_are : rows_at bases_2 (writing item) book ≡ filter (λ (row : BaseRow). not (nat_eq row.item item)) (rows_at bases_2 (writing mark) book)
  bases_are = bases_left book mark item (bases_next_left book mark item due)

  bases_become : IsPermutation (filter (λ row. not (is_of_item item row)) (map kept_base2.as_cells (rows_at bases_2 (writing mark) book))) (map kept_base2.as_cells (rows_at bases_2 (writing item) book))
  bases_become = others_become kept_base2 (is_of_item item) (λ (row : BaseRow). nat_eq row.item item) (λ row. equal_numbers row.item item) _ _ bases_are

  -- the accomplishments of the item with those from before
  done_become : IsPermutation (map kept_done3.as_cells rows ++ map kept_done3.as_cells (rows_at done_3 (writing mark) book)) (map kept_done3.as_cells (rows_at done_3 (writing item) book))
  done_become = more_become kept_done3 rows (accomplishments_of book item) (rows_at done_3 (writing mark) book) (rows_at done_3 (writing item) book) are (done_written book mark item (done_next book mark item due))

  rows_become : (name : TableName) → is_at (writing item) name ≡ true → IsPermutation (accomplishments_written rows (writing item) name (rows_given (writing mark) book name)) (rows_given (writing item) book name)
  rows_become table.Office there = one_point (writing mark) (writing item)
  rows_become table.Base2 there = bases_become
  rows_become table.Done3 there = done_become
  rows_become name there = IsPermutation-refl (rows_given (writing mark) book name)

  rows_fit : (trees : Trees) → StandsAt (writing mark) trees book → (name : TableName) → is_at (writing item) name ≡ true → Fit (rows_of name) (writing item) book
  rows_fit trees stands table.Base2 there = subst (All FitsBase) (sym bases_are) (All-filter (λ (row : BaseRow). not (nat_eq row.item item)) FitsBase (rows_at bases_2 (writing mark) book) (stands.rows.fit table.Base2 refl))
  rows_fit trees stands table.Done3 there = All-filter (λ (row : DoneRow). stands_there done_3 (writing item) row.item) FitsDone (done_rows book) (done_fits mark trees book stands)
  rows_fit trees stands name there = stands.rows.fit name there

same_tables : (mark item : ℕ) (name : TableName) → is_at (writing item) name ≡ true → is_at (writing mark) name ≡ true
same_tables mark item table.Office there = refl
same_tables mark item name there = there

written_keeps : (rows : List DoneRow) (to : Point) (name : TableName) → Keeps (accomplishments_written rows to) name
written_keeps rows to name xs ys same = less_keeps kept_base2 (is_of_item to.mark) name _ _ (on_top_keeps kept_done3 rows name _ _ (point_keeps to name xs ys same))

-- the tables stand for the same book, at the point of the item
pub written_accomplishments_stand : (mark item : ℕ) (rows : List DoneRow) (at to : Point) (book : List Entry) (old new : Trees) → at ≡ moving_from 2 2 mark → (next_mark at book ≡ Some item) × IsPermutation rows (accomplishments_of book item) → StandsAt at old book → WritesAccomplishments item rows to old new
    → (to ≡ next_point_to 3 at book) × StandsAt to new book
written_accomplishments_stand mark item rows at to book old new here due stood it =
    let stands = subst (λ q. StandsAt q old book) here stood in
    let is_book = stands.rows.is_book in
    let next : next_mark (writing mark) book ≡ Some item = ap (λ q. next_mark q book) (sym here) ∙ due.0 in
    batch_stands 3 (writing mark) (writing item) (accomplishments_written rows) (point_fits 3 2 2 mark item (omega arith) (omega arith) (omega arith) refl book is_book next (omega arith) (omega arith))
    (same_tables mark item) (written_keeps rows (writing item)) at to book old new (rows_fit mark item rows book next due.1 old stands) (rows_become mark item rows book next due.1) here
    (next_is 3 2 2 mark item (omega arith) (omega arith) (omega arith) refl book is_book next) it.point stands it.made

-- their days are in the calendar
pub written_accomplishments_dated : (mark item : ℕ) (rows : List DoneRow) (at : Point) (book : List Entry) (trees : Trees) → at ≡ moving_from 2 2 mark → IsPermutation rows (accomplishments_of book item) → StandsAt at trees book → All IsDated rows
written_accomplishments_dated mark item rows at book trees here are stood =
    let fits = done_fits mark trees book (subst (λ q. StandsAt q trees book) here stood) in
    All-permutation IsDated _ rows (IsPermutation-sym _ _ are) (All-filter (λ (row : DoneRow). nat_eq row.item item) IsDated (done_rows book) (λ i d low. record { value = (fits i d low).value.day; base = (fits i d low).base.day }))
