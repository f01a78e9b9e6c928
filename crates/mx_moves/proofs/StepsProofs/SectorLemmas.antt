-- The step that moves sectors: what the tables stand for behind it, and why tables that stand for a book are whole.
use Rattle.std.proofs.Common.{◌≡◌, ◌≢◌, inl, inr, ℕ, true, [], All, None, refl, sym, ap, subst, ◌∙◌, arith}
use Rattle.std.specs.Prelude.{List}
use Rattle.std.specs.List.Sorted.{IsPermutation}
use Rattle.std.proofs.lemmas.List.Elements.{All-append, All-drop, All-take}
use Rattle.std.proofs.lemmas.List.Sorted.{IsPermutation-refl}
use Rattle.sqlite_keyed.proofs.ListLemmas.{IsPermutation-same}
use Rattle.sqlite.specs.Tree.{Trees}
use Rattle.mx_book.specs.commands.Act.{Entry}
use Rattle.mx_book.specs.Book.{IsBook}
use Rattle.mx_base.specs.declared.rows.rows.SectorRow.{SectorRow}
use Rattle.mx_base.specs.rows.Rows.{FitsSector}
use Rattle.mx_base.specs.declared.point.Point.{Point}
use Rattle.mx_registers.specs.Registers.{sector_rows}
use Rattle.mx_registers.specs.declared.points.points.TheConstants.{NEWEST_LAYOUT}
use Rattle.mx_registers.specs.points.Moves.{last_moved, sectors_next, sectors_mark}
use Rattle.mx_registers.specs.points.Points.{moving, next_mark, next_point}
use Rattle.mx_registers.specs.points.Tables.{rows_at, sectors_1, sectors_2}
use Rattle.mx_registers.proofs.RegisterLemmas.{sector_rows-rising}
use Rattle.mx_registers.proofs.PointsProofs.PointLemmas.{sectors_moved as moved_law}
use Rattle.mx_registers.proofs.PointsProofs.StepLemmas.{sectors_next_point}
use Rattle.mx_layout.specs.TableName.{TableName}
use Rattle.mx_layout.specs.declared.fault.Table.TheVariants as table
use Rattle.mx_layout.specs.Contents.{rows_in}
use Rattle.mx_layout.specs.Tables.{sector1}
use Rattle.mx_layout.specs.kept.Cells.{kept_sector1, kept_sector2}
use Rattle.mx_layout.proofs.KeptProofs.Lawful.{sector1_lawful}
use Rattle.mx_book_tables.specs.stands.Family.{rows_of, rows_given, is_at, Fit}
use Rattle.mx_book_tables.specs.stands.Stands.{StandsAt}
use Rattle.mx_moves.specs.steps.Sectors.{sectors_moved, MovesSectors, IsOldOff}
use Rattle.mx_moves.specs.steps.Rows.{MakesRows}
use Rattle.mx_moves.proofs.StepsProofs.BatchLemmas.{above, batch_keeps, batch_stands, by_first_of, new_table, none_damaged, none_next, none_passed, old_table, one_point, point_fits, up_to_number}
use Rattle.mx_moves.proofs.StepsProofs.PageLemmas.{first_are, rises_left}

abbrev pub seq_of : SectorRow → ℕ
seq_of row = row.seq

left_fit : (mark : ℕ) (trees : Trees) (book : List Entry) → StandsAt (moving 1 mark) trees book → All FitsSector (rows_at sectors_1 (moving 1 mark) book)
left_fit mark trees book stands = stands.rows.fit table.Sector1 refl

-- the first rows of the old table are those that the next commit moves
first_next : (mark : ℕ) (to : Point) (old new : Trees) (book : List Entry) → StandsAt (moving 1 mark) old book → (it : MovesSectors mark to old new) → it.rows ≡ sectors_next book mark
first_next mark to old new book stands it =
    first_are kept_sector1 sector1_lawful 64 1 _ old (rows_at sectors_1 (moving 1 mark) book) it.rows it.first (stands.rows.tables table.Sector1 refl)
    (rises_left seq_of (above seq_of mark) 1 _ (sector_rows book) (sector_rows-rising book stands.rows.is_book.shaped)) (left_fit mark old book stands) it.fit

rows_become : (mark : ℕ) (book : List Entry) → IsBook book → (name : TableName) → is_at (moving 1 (sectors_mark book mark)) name ≡ true
    → IsPermutation (sectors_moved (sectors_next book mark) (moving 1 (sectors_mark book mark)) name (rows_given (moving 1 mark) book name)) (rows_given (moving 1 (sectors_mark book mark)) book name)
rows_become mark book is_book table.Office there = one_point (moving 1 mark) (moving 1 (sectors_mark book mark))
rows_become mark book is_book table.Sector1 there = IsPermutation-same _ _ (old_table kept_sector1 (λ row n. up_to_number row.seq n) mark (sector_rows book))
rows_become mark book is_book table.Sector2 there =
    new_table kept_sector2 (sectors_next book mark) (rows_at sectors_2 (moving 1 mark) book) (rows_at sectors_2 (moving 1 (sectors_mark book mark)) book) (moved_law book mark is_book).brought
rows_become mark book is_book name there = IsPermutation-refl (rows_given (moving 1 mark) book name)

rows_fit : (mark : ℕ) (trees : Trees) (book : List Entry) → StandsAt (moving 1 mark) trees book → (name : TableName) → is_at (moving 1 (sectors_mark book mark)) name ≡ true → Fit (rows_of name) (moving 1 (sectors_mark book mark)) book
rows_fit mark trees book stands table.Sector1 there =
    subst (All FitsSector) (sym (moved_law book mark stands.rows.is_book).taken) (All-drop FitsSector 64 (rows_at sectors_1 (moving 1 mark) book) (left_fit mark trees book stands))
rows_fit mark trees book stands table.Sector2 there =
    subst (All FitsSector) (sym (moved_law book mark stands.rows.is_book).brought)
    (All-append FitsSector (rows_at sectors_2 (moving 1 mark) book) (sectors_next book mark) (stands.rows.fit table.Sector2 refl) (All-take FitsSector 64 (rows_at sectors_1 (moving 1 mark) book) (left_fit mark trees book stands)))
rows_fit mark trees book stands name there = stands.rows.fit name there

same_tables : (mark last : ℕ) (name : TableName) → is_at (moving 1 last) name ≡ true → is_at (moving 1 mark) name ≡ true
same_tables mark last table.Office there = refl
same_tables mark last name there = there

-- the tables stand for the same book, at the next point
pub sectors_stand : (mark : ℕ) (at to : Point) (book : List Entry) (old new : Trees) → at ≡ moving 1 mark → next_mark at book ≢ None → StandsAt at old book → MovesSectors mark to old new
    → (to ≡ next_point at book) × StandsAt to new book
sectors_stand mark at to book old new here due stood it =
    let stands = subst (λ q. StandsAt q old book) here stood in
    let is_book = stands.rows.is_book in
    let next = sectors_next book mark in
    let last = sectors_mark book mark in
    let some : next ≢ [] = λ none. due (ap (λ q. next_mark q book) here ∙ none_next seq_of mark (sector_rows book) none) in
    let page = first_next mark to old new book stands it in
    let is : to ≡ moving 1 last = it.point ∙ ap (λ rows. moving 1 (last_moved seq_of mark rows)) page in
    batch_stands NEWEST_LAYOUT (moving 1 mark) (moving 1 last) (sectors_moved next) (point_fits seq_of 1 mark (sector_rows book) (omega arith) stands.rows.point.2 (λ i d low. (left_fit mark old book stands i d low).seq))
    (same_tables mark last) (batch_keeps kept_sector1 kept_sector2 next (moving 1 last)) at to book old new (rows_fit mark old book stands) (rows_become mark book is_book) here
    (by_first_of (next_point (moving 1 mark) book ≡ moving 1 last) next some (λ row rest e. sectors_next_point book mark row rest is_book e)) is stands (subst (λ rows. MakesRows (sectors_moved rows to) to old new) page it.made)

-- a table that stands for a book is whole
pub sectors_whole : (mark : ℕ) (at : Point) (book : List Entry) (name : TableName) (trees : Trees) → at ≡ moving 1 mark → next_mark at book ≢ None → StandsAt at trees book → IsOldOff mark name trees → ⊥
sectors_whole mark at book name trees here due stood off =
    let stands = subst (λ q. StandsAt q trees book) here stood in
    let is_book = stands.rows.is_book in
    elim off.1 [
      | inl damaged ↦ none_damaged (moving 1 mark) trees book table.Sector1 stands refl damaged
      | inr other ↦ none_passed kept_sector1 sector1_lawful mark book (sector_rows book) (rows_in sector1 trees) is_book (sector_rows-rising book is_book.shaped) (stands.rows.tables table.Sector1 refl) other.0 other.1 other.2
    ]
