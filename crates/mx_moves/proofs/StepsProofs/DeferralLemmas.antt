-- The step that moves deferrals: what the tables stand for behind it, and why tables that stand for a book are whole.
use Rattle.std.proofs.Common.{◌≡◌, ◌≢◌, inl, inr, ℕ, true, [], All, None, refl, sym, ap, subst, ◌∙◌, arith}
use Rattle.std.specs.Prelude.{List}
use Rattle.std.specs.List.Sorted.{IsPermutation}
use Rattle.std.proofs.lemmas.List.Elements.{All-append, All-filter, All-map}
use Rattle.std.proofs.lemmas.List.Sorted.{All-permutation, IsPermutation-refl, IsPermutation-sym}
use Rattle.sqlite_keyed.proofs.ListLemmas.{IsPermutation-same}
use Rattle.sqlite.specs.Tree.{Trees}
use Rattle.mx_book.specs.commands.Act.{Entry}
use Rattle.mx_book.specs.Book.{IsBook}
use Rattle.mx_base.specs.declared.rows.rows.DeferralRow.{DeferralRow}
use Rattle.mx_base.specs.declared.rows.rows.Deferral3Row.{Deferral3Row}
use Rattle.mx_base.specs.rows.Rows.{FitsDeferral, FitsDeferral3}
use Rattle.mx_base.specs.declared.point.Point.{Point}
use Rattle.mx_registers.specs.Registers.{deferral_rows, sector_rows}
use Rattle.mx_registers.specs.kept.Spans.{span_rows}
use Rattle.mx_registers.specs.late.Found.{found_rows}
use Rattle.mx_registers.specs.points.Moves.{deferrals_mark, deferrals_next, found_next, last_moved}
use Rattle.mx_registers.specs.points.Points.{moving_from, next_mark, next_point_to}
use Rattle.mx_registers.specs.points.Tables.{deferrals_2, deferrals_3, rows_at, stands_there}
use Rattle.mx_registers.proofs.RegisterLemmas.{deferral_rows-rising}
use Rattle.mx_registers.proofs.LateProofs.FoundBecomes.{found_fit}
use Rattle.mx_registers.proofs.PointsProofs.OneBook.{all_there}
use Rattle.mx_registers.proofs.PointsProofs.PointLemmas.{deferrals_moved as moved_law, found_brought}
use Rattle.mx_registers.proofs.PointsProofs.StandingLemmas.{stand_once}
use Rattle.mx_registers.proofs.PointsProofs.StepLemmas.{deferrals_next_point}
use Rattle.mx_layout.specs.TableName.{TableName}
use Rattle.mx_layout.specs.declared.fault.Table.TheVariants as table
use Rattle.mx_layout.specs.Contents.{rows_in}
use Rattle.mx_layout.specs.Tables.{defect}
use Rattle.mx_layout.specs.kept.Cells.{kept_defect, kept_defect3}
use Rattle.mx_layout.proofs.KeptProofs.Lawful.{defect_lawful}
use Rattle.mx_book_tables.specs.stands.Family.{rows_of, rows_given, is_at, Fit}
use Rattle.mx_book_tables.specs.stands.Stands.{StandsAt}
use Rattle.mx_book_tables.specs.reading.Deferrals.{deferrals_in}
use Rattle.mx_moves.specs.steps.Deferrals.{deferrals_moved, IsDeferralOff, MovesDeferrals}
use Rattle.mx_moves.specs.steps.Rows.{MakesRows}
use Rattle.mx_moves.proofs.StepsProofs.BatchLemmas.{above, batch_keeps, batch_stands, by_first_of, new_table, none_damaged, none_next, none_passed, old_table, one_point, point_fits, up_to_number}
use Rattle.mx_moves.proofs.StepsProofs.PageLemmas.{first_are, rises_left}
use Rattle.mx_moves.proofs.StepsProofs.WrittenLemmas.{registers_fit_with}

abbrev pub seq_of : DeferralRow → ℕ
seq_of row = row.seq

-- the point in this step
abbrev pub moving_deferrals : ℕ → Point
moving_deferrals mark = moving_from 2 1 mark

-- all deferrals fit, since each stands in one of the two tables
pub deferrals_fit : (at : Point) (book : List Entry) → IsBook book → All FitsDeferral3 (rows_at deferrals_3 at book) → All FitsDeferral (rows_at deferrals_2 at book) → All FitsDeferral (deferral_rows book)
deferrals_fit at book is_book moved left =
    All-permutation FitsDeferral _ (deferral_rows book) (IsPermutation-sym _ _ (stand_once at book is_book).deferrals)
    (All-append FitsDeferral (deferrals_in (rows_at deferrals_3 at book)) (rows_at deferrals_2 at book) (All-map FitsDeferral (λ (row : Deferral3Row). row.deferral) (rows_at deferrals_3 at book) (λ i d low. (moved i d low).deferral)) left)

module _ (mark : ℕ) (trees : Trees) (book : List Entry) (stands : StandsAt (moving_deferrals mark) trees book) where
  left_fit : All FitsDeferral (rows_at deferrals_2 (moving_deferrals mark) book)
  left_fit = stands.rows.fit table.Defect refl

  all_fit : All FitsDeferral (deferral_rows book)
  all_fit = deferrals_fit (moving_deferrals mark) book stands.rows.is_book (stands.rows.fit table.Defect3 refl) left_fit

  -- so do the cycles at which they were found
  found_fits : All FitsDeferral3 (found_rows book)
  found_fits = found_fit book stands.rows.is_book (registers_fit_with (moving_deferrals mark) trees book stands refl refl (all_there (sector_rows book)) (all_there (span_rows book)) all_fit)

  rows_fit : (last : ℕ) (name : TableName) → is_at (moving_deferrals last) name ≡ true → Fit (rows_of name) (moving_deferrals last) book
  rows_fit last table.Defect there = All-filter (λ (r : DeferralRow). stands_there deferrals_2 (moving_deferrals last) r.seq) FitsDeferral (deferral_rows book) all_fit
  rows_fit last table.Defect3 there = All-filter (λ (r : Deferral3Row). stands_there deferrals_3 (moving_deferrals last) r.deferral.seq) FitsDeferral3 (found_rows book) found_fits
  rows_fit last name there = stands.rows.fit name there

rows_become : (mark : ℕ) (book : List Entry) → IsBook book → (name : TableName) → is_at (moving_deferrals (deferrals_mark book mark)) name ≡ true
    → IsPermutation (deferrals_moved (found_next book mark) (moving_deferrals (deferrals_mark book mark)) name (rows_given (moving_deferrals mark) book name)) (rows_given (moving_deferrals (deferrals_mark book mark)) book name)
rows_become mark book is_book table.Office there = one_point (moving_deferrals mark) (moving_deferrals (deferrals_mark book mark))
rows_become mark book is_book table.Defect there = IsPermutation-same _ _ (old_table kept_defect (λ row n. up_to_number row.seq n) mark (deferral_rows book))
rows_become mark book is_book table.Defect3 there =
    new_table kept_defect3 (found_next book mark) (rows_at deferrals_3 (moving_deferrals mark) book) (rows_at deferrals_3 (moving_deferrals (deferrals_mark book mark)) book) (moved_law book mark is_book).brought
rows_become mark book is_book name there = IsPermutation-refl (rows_given (moving_deferrals mark) book name)

same_tables : (mark last : ℕ) (name : TableName) → is_at (moving_deferrals last) name ≡ true → is_at (moving_deferrals mark) name ≡ true
same_tables mark last table.Office there = refl
same_tables mark last name there = there

-- the tables stand for the same book, at the next point
pub moved_deferrals_stand : (mark : ℕ) (rows : List Deferral3Row) (at to : Point) (book : List Entry) (old new : Trees) → at ≡ moving_from 2 1 mark → (next_mark at book ≢ None) × (rows ≡ found_next book mark) → StandsAt at old book → MovesDeferrals mark rows to old new
    → (to ≡ next_point_to 3 at book) × StandsAt to new book
moved_deferrals_stand mark rows at to book old new here due stood it =
    let stands = subst (λ q. StandsAt q old book) here stood in
    let is_book = stands.rows.is_book in
    let next = deferrals_next book mark in
    let last = deferrals_mark book mark in
    let some : next ≢ [] = λ none. due.0 (ap (λ q. next_mark q book) here ∙ none_next seq_of mark (deferral_rows book) none) in
    let is : to ≡ moving_deferrals last = it.point ∙ ap (λ (rs : List DeferralRow). moving_deferrals (last_moved seq_of mark rs)) (ap deferrals_in due.1 ∙ found_brought book mark) in
    batch_stands 3 (moving_deferrals mark) (moving_deferrals last) (deferrals_moved (found_next book mark)) (point_fits seq_of 2 mark (deferral_rows book) (omega arith) stands.rows.point.2 (λ i d low. (left_fit mark old book stands i d low).seq))
    (same_tables mark last) (batch_keeps kept_defect kept_defect3 (found_next book mark) (moving_deferrals last)) at to book old new (rows_fit mark old book stands last) (rows_become mark book is_book) here
    (by_first_of (next_point_to 3 (moving_deferrals mark) book ≡ moving_deferrals last) next some (λ row rest e. deferrals_next_point book mark row rest is_book e)) is stands (subst (λ rs. MakesRows (deferrals_moved rs to) to old new) due.1 it.made)

-- a table that stands for a book is whole, and its first rows are those that come
pub moved_deferrals_whole : (mark : ℕ) (rows : List Deferral3Row) (at : Point) (book : List Entry) (name : TableName) (trees : Trees) → at ≡ moving_from 2 1 mark → (next_mark at book ≢ None) × (rows ≡ found_next book mark) → StandsAt at trees book → IsDeferralOff mark rows name trees → ⊥
moved_deferrals_whole mark rows at book name trees here due stood off =
    let stands = subst (λ q. StandsAt q trees book) here stood in
    let is_book = stands.rows.is_book in
    let rising = deferral_rows-rising book is_book.shaped in
    let given = stands.rows.tables table.Defect refl in
    elim off.1 [
      | inl damaged ↦ none_damaged (moving_deferrals mark) trees book table.Defect stands refl damaged
      | inr more ↦ elim more [
        | inl other ↦ none_passed kept_defect defect_lawful mark book (deferral_rows book) (rows_in defect trees) is_book rising given other.0 other.1 other.2
        | inr others ↦ others.3 (first_are kept_defect defect_lawful 64 1 _ trees (rows_at deferrals_2 (moving_deferrals mark) book) others.0 others.1 given
            (rises_left seq_of (above seq_of mark) 1 _ (deferral_rows book) rising) (left_fit mark trees book stands) others.2
            ∙ sym (ap deferrals_in due.1 ∙ found_brought book mark))
      ]
    ]
