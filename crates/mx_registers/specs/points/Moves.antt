-- What a commit of a move does with the rows of a book.
use Rattle.std.specs.Prelude.{◌≡◌, ◌⊎◌, ◌≤◌, ◌<◌, ℕ, nat_le, nat_eq, List, [], ◌∷◌, ◌++◌, filter, not, map, take, drop, false, IsPermutation}
use Rattle.std.specs.List.{AllByRecursion}
use Rattle.mx_book.specs.commands.Act.{Entry}
use Rattle.mx_base.specs.declared.rows.rows.DeferralRow.{DeferralRow}
use Rattle.mx_base.specs.declared.rows.rows.Deferral3Row.{Deferral3Row}
use Rattle.mx_base.specs.declared.rows.rows.SectorRow.{SectorRow}
use Rattle.mx_registers.specs.kept.Totals.{total_rows}
use Rattle.mx_registers.specs.late.Found.{found_rows}
use Rattle.mx_registers.specs.points.Points.{moving_from}
use Rattle.mx_registers.specs.points.Tables.{Line, bases_2, deferrals_2, deferrals_3, done_3, fittings_1, is_moved_at, removals_1, rows_at, sectors_1, sectors_2, spans_2, totals_2}
use Rattle.mx_base.specs.declared.rows.rows.TotalRow.{TotalRow}
use Rattle.mx_base.specs.declared.point.Point.{Point}

-- the rows with a number above a mark
abbrev pub rows_beyond : {Row : Type 0} → (Row → ℕ) → ℕ → List Row → List Row
rows_beyond number mark rows = filter (λ row. not (nat_le (number row) mark)) rows

-- the number of the last of some rows, or the mark where there are none
abbrev pub last_moved : {Row : Type 0} → (Row → ℕ) → ℕ → List Row → ℕ
last_moved number mark [] = mark
last_moved number mark (row ∷ rows) = last_moved number (number row) rows

-- no row has a number between the mark and that of the thing
abbrev pub IsNext : {Row : Type 0} → (Row → ℕ) → ℕ → ℕ → List Row → Type 0
IsNext number mark thing rows = (mark < thing) × AllByRecursion (λ row. (number row ≤ mark) ⊎ (thing ≤ number row)) rows

-- ── sectors and deferrals, up to 64 at a time ──

-- the rows of the old table that the next commit moves in the first step of the move from a layout
abbrev pub rows_next : {Row : Type 0} → Line Row → ℕ → List Entry → ℕ → List Row
rows_next old layout book mark = take 64 (rows_at old (moving_from layout 1 mark) book)

-- the mark behind that commit
abbrev pub rows_mark : {Row : Type 0} → Line Row → ℕ → List Entry → ℕ → ℕ
rows_mark old layout book mark = last_moved old.number mark (rows_next old layout book mark)

-- the new table has the rows that it had and the next that the book gives it, and the old table the others
pub record MovesBatch {Old New : Type 0} (old : Line Old) (new : Line New) (layout : ℕ) (book : List Entry) (mark : ℕ) : Type 0 where
  pub brought : rows_at new (moving_from layout 1 (rows_mark old layout book mark)) book ≡ rows_at new (moving_from layout 1 mark) book ++ take 64 (rows_beyond new.number mark (new.rows book))
  pub taken : rows_at old (moving_from layout 1 (rows_mark old layout book mark)) book ≡ drop 64 (rows_at old (moving_from layout 1 mark) book)

-- the sectors that the next commit moves
abbrev pub sectors_next : List Entry → ℕ → List SectorRow
sectors_next book mark = rows_next sectors_1 1 book mark

-- the mark behind that commit
abbrev pub sectors_mark : List Entry → ℕ → ℕ
sectors_mark book mark = rows_mark sectors_1 1 book mark

-- the sectors are moved
abbrev pub MovesSectors : List Entry → ℕ → Type 0
MovesSectors book mark = MovesBatch sectors_1 sectors_2 1 book mark

-- the deferrals that the next commit moves
abbrev pub deferrals_next : List Entry → ℕ → List DeferralRow
deferrals_next book mark = rows_next deferrals_2 2 book mark

-- the mark behind that commit
abbrev pub deferrals_mark : List Entry → ℕ → ℕ
deferrals_mark book mark = rows_mark deferrals_2 2 book mark

-- the same with the cycles at which they were found
abbrev pub found_next : List Entry → ℕ → List Deferral3Row
found_next book mark = take 64 (rows_beyond (λ (row : Deferral3Row). row.deferral.seq) mark (found_rows book))

-- the deferrals are moved
abbrev pub MovesDeferrals : List Entry → ℕ → Type 0
MovesDeferrals book mark = MovesBatch deferrals_2 deferrals_3 2 book mark

-- those that come are those that go, with these cycles
abbrev pub BringsFound : List Entry → ℕ → Type 0
BringsFound book mark = map (λ (row : Deferral3Row). row.deferral) (found_next book mark) ≡ deferrals_next book mark

-- ── totals, one at a time ──

-- the totals that the next commit writes
abbrev pub totals_next : List Entry → ℕ → List TotalRow
totals_next book mark = take 1 (rows_beyond (λ (row : TotalRow). row.item) mark (total_rows book))

-- the mark behind that commit
abbrev pub totals_mark : List Entry → ℕ → ℕ
totals_mark book mark = last_moved (λ (row : TotalRow). row.item) mark (totals_next book mark)

-- ── what has the number of one thing ──

-- in a step of the move from a layout the table has the rows that it had and those of the thing
abbrev pub BringsFrom : {Row : Type 0} → Line Row → ℕ → ℕ → ℕ → ℕ → List Entry → Type 0
BringsFrom line layout step mark thing book = IsPermutation (rows_at line (moving_from layout step thing) book) (rows_at line (moving_from layout step mark) book ++ filter (λ row. nat_eq (line.number row) thing) (line.rows book))

-- the table has the rows that it had but those of the thing
abbrev pub TakesFrom : {Row : Type 0} → Line Row → ℕ → ℕ → ℕ → ℕ → List Entry → Type 0
TakesFrom line layout step mark thing book = rows_at line (moving_from layout step thing) book ≡ filter (λ row. not (nat_eq (line.number row) thing)) (rows_at line (moving_from layout step mark) book)

-- both in a step of the move from layout 1
abbrev pub Brings : {Row : Type 0} → Line Row → ℕ → ℕ → ℕ → List Entry → Type 0
Brings line step mark thing book = BringsFrom line 1 step mark thing book

abbrev pub Takes : {Row : Type 0} → Line Row → ℕ → ℕ → ℕ → List Entry → Type 0
Takes line step mark thing book = TakesFrom line 1 step mark thing book

-- ── tables that stay ──

-- the table has the same rows at both points
abbrev pub Stays : {Row : Type 0} → Line Row → Point → Point → List Entry → Type 0
Stays line at to book = rows_at line to book ≡ rows_at line at book

-- the tables of some layouts stay from one point to another, but those that the step of the first moves
pub record OthersStay (at to : Point) (book : List Entry) : Type 0 where
  pub sectors_old : is_moved_at sectors_1 at ≡ false → Stays sectors_1 at to book
  pub sectors_new : is_moved_at sectors_2 at ≡ false → Stays sectors_2 at to book
  pub fittings : is_moved_at fittings_1 at ≡ false → Stays fittings_1 at to book
  pub removals : is_moved_at removals_1 at ≡ false → Stays removals_1 at to book
  pub spans : is_moved_at spans_2 at ≡ false → Stays spans_2 at to book
  pub totals : is_moved_at totals_2 at ≡ false → Stays totals_2 at to book
  pub bases : is_moved_at bases_2 at ≡ false → Stays bases_2 at to book
  pub deferrals_old : is_moved_at deferrals_2 at ≡ false → Stays deferrals_2 at to book
  pub deferrals_new : is_moved_at deferrals_3 at ≡ false → Stays deferrals_3 at to book
  pub done : is_moved_at done_3 at ≡ false → Stays done_3 at to book

-- the tables of some layouts stay from one point to another
pub record AllStay (at to : Point) (book : List Entry) : Type 0 where
  pub sectors_old : Stays sectors_1 at to book
  pub sectors_new : Stays sectors_2 at to book
  pub fittings : Stays fittings_1 at to book
  pub removals : Stays removals_1 at to book
  pub spans : Stays spans_2 at to book
  pub totals : Stays totals_2 at to book
  pub bases : Stays bases_2 at to book
  pub deferrals_old : Stays deferrals_2 at to book
  pub deferrals_new : Stays deferrals_3 at to book
  pub done : Stays done_3 at to book
