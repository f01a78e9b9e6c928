-- A step that moves no row, where it begins or ends: what each table has at the next point, whatever the move and the points are.
use Rattle.std.proofs.Common.{◌≡◌, ◌⊎◌, inl, inr, ◌<◌, ◌≤◌, ◌==◌, ℕ, Bool, true, false, cond, List, [], map, All, None, refl, sym, ap, subst, ◌∙◌, arith}
use Rattle.std.specs.Prelude.{⊤}
use Rattle.std.specs.List.Sorted.{IsPermutation}
use Rattle.std.proofs.lemmas.Bool.{eqb-true}
use Rattle.std.proofs.lemmas.List.Elements.{All-nil}
use Rattle.sqlite_keyed.proofs.ListLemmas.{IsPermutation-same}
use Rattle.sqlite.specs.Order.{Row}
use Rattle.sqlite.specs.Tree.{Trees}
use Rattle.mx_book.specs.commands.Act.{Entry}
use Rattle.mx_book.specs.Book.{IsBook}
use Rattle.mx_base.specs.Settled.{settled}
use Rattle.mx_base.specs.declared.point.Point.{Point}
use Rattle.mx_registers.specs.points.Moves.{AllStay, Stays}
use Rattle.mx_registers.specs.points.Points.{is_before, moving_from, next_mark, next_point_to, on_to, steps_from}
use Rattle.mx_registers.proofs.PointsProofs.CommitLemmas.{before_parts}
use Rattle.mx_registers.proofs.PointsProofs.EndLemmas.{tables_stay_to}
use Rattle.mx_registers.proofs.PointsProofs.OneBook.{absent_none}
use Rattle.mx_registers.proofs.PointsProofs.StepLemmas.{step_after_to}
use Rattle.mx_layout.specs.TableName.{TableName}
use Rattle.mx_layout.specs.declared.fault.Table.TheVariants as table
use Rattle.mx_layout.specs.Contents.{rows_in}
use Rattle.mx_layout.specs.Names.{table_named}
use Rattle.mx_layout.specs.Point.{FitsPoint}
use Rattle.mx_layout.proofs.TreeLemmas.{same_tree}
use Rattle.mx_book_tables.specs.stands.Family.{of, none, Rows, rows_of, rows_given, given, is_at, is_there, Fit}
use Rattle.mx_book_tables.specs.stands.Stands.{StandsAt}
use Rattle.mx_moves.specs.Keeping.{point_set}
use Rattle.mx_moves.proofs.RowLemmas.{Keeps, Forgets, emptied_forgets, emptied_keeps}
use Rattle.mx_moves.specs.steps.Rows.{MakesRows}
use Rattle.mx_moves.specs.steps.Tables.{table_made}
use Rattle.mx_moves.proofs.StepsProofs.PageLemmas.{permutation_none}
use Rattle.mx_moves.proofs.StepsProofs.BatchLemmas.{one_point, point_keeps}
use Rattle.mx_moves.proofs.StepsProofs.StandsLemmas.{stands_next}

-- ── the rows of one table ──

-- the book gives the table the same rows at both points
abbrev StaysOf : Rows → Point → Point → List Entry → Type 0
StaysOf (of k line change read) from next book = Stays line from next book
StaysOf none from next book = ⊤

given_stays : (rows : Rows) (from next : Point) (book : List Entry) → StaysOf rows from next book → given rows next book ≡ given rows from book
given_stays (of k line change read) from next book stay = ap (map k.as_cells) stay
given_stays none from next book stay = refl

fit_stays : (rows : Rows) (from next : Point) (book : List Entry) → StaysOf rows from next book → Fit rows from book → Fit rows next book
fit_stays (of k line change read) from next book stay fit = subst (All k.Fits) (sym stay) fit
fit_stays none from next book stay fit = tt

-- where there is no such table the book gives it none
given_absent : (rows : Rows) (at : Point) (book : List Entry) → is_there rows at ≡ false → given rows at book ≡ []
given_absent (of k line change read) at book absent = ap (map k.as_cells) (absent_none line at book absent)
given_absent none at book absent = refl

fit_absent : (rows : Rows) (at : Point) (book : List Entry) → is_there rows at ≡ false → Fit rows at book
fit_absent (of k line change read) at book absent = subst (All k.Fits) (sym (absent_none line at book absent)) (All-nil k.Fits)
fit_absent none at book absent = tt

-- ── the rows of each ──

module _ (from next : Point) (book : List Entry) (stay : AllStay from next book) where
  each_stays : (name : TableName) → StaysOf (rows_of name) from next book
  each_stays table.Sector1 = stay.sectors_old
  each_stays table.Sector2 = stay.sectors_new
  each_stays table.Fit1 = stay.fittings
  each_stays table.Removal1 = stay.removals
  each_stays table.Span2 = stay.spans
  each_stays table.Total2 = stay.totals
  each_stays table.Base2 = stay.bases
  each_stays table.Defect = stay.deferrals_old
  each_stays table.Defect3 = stay.deferrals_new
  each_stays table.Done3 = stay.done
  each_stays table.Office = tt
  each_stays name = refl

  -- but the point, a table that stays has what it had
  point_become : (name : TableName) → IsPermutation (point_set next name (rows_given from book name)) (rows_given next book name)
  point_become table.Office = one_point from next
  point_become name = IsPermutation-same _ _ (sym (given_stays (rows_of name) from next book (each_stays name)))

  -- a new table has none
  none_new : (new : TableName) → is_at from new ≡ false → IsPermutation (point_set next new []) (rows_given next book new)
  none_new table.Office absent = absurd cc
  none_new name absent = IsPermutation-same [] _ (sym (given_stays (rows_of name) from next book (each_stays name) ∙ given_absent (rows_of name) from book absent))

  made_become : (new : TableName) → is_at from new ≡ false → (name : TableName) → IsPermutation (table_made new next name (rows_given from book name)) (rows_given next book name)
  made_become new absent name = by ((table_named new).tree == (table_named name).tree) refl
    where
      by : (b : Bool) → ((table_named new).tree == (table_named name).tree) ≡ b → IsPermutation (point_set next name (cond b [] (rows_given from book name))) (rows_given next book name)
      by true e = subst (λ n. IsPermutation (point_set next n []) (rows_given next book n)) (same_tree new name (eqb-true (table_named new).tree (table_named name).tree e)) (none_new new absent)
      by false e = point_become name

  -- those that the book gives fit the columns
  fit_from : (old : Trees) → StandsAt from old book → (name : TableName) (b : Bool) → is_at from name ≡ b → Fit (rows_of name) from book
  fit_from old stands name true there = stands.rows.fit name there
  fit_from old stands table.Office false absent = absurd cc
  fit_from old stands name false absent = fit_absent (rows_of name) from book absent

  all_fit : (old : Trees) → StandsAt from old book → (name : TableName) → Fit (rows_of name) next book
  all_fit old stands name = fit_stays (rows_of name) from next book (each_stays name) (fit_from old stands name (is_at from name) refl)

  -- a table that is dropped had none
  gone_given : (name : TableName) → is_at next name ≡ false → rows_given from book name ≡ []
  gone_given table.Office absent = absurd cc
  gone_given name absent = sym (given_stays (rows_of name) from next book (each_stays name)) ∙ given_absent (rows_of name) next book absent

  gone_empty : (name : TableName) → is_at from name ≡ true → is_at next name ≡ false → (trees : Trees) → StandsAt from trees book → rows_in (table_named name) trees ≡ []
  gone_empty name there absent trees stands = permutation_none (rows_in (table_named name) trees) (subst (λ rows. IsPermutation rows (rows_in (table_named name) trees)) (gone_given name absent) (stands.rows.tables name there))

-- ── what the tables stand for ──

pub table_keeps : (new : TableName) (to : Point) (name : TableName) → Keeps (table_made new to) name
table_keeps new to name xs ys same = point_keeps to name _ _ (emptied_keeps new name xs ys same)

pub table_forgets : (new : TableName) (to : Point) → Forgets (table_made new to) new
table_forgets new to xs ys = point_keeps to new _ _ (emptied_forgets new xs ys)

-- for this book the one point is behind the other on the way to a layout, and every table has the same rows at both
abbrev pub Leads : ℕ → Point → Point → List Entry → Type 0
Leads newest from next book = (next_point_to newest from book ≡ next) × AllStay from next book

module _ (newest : ℕ) (from next : Point) (fits : FitsPoint next) where
  stands_on : (onto : Point → TableName → List Row → List Row)
      → ((name : TableName) → is_at next name ≡ true → ((is_at from name ≡ true) × Keeps (onto next) name) ⊎ Forgets (onto next) name)
      → (at to : Point) (book : List Entry) (old new : Trees)
      → ((name : TableName) → IsPermutation (onto next name (rows_given from book name)) (rows_given next book name))
      → at ≡ from → Leads newest from next book → StandsAt from old book → to ≡ next → MakesRows (onto to) to old new → (to ≡ next_point_to newest at book) × StandsAt to new book
  stands_on onto turns at to book old new become here leads stands point makes =
      let done = stands_next from next book (onto next) old new fits (λ name there. all_fit from next book leads.1 old stands name) turns (λ name there. become name) stands (subst (λ q. MakesRows (onto q) q old new) point makes) in
      (point ∙ sym leads.0 ∙ ap (λ q. next_point_to newest q book) (sym here), subst (λ q. StandsAt q new book) (sym point) done)

  -- tables that stand for a book, with one that is made, stand for it at the next point
  pub made_on : (made : TableName) → is_at from made ≡ false → ((name : TableName) → is_at next name ≡ true → (is_at from name ≡ true) ⊎ (made ≡ name))
      → (at to : Point) (book : List Entry) (old new : Trees) → at ≡ from → (IsBook book → Leads newest from next book) → StandsAt at old book → to ≡ next → MakesRows (table_made made to) to old new → (to ≡ next_point_to newest at book) × StandsAt to new book
  made_on made absent others at to book old new here leads stood point makes =
      let stands = subst (λ q. StandsAt q old book) here stood in
      let led = leads stands.rows.is_book in
      stands_on (table_made made) turns at to book old new (made_become from next book led.1 made absent) here led stands point makes
    where
      turns : (name : TableName) → is_at next name ≡ true → ((is_at from name ≡ true) × Keeps (table_made made next) name) ⊎ Forgets (table_made made next) name
      turns name there = elim (others name there) [
        | inl had ↦ inl (had, table_keeps made next name)
        | inr is ↦ inr (subst (Forgets (table_made made next)) is (table_forgets made next))
      ]

  -- so do tables that were all there before
  pub left_on : ((name : TableName) → is_at next name ≡ true → is_at from name ≡ true)
      → (at to : Point) (book : List Entry) (old new : Trees) → at ≡ from → (IsBook book → Leads newest from next book) → StandsAt at old book → to ≡ next → MakesRows (point_set to) to old new → (to ≡ next_point_to newest at book) × StandsAt to new book
  left_on before at to book old new here leads stood point makes =
      let stands = subst (λ q. StandsAt q old book) here stood in
      let led = leads stands.rows.is_book in
      stands_on point_set (λ name there. inl (before name there, point_keeps next name)) at to book old new (point_become from next book led.1) here led stands point makes

-- a table that there is no more had no row
pub none_on : (newest : ℕ) (from next : Point) (gone : TableName) → is_at from gone ≡ true → is_at next gone ≡ false
    → (at : Point) (book : List Entry) (trees : Trees) → at ≡ from → (IsBook book → Leads newest from next book) → StandsAt at trees book → rows_in (table_named gone) trees ≡ []
none_on newest from next gone there absent at book trees here leads stood =
    let stands = subst (λ q. StandsAt q trees book) here stood in
    gone_empty from next book (leads stands.rows.is_book).1 gone there absent trees stands

-- ── where a move begins, and where a step has nothing left ──

-- a file that is settled at a layout begins the move from it
pub move_begins : (newest layout : ℕ) → is_before newest (settled layout) ≡ true → (book : List Entry) → IsBook book → Leads newest (settled layout) (moving_from layout 1 0) book
move_begins newest layout way book b =
    let goes : next_point_to newest (settled layout) book ≡ moving_from layout 1 0 = ap (λ c. cond c (moving_from layout 1 0) (settled layout)) way in
    (goes, subst (λ q. AllStay (settled layout) q book) goes (tables_stay_to book b newest (settled layout) (λ some. absurd (omega arith))))

-- a file whose step has nothing left goes on to the next step, or to the next layout
pub step_ends : (newest layout step mark : ℕ) → layout < newest → 0 < step → step ≤ steps_from layout → (next : Point) → on_to (moving_from layout step mark) None ≡ next
    → (at : Point) (book : List Entry) → (at ≡ moving_from layout step mark) × (is_before newest at ≡ true) → next_mark at book ≡ None → IsBook book → Leads newest (moving_from layout step mark) next book
step_ends newest layout step mark under some last next leads at book here due b =
    let from = moving_from layout step mark in
    let way : is_before newest from ≡ true = subst (λ q. is_before newest q ≡ true) here.0 here.1 in
    let none_left : next_mark from book ≡ None = subst (λ q. next_mark q book ≡ None) here.0 due in
    let goes : next_point_to newest from book ≡ next = step_after_to newest layout step mark (next_mark from book) under some last (before_parts newest from way).2.1 ∙ ap (on_to from) none_left ∙ leads in
    (goes, subst (λ q. AllStay from q book) goes (tables_stay_to book b newest from (λ _. none_left)))
