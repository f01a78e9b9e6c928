-- The step that moves a component: what the tables stand for behind it, and why tables that stand for a book are whole.
use Rattle.std.proofs.Common.{◌≡◌, ◌⊎◌, inl, inr, ℕ, ◌+◌, ◌<◌, true, not, length, List, ◌++◌, map, filter, All, nat_eq, nat_le, Some, Ok, Result, refl, sym, ap, ap₂, subst, ◌∙◌, arith}
use Rattle.std.specs.List.Sorted.{IsPermutation}
use Rattle.std.proofs.lemmas.Bool.Decides.{nat_tests}
use Rattle.std.proofs.lemmas.List.Elements.{All-append, All-contains, All-filter}
use Rattle.std.proofs.lemmas.List.Sorted.{All-permutation, IsPermutation-refl, IsPermutation-sym}
use Rattle.sqlite_keyed.proofs.ListLemmas.{filter-filter, filter_same}
use Rattle.sqlite.specs.Tree.{Trees}
use Rattle.mx_book.specs.commands.Act.{Entry}
use Rattle.mx_book.specs.Book.{IsBook}
use Rattle.mx_base.specs.declared.rows.rows.FittingRow.{FittingRow}
use Rattle.mx_base.specs.declared.rows.rows.RemovalRow.{RemovalRow}
use Rattle.mx_base.specs.declared.rows.rows.SpanRow.{SpanRow}
use Rattle.mx_base.specs.rows.Rows.{FitsFitting, FitsRemoval, FitsSpan}
use Rattle.mx_registers.specs.Registers.{fitting_rows, removal_rows}
use Rattle.mx_registers.proofs.RegisterLemmas.{fitting_rows-rising, removal_rows-rising}
use Rattle.mx_base.specs.declared.point.Point.{Point}
use Rattle.mx_registers.specs.declared.points.points.TheConstants.{NEWEST_LAYOUT}
use Rattle.mx_registers.specs.points.Points.{moving, next_mark, next_point}
use Rattle.mx_registers.specs.points.Tables.{rows_at, fittings_1, removals_1, spans_2}
use Rattle.mx_registers.proofs.PointsProofs.MoveLemmas.{spans_moved, fittings_left, removals_left}
use Rattle.mx_registers.proofs.PointsProofs.NextComponents.{spans_next, fittings_next, removals_next}
use Rattle.mx_layout.specs.TableName.{TableName}
use Rattle.mx_layout.specs.declared.fault.Table.TheVariants as table
use Rattle.mx_layout.specs.Contents.{rows_in}
use Rattle.mx_layout.specs.Names.{table_named}
use Rattle.mx_layout.specs.kept.Cells.{kept_fit1, kept_removal1, kept_span2}
use Rattle.mx_layout.specs.kept.Family.{IsReadable}
use Rattle.mx_layout.specs.kept.Kept.{Kept}
use Rattle.mx_layout.proofs.KeptProofs.Lawful.{fit1_lawful, removal1_lawful}
use Rattle.mx_layout.proofs.KeptProofs.OntoLemmas.{on_top_keeps}
use Rattle.mx_table_rows.proofs.ChosenProofs.EqualLemmas.{equal_numbers}
use Rattle.mx_book_tables.specs.stands.Family.{rows_of, rows_given, is_at, Fit}
use Rattle.mx_book_tables.specs.stands.Stands.{StandsAt}
use Rattle.mx_book_tables.proofs.StandsProofs.RowLemmas.{readable_stored}
use Rattle.mx_moves.proofs.RowLemmas.{Keeps, less_keeps}
use Rattle.mx_moves.specs.steps.Components.{AreFittings, AreRemovals, IsComponentOff, MovesComponent, component_moved, fittings_by, is_of_component, removals_by, spans_by}
use Rattle.mx_moves.specs.steps.Pairing.{spans_made}
use Rattle.mx_moves.specs.steps.Rows.{MakesRows}
use Rattle.mx_moves.proofs.StepsProofs.PageLemmas.{chosen_are, rises_left}
use Rattle.mx_moves.proofs.StepsProofs.PairLemmas.{made_of_book, spans_fit}
use Rattle.mx_moves.proofs.StepsProofs.BatchLemmas.{one_point, point_keeps}
use Rattle.mx_moves.proofs.StepsProofs.StandsLemmas.{stands_next}
use Rattle.mx_moves.proofs.StepsProofs.ThingLemmas.{more_become, next_is, others_become, point_fits}

above_too : (mark component n : ℕ) → mark < component → nat_eq n component ≡ true → not (nat_le n mark) ≡ true
above_too mark component n h e = grind (arith, nat_tests)

-- rows of a table that names a component in each
module _ {X : Type 0} (k : Kept X) (component_of : X → ℕ) (mark component : ℕ) (is_of : (row : X) → is_of_component component (k.as_cells row) ≡ nat_eq (component_of row) component) where
  -- those of the component, where those up to the mark have moved, are all that the book has of it
  those_are : mark < component → (all rows : List X) → rows ≡ filter (λ row. is_of_component component (k.as_cells row)) (filter (λ row. not (nat_le (component_of row) mark)) all) → rows ≡ filter (λ row. nat_eq (component_of row) component) all
  those_are low all rows is =
      is ∙ filter_same (λ row. is_of_component component (k.as_cells row)) (λ row. nat_eq (component_of row) component) is_of (filter (λ row. not (nat_le (component_of row) mark)) all)
      ∙ filter-filter (λ row. nat_eq (component_of row) component) (λ row. not (nat_le (component_of row) mark)) (λ row e. above_too mark component (component_of row) low e) all

module _ (mark component : ℕ) (book : List Entry) (b : IsBook book) (due : next_mark (moving 2 mark) book ≡ Some component) where
  above_mark : mark < component
  above_mark = (fittings_next book mark component b due).0

  -- ── what the rows become ──

  fittings_become : IsPermutation (filter (λ row. not (is_of_component component row)) (map kept_fit1.as_cells (rows_at fittings_1 (moving 2 mark) book))) (map kept_fit1.as_cells (rows_at fittings_1 (moving 2 component) book))
  fittings_become = others_become kept_fit1 (is_of_component component) (λ (row : FittingRow). nat_eq row.component component) (λ row. equal_numbers row.component component) _ _ (fittings_left book mark component (fittings_next book mark component b due))

  removals_become : IsPermutation (filter (λ row. not (is_of_component component row)) (map kept_removal1.as_cells (rows_at removals_1 (moving 2 mark) book))) (map kept_removal1.as_cells (rows_at removals_1 (moving 2 component) book))
  removals_become = others_become kept_removal1 (is_of_component component) (λ (row : RemovalRow). nat_eq row.component component) (λ row. equal_numbers row.component component) _ _ (removals_left book mark component (removals_next book mark component b due))

  brought : IsPermutation (rows_at spans_2 (moving 2 component) book) (rows_at spans_2 (moving 2 mark) book ++ spans_by book component)
  brought = spans_moved book mark component (spans_next book mark component b due)

  spans_become : IsPermutation (map kept_span2.as_cells (spans_by book component) ++ map kept_span2.as_cells (rows_at spans_2 (moving 2 mark) book)) (map kept_span2.as_cells (rows_at spans_2 (moving 2 component) book))
  spans_become = more_become kept_span2 (spans_by book component) (spans_by book component) (rows_at spans_2 (moving 2 mark) book) (rows_at spans_2 (moving 2 component) book) (IsPermutation-refl (spans_by book component)) brought

  rows_become : (name : TableName) → is_at (moving 2 component) name ≡ true → IsPermutation (component_moved (spans_by book component) (moving 2 component) name (rows_given (moving 2 mark) book name)) (rows_given (moving 2 component) book name)
  rows_become table.Office there = one_point (moving 2 mark) (moving 2 component)
  rows_become table.Fit1 there = fittings_become
  rows_become table.Removal1 there = removals_become
  rows_become table.Span2 there = spans_become
  rows_become name there = IsPermutation-refl (rows_given (moving 2 mark) book name)

  module _ (trees : Trees) (stands : StandsAt (moving 2 mark) trees book) where
    rows_fit : All FitsSpan (spans_by book component) → (name : TableName) → is_at (moving 2 component) name ≡ true → Fit (rows_of name) (moving 2 component) book
    rows_fit fits table.Fit1 there = subst (All FitsFitting) (sym (fittings_left book mark component (fittings_next book mark component b due))) (All-filter (λ (row : FittingRow). not (nat_eq row.component component)) FitsFitting (rows_at fittings_1 (moving 2 mark) book) (stands.rows.fit table.Fit1 refl))
    rows_fit fits table.Removal1 there = subst (All FitsRemoval) (sym (removals_left book mark component (removals_next book mark component b due))) (All-filter (λ (row : RemovalRow). not (nat_eq row.component component)) FitsRemoval (rows_at removals_1 (moving 2 mark) book) (stands.rows.fit table.Removal1 refl))
    rows_fit fits table.Span2 there = All-permutation FitsSpan _ _ (IsPermutation-sym _ _ brought) (All-append FitsSpan (rows_at spans_2 (moving 2 mark) book) (spans_by book component) (stands.rows.fit table.Span2 refl) fits)
    rows_fit fits name there = stands.rows.fit name there

    -- ── what was read ──

    fittings_are : (rows : List FittingRow) → AreFittings component trees rows → rows ≡ fittings_by book component
    fittings_are rows read = those_are kept_fit1 (λ (row : FittingRow). row.component) mark component (λ row. equal_numbers row.component component) above_mark (fitting_rows book) rows
        (chosen_are kept_fit1 fit1_lawful 1 (length book + 1) (is_of_component component) trees (rows_at fittings_1 (moving 2 mark) book) rows read.all (stands.rows.tables table.Fit1 refl)
        (rises_left (λ (row : FittingRow). row.seq) (λ (row : FittingRow). not (nat_le row.component mark)) 1 (length book + 1) (fitting_rows book) (fitting_rows-rising book b.shaped)) (stands.rows.fit table.Fit1 refl) read.fit)

    removals_are : (rows : List RemovalRow) → AreRemovals component trees rows → rows ≡ removals_by book component
    removals_are rows read = those_are kept_removal1 (λ (row : RemovalRow). row.component) mark component (λ row. equal_numbers row.component component) above_mark (removal_rows book) rows
        (chosen_are kept_removal1 removal1_lawful 1 (length book + 1) (is_of_component component) trees (rows_at removals_1 (moving 2 mark) book) rows read.all (stands.rows.tables table.Removal1 refl)
        (rises_left (λ (row : RemovalRow). row.seq) (λ (row : RemovalRow). not (nat_le row.component mark)) 1 (length book + 1) (removal_rows book) (removal_rows-rising book b.shaped)) (stands.rows.fit table.Removal1 refl) read.fit)

    pairs_are : (fittings : List FittingRow) (removals : List RemovalRow) → AreFittings component trees fittings → AreRemovals component trees removals → spans_made fittings removals ≡ Ok (spans_by book component)
    pairs_are fittings removals fitted removed = ap₂ spans_made (fittings_are fittings fitted) (removals_are removals removed) ∙ made_of_book component book b

    is_off : (name : TableName) → IsComponentOff component name trees → ⊥
    is_off name (inr other) = (let made = sym other.4 ∙ pairs_are other.0 other.1 other.2 other.3 in absurd cc)
    is_off name (inl damaged) = damaged.1.2 (All-contains (IsReadable name) (rows_in (table_named name) trees) damaged.1.0 (readable_stored (moving 2 mark) trees book stands.rows name (there damaged.0)) damaged.1.1)
      where
        there : (name ≡ table.Fit1) ⊎ (name ≡ table.Removal1) → is_at (moving 2 mark) name ≡ true
        there (inl is) = subst (λ n. is_at (moving 2 mark) n ≡ true) (sym is) refl
        there (inr is) = subst (λ n. is_at (moving 2 mark) n ≡ true) (sym is) refl

same_tables : (mark component : ℕ) (name : TableName) → is_at (moving 2 component) name ≡ true → is_at (moving 2 mark) name ≡ true
same_tables mark component table.Office there = refl
same_tables mark component name there = there

moved_keeps : (spans : List SpanRow) (to : Point) (name : TableName) → Keeps (component_moved spans to) name
moved_keeps spans to name xs ys same =
    point_keeps to name _ _ (less_keeps kept_removal1 (is_of_component to.mark) name _ _ (less_keeps kept_fit1 (is_of_component to.mark) name _ _ (on_top_keeps kept_span2 spans name xs ys same)))

-- the tables stand for the same book, at the point of the component
pub component_stands : (mark component : ℕ) (at to : Point) (book : List Entry) (old new : Trees) → at ≡ moving 2 mark → next_mark at book ≡ Some component → StandsAt at old book → MovesComponent component to old new → (to ≡ next_point at book) × StandsAt to new book
component_stands mark component at to book old new here due_at stood it =
    let stands = subst (λ q. StandsAt q old book) here stood in
    let b = stands.rows.is_book in
    let due : next_mark (moving 2 mark) book ≡ Some component = ap (λ q. next_mark q book) (sym here) ∙ due_at in
    let made_of = pairs_are mark component book b due old stands it.fittings it.removals it.fitted it.removed in
    let spans : it.spans ≡ spans_by book component = (let both : ◌≡◌ {A = Result (List SpanRow) TableName} (Ok it.spans) (Ok (spans_by book component)) = sym it.made_of ∙ made_of in cc) in
    let fits = subst (All FitsSpan) spans (spans_fit it.fittings it.removals it.spans it.fitted.fit it.removed.fit it.made_of) in
    let made = subst (λ q. MakesRows (component_moved (spans_by book component) q) q old new) it.point (subst (λ xs. MakesRows (component_moved xs to) to old new) spans it.made) in
    let done = stands_next (moving 2 mark) (moving 2 component) book (component_moved (spans_by book component) (moving 2 component)) old new (point_fits NEWEST_LAYOUT 1 2 mark component (omega arith) (omega arith) (omega arith) refl book b due (omega arith) (omega arith)) (rows_fit mark component book b due old stands fits)
    (λ name there. inl (same_tables mark component name there, moved_keeps (spans_by book component) (moving 2 component) name)) (rows_become mark component book b due) stands made in
    (it.point ∙ sym (next_is NEWEST_LAYOUT 1 2 mark component (omega arith) (omega arith) (omega arith) refl book b due) ∙ ap (λ q. next_point q book) (sym here), subst (λ q. StandsAt q new book) (sym it.point) done)

pub component_whole : (mark component : ℕ) (at : Point) (book : List Entry) (name : TableName) (trees : Trees) → at ≡ moving 2 mark → next_mark at book ≡ Some component → StandsAt at trees book → IsComponentOff component name trees → ⊥
component_whole mark component at book name trees here due_at stood off =
    let stands = subst (λ q. StandsAt q trees book) here stood in
    is_off mark component book stands.rows.is_book (ap (λ q. next_mark q book) (sym here) ∙ due_at) trees stands name off
