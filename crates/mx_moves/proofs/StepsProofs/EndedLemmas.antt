-- The steps that end those of components, totals and bases: what the tables stand for behind them.
use Rattle.std.proofs.Common.{◌≡◌, ◌⊎◌, inl, inr, ℕ, true, false, List, [], None, refl, sym, subst, arith}
use Rattle.sqlite.specs.Tree.{Trees}
use Rattle.mx_book.specs.commands.Act.{Entry}
use Rattle.mx_book.specs.Book.{IsBook}
use Rattle.mx_base.specs.Settled.{settled}
use Rattle.mx_base.specs.declared.point.Point.{Point}
use Rattle.mx_registers.specs.declared.points.points.TheConstants.{NEWEST_LAYOUT}
use Rattle.mx_registers.specs.points.Points.{is_on_way, moving, next_mark, next_point}
use Rattle.mx_layout.specs.TableName.{TableName}
use Rattle.mx_layout.specs.declared.fault.Table.TheVariants as table
use Rattle.mx_layout.specs.Contents.{rows_in}
use Rattle.mx_layout.specs.Names.{table_named}
use Rattle.mx_book_tables.specs.stands.Family.{is_at}
use Rattle.mx_book_tables.specs.stands.Stands.{StandsAt}
use Rattle.mx_moves.specs.steps.Tables.{ChangesToTotals, Finishes, IsUnmoved, MakesBases}
use Rattle.mx_moves.proofs.StepsProofs.StayLemmas.{Leads, left_on, made_on, none_on, step_ends}

module _ (mark : ℕ) where
  -- ── the table of totals in place of those of fittings and removals ──

  totals_made : (name : TableName) → is_at (moving 3 0) name ≡ true → (is_at (moving 2 mark) name ≡ true) ⊎ (table.Total2 ≡ name)
  totals_made table.Fit1 there = absurd cc
  totals_made table.Removal1 there = absurd cc
  totals_made table.Total2 there = inr refl
  totals_made name there = inl there

  to_totals : (at : Point) (book : List Entry) → (at ≡ moving 2 mark) × (is_on_way at ≡ true) → next_mark at book ≡ None → IsBook book → Leads NEWEST_LAYOUT (moving 2 mark) (moving 3 0) book
  to_totals = step_ends NEWEST_LAYOUT 1 2 mark (omega arith) (omega arith) (omega arith) (moving 3 0) refl

  pub totals_stand : (at to : Point) (book : List Entry) (old new : Trees) → (at ≡ moving 2 mark) × (is_on_way at ≡ true) → next_mark at book ≡ None → StandsAt at old book → ChangesToTotals to old new → (to ≡ next_point at book) × StandsAt to new book
  totals_stand at to book old new here due stood it =
      made_on NEWEST_LAYOUT (moving 2 mark) (moving 3 0) (omega arith, omega arith, omega arith) table.Total2 refl totals_made at to book old new here.0 (to_totals at book here due) stood it.point it.made

  -- of tables that stand for a book whose components have all moved, no row is left in the old ones
  pub totals_whole : (at : Point) (book : List Entry) (name : TableName) (trees : Trees) → (at ≡ moving 2 mark) × (is_on_way at ≡ true) → next_mark at book ≡ None → StandsAt at trees book → IsUnmoved name trees → ⊥
  totals_whole at book name trees here due stood off =
      off.1 (elim off.0 [
        | inl is ↦ subst (λ n. rows_in (table_named n) trees ≡ []) (sym is) (gone table.Fit1 refl refl)
        | inr is ↦ subst (λ n. rows_in (table_named n) trees ≡ []) (sym is) (gone table.Removal1 refl refl)
      ])
    where
      gone : (old : TableName) → is_at (moving 2 mark) old ≡ true → is_at (moving 3 0) old ≡ false → rows_in (table_named old) trees ≡ []
      gone old there absent = none_on NEWEST_LAYOUT (moving 2 mark) (moving 3 0) old there absent at book trees here.0 (to_totals at book here due) stood

  -- ── the table of last bases ──

  bases_made : (name : TableName) → is_at (moving 4 0) name ≡ true → (is_at (moving 3 mark) name ≡ true) ⊎ (table.Base2 ≡ name)
  bases_made table.Base2 there = inr refl
  bases_made name there = inl there

  pub bases_stand : (at to : Point) (book : List Entry) (old new : Trees) → (at ≡ moving 3 mark) × (is_on_way at ≡ true) → next_mark at book ≡ None → StandsAt at old book → MakesBases to old new → (to ≡ next_point at book) × StandsAt to new book
  bases_stand at to book old new here due stood it =
      made_on NEWEST_LAYOUT (moving 3 mark) (moving 4 0) (omega arith, omega arith, omega arith) table.Base2 refl bases_made at to book old new here.0
      (step_ends NEWEST_LAYOUT 1 3 mark (omega arith) (omega arith) (omega arith) (moving 4 0) refl at book here due) stood it.point it.made

  -- ── the newest layout ──

  all_before : (name : TableName) → is_at (settled 2) name ≡ true → is_at (moving 4 mark) name ≡ true
  all_before name there = there

  pub finished_stands : (at to : Point) (book : List Entry) (old new : Trees) → (at ≡ moving 4 mark) × (is_on_way at ≡ true) → next_mark at book ≡ None → StandsAt at old book → Finishes to old new → (to ≡ next_point at book) × StandsAt to new book
  finished_stands at to book old new here due stood it =
      left_on NEWEST_LAYOUT (moving 4 mark) (settled 2) (omega arith, omega arith, omega arith) all_before at to book old new here.0
      (step_ends NEWEST_LAYOUT 1 4 mark (omega arith) (omega arith) (omega arith) (settled 2) refl at book here due) stood it.point it.made
