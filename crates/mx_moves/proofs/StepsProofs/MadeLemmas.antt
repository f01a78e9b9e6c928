-- The steps that make the new table of sectors, and then that of spans in place of the old one of sectors: what the tables stand for behind them.
use Rattle.std.proofs.Common.{◌≡◌, ◌⊎◌, inl, inr, ℕ, true, List, None, refl, arith}
use Rattle.std.specs.Prelude.{⊤}
use Rattle.sqlite.specs.Tree.{Trees}
use Rattle.mx_book.specs.commands.Act.{Entry}
use Rattle.mx_book.specs.Book.{IsBook}
use Rattle.mx_base.specs.Settled.{settled}
use Rattle.mx_base.specs.declared.point.Point.{Point}
use Rattle.mx_registers.specs.declared.points.points.TheConstants.{NEWEST_LAYOUT}
use Rattle.mx_registers.specs.points.Points.{is_on_way, moving, next_mark, next_point}
use Rattle.mx_layout.specs.TableName.{TableName}
use Rattle.mx_layout.specs.declared.fault.Table.TheVariants as table
use Rattle.mx_book_tables.specs.stands.Family.{is_at}
use Rattle.mx_book_tables.specs.stands.Stands.{StandsAt}
use Rattle.mx_moves.specs.steps.Tables.{MakesSectors, ChangesToSpans, IsLeftOver}
use Rattle.mx_moves.proofs.StepsProofs.StayLemmas.{Leads, made_on, move_begins, none_on, step_ends}

-- ── the new table of sectors ──

sectors_made : (name : TableName) → is_at (moving 1 0) name ≡ true → (is_at (settled 1) name ≡ true) ⊎ (table.Sector2 ≡ name)
sectors_made table.Sector2 there = inr refl
sectors_made name there = inl there

pub made_stands : (at to : Point) (book : List Entry) (old new : Trees) → at ≡ settled 1 → ⊤ → StandsAt at old book → MakesSectors to old new → (to ≡ next_point at book) × StandsAt to new book
made_stands at to book old new here due stood it =
    made_on NEWEST_LAYOUT (settled 1) (moving 1 0) (omega arith, omega arith, omega arith) table.Sector2 refl sectors_made at to book old new here (move_begins NEWEST_LAYOUT 1 refl book) stood it.point it.made

-- ── the table of spans in place of the old one of sectors ──

module _ (mark : ℕ) where
  spans_made : (name : TableName) → is_at (moving 2 0) name ≡ true → (is_at (moving 1 mark) name ≡ true) ⊎ (table.Span2 ≡ name)
  spans_made table.Sector1 there = absurd cc
  spans_made table.Span2 there = inr refl
  spans_made name there = inl there

  leads : (at : Point) (book : List Entry) → (at ≡ moving 1 mark) × (is_on_way at ≡ true) → next_mark at book ≡ None → IsBook book → Leads NEWEST_LAYOUT (moving 1 mark) (moving 2 0) book
  leads = step_ends NEWEST_LAYOUT 1 1 mark (omega arith) (omega arith) (omega arith) (moving 2 0) refl

  pub changed_stands : (at to : Point) (book : List Entry) (old new : Trees) → (at ≡ moving 1 mark) × (is_on_way at ≡ true) → next_mark at book ≡ None → StandsAt at old book → ChangesToSpans to old new → (to ≡ next_point at book) × StandsAt to new book
  changed_stands at to book old new here due stood it =
      made_on NEWEST_LAYOUT (moving 1 mark) (moving 2 0) (omega arith, omega arith, omega arith) table.Span2 refl spans_made at to book old new here.0 (leads at book here due) stood it.point it.made

  -- of tables that stand for a book whose sectors have all moved, none is left over
  pub changed_whole : (at : Point) (book : List Entry) (name : TableName) (trees : Trees) → (at ≡ moving 1 mark) × (is_on_way at ≡ true) → next_mark at book ≡ None → StandsAt at trees book → IsLeftOver name trees → ⊥
  changed_whole at book name trees here due stood off =
      off.1 (none_on NEWEST_LAYOUT (moving 1 mark) (moving 2 0) table.Sector1 refl refl at book trees here.0 (leads at book here due) stood)
