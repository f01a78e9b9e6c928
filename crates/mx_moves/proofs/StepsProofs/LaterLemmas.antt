-- The steps of the move from layout 2 to layout 3 that make and drop tables: what the tables stand for behind them.
use Rattle.std.proofs.Common.{◌≡◌, ◌⊎◌, inl, inr, ℕ, true, List, None, refl, arith}
use Rattle.std.specs.Prelude.{⊤}
use Rattle.sqlite.specs.Tree.{Trees}
use Rattle.mx_book.specs.commands.Act.{Entry}
use Rattle.mx_book.specs.Book.{IsBook}
use Rattle.mx_base.specs.Settled.{settled}
use Rattle.mx_base.specs.declared.point.Point.{Point}
use Rattle.mx_registers.specs.points.Points.{is_before, moving_from, next_mark, next_point_to}
use Rattle.mx_layout.specs.TableName.{TableName}
use Rattle.mx_layout.specs.declared.fault.Table.TheVariants as table
use Rattle.mx_book_tables.specs.stands.Family.{is_at}
use Rattle.mx_book_tables.specs.stands.Stands.{StandsAt}
use Rattle.mx_moves.specs.steps.LaterTables.{ChangesToAccomplishments, FinishesLater, IsBaseLeft, IsDeferralLeft, MakesDeferrals}
use Rattle.mx_moves.proofs.StepsProofs.StayLemmas.{Leads, left_on, made_on, move_begins, none_on, step_ends}

-- ── the new table of deferrals ──

deferrals_made : (name : TableName) → is_at (moving_from 2 1 0) name ≡ true → (is_at (settled 2) name ≡ true) ⊎ (table.Defect3 ≡ name)
deferrals_made table.Defect3 there = inr refl
deferrals_made name there = inl there

pub deferrals_stand : (at to : Point) (book : List Entry) (old new : Trees) → at ≡ settled 2 → ⊤ → StandsAt at old book → MakesDeferrals to old new → (to ≡ next_point_to 3 at book) × StandsAt to new book
deferrals_stand at to book old new here due stood it =
    made_on 3 (settled 2) (moving_from 2 1 0) (omega arith, omega arith, omega arith) table.Defect3 refl deferrals_made at to book old new here (move_begins 3 2 refl book) stood it.point it.made

module _ (mark : ℕ) where
  -- ── the table of accomplishments in place of the old one of deferrals ──

  accomplishments_made : (name : TableName) → is_at (moving_from 2 2 0) name ≡ true → (is_at (moving_from 2 1 mark) name ≡ true) ⊎ (table.Done3 ≡ name)
  accomplishments_made table.Defect there = absurd cc
  accomplishments_made table.Done3 there = inr refl
  accomplishments_made name there = inl there

  to_accomplishments : (at : Point) (book : List Entry) → (at ≡ moving_from 2 1 mark) × (is_before 3 at ≡ true) → next_mark at book ≡ None → IsBook book → Leads 3 (moving_from 2 1 mark) (moving_from 2 2 0) book
  to_accomplishments = step_ends 3 2 1 mark (omega arith) (omega arith) (omega arith) (moving_from 2 2 0) refl

  pub accomplishments_stand : (at to : Point) (book : List Entry) (old new : Trees) → (at ≡ moving_from 2 1 mark) × (is_before 3 at ≡ true) → next_mark at book ≡ None → StandsAt at old book → ChangesToAccomplishments to old new → (to ≡ next_point_to 3 at book) × StandsAt to new book
  accomplishments_stand at to book old new here due stood it =
      made_on 3 (moving_from 2 1 mark) (moving_from 2 2 0) (omega arith, omega arith, omega arith) table.Done3 refl accomplishments_made at to book old new here.0 (to_accomplishments at book here due) stood it.point it.made

  -- of tables that stand for a book whose deferrals have all moved, no row is left in the old one
  pub accomplishments_whole : (at : Point) (book : List Entry) (name : TableName) (trees : Trees) → (at ≡ moving_from 2 1 mark) × (is_before 3 at ≡ true) → next_mark at book ≡ None → StandsAt at trees book → IsDeferralLeft name trees → ⊥
  accomplishments_whole at book name trees here due stood off =
      off.1 (none_on 3 (moving_from 2 1 mark) (moving_from 2 2 0) table.Defect refl refl at book trees here.0 (to_accomplishments at book here due) stood)

  -- ── layout 3 ──

  all_before : (name : TableName) → is_at (settled 3) name ≡ true → is_at (moving_from 2 2 mark) name ≡ true
  all_before table.Base2 there = absurd cc
  all_before name there = there

  to_layout_3 : (at : Point) (book : List Entry) → (at ≡ moving_from 2 2 mark) × (is_before 3 at ≡ true) → next_mark at book ≡ None → IsBook book → Leads 3 (moving_from 2 2 mark) (settled 3) book
  to_layout_3 = step_ends 3 2 2 mark (omega arith) (omega arith) (omega arith) (settled 3) refl

  pub later_finished_stand : (at to : Point) (book : List Entry) (old new : Trees) → (at ≡ moving_from 2 2 mark) × (is_before 3 at ≡ true) → next_mark at book ≡ None → StandsAt at old book → FinishesLater to old new → (to ≡ next_point_to 3 at book) × StandsAt to new book
  later_finished_stand at to book old new here due stood it =
      left_on 3 (moving_from 2 2 mark) (settled 3) (omega arith, omega arith, omega arith) all_before at to book old new here.0 (to_layout_3 at book here due) stood it.point it.made

  -- of tables that stand for a book whose items all have their accomplishments, no row is left in that of last bases
  pub later_finished_whole : (at : Point) (book : List Entry) (name : TableName) (trees : Trees) → (at ≡ moving_from 2 2 mark) × (is_before 3 at ≡ true) → next_mark at book ≡ None → StandsAt at trees book → IsBaseLeft name trees → ⊥
  later_finished_whole at book name trees here due stood off =
      off.1 (none_on 3 (moving_from 2 2 mark) (settled 3) table.Base2 refl refl at book trees here.0 (to_layout_3 at book here due) stood)
