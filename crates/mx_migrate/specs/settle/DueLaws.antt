-- The laws of the step that is due, by those of each step.
use Rattle.std.proofs.Common.{ap, sym, ◌∙◌}
use Rattle.std.specs.Prelude.{◌≡◌, ◌+◌, List}
use Rattle.sqlite.specs.Tree.{Trees}
use Rattle.mx_book.specs.commands.Act.{Entry}
use Rattle.mx_base.specs.declared.point.Point.{Point}
use Rattle.mx_registers.specs.points.Points.{next_point, next_point_to}
use Rattle.mx_layout.specs.TableName.{TableName}
use Rattle.mx_book_tables.specs.stands.Stands.{StandsAt}
use Rattle.mx_moves.specs.steps.Next.{next_in_move}
use Rattle.mx_moves.proofs.StepsProofs.ComponentLemmas.{component_stands, component_whole}
use Rattle.mx_moves.proofs.StepsProofs.EndedLemmas.{bases_stand, finished_stands, totals_stand, totals_whole}
use Rattle.mx_moves.proofs.StepsProofs.MadeLemmas.{changed_stands, changed_whole, made_stands}
use Rattle.mx_moves.proofs.StepsProofs.SectorLemmas.{sectors_stand, sectors_whole}
use Rattle.mx_moves.proofs.StepsProofs.WrittenLemmas.{bases_stand as written_stand, total_stands}
use Rattle.mx_migrate.specs.declared.settle.due.Due.{Due}
use Rattle.mx_migrate.specs.declared.settle.due.Due.TheVariants as due
use Rattle.mx_migrate.specs.settle.Due.{IsDueAt, IsFor, IsOffFor, MakesBy}

-- the step is one of the move from layout 1
due_layout : (step : Due) (at : Point) → IsFor step at → at.layout ≡ 1
due_layout (due.SectorTable step) at here = ap (λ (p : Point). p.layout) here
due_layout (due.Sectors step) at here = ap (λ (p : Point). p.layout) here
due_layout (due.SpanTable step) at here = ap (λ (p : Point). p.layout) here.0
due_layout (due.Component step) at here = ap (λ (p : Point). p.layout) here
due_layout (due.TotalTable step) at here = ap (λ (p : Point). p.layout) here.0
due_layout (due.Total step) at here = ap (λ (p : Point). p.layout) here
due_layout (due.BaseTable step) at here = ap (λ (p : Point). p.layout) here.0
due_layout (due.Bases step) at here = ap (λ (p : Point). p.layout) here
due_layout (due.End step) at here = ap (λ (p : Point). p.layout) here.0

-- the next point of this move is that on the way to the newest layout
pub due_next : (step : Due) (at : Point) (book : List Entry) → IsFor step at → next_in_move at book ≡ next_point at book
due_next step at book here = ap (λ layout. next_point_to (layout + 1) at book) (due_layout step at here)

-- what the step makes of tables that stand for a book stands for the same book, at the next point on the way to the newest layout
due_stands : (step : Due) (at to : Point) (book : List Entry) (old new : Trees) → IsFor step at → IsDueAt step at book → StandsAt at old book → MakesBy step at to old new → (to ≡ next_point at book) × StandsAt to new book
due_stands (due.SectorTable step) = made_stands
due_stands (due.Sectors step) = sectors_stand step.mark
due_stands (due.SpanTable step) = changed_stands step.mark
due_stands (due.Component step) = component_stands step.mark step.component
due_stands (due.TotalTable step) = totals_stand step.mark
due_stands (due.Total step) = total_stands step.mark step.row
due_stands (due.BaseTable step) = bases_stand step.mark
due_stands (due.Bases step) = written_stand step.mark step.item step.rows.items
due_stands (due.End step) = finished_stands step.mark

-- and at the next point of the move
pub due_moves : (step : Due) (at to : Point) (book : List Entry) (old new : Trees) → IsFor step at → IsDueAt step at book → StandsAt at old book → MakesBy step at to old new → (to ≡ next_in_move at book) × StandsAt to new book
due_moves step at to book old new here due stands makes =
    let it = due_stands step at to book old new here due stands makes in
    (it.0 ∙ sym (due_next step at book here), it.1)

-- tables that stand for a book are none that are off
pub due_whole : (step : Due) (at : Point) (book : List Entry) (name : TableName) (trees : Trees) → IsFor step at → IsDueAt step at book → StandsAt at trees book → IsOffFor step at name trees → ⊥
due_whole (due.SectorTable step) at book name trees here due stands off = off
due_whole (due.Sectors step) at book name trees here due stands off = sectors_whole step.mark at book name trees here due stands off
due_whole (due.SpanTable step) at book name trees here due stands off = changed_whole step.mark at book name trees here due stands off
due_whole (due.Component step) at book name trees here due stands off = component_whole step.mark step.component at book name trees here due stands off
due_whole (due.TotalTable step) at book name trees here due stands off = totals_whole step.mark at book name trees here due stands off
due_whole (due.Total step) at book name trees here due stands off = off
due_whole (due.BaseTable step) at book name trees here due stands off = off
due_whole (due.Bases step) at book name trees here due stands off = off
due_whole (due.End step) at book name trees here due stands off = off
