-- The step that is due, as one step: what each of them is for, when it is due, which rows call for it, and what it makes of the tables.
use Rattle.std.specs.Prelude.{⊤, ◌≡◌, ◌≢◌, true, List, [], ◌∷◌, None, Some, IsPermutation}
use Rattle.sqlite.specs.Tree.{Trees}
use Rattle.mx_book.specs.commands.Act.{Entry}
use Rattle.mx_base.specs.declared.point.Point.{Point}
use Rattle.mx_base.specs.Settled.{settled}
use Rattle.mx_registers.specs.points.Moves.{totals_next}
use Rattle.mx_registers.specs.points.Points.{is_on_way, moving, next_mark}
use Rattle.mx_base.specs.declared.rows.rows.TotalRow.{TotalRow}
use Rattle.mx_layout.specs.Contents.{rows_in}
use Rattle.mx_layout.specs.Tables.{sector1}
use Rattle.mx_layout.specs.kept.Cells.{kept_component}
use Rattle.mx_layout.specs.TableName.{TableName}
use Rattle.mx_moves.specs.steps.Components.{MovesComponent, IsComponentOff}
use Rattle.mx_moves.specs.steps.Sectors.{MovesSectors, IsOldOff}
use Rattle.mx_moves.specs.steps.Tables.{MakesSectors, ChangesToSpans, ChangesToTotals, MakesBases, Finishes, IsLeftOver, IsUnmoved}
use Rattle.mx_moves.specs.steps.Written.{WritesTotal, WritesBases, bases_of}
use Rattle.mx_verify.specs.declared.derived.kept.KeptRows.{KeptRows}
use Rattle.mx_migrate.specs.settle.Found.{AreKeptIn, IsNextIn}
use Rattle.mx_migrate.specs.settle.Items.{next_total, of_item}
use Rattle.mx_migrate.specs.declared.settle.due.Due.{Due}
use Rattle.mx_migrate.specs.declared.settle.due.Due.TheVariants as due

-- the points that the step is for
abbrev pub IsFor : Due → Point → Type 0
IsFor (due.SectorTable step) at = at ≡ settled 1
IsFor (due.Sectors step) at = at ≡ moving 1 step.mark
IsFor (due.SpanTable step) at = (at ≡ moving 1 step.mark) × (is_on_way at ≡ true)
IsFor (due.Component step) at = at ≡ moving 2 step.mark
IsFor (due.TotalTable step) at = (at ≡ moving 2 step.mark) × (is_on_way at ≡ true)
IsFor (due.Total step) at = at ≡ moving 3 step.mark
IsFor (due.BaseTable step) at = (at ≡ moving 3 step.mark) × (is_on_way at ≡ true)
IsFor (due.Bases step) at = at ≡ moving 4 step.mark
IsFor (due.End step) at = (at ≡ moving 4 step.mark) × (is_on_way at ≡ true)

-- at such a point of this book there is something for the step to do
abbrev pub IsDueAt : Due → Point → List Entry → Type 0
IsDueAt (due.SectorTable step) at book = ⊤
IsDueAt (due.Sectors step) at book = next_mark at book ≢ None
IsDueAt (due.SpanTable step) at book = next_mark at book ≡ None
IsDueAt (due.Component step) at book = next_mark at book ≡ Some step.component
IsDueAt (due.TotalTable step) at book = next_mark at book ≡ None
IsDueAt (due.Total step) at book = totals_next book step.mark ≡ step.row ∷ []
IsDueAt (due.BaseTable step) at book = next_mark at book ≡ None
IsDueAt (due.Bases step) at book = (next_mark at book ≡ Some step.item) × IsPermutation step.rows.items (bases_of book step.item)
IsDueAt (due.End step) at book = next_mark at book ≡ None

-- what was looked at of the tables, whatever rows they have, calls for this step: what is left at the front of a step, or what is kept of the next item of the book that the registers give
abbrev pub IsCalledFor : Due → Trees → Type 0
IsCalledFor (due.SectorTable step) trees = ⊤
IsCalledFor (due.Sectors step) trees = rows_in sector1 trees ≢ []
IsCalledFor (due.SpanTable step) trees = rows_in sector1 trees ≡ []
IsCalledFor (due.Component step) trees = IsNextIn kept_component step.mark trees (Some step.component)
IsCalledFor (due.TotalTable step) trees = IsNextIn kept_component step.mark trees None
IsCalledFor (due.Total step) trees = (kept : KeptRows) × AreKeptIn kept trees × (next_total step.mark kept.totals.items ≡ Some step.row)
IsCalledFor (due.BaseTable step) trees = (kept : KeptRows) × AreKeptIn kept trees × (next_total step.mark kept.totals.items ≡ None)
IsCalledFor (due.Bases step) trees = (kept : KeptRows) × AreKeptIn kept trees × ((total : TotalRow) × (next_total step.mark kept.totals.items ≡ Some total) × (step.item ≡ total.item)) × (step.rows.items ≡ of_item step.item kept.bases.items)
IsCalledFor (due.End step) trees = (kept : KeptRows) × AreKeptIn kept trees × (next_total step.mark kept.totals.items ≡ None)

-- what the step makes of the tables of a file at the one point, which then is at the other, whatever rows they have
abbrev pub MakesBy : Due → Point → Point → Trees → Trees → Type 0
MakesBy (due.SectorTable step) at to old new = MakesSectors to old new
MakesBy (due.Sectors step) at to old new = MovesSectors step.mark to old new
MakesBy (due.SpanTable step) at to old new = ChangesToSpans to old new
MakesBy (due.Component step) at to old new = MovesComponent step.component to old new
MakesBy (due.TotalTable step) at to old new = ChangesToTotals to old new
MakesBy (due.Total step) at to old new = WritesTotal step.row to old new
MakesBy (due.BaseTable step) at to old new = MakesBases to old new
MakesBy (due.Bases step) at to old new = WritesBases step.item step.rows.items to old new
MakesBy (due.End step) at to old new = Finishes to old new

-- the tables are such that the step can't be made, and the table with this name is why
abbrev pub IsOffFor : Due → Point → TableName → Trees → Type 0
IsOffFor (due.SectorTable step) at name trees = ⊥
IsOffFor (due.Sectors step) at name trees = IsOldOff step.mark name trees
IsOffFor (due.SpanTable step) at name trees = IsLeftOver name trees
IsOffFor (due.Component step) at name trees = IsComponentOff step.component name trees
IsOffFor (due.TotalTable step) at name trees = IsUnmoved name trees
IsOffFor (due.Total step) at name trees = ⊥
IsOffFor (due.BaseTable step) at name trees = ⊥
IsOffFor (due.Bases step) at name trees = ⊥
IsOffFor (due.End step) at name trees = ⊥
