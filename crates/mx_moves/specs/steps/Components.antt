-- The step that moves the fittings and removals of one component to the spans.
use Rattle.std.specs.Prelude.{◌≡◌, ◌⊎◌, ℕ, pos, nat_eq, Bool, List, filter, map, All, None, Ok, Err}
use Rattle.sqlite.specs.declared.types.Value.TheVariants.{Int}
use Rattle.sqlite.specs.Order.{Row}
use Rattle.sqlite.specs.Tree.{Trees}
use Rattle.mx_book.specs.commands.Act.{Entry}
use Rattle.mx_base.specs.declared.rows.rows.FittingRow.{FittingRow}
use Rattle.mx_base.specs.declared.rows.rows.RemovalRow.{RemovalRow}
use Rattle.mx_base.specs.declared.rows.rows.SpanRow.{SpanRow}
use Rattle.mx_base.specs.rows.Rows.{FitsFitting, FitsRemoval}
use Rattle.mx_registers.specs.Registers.{fitting_rows, removal_rows}
use Rattle.mx_registers.specs.kept.Spans.{span_rows}
use Rattle.mx_base.specs.declared.point.Point.{Point}
use Rattle.mx_registers.specs.points.Points.{moving}
use Rattle.mx_layout.specs.TableName.{TableName}
use Rattle.mx_layout.specs.declared.fault.Table.TheVariants as table
use Rattle.mx_layout.specs.Tables.{fit1, removal1}
use Rattle.mx_layout.specs.kept.Cells.{kept_fit1, kept_removal1, kept_span2}
use Rattle.mx_layout.specs.kept.Family.{on_top}
use Rattle.mx_table_rows.specs.chosen.Choices.{AreFirst, has_value}
use Rattle.mx_tables.specs.inserts.Sets.{IsDamaged}
use Rattle.mx_moves.specs.Changes.{less}
use Rattle.mx_moves.specs.Keeping.{point_set}
use Rattle.mx_moves.specs.steps.Pairing.{spans_made}
use Rattle.mx_moves.specs.steps.Rows.{MakesRows}

-- the rows of a component, by its number in the second column
abbrev pub is_of_component : ℕ → Row → Bool
is_of_component component = has_value 1 (Int (pos component))

-- these are all fittings of the component in the old table
pub record AreFittings (component : ℕ) (trees : Trees) (rows : List FittingRow) : Type 0 where
  pub all : AreFirst None kept_fit1.order fit1 (is_of_component component) trees (map kept_fit1.as_cells rows)
  pub fit : All FitsFitting rows

-- these are all removals of the component in the old table
pub record AreRemovals (component : ℕ) (trees : Trees) (rows : List RemovalRow) : Type 0 where
  pub all : AreFirst None kept_removal1.order removal1 (is_of_component component) trees (map kept_removal1.as_cells rows)
  pub fit : All FitsRemoval rows

-- these spans are there, the fittings and removals of the component with the mark's number are gone, and the point is this one
abbrev pub component_moved : List SpanRow → Point → TableName → List Row → List Row
component_moved spans to name old =
    point_set to name (less kept_removal1 (is_of_component to.mark) name (less kept_fit1 (is_of_component to.mark) name (on_top kept_span2 spans name old)))

-- the fittings and removals of the component moved, as the spans that they make, and the point is that of the component
pub record MovesComponent (component : ℕ) (to : Point) (old new : Trees) : Type 0 where
  pub fittings : List FittingRow
  pub removals : List RemovalRow
  pub spans : List SpanRow
  pub fitted : AreFittings component old fittings
  pub removed : AreRemovals component old removals
  pub made_of : spans_made fittings removals ≡ Ok spans
  pub point : to ≡ moving 2 component
  pub made : MakesRows (component_moved spans to) to old new

-- a row of the old table is no fitting or no removal; or the fittings and removals of the component make no spans, and the table with one whose number no entry can have, else with the first that is out of turn, is this one
abbrev pub IsComponentOff : ℕ → TableName → Trees → Type 0
IsComponentOff component name trees =
    (((name ≡ table.Fit1) ⊎ (name ≡ table.Removal1)) × IsDamaged trees name)
    ⊎ ((fittings : List FittingRow) × (removals : List RemovalRow) × AreFittings component trees fittings × AreRemovals component trees removals × (spans_made fittings removals ≡ Err name))

-- ── of a book ──

-- the fittings of a component of a book, by its number
abbrev pub fittings_by : List Entry → ℕ → List FittingRow
fittings_by book component = filter (λ (row : FittingRow). nat_eq row.component component) (fitting_rows book)

-- the removals of a component of a book, by its number
abbrev pub removals_by : List Entry → ℕ → List RemovalRow
removals_by book component = filter (λ (row : RemovalRow). nat_eq row.component component) (removal_rows book)

-- the spans of a component of a book, by its number
abbrev pub spans_by : List Entry → ℕ → List SpanRow
spans_by book component = filter (λ (row : SpanRow). nat_eq row.component component) (span_rows book)
