-- The row of the point, behind the step that is due.
use Rattle.std.proofs.Common.{List, [], ◌∷◌, refl, subst}
use Rattle.std.specs.List.Sorted.{IsPermutation}
use Rattle.std.proofs.lemmas.List.Sorted.{IsPermutation-sym, IsPermutation-trans}
use Rattle.sqlite.proofs.Callers.{one_permutation}
use Rattle.sqlite.specs.Order.{Row}
use Rattle.sqlite.specs.Tree.{Trees}
use Rattle.mx_base.specs.declared.point.Point.{Point}
use Rattle.mx_layout.specs.TableName.{TableName}
use Rattle.mx_layout.specs.declared.fault.Table.TheVariants as table
use Rattle.mx_layout.specs.Contents.{rows_in}
use Rattle.mx_layout.specs.Point.{point_cells, FitsPoint}
use Rattle.mx_layout.specs.Tables.{office}
use Rattle.mx_moves.specs.Keeping.{point_set}
use Rattle.mx_moves.specs.steps.Components.{component_moved}
use Rattle.mx_moves.specs.steps.Rows.{MakesRows}
use Rattle.mx_moves.specs.steps.Sectors.{sectors_moved}
use Rattle.mx_moves.specs.steps.Tables.{table_made}
use Rattle.mx_moves.specs.steps.Written.{bases_written, total_written}
use Rattle.mx_moves.proofs.StepsProofs.BatchLemmas.{one_point}
use Rattle.mx_migrate.specs.declared.settle.due.Due.{Due}
use Rattle.mx_migrate.specs.declared.settle.due.Due.TheVariants as due
use Rattle.mx_migrate.specs.settle.Due.{MakesBy}
use Rattle.mx_migrate.specs.settle.Place.{SaysAt}

-- of tables that say their point, what a step makes says the next
says_next : (onto : TableName → List Row → List Row) (at to : Point) (old new : Trees) → IsPermutation (onto table.Office (point_cells at ∷ [])) (point_cells to ∷ []) → FitsPoint to → SaysAt at old → MakesRows onto to old new → SaysAt to new
says_next onto at to old new one fits says made =
    let turned : IsPermutation (onto table.Office (point_cells at ∷ [])) (rows_in office new) = subst (λ rows. IsPermutation (onto table.Office rows) (rows_in office new)) says.says (made.tables table.Office refl) in
    record { fits = fits; lies = made.lies; says = one_permutation (point_cells to) (rows_in office new) (IsPermutation-trans _ _ _ (IsPermutation-sym _ _ one) turned) }

pub due_says : (step : Due) (at to : Point) (old new : Trees) → FitsPoint to → SaysAt at old → MakesBy step at to old new → SaysAt to new
due_says (due.SectorTable step) at to old new fits says it = says_next (table_made table.Sector2 to) at to old new (one_point at to) fits says it.made
due_says (due.Sectors step) at to old new fits says it = says_next (sectors_moved it.rows to) at to old new (one_point at to) fits says it.made
due_says (due.SpanTable step) at to old new fits says it = says_next (table_made table.Span2 to) at to old new (one_point at to) fits says it.made
due_says (due.Component step) at to old new fits says it = says_next (component_moved it.spans to) at to old new (one_point at to) fits says it.made
due_says (due.TotalTable step) at to old new fits says it = says_next (table_made table.Total2 to) at to old new (one_point at to) fits says it.made
due_says (due.Total step) at to old new fits says it = says_next (total_written step.row to) at to old new (one_point at to) fits says it.made
due_says (due.BaseTable step) at to old new fits says it = says_next (table_made table.Base2 to) at to old new (one_point at to) fits says it.made
due_says (due.Bases step) at to old new fits says it = says_next (bases_written step.rows.items to) at to old new (one_point at to) fits says it.made
due_says (due.End step) at to old new fits says it = says_next (point_set to) at to old new (one_point at to) fits says it.made
