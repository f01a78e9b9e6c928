-- When a table is damaged, whatever rows stand there.
use Rattle.std.specs.Prelude.{◌≡◌, ◌⊎◌, ◌+◌, ◌≤◌, ◌^◌, ℕ, pos, Bool, true, false, List, [], ◌∷◌, filter, length, Contains}
use Rattle.sqlite.specs.declared.types.Value.TheVariants.{Int}
use Rattle.sqlite.specs.Order.{Row, column}
use Rattle.sqlite.specs.Tree.{Trees}
use Rattle.mx_book.specs.commands.Programme.{task_shape}
use Rattle.mx_book.specs.due.Due.{IsLife}
use Rattle.mx_registers.specs.Merge.{task_said}
use Rattle.mx_base.specs.rows.Rows.{kind_number}
use Rattle.mx_base.specs.declared.rows.rows.EntryKind.TheVariants.{Defer}
use Rattle.mx_layout.specs.TableName.{TableName}
use Rattle.mx_layout.specs.declared.fault.Table.TheVariants as table
use Rattle.mx_layout.specs.Contents.{rows_in}
use Rattle.mx_layout.specs.Names.{table_named}
use Rattle.mx_layout.specs.Reading.{HasOther}
use Rattle.mx_layout.specs.kept.Cells.{kept_base2, kept_done3, kept_programme, kept_task, kept_total2}
use Rattle.mx_layout.specs.kept.Family.{IsReadable}
use Rattle.mx_layout.specs.kept.Kept.{Kept}
use Rattle.mx_table_rows.specs.chosen.Choices.{has_value, is_any}
use Rattle.mx_row_rules.specs.found.Lives.{life_in_base}

-- ── what a row needs in another table ──

-- which rows of one table need a row of another, the column whose value that one has in its first column, and the table that is told damaged where there is none
pub record Need : Type 0 where
  pub from : TableName
  pub has : Row → Bool
  pub at : ℕ
  pub to : TableName
  pub told : TableName

-- the entry of a deferral
abbrev pub is_deferral : Row → Bool
is_deferral = has_value 2 (Int (pos (kind_number Defer)))

-- where a component is or was fitted, the component and the aircraft; an aircraft and a component, their totals; an entry that defers a defect, its deferral, and that its entry and its aircraft; an extension, the deferral of its defect; and what deferrals need, of those of layout 3
abbrev pub needs : List Need
needs = record { from = table.Span2; has = is_any; at = 1; to = table.Component; told = table.Span2 }
    ∷ record { from = table.Span2; has = is_any; at = 2; to = table.Aircraft; told = table.Span2 }
    ∷ record { from = table.Aircraft; has = is_any; at = 0; to = table.Total2; told = table.Total2 }
    ∷ record { from = table.Component; has = is_any; at = 0; to = table.Total2; told = table.Total2 }
    ∷ record { from = table.Entry; has = is_deferral; at = 0; to = table.Defect; told = table.Defect }
    ∷ record { from = table.Defect; has = is_any; at = 0; to = table.Entry; told = table.Defect }
    ∷ record { from = table.Defect; has = is_any; at = 1; to = table.Aircraft; told = table.Defect }
    ∷ record { from = table.Extension; has = is_any; at = 1; to = table.Defect; told = table.Extension }
    ∷ record { from = table.Entry; has = is_deferral; at = 0; to = table.Defect3; told = table.Defect3 }
    ∷ record { from = table.Defect3; has = is_any; at = 0; to = table.Entry; told = table.Defect3 }
    ∷ record { from = table.Defect3; has = is_any; at = 1; to = table.Aircraft; told = table.Defect3 } ∷ []

-- there is a row whose need is not met
pub record IsUnmet (need : Need) (trees : Trees) : Type 0 where
  pub row : Row
  pub there : Contains (rows_in (table_named need.from) trees) row
  pub has : need.has row ≡ true
  pub missed : filter (has_value 0 (column row need.at)) (rows_in (table_named need.to) trees) ≡ []

-- ── what is past what the office needs ──

-- this is kept in the table
pub record IsKept {X : Type 0} (k : Kept X) (trees : Trees) (x : X) : Type 0 where
  pub fits : k.Fits x
  pub there : Contains (rows_in (table_named k.name) trees) (k.as_cells x)

-- the table has a row that can be read and of which this is so
abbrev pub HasRow : {X : Type 0} → Kept X → (X → Type 0) → Trees → Type 0
HasRow {X} k Is trees = (x : X) × IsKept k trees x × Is x

-- the table has more rows than 32 bits count
abbrev pub IsUncounted : TableName → Trees → Type 0
IsUncounted name trees = 2 ^ 32 ≤ length (rows_in (table_named name) trees)

-- a programme has the last revision of 32 bits, a task lacks its shape, a total, a last base or the base of an accomplishment is past a life, or there are more aircraft or components than 32 bits count
abbrev pub IsPast : TableName → Trees → Type 0
IsPast table.Programme = HasRow kept_programme (λ row. 2 ^ 32 ≤ row.revision + 1)
IsPast table.Task = HasRow kept_task (λ row. task_shape (task_said row) ≡ false)
IsPast table.Total2 = HasRow kept_total2 (λ row. ¬ IsLife row.life)
IsPast table.Base2 = HasRow kept_base2 (λ row. ¬ IsLife row.life)
IsPast table.Done3 = HasRow kept_done3 (λ row. ¬ IsLife (life_in_base row.base))
IsPast table.Aircraft = IsUncounted table.Aircraft
IsPast table.Component = IsUncounted table.Component
IsPast _ = λ trees. ⊥

-- a row of the table is none of its type, a need by which it is told is not met, or it has what is past what the office needs
unfoldable pub IsDamaged : TableName → Trees → Type 0
IsDamaged name trees = HasOther (IsReadable name) (rows_in (table_named name) trees) ⊎ (((need : Need) × Contains needs need × (need.told ≡ name) × IsUnmet need trees) ⊎ IsPast name trees)
