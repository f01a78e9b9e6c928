-- Worked rows: of which table it is said how rows are kept.
use Rattle.std.proofs.Common.{refl, ◌≡◌}
use Rattle.std.specs.Prelude.{⊤}
use Rattle.mx_layout.specs.TableName.{TableName}
use Rattle.mx_layout.specs.declared.fault.Table.TheVariants as table
use Rattle.mx_layout.specs.kept.Family.{of_kept}

-- how rows are kept is said of the table with the name, and of `office` nothing
kept_by_name : (name : TableName) → of_kept (Type 0) (λ _ k. k.name ≡ name) ⊤ name
kept_by_name table.Office = tt
kept_by_name table.Entry = refl
kept_by_name table.Aircraft = refl
kept_by_name table.Place = refl
kept_by_name table.Component = refl
kept_by_name table.Programme = refl
kept_by_name table.Task = refl
kept_by_name table.Opening = refl
kept_by_name table.Crs = refl
kept_by_name table.CrsLine = refl
kept_by_name table.Extension = refl
kept_by_name table.Defect = refl
kept_by_name table.Sector1 = refl
kept_by_name table.Fit1 = refl
kept_by_name table.Removal1 = refl
kept_by_name table.Sector2 = refl
kept_by_name table.Span2 = refl
kept_by_name table.Total2 = refl
kept_by_name table.Base2 = refl
kept_by_name table.Defect3 = refl
kept_by_name table.Done3 = refl
