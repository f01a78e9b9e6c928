use Rattle.std.proofs.Common.{◌≡◌, map, take}
use Rattle.mx_base.specs.declared.rows.rows.Sector2Row.{Sector2Row}
use Rattle.mx_migrate.proofs.sectors.as_numbered.Given as goal

-- the rows so far are there
abbrev pub invariant-rows : goal.invariant-rows
invariant-rows l = map (λ (row : Sector2Row). row.sector) l.numbered.items ≡ take l.row-index l.rows
