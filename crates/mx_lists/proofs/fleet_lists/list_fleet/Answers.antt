use Rattle.std.proofs.Common.{List, ap, ◌∙◌}
use Rattle.mx_book.proofs.Chaining.{first, done}
use Rattle.mx_lists.specs.declared.due_row.DueRow.{DueRow}
use Rattle.mx_lists.specs.declared.fleet_row.FleetRow.{FleetRow}
use Rattle.mx_lists.proofs.AmongAll.{fleet_by_all}
use Rattle.mx_lists.proofs.fleet_lists.list_fleet.Goals as goal

pub returns : goal.returns
returns g c =
    done _ _ (first c.in_ok-rows.ensures) (λ book is.
    ap (λ (rows : List (FleetRow DueRow)). record { day = c.args.day; rows = rows }) (is ∙ fleet_by_all book c.args.day))
