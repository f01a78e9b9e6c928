use Rattle.std.proofs.Common.{List, ap, ◌∙◌}
use Rattle.mx_book.proofs.Chaining.{first, done}
use Rattle.mx_lists.specs.declared.fleet_row.FleetRow.{FleetRow}
use Rattle.mx_lists.specs.declared.forecast.ForecastRow.{ForecastRow}
use Rattle.mx_lists.proofs.AmongAll.{outlook_by_all}
use Rattle.mx_lists.proofs.fleet_lists.list_outlook.Goals as goal

pub returns : goal.returns
returns g c =
    done _ _ (first c.in_ok-rows.ensures) (λ book is.
    ap (λ (rows : List (FleetRow ForecastRow)). record {
      day = c.args.day;
      days = c.args.days;
      minutes = c.args.minutes;
      cycles = c.args.cycles;
      rows = rows;
    })
    (is ∙ outlook_by_all book c.args.day c.args.days c.args.minutes c.args.cycles))
