-- The text of a list of an aircraft or of all, whichever list it is.
use Rattle.std.specs.Prelude.{ℕ, List}
use Rattle.mx_lists.specs.declared.report.Report.{Report}
use Rattle.mx_lists.specs.declared.report.Report.TheVariants as report
use Rattle.mx_reports.specs.DueText.{due_lines}
use Rattle.mx_reports.specs.FleetText.{deferred_lines, fleet_lines, outlook_lines}
use Rattle.mx_reports.specs.ForecastText.{forecast_lines}
use Rattle.mx_reports.specs.InventoryText.{aircraft_lines, component_lines}
use Rattle.mx_reports.specs.LifeText.{life_lines}
use Rattle.mx_reports.specs.LimitText.{limit_lines}

-- its text
abbrev pub report_lines : Report → List ℕ
report_lines (report.Life list) = life_lines list
report_lines (report.Due list) = due_lines list
report_lines (report.Forecast list) = forecast_lines list
report_lines (report.Limits list) = limit_lines list
report_lines (report.Fleet list) = fleet_lines list
report_lines (report.Outlook list) = outlook_lines list
report_lines (report.Aircraft rows) = aircraft_lines rows
report_lines (report.Components rows) = component_lines rows
report_lines (report.Deferred list) = deferred_lines list
