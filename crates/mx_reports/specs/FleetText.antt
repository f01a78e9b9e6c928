-- The texts of the lists of all aircraft: each row as that of its own list, with the registration in it.
use Rattle.std.specs.Prelude.{ℕ, List, [], ◌∷◌, ◌++◌, codes, length}
use Rattle.std.specs.List.{flat_map}
use Rattle.mx_base.specs.Texts.{day_text}
use Rattle.mx_lists.specs.declared.due_row.DueRow.{DueRow}
use Rattle.mx_lists.specs.declared.fleet_lists.DeferredList.{DeferredList}
use Rattle.mx_lists.specs.declared.fleet_lists.FleetList.{FleetList}
use Rattle.mx_lists.specs.declared.fleet_lists.OutlookList.{OutlookList}
use Rattle.mx_lists.specs.declared.fleet_row.FleetRow.{FleetRow}
use Rattle.mx_lists.specs.declared.forecast.ForecastRow.{ForecastRow}
use Rattle.mx_lists.specs.declared.limit_list.LimitRow.{LimitRow}
use Rattle.mx_lists.specs.DueRow.{row_status}
use Rattle.mx_reports.specs.DueText.{due_words}
use Rattle.mx_reports.specs.ForecastText.{date_words, rate_words, reached_words}
use Rattle.mx_reports.specs.LimitText.{limit_words}
use Rattle.mx_reports.specs.Words.{spaced, status_word, end_line}

-- WORD DAY: the first line of a list of all aircraft on a day
abbrev pub head_on_day : List ℕ → ℕ → List ℕ
head_on_day word day = word ++ (spaced (day_text day) ++ 10 ∷ [])

-- STATUS TAIL, and what is due
abbrev pub fleet_line : FleetRow DueRow → List ℕ
fleet_line r = status_word (row_status r.row) ++ (spaced r.tail ++ due_words r.row)

-- fleet DAY; a line for each row; end N, where N counts the rows
abbrev pub fleet_lines : FleetList → List ℕ
fleet_lines l = head_on_day (codes "fleet") l.day ++ (flat_map fleet_line l.rows ++ end_line (length l.rows))

-- N DAY TAIL, and what is reached then
abbrev pub outlook_line : FleetRow ForecastRow → List ℕ
outlook_line r = date_words r.row ++ (spaced r.tail ++ (reached_words r.row.row ++ 10 ∷ []))

-- outlook DAY DAYS MINUTES CYCLES
abbrev pub outlook_head : OutlookList → List ℕ
outlook_head l = codes "outlook" ++ (spaced (day_text l.day) ++ (rate_words l.days l.minutes l.cycles ++ 10 ∷ []))

-- that line; a line for each row; end N, where N counts the rows
abbrev pub outlook_lines : OutlookList → List ℕ
outlook_lines l = outlook_head l ++ (flat_map outlook_line l.rows ++ end_line (length l.rows))

-- STATUS TAIL, the words of the defect, and what is left until its last day
abbrev pub deferred_line : FleetRow LimitRow → List ℕ
deferred_line r = status_word r.row.status ++ (spaced r.tail ++ limit_words r.row)

-- deferred DAY; a line for each row; end N, where N counts the rows
abbrev pub deferred_lines : DeferredList → List ℕ
deferred_lines l = head_on_day (codes "deferred") l.day ++ (flat_map deferred_line l.rows ++ end_line (length l.rows))
