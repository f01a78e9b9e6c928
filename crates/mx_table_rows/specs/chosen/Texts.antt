-- The texts that show chosen rows, or delete them, and by which values they are chosen.
use Rattle.std.specs.Prelude.{ℕ, Bool, List, codes, ◌&&◌}
use Rattle.sqlite.specs.Order.{Row, column}
use Rattle.mx_table_rows.specs.chosen.Choices.{has_value, is_between, is_open, is_above, is_up_to, is_any}

-- the rows with the first value in this column
abbrev pub by_value : ℕ → Row → Row → Bool
by_value at values = has_value at (column values 0)

-- the rows with the first two values in these columns
abbrev pub by_values : ℕ → ℕ → Row → Row → Bool
by_values one two values row = has_value one (column values 0) row && has_value two (column values 1) row

-- the rows with these four values in the first four columns
abbrev pub by_four_values : Row → Row → Bool
by_four_values values row = has_value 0 (column values 0) row && (has_value 1 (column values 1) row && (has_value 2 (column values 2) row && has_value 3 (column values 3) row))

-- the rows with the first value in one column, and in another one from the second on and below the third
abbrev pub between : ℕ → ℕ → Row → Row → Bool
between one two values = is_between one (column values 0) two (column values 1) (column values 2)

-- the spans with the first value in this column that nothing ended
abbrev pub open_by : ℕ → Row → Row → Bool
open_by at values = is_open at (column values 0)

-- the rows with more than the first value in this column
abbrev pub above : ℕ → Row → Row → Bool
above at values = is_above at (column values 0)

-- the rows with the first value or less in this column
abbrev pub up_to : ℕ → Row → Row → Bool
up_to at values = is_up_to at (column values 0)

-- all rows
abbrev pub any_row : Row → Row → Bool
any_row values = is_any

-- ── look-ups by the value in one column ──

abbrev pub entry_by_seq : List ℕ
entry_by_seq = codes "SELECT seq, doc, kind FROM entry WHERE seq = ?1 ORDER BY seq"

abbrev pub entry_by_doc : List ℕ
entry_by_doc = codes "SELECT seq, doc, kind FROM entry WHERE doc = ?1 ORDER BY seq"

abbrev pub aircraft_by_seq : List ℕ
aircraft_by_seq = codes "SELECT seq, tail, kind, birth, minutes, cycles, as_of FROM aircraft WHERE seq = ?1 ORDER BY seq"

abbrev pub aircraft_by_tail : List ℕ
aircraft_by_tail = codes "SELECT seq, tail, kind, birth, minutes, cycles, as_of FROM aircraft WHERE tail = ?1 ORDER BY seq"

abbrev pub place_by_seq : List ℕ
place_by_seq = codes "SELECT seq, line, position, part FROM place WHERE seq = ?1 ORDER BY seq, line"

abbrev pub component_by_seq : List ℕ
component_by_seq = codes "SELECT seq, serial, part, birth, minutes, cycles, as_of FROM component WHERE seq = ?1 ORDER BY seq"

abbrev pub component_by_serial : List ℕ
component_by_serial = codes "SELECT seq, serial, part, birth, minutes, cycles, as_of FROM component WHERE serial = ?1 ORDER BY seq"

abbrev pub programme_by_seq : List ℕ
programme_by_seq = codes "SELECT seq, kind, revision FROM programme WHERE seq = ?1 ORDER BY seq"

abbrev pub programme_by_kind : List ℕ
programme_by_kind = codes "SELECT seq, kind, revision FROM programme WHERE kind = ?1 ORDER BY seq"

abbrev pub task_by_seq : List ℕ
task_by_seq = codes "SELECT seq, line, id, part, retire, first_m, first_c, first_d, rep_m, rep_c, rep_d, tol_m, tol_c, tol_d FROM task WHERE seq = ?1 ORDER BY seq, line"

abbrev pub opening_by_seq : List ℕ
opening_by_seq = codes "SELECT seq, item, kind, task, minutes, cycles, day FROM opening WHERE seq = ?1 ORDER BY seq"

abbrev pub crs_by_seq : List ℕ
crs_by_seq = codes "SELECT seq, item, kind, moment FROM crs WHERE seq = ?1 ORDER BY seq"

abbrev pub crs_by_item : List ℕ
crs_by_item = codes "SELECT seq, item, kind, moment FROM crs WHERE item = ?1 ORDER BY seq"

abbrev pub crs_line_by_seq : List ℕ
crs_line_by_seq = codes "SELECT seq, line, item, task, defect FROM crs_line WHERE seq = ?1 ORDER BY seq, line"

abbrev pub crs_line_by_defect : List ℕ
crs_line_by_defect = codes "SELECT seq, line, item, task, defect FROM crs_line WHERE defect = ?1 ORDER BY seq, line"

abbrev pub defect_by_seq : List ℕ
defect_by_seq = codes "SELECT seq, aircraft, moment, reference, category, days FROM defect WHERE seq = ?1 ORDER BY seq"

abbrev pub defect_by_aircraft : List ℕ
defect_by_aircraft = codes "SELECT seq, aircraft, moment, reference, category, days FROM defect WHERE aircraft = ?1 ORDER BY seq"

abbrev pub extension_by_seq : List ℕ
extension_by_seq = codes "SELECT seq, defect, day, days FROM extension WHERE seq = ?1 ORDER BY seq"

abbrev pub extension_by_defect : List ℕ
extension_by_defect = codes "SELECT seq, defect, day, days FROM extension WHERE defect = ?1 ORDER BY seq"

abbrev pub span2_by_fit_seq : List ℕ
span2_by_fit_seq = codes "SELECT fit_seq, component, aircraft, position, from_min, remove_seq, to_min FROM span2 WHERE fit_seq = ?1 ORDER BY fit_seq"

abbrev pub span2_by_component : List ℕ
span2_by_component = codes "SELECT fit_seq, component, aircraft, position, from_min, remove_seq, to_min FROM span2 WHERE component = ?1 ORDER BY fit_seq"

abbrev pub span2_by_aircraft : List ℕ
span2_by_aircraft = codes "SELECT fit_seq, component, aircraft, position, from_min, remove_seq, to_min FROM span2 WHERE aircraft = ?1 ORDER BY fit_seq"

abbrev pub span2_by_remove_seq : List ℕ
span2_by_remove_seq = codes "SELECT fit_seq, component, aircraft, position, from_min, remove_seq, to_min FROM span2 WHERE remove_seq = ?1 ORDER BY fit_seq"

abbrev pub sector2_by_seq : List ℕ
sector2_by_seq = codes "SELECT seq, aircraft, page, line, took_off, landed, cycles FROM sector2 WHERE seq = ?1 ORDER BY seq"

abbrev pub sector2_by_aircraft : List ℕ
sector2_by_aircraft = codes "SELECT seq, aircraft, page, line, took_off, landed, cycles FROM sector2 WHERE aircraft = ?1 ORDER BY seq"

abbrev pub total2_by_item : List ℕ
total2_by_item = codes "SELECT item, minutes, cycles, clock FROM total2 WHERE item = ?1 ORDER BY item"

abbrev pub base2_by_item_and_task : List ℕ
base2_by_item_and_task = codes "SELECT item, task, minutes, cycles, day FROM base2 WHERE item = ?1 AND task = ?2 ORDER BY item, task"

abbrev pub defect3_by_seq : List ℕ
defect3_by_seq = codes "SELECT seq, aircraft, moment, reference, category, days, cycles, found_cycles FROM defect3 WHERE seq = ?1 ORDER BY seq"

abbrev pub defect3_by_aircraft : List ℕ
defect3_by_aircraft = codes "SELECT seq, aircraft, moment, reference, category, days, cycles, found_cycles FROM defect3 WHERE aircraft = ?1 ORDER BY seq"

abbrev pub done3_by_item : List ℕ
done3_by_item = codes "SELECT item, task, seq, line, value_m, value_c, value_d, due_m, due_c, due_d, base_m, base_c, base_d FROM done3 WHERE item = ?1 ORDER BY item, task, seq, line"

abbrev pub done3_by_item_and_task : List ℕ
done3_by_item_and_task = codes "SELECT item, task, seq, line, value_m, value_c, value_d, due_m, due_c, due_d, base_m, base_c, base_d FROM done3 WHERE item = ?1 AND task = ?2 ORDER BY item, task, seq, line"

-- ── look-ups by the value in one column, and by bounds of another ──

abbrev pub sector2_between : List ℕ
sector2_between = codes "SELECT seq, aircraft, page, line, took_off, landed, cycles FROM sector2 WHERE aircraft = ?1 AND took_off >= ?2 AND took_off < ?3 ORDER BY seq"

abbrev pub crs_between : List ℕ
crs_between = codes "SELECT seq, item, kind, moment FROM crs WHERE item = ?1 AND moment >= ?2 AND moment < ?3 ORDER BY seq"

-- ── open spans ──

abbrev pub open_spans_by_component : List ℕ
open_spans_by_component = codes "SELECT fit_seq, component, aircraft, position, from_min, remove_seq, to_min FROM span2 WHERE component = ?1 AND remove_seq IS NULL ORDER BY fit_seq"

abbrev pub open_spans_by_aircraft : List ℕ
open_spans_by_aircraft = codes "SELECT fit_seq, component, aircraft, position, from_min, remove_seq, to_min FROM span2 WHERE aircraft = ?1 AND remove_seq IS NULL ORDER BY fit_seq"

-- ── all rows of a table ──

abbrev pub all_aircraft : List ℕ
all_aircraft = codes "SELECT seq, tail, kind, birth, minutes, cycles, as_of FROM aircraft ORDER BY seq"

abbrev pub all_components : List ℕ
all_components = codes "SELECT seq, serial, part, birth, minutes, cycles, as_of FROM component ORDER BY seq"

abbrev pub all_defects : List ℕ
all_defects = codes "SELECT seq, aircraft, moment, reference, category, days FROM defect ORDER BY seq"

abbrev pub all_crs_lines : List ℕ
all_crs_lines = codes "SELECT seq, line, item, task, defect FROM crs_line ORDER BY seq, line"

abbrev pub all_defects3 : List ℕ
all_defects3 = codes "SELECT seq, aircraft, moment, reference, category, days, cycles, found_cycles FROM defect3 ORDER BY seq"

-- ── the last row ──

abbrev pub last_entry : List ℕ
last_entry = codes "SELECT seq, doc, kind FROM entry ORDER BY seq DESC LIMIT 1"

-- ── rows that are deleted ──

abbrev pub sector1_gone : List ℕ
sector1_gone = codes "DELETE FROM sector1 WHERE seq <= ?1"

abbrev pub fit1_gone : List ℕ
fit1_gone = codes "DELETE FROM fit1 WHERE component = ?1"
