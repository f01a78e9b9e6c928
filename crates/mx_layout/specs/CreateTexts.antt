-- The texts that make and drop the tables of the layouts.
use Rattle.std.specs.Prelude.{ℕ, List, codes}

-- the text that makes the table of this name
abbrev pub office_text : List ℕ
office_text = codes "CREATE TABLE office (id INTEGER PRIMARY KEY CHECK (id = 1), layout INTEGER NOT NULL, step INTEGER NOT NULL, mark INTEGER NOT NULL) STRICT"

abbrev pub entry_text : List ℕ
entry_text = codes "CREATE TABLE entry (seq INTEGER PRIMARY KEY, doc TEXT NOT NULL UNIQUE, kind INTEGER NOT NULL) STRICT"

abbrev pub aircraft_text : List ℕ
aircraft_text = codes "CREATE TABLE aircraft (seq INTEGER PRIMARY KEY, tail TEXT NOT NULL UNIQUE, kind TEXT NOT NULL, birth INTEGER NOT NULL, minutes INTEGER NOT NULL, cycles INTEGER NOT NULL, as_of INTEGER NOT NULL) STRICT"

abbrev pub place_text : List ℕ
place_text = codes "CREATE TABLE place (seq INTEGER NOT NULL, line INTEGER NOT NULL, position TEXT NOT NULL, part TEXT NOT NULL, PRIMARY KEY (seq, line)) STRICT"

abbrev pub component_text : List ℕ
component_text = codes "CREATE TABLE component (seq INTEGER PRIMARY KEY, serial TEXT NOT NULL UNIQUE, part TEXT NOT NULL, birth INTEGER NOT NULL, minutes INTEGER NOT NULL, cycles INTEGER NOT NULL, as_of INTEGER NOT NULL) STRICT"

abbrev pub programme_text : List ℕ
programme_text = codes "CREATE TABLE programme (seq INTEGER PRIMARY KEY, kind TEXT NOT NULL, revision INTEGER NOT NULL) STRICT"

abbrev pub task_text : List ℕ
task_text = codes "CREATE TABLE task (seq INTEGER NOT NULL, line INTEGER NOT NULL, id TEXT NOT NULL, part TEXT, retire INTEGER NOT NULL, first_m INTEGER, first_c INTEGER, first_d INTEGER, rep_m INTEGER, rep_c INTEGER, rep_d INTEGER, tol_m INTEGER NOT NULL, tol_c INTEGER NOT NULL, tol_d INTEGER NOT NULL, PRIMARY KEY (seq, line)) STRICT"

abbrev pub opening_text : List ℕ
opening_text = codes "CREATE TABLE opening (seq INTEGER PRIMARY KEY, item INTEGER NOT NULL, kind TEXT NOT NULL, task TEXT NOT NULL, minutes INTEGER NOT NULL, cycles INTEGER NOT NULL, day INTEGER NOT NULL) STRICT"

abbrev pub crs_text : List ℕ
crs_text = codes "CREATE TABLE crs (seq INTEGER PRIMARY KEY, item INTEGER NOT NULL, kind TEXT, moment INTEGER NOT NULL) STRICT"

abbrev pub crs_line_text : List ℕ
crs_line_text = codes "CREATE TABLE crs_line (seq INTEGER NOT NULL, line INTEGER NOT NULL, item INTEGER, task TEXT, defect INTEGER, PRIMARY KEY (seq, line)) STRICT"

abbrev pub extension_text : List ℕ
extension_text = codes "CREATE TABLE extension (seq INTEGER PRIMARY KEY, defect INTEGER NOT NULL, day INTEGER NOT NULL, days INTEGER NOT NULL) STRICT"

abbrev pub defect_text : List ℕ
defect_text = codes "CREATE TABLE defect (seq INTEGER PRIMARY KEY, aircraft INTEGER NOT NULL, moment INTEGER NOT NULL, reference TEXT NOT NULL, category INTEGER NOT NULL, days INTEGER) STRICT"

abbrev pub sector1_text : List ℕ
sector1_text = codes "CREATE TABLE sector1 (seq INTEGER PRIMARY KEY, aircraft INTEGER NOT NULL, page INTEGER NOT NULL, line INTEGER NOT NULL, took_off TEXT NOT NULL, landed TEXT NOT NULL, cycles INTEGER NOT NULL) STRICT"

abbrev pub fit1_text : List ℕ
fit1_text = codes "CREATE TABLE fit1 (seq INTEGER PRIMARY KEY, component INTEGER NOT NULL, aircraft INTEGER NOT NULL, position TEXT NOT NULL, moment TEXT NOT NULL) STRICT"

abbrev pub removal1_text : List ℕ
removal1_text = codes "CREATE TABLE removal1 (seq INTEGER PRIMARY KEY, component INTEGER NOT NULL, moment TEXT NOT NULL) STRICT"

abbrev pub sector2_text : List ℕ
sector2_text = codes "CREATE TABLE sector2 (seq INTEGER PRIMARY KEY, aircraft INTEGER NOT NULL, page INTEGER NOT NULL, line INTEGER NOT NULL, took_off INTEGER NOT NULL, landed INTEGER NOT NULL, cycles INTEGER NOT NULL) STRICT"

abbrev pub span2_text : List ℕ
span2_text = codes "CREATE TABLE span2 (fit_seq INTEGER PRIMARY KEY, component INTEGER NOT NULL, aircraft INTEGER NOT NULL, position TEXT NOT NULL, from_min INTEGER NOT NULL, remove_seq INTEGER, to_min INTEGER) STRICT"

abbrev pub total2_text : List ℕ
total2_text = codes "CREATE TABLE total2 (item INTEGER PRIMARY KEY, minutes INTEGER NOT NULL, cycles INTEGER NOT NULL, clock INTEGER NOT NULL) STRICT"

abbrev pub base2_text : List ℕ
base2_text = codes "CREATE TABLE base2 (item INTEGER NOT NULL, task TEXT NOT NULL, minutes INTEGER NOT NULL, cycles INTEGER NOT NULL, day INTEGER NOT NULL, PRIMARY KEY (item, task)) STRICT"

abbrev pub defect3_text : List ℕ
defect3_text = codes "CREATE TABLE defect3 (seq INTEGER PRIMARY KEY, aircraft INTEGER NOT NULL, moment INTEGER NOT NULL, reference TEXT NOT NULL, category INTEGER NOT NULL, days INTEGER, cycles INTEGER, found_cycles INTEGER NOT NULL) STRICT"

abbrev pub done3_text : List ℕ
done3_text = codes "CREATE TABLE done3 (item INTEGER NOT NULL, task TEXT NOT NULL, seq INTEGER NOT NULL, line INTEGER NOT NULL, value_m INTEGER NOT NULL, value_c INTEGER NOT NULL, value_d INTEGER NOT NULL, due_m INTEGER, due_c INTEGER, due_d INTEGER, base_m INTEGER NOT NULL, base_c INTEGER NOT NULL, base_d INTEGER NOT NULL, PRIMARY KEY (item, task, seq, line)) STRICT"

-- the text that drops the table of this name
abbrev pub sector1_dropped : List ℕ
sector1_dropped = codes "DROP TABLE sector1"

abbrev pub fit1_dropped : List ℕ
fit1_dropped = codes "DROP TABLE fit1"

abbrev pub removal1_dropped : List ℕ
removal1_dropped = codes "DROP TABLE removal1"

abbrev pub defect_dropped : List ℕ
defect_dropped = codes "DROP TABLE defect"

abbrev pub base2_dropped : List ℕ
base2_dropped = codes "DROP TABLE base2"

-- the text that makes the index of this name
abbrev pub span2_by_component_text : List ℕ
span2_by_component_text = codes "CREATE INDEX span2_by_component ON span2 (component)"

abbrev pub span2_by_aircraft_text : List ℕ
span2_by_aircraft_text = codes "CREATE INDEX span2_by_aircraft ON span2 (aircraft)"

abbrev pub span2_by_remove_seq_text : List ℕ
span2_by_remove_seq_text = codes "CREATE INDEX span2_by_remove_seq ON span2 (remove_seq)"

abbrev pub crs_line_by_defect_text : List ℕ
crs_line_by_defect_text = codes "CREATE INDEX crs_line_by_defect ON crs_line (defect)"

abbrev pub extension_by_defect_text : List ℕ
extension_by_defect_text = codes "CREATE INDEX extension_by_defect ON extension (defect)"

abbrev pub defect_by_aircraft_text : List ℕ
defect_by_aircraft_text = codes "CREATE INDEX defect_by_aircraft ON defect (aircraft)"

abbrev pub defect3_by_aircraft_text : List ℕ
defect3_by_aircraft_text = codes "CREATE INDEX defect3_by_aircraft ON defect3 (aircraft)"

abbrev pub sector2_by_aircraft_text : List ℕ
sector2_by_aircraft_text = codes "CREATE INDEX sector2_by_aircraft ON sector2 (aircraft, took_off)"

abbrev pub crs_by_item_text : List ℕ
crs_by_item_text = codes "CREATE INDEX crs_by_item ON crs (item, moment)"
