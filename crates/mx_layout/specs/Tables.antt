-- The tables of layouts 1, 2 and 3: their columns and keys, and the schemas that they make.
use Rattle.std.specs.Prelude.{◌≡◌, ℕ, pos, Bool, true, false, List, [], ◌∷◌, Some, None, codes}
use Rattle.sqlite.specs.Collation.TheVariants.{Binary}
use Rattle.sqlite.specs.declared.types.Value.TheVariants.{Null, Int}
use Rattle.sqlite.specs.Table.{Table}
use Rattle.sqlite.specs.Schema.{Schema}
use Rattle.sqlite.specs.Kind.TheVariants.{Integer, Text}
use Rattle.sqlite.specs.Term.{lit, col}
use Rattle.sqlite_schema.specs.declared.schema.Column.{Column}
use Rattle.sqlite_schema.specs.declared.schema.Index.{Index}
use Rattle.sqlite_value.specs.Keys.{plain}
use Rattle.sqlite_sql.specs.Term.{op2}
use Rattle.sqlite_sql.specs.declared.ops.BinaryOp.TheVariants.{Compare}
use Rattle.sqlite_sql.specs.declared.ops.CompareOp.TheVariants.{Eq}

-- a column of whole numbers of a strict table
abbrev pub integer : List ℕ → Bool → Column
integer name not_null = record { name = name; kind = Integer; is_strict = true; not_null = not_null; default = Null; collation = Binary }

-- a column of texts of a strict table
abbrev pub text : List ℕ → Bool → Column
text name not_null = record { name = name; kind = Text; is_strict = true; not_null = not_null; default = Null; collation = Binary }

-- a table whose first column is the rowid
abbrev pub keyed : List ℕ → ℕ → List Column → Table
keyed name tree columns = record {
  name = name;
  tree = tree;
  columns = columns;
  key = Some 0;
  primary = 0 ∷ [];
  uniques = [];
  orders = [];
  checks = [];
  references = [];
  computed = [];
  stamps = record { places = []; terms = []; formats = [] };
  is_counted = false;
}

-- where the file stands: the one row of the point
abbrev pub office : Table
office = record (keyed (codes "office") 0 (integer (codes "id") false ∷ integer (codes "layout") true ∷ integer (codes "step") true ∷ integer (codes "mark") true ∷ [])) { checks = op2 (Compare Eq Binary) (col 1 0) (lit (Int (pos 1))) ∷ [] }

-- every entry: its document and its kind
abbrev pub entry : Table
entry = record (keyed (codes "entry") 1 (integer (codes "seq") false ∷ text (codes "doc") true ∷ integer (codes "kind") true ∷ [])) { uniques = (2 ∷ []) ∷ []; orders = plain ∷ [] }

-- an aircraft and its opening
abbrev pub aircraft : Table
aircraft = record (keyed (codes "aircraft") 3 (integer (codes "seq") false ∷ text (codes "tail") true ∷ text (codes "kind") true ∷ integer (codes "birth") true ∷ integer (codes "minutes") true ∷ integer (codes "cycles") true ∷ integer (codes "as_of") true ∷ [])) { uniques = (2 ∷ []) ∷ []; orders = plain ∷ [] }

-- a position of an aircraft, and the part that it takes
abbrev pub place : Table
place = record (keyed (codes "place") 5 (integer (codes "seq") true ∷ integer (codes "line") true ∷ text (codes "position") true ∷ text (codes "part") true ∷ [])) { key = None; primary = 1 ∷ 2 ∷ []; uniques = (1 ∷ 2 ∷ []) ∷ []; orders = plain ∷ [] }

-- a component and its opening
abbrev pub component : Table
component = record (keyed (codes "component") 7 (integer (codes "seq") false ∷ text (codes "serial") true ∷ text (codes "part") true ∷ integer (codes "birth") true ∷ integer (codes "minutes") true ∷ integer (codes "cycles") true ∷ integer (codes "as_of") true ∷ [])) { uniques = (2 ∷ []) ∷ []; orders = plain ∷ [] }

-- a revision of a maintenance programme
abbrev pub programme : Table
programme = keyed (codes "programme") 9 (integer (codes "seq") false ∷ text (codes "kind") true ∷ integer (codes "revision") true ∷ [])

-- a task of a programme
abbrev pub task : Table
task = record (keyed (codes "task") 10 (integer (codes "seq") true ∷ integer (codes "line") true ∷ text (codes "id") true ∷ text (codes "part") false ∷ integer (codes "retire") true ∷ integer (codes "first_m") false ∷ integer (codes "first_c") false ∷ integer (codes "first_d") false ∷ integer (codes "rep_m") false ∷ integer (codes "rep_c") false ∷ integer (codes "rep_d") false ∷ integer (codes "tol_m") true ∷ integer (codes "tol_c") true ∷ integer (codes "tol_d") true ∷ [])) { key = None; primary = 1 ∷ 2 ∷ []; uniques = (1 ∷ 2 ∷ []) ∷ []; orders = plain ∷ [] }

-- an accomplishment before the records begin
abbrev pub opening : Table
opening = keyed (codes "opening") 12 (integer (codes "seq") false ∷ integer (codes "item") true ∷ text (codes "kind") true ∷ text (codes "task") true ∷ integer (codes "minutes") true ∷ integer (codes "cycles") true ∷ integer (codes "day") true ∷ [])

-- a release to service
abbrev pub crs : Table
crs = keyed (codes "crs") 13 (integer (codes "seq") false ∷ integer (codes "item") true ∷ text (codes "kind") false ∷ integer (codes "moment") true ∷ [])

-- a line of a release
abbrev pub crs_line : Table
crs_line = record (keyed (codes "crs_line") 14 (integer (codes "seq") true ∷ integer (codes "line") true ∷ integer (codes "item") false ∷ text (codes "task") false ∷ integer (codes "defect") false ∷ [])) { key = None; primary = 1 ∷ 2 ∷ []; uniques = (1 ∷ 2 ∷ []) ∷ []; orders = plain ∷ [] }

-- an extension of a rectification interval
abbrev pub extension : Table
extension = keyed (codes "extension") 16 (integer (codes "seq") false ∷ integer (codes "defect") true ∷ integer (codes "day") true ∷ integer (codes "days") true ∷ [])

-- a deferred defect
abbrev pub defect : Table
defect = keyed (codes "defect") 17 (integer (codes "seq") false ∷ integer (codes "aircraft") true ∷ integer (codes "moment") true ∷ text (codes "reference") true ∷ integer (codes "category") true ∷ integer (codes "days") false ∷ [])

-- a sector, its moments as text
abbrev pub sector1 : Table
sector1 = keyed (codes "sector1") 18 (integer (codes "seq") false ∷ integer (codes "aircraft") true ∷ integer (codes "page") true ∷ integer (codes "line") true ∷ text (codes "took_off") true ∷ text (codes "landed") true ∷ integer (codes "cycles") true ∷ [])

-- a fitting, its moment as text
abbrev pub fit1 : Table
fit1 = keyed (codes "fit1") 19 (integer (codes "seq") false ∷ integer (codes "component") true ∷ integer (codes "aircraft") true ∷ text (codes "position") true ∷ text (codes "moment") true ∷ [])

-- a removal, its moment as text
abbrev pub removal1 : Table
removal1 = keyed (codes "removal1") 20 (integer (codes "seq") false ∷ integer (codes "component") true ∷ text (codes "moment") true ∷ [])

-- a sector, its moments as numbers
abbrev pub sector2 : Table
sector2 = keyed (codes "sector2") 21 (integer (codes "seq") false ∷ integer (codes "aircraft") true ∷ integer (codes "page") true ∷ integer (codes "line") true ∷ integer (codes "took_off") true ∷ integer (codes "landed") true ∷ integer (codes "cycles") true ∷ [])

-- where a component is or was fitted, from a moment on and, where it was removed, to a moment
abbrev pub span2 : Table
span2 = keyed (codes "span2") 22 (integer (codes "fit_seq") false ∷ integer (codes "component") true ∷ integer (codes "aircraft") true ∷ text (codes "position") true ∷ integer (codes "from_min") true ∷ integer (codes "remove_seq") false ∷ integer (codes "to_min") false ∷ [])

-- the life now of an aircraft or a component, and its clock
abbrev pub total2 : Table
total2 = keyed (codes "total2") 26 (integer (codes "item") false ∷ integer (codes "minutes") true ∷ integer (codes "cycles") true ∷ integer (codes "clock") true ∷ [])

-- the last base of a task of an item
abbrev pub base2 : Table
base2 = record (keyed (codes "base2") 27 (integer (codes "item") true ∷ text (codes "task") true ∷ integer (codes "minutes") true ∷ integer (codes "cycles") true ∷ integer (codes "day") true ∷ [])) { key = None; primary = 1 ∷ 2 ∷ []; uniques = (1 ∷ 2 ∷ []) ∷ []; orders = plain ∷ [] }

-- a deferred defect, and the cycles that the airframe had reached when it was found; the column of the cycles within which it is rectified is empty
abbrev pub defect3 : Table
defect3 = keyed (codes "defect3") 32 (integer (codes "seq") false ∷ integer (codes "aircraft") true ∷ integer (codes "moment") true ∷ text (codes "reference") true ∷ integer (codes "category") true ∷ integer (codes "days") false ∷ integer (codes "cycles") false ∷ integer (codes "found_cycles") true ∷ [])

-- an accomplishment of a task of an item: what the item had reached, when the task was due, and the base that this leaves
abbrev pub done3 : Table
done3 = record (keyed (codes "done3") 33 (integer (codes "item") true ∷ text (codes "task") true ∷ integer (codes "seq") true ∷ integer (codes "line") true ∷ integer (codes "value_m") true ∷ integer (codes "value_c") true ∷ integer (codes "value_d") true ∷ integer (codes "due_m") false ∷ integer (codes "due_c") false ∷ integer (codes "due_d") false ∷ integer (codes "base_m") true ∷ integer (codes "base_c") true ∷ integer (codes "base_d") true ∷ [])) { key = None; primary = 1 ∷ 2 ∷ 3 ∷ 4 ∷ []; uniques = (1 ∷ 2 ∷ 3 ∷ 4 ∷ []) ∷ []; orders = plain ∷ [] }

-- the index that keeps one text or one compound key unique
abbrev pub unique : List ℕ → ℕ → ℕ → List ℕ → Index
unique name tree table columns = record { name = name; tree = tree; table = table; columns = columns; order = plain; is_unique = true }

-- the index of a table by the column at this place, counted from 1
abbrev pub index_by : List ℕ → ℕ → Table → ℕ → Index
index_by name tree table at = record (unique name tree table.tree (at ∷ [])) { is_unique = false }

-- where each component is or was fitted
abbrev pub span2_by_component : Index
span2_by_component = index_by (codes "span2_by_component") 23 span2 2

-- what is or was fitted to each aircraft
abbrev pub span2_by_aircraft : Index
span2_by_aircraft = index_by (codes "span2_by_aircraft") 24 span2 3

-- what each removal ended
abbrev pub span2_by_remove_seq : Index
span2_by_remove_seq = index_by (codes "span2_by_remove_seq") 25 span2 6

-- what rectified each defect
abbrev pub crs_line_by_defect : Index
crs_line_by_defect = index_by (codes "crs_line_by_defect") 29 crs_line 5

-- the extensions of each defect
abbrev pub extension_by_defect : Index
extension_by_defect = index_by (codes "extension_by_defect") 30 extension 2

-- the defects of each aircraft
abbrev pub defect_by_aircraft : Index
defect_by_aircraft = index_by (codes "defect_by_aircraft") 31 defect 2

-- the defects of each aircraft, as layout 3 keeps them
abbrev pub defect3_by_aircraft : Index
defect3_by_aircraft = index_by (codes "defect3_by_aircraft") 35 defect3 2

-- the sectors of each aircraft, by their take-offs
abbrev pub sector2_by_aircraft : Index
sector2_by_aircraft = record (index_by (codes "sector2_by_aircraft") 36 sector2 2) { columns = 2 ∷ 5 ∷ [] }

-- the releases of each item, by their moments
abbrev pub crs_by_item : Index
crs_by_item = record (index_by (codes "crs_by_item") 37 crs 2) { columns = 2 ∷ 4 ∷ [] }

-- the schema of layout 1
abbrev pub layout_1 : Schema
layout_1 = record {
  tables = office ∷ entry ∷ aircraft ∷ place ∷ component ∷ programme ∷ task ∷ opening ∷ crs ∷ crs_line ∷ extension ∷ defect ∷ sector1 ∷ fit1 ∷ removal1 ∷ [];
  indexes = unique (codes "sqlite_autoindex_entry_1") 2 1 (2 ∷ [])
      ∷ unique (codes "sqlite_autoindex_aircraft_1") 4 3 (2 ∷ [])
      ∷ unique (codes "sqlite_autoindex_place_1") 6 5 (1 ∷ 2 ∷ [])
      ∷ unique (codes "sqlite_autoindex_component_1") 8 7 (2 ∷ [])
      ∷ unique (codes "sqlite_autoindex_task_1") 11 10 (1 ∷ 2 ∷ [])
      ∷ unique (codes "sqlite_autoindex_crs_line_1") 15 14 (1 ∷ 2 ∷ []) ∷ [];
  views = [];
}

-- the schema of layout 2
abbrev pub layout_2 : Schema
layout_2 = record {
  tables = office ∷ entry ∷ aircraft ∷ place ∷ component ∷ programme ∷ task ∷ opening ∷ crs ∷ crs_line ∷ extension ∷ defect ∷ sector2 ∷ span2 ∷ total2 ∷ base2 ∷ [];
  indexes = unique (codes "sqlite_autoindex_entry_1") 2 1 (2 ∷ [])
      ∷ unique (codes "sqlite_autoindex_aircraft_1") 4 3 (2 ∷ [])
      ∷ unique (codes "sqlite_autoindex_place_1") 6 5 (1 ∷ 2 ∷ [])
      ∷ unique (codes "sqlite_autoindex_component_1") 8 7 (2 ∷ [])
      ∷ unique (codes "sqlite_autoindex_task_1") 11 10 (1 ∷ 2 ∷ [])
      ∷ unique (codes "sqlite_autoindex_crs_line_1") 15 14 (1 ∷ 2 ∷ [])
      ∷ span2_by_component ∷ span2_by_aircraft ∷ span2_by_remove_seq
      ∷ unique (codes "sqlite_autoindex_base2_1") 28 27 (1 ∷ 2 ∷ [])
      ∷ crs_line_by_defect ∷ extension_by_defect ∷ defect_by_aircraft ∷ [];
  views = [];
}

-- the schema of layout 3
abbrev pub layout_3 : Schema
layout_3 = record {
  tables = office ∷ entry ∷ aircraft ∷ place ∷ component ∷ programme ∷ task ∷ opening ∷ crs ∷ crs_line ∷ extension ∷ sector2 ∷ span2 ∷ total2 ∷ defect3 ∷ done3 ∷ [];
  indexes = unique (codes "sqlite_autoindex_entry_1") 2 1 (2 ∷ [])
      ∷ unique (codes "sqlite_autoindex_aircraft_1") 4 3 (2 ∷ [])
      ∷ unique (codes "sqlite_autoindex_place_1") 6 5 (1 ∷ 2 ∷ [])
      ∷ unique (codes "sqlite_autoindex_component_1") 8 7 (2 ∷ [])
      ∷ unique (codes "sqlite_autoindex_task_1") 11 10 (1 ∷ 2 ∷ [])
      ∷ unique (codes "sqlite_autoindex_crs_line_1") 15 14 (1 ∷ 2 ∷ [])
      ∷ span2_by_component ∷ span2_by_aircraft ∷ span2_by_remove_seq
      ∷ crs_line_by_defect ∷ extension_by_defect
      ∷ unique (codes "sqlite_autoindex_done3_1") 34 33 (1 ∷ 2 ∷ 3 ∷ 4 ∷ [])
      ∷ defect3_by_aircraft ∷ sector2_by_aircraft ∷ crs_by_item ∷ [];
  views = [];
}

-- no table at all
abbrev pub no_schema : Schema
no_schema = record { tables = []; indexes = []; views = [] }

-- the first table of the schema is office, as at each layout and step
abbrev pub HasOffice : Schema → Type 0
HasOffice schema = (rest : List Table) × (schema.tables ≡ office ∷ rest)
