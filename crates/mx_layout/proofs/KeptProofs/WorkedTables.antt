-- Worked tables: their names in the file, their keys and orders, what stands in a tree, and which statements make a layout.
use Rattle.std.proofs.Common.{refl, ◌≡◌, ℕ, pos, List, [], ◌∷◌, map, true, false, Ok, Err, Less, Equal, Greater}
use Rattle.std.specs.Prelude.{codes, if◌then◌else◌, length, nat_eq, ⊤}
use Rattle.sqlite.specs.declared.types.Value.TheVariants.{Int, Text, Null}
use Rattle.sqlite.specs.Order.{Row, value_cmp}
use Rattle.sqlite.specs.Tree.{Trees}
use Rattle.sqlite_schema.specs.Names.{same_name}
use lib.Ieee.{is_nan, lt}
use Rattle.mx_base.specs.Settled.{settled}
use Rattle.mx_layout.specs.TableName.{TableName}
use Rattle.mx_layout.specs.declared.fault.Table.TheVariants as table
use Rattle.mx_layout.specs.declared.fault.TableFault.TheVariants.{Damaged, Exists, Memory, NotOurs, Store}
use Rattle.mx_layout.specs.Contents.{cells, rows_in}
use Rattle.mx_layout.specs.Listed.{has_table}
use Rattle.mx_layout.specs.Names.{table_name, table_named}
use Rattle.mx_layout.specs.Point.{unnamed}
use Rattle.mx_layout.specs.Reading.{by_first, by_two}
use Rattle.mx_layout.specs.Steps.{schema_of, steps, steps_of, step_texts}
use Rattle.mx_layout.specs.Tables.{crs_line, extension}
use Rattle.mx_layout.specs.kept.Cells.{kept_base2, kept_done3, kept_entry, kept_extension, kept_task}
use Rattle.mx_layout.specs.kept.Kept.{Kept, held, lined, numbered}
use Rattle.mx_layout.specs.kept.Keys.{number_of, one_key, two_key}

-- ── names ──

abbrev in_all_layouts : List TableName
in_all_layouts = table.Office ∷ table.Entry ∷ table.Aircraft ∷ table.Place ∷ table.Component ∷ table.Programme ∷ table.Task ∷ table.Opening ∷ table.Crs ∷ table.CrsLine ∷ table.Extension ∷ []

abbrev in_some_layouts : List TableName
in_some_layouts = table.Defect ∷ table.Sector1 ∷ table.Fit1 ∷ table.Removal1 ∷ table.Sector2 ∷ table.Span2 ∷ table.Total2 ∷ table.Base2 ∷ table.Defect3 ∷ table.Done3 ∷ []

names : map table_name in_all_layouts ≡ codes "office" ∷ codes "entry" ∷ codes "aircraft" ∷ codes "place" ∷ codes "component" ∷ codes "programme" ∷ codes "task" ∷ codes "opening" ∷ codes "crs" ∷ codes "crs_line" ∷ codes "extension" ∷ []
names = refl

own_names : map table_name in_some_layouts ≡ codes "defect" ∷ codes "sector1" ∷ codes "fit1" ∷ codes "removal1" ∷ codes "sector2" ∷ codes "span2" ∷ codes "total2" ∷ codes "base2" ∷ codes "defect3" ∷ codes "done3" ∷ []
own_names = refl

-- ── keys ──

numbers : map number_of (Int (pos 7) ∷ Null ∷ Text (codes "7") ∷ []) ≡ 7 ∷ 0 ∷ 0 ∷ []
numbers = refl

-- line 4 of entry 3 is 3 times 4,294,967,296, and 4
abbrev on_line : Row
on_line = Int (pos 3) ∷ Int (pos 4) ∷ Text (codes "OVH") ∷ []

keys : (one_key on_line ∷ two_key on_line ∷ []) ≡ 3 ∷ 12884901892 ∷ []
keys = refl

-- an extension is known by its entry, a task by its line too, and a last base and an accomplishment by their item
keys_of_rows : (kept_extension.cells_key on_line ∷ kept_task.cells_key on_line ∷ kept_base2.cells_key on_line ∷ kept_done3.cells_key on_line ∷ []) ≡ 3 ∷ 12884901892 ∷ 3 ∷ 3 ∷ []
keys_of_rows = refl

key_of_extension : kept_extension.key (record { seq = 9; defect = 6; day = 19790; days = 3 }) ≡ 9
key_of_extension = refl

-- ── orders ──

-- by the entry, and by the line or the task where that is the same
abbrev row : ℕ → ℕ → Row
row seq line = Int (pos seq) ∷ Int (pos line) ∷ []

first_orders : map (by_first (row 2 5)) (row 1 5 ∷ row 2 4 ∷ row 2 6 ∷ row 3 5 ∷ []) ≡ Greater ∷ Equal ∷ Equal ∷ Less ∷ []
unfolding value_cmp is_nan lt
first_orders = refl

two_orders : map (by_two (row 2 5)) (row 1 6 ∷ row 2 4 ∷ row 2 5 ∷ row 2 6 ∷ row 3 4 ∷ []) ≡ Greater ∷ Greater ∷ Equal ∷ Less ∷ Less ∷ []
unfolding value_cmp is_nan lt
two_orders = refl

-- by each of four columns, where those before it are the same
abbrev row_of_four : ℕ → ℕ → ℕ → ℕ → Row
row_of_four item task seq line = Int (pos item) ∷ Int (pos task) ∷ Int (pos seq) ∷ Int (pos line) ∷ []

four_orders : map (kept_done3.order (row_of_four 2 5 7 3)) (row_of_four 1 6 8 4 ∷ row_of_four 2 4 8 4 ∷ row_of_four 2 5 6 4 ∷ row_of_four 2 5 7 2 ∷ row_of_four 2 5 7 3 ∷ row_of_four 2 5 7 4 ∷ row_of_four 2 5 8 2 ∷ row_of_four 2 6 6 2 ∷ row_of_four 3 4 6 2 ∷ [])
    ≡ Greater ∷ Greater ∷ Greater ∷ Greater ∷ Equal ∷ Less ∷ Less ∷ Less ∷ Less ∷ []
unfolding value_cmp is_nan lt
four_orders = refl

orders_of_tables : (kept_entry.order (row 2 5) (row 2 6) ∷ kept_task.order (row 2 5) (row 2 6) ∷ kept_base2.order (row 2 5) (row 2 6) ∷ []) ≡ Equal ∷ Less ∷ Less ∷ []
unfolding value_cmp is_nan lt
orders_of_tables = refl

-- ── how rows are kept ──

-- a number as the second column of a row of entry 3, whose key is the first column, or the first two; and a pair, of which the second is such a number
abbrev of_entry : Kept ℕ
of_entry = numbered table.Extension (λ schema. ⊤) (λ n. ⊤) (row 3)

abbrev of_line : Kept ℕ
of_line = lined table.Extension (λ schema. ⊤) (λ n. ⊤) (row 3)

abbrev of_pair : Kept (ℕ × ℕ)
of_pair = held of_line (λ pair. pair.1)

kept_keys : (of_entry.key 4 ∷ of_line.key 4 ∷ of_pair.key (7, 4) ∷ []) ≡ 3 ∷ 12884901892 ∷ 12884901892 ∷ []
kept_keys = refl

kept_keys_of_cells : (of_entry.cells_key (row 3 4) ∷ of_line.cells_key (row 3 4) ∷ of_pair.cells_key (row 3 4) ∷ []) ≡ 3 ∷ 12884901892 ∷ 12884901892 ∷ []
kept_keys_of_cells = refl

kept_values : (of_entry.as_cells 4 ∷ of_line.as_cells 4 ∷ of_pair.as_cells (7, 4) ∷ []) ≡ row 3 4 ∷ row 3 4 ∷ row 3 4 ∷ []
kept_values = refl

kept_orders : (of_entry.order (row 2 5) (row 2 6) ∷ of_line.order (row 2 5) (row 2 6) ∷ of_pair.order (row 2 5) (row 2 6) ∷ []) ≡ Equal ∷ Less ∷ Less ∷ []
unfolding value_cmp is_nan lt
kept_orders = refl

kept_names : map table_name (of_entry.name ∷ of_line.name ∷ of_pair.name ∷ []) ≡ codes "extension" ∷ codes "extension" ∷ codes "extension" ∷ []
kept_names = refl

-- ── trees ──

-- where the first column is the key, it stands in front of the row, whose place is empty; else the number of the row stands there
kept_cells : cells extension (Int (pos 9) ∷ Null ∷ Int (pos 6) ∷ Int (pos 19790) ∷ Int (pos 3) ∷ []) ≡ Int (pos 9) ∷ Int (pos 6) ∷ Int (pos 19790) ∷ Int (pos 3) ∷ []
kept_cells = refl

line_cells : cells crs_line (Int (pos 1) ∷ Int (pos 8) ∷ Int (pos 3) ∷ Null ∷ Null ∷ Int (pos 6) ∷ []) ≡ Int (pos 8) ∷ Int (pos 3) ∷ Null ∷ Null ∷ Int (pos 6) ∷ []
line_cells = refl

-- extensions are the tree 16
abbrev trees : Trees
trees tree = if nat_eq tree 16 then (Int (pos 9) ∷ Null ∷ Int (pos 6) ∷ Int (pos 19790) ∷ Int (pos 3) ∷ []) ∷ [] else []

rows_there : map (λ name. rows_in (table_named name) trees) (table.Extension ∷ table.Defect ∷ []) ≡ ((Int (pos 9) ∷ Int (pos 6) ∷ Int (pos 19790) ∷ Int (pos 3) ∷ []) ∷ []) ∷ [] ∷ []
rows_there = refl

-- ── layouts ──

-- fifteen statements make layout 1, thirteen more layout 2, and seven more layout 3; each has its text
statements : map steps_of (1 ∷ 2 ∷ 3 ∷ []) ≡ 15 ∷ 28 ∷ 35 ∷ []
statements = refl

all_statements : (length steps ∷ length step_texts ∷ []) ≡ 35 ∷ 35 ∷ []
all_statements = refl

tables : map (λ layout. length (schema_of layout).tables) (1 ∷ 2 ∷ 3 ∷ []) ≡ 15 ∷ 16 ∷ 16 ∷ []
tables = refl

-- the case of letters does not count
listed_tables : map (has_table (schema_of 2)) (codes "office" ∷ codes "OFFICE" ∷ codes "base2" ∷ codes "sector1" ∷ codes "offices" ∷ []) ≡ true ∷ true ∷ true ∷ false ∷ false ∷ []
unfolding same_name
listed_tables = refl

later_tables : map (has_table (schema_of 3)) (codes "office" ∷ codes "defect3" ∷ codes "done3" ∷ codes "total2" ∷ codes "defect" ∷ codes "base2" ∷ []) ≡ true ∷ true ∷ true ∷ true ∷ false ∷ false ∷ []
unfolding same_name
later_tables = refl

-- where no table is named `office`, the file is not ours, but for want of memory and the store
no_point : map unnamed (Err Memory ∷ Err Store ∷ Err Exists ∷ Err (Damaged table.Office) ∷ Ok (settled 2) ∷ []) ≡ Memory ∷ Store ∷ NotOurs ∷ NotOurs ∷ NotOurs ∷ []
no_point = refl
