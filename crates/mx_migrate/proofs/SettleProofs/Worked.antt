-- Worked rows: as what a point is answered, which numbers no entry can have, and of which table that is told first.
use Rattle.std.proofs.Common.{refl, ◌≡◌, ℕ, List, [], ◌∷◌, Bool, true, false, Option, Some, None, Ok, Err}
use Rattle.std.specs.Prelude.{codes, map}
use Rattle.std.specs.List.{list_any}
use Rattle.mx_base.specs.declared.point.Point.{Point}
use Rattle.mx_base.specs.declared.rows.rows.BaseRow.{BaseRow}
use Rattle.mx_base.specs.declared.rows.rows.EntryKind.TheVariants as kind
use Rattle.mx_base.specs.declared.rows.rows.SpanRow.{SpanRow}
use Rattle.mx_base.specs.declared.rows.rows.TotalRow.{TotalRow}
use Rattle.mx_layout.specs.TableName.{TableName}
use Rattle.mx_layout.specs.declared.fault.TableFault.TheVariants as unread
use Rattle.mx_layout.specs.declared.fault.Table.TheVariants as table
use Rattle.mx_faults.specs.declared.moving.MoveFault.TheVariants.{Damaged, NewerLayout, NotOurs}
use Rattle.mx_registers.specs.declared.file.file_rows.FileRows.{FileRows}
use Rattle.mx_verify.specs.declared.derived.kept.Unkept.TheVariants as why
use Rattle.mx_migrate.specs.settle.Choices.{fault_by, next_checked}
use Rattle.mx_migrate.specs.settle.Items.{next_total, of_item, total_by}
use Rattle.mx_migrate.specs.settle.Numbers.{has_late, is_late, is_late_span, late_table, or_behind}
use Rattle.mx_migrate.specs.settle.Place.{checked, place_of}
use Rattle.mx_migrate.specs.settle.Ranks.{points_before}
use Rattle.mx_migrate.specs.declared.settle.due.Due.TheVariants as due
use Rattle.mx_migrate.specs.declared.settle.settling.TheConstants.{ENOUGH_COMMITS}

-- ── points ──

abbrev point : ℕ → ℕ → ℕ → Point
point layout step mark = record { layout = layout; step = step; mark = mark }

-- of a move from layout 1 the first point has one behind it for each of 1,000,001 marks of four steps, and of one from layout 2 for each of two
points_in_order : map points_before (point 1 0 0 ∷ point 1 1 0 ∷ point 1 4 1000000 ∷ point 2 0 0 ∷ point 2 1 65 ∷ point 2 2 1000000 ∷ point 3 0 0 ∷ []) ≡ 0 ∷ 1 ∷ 4000004 ∷ 4000005 ∷ 4000071 ∷ 6000007 ∷ 6000008 ∷ []
points_in_order = refl

before_the_move : checked (point 1 0 0) ≡ Ok (point 1 0 0)
before_the_move = refl

within_the_move : checked (point 1 2 7) ≡ Ok (point 1 2 7)
within_the_move = refl

at_the_last_number : checked (point 1 4 1000000) ≡ Ok (point 1 4 1000000)
at_the_last_number = refl

at_the_newest : checked (point 2 0 0) ≡ Ok (point 2 0 0)
at_the_newest = refl

of_a_newer_program : checked (point 3 0 0) ≡ Err (NewerLayout 3)
of_a_newer_program = refl

-- whatever its step and mark are
of_a_move_of_its_own : checked (point 9 4 1000001) ≡ Err (NewerLayout 9)
of_a_move_of_its_own = refl

of_no_layout : checked (point 0 0 0) ≡ Err (Damaged table.Office)
of_no_layout = refl

in_no_step : checked (point 1 5 0) ≡ Err (Damaged table.Office)
in_no_step = refl

marked_before_the_move : checked (point 1 0 1) ≡ Err (Damaged table.Office)
marked_before_the_move = refl

marked_at_the_newest : checked (point 2 0 1) ≡ Err (Damaged table.Office)
marked_at_the_newest = refl

behind_the_last_number : checked (point 1 4 1000001) ≡ Err (Damaged table.Office)
behind_the_last_number = refl

-- why no point was read is handed on
of_no_office : place_of (Err unread.NotOurs) ≡ Err NotOurs
of_no_office = refl

of_an_office : place_of (Ok (point 1 1 64)) ≡ Ok (point 1 1 64)
of_an_office = refl

enough_commits : ENOUGH_COMMITS ≡ 8000000
enough_commits = refl

-- ── the next component, and the next item ──

one_behind : next_checked table.Component 5 (Some 6) ≡ Ok (Some 6)
one_behind = refl

none_behind : next_checked table.Component 5 None ≡ Ok None
none_behind = refl

one_at_the_mark : next_checked table.Component 5 (Some 5) ≡ Err (unread.Damaged table.Component)
one_at_the_mark = refl

one_that_no_entry_has : next_checked table.Component 5 (Some 1000001) ≡ Err (unread.Damaged table.Component)
one_that_no_entry_has = refl

abbrev total : ℕ → TotalRow
total item = record { item = item; life = record { minutes = 60000; cycles = 800 }; clock = 28401120 }

abbrev base : ℕ → List ℕ → BaseRow
base item task = record { item = item; task = task; life = record { minutes = 54000; cycles = 700 }; day = 19700 }

-- an aircraft and two components
abbrev totals : List TotalRow
totals = total 1 ∷ total 2 ∷ total 7 ∷ []

abbrev bases : List BaseRow
bases = base 2 (codes "OVH") ∷ base 1 (codes "100H") ∷ base 2 (codes "INSP") ∷ []

behind_the_first : next_total 1 totals ≡ Some (total 2)
behind_the_first = refl

between_two : next_total 4 totals ≡ Some (total 7)
between_two = refl

behind_all : next_total 7 totals ≡ None
behind_all = refl

of_the_second : of_item 2 bases ≡ base 2 (codes "OVH") ∷ base 2 (codes "INSP") ∷ []
of_the_second = refl

writes_the_next : total_by 1 (next_total 1 totals) ≡ due.Total (record { mark = 1; row = total 2 })
writes_the_next = refl

makes_the_table_behind_all : total_by 7 (next_total 7 totals) ≡ due.BaseTable (record { mark = 7 })
makes_the_table_behind_all = refl

-- ── which table is told ──

no_memory_is_told : fault_by why.Memory ≡ unread.Memory
no_memory_is_told = refl

the_entries_are_told : fault_by why.Differs ≡ unread.Damaged table.Entry
the_entries_are_told = refl

-- a sector stands in the new table by then, and a fitting and a removal in that of spans
sectors_are_told : fault_by (why.Damaged kind.Sector) ≡ unread.Damaged table.Sector2
sectors_are_told = refl

fittings_are_told : fault_by (why.Damaged kind.Fit) ≡ unread.Damaged table.Span2
fittings_are_told = refl

removals_are_told : fault_by (why.Damaged kind.Remove) ≡ unread.Damaged table.Span2
removals_are_told = refl

aircraft_are_told : fault_by (why.Damaged kind.AddAircraft) ≡ unread.Damaged table.Aircraft
aircraft_are_told = refl

components_are_told : fault_by (why.Damaged kind.AddComponent) ≡ unread.Damaged table.Component
components_are_told = refl

programmes_are_told : fault_by (why.Damaged kind.LoadProgramme) ≡ unread.Damaged table.Programme
programmes_are_told = refl

openings_are_told : fault_by (why.Damaged kind.Opening) ≡ unread.Damaged table.Opening
openings_are_told = refl

releases_are_told : fault_by (why.Damaged kind.Release) ≡ unread.Damaged table.Crs
releases_are_told = refl

deferrals_are_told : fault_by (why.Damaged kind.Defer) ≡ unread.Damaged table.Defect
deferrals_are_told = refl

extensions_are_told : fault_by (why.Damaged kind.Extend) ≡ unread.Damaged table.Extension
extensions_are_told = refl

-- ── numbers that no entry can have ──

last_number : is_late 1000000 ≡ false
last_number = refl

number_behind : is_late 1000001 ≡ true
number_behind = refl

some_row_is : has_late (λ (n : ℕ). n) (7 ∷ 1000001 ∷ 8 ∷ []) ≡ true
some_row_is = refl

no_row_is : has_late (λ (n : ℕ). n) (7 ∷ 1000000 ∷ []) ≡ false
no_row_is = refl

-- a span is late by its fitting or by its removal
abbrev span : ℕ → Option ℕ → SpanRow
span fitting removal = record { fit_seq = fitting; component = 2; aircraft = 1; position = codes "L"; from = 0; remove_seq = removal; to = None }

fitted_still : is_late_span (span 7 None) ≡ false
fitted_still = refl

fitted_late : is_late_span (span 1000001 None) ≡ true
fitted_late = refl

removed_in_time : is_late_span (span 7 (Some 1000000)) ≡ false
removed_in_time = refl

removed_late : is_late_span (span 7 (Some 1000001)) ≡ true
removed_late = refl

-- of two tables the one that is read first is told
first_is_told : or_behind true table.Aircraft (or_behind true table.Component None) ≡ Some table.Aircraft
first_is_told = refl

second_is_told : or_behind false table.Aircraft (or_behind true table.Component None) ≡ Some table.Component
second_is_told = refl

none_is_told : or_behind false table.Aircraft (or_behind false table.Component None) ≡ None
none_is_told = refl

-- of which tables there is such a row, in the order in which they are read, and the first of them
abbrev found : FileRows → List (Bool × TableName)
found rows =
    let own = rows.registers.rows in
    (has_late (λ row. row.seq) rows.registers.entries.items, table.Entry)
    ∷ (has_late (λ row. row.seq) own.aircraft.items, table.Aircraft)
    ∷ (has_late (λ row. row.seq) own.places.items, table.Place)
    ∷ (has_late (λ row. row.seq) own.components.items, table.Component)
    ∷ (has_late (λ row. row.seq) own.programmes.items, table.Programme)
    ∷ (has_late (λ row. row.seq) own.tasks.items, table.Task)
    ∷ (has_late (λ row. row.seq) own.openings.items, table.Opening)
    ∷ (has_late (λ row. row.seq) own.releases.items, table.Crs)
    ∷ (has_late (λ row. row.seq) own.release_lines.items, table.CrsLine)
    ∷ (has_late (λ row. row.seq) own.deferrals.items, table.Defect)
    ∷ (has_late (λ row. row.seq) own.extensions.items, table.Extension)
    ∷ (has_late (λ row. row.seq) own.sectors.items, table.Sector2)
    ∷ (list_any is_late_span rows.spans.items, table.Span2)
    ∷ []

abbrev first_of : List (Bool × TableName) → Option TableName
first_of [] = None
first_of (x ∷ xs) = or_behind x.0 x.1 (first_of xs)

in_the_order_of_reading : (rows : FileRows) → late_table rows ≡ first_of (found rows)
in_the_order_of_reading rows = refl
