-- Worked points: which tables and indexes a file has at each point on its way from layout 1 to layout 3, and what a command brings to each table there.
use Rattle.std.proofs.Common.{refl, ◌≡◌, ℕ, List, [], ◌∷◌}
use Rattle.std.specs.Prelude.{codes, filter, map, pos}
use Rattle.mx_base.specs.Calendar.{date_of}
use Rattle.mx_base.specs.Texts.{day_text, moment_text}
use Rattle.sqlite.specs.Order.{Row}
use Rattle.sqlite.specs.declared.types.Value.TheVariants.{Int, Text}
use Rattle.mx_book.specs.commands.Act.{Entry, Flown}
use Rattle.mx_book.specs.declared.commands.sector.Sector.{Sector}
use Rattle.mx_book.proofs.Worked.{abcd, at as moment, logged}
use Rattle.mx_book.proofs.WorkedFittings.{first_aircraft}
use Rattle.mx_base.specs.declared.point.Point.{Point}
use Rattle.mx_base.specs.Settled.{settled}
use Rattle.mx_registers.specs.points.Points.{moving, moving_from}
use Rattle.mx_layout.specs.Names.{table_name}
use Rattle.mx_layout.specs.TableName.{TableName}
use Rattle.mx_layout.specs.declared.fault.Table.TheVariants as table
use Rattle.mx_book_tables.specs.stands.Family.{is_at, is_register, rows_of, own_names, permanent_names, first_rows, rows_given, added}
use Rattle.mx_book_tables.specs.stands.Schemas.{indexes_at, schema_at, statements_at}

-- ── tables ──

-- the tables that not every file has, of those that one has at the point
abbrev own : Point → List TableName
own p = filter (is_at p) own_names

own_at_layout_1 : own (settled 1) ≡ table.Defect ∷ table.Sector1 ∷ table.Fit1 ∷ table.Removal1 ∷ []
own_at_layout_1 = refl

-- while sectors are moved there are both tables of them
own_in_step_1 : (mark : ℕ) → own (moving 1 mark) ≡ table.Defect ∷ table.Sector1 ∷ table.Fit1 ∷ table.Removal1 ∷ table.Sector2 ∷ []
own_in_step_1 mark = refl

own_in_step_2 : (mark : ℕ) → own (moving 2 mark) ≡ table.Defect ∷ table.Fit1 ∷ table.Removal1 ∷ table.Sector2 ∷ table.Span2 ∷ []
own_in_step_2 mark = refl

own_in_step_3 : (mark : ℕ) → own (moving 3 mark) ≡ table.Defect ∷ table.Sector2 ∷ table.Span2 ∷ table.Total2 ∷ []
own_in_step_3 mark = refl

own_in_step_4 : (mark : ℕ) → own (moving 4 mark) ≡ table.Defect ∷ table.Sector2 ∷ table.Span2 ∷ table.Total2 ∷ table.Base2 ∷ []
own_in_step_4 mark = refl

own_at_layout_2 : own (settled 2) ≡ table.Defect ∷ table.Sector2 ∷ table.Span2 ∷ table.Total2 ∷ table.Base2 ∷ []
own_at_layout_2 = refl

-- while deferrals are moved there are both tables of them
own_with_deferrals : (mark : ℕ) → own (moving_from 2 1 mark) ≡ table.Defect ∷ table.Sector2 ∷ table.Span2 ∷ table.Total2 ∷ table.Base2 ∷ table.Defect3 ∷ []
own_with_deferrals mark = refl

own_with_accomplishments : (mark : ℕ) → own (moving_from 2 2 mark) ≡ table.Sector2 ∷ table.Span2 ∷ table.Total2 ∷ table.Base2 ∷ table.Defect3 ∷ table.Done3 ∷ []
own_with_accomplishments mark = refl

own_at_layout_3 : own (settled 3) ≡ table.Sector2 ∷ table.Span2 ∷ table.Total2 ∷ table.Defect3 ∷ table.Done3 ∷ []
own_at_layout_3 = refl

-- at any point there are the point and the ten tables that all layouts have
always_there : (p : Point) → filter (is_at p) (table.Office ∷ permanent_names) ≡ table.Office ∷ permanent_names
always_there p = refl

-- the ten, in the order in which they are read
always_read : map table_name permanent_names ≡ codes "entry" ∷ codes "aircraft" ∷ codes "place" ∷ codes "component" ∷ codes "programme" ∷ codes "task" ∷ codes "opening" ∷ codes "crs" ∷ codes "crs_line"
    ∷ codes "extension" ∷ []
always_read = refl

-- ── registers ──

-- spans, totals and last bases are computed from the registers, and no commands are read from them
own_registers_at_layout_2 : filter (λ name. is_register (rows_of name)) (own (settled 2)) ≡ table.Defect ∷ table.Sector2 ∷ []
own_registers_at_layout_2 = refl

-- ── indexes ──

-- the names of the indexes behind those of the tables that all layouts have
abbrev names : Point → List (List ℕ)
names p = map (λ i. i.name) (indexes_at p)

no_index_at_layout_1 : names (settled 1) ≡ []
no_index_at_layout_1 = refl

no_index_in_step_1 : (mark : ℕ) → names (moving 1 mark) ≡ []
no_index_in_step_1 mark = refl

indexes_in_step_2 : (mark : ℕ) → names (moving 2 mark) ≡ codes "span2_by_component" ∷ codes "span2_by_aircraft" ∷ codes "span2_by_remove_seq" ∷ []
indexes_in_step_2 mark = refl

indexes_in_step_3 : (mark : ℕ) → names (moving 3 mark) ≡ codes "span2_by_component" ∷ codes "span2_by_aircraft" ∷ codes "span2_by_remove_seq" ∷ []
indexes_in_step_3 mark = refl

indexes_in_step_4 : (mark : ℕ) → names (moving 4 mark) ≡ codes "span2_by_component" ∷ codes "span2_by_aircraft" ∷ codes "span2_by_remove_seq" ∷ codes "sqlite_autoindex_base2_1" ∷ []
indexes_in_step_4 mark = refl

indexes_at_layout_2 : names (settled 2) ≡ codes "span2_by_component" ∷ codes "span2_by_aircraft" ∷ codes "span2_by_remove_seq" ∷ codes "sqlite_autoindex_base2_1"
    ∷ codes "crs_line_by_defect" ∷ codes "extension_by_defect" ∷ codes "defect_by_aircraft" ∷ []
indexes_at_layout_2 = refl

indexes_with_deferrals : (mark : ℕ) → names (moving_from 2 1 mark) ≡ names (settled 2)
indexes_with_deferrals mark = refl

-- an index goes with its table
indexes_with_accomplishments : (mark : ℕ) → names (moving_from 2 2 mark) ≡ codes "span2_by_component" ∷ codes "span2_by_aircraft" ∷ codes "span2_by_remove_seq" ∷ codes "sqlite_autoindex_base2_1"
    ∷ codes "crs_line_by_defect" ∷ codes "extension_by_defect" ∷ codes "sqlite_autoindex_done3_1" ∷ []
indexes_with_accomplishments mark = refl

indexes_at_layout_3 : names (settled 3) ≡ codes "span2_by_component" ∷ codes "span2_by_aircraft" ∷ codes "span2_by_remove_seq"
    ∷ codes "crs_line_by_defect" ∷ codes "extension_by_defect" ∷ codes "sqlite_autoindex_done3_1" ∷ codes "defect3_by_aircraft" ∷ codes "sector2_by_aircraft" ∷ codes "crs_by_item" ∷ []
indexes_at_layout_3 = refl

-- ── trees ──

-- the numbers of the trees of all tables, and of all indexes
abbrev trees : Point → List (List ℕ)
trees p = map (λ t. t.tree) (schema_at p).tables ∷ map (λ i. i.tree) (schema_at p).indexes ∷ []

trees_at_layout_1 : trees (settled 1) ≡ (0 ∷ 1 ∷ 3 ∷ 5 ∷ 7 ∷ 9 ∷ 10 ∷ 12 ∷ 13 ∷ 14 ∷ 16 ∷ 17 ∷ 18 ∷ 19 ∷ 20 ∷ []) ∷ (2 ∷ 4 ∷ 6 ∷ 8 ∷ 11 ∷ 15 ∷ []) ∷ []
trees_at_layout_1 = refl

-- what a move makes has further numbers, and what it drops leaves a gap
trees_at_layout_2 : trees (settled 2) ≡ (0 ∷ 1 ∷ 3 ∷ 5 ∷ 7 ∷ 9 ∷ 10 ∷ 12 ∷ 13 ∷ 14 ∷ 16 ∷ 17 ∷ 21 ∷ 22 ∷ 26 ∷ 27 ∷ []) ∷ (2 ∷ 4 ∷ 6 ∷ 8 ∷ 11 ∷ 15 ∷ 23 ∷ 24 ∷ 25 ∷ 28 ∷ 29 ∷ 30 ∷ 31 ∷ []) ∷ []
trees_at_layout_2 = refl

trees_at_layout_3 : trees (settled 3) ≡ (0 ∷ 1 ∷ 3 ∷ 5 ∷ 7 ∷ 9 ∷ 10 ∷ 12 ∷ 13 ∷ 14 ∷ 16 ∷ 21 ∷ 22 ∷ 26 ∷ 32 ∷ 33 ∷ []) ∷ (2 ∷ 4 ∷ 6 ∷ 8 ∷ 11 ∷ 15 ∷ 23 ∷ 24 ∷ 25 ∷ 29 ∷ 30 ∷ 34 ∷ 35 ∷ 36 ∷ 37 ∷ []) ∷ []
trees_at_layout_3 = refl

-- ── statements ──

statements : map statements_at (settled 1 ∷ moving 1 7 ∷ moving 2 7 ∷ moving 3 7 ∷ moving 4 7 ∷ settled 2 ∷ moving_from 2 1 7 ∷ moving_from 2 2 7 ∷ settled 3 ∷ []) ≡ 15 ∷ 16 ∷ 21 ∷ 24 ∷ 25 ∷ 28 ∷ 29 ∷ 31 ∷ 35 ∷ []
statements = refl

-- ── rows ──

-- a sector of entry 2, on 1970-01-02 from 08:00 to 09:00
abbrev flight : Entry
flight =
    let s : Sector = record { tail = abcd; page = 1; line = 3; off = moment 1 8 0; on = moment 1 9 0; cycles = 1 } in
    logged (codes "TL-3") (Flown s)

abbrev texts : Row
texts = Int (pos 2) ∷ Int (pos 1) ∷ Int (pos 1) ∷ Int (pos 3) ∷ Text (codes "1970-01-02T08:00") ∷ Text (codes "1970-01-02T09:00") ∷ Int (pos 1) ∷ []

abbrev numbers : Row
numbers = Int (pos 2) ∷ Int (pos 1) ∷ Int (pos 1) ∷ Int (pos 3) ∷ Int (pos 1920) ∷ Int (pos 1980) ∷ Int (pos 1) ∷ []

-- its moments are texts at layout 1 and minutes at layout 2, each in the table of its layout
brought_at_layout_1 : map (λ name. added (settled 1) name (first_aircraft ∷ []) flight) (table.Sector1 ∷ table.Sector2 ∷ []) ≡ (texts ∷ []) ∷ [] ∷ []
unfolding moment_text day_text date_of
brought_at_layout_1 = refl

brought_at_layout_2 : map (λ name. added (settled 2) name (first_aircraft ∷ []) flight) (table.Sector1 ∷ table.Sector2 ∷ []) ≡ [] ∷ (numbers ∷ []) ∷ []
brought_at_layout_2 = refl

-- in the move, before its number and from it on
stands_before_2 : map (rows_given (moving 1 1) (first_aircraft ∷ flight ∷ [])) (table.Sector1 ∷ table.Sector2 ∷ []) ≡ (texts ∷ []) ∷ [] ∷ []
unfolding moment_text day_text date_of
stands_before_2 = refl

stands_from_2_on : map (rows_given (moving 1 2) (first_aircraft ∷ flight ∷ [])) (table.Sector1 ∷ table.Sector2 ∷ []) ≡ [] ∷ (numbers ∷ []) ∷ []
stands_from_2_on = refl

-- the one row of `office` is the point, and no book gives a row to it
office_row : first_rows (moving 1 67) table.Office ≡ (Int (pos 1) ∷ Int (pos 1) ∷ Int (pos 1) ∷ Int (pos 67) ∷ []) ∷ []
office_row = refl

office_of_a_book : rows_given (settled 2) (first_aircraft ∷ flight ∷ []) table.Office ≡ (Int (pos 1) ∷ Int (pos 2) ∷ Int (pos 0) ∷ Int (pos 0) ∷ []) ∷ []
office_of_a_book = refl
