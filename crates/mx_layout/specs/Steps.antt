-- The layouts as data: which statements lead from no table to each, one after another.
use Rattle.std.specs.Prelude.{◌≡◌, ◌⊎◌, ℕ, nat_eq, if◌then◌else◌, List, [], ◌∷◌, take}
use Rattle.sqlite.specs.Table.{Table}
use Rattle.sqlite.specs.Schema.{Schema}
use Rattle.sqlite.specs.Change.{created, without_table, with_index}
use Rattle.sqlite_schema.specs.declared.schema.Index.{Index}
use Rattle.mx_layout.specs.Tables.{no_schema, layout_1, layout_2, layout_3, office, entry, aircraft, place, component, programme, task, opening, crs, crs_line, extension, defect, sector1, fit1, removal1, sector2, span2, total2, base2, defect3, done3, span2_by_component, span2_by_aircraft, span2_by_remove_seq, crs_line_by_defect, extension_by_defect, defect_by_aircraft, defect3_by_aircraft, sector2_by_aircraft, crs_by_item}
use Rattle.mx_layout.specs.CreateTexts.{office_text, entry_text, aircraft_text, place_text, component_text, programme_text, task_text, opening_text, crs_text, crs_line_text, extension_text, defect_text, sector1_text, fit1_text, removal1_text, sector2_text, span2_text, total2_text, base2_text, defect3_text, done3_text, sector1_dropped, fit1_dropped, removal1_dropped, defect_dropped, base2_dropped, span2_by_component_text, span2_by_aircraft_text, span2_by_remove_seq_text, crs_line_by_defect_text, extension_by_defect_text, defect_by_aircraft_text, defect3_by_aircraft_text, sector2_by_aircraft_text, crs_by_item_text}

-- one statement: it makes a table, drops one, or makes an index
pub data Step : Type 0 where
  makes : Table → Step
  drops : Table → Step
  indexes : Index → Step

-- what a statement makes of a schema
abbrev pub stepped : Schema → Step → Schema
stepped schema (makes table) = created schema table
stepped schema (drops table) = without_table schema table.tree
stepped schema (indexes index) = with_index schema index

-- what statements make of a schema, one after another
abbrev pub after : List Step → Schema → Schema
after [] schema = schema
after (step ∷ more) schema = after more (stepped schema step)

-- the statements that make layout 1 of no table, and then those of the moves, which make each further layout of the one before it
abbrev pub steps : List Step
steps = makes office ∷ makes entry ∷ makes aircraft ∷ makes place ∷ makes component ∷ makes programme ∷ makes task ∷ makes opening ∷ makes crs ∷ makes crs_line ∷ makes extension ∷ makes defect ∷ makes sector1 ∷ makes fit1 ∷ makes removal1
    ∷ makes sector2 ∷ drops sector1 ∷ makes span2
    ∷ indexes span2_by_component ∷ indexes span2_by_aircraft ∷ indexes span2_by_remove_seq ∷ drops fit1 ∷ drops removal1 ∷ makes total2 ∷ makes base2
    ∷ indexes crs_line_by_defect ∷ indexes extension_by_defect ∷ indexes defect_by_aircraft
    ∷ makes defect3 ∷ drops defect ∷ makes done3 ∷ drops base2
    ∷ indexes defect3_by_aircraft ∷ indexes sector2_by_aircraft ∷ indexes crs_by_item ∷ []

-- their texts
abbrev pub step_texts : List (List ℕ)
step_texts = office_text ∷ entry_text ∷ aircraft_text ∷ place_text ∷ component_text ∷ programme_text ∷ task_text ∷ opening_text ∷ crs_text ∷ crs_line_text ∷ extension_text ∷ defect_text ∷ sector1_text ∷ fit1_text ∷ removal1_text
    ∷ sector2_text ∷ sector1_dropped ∷ span2_text
    ∷ span2_by_component_text ∷ span2_by_aircraft_text ∷ span2_by_remove_seq_text ∷ fit1_dropped ∷ removal1_dropped ∷ total2_text ∷ base2_text
    ∷ crs_line_by_defect_text ∷ extension_by_defect_text ∷ defect_by_aircraft_text
    ∷ defect3_text ∷ defect_dropped ∷ done3_text ∷ base2_dropped
    ∷ defect3_by_aircraft_text ∷ sector2_by_aircraft_text ∷ crs_by_item_text ∷ []

-- the schema that so many of them make of no table
abbrev pub schema_after : ℕ → Schema
schema_after n = after (take n steps) no_schema

-- how many of them make a layout
abbrev pub steps_of : ℕ → ℕ
steps_of layout = if nat_eq layout 1 then 15 else if nat_eq layout 2 then 28 else 35

-- the schema of a layout
abbrev pub schema_of : ℕ → Schema
schema_of layout = if nat_eq layout 1 then layout_1 else if nat_eq layout 2 then layout_2 else layout_3

-- the layouts that there are
abbrev pub IsLayout : ℕ → Type 0
IsLayout layout = (layout ≡ 1) ⊎ ((layout ≡ 2) ⊎ (layout ≡ 3))

-- over no table the statements of a layout make its schema, tree for tree, however a file comes there
pub record LayoutsMeet : Type 0 where
  pub first : schema_after (steps_of 1) ≡ layout_1
  pub second : schema_after (steps_of 2) ≡ layout_2
  pub third : schema_after (steps_of 3) ≡ layout_3
