-- The schema of a file at a point, by the tables that stand there; and how many statements have made it.
use Rattle.std.specs.Prelude.{◌≡◌, ◌⊎◌, ℕ, nat_eq, Bool, true, false, not, ◌&&◌, ◌||◌, Option, Some, None, List, [], ◌∷◌, map, filter, codes, if◌then◌else◌}
use Rattle.std.specs.Option.{option_map_or}
use Rattle.sqlite.specs.Table.{Table}
use Rattle.sqlite.specs.Schema.{Schema}
use Rattle.sqlite_schema.specs.declared.schema.Index.{Index}
use Rattle.mx_base.specs.declared.point.Point.{Point}
use Rattle.mx_base.specs.Settled.{settled}
use Rattle.mx_registers.specs.declared.points.points.TheConstants.{NEWEST_LAYOUT}
use Rattle.mx_registers.specs.points.Points.{Step, step_of, is_past, is_within_step, is_before}
use Rattle.mx_layout.specs.Names.{table_named}
use Rattle.mx_layout.specs.Tables.{unique, span2_by_component, span2_by_aircraft, span2_by_remove_seq, crs_line_by_defect, extension_by_defect, defect_by_aircraft, defect3_by_aircraft, sector2_by_aircraft, crs_by_item}
use Rattle.mx_layout.specs.kept.Schemas.{permanent, HasBehind}
use Rattle.mx_book_tables.specs.stands.Family.{is_at, own_names}

-- the tables behind the permanent ones that a file at this point has
abbrev pub own_at : Point → List Table
own_at at = map table_named (filter (is_at at) own_names)

-- an index behind those of the permanent tables, the step from which on a file has it, and the one behind which it is gone with its table, if any is
pub record IndexLine : Type 0 where
  pub index : Index
  pub since : Step
  pub until : Option Step

-- these indexes, in the order in which they are made
abbrev pub own_indexes : List IndexLine
own_indexes = record { index = span2_by_component; since = step_of 1 2; until = None }
    ∷ record { index = span2_by_aircraft; since = step_of 1 2; until = None }
    ∷ record { index = span2_by_remove_seq; since = step_of 1 2; until = None }
    ∷ record { index = unique (codes "sqlite_autoindex_base2_1") 28 27 (1 ∷ 2 ∷ []); since = step_of 1 4; until = Some (step_of 2 2) }
    ∷ record { index = crs_line_by_defect; since = step_of 2 0; until = None }
    ∷ record { index = extension_by_defect; since = step_of 2 0; until = None }
    ∷ record { index = defect_by_aircraft; since = step_of 2 0; until = Some (step_of 2 1) }
    ∷ record { index = unique (codes "sqlite_autoindex_done3_1") 34 33 (1 ∷ 2 ∷ 3 ∷ 4 ∷ []); since = step_of 2 2; until = None }
    ∷ record { index = defect3_by_aircraft; since = step_of 3 0; until = None }
    ∷ record { index = sector2_by_aircraft; since = step_of 3 0; until = None }
    ∷ record { index = crs_by_item; since = step_of 3 0; until = None } ∷ []

-- a file at this point has the index: its step has begun, and the one that drops its table has not ended
abbrev pub is_index_at : Point → IndexLine → Bool
is_index_at at line = (is_past at line.since || is_within_step at line.since) && not (option_map_or (is_past at) line.until false)

-- those of them that a file at this point has
abbrev pub indexes_at : Point → List Index
indexes_at at = map (λ line. line.index) (filter (is_index_at at) own_indexes)

-- the schema of a file at this point
abbrev pub schema_at : Point → Schema
schema_at at = permanent (own_at at) (indexes_at at)

-- the schema has the tables of a file at this point, and then any others
abbrev pub HasTablesAt : Point → Schema → Type 0
HasTablesAt at = HasBehind (own_at at)

-- a file that has come to no further layout than this one can be at this point: on the way there, or settled there
abbrev pub IsUpTo : ℕ → Point → Type 0
IsUpTo newest at = (is_before newest at ≡ true) ⊎ (at ≡ settled newest)

-- a file can be at this point: on the way to the newest layout, or settled there
abbrev pub IsOfFile : Point → Type 0
IsOfFile = IsUpTo NEWEST_LAYOUT

-- how many statements have made the tables of a file at this point, those of the first layout and those of the moves
abbrev pub statements_at : Point → ℕ
statements_at at = if nat_eq at.layout 1 then (if nat_eq at.step 0 then 15 else if nat_eq at.step 1 then 16 else if nat_eq at.step 2 then 21 else if nat_eq at.step 3 then 24 else 25)
    else if nat_eq at.layout 2 then (if nat_eq at.step 0 then 28 else if nat_eq at.step 1 then 29 else 31)
    else 35
