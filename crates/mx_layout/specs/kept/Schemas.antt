-- The schemas that have a table, whatever else they have: every layout, and every point between two.
-- While components are moved to layout 2, spans stand behind tables that are dropped with the move, and in front of
-- their place from then on. What a text means names the place of its table, so each text of spans is computed at each
-- (`HasSpans`), and its law is joined from these. Deferrals stand first behind the permanent tables in the first two
-- layouts, and layout 3 drops them: a table that goes is none of the permanent ones.
use Rattle.std.specs.Prelude.{◌≡◌, ◌⊎◌, List, [], ◌∷◌, ◌++◌, codes}
use Rattle.sqlite.specs.Table.{Table}
use Rattle.sqlite.specs.Schema.{Schema}
use Rattle.sqlite_schema.specs.declared.schema.Index.{Index}
use Rattle.mx_layout.specs.Tables.{office, entry, aircraft, place, component, programme, task, opening, crs, crs_line, extension, defect, sector1, fit1, removal1, sector2, span2, total2, base2, defect3, done3, unique}

-- the permanent tables and then any others, and their indexes
abbrev pub permanent : List Table → List Index → Schema
permanent rest more = record {
  tables = office ∷ entry ∷ aircraft ∷ place ∷ component ∷ programme ∷ task ∷ opening ∷ crs ∷ crs_line ∷ extension ∷ rest;
  indexes = unique (codes "sqlite_autoindex_entry_1") 2 1 (2 ∷ [])
      ∷ unique (codes "sqlite_autoindex_aircraft_1") 4 3 (2 ∷ [])
      ∷ unique (codes "sqlite_autoindex_place_1") 6 5 (1 ∷ 2 ∷ [])
      ∷ unique (codes "sqlite_autoindex_component_1") 8 7 (2 ∷ [])
      ∷ unique (codes "sqlite_autoindex_task_1") 11 10 (1 ∷ 2 ∷ [])
      ∷ unique (codes "sqlite_autoindex_crs_line_1") 15 14 (1 ∷ 2 ∷ []) ∷ more;
  views = [];
}

-- the tables of layout 1 that stand behind the permanent ones
abbrev pub own_1 : List Table
own_1 = defect ∷ sector1 ∷ fit1 ∷ removal1 ∷ []

-- the tables of layout 2 that stand behind the permanent ones
abbrev pub own_2 : List Table
own_2 = defect ∷ sector2 ∷ span2 ∷ total2 ∷ base2 ∷ []

-- the tables of layout 3 that stand behind the permanent ones
abbrev pub own_3 : List Table
own_3 = sector2 ∷ span2 ∷ total2 ∷ defect3 ∷ done3 ∷ []

-- those that stand there while components are moved from layout 1 to layout 2
abbrev pub own_moving : List Table
own_moving = defect ∷ fit1 ∷ removal1 ∷ sector2 ∷ span2 ∷ []

-- the schema has the permanent tables, behind them these, and then any others
pub record HasBehind (own : List Table) (schema : Schema) : Type 0 where
  pub rest : List Table
  pub more : List Index
  pub is : schema ≡ permanent (own ++ rest) more

-- the schema has the permanent tables
abbrev pub HasPermanent : Schema → Type 0
HasPermanent = HasBehind []

-- the schema has the permanent tables and deferrals: at each layout up to the second, between them, and while deferrals are moved from there
abbrev pub HasDefects : Schema → Type 0
HasDefects = HasBehind (defect ∷ [])

-- the schema has the permanent tables and those of layout 1
abbrev pub HasOwn1 : Schema → Type 0
HasOwn1 = HasBehind own_1

-- the schema has the permanent tables and those of layout 2
abbrev pub HasOwn2 : Schema → Type 0
HasOwn2 = HasBehind own_2

-- the schema has the permanent tables and those of layout 3
abbrev pub HasOwn3 : Schema → Type 0
HasOwn3 = HasBehind own_3

-- the schema has the permanent tables, fittings and removals: until components have been moved
abbrev pub HasFittings : Schema → Type 0
HasFittings schema = HasOwn1 schema ⊎ HasBehind own_moving schema

-- the schema has the permanent tables and the sectors of layout 2: while sectors are moved, while components are, from then on, and once deferrals are moved
abbrev pub HasSectors2 : Schema → Type 0
HasSectors2 schema = HasBehind (defect ∷ sector1 ∷ fit1 ∷ removal1 ∷ sector2 ∷ []) schema ⊎ (HasBehind own_moving schema ⊎ (HasBehind (defect ∷ sector2 ∷ []) schema ⊎ HasBehind (sector2 ∷ []) schema))

-- the schema has the permanent tables and spans: while components are moved, from then on, and once deferrals are moved
abbrev pub HasSpans : Schema → Type 0
HasSpans schema = HasBehind own_moving schema ⊎ (HasBehind (defect ∷ sector2 ∷ span2 ∷ []) schema ⊎ HasBehind (sector2 ∷ span2 ∷ []) schema)

-- the schema has the permanent tables and totals: once all components are moved, and once deferrals are
abbrev pub HasTotals : Schema → Type 0
HasTotals schema = HasBehind (defect ∷ sector2 ∷ span2 ∷ total2 ∷ []) schema ⊎ HasBehind (sector2 ∷ span2 ∷ total2 ∷ []) schema

-- the schema has the permanent tables and last bases: once these are written, and while accomplishments are
abbrev pub HasBases : Schema → Type 0
HasBases schema = HasOwn2 schema ⊎ HasBehind (sector2 ∷ span2 ∷ total2 ∷ base2 ∷ []) schema

-- the schema has the permanent tables and the deferrals of layout 3: while deferrals are moved, while accomplishments are written, and from then on
abbrev pub HasDefects3 : Schema → Type 0
HasDefects3 schema = HasBehind (defect ∷ sector2 ∷ span2 ∷ total2 ∷ base2 ∷ defect3 ∷ []) schema ⊎ (HasBehind (sector2 ∷ span2 ∷ total2 ∷ base2 ∷ defect3 ∷ []) schema ⊎ HasBehind (sector2 ∷ span2 ∷ total2 ∷ defect3 ∷ []) schema)

-- the schema has the permanent tables and accomplishments: while these are written, and from then on
abbrev pub HasDone : Schema → Type 0
HasDone schema = HasBehind (sector2 ∷ span2 ∷ total2 ∷ base2 ∷ defect3 ∷ done3 ∷ []) schema ⊎ HasOwn3 schema
