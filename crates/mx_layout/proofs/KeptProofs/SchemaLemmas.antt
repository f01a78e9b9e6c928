-- Which schemas have which tables.
use Rattle.std.proofs.Common.{inl, inr, List, [], ◌∷◌, ◌++◌, codes, refl}
use Rattle.sqlite.specs.Schema.{Schema}
use Rattle.mx_layout.specs.Tables.{layout_1, layout_2, layout_3, unique, defect, sector1, fit1, removal1, sector2, span2, total2, base2, defect3, done3, span2_by_component, span2_by_aircraft, span2_by_remove_seq, crs_line_by_defect, extension_by_defect, defect_by_aircraft, defect3_by_aircraft, sector2_by_aircraft, crs_by_item}
use Rattle.mx_layout.specs.Steps.{schema_after}
use Rattle.sqlite_schema.specs.declared.schema.Index.{Index}
use Rattle.sqlite_tied.specs.Compute.{everything}
use Rattle.mx_layout.specs.kept.Schemas.{HasBehind, HasBases, HasDefects, HasDefects3, HasOwn1, HasOwn2, HasOwn3, HasSectors2, HasSpans, own_moving}

pub layout_1_has : HasOwn1 layout_1
layout_1_has = record { rest = []; more = []; is = refl }

pub layout_2_has : HasOwn2 layout_2
layout_2_has = record {
  rest = [];
  more = span2_by_component ∷ span2_by_aircraft ∷ span2_by_remove_seq ∷ unique (codes "sqlite_autoindex_base2_1") 28 27 (1 ∷ 2 ∷ [])
      ∷ crs_line_by_defect ∷ extension_by_defect ∷ defect_by_aircraft ∷ [];
  is = refl;
}

pub layout_3_has : HasOwn3 layout_3
layout_3_has = record {
  rest = [];
  more = span2_by_component ∷ span2_by_aircraft ∷ span2_by_remove_seq ∷ crs_line_by_defect ∷ extension_by_defect
      ∷ unique (codes "sqlite_autoindex_done3_1") 34 33 (1 ∷ 2 ∷ 3 ∷ 4 ∷ []) ∷ defect3_by_aircraft ∷ sector2_by_aircraft ∷ crs_by_item ∷ [];
  is = refl;
}

-- ── what a schema has that has more ──

-- the schema has totals and what stands in front of them, once all components are moved
abbrev pub HasMoved : Schema → Type 0
HasMoved = HasBehind (defect ∷ sector2 ∷ span2 ∷ total2 ∷ [])

-- the same once deferrals are moved
abbrev pub HasStayed : Schema → Type 0
HasStayed = HasBehind (sector2 ∷ span2 ∷ total2 ∷ [])

pub own_1_defects : (schema : Schema) → HasOwn1 schema → HasDefects schema
own_1_defects schema has = record { rest = sector1 ∷ fit1 ∷ removal1 ∷ has.rest; more = has.more; is = has.is }

pub moving_defects : (schema : Schema) → HasBehind own_moving schema → HasDefects schema
moving_defects schema has = record { rest = fit1 ∷ removal1 ∷ sector2 ∷ span2 ∷ has.rest; more = has.more; is = has.is }

pub own_2_moved : (schema : Schema) → HasOwn2 schema → HasMoved schema
own_2_moved schema has = record { rest = base2 ∷ has.rest; more = has.more; is = has.is }

pub moved_defects : (schema : Schema) → HasMoved schema → HasDefects schema
moved_defects schema has = record { rest = sector2 ∷ span2 ∷ total2 ∷ has.rest; more = has.more; is = has.is }

pub moved_sectors : (schema : Schema) → HasMoved schema → HasSectors2 schema
moved_sectors schema has = inr (inr (inl (record { rest = span2 ∷ total2 ∷ has.rest; more = has.more; is = has.is })))

pub moved_spans : (schema : Schema) → HasMoved schema → HasSpans schema
moved_spans schema has = inr (inl (record { rest = total2 ∷ has.rest; more = has.more; is = has.is }))

pub own_3_stayed : (schema : Schema) → HasOwn3 schema → HasStayed schema
own_3_stayed schema has = record { rest = defect3 ∷ done3 ∷ has.rest; more = has.more; is = has.is }

pub own_3_defects : (schema : Schema) → HasOwn3 schema → HasDefects3 schema
own_3_defects schema has = inr (inr (record { rest = done3 ∷ has.rest; more = has.more; is = has.is }))

pub stayed_sectors : (schema : Schema) → HasStayed schema → HasSectors2 schema
stayed_sectors schema has = inr (inr (inr (record { rest = span2 ∷ total2 ∷ has.rest; more = has.more; is = has.is })))

pub stayed_spans : (schema : Schema) → HasStayed schema → HasSpans schema
stayed_spans schema has = inr (inr (record { rest = total2 ∷ has.rest; more = has.more; is = has.is }))

pub coming_own_2 : (schema : Schema) → HasBehind (defect ∷ sector2 ∷ span2 ∷ total2 ∷ base2 ∷ defect3 ∷ []) schema → HasOwn2 schema
coming_own_2 schema has = record { rest = defect3 ∷ has.rest; more = has.more; is = has.is }

-- the schema has the tables that stand while accomplishments are written
abbrev pub HasAll3 : Schema → Type 0
HasAll3 = HasBehind (sector2 ∷ span2 ∷ total2 ∷ base2 ∷ defect3 ∷ done3 ∷ [])

pub all_3_stayed : (schema : Schema) → HasAll3 schema → HasStayed schema
all_3_stayed schema has = record { rest = base2 ∷ defect3 ∷ done3 ∷ has.rest; more = has.more; is = has.is }

pub all_3_bases : (schema : Schema) → HasAll3 schema → HasBases schema
all_3_bases schema has = inr (record { rest = defect3 ∷ done3 ∷ has.rest; more = has.more; is = has.is })

pub all_3_defects : (schema : Schema) → HasAll3 schema → HasDefects3 schema
all_3_defects schema has = inr (inl (record { rest = done3 ∷ has.rest; more = has.more; is = has.is }))

-- ── the schemas on the way to layout 2 ──

abbrev span_indexes : List Index
span_indexes = span2_by_component ∷ span2_by_aircraft ∷ span2_by_remove_seq ∷ []

pub sectors_come : HasBehind (defect ∷ sector1 ∷ fit1 ∷ removal1 ∷ sector2 ∷ []) (schema_after 16)
unfolding everything
sectors_come = record { rest = []; more = []; is = refl }

pub first_stay : HasOwn1 (schema_after 16)
unfolding everything
first_stay = record { rest = sector2 ∷ []; more = []; is = refl }

pub spans_come : HasBehind own_moving (schema_after 21)
unfolding everything
spans_come = record { rest = []; more = span_indexes; is = refl }

pub totals_come : HasMoved (schema_after 24)
unfolding everything
totals_come = record { rest = []; more = span_indexes; is = refl }

pub bases_come : HasOwn2 (schema_after 25)
unfolding everything
bases_come = record { rest = []; more = span_indexes ++ unique (codes "sqlite_autoindex_base2_1") 28 27 (1 ∷ 2 ∷ []) ∷ []; is = refl }

-- ── the schemas on the way to layout 3 ──

-- the indexes that the last move to layout 2 makes, but that of deferrals
abbrev end_indexes : List Index
end_indexes = crs_line_by_defect ∷ extension_by_defect ∷ []

-- while deferrals are moved
pub deferrals_come : HasBehind (defect ∷ sector2 ∷ span2 ∷ total2 ∷ base2 ∷ defect3 ∷ []) (schema_after 29)
unfolding everything
deferrals_come = record { rest = []; more = span_indexes ++ unique (codes "sqlite_autoindex_base2_1") 28 27 (1 ∷ 2 ∷ []) ∷ end_indexes ++ defect_by_aircraft ∷ []; is = refl }

-- while accomplishments are written
pub accomplishments_come : HasAll3 (schema_after 31)
unfolding everything
accomplishments_come = record { rest = []; more = span_indexes ++ unique (codes "sqlite_autoindex_base2_1") 28 27 (1 ∷ 2 ∷ []) ∷ end_indexes ++ unique (codes "sqlite_autoindex_done3_1") 34 33 (1 ∷ 2 ∷ 3 ∷ 4 ∷ []) ∷ []; is = refl }
