-- The tables of a file that is settled at layout 2, as its statements ask for them.
use Rattle.std.proofs.Common.{◌≡◌, inr, true, refl, sym, subst, []}
use Rattle.std.proofs.lemmas.List.Elements.{Contains-append_left}
use Rattle.std.specs.Prelude.{Contains}
use Rattle.sqlite.specs.Schema.{Schema}
use Rattle.mx_registers.specs.points.Tables.{Line, is_table_at}
use Rattle.mx_layout.specs.Names.{table_named}
use Rattle.mx_layout.specs.TableName.{TableName}
use Rattle.mx_layout.specs.Contents.{HasNoReferences}
use Rattle.mx_layout.specs.declared.fault.Table.TheVariants as table
use Rattle.mx_layout.specs.kept.Kept.{Kept}
use Rattle.mx_layout.specs.kept.Cells.{kept_entry, kept_aircraft, kept_place, kept_component, kept_programme, kept_task, kept_opening, kept_crs, kept_crs_line, kept_defect, kept_extension, kept_sector2_rows, kept_span2, kept_total2, kept_base2}
use Rattle.mx_book_tables.specs.stands.Family.{is_at}
use Rattle.mx_book_tables.specs.stands.Schemas.{IsOfFile, indexes_at, schema_at}
use Rattle.mx_book_tables.proofs.StandsProofs.PointLemmas.{file_is_up_to_3}
use Rattle.mx_book_tables.proofs.StandsProofs.FamilyLemmas.{AreFacts, facts}
use Rattle.mx_book_tables.proofs.StandsProofs.SchemaLemmas.{has_tables}
use Rattle.mx_lookups.proofs.NumbersProofs.TableLemmas.{tables_at, tables_of_rows}
use Rattle.mx_apply.specs.writing.Written.{IsSettled, written_point}

of_file : IsOfFile written_point
of_file = inr refl

-- the schema has a table that a file has there
there : {X : Type 0} {name : TableName} {k : Kept X} {line : Line X} → AreFacts name k line → is_table_at line written_point ≡ true → (schema : Schema) → IsSettled schema → k.IsIn schema
there fact at schema is = fact.is_in written_point (file_is_up_to_3 written_point of_file) at schema (tables_at schema is.tables)

unreferenced : HasNoReferences (schema_at written_point)
unreferenced = (refl, (refl, (refl, (refl, (refl, (refl, (refl, (refl, (refl, (refl, (refl, (refl, (refl, (refl, (refl, (refl, tt))))))))))))))))

-- it has each table that a file has there
pub in_settled : (s : Schema) → IsSettled s → (name : TableName) → is_at written_point name ≡ true → Contains s.tables (table_named name)
in_settled s is name there =
    let has = tables_at s is.tables in
    subst (λ (s : Schema). Contains s.tables (table_named name)) (sym has.is) (Contains-append_left (schema_at written_point).tables has.rest (table_named name) ((has_tables written_point name).0 there))

-- the schema of a file of the program is such a one
pub settled_at : (schema : Schema) → schema ≡ schema_at written_point → IsSettled schema
settled_at schema is = record { tables = tables_of_rows schema (record { rest = []; more = indexes_at written_point; is = is }); plain = subst HasNoReferences (sym is) unreferenced }

-- the schema has the table, and no table refers to another
abbrev pub IsPlainIn : {X : Type 0} → Kept X → Schema → Type 0
IsPlainIn k schema = k.IsIn schema × HasNoReferences schema

pub entry_in : (schema : Schema) → IsSettled schema → kept_entry.IsIn schema
entry_in schema is = there (facts table.Entry) refl schema is

pub spans_in : (schema : Schema) → IsSettled schema → IsPlainIn kept_span2 schema
spans_in schema is = (there (facts table.Span2) refl schema is, is.plain)

pub totals_in : (schema : Schema) → IsSettled schema → IsPlainIn kept_total2 schema
totals_in schema is = (there (facts table.Total2) refl schema is, is.plain)

pub bases_in : (schema : Schema) → IsSettled schema → IsPlainIn kept_base2 schema
bases_in schema is = (there (facts table.Base2) refl schema is, is.plain)

-- the tables to which a command adds rows beside its entry, in pairs
abbrev pub AreAddedIn : Schema → Type 0
AreAddedIn schema = (((kept_aircraft.IsIn schema × kept_place.IsIn schema) × kept_component.IsIn schema) × ((kept_programme.IsIn schema × kept_task.IsIn schema) × kept_opening.IsIn schema)) × (((kept_crs.IsIn schema × kept_crs_line.IsIn schema) × (kept_defect.IsIn schema × kept_extension.IsIn schema)) × (kept_sector2_rows.IsIn schema × (kept_span2.IsIn schema × kept_total2.IsIn schema)))

pub added_in : (schema : Schema) → IsSettled schema → AreAddedIn schema
added_in schema is =
    ((((there (facts table.Aircraft) refl schema is, there (facts table.Place) refl schema is), there (facts table.Component) refl schema is), ((there (facts table.Programme) refl schema is, there (facts table.Task) refl schema is), there (facts table.Opening) refl schema is)), (((there (facts table.Crs) refl schema is, there (facts table.CrsLine) refl schema is), (there (facts table.Defect) refl schema is, there (facts table.Extension) refl schema is)), (there (facts table.Sector2) refl schema is, (there (facts table.Span2) refl schema is, there (facts table.Total2) refl schema is))))
