-- The rows of a command, on top of those that each table of layout 1 has.
use Rattle.std.proofs.Common.{◌≡◌, inl, true, List, [], ◌++◌, map, refl, subst}
use Rattle.std.specs.List.Sorted.{IsPermutation}
use Rattle.sqlite.specs.Order.{Row}
use Rattle.sqlite.specs.Schema.{Schema}
use Rattle.sqlite.specs.Effect.{Database}
use Rattle.mx_book.specs.commands.Act.{Entry}
use Rattle.mx_base.specs.declared.rows.rows.EntryRow.{EntryRow}
use Rattle.mx_base.specs.declared.rows.register_rows.RegisterRows.{RegisterRows}
use Rattle.mx_registers.specs.Added.{AreAddedRows}
use Rattle.mx_registers.specs.Registers.{entry_added}
use Rattle.mx_registers.specs.points.Tables.{Line, is_table_at}
use Rattle.mx_layout.specs.TableName.{TableName}
use Rattle.mx_layout.specs.declared.fault.Table.TheVariants as table
use Rattle.mx_layout.specs.Contents.{rows_in}
use Rattle.mx_layout.specs.Names.{table_named}
use Rattle.mx_layout.specs.kept.Kept.{Kept}
use Rattle.mx_layout.specs.kept.Family.{on_top}
use Rattle.mx_layout.proofs.KeptProofs.OntoLemmas.{on_top_keeps}
use Rattle.mx_layout.specs.kept.Cells.{kept_entry, kept_aircraft, kept_place, kept_component, kept_programme, kept_task, kept_opening, kept_crs, kept_crs_line, kept_defect, kept_extension, kept_sector1, kept_fit1, kept_removal1}
use Rattle.mx_book_tables.specs.stands.Schemas.{HasTablesAt, IsOfFile, indexes_at, schema_at}
use Rattle.mx_book_tables.proofs.StandsProofs.PointLemmas.{file_is_up_to_3}
use Rattle.mx_book_tables.proofs.StandsProofs.FamilyLemmas.{AreFacts, facts}
use Rattle.mx_tables.specs.inserts.Sets.{GainsRows}
use Rattle.mx_moves.specs.install.Entries.{first_point, with_command}

-- ── which schemas have the tables ──

of_file : IsOfFile first_point
of_file = inl refl

has_all : (schema : Schema) → schema ≡ schema_at first_point → HasTablesAt first_point schema
has_all schema is = record { rest = []; more = indexes_at first_point; is = is }

-- the schema has a table that a file has there
there : {X : Type 0} {name : TableName} {k : Kept X} {line : Line X} → AreFacts name k line → is_table_at line first_point ≡ true → (schema : Schema) → schema ≡ schema_at first_point → k.IsIn schema
there fact at schema is = fact.is_in first_point (file_is_up_to_3 first_point of_file) at schema (has_all schema is)

pub entries_in : (schema : Schema) → schema ≡ schema_at first_point → kept_entry.IsIn schema
entries_in schema is = there (facts table.Entry) refl schema is

-- the tables to which a command adds rows beside its entry, in pairs
abbrev pub AreIn : Schema → Type 0
AreIn schema = kept_aircraft.IsIn schema × (kept_place.IsIn schema × (kept_component.IsIn schema × (kept_programme.IsIn schema × (kept_task.IsIn schema × (kept_opening.IsIn schema × (kept_crs.IsIn schema × (kept_crs_line.IsIn schema × (kept_defect.IsIn schema × (kept_extension.IsIn schema × (kept_sector1.IsIn schema × (kept_fit1.IsIn schema × kept_removal1.IsIn schema)))))))))))

pub rest_in : (schema : Schema) → schema ≡ schema_at first_point → AreIn schema
rest_in schema is =
    (there (facts table.Aircraft) refl schema is, (there (facts table.Place) refl schema is, (there (facts table.Component) refl schema is, (there (facts table.Programme) refl schema is, (there (facts table.Task) refl schema is, (there (facts table.Opening) refl schema is, (there (facts table.Crs) refl schema is, (there (facts table.CrsLine) refl schema is, (there (facts table.Defect) refl schema is, (there (facts table.Extension) refl schema is, (there (facts table.Sector1) refl schema is, (there (facts table.Fit1) refl schema is, there (facts table.Removal1) refl schema is))))))))))))

-- ── one line for each table ──

-- the rows of a command beside its entry, table on table
abbrev pub onto_rest : RegisterRows → TableName → List Row → List Row
onto_rest v name rows =
    on_top kept_removal1 v.removals.items name (on_top kept_fit1 v.fittings.items name (on_top kept_sector1 v.sectors.items name (on_top kept_extension v.extensions.items name (on_top kept_defect v.deferrals.items name (on_top kept_crs_line v.release_lines.items name (on_top kept_crs v.releases.items name (on_top kept_opening v.openings.items name (on_top kept_task v.tasks.items name (on_top kept_programme v.programmes.items name (on_top kept_component v.components.items name (on_top kept_place v.places.items name (on_top kept_aircraft v.aircraft.items name rows))))))))))))

pub rest_keeps : (v : RegisterRows) (name : TableName) (xs ys : List Row) → IsPermutation xs ys → IsPermutation (onto_rest v name xs) (onto_rest v name ys)
rest_keeps v name xs ys same =
    on_top_keeps kept_removal1 _ name _ _ (on_top_keeps kept_fit1 _ name _ _ (on_top_keeps kept_sector1 _ name _ _ (on_top_keeps kept_extension _ name _ _ (on_top_keeps kept_defect _ name _ _ (on_top_keeps kept_crs_line _ name _ _ (on_top_keeps kept_crs _ name _ _ (on_top_keeps kept_opening _ name _ _ (on_top_keeps kept_task _ name _ _ (on_top_keeps kept_programme _ name _ _ (on_top_keeps kept_component _ name _ _ (on_top_keeps kept_place _ name _ _ (on_top_keeps kept_aircraft _ name xs ys same))))))))))))

-- the rows of a command, table on table
abbrev pub onto_all : List EntryRow → RegisterRows → TableName → List Row → List Row
onto_all e v name rows = onto_rest v name (on_top kept_entry e name rows)

module _ (before : List Entry) (command : Entry) (e : List EntryRow) (v : RegisterRows) (entry : e ≡ entry_added before command) (are : AreAddedRows before command v) where
  onto_is : (name : TableName) (rows : List Row) → onto_all e v name rows ≡ with_command before command name rows
  onto_is table.Entry rows = λ i. map kept_entry.as_cells (entry i) ++ rows
  onto_is table.Aircraft rows = λ i. map kept_aircraft.as_cells (are.aircraft.0 i) ++ rows
  onto_is table.Place rows = λ i. map kept_place.as_cells (are.places.0 i) ++ rows
  onto_is table.Component rows = λ i. map kept_component.as_cells (are.components.0 i) ++ rows
  onto_is table.Programme rows = λ i. map kept_programme.as_cells (are.programmes.0 i) ++ rows
  onto_is table.Task rows = λ i. map kept_task.as_cells (are.tasks.0 i) ++ rows
  onto_is table.Opening rows = λ i. map kept_opening.as_cells (are.openings.0 i) ++ rows
  onto_is table.Crs rows = λ i. map kept_crs.as_cells (are.releases.0 i) ++ rows
  onto_is table.CrsLine rows = λ i. map kept_crs_line.as_cells (are.release_lines.0 i) ++ rows
  onto_is table.Defect rows = λ i. map kept_defect.as_cells (are.deferrals.0 i) ++ rows
  onto_is table.Extension rows = λ i. map kept_extension.as_cells (are.extensions.0 i) ++ rows
  onto_is table.Sector1 rows = λ i. map kept_sector1.as_cells (are.sectors.0 i) ++ rows
  onto_is table.Fit1 rows = λ i. map kept_fit1.as_cells (are.fittings.0 i) ++ rows
  onto_is table.Removal1 rows = λ i. map kept_removal1.as_cells (are.removals.0 i) ++ rows
  onto_is _ rows = refl

  -- tables that gained those rows gained the rows of the command
  pub gains_command : (old new : Database) → GainsRows (onto_all e v) old new → GainsRows (with_command before command) old new
  gains_command old new gains = record {
    schema = gains.schema;
    sound = gains.sound;
    tables = λ name at. subst (λ rows. IsPermutation rows (rows_in (table_named name) new.trees)) (onto_is name (rows_in (table_named name) old.trees)) (gains.tables name at);
    rises = gains.rises;
  }
