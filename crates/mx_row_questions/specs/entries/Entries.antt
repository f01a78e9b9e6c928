-- The commands of entries, over any rows.
use Rattle.std.specs.Prelude.{◌≡◌, ◌+◌, ◌-◌, ℕ, List, [], ◌∷◌, length, min, ⊤, Option, Some, None, if◌then◌else◌}
use Rattle.std.specs.Option.{option_and_then}
use Rattle.sqlite.specs.Tree.{Trees}
use Rattle.mx_book.specs.commands.Act.{Act, Entry}
use Rattle.mx_book.specs.commands.Shape.{has_shape}
use Rattle.mx_registers.specs.kept.Changes.{entry_of}
use Rattle.mx_base.specs.declared.rows.rows.EntryKind.{EntryKind}
use Rattle.mx_base.specs.declared.rows.rows.EntryKind.TheVariants.{AddAircraft, AddComponent, LoadProgramme, Opening, Sector, Fit, Remove, Release, Defer, Extend}
use Rattle.mx_layout.specs.TableName.{TableName}
use Rattle.mx_layout.specs.declared.fault.Table.TheVariants as table
use Rattle.mx_layout.specs.kept.Cells.{kept_entry}
use Rattle.mx_table_rows.specs.chosen.Choices.{backward, is_any}
use Rattle.mx_row_rules.specs.found.Names.{last_number}
use Rattle.mx_lookups.specs.numbers.AnyRows.{GivesFirst}
use Rattle.mx_row_questions.specs.entries.Names.{ByRow}
use Rattle.mx_row_questions.specs.entries.Releases.{ReleaseStated}
use Rattle.mx_row_questions.specs.entries.Stated.{AircraftStated, ComponentStated, DeferralStated, ExtensionStated, FirstOf, FittingStated, OpeningStated, ProgrammeStated, RemovalStated, SectorStated}

-- the table of the rows that entries of a kind have
abbrev pub table_of : EntryKind → TableName
table_of AddAircraft = table.Aircraft
table_of AddComponent = table.Component
table_of LoadProgramme = table.Programme
table_of Opening = table.Opening
table_of Sector = table.Sector2
table_of Fit = table.Span2
table_of Remove = table.Span2
table_of Release = table.Crs
table_of Defer = table.Defect
table_of Extend = table.Extension

-- what the rows with this number state, as an entry of this kind
abbrev pub KindStated : EntryKind → ℕ → Trees → Option Act → Type 0
KindStated AddAircraft = AircraftStated
KindStated AddComponent = ComponentStated
KindStated LoadProgramme = ProgrammeStated
KindStated Opening = OpeningStated
KindStated Sector = SectorStated
KindStated Fit = FittingStated
KindStated Remove = RemovalStated
KindStated Release = ReleaseStated
KindStated Defer = DeferralStated
KindStated Extend = ExtensionStated

-- the command with this document, of what rows state, where that has its shape
abbrev pub command_said : List ℕ → Option Act → Option Entry
command_said doc said = option_and_then (λ act. if has_shape (entry_of doc act) then Some (entry_of doc act) else None) said

-- the command of the entry with this number; nothing where there is no such entry
abbrev pub IsEntry : ℕ → Trees → Option Entry → Type 0
IsEntry n = ByRow (FirstOf kept_entry n) (λ row trees command. (said : Option Act) × KindStated row.kind n trees said × ((it : Entry) × (command ≡ Some it) × (Some it ≡ command_said row.doc said)))

-- the number of the last entry
abbrev pub IsLast : Trees → ℕ → Type 0
IsLast = GivesFirst kept_entry (Some 1) (backward kept_entry.order) is_any last_number

-- the commands of entries one after the other, from this number on
abbrev pub InTurn : ℕ → Trees → List Entry → Type 0
InTurn n trees [] = ⊤
InTurn n trees (command ∷ later) = IsEntry n trees (Some command) × InTurn (n + 1) trees later

-- the commands of the entries from a number on, up to the last one, and at most so many
pub record AreEntries (from at_most : ℕ) (trees : Trees) (commands : List Entry) : Type 0 where
  pub last : ℕ
  pub is_last : IsLast trees last
  pub count : length commands ≡ min (last - (from - 1)) at_most
  pub each : InTurn (from - 1 + 1) trees commands
