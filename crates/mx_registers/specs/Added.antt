-- The rows that a command adds beside its entry, as the code has them.
use Rattle.std.specs.Prelude.{◌≡◌, List, All}
use Rattle.mx_book.specs.commands.Act.{Act, Entry}
use Rattle.mx_base.specs.declared.rows.register_rows.RegisterRows.{RegisterRows}
use Rattle.mx_base.specs.rows.Rows.{FitsAircraft, FitsPlace, FitsComponent, FitsProgramme, FitsTask, FitsOpening, FitsSector, FitsFitting, FitsRemoval, FitsRelease, FitsReleaseLine, FitsDeferral, FitsExtension}
use Rattle.mx_registers.specs.Registers.{aircraft_by, places_by, components_by, programmes_by, tasks_by, openings_by, sectors_by, fittings_by, removals_by, releases_by, release_lines_by, deferrals_by, extensions_by}

-- the rows are those that an entry adds to a register, behind the entries before it, and each can be kept in its columns
abbrev pub AreAdded : {Row : Type 0} → (Row → Type 0) → (List Entry → Act → List Row) → List Row → List Entry → Entry → Type 0
AreAdded Fits by rows before entry = (rows ≡ by before entry.act) × All Fits rows

-- the rows are those that an entry adds beside its own, behind the entries before it
pub record AreAddedRows (before : List Entry) (entry : Entry) (rows : RegisterRows) : Type 0 where
  pub aircraft : AreAdded FitsAircraft aircraft_by rows.aircraft.items before entry
  pub places : AreAdded FitsPlace places_by rows.places.items before entry
  pub components : AreAdded FitsComponent components_by rows.components.items before entry
  pub programmes : AreAdded FitsProgramme programmes_by rows.programmes.items before entry
  pub tasks : AreAdded FitsTask tasks_by rows.tasks.items before entry
  pub openings : AreAdded FitsOpening openings_by rows.openings.items before entry
  pub releases : AreAdded FitsRelease releases_by rows.releases.items before entry
  pub release_lines : AreAdded FitsReleaseLine release_lines_by rows.release_lines.items before entry
  pub deferrals : AreAdded FitsDeferral deferrals_by rows.deferrals.items before entry
  pub extensions : AreAdded FitsExtension extensions_by rows.extensions.items before entry
  pub sectors : AreAdded FitsSector sectors_by rows.sectors.items before entry
  pub fittings : AreAdded FitsFitting fittings_by rows.fittings.items before entry
  pub removals : AreAdded FitsRemoval removals_by rows.removals.items before entry
