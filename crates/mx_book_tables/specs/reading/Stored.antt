-- The rows of a file, each as the type of its table.
use Rattle.std.specs.Prelude.{◌≡◌, List, [], Vec, map}
use Rattle.std.specs.declared.alloc.Global.{Global}
use Rattle.sqlite.specs.Schema.{Schema}
use Rattle.sqlite.specs.Tree.{Trees}
use Rattle.mx_base.specs.declared.rows.rows.AircraftRow.{AircraftRow}
use Rattle.mx_base.specs.declared.rows.rows.ComponentRow.{ComponentRow}
use Rattle.mx_base.specs.declared.rows.rows.DeferralRow.{DeferralRow}
use Rattle.mx_base.specs.declared.rows.rows.EntryRow.{EntryRow}
use Rattle.mx_base.specs.declared.rows.rows.ExtensionRow.{ExtensionRow}
use Rattle.mx_base.specs.declared.rows.rows.OpeningRow.{OpeningRow}
use Rattle.mx_base.specs.declared.rows.rows.PlaceRow.{PlaceRow}
use Rattle.mx_base.specs.declared.rows.rows.ProgrammeRow.{ProgrammeRow}
use Rattle.mx_base.specs.declared.rows.rows.ReleaseLineRow.{ReleaseLineRow}
use Rattle.mx_base.specs.declared.rows.rows.ReleaseRow.{ReleaseRow}
use Rattle.mx_base.specs.declared.rows.rows.Sector2Row.{Sector2Row}
use Rattle.mx_base.specs.declared.rows.rows.SpanRow.{SpanRow}
use Rattle.mx_base.specs.declared.rows.rows.TaskRow.{TaskRow}
use Rattle.mx_base.specs.declared.point.Point.{Point}
use Rattle.mx_registers.specs.declared.merge.Registers.{Registers}
use Rattle.mx_layout.specs.kept.Cells.{kept_aircraft, kept_base2, kept_component, kept_crs, kept_crs_line, kept_defect, kept_entry, kept_extension, kept_opening, kept_place, kept_programme, kept_sector2, kept_span2, kept_task, kept_total2}
use Rattle.mx_tables.specs.inserts.Sets.{AreRowsOf}
use Rattle.mx_registers.specs.declared.file.file_rows.FileRows.{FileRows}
use Rattle.mx_book_tables.specs.reading.Deferrals.{AreDeferralsAt, HasDeferralsAt}

-- ── tables ──

-- the schema has the tables of the registers, those of deferrals as is said, and that of the spans: the newest where layouts differ, whatever kept rows it has a table of
pub record HasRegistersBy (HasDeferrals : Schema → Type 0) (schema : Schema) : Type 0 where
  pub entries : kept_entry.IsIn schema
  pub aircraft : kept_aircraft.IsIn schema
  pub places : kept_place.IsIn schema
  pub components : kept_component.IsIn schema
  pub programmes : kept_programme.IsIn schema
  pub tasks : kept_task.IsIn schema
  pub openings : kept_opening.IsIn schema
  pub releases : kept_crs.IsIn schema
  pub release_lines : kept_crs_line.IsIn schema
  pub deferrals : HasDeferrals schema
  pub extensions : kept_extension.IsIn schema
  pub sectors : kept_sector2.IsIn schema
  pub spans : kept_span2.IsIn schema

-- all deferrals stand in their table of layout 2
abbrev pub HasRegisters : Schema → Type 0
HasRegisters = HasRegistersBy kept_defect.IsIn

-- they stand where they do at a point
abbrev pub HasRegistersAt : Point → Schema → Type 0
HasRegistersAt at = HasRegistersBy (HasDeferralsAt at)

-- ── rows ──

-- the rows of the registers are exactly those of their tables, each read as the type of its table, and the deferrals as is said; the fittings and removals stand in no table of their own
pub record AreRegisterRowsBy (AreDeferrals : Trees → List DeferralRow → Type 0) (trees : Trees) (registers : Registers) : Type 0 where
  pub entries : AreRowsOf kept_entry trees registers.entries.items
  pub aircraft : AreRowsOf kept_aircraft trees registers.rows.aircraft.items
  pub places : AreRowsOf kept_place trees registers.rows.places.items
  pub components : AreRowsOf kept_component trees registers.rows.components.items
  pub programmes : AreRowsOf kept_programme trees registers.rows.programmes.items
  pub tasks : AreRowsOf kept_task trees registers.rows.tasks.items
  pub openings : AreRowsOf kept_opening trees registers.rows.openings.items
  pub releases : AreRowsOf kept_crs trees registers.rows.releases.items
  pub release_lines : AreRowsOf kept_crs_line trees registers.rows.release_lines.items
  pub deferrals : AreDeferrals trees registers.rows.deferrals.items
  pub extensions : AreRowsOf kept_extension trees registers.rows.extensions.items
  pub sectors : AreRowsOf kept_sector2 trees registers.rows.sectors.items

-- all deferrals are those of their table of layout 2
abbrev pub AreRegisterRows : Trees → Registers → Type 0
AreRegisterRows = AreRegisterRowsBy (AreRowsOf kept_defect)

-- the rows are exactly those of the registers and the spans, the deferrals as is said, and there is no kept row of an item
pub record AreRegistersBy (AreDeferrals : Trees → List DeferralRow → Type 0) (trees : Trees) (rows : FileRows) : Type 0 where
  pub registers : AreRegisterRowsBy AreDeferrals trees rows.registers
  pub spans : AreRowsOf kept_span2 trees rows.spans.items
  pub totals : rows.totals.items ≡ []
  pub bases : rows.bases.items ≡ []

-- all deferrals are those of their table of layout 2
abbrev pub AreRegisters : Trees → FileRows → Type 0
AreRegisters = AreRegistersBy (AreRowsOf kept_defect)

-- they are those of the tables that a file at a point has of them
abbrev pub AreRegistersAt : Point → Trees → FileRows → Type 0
AreRegistersAt at = AreRegistersBy (AreDeferralsAt at)

-- the rows are exactly those of the tables, each read as the type of its table
pub record AreStored (trees : Trees) (rows : FileRows) : Type 0 where
  pub registers : AreRegisterRows trees rows.registers
  pub spans : AreRowsOf kept_span2 trees rows.spans.items
  pub totals : AreRowsOf kept_total2 trees rows.totals.items
  pub bases : AreRowsOf kept_base2 trees rows.bases.items

-- ── as they are read ──

-- the tables of the registers in pairs, those of deferrals as one of them, from the sectors, the deferrals, the releases, the programmes and the aircraft on, and all
abbrev pub FlownPairs : Type 0
FlownPairs = Vec Sector2Row Global × Vec SpanRow Global

abbrev pub DeferredPairs : Type 0 → Type 0
DeferredPairs Deferred = Deferred × (Vec ExtensionRow Global × FlownPairs)

abbrev pub ReleasedPairs : Type 0 → Type 0
ReleasedPairs Deferred = Vec ReleaseRow Global × (Vec ReleaseLineRow Global × DeferredPairs Deferred)

abbrev pub MaintainedPairs : Type 0 → Type 0
MaintainedPairs Deferred = Vec ProgrammeRow Global × (Vec TaskRow Global × (Vec OpeningRow Global × ReleasedPairs Deferred))

abbrev pub ItemPairs : Type 0 → Type 0
ItemPairs Deferred = Vec AircraftRow Global × (Vec PlaceRow Global × (Vec ComponentRow Global × MaintainedPairs Deferred))

abbrev pub RegisterPairs : Type 0 → Type 0
RegisterPairs Deferred = Vec EntryRow Global × ItemPairs Deferred

-- the rows are those that stand in the pairs, the deferrals as is said, the sectors without what holds them, and there is no kept row of an item
pub record AreInPairs {Deferred : Type 0} (deferrals_of : Deferred → List DeferralRow) (pairs : RegisterPairs Deferred) (rows : FileRows) : Type 0 where
  pub entries : rows.registers.entries.items ≡ pairs.0.items
  pub aircraft : rows.registers.rows.aircraft.items ≡ pairs.1.0.items
  pub places : rows.registers.rows.places.items ≡ pairs.1.1.0.items
  pub components : rows.registers.rows.components.items ≡ pairs.1.1.1.0.items
  pub programmes : rows.registers.rows.programmes.items ≡ pairs.1.1.1.1.0.items
  pub tasks : rows.registers.rows.tasks.items ≡ pairs.1.1.1.1.1.0.items
  pub openings : rows.registers.rows.openings.items ≡ pairs.1.1.1.1.1.1.0.items
  pub releases : rows.registers.rows.releases.items ≡ pairs.1.1.1.1.1.1.1.0.items
  pub release_lines : rows.registers.rows.release_lines.items ≡ pairs.1.1.1.1.1.1.1.1.0.items
  pub deferrals : rows.registers.rows.deferrals.items ≡ deferrals_of pairs.1.1.1.1.1.1.1.1.1.0
  pub extensions : rows.registers.rows.extensions.items ≡ pairs.1.1.1.1.1.1.1.1.1.1.0.items
  pub sectors : rows.registers.rows.sectors.items ≡ map (λ (row : Sector2Row). row.sector) pairs.1.1.1.1.1.1.1.1.1.1.1.0.items
  pub spans : rows.spans.items ≡ pairs.1.1.1.1.1.1.1.1.1.1.1.1.items
  pub totals : rows.totals.items ≡ []
  pub bases : rows.bases.items ≡ []
