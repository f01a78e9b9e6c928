-- Which rows of layout 2 are those of a command.
use Rattle.std.specs.Prelude.{◌≡◌, List, [], map, filter}
use Rattle.mx_book.specs.commands.Act.{Act, Entry}
use Rattle.mx_base.specs.declared.rows.rows.EntryRow.{EntryRow}
use Rattle.mx_base.specs.declared.rows.rows.SectorRow.{SectorRow}
use Rattle.mx_base.specs.declared.rows.rows.Sector2Row.{Sector2Row}
use Rattle.mx_base.specs.declared.rows.rows.SpanRow.{SpanRow}
use Rattle.mx_base.specs.declared.rows.rows.TotalRow.{TotalRow}
use Rattle.mx_base.specs.rows.Rows.{FitsEntry, FitsAircraft, FitsPlace, FitsComponent, FitsProgramme, FitsTask, FitsOpening, FitsRelease, FitsReleaseLine, FitsDeferral, FitsExtension, FitsSector, FitsSpan, FitsTotal, FitsBase}
use Rattle.mx_registers.specs.Added.{AreAdded}
use Rattle.mx_registers.specs.Registers.{entry_row, next, aircraft_by, places_by, components_by, programmes_by, tasks_by, openings_by, releases_by, release_lines_by, deferrals_by, extensions_by, sectors_by}
use Rattle.mx_registers.specs.kept.Bases.{bases_by}
use Rattle.mx_registers.specs.kept.Spans.{is_span_touched, span_ended, span_rows, spans_opened}
use Rattle.mx_registers.specs.kept.Totals.{is_among, numbers_touched, total_by_number, total_rows, totals_opened}
use Rattle.mx_row_rules.specs.declared.changes.rows.AddedRows.{AddedRows}
use Rattle.mx_row_rules.specs.declared.changes.rows.ChangedRows.{ChangedRows}
use Rattle.mx_row_rules.specs.declared.changes.rows.CommandRows.{CommandRows}

-- ── what a command changes ──

-- a sector as its table of layout 2 holds it
abbrev pub held : SectorRow → Sector2Row
held row = record { sector = row }

-- the sector fits the columns of that table
abbrev pub FitsHeld : Sector2Row → Type 0
FitsHeld row = FitsSector row.sector

-- the row of the sector that an entry says
abbrev pub sectors_held_by : List Entry → Act → List Sector2Row
sectors_held_by before act = map held (sectors_by before act)

-- the spans that a command ends, as they were
abbrev pub spans_open_of : List Entry → Act → List SpanRow
spans_open_of before act = filter (is_span_touched before act) (span_rows before)

-- the spans that a command ends, as they are behind it
abbrev pub spans_touched : List Entry → Act → List SpanRow
spans_touched before act = map (span_ended before act) (spans_open_of before act)

-- the totals of the items to which a command gives a sector or a moment, as they were
abbrev pub totals_before : List Entry → Act → List TotalRow
totals_before before act = filter (is_among (numbers_touched before act)) (total_rows before)

-- those totals, as they are behind it
abbrev pub totals_touched : List Entry → Act → List TotalRow
totals_touched before act = map (total_by_number before act) (totals_before before act)

-- ── the rows of a command ──

-- the rows are those that a command adds beside its entry, and each can be kept in its columns
pub record AreAddedTo (before : List Entry) (command : Entry) (rows : AddedRows) : Type 0 where
  pub aircraft : AreAdded FitsAircraft aircraft_by rows.aircraft.items before command
  pub places : AreAdded FitsPlace places_by rows.places.items before command
  pub components : AreAdded FitsComponent components_by rows.components.items before command
  pub programmes : AreAdded FitsProgramme programmes_by rows.programmes.items before command
  pub tasks : AreAdded FitsTask tasks_by rows.tasks.items before command
  pub openings : AreAdded FitsOpening openings_by rows.openings.items before command
  pub releases : AreAdded FitsRelease releases_by rows.releases.items before command
  pub release_lines : AreAdded FitsReleaseLine release_lines_by rows.release_lines.items before command
  pub deferrals : AreAdded FitsDeferral deferrals_by rows.deferrals.items before command
  pub extensions : AreAdded FitsExtension extensions_by rows.extensions.items before command
  pub sectors : AreAdded FitsHeld sectors_held_by rows.sectors.items before command
  pub spans : AreAdded FitsSpan spans_opened rows.spans.items before command
  pub totals : AreAdded FitsTotal totals_opened rows.totals.items before command

-- the rows are those of the kept rows that a command changes, as they are behind it, and each can be kept in its columns
pub record AreChangedBy (before : List Entry) (command : Entry) (rows : ChangedRows) : Type 0 where
  pub spans : AreAdded FitsSpan spans_touched rows.spans.items before command
  pub totals : AreAdded FitsTotal totals_touched rows.totals.items before command
  pub bases : AreAdded FitsBase bases_by rows.bases.items before command

-- the rows are those of a command behind the entries of a book, and each can be kept in its columns
pub record AreCommandRows (before : List Entry) (command : Entry) (rows : CommandRows) : Type 0 where
  pub entry : rows.entry ≡ entry_row (next before) command
  pub entry_fits : FitsEntry rows.entry
  pub added : AreAddedTo before command rows.added
  pub changed : AreChangedBy before command rows.changed

-- the row is that of an entry that says this behind the entries of a book
abbrev pub IsEntryOf : List Entry → Entry → EntryRow → Type 0
IsEntryOf before command row = row ≡ entry_row (next before) command

-- ── the rows of a command that changes nothing ──

-- there is no row but that of the entry
pub record AreNone (rows : AddedRows) : Type 0 where
  pub aircraft : rows.aircraft.items ≡ []
  pub places : rows.places.items ≡ []
  pub components : rows.components.items ≡ []
  pub programmes : rows.programmes.items ≡ []
  pub tasks : rows.tasks.items ≡ []
  pub openings : rows.openings.items ≡ []
  pub releases : rows.releases.items ≡ []
  pub release_lines : rows.release_lines.items ≡ []
  pub deferrals : rows.deferrals.items ≡ []
  pub extensions : rows.extensions.items ≡ []
  pub sectors : rows.sectors.items ≡ []
  pub spans : rows.spans.items ≡ []
  pub totals : rows.totals.items ≡ []

-- no kept row changes
pub record AreUnchanged (rows : ChangedRows) : Type 0 where
  pub spans : rows.spans.items ≡ []
  pub totals : rows.totals.items ≡ []
  pub bases : rows.bases.items ≡ []
