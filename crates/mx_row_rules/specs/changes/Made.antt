-- The rows that are made of what a command says, by the row of its entry and by what was found for it, whatever that is.
use Rattle.std.specs.Prelude.{◌≡◌, ℕ, ◌/◌, List, [], ◌∷◌, map}
use Rattle.std.specs.List.{filter_map}
use Rattle.mx_book.specs.commands.Act.{Act, Added, Listed, Opened, Flown, Fitted, Removed, Released, Deferred, aircraft_of, component_of, programme_of, opening_of, sector_of, fitting_of, release_of, deferral_of, extension_of, positions_of, tasks_of}
use Rattle.mx_book.specs.Base.{base_at}
use Rattle.mx_base.specs.rows.Rows.{base_row_with}
use Rattle.mx_base.specs.declared.rows.rows.BaseRow.{BaseRow}
use Rattle.mx_base.specs.declared.rows.rows.EntryRow.{EntryRow}
use Rattle.mx_base.specs.declared.rows.rows.ReleaseLineRow.{ReleaseLineRow}
use Rattle.mx_base.specs.declared.rows.rows.SpanRow.{SpanRow}
use Rattle.mx_base.specs.declared.rows.rows.TotalRow.{TotalRow}
use Rattle.mx_registers.specs.Lines.{lines_from}
use Rattle.mx_registers.specs.Registers.{if_any, aircraft_row, place_row, component_row, programme_row, task_row, opening_row, sector_row, release_row, deferral_row, extension_row}
use Rattle.mx_row_rules.specs.changes.Certified.{base_made, line_made}
use Rattle.mx_row_rules.specs.changes.Kept.{span_fitted, span_removed, total_begun, total_clocked, total_flown}
use Rattle.mx_row_rules.specs.changes.Rows.{held}
use Rattle.mx_row_rules.specs.declared.changes.releases.Certified.{Certified}
use Rattle.mx_row_rules.specs.declared.changes.rows.CommandRows.{CommandRows}

-- what was found for a command: the number of the aircraft, the item, the place or the defect that it names, that of the component that it fits or removes, the spans and the totals that it touches as they were, and what is known of its lines
pub record Findings : Type 0 where
  pub number : ℕ
  pub component : ℕ
  pub spans : List SpanRow
  pub totals : List TotalRow
  pub lines : List Certified

-- nothing was found
abbrev pub nothing_found : Findings
nothing_found = record { number = 0; component = 0; spans = []; totals = []; lines = [] }

-- ── added ──

-- the lines of a release, where work was released
abbrev pub lines_made : Act → ℕ → Findings → List ReleaseLineRow
lines_made (Released release lines) seq found = lines_from line_made seq 1 found.lines
lines_made _ seq found = []

-- the first total of an item, where one was added
abbrev pub totals_begun : Act → ℕ → List TotalRow
totals_begun (Added aircraft positions) seq = total_begun seq aircraft.opening aircraft.as_of ∷ []
totals_begun (Listed component) seq = total_begun seq component.opening component.as_of ∷ []
totals_begun _ seq = []

-- ── in place of what there was ──

-- the spans that were found, ended, where a component was removed
abbrev pub spans_ended : Act → ℕ → Findings → List SpanRow
spans_ended (Removed removal) seq found = map (span_removed seq removal.moment) found.spans
spans_ended _ seq found = []

-- the totals that were found: credited with the sector and, that of the aircraft, its clock raised to the landing; or their clocks raised to the moment of the command
abbrev pub totals_moved : Act → Findings → List TotalRow
totals_moved (Flown sector) found = map (total_flown found.number sector) found.totals
totals_moved (Fitted fitting) found = map (total_clocked fitting.moment) found.totals
totals_moved (Removed removal) found = map (total_clocked removal.moment) found.totals
totals_moved (Released release lines) found = map (total_clocked release.moment) found.totals
totals_moved (Deferred deferral) found = map (total_clocked deferral.moment) found.totals
totals_moved _ found = []

-- the last base that an opening states, or those of the tasks that a release certifies as done
abbrev pub bases_made : Act → Findings → List BaseRow
bases_made (Opened opening) found = base_row_with found.number opening.task (base_at opening.use_then opening.day) ∷ []
bases_made (Released release lines) found = filter_map (base_made (release.moment / 1440)) found.lines
bases_made _ found = []

-- ── all tables ──

-- the rows are those of a command that says this, behind the row of its entry, of what was found for it: each table gains what it says and no more, and no kept row comes in place of another but of what was found
pub record AreMadeOf (act : Act) (own : EntryRow) (found : Findings) (rows : CommandRows) : Type 0 where
  pub entry : rows.entry ≡ own
  pub aircraft : rows.added.aircraft.items ≡ if_any (aircraft_row own.seq) (aircraft_of act)
  pub places : rows.added.places.items ≡ lines_from place_row own.seq 1 (positions_of act)
  pub components : rows.added.components.items ≡ if_any (component_row own.seq) (component_of act)
  pub programmes : rows.added.programmes.items ≡ if_any (programme_row own.seq) (programme_of act)
  pub tasks : rows.added.tasks.items ≡ lines_from task_row own.seq 1 (tasks_of act)
  pub openings : rows.added.openings.items ≡ if_any (opening_row own.seq found.number) (opening_of act)
  pub releases : rows.added.releases.items ≡ if_any (release_row own.seq found.number) (release_of act)
  pub release_lines : rows.added.release_lines.items ≡ lines_made act own.seq found
  pub deferrals : rows.added.deferrals.items ≡ if_any (deferral_row own.seq found.number) (deferral_of act)
  pub extensions : rows.added.extensions.items ≡ if_any (extension_row own.seq found.number) (extension_of act)
  pub sectors : rows.added.sectors.items ≡ map held (if_any (sector_row own.seq found.number) (sector_of act))
  pub spans : rows.added.spans.items ≡ if_any (span_fitted own.seq found.component found.number) (fitting_of act)
  pub totals : rows.added.totals.items ≡ totals_begun act own.seq
  pub spans_changed : rows.changed.spans.items ≡ spans_ended act own.seq found
  pub totals_changed : rows.changed.totals.items ≡ totals_moved act found
  pub bases_changed : rows.changed.bases.items ≡ bases_made act found
