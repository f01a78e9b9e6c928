-- Rows in the order of their keys are those of a book exactly where the rows are as sets.
use Rattle.std.proofs.Common.{◌+◌, Bool, List, [], length, sym, subst}
use Rattle.std.specs.Prelude.{◌≢◌, Result, Ok, Err, IfOk, IsPermutation}
use Rattle.mx_book.specs.commands.Act.{Entry}
use Rattle.mx_book.specs.Book.{IsBook}
use Rattle.mx_base.specs.rows.Rows.{place_key, release_line_key, task_key}
use Rattle.mx_base.specs.declared.rows.rows.AircraftRow.{AircraftRow}
use Rattle.mx_base.specs.declared.rows.rows.BaseRow.{BaseRow}
use Rattle.mx_base.specs.declared.rows.rows.ComponentRow.{ComponentRow}
use Rattle.mx_base.specs.declared.rows.rows.DeferralRow.{DeferralRow}
use Rattle.mx_base.specs.declared.rows.rows.EntryRow.{EntryRow}
use Rattle.mx_base.specs.declared.rows.rows.EntryKind.{EntryKind}
use Rattle.mx_base.specs.declared.rows.rows.ExtensionRow.{ExtensionRow}
use Rattle.mx_base.specs.declared.rows.rows.OpeningRow.{OpeningRow}
use Rattle.mx_base.specs.declared.rows.rows.ProgrammeRow.{ProgrammeRow}
use Rattle.mx_base.specs.declared.rows.rows.ReleaseRow.{ReleaseRow}
use Rattle.mx_base.specs.declared.rows.rows.SectorRow.{SectorRow}
use Rattle.mx_base.specs.declared.rows.rows.SpanRow.{SpanRow}
use Rattle.mx_base.specs.declared.rows.rows.TotalRow.{TotalRow}
use Rattle.mx_registers.specs.Registers.{aircraft_rows, component_rows, deferral_rows, entry_rows, extension_rows, opening_rows, place_rows, programme_rows, release_line_rows, release_rows, sector_rows, task_rows}
use Rattle.mx_registers.specs.kept.Bases.{base_rows}
use Rattle.mx_registers.specs.kept.Spans.{span_rows}
use Rattle.mx_registers.specs.kept.Totals.{total_rows}
use Rattle.mx_registers.proofs.KeptProofs.ItemOrder.{total_rows-rising}
use Rattle.mx_registers.specs.Left.{all_rows}
use Rattle.mx_verify.specs.merged.Merging.{merging}
use Rattle.mx_registers.proofs.FileProofs.TableLemmas.{put_is, put_of, registers_put, spans_put}
use Rattle.mx_registers.specs.file.Tables.{AreFilePut, AreTablesOf}
use Rattle.mx_verify.specs.verified.Verified.{AreRowsOf}
use Rattle.mx_verify.specs.declared.merged.merged.NoBook.TheVariants.{Damaged}
use Rattle.mx_registers.specs.declared.file.file_rows.FileRows.{FileRows}
use Rattle.mx_verify.specs.declared.verified.verified.Unverified.{Unverified}

-- tables whose rows are those of a book as sets have, in order, the rows of the book
pub tables_put : (rows put : FileRows) (book : List Entry) → IsBook book → AreFilePut rows put → AreTablesOf rows book → AreRowsOf put book
tables_put rows put book is p t = record {
  registers = registers_put rows put book is p t.registers;
  kept = record {
    spans = spans_put rows put book is p t.registers;
    totals = put_is (λ (row : TotalRow). row.item) 1 (1 + length book) (total_rows book) rows.totals.items put.totals.items (total_rows-rising book) p.totals t.totals;
    bases = subst (λ (rows : List BaseRow). IsPermutation rows (base_rows book)) (sym p.bases) t.bases;
  };
}

-- and the other way round
pub tables_back : (rows put : FileRows) (book : List Entry) → AreFilePut rows put → AreRowsOf put book → AreTablesOf rows book
tables_back rows put book p r = record {
  registers = record {
    entries = put_of (λ (row : EntryRow). row.seq) (entry_rows book) rows.registers.entries.items put.registers.entries.items p.entries r.registers.entries;
    aircraft = put_of (λ (row : AircraftRow). row.seq) (aircraft_rows book) rows.registers.rows.aircraft.items put.registers.rows.aircraft.items p.registers.aircraft r.registers.aircraft;
    places = put_of place_key (place_rows book) rows.registers.rows.places.items put.registers.rows.places.items p.registers.places r.registers.places;
    components = put_of (λ (row : ComponentRow). row.seq) (component_rows book) rows.registers.rows.components.items put.registers.rows.components.items p.registers.components r.registers.components;
    programmes = put_of (λ (row : ProgrammeRow). row.seq) (programme_rows book) rows.registers.rows.programmes.items put.registers.rows.programmes.items p.registers.programmes r.registers.programmes;
    tasks = put_of task_key (task_rows book) rows.registers.rows.tasks.items put.registers.rows.tasks.items p.registers.tasks r.registers.tasks;
    openings = put_of (λ (row : OpeningRow). row.seq) (opening_rows book) rows.registers.rows.openings.items put.registers.rows.openings.items p.registers.openings r.registers.openings;
    releases = put_of (λ (row : ReleaseRow). row.seq) (release_rows book) rows.registers.rows.releases.items put.registers.rows.releases.items p.registers.releases r.registers.releases;
    release_lines = put_of release_line_key (release_line_rows book) rows.registers.rows.release_lines.items put.registers.rows.release_lines.items p.registers.release_lines r.registers.release_lines;
    deferrals = put_of (λ (row : DeferralRow). row.seq) (deferral_rows book) rows.registers.rows.deferrals.items put.registers.rows.deferrals.items p.registers.deferrals r.registers.deferrals;
    extensions = put_of (λ (row : ExtensionRow). row.seq) (extension_rows book) rows.registers.rows.extensions.items put.registers.rows.extensions.items p.registers.extensions r.registers.extensions;
    sectors = put_of (λ (row : SectorRow). row.seq) (sector_rows book) rows.registers.rows.sectors.items put.registers.rows.sectors.items p.registers.sectors r.registers.sectors;
    spans = put_of (λ (row : SpanRow). row.fit_seq) (span_rows book) rows.spans.items put.spans.items p.spans r.kept.spans;
  };
  totals = put_of (λ (row : TotalRow). row.item) (total_rows book) rows.totals.items put.totals.items p.totals r.kept.totals;
  bases = subst (λ (rows : List BaseRow). IsPermutation rows (base_rows book)) p.bases r.kept.bases;
}

-- where the rows that are put in order have no damaged row, there are rows of which this holds
pub none_damaged : (rows put : FileRows) (result : Result Bool Unverified) → AreFilePut rows put → IfOk result (λ same. (kind : EntryKind) → merging [] put.registers.entries.items (all_rows put.registers) ≢ Err (Damaged kind))
    → IfOk result (λ same. (found : FileRows) × AreFilePut rows found × ((kind : EntryKind) → merging [] found.registers.entries.items (all_rows found.registers) ≢ Err (Damaged kind)))
none_damaged rows put (Ok same) p h = (put, p, h)
none_damaged rows put (Err why) p h = tt
