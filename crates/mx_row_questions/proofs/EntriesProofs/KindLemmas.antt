-- The kinds of entry with one row.
use Rattle.std.proofs.Common.{◌≡◌, ℕ, List, Option, map, pos, sym, ap, ◌∙◌}
use Rattle.std.specs.Prelude.{slice_get}
use Rattle.std.specs.List.{filter_map}
use Rattle.std.specs.Option.{option_and_then, option_map}
use Rattle.sqlite.specs.declared.types.Value.TheVariants.{Int}
use Rattle.mx_book.specs.declared.commands.release.Line.{Line}
use Rattle.mx_book.specs.declared.commands.release.Place.{Place}
use Rattle.mx_registers.specs.Merge.{deferral_said, extension_said, fitting_said, opening_said, place_said, release_said, removal_said, sector_said}
use Rattle.mx_registers.specs.Names.{defect_at, item_at, serial_at, tail_at}
use Rattle.mx_base.specs.declared.rows.rows.DeferralRow.{DeferralRow}
use Rattle.mx_base.specs.declared.rows.rows.ExtensionRow.{ExtensionRow}
use Rattle.mx_base.specs.declared.rows.rows.FittingRow.{FittingRow}
use Rattle.mx_base.specs.declared.rows.rows.OpeningRow.{OpeningRow}
use Rattle.mx_base.specs.declared.rows.rows.ReleaseRow.{ReleaseRow}
use Rattle.mx_base.specs.declared.rows.rows.RemovalRow.{RemovalRow}
use Rattle.mx_base.specs.declared.rows.rows.Sector2Row.{Sector2Row}
use Rattle.mx_base.specs.declared.rows.rows.SectorRow.{SectorRow}
use Rattle.mx_base.specs.declared.rows.rows.SpanRow.{SpanRow}
use Rattle.mx_registers.specs.kept.Spans.{fitting_in, removal_in}
use Rattle.mx_layout.specs.kept.Cells.{kept_crs, kept_defect, kept_extension, kept_opening, kept_sector2_rows, kept_span2}
use Rattle.mx_table_rows.specs.chosen.Choices.{has_value}
use Rattle.mx_row_rules.specs.found.Given as register
use Rattle.mx_row_rules.specs.found.Stated.{lines_stated}
use Rattle.mx_lookups.specs.numbers.Given.{SerialOfNumber, TailOfNumber}
use Rattle.mx_lookups.proofs.NumbersProofs.BookRows.{deferrals_of_number, extensions_of_number, openings_of_number, releases_of_number, spans_of_fitting, spans_of_removal}
use Rattle.mx_lookups.proofs.NumbersProofs.ReadLemmas.{follows}
use Rattle.mx_lookups.proofs.NumbersProofs.SectorRows.{sectors_read}
use Rattle.mx_lookups.proofs.NumbersProofs.TableLemmas.{deferrals, extensions, openings, releases, sectors, spans}
use Rattle.mx_row_questions.specs.entries.Names.{DocOfDefect, ItemOfNumber, WithName}
use Rattle.mx_row_questions.specs.entries.Releases.{LinesStated, PlaceStated}
use Rattle.mx_row_questions.proofs.EntriesProofs.MoveLemmas.{first_map, fittings_found, removal_found}
use Rattle.mx_row_questions.proofs.EntriesProofs.StatedLemmas.{Kind}

abbrev pub opening_kind : ℕ → Kind OpeningRow OpeningRow
opening_kind n = record {
  kept = kept_opening;
  chosen = has_value 0 (Int (pos n));
  first = λ rows. slice_get rows 0;
  says = λ book row. option_map (opening_said row) (item_at book row.item);
  Says = λ row. WithName ItemOfNumber row.item (opening_said row);
  wanted = λ book. slice_get (register.found register.openings book n) 0;
  is_in = openings.is_in;
  found = λ old new result r. follows _ _ old new result (λ book v b is. ap (λ l. slice_get l 0) is) (openings_of_number n r);
}

abbrev pub deferral_kind : ℕ → Kind DeferralRow DeferralRow
deferral_kind n = record {
  kept = kept_defect;
  chosen = has_value 0 (Int (pos n));
  first = λ rows. slice_get rows 0;
  says = λ book row. option_map (deferral_said row) (tail_at book row.aircraft);
  Says = λ row. WithName TailOfNumber row.aircraft (deferral_said row);
  wanted = λ book. slice_get (register.found register.deferrals book n) 0;
  is_in = deferrals.is_in;
  found = λ old new result r. follows _ _ old new result (λ book v b is. ap (λ l. slice_get l 0) is) (deferrals_of_number n r);
}

abbrev pub extension_kind : ℕ → Kind ExtensionRow ExtensionRow
extension_kind n = record {
  kept = kept_extension;
  chosen = has_value 0 (Int (pos n));
  first = λ rows. slice_get rows 0;
  says = λ book row. option_map (extension_said row) (defect_at book row.defect);
  Says = λ row. WithName DocOfDefect row.defect (extension_said row);
  wanted = λ book. slice_get (register.found register.extensions book n) 0;
  is_in = extensions.is_in;
  found = λ old new result r. follows _ _ old new result (λ book v b is. ap (λ l. slice_get l 0) is) (extensions_of_number n r);
}

abbrev pub sector_kind : ℕ → Kind Sector2Row SectorRow
sector_kind n = record {
  kept = kept_sector2_rows;
  chosen = has_value 0 (Int (pos n));
  first = λ rows. slice_get (map (λ (row : Sector2Row). row.sector) rows) 0;
  says = λ book row. option_map (sector_said row) (tail_at book row.aircraft);
  Says = λ row. WithName TailOfNumber row.aircraft (sector_said row);
  wanted = λ book. slice_get (register.found register.sectors book n) 0;
  is_in = sectors.is_in;
  found = λ old new result r. follows _ _ old new result (λ book v b is. ap (λ l. slice_get l 0) is) (sectors_read n old new result r);
}

-- the first of the sectors that were read
pub first_sector : {shown : List Sector2Row} {row : Option Sector2Row} (n : ℕ) (rows : List Sector2Row) → shown ≡ rows → row ≡ slice_get shown 0 → (sector_kind n).first rows ≡ option_map (λ (r : Sector2Row). r.sector) row
first_sector {shown} {row} n rows is first = ap (λ l. slice_get (map (λ (r : Sector2Row). r.sector) l) 0) (sym is) ∙ first_map (λ (r : Sector2Row). r.sector) shown ∙ ap (option_map (λ (r : Sector2Row). r.sector)) (sym first)

abbrev pub removal_kind : ℕ → Kind SpanRow RemovalRow
removal_kind n = record {
  kept = kept_span2;
  chosen = has_value 5 (Int (pos n));
  first = λ rows. slice_get (filter_map removal_in rows) 0;
  says = λ book row. option_map (removal_said row) (serial_at book row.component);
  Says = λ row. WithName SerialOfNumber row.component (removal_said row);
  wanted = λ book. slice_get (register.found register.removals book n) 0;
  is_in = spans.is_in;
  found = λ old new result r. follows _ _ old new result (λ book v b is. ap (λ l. slice_get (filter_map removal_in l) 0) is ∙ removal_found book b n) (spans_of_removal n r);
}

abbrev pub fitting_kind : ℕ → Kind SpanRow FittingRow
fitting_kind n = record {
  kept = kept_span2;
  chosen = has_value 0 (Int (pos n));
  first = λ rows. slice_get (map fitting_in rows) 0;
  says = λ book row. option_and_then (λ serial. option_map (fitting_said row serial) (tail_at book row.aircraft)) (serial_at book row.component);
  Says = λ row trees said. (serial : Option (List ℕ)) × SerialOfNumber row.component trees serial × ((tail : Option (List ℕ)) × TailOfNumber row.aircraft trees tail × (said ≡ option_and_then (λ s. option_map (fitting_said row s) tail) serial));
  wanted = λ book. slice_get (register.found register.fittings book n) 0;
  is_in = spans.is_in;
  found = λ old new result r. follows _ _ old new result (λ book v b is. ap (λ l. slice_get (map fitting_in l) 0) is ∙ ap (λ l. slice_get l 0) (fittings_found book n)) (spans_of_fitting n r);
}

abbrev pub release_kind : ℕ → Kind ReleaseRow ReleaseRow
release_kind n = record {
  kept = kept_crs;
  chosen = has_value 0 (Int (pos n));
  first = λ rows. slice_get rows 0;
  says = λ book row. option_and_then (λ place. option_map (release_said row place) (lines_stated book (register.found register.release_lines book n))) (place_said book row);
  Says = λ row trees said. (place : Option Place) × PlaceStated row trees place × ((certified : Option (List Line)) × LinesStated n trees certified × (said ≡ option_and_then (λ p. option_map (release_said row p) certified) place));
  wanted = λ book. slice_get (register.found register.releases book n) 0;
  is_in = releases.is_in;
  found = λ old new result r. follows _ _ old new result (λ book v b is. ap (λ l. slice_get l 0) is) (releases_of_number n r);
}
