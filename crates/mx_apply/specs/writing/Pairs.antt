-- The rows that a command adds in pairs: those of some tables, and behind them those of the others.
use Rattle.std.specs.Prelude.{Vec}
use Rattle.std.specs.declared.alloc.Global.{Global}
use Rattle.mx_base.specs.declared.rows.rows.AircraftRow.{AircraftRow}
use Rattle.mx_base.specs.declared.rows.rows.PlaceRow.{PlaceRow}
use Rattle.mx_base.specs.declared.rows.rows.ComponentRow.{ComponentRow}
use Rattle.mx_base.specs.declared.rows.rows.ProgrammeRow.{ProgrammeRow}
use Rattle.mx_base.specs.declared.rows.rows.TaskRow.{TaskRow}
use Rattle.mx_base.specs.declared.rows.rows.OpeningRow.{OpeningRow}
use Rattle.mx_base.specs.declared.rows.rows.ReleaseRow.{ReleaseRow}
use Rattle.mx_base.specs.declared.rows.rows.ReleaseLineRow.{ReleaseLineRow}
use Rattle.mx_base.specs.declared.rows.rows.DeferralRow.{DeferralRow}
use Rattle.mx_base.specs.declared.rows.rows.ExtensionRow.{ExtensionRow}
use Rattle.mx_base.specs.declared.rows.rows.Sector2Row.{Sector2Row}
use Rattle.mx_base.specs.declared.rows.rows.SpanRow.{SpanRow}
use Rattle.mx_base.specs.declared.rows.rows.TotalRow.{TotalRow}
use Rattle.mx_row_rules.specs.declared.changes.rows.AddedRows.{AddedRows}

-- the rows of items, of what maintains them, of releases and defects, of what was flown, and all
abbrev pub ItemPairs : Type 0
ItemPairs = (Vec AircraftRow Global × Vec PlaceRow Global) × Vec ComponentRow Global

abbrev pub TaskPairs : Type 0
TaskPairs = (Vec ProgrammeRow Global × Vec TaskRow Global) × Vec OpeningRow Global

abbrev pub ReleasePairs : Type 0
ReleasePairs = (Vec ReleaseRow Global × Vec ReleaseLineRow Global) × (Vec DeferralRow Global × Vec ExtensionRow Global)

abbrev pub FlownPairs : Type 0
FlownPairs = Vec Sector2Row Global × (Vec SpanRow Global × Vec TotalRow Global)

abbrev pub AddedPairs : Type 0
AddedPairs = (ItemPairs × TaskPairs) × (ReleasePairs × FlownPairs)

-- the rows that stand in the pairs
abbrev pub added_in_pairs : AddedPairs → AddedRows
added_in_pairs pairs =
    let items = pairs.0.0 in
    let maintained = pairs.0.1 in
    let released = pairs.1.0 in
    let flown = pairs.1.1 in
    record {
      aircraft = items.0.0;
      places = items.0.1;
      components = items.1;
      programmes = maintained.0.0;
      tasks = maintained.0.1;
      openings = maintained.1;
      releases = released.0.0;
      release_lines = released.0.1;
      deferrals = released.1.0;
      extensions = released.1.1;
      sectors = flown.0;
      spans = flown.1.0;
      totals = flown.1.1;
    }
