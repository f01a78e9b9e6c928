use Rattle.std.proofs.Common.{◌≡◌, ◌+◌, ◌++◌, drop, map}
use Rattle.csv.specs.Records.{fields_of}
use Rattle.mx_intake.specs.Sectors.{rows_from}
use Rattle.mx_intake.proofs.sector_rows.rows_of.Given as goal

abbrev pub invariant-loop-i : goal.invariant-loop-i
invariant-loop-i l =
    rows_from 1 (map fields_of l.records) ≡ l.rows.items ++ rows_from (l.i + 1) (map fields_of (drop l.i l.records))
