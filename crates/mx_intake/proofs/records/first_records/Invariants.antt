use Rattle.std.proofs.Common.{◌≡◌, ◌<◌, ◌≤◌, ◌-◌, ℕ, List, Some, map, true, vec_len}
use Rattle.csv.specs.Reading.{Reached, Ready, default_config, source_of, strip_bom}
use Rattle.csv.specs.Records.{fields_of}
use Rattle.csv.specs.declared.parser.State.TheVariants as st
use Rattle.csv.specs.declared.reader.Trim.TheVariants as trim
use Rattle.mx_intake.proofs.records.first_records.Given as goal

abbrev pub invariant-rows : goal.invariant-rows
invariant-rows l = (l.records.rdr.trim ≡ trim.None) × Ready l.records.rdr × (0 < l.records.left) × (l.records.rdr.config ≡ default_config)
    × (l.records.rdr.flexible ≡ true)
    × (vec_len l.rows ≤ l.wanted)
    × (y : List ℕ) × (source_of (λ s. Some s.now) l.records.rdr ≡ Some y)
    × Reached default_config st.StartRecord (strip_bom l.fn.bytes) (map fields_of l.rows.items) l.records.rdr.state y

abbrev pub decreases-rows : goal.decreases-rows
decreases-rows l = l.wanted - vec_len l.rows
