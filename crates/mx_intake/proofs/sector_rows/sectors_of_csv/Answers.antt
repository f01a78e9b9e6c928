use Rattle.std.proofs.Common.{arith, ◌≤◌, ◌∙◌, ap, length, map}
use Rattle.csv.specs.Records.{fields_of}
use Rattle.mx_intake.proofs.RowsLemmas.{sector_rows_by}
use Rattle.mx_intake.proofs.sector_rows.sectors_of_csv.Goals as goal

pub returns-clause-ok : goal.returns-clause-ok
returns-clause-ok c =
    let within : length c.args.bytes.now ≤ 8388608 = omega (arith, c.if-bytes-gt-MOST_BYTES.false) in
    rw (sector_rows_by c.args.bytes.now (map fields_of c.deref.result.now) within (ap (map fields_of) c.deref.ensures.value ∙ c.in_ok-records.ensures.ok)) c.rows_under_header.ensures.ok

pub returns-clause-err : goal.returns-clause-err
returns-clause-err c =
    let within : length c.args.bytes.now ≤ 8388608 = omega (arith, c.if-bytes-gt-MOST_BYTES.false) in
    rw (sector_rows_by c.args.bytes.now (map fields_of c.deref.result.now) within (ap (map fields_of) c.deref.ensures.value ∙ c.in_ok-records.ensures.ok)) c.rows_under_header.ensures.err
