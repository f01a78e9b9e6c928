use Rattle.std.proofs.Common.{◌≡◌, ◌∙◌, [], ◌∷◌, ◌++◌, drop, arith, rules}
use Rattle.std.proofs.lemmas.List.{append-nil, drop_all}
use Rattle.csv.specs.Records.{fields_of}
use Rattle.mx_intake.proofs.RowsLemmas.{rows_from-next}
use Rattle.mx_intake.proofs.sector_rows.rows_of.Goals as goal

pub loop-i-preserved : goal.loop-i-preserved
loop-i-preserved c =
    let appended : c.push.new.self.items ≡ c.loop-i.rows.items ++ c.in_ok-row.row ∷ [] = search rules in
    rw appended (rows_from-next fields_of c.args.records.now c.loop-i.rows.items c.loop-i.i c.index-records-i.result c.in_ok-row.row
    (omega arith) c.index-records-i.is c.in_ok-row.ensures.ok c.loop-i.invariant)

pub returns-clause-ok : goal.returns-clause-ok
returns-clause-ok c =
    let none : drop c.loop-i.i c.args.records.now ≡ [] = drop_all c.loop-i.i c.args.records.now (omega arith) in
    c.loop-i.invariant ∙ rw none (append-nil c.loop-i.rows.items)
