use Rattle.std.proofs.Common.{Err, Ok}
use Rattle.mx_book_tables.specs.reading.Stored.{AreStored}
use Rattle.mx_book_tables.specs.reading.Looks.{TellsPoint}
use Rattle.mx_book_tables.proofs.ReadingProofs.LookLemmas.{looks_then}
use Rattle.mx_verify.proofs.TellLemmas.{Finds, verify_stops, verify_told}
use Rattle.mx_verify.proofs.verifying.verify_in.Goals as goal

pub returns-in_err-at_point-clause-verifies : goal.returns-in_err-at_point-clause-verifies
returns-in_err-at_point-clause-verifies g c =
    verify_stops TellsPoint _ _ c.in_err-at_point.field-0.0 c.from_residual.result c.from_residual.ensures.1 c.in_err-at_point.ensures.looks

pub returns-in_err-rows-clause-verifies : goal.returns-in_err-rows-clause-verifies
returns-in_err-rows-clause-verifies g c =
    verify_stops (λ trees rows. TellsPoint trees c.in_ok-at_point.at_point × AreStored trees rows) _ _ c.in_err-rows.field-0.0 c.from_residual-in_err-rows.result c.from_residual-in_err-rows.ensures.1
    (looks_then TellsPoint AreStored _ _ _ c.in_ok-at_point.at_point (Err c.in_err-rows.field-0.0) c.in_ok-at_point.ensures.looks c.in_err-rows.ensures.looks)

pub returns-clause-verifies : goal.returns-clause-verifies
returns-clause-verifies g c =
    let at_point = c.in_ok-at_point.at_point in
    let rows = c.in_ok-rows.rows in
    let found = c.verify_tables-found.ensures in
    let finds : Finds rows c.verify_tables-found.result = record { exact = found.exact; sound = found.sound; damaged = found.damaged; undamaged = found.undamaged } in
    verify_told _ _ at_point rows c.verify_tables-found.result c.told_rows.result c.told_rows.ensures finds
    (looks_then TellsPoint AreStored _ _ _ at_point (Ok rows) c.in_ok-at_point.ensures.looks c.in_ok-rows.ensures.looks)
