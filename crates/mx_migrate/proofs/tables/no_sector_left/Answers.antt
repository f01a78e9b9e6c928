use Rattle.std.proofs.Common.{◌∙◌, sym}
use Rattle.sqlite.specs.Held.{state}
use Rattle.mx_layout.specs.kept.Cells.{kept_sector1}
use Rattle.mx_migrate.proofs.LengthLemmas.{items_of, none_of, some_of}
use Rattle.mx_migrate.proofs.LookLemmas.{sees_none, sees_some, sees_stops}
use Rattle.mx_migrate.proofs.tables.no_sector_left.Goals as goal

pub returns-in_err-rows-clause-sees : goal.returns-in_err-rows-clause-sees
returns-in_err-rows-clause-sees g c =
    sees_stops kept_sector1 63 _ (state g.S.Store c.args.tx.now.conn.now) (state g.S.Store c.first_sectors.new.tx.conn.now) c.in_err-rows.field-0.0 c.from_residual.result c.from_residual.ensures.1 c.in_err-rows.ensures.reads

pub returns-then-is_empty-clause-sees : goal.returns-then-is_empty-clause-sees
returns-then-is_empty-clause-sees g c =
    sees_none kept_sector1 63 items_of (state g.S.Store c.args.tx.now.conn.now) (state g.S.Store c.first_sectors.new.tx.conn.now) c.in_ok-rows.rows tt (none_of c.in_ok-rows.rows (sym c.is_empty.ensures ∙ c.if-is_empty.true)) c.in_ok-rows.ensures.reads

pub returns-clause-sees : goal.returns-clause-sees
returns-clause-sees g c =
    let some = some_of c.in_ok-rows.rows (sym c.is_empty.ensures ∙ c.if-is_empty.false) in
    sees_some kept_sector1 63 items_of (state g.S.Store c.args.tx.now.conn.now) (state g.S.Store c.first_sectors.new.tx.conn.now) c.in_ok-rows.rows some.0 some.1 some.2 c.in_ok-rows.ensures.reads
