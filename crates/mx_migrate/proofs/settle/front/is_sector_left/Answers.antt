use Rattle.std.proofs.Common.{◌≡◌, length, not, vec_len, Vec, arith}
use Rattle.std.specs.declared.alloc.Global.{Global}
use Rattle.sqlite.specs.Held.{state}
use Rattle.mx_base.specs.declared.rows.rows.SectorRow.{SectorRow}
use Rattle.mx_migrate.proofs.SettleProofs.FrontLemmas.{left_of, left_read, left_stops}
use Rattle.mx_migrate.proofs.settle.front.is_sector_left.Goals as goal

pub returns-in_err-rows-clause-finds : goal.returns-in_err-rows-clause-finds
returns-in_err-rows-clause-finds g c =
    left_stops _ (state g.S.Store c.args.tx.now.conn.now) (state g.S.Store c.first_sectors.new.tx.conn.now) c.in_err-rows.field-0.0 c.from_residual.result c.from_residual.ensures.1 c.in_err-rows.ensures.reads

pub returns-clause-finds : goal.returns-clause-finds
returns-clause-finds g c =
    let items = c.in_ok-rows.rows.items in
    let long : vec_len c.in_ok-rows.rows ≡ length items = omega (arith, c.in_ok-rows.rows.ok.0) in
    let left = left_of items (vec_len c.in_ok-rows.rows) c.is_empty.result long c.is_empty.ensures in
    left_read (λ (v : Vec SectorRow Global). v.items) (state g.S.Store c.args.tx.now.conn.now) (state g.S.Store c.first_sectors.new.tx.conn.now) c.in_ok-rows.rows c.in_ok-rows.ensures.reads (not c.is_empty.result) left.0 left.1
