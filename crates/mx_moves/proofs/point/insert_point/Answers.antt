use Rattle.std.proofs.Common.{rules, [], refl, subst, Ok}
use Rattle.sqlite.specs.Held.{state}
use Rattle.sqlite.specs.Order.{Row}
use Rattle.sqlite.specs.State.{ExecutesInside}
use Rattle.mx_layout.specs.Point.{point_cells}
use Rattle.mx_layout.specs.Tables.{office}
use Rattle.mx_layout.specs.Writing.{Gains}
use Rattle.mx_tables.proofs.InsertsProofs.AddLemmas.{adds_row}
use Rattle.mx_tables.proofs.InsertsProofs.SetLemmas.{gains_none, gains_one, on_weaker}
use Rattle.mx_moves.specs.Keeping.{kept_point}
use Rattle.mx_moves.proofs.PointTexts.{point_adds}
use Rattle.mx_moves.proofs.point.insert_point.Goals as goal

pub returns-clause-writes : goal.returns-clause-writes
returns-clause-writes g c =
    let old = state g.S.Store c.args.tx.now.conn.now in
    let new = state g.S.Store c.execute.new.tx.conn.now in
    let r = c.execute.ensures in
    let at = c.args.at.now in
    record {
      gains = λ clean inside has rises. on_weaker c.execute.result
          (λ ran. (let one : Gains office (point_cells at) old.now new.now = (adds_row old.now.schema kept_point.insert office (point_cells at) (point_adds old.now.schema has.0 at) old new refl).gains (Ok ran.0)
          (subst (λ (values : Row). ExecutesInside 0 kept_point.insert values old new (Ok ran.0)) (search rules) ran.1) in
          gains_one kept_point [] at old.now old.now new.now (gains_none kept_point old.now) one)) (r.runs clean inside.0);
      mode = λ clean begun. on_weaker c.execute.result (λ stays. stays.mode) (r.stays.inside clean begun);
      inside = λ clean inside. r.stays.inside clean inside.0;
      within = r.stays.within;
    }
