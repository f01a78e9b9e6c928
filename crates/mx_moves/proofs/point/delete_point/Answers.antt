use Rattle.std.proofs.Common.{rules, ◌∷◌, [], pos, refl, subst, Ok}
use Rattle.sqlite.specs.declared.types.Value.TheVariants.{Int}
use Rattle.sqlite.specs.Held.{state}
use Rattle.sqlite.specs.Order.{Row}
use Rattle.sqlite.specs.State.{ExecutesInside}
use Rattle.mx_layout.specs.Tables.{office}
use Rattle.mx_table_rows.specs.chosen.Texts.{by_value}
use Rattle.mx_table_rows.proofs.ChosenProofs.DeleteLemmas.{deletes_those}
use Rattle.mx_tables.proofs.InsertsProofs.SetLemmas.{on_weaker}
use Rattle.mx_moves.specs.Keeping.{kept_point, is_point_row}
use Rattle.mx_moves.specs.Texts.{point_gone}
use Rattle.mx_moves.proofs.PointTexts.{office_there, point_gone_deletes}
use Rattle.mx_moves.proofs.RowLemmas.{deletes_write}
use Rattle.mx_moves.proofs.point.delete_point.Goals as goal

pub returns-clause-writes : goal.returns-clause-writes
returns-clause-writes g c =
    let old = state g.S.Store c.args.tx.now.conn.now in
    let new = state g.S.Store c.execute.new.tx.conn.now in
    let r = c.execute.ensures in
    let given : Row = Int (pos 1) ∷ [] in
    deletes_write kept_point is_point_row old new c.execute.result (office_there old.now.schema) (record {
      loses = λ clean inside has free rises. on_weaker c.execute.result
          (λ ran. (deletes_those old.now.schema point_gone office (by_value 0) (point_gone_deletes old.now.schema has) given old new refl).loses (Ok ran.0) free rises
          (subst (λ (values : Row). ExecutesInside 0 point_gone values old new (Ok ran.0)) (search rules) ran.1)) (r.runs clean inside);
      cause = r.cause;
      inside = r.stays.inside;
      within = r.stays.within;
    })

pub returns-clause-open : goal.returns-clause-open
returns-clause-open g c clean begun = on_weaker c.execute.result (λ stays. stays.was_open) (c.execute.ensures.stays.inside clean begun)
