use Rattle.std.proofs.Common.{◌≡◌, true, List, Vec, sym, ap, subst, ◌∙◌}
use Rattle.std.specs.List.{list_all}
use Rattle.std.specs.Prelude.{IsErrAnd}
use Rattle.mx_layout.specs.declared.fault.TableFault.TheVariants.{Memory}
use Rattle.std.specs.declared.alloc.Global.{Global}
use Rattle.sqlite.specs.Held.{state}
use Rattle.mx_base.specs.declared.rows.rows.SectorRow.{SectorRow}
use Rattle.mx_base.specs.declared.point.Point.{Point}
use Rattle.mx_registers.specs.points.Moves.{last_moved}
use Rattle.mx_registers.specs.points.Points.{moving}
use Rattle.mx_book_tables.specs.stands.Schemas.{schema_at}
use Rattle.mx_moves.specs.Changes.{Alters}
use Rattle.mx_moves.specs.steps.Sectors.{is_next_from, sectors_moved}
use Rattle.mx_moves.proofs.StepsProofs.SectorLemmas.{seq_of}
use Rattle.mx_migrate.proofs.RunLemmas.{page_full, page_moves, page_off, page_stops, stopped_by}
use Rattle.mx_migrate.proofs.sectors.MoveSectorsMigrate.run.Goals as goal

pub returns-in_err-rows-clause-runs : goal.returns-in_err-rows-clause-runs
returns-in_err-rows-clause-runs g c =
    stopped_by _ _ _ (state g.S.Store c.args.tx.now.conn.now) (state g.S.Store c.first_sectors.new.tx.conn.now) c.in_err-rows.field-0.0 c.from_residual.result c.from_residual.ensures.1
    (page_stops c.args.self.now.mark _ _ _ c.in_err-rows.field-0.0 c.in_err-rows.ensures.reads)

pub returns-then-not-are_next-clause-runs : goal.returns-then-not-are_next-clause-runs
returns-then-not-are_next-clause-runs g c =
    page_off c.args.self.now.mark (λ (v : Vec SectorRow Global). v.items) (state g.S.Store c.args.tx.now.conn.now) (state g.S.Store c.first_sectors.new.tx.conn.now) c.in_ok-rows.rows c.in_ok-rows.ensures.reads
    (ap (list_all (is_next_from c.args.self.now.mark)) (sym c.deref.ensures.value) ∙ sym c.are_next.ensures ∙ c.if-not-are_next.true)

pub returns-in_err-numbered-clause-runs : goal.returns-in_err-numbered-clause-runs
returns-in_err-numbered-clause-runs g c =
    stopped_by _ _ _ (state g.S.Store c.args.tx.now.conn.now) (state g.S.Store c.first_sectors.new.tx.conn.now) Memory c.from_residual-in_err-numbered.result
    (subst (λ e. IsErrAnd c.from_residual-in_err-numbered.result (λ f. f ≡ e)) c.in_err-numbered.ensures.cause c.from_residual-in_err-numbered.ensures.1)
    (page_full c.args.self.now.mark (λ (v : Vec SectorRow Global). v.items) _ _ c.in_ok-rows.rows c.in_ok-rows.ensures.reads)

pub returns-clause-runs : goal.returns-clause-runs
returns-clause-runs g c =
    let old = state g.S.Store c.args.tx.now.conn.now in
    let mid = state g.S.Store c.first_sectors.new.tx.conn.now in
    let new = state g.S.Store c.write_moved.new.tx.conn.now in
    let mark = c.args.self.now.mark in
    let rows = c.in_ok-rows.rows.items in
    let to : Point = record { layout = 1; step = 1; mark = c.last_seq.result } in
    let next : list_all (is_next_from mark) rows ≡ true = ap (list_all (is_next_from mark)) (sym c.deref.ensures.value) ∙ sym c.are_next.ensures ∙ c.if-not-are_next.false in
    let last : to ≡ moving 1 (last_moved seq_of mark rows) = ap (moving 1) (c.last_seq.ensures ∙ ap (last_moved seq_of mark) c.deref-3.ensures.value) in
    let writes = subst (λ (xs : List SectorRow). Alters (schema_at (moving 1 0)) (schema_at (moving 1 0)) (sectors_moved xs to) mid new c.write_moved.result) (c.in_ok-numbered.ensures.same ∙ c.deref-2.ensures.value) c.write_moved.ensures.alters in
    page_moves mark (λ (v : Vec SectorRow Global). v.items) old mid c.in_ok-rows.rows c.in_ok-rows.ensures.reads new to c.write_moved.result c.reached.result c.reached.ensures next last writes
