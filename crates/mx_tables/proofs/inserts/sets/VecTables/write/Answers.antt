use Rattle.std.proofs.Common.{refl, ◌∙◌, ◌≡◌, ℕ, ◌++◌, [], ◌∷◌, Ok, take, sym, subst, ap}
use Rattle.std.proofs.lemmas.List.{take_all, take_more}
use Rattle.sqlite.specs.Held.{state}
use Rattle.mx_layout.proofs.CrashLemmas.{within_then}
use Rattle.mx_layout.specs.kept.Family.{on_top}
use Rattle.mx_tables.specs.inserts.Sets.{WritesTables}
use Rattle.mx_tables.proofs.InsertsProofs.SetLemmas.{none_written, one_written, stops_writing}
use Rattle.mx_tables.proofs.inserts.sets.VecTables.write.Goals as goal

pub rows-init : goal.rows-init
rows-init g c = record { same_reference = refl; writes = none_written g.R.Stored.kept _ }

pub rows-preserved : goal.rows-preserved
rows-preserved g c = record {
  same_reference = c.insert.ensures.same_reference ∙ c.rows.invariant.same_reference;
  writes = subst (λ xs. WritesTables {V = ℕ} g.R.Stored.kept.IsIn (on_top g.R.Stored.kept xs) (state g.S.Store c.args.tx.now.conn.now) (state g.S.Store c.insert.new.tx.conn.now) (Ok 0))
      (sym (take_more c.deref-row-items.result.now c.rows.row-index c.row-item.result c.rows-test.true ∙ ap (λ y. take c.rows.row-index c.deref-row-items.result.now ++ y ∷ []) (sym c.row-item.is)))
      (one_written g.R.Stored.kept (take c.rows.row-index c.deref-row-items.result.now) c.row-item.result _ _ _ _ c.rows.invariant.writes c.in_ok-insert.ensures.inserts);
}

pub returns-in_err-insert : goal.returns-in_err-insert
returns-in_err-insert g c = record {
  same_reference = c.insert.ensures.same_reference ∙ c.rows.invariant.same_reference;
  writes = stops_writing _ _ _ _ c.from_residual.result c.from_residual.ensures.0 (within_then _ _ _ c.rows.invariant.writes.within c.rows.invariant.writes.mode c.insert.ensures.inserts.within);
}

pub returns-clause-writes : goal.returns-clause-writes
returns-clause-writes g c =
    let items = c.deref-row-items.result.now in
    let all : take c.rows.row-index items ≡ c.args.self.now.items = take_all c.rows.row-index items c.rows-test.false ∙ c.deref-row-items.ensures.value in
    let w = subst (λ xs. WritesTables {V = ℕ} g.R.Stored.kept.IsIn (on_top g.R.Stored.kept xs) (state g.S.Store c.args.tx.now.conn.now) (state g.S.Store c.rows.tx.conn.now) (Ok 0)) all c.rows.invariant.writes in
    record { gains = w.gains; mode = w.mode; inside = w.inside; within = w.within }
