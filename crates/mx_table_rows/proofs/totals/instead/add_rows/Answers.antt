use Rattle.std.proofs.Common.{refl, ◌∙◌, ◌≡◌, ◌+◌, ℕ, ◌++◌, [], ◌∷◌, take, Ok, sym, subst, ap}
use Rattle.std.proofs.lemmas.List.{take_all, take_more}
use Rattle.sqlite.specs.Held.{state}
use Rattle.mx_table_rows.specs.totals.Puts.{WritesRows, rows_added}
use Rattle.mx_table_rows.proofs.TotalsProofs.WriteLemmas.{none_added, one_added, adding_stops}
use Rattle.mx_table_rows.proofs.totals.instead.add_rows.Goals as goal

pub rows-init : goal.rows-init
rows-init g c = record { same_reference = refl; adds = none_added g.R.Stored.kept _ }

pub rows-preserved : goal.rows-preserved
rows-preserved g c =
    let k = g.R.Stored.kept in
    let items = c.args.rows.now in
    let x = c.row-item.result in
    let i = c.rows.row-index in
    let more : take i items ++ x ∷ [] ≡ take (i + 1) items = sym (take_more items i x c.rows-test.true ∙ ap (λ y. take i items ++ y ∷ []) (sym c.row-item.is)) in
    record {
      same_reference = c.insert.ensures.same_reference ∙ c.rows.invariant.same_reference;
      adds = subst (λ xs. WritesRows {V = ℕ} k (rows_added k xs) (state g.S.Store c.args.tx.now.conn.now) (state g.S.Store c.insert.new.tx.conn.now) (Ok 0)) more (one_added k (take i items) x _ _ _ c.rows.invariant.adds _ c.in_ok-insert.ensures.inserts);
    }

pub returns-in_err-insert-clause-same_reference : goal.returns-in_err-insert-clause-same_reference
returns-in_err-insert-clause-same_reference g c = c.insert.ensures.same_reference ∙ c.rows.invariant.same_reference

pub returns-in_err-insert-clause-adds : goal.returns-in_err-insert-clause-adds
returns-in_err-insert-clause-adds g c =
    adding_stops g.R.Stored.kept (take c.rows.row-index c.args.rows.now) c.row-item.result (state g.S.Store c.args.tx.now.conn.now) (state g.S.Store c.rows.tx.conn.now) (state g.S.Store c.insert.new.tx.conn.now) c.rows.invariant.adds
    c.args.rows.now c.in_err-insert.field-0.0 c.from_residual.result c.from_residual.ensures.1 c.in_err-insert.ensures.inserts

pub returns-clause-adds : goal.returns-clause-adds
returns-clause-adds g c =
    let k = g.R.Stored.kept in
    let all = take_all c.rows.row-index c.args.rows.now c.rows-test.false in
    let p = subst (λ xs. WritesRows {V = ℕ} k (rows_added k xs) (state g.S.Store c.args.tx.now.conn.now) (state g.S.Store c.rows.tx.conn.now) (Ok 0)) all c.rows.invariant.adds in
    record { becomes = p.becomes; cause = p.cause; mode = p.mode; inside = p.inside; within = p.within }
