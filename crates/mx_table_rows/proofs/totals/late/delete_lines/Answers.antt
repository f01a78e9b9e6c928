use Rattle.std.proofs.Common.{refl, ◌∙◌, ◌≡◌, ◌+◌, ℕ, ◌++◌, [], ◌∷◌, take, filter, not, Ok, sym, subst, ap}
use Rattle.std.proofs.lemmas.List.{take_all, take_more}
use Rattle.sqlite.specs.Held.{state}
use Rattle.mx_layout.specs.kept.Cells.{kept_done3}
use Rattle.mx_table_rows.specs.totals.LateSteps.{is_any_line}
use Rattle.mx_table_rows.specs.totals.Puts.{WritesRows}
use Rattle.mx_table_rows.proofs.TotalsProofs.LateLoops.{none_deleted, line_deleted}
use Rattle.mx_table_rows.proofs.totals.late.delete_lines.Goals as goal

pub rows-init : goal.rows-init
rows-init g c = record { same_reference = refl; writes = none_deleted _ }

pub rows-preserved : goal.rows-preserved
rows-preserved g c =
    let items = c.args.rows.now in
    let x = c.row-item.result in
    let i = c.rows.row-index in
    let more : take i items ++ x ∷ [] ≡ take (i + 1) items = sym (take_more items i x c.rows-test.true ∙ ap (λ y. take i items ++ y ∷ []) (sym c.row-item.is)) in
    let w = line_deleted (take i items) x _ _ _ (Ok _) c.rows.invariant.writes c.in_ok-delete_line.ensures.deletes in
    record {
      same_reference = c.delete_line.ensures.same_reference ∙ c.rows.invariant.same_reference;
      writes = subst (λ xs. WritesRows {V = ℕ} kept_done3 (λ rows. filter (λ row. not (is_any_line xs row)) rows) (state g.S.Store c.args.tx.now.conn.now) (state g.S.Store c.delete_line.new.tx.conn.now) (Ok 0)) more
          (record { becomes = w.becomes; cause = w.cause; mode = w.mode; inside = w.inside; within = w.within });
    }

pub returns-clause-writes : goal.returns-clause-writes
returns-clause-writes g c =
    let all = take_all c.rows.row-index c.args.rows.now c.rows-test.false in
    let w = subst (λ xs. WritesRows {V = ℕ} kept_done3 (λ rows. filter (λ row. not (is_any_line xs row)) rows) (state g.S.Store c.args.tx.now.conn.now) (state g.S.Store c.rows.tx.conn.now) (Ok 0)) all c.rows.invariant.writes in
    record { becomes = w.becomes; cause = w.cause; mode = w.mode; inside = w.inside; within = w.within }
