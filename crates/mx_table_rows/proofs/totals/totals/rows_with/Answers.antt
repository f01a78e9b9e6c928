use Rattle.std.proofs.Common.{◌∙◌, ◌≡◌, ◌+◌, ℕ, get_or, List, ◌++◌, [], ◌∷◌, take, Ok, sym, subst}
use Rattle.std.proofs.lemmas.List.{get_or_default, take_more}
use Rattle.sqlite.specs.Held.{state}
use Rattle.mx_base.specs.declared.rows.rows.TotalRow.{TotalRow}
use Rattle.mx_table_rows.specs.totals.Steps.{ReadsTotals}
use Rattle.mx_table_rows.specs.totals.Totals.{IsCredited}
use Rattle.mx_table_rows.proofs.TotalsProofs.StepLemmas.{one_read, one_unread}
use Rattle.mx_table_rows.proofs.totals.totals.rows_with.Goals as goal

pub items-preserved : goal.items-preserved
items-preserved g c =
    let first = state g.S.Store c.args.tx.now.conn.now in
    let old = state g.S.Store c.items.tx.conn.now in
    let new = state g.S.Store c.row_with.new.tx.conn.now in
    let items = c.args.items.now in
    let i = c.items.item-index in
    let item = get_or items i 0 in
    let more : take i items ++ item ∷ [] ≡ take (i + 1) items = sym (take_more items i 0 c.items-test.true) in
    let so_far = one_read c.args.added (take i items) c.items.rows.items item first old new c.items.invariant.reads c.in_ok-row.row c.in_ok-row.ensures.reads in
    let longer : c.items.rows.items ++ c.in_ok-row.row ∷ [] ≡ c.push.new.self.items = sym c.in_ok-push.ensures.items in
    record {
      same_reference = c.row_with.ensures.same_reference ∙ c.items.invariant.same_reference;
      reads = subst (λ (done : List ℕ). ReadsTotals c.args.added done (λ (xs : List TotalRow). xs) first new (Ok c.push.new.self.items)) more
          (subst (λ (ys : List TotalRow). ReadsTotals c.args.added (take i items ++ item ∷ []) (λ (xs : List TotalRow). xs) first new (Ok ys)) longer so_far);
    }

pub returns-in_err-row-clause-reads : goal.returns-in_err-row-clause-reads
returns-in_err-row-clause-reads g c =
    let items = c.args.items.now in
    let i = c.items.item-index in
    let item = get_or items i 0 in
    one_unread c.args.added (take i items) c.items.rows.items item (state g.S.Store c.args.tx.now.conn.now) (state g.S.Store c.items.tx.conn.now) (state g.S.Store c.row_with.new.tx.conn.now) c.items.invariant.reads
    (λ rows. IsCredited c.args.added rows item) items (λ rows. rows.items) i c.items-test.true (get_or_default items i item 0 c.items-test.true) c.in_err-row.field-0.0 c.from_residual.result c.from_residual.ensures.1 c.in_err-row.ensures.reads
