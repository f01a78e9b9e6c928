use Rattle.std.proofs.Common.{rules, ◌≡◌, ◌+◌, List, [], ◌∷◌, ◌++◌, take, sym, ap, subst, ◌∙◌}
use Rattle.std.proofs.lemmas.List.{take_more}
use Rattle.mx_base.specs.declared.rows.rows.Deferral3Row.{Deferral3Row}
use Rattle.mx_table_rows.specs.totals.Found.{found_with, AreGained}
use Rattle.mx_table_rows.proofs.TotalsProofs.FoundLemmas.{one_left, one_gained}
use Rattle.mx_table_rows.proofs.totals.found.rows_with.Goals as goal

pub rows-preserved-then-lt : goal.rows-preserved-then-lt
rows-preserved-then-lt c =
    let rows = c.args.rows.now in
    let i = c.rows.row-index in
    let x = c.row-item.result in
    let more : take i rows ++ x ∷ [] ≡ take (i + 1) rows = sym (take_more rows i x c.rows-test.true ∙ ap (λ y. take i rows ++ y ∷ []) (sym c.row-item.is)) in
    subst (λ (done : List Deferral3Row). AreGained c.args.cycles c.args.landed done c.rows.shifted.items) more
    (one_left c.args.cycles c.args.landed (take i rows) x c.rows.shifted.items c.rows.invariant (search rules))

pub rows-preserved : goal.rows-preserved
rows-preserved c =
    let rows = c.args.rows.now in
    let i = c.rows.row-index in
    let x = c.row-item.result in
    let more : take i rows ++ x ∷ [] ≡ take (i + 1) rows = sym (take_more rows i x c.rows-test.true ∙ ap (λ y. take i rows ++ y ∷ []) (sym c.row-item.is)) in
    let longer : c.rows.shifted.items ++ found_with c.args.cycles x ∷ [] ≡ c.push.new.self.items = (search rules) in
    subst (λ (done : List Deferral3Row). AreGained c.args.cycles c.args.landed done c.push.new.self.items) more
    (subst (λ (ys : List Deferral3Row). AreGained c.args.cycles c.args.landed (take i rows ++ x ∷ []) ys) longer
    (one_gained c.args.cycles c.args.landed (take i rows) x c.rows.shifted.items c.rows.invariant (search rules) (search rules)))
