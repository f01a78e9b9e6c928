use Rattle.std.proofs.Common.{◌∙◌, ◌≡◌, ◌+◌, List, ◌++◌, [], ◌∷◌, take, Option, Ok, Err, sym, ap, subst}
use Rattle.std.specs.Option.{option_to_list}
use Rattle.std.proofs.lemmas.List.{take_all, take_more, append-nil}
use Rattle.sqlite_rules.specs.Lists.{Has}
use Rattle.sqlite_rules.proofs.ListLemmas.{has_at}
use Rattle.sqlite.specs.Held.{state}
use Rattle.mx_base.specs.declared.rows.rows.DoneRow.{DoneRow}
use Rattle.mx_table_rows.specs.totals.LateSteps.{ReadsLate, AreTaken, OneCantTake}
use Rattle.mx_table_rows.proofs.TotalsProofs.LateLoops.{row_more, MoreTaken}
use Rattle.mx_table_rows.proofs.TotalsProofs.LateReads.{read_as, stops_late}
use Rattle.mx_table_rows.proofs.totals.late.rows_with.Goals as goal

pub returns-in_err-made-clause-reads : goal.returns-in_err-made-clause-reads
returns-in_err-made-clause-reads g c =
    let added = c.args.added in
    let landed = c.args.landed in
    let first = state g.S.Store c.args.tx.now.conn.now in
    let old = state g.S.Store c.rows.tx.conn.now in
    let new = state g.S.Store c.row_with.new.tx.conn.now in
    let rows = c.args.rows.now in
    let i = c.rows.row-index in
    let x = c.row-item.result in
    let here : Has rows x = has_at rows i x c.rows-test.true c.row-item.is in
    let had = c.rows.late.items in
    let e = c.in_err-made.field-0.0 in
    stops_late (MoreTaken added landed (take i rows) rows x here had first old new c.rows.invariant.reads) (λ trees made. AreTaken added landed rows trees made.items) (OneCantTake added landed rows) (OneCantTake added landed rows) first new e c.from_residual.result c.from_residual.ensures.1
    (λ trees name cant. cant) (row_more added landed (take i rows) rows x here had first old new c.rows.invariant.reads (Err e) c.in_err-made.ensures.reads)

pub rows-preserved-in-None : goal.rows-preserved-in-None
rows-preserved-in-None g c =
    let added = c.args.added in
    let landed = c.args.landed in
    let first = state g.S.Store c.args.tx.now.conn.now in
    let old = state g.S.Store c.rows.tx.conn.now in
    let new = state g.S.Store c.row_with.new.tx.conn.now in
    let rows = c.args.rows.now in
    let i = c.rows.row-index in
    let x = c.row-item.result in
    let here : Has rows x = has_at rows i x c.rows-test.true c.row-item.is in
    let had = c.rows.late.items in
    let more : take i rows ++ x ∷ [] ≡ take (i + 1) rows = sym (take_more rows i x c.rows-test.true ∙ ap (λ y. take i rows ++ y ∷ []) (sym c.row-item.is)) in
    let same : had ++ option_to_list c.in_ok-made.field-0 ≡ had = ap (λ (o : Option DoneRow). had ++ option_to_list o) c.in-None.is ∙ append-nil had in
    let so_far : ReadsLate (λ trees (made : List DoneRow). AreTaken added landed (take i rows ++ x ∷ []) trees made) (OneCantTake added landed rows) first new (Ok had) =
    read_as (MoreTaken added landed (take i rows) rows x here had first old new c.rows.invariant.reads) (λ trees (made : List DoneRow). AreTaken added landed (take i rows ++ x ∷ []) trees made) (OneCantTake added landed rows) (OneCantTake added landed rows) first new c.in_ok-made.field-0 had
    (λ trees are. subst (λ (made : List DoneRow). AreTaken added landed (take i rows ++ x ∷ []) trees made) same are)
    (row_more added landed (take i rows) rows x here had first old new c.rows.invariant.reads (Ok c.in_ok-made.field-0) c.in_ok-made.ensures.reads) in
    record {
      same_reference = c.row_with.ensures.same_reference ∙ c.rows.invariant.same_reference;
      reads = subst (λ (done : List DoneRow). ReadsLate (λ trees (made : List DoneRow). AreTaken added landed done trees made) (OneCantTake added landed rows) first new (Ok had)) more so_far;
    }

pub rows-preserved : goal.rows-preserved
rows-preserved g c =
    let added = c.args.added in
    let landed = c.args.landed in
    let first = state g.S.Store c.args.tx.now.conn.now in
    let old = state g.S.Store c.rows.tx.conn.now in
    let new = state g.S.Store c.row_with.new.tx.conn.now in
    let rows = c.args.rows.now in
    let i = c.rows.row-index in
    let x = c.row-item.result in
    let here : Has rows x = has_at rows i x c.rows-test.true c.row-item.is in
    let had = c.rows.late.items in
    let longer = c.push.new.self.items in
    let more : take i rows ++ x ∷ [] ≡ take (i + 1) rows = sym (take_more rows i x c.rows-test.true ∙ ap (λ y. take i rows ++ y ∷ []) (sym c.row-item.is)) in
    let same : had ++ option_to_list c.in_ok-made.field-0 ≡ longer = ap (λ (o : Option DoneRow). had ++ option_to_list o) c.in-Some.is ∙ sym c.in_ok-push-in-Some.ensures.items in
    let so_far : ReadsLate (λ trees (made : List DoneRow). AreTaken added landed (take i rows ++ x ∷ []) trees made) (OneCantTake added landed rows) first new (Ok longer) =
    read_as (MoreTaken added landed (take i rows) rows x here had first old new c.rows.invariant.reads) (λ trees (made : List DoneRow). AreTaken added landed (take i rows ++ x ∷ []) trees made) (OneCantTake added landed rows) (OneCantTake added landed rows) first new c.in_ok-made.field-0 longer
    (λ trees are. subst (λ (made : List DoneRow). AreTaken added landed (take i rows ++ x ∷ []) trees made) same are)
    (row_more added landed (take i rows) rows x here had first old new c.rows.invariant.reads (Ok c.in_ok-made.field-0) c.in_ok-made.ensures.reads) in
    record {
      same_reference = c.row_with.ensures.same_reference ∙ c.rows.invariant.same_reference;
      reads = subst (λ (done : List DoneRow). ReadsLate (λ trees (made : List DoneRow). AreTaken added landed done trees made) (OneCantTake added landed rows) first new (Ok longer)) more so_far;
    }

pub returns-clause-reads : goal.returns-clause-reads
returns-clause-reads g c =
    let rows = c.args.rows.now in
    let had = c.rows.late.items in
    let all = take_all c.rows.row-index rows c.rows-test.false in
    read_as (λ trees (made : List DoneRow). AreTaken c.args.added c.args.landed (take c.rows.row-index rows) trees made) (λ trees made. AreTaken c.args.added c.args.landed rows trees made.items) (OneCantTake c.args.added c.args.landed rows) (OneCantTake c.args.added c.args.landed rows)
    (state g.S.Store c.args.tx.now.conn.now) (state g.S.Store c.rows.tx.conn.now) had c.rows.late
    (λ trees are. subst (λ (done : List DoneRow). AreTaken c.args.added c.args.landed done trees had) all are) c.rows.invariant.reads
