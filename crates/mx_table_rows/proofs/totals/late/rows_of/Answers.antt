use Rattle.std.proofs.Common.{rules, ◌∙◌, ◌≡◌, ◌+◌, ℕ, get_or, List, ◌++◌, [], ◌∷◌, take, Ok, Err, sym, subst}
use Rattle.std.proofs.lemmas.List.{take_all, take_more, get_or_default}
use Rattle.sqlite_rules.specs.Lists.{Has}
use Rattle.sqlite_rules.proofs.ListLemmas.{has_at}
use Rattle.sqlite.specs.Held.{state}
use Rattle.mx_base.specs.declared.rows.rows.DoneRow.{DoneRow}
use Rattle.mx_table_rows.specs.totals.LateSteps.{ReadsLate, AreOfEach, AreUnread}
use Rattle.mx_table_rows.proofs.TotalsProofs.LateLoops.{item_more, item_stops, More}
use Rattle.mx_table_rows.proofs.TotalsProofs.LateReads.{read_as, stops_late}
use Rattle.mx_table_rows.proofs.TotalsProofs.ReadLemmas.{reads_exactly}
use Rattle.mx_layout.specs.kept.Cells.{kept_done3}
use Rattle.mx_table_rows.specs.totals.Totals.{is_of_item}
use Rattle.mx_table_rows.proofs.totals.late.rows_of.Goals as goal

pub items-preserved : goal.items-preserved
items-preserved g c =
    let first = state g.S.Store c.args.tx.now.conn.now in
    let old = state g.S.Store c.items.tx.conn.now in
    let new = state g.S.Store c.done3_by_item.new.tx.conn.now in
    let items = c.args.items.now in
    let i = c.items.item-index in
    let item = get_or items i 0 in
    let here : Has items item = has_at items i item c.items-test.true (sym (get_or_default items i item 0 c.items-test.true)) in
    let had = c.items.rows.items in
    let read = c.in_ok-of_item.of_item in
    let more : take i items ++ item ∷ [] ≡ take (i + 1) items = sym (take_more items i 0 c.items-test.true) in
    let longer : had ++ read.items ≡ c.extend_from_slice.new.self.items = (search rules) in
    let one = item_more (take i items) items item here had first old new c.items.invariant.reads read (reads_exactly kept_done3 (is_of_item item) old new (Ok read) c.in_ok-of_item.ensures.reads) in
    let so_far : ReadsLate (λ trees (done : List DoneRow). AreOfEach (take i items ++ item ∷ []) trees done) (AreUnread items) first new (Ok (had ++ read.items)) =
    read_as (More (take i items) items item here had first old new c.items.invariant.reads) (λ trees (done : List DoneRow). AreOfEach (take i items ++ item ∷ []) trees done) (AreUnread items) (AreUnread items) first new read (had ++ read.items) (λ trees are. are) one in
    record {
      same_reference = c.done3_by_item.ensures.same_reference ∙ c.items.invariant.same_reference;
      reads = subst (λ (done : List ℕ). ReadsLate (λ trees (xs : List DoneRow). AreOfEach done trees xs) (AreUnread items) first new (Ok c.extend_from_slice.new.self.items)) more
          (subst (λ (ys : List DoneRow). ReadsLate (λ trees (xs : List DoneRow). AreOfEach (take i items ++ item ∷ []) trees xs) (AreUnread items) first new (Ok ys)) longer so_far);
    }

pub returns-in_err-of_item-clause-reads : goal.returns-in_err-of_item-clause-reads
returns-in_err-of_item-clause-reads g c =
    let first = state g.S.Store c.args.tx.now.conn.now in
    let old = state g.S.Store c.items.tx.conn.now in
    let new = state g.S.Store c.done3_by_item.new.tx.conn.now in
    let items = c.args.items.now in
    let i = c.items.item-index in
    let item = get_or items i 0 in
    let here : Has items item = has_at items i item c.items-test.true (sym (get_or_default items i item 0 c.items-test.true)) in
    let had = c.items.rows.items in
    let e = c.in_err-of_item.field-0.0 in
    stops_late (More (take i items) items item here had first old new c.items.invariant.reads) (λ trees rows. AreOfEach items trees rows.items) (AreUnread items) (AreUnread items) first new e c.from_residual.result c.from_residual.ensures.1
    (λ trees name bad. bad) (item_stops (take i items) items item here had first old new c.items.invariant.reads e (reads_exactly kept_done3 (is_of_item item) old new (Err e) c.in_err-of_item.ensures.reads))

pub returns-clause-reads : goal.returns-clause-reads
returns-clause-reads g c =
    let items = c.args.items.now in
    let all = take_all c.items.item-index items c.items-test.false in
    read_as (λ trees (done : List DoneRow). AreOfEach (take c.items.item-index items) trees done) (λ trees rows. AreOfEach items trees rows.items) (AreUnread items) (AreUnread items) (state g.S.Store c.args.tx.now.conn.now) (state g.S.Store c.items.tx.conn.now) c.items.rows.items c.items.rows
    (λ trees are. subst (λ (ns : List ℕ). AreOfEach ns trees c.items.rows.items) all are) c.items.invariant.reads
