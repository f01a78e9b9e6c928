use Rattle.std.proofs.Common.{◌≡◌, ◌+◌, ◌∙◌, ◌++◌, ◌∷◌, [], ℕ, All, Ok, Vec, filter, get_or, take, sym, subst, ap, arith}
use Rattle.std.proofs.lemmas.List.{take_more}
use Rattle.std.proofs.lemmas.List.Elements.{All-nil, Contains-get_or}
use Rattle.std.specs.declared.alloc.Global.{Global}
use Rattle.sqlite.specs.Held.{state}
use Rattle.sqlite.specs.declared.transaction.Transaction.{Transaction}
use Rattle.mx_base.specs.declared.rows.rows.TotalRow.{TotalRow}
use Rattle.mx_registers.specs.kept.Totals.{is_among, total_rows}
use Rattle.mx_row_rules.specs.changes.Kept.{HasLife}
use Rattle.mx_lookups.specs.numbers.AnyRows.{ReadsAny}
use Rattle.mx_lookups.specs.numbers.Reads.{Reads}
use Rattle.mx_lookups.proofs.NumbersProofs.AnyLemmas.{any_so}
use Rattle.mx_apply.specs.made.Found.{AreTotalsOf}
use Rattle.mx_apply.proofs.MadeProofs.AnyMadeLemmas.{any_then}
use Rattle.mx_apply.proofs.MadeProofs.AnyTotalLemmas.{again_of, none_of, one_of, there_last}
use Rattle.mx_lookups.proofs.NumbersProofs.ReadLemmas.{reads_then, stopped}
use Rattle.mx_apply.proofs.MadeProofs.AmongLemmas.{below_next, first_read, none_read, one_read, there_already}
use Rattle.mx_apply.proofs.made.totals.totals_in_order.Goals.{then-numbers-i+in_ok-push_total-2, else-numbers-i}
use Rattle.mx_lookups.proofs.NumbersProofs.ToldLemmas.{handed}
use Rattle.mx_apply.proofs.MadeProofs.DamageLemmas.{handed_later}
use Rattle.mx_apply.proofs.made.totals.totals_in_order.Goals as goal

pub returns-in_err-push_total-2-clause-reads : goal.returns-in_err-push_total-2-clause-reads
returns-in_err-push_total-2-clause-reads g c =
    let first = state g.S.Store c.args.tx.now.conn.now in
    let mid = state g.S.Store c.numbers.tx.conn.now in
    let new = state g.S.Store c.push_total-then-numbers-i.new.tx.conn.now in
    stopped _ _ first new c.in_err-push_total-2.field-0.0 c.from_residual-in_err-push_total-2.result c.from_residual-in_err-push_total-2.ensures.1 (reads_then _ _ first mid new 0 _ c.numbers.invariant.reads c.in_err-push_total-2.ensures.reads)

pub numbers-init : goal.numbers-init
numbers-init g c =
    let ns = c.args.numbers.now in
    let is : take 0 ns ++ get_or ns 0 0 ∷ [] ≡ take (0 + 1) ns = sym (take_more ns 0 0 c.requires.some) in
    record {
      same_reference = c.in_ok-push_total.ensures.same_reference;
      some = omega arith;
      reads = first_read (take 1 ns) (get_or ns 0 0) c.new-totals.result.items c.push_total.new.totals.items _ _ c.in_ok-push_total.field-0 c.new-totals.ensures.items is c.in_ok-push_total.ensures.reads;
      any_rows = any_so _ _ _ _ _ 0 (λ trees added. subst (λ xs. AreTotalsOf xs trees c.push_total.new.totals.items) is (one_of trees [] (get_or ns 0 0) c.new-totals.result.items (none_of trees c.new-totals.result.items c.new-totals.ensures.items) c.push_total.new.totals.items added)) c.in_ok-push_total.ensures.any_rows;
      lives = c.in_ok-push_total.ensures.lives (subst (All HasLife) (sym c.new-totals.ensures.items) (All-nil HasLife));
    }

pub numbers-preserved : goal.numbers-preserved
numbers-preserved g c =
    let first = state g.S.Store c.args.tx.now.conn.now in
    let mid = state g.S.Store c.numbers.tx.conn.now in
    let ns = c.args.numbers.now in
    let i = c.numbers.i in
    let n = get_or ns i 0 in
    let is : take i ns ++ n ∷ [] ≡ take (i + 1) ns = sym (take_more ns i 0 c.numbers-test.true) in
    let sorted = c.requires.sorted in
    elim c.if-numbers-i.branch [
      | then-numbers-i+in_ok-push_total-2 w ↦
          let new = state g.S.Store w.push_total-then-numbers-i.new.tx.conn.now in
          let now = w.push_total-then-numbers-i.new.totals.items in
          let read = one_read (take i ns) (take (i + 1) ns) n c.numbers.totals.items now first mid new w.in_ok-push_total-2.field-0 is (below_next ns 0 sorted i c.numbers.invariant.some c.numbers-test.true w.if-numbers-i.true) c.numbers.invariant.reads w.in_ok-push_total-2.ensures.reads in
          let any : ReadsAny {V = ℕ} (λ trees done. AreTotalsOf (take (i + 1) ns) trees now) first new (Ok 0) = any_so _ _ first new _ 0 (λ trees both. subst (λ xs. AreTotalsOf xs trees now) is (one_of trees (take i ns) n c.numbers.totals.items both.0 now both.1))
          (any_then _ _ _ first mid new 0 w.in_ok-push_total-2.field-0 c.numbers.invariant.reads c.numbers.invariant.any_rows w.in_ok-push_total-2.ensures.reads.within w.in_ok-push_total-2.ensures.any_rows) in
          record {
            same_reference = ap (λ (t : Transaction _). t.conn.ghost_name) w.tx-is ∙ w.in_ok-push_total-2.ensures.same_reference ∙ c.numbers.invariant.same_reference;
            some = omega arith;
            reads = subst (λ (t : Transaction _). Reads {V = ℕ} (λ book done. c.if-numbers-i.totals.items ≡ filter (is_among (take (i + 1) ns)) (total_rows book)) first (state g.S.Store t.conn.now) (Ok 0)) (sym w.tx-is)
                (subst (λ (v : Vec TotalRow Global). Reads {V = ℕ} (λ book done. v.items ≡ filter (is_among (take (i + 1) ns)) (total_rows book)) first new (Ok 0)) (sym w.totals-is) read);
            any_rows = subst (λ (t : Transaction _). ReadsAny {V = ℕ} (λ trees done. AreTotalsOf (take (i + 1) ns) trees c.if-numbers-i.totals.items) first (state g.S.Store t.conn.now) (Ok 0)) (sym w.tx-is)
                (subst (λ (v : Vec TotalRow Global). ReadsAny {V = ℕ} (λ trees done. AreTotalsOf (take (i + 1) ns) trees v.items) first new (Ok 0)) (sym w.totals-is) any);
            lives = subst (λ (v : Vec TotalRow Global). All HasLife v.items) (sym w.totals-is) (w.in_ok-push_total-2.ensures.lives c.numbers.invariant.lives);
          }
      | else-numbers-i w ↦
          let read = none_read (take i ns) (take (i + 1) ns) n c.numbers.totals.items first mid is (there_already ns 0 i c.numbers.invariant.some c.numbers-test.true w.if-numbers-i.false) c.numbers.invariant.reads in
          let any : ReadsAny {V = ℕ} (λ trees done. AreTotalsOf (take (i + 1) ns) trees c.numbers.totals.items) first mid (Ok 0) = any_so _ _ first mid 0 0 (λ trees of. subst (λ xs. AreTotalsOf xs trees c.numbers.totals.items) is (again_of trees (take i ns) n c.numbers.totals.items of (there_last ns 0 i c.numbers.invariant.some c.numbers-test.true w.if-numbers-i.false))) c.numbers.invariant.any_rows in
          record {
            same_reference = ap (λ (t : Transaction _). t.conn.ghost_name) w.tx-is ∙ c.numbers.invariant.same_reference;
            some = omega arith;
            reads = subst (λ (t : Transaction _). Reads {V = ℕ} (λ book done. c.if-numbers-i.totals.items ≡ filter (is_among (take (i + 1) ns)) (total_rows book)) first (state g.S.Store t.conn.now) (Ok 0)) (sym w.tx-is)
                (subst (λ (v : Vec TotalRow Global). Reads {V = ℕ} (λ book done. v.items ≡ filter (is_among (take (i + 1) ns)) (total_rows book)) first mid (Ok 0)) (sym w.totals-is) read);
            any_rows = subst (λ (t : Transaction _). ReadsAny {V = ℕ} (λ trees done. AreTotalsOf (take (i + 1) ns) trees c.if-numbers-i.totals.items) first (state g.S.Store t.conn.now) (Ok 0)) (sym w.tx-is)
                (subst (λ (v : Vec TotalRow Global). ReadsAny {V = ℕ} (λ trees done. AreTotalsOf (take (i + 1) ns) trees v.items) first mid (Ok 0)) (sym w.totals-is) any);
            lives = subst (λ (v : Vec TotalRow Global). All HasLife v.items) (sym w.totals-is) c.numbers.invariant.lives;
          }
    ]

pub returns-in_err-push_total-clause-damage : goal.returns-in_err-push_total-clause-damage
returns-in_err-push_total-clause-damage g c = (let ns = c.args.numbers.now in handed (λ name trees it. (get_or ns 0 0, Contains-get_or ns 0 0 c.requires.some, it)) c.from_residual.ensures.1 c.in_err-push_total.ensures.damage)

pub returns-in_err-push_total-2-clause-damage : goal.returns-in_err-push_total-2-clause-damage
returns-in_err-push_total-2-clause-damage g c =
    let ns = c.args.numbers.now in
    let i = c.numbers.i in
    handed_later (λ name trees it. (get_or ns i 0, Contains-get_or ns i 0 c.numbers-test.true, it)) c.from_residual-in_err-push_total-2.ensures.1 c.numbers.invariant.reads c.in_err-push_total-2.ensures.reads.within c.in_err-push_total-2.ensures.damage
