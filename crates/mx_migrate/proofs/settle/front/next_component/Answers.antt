use Rattle.std.proofs.Common.{rules, ◌≡◌, ◌∙◌, slice_get, sym, ap, subst, Vec}
use Rattle.std.specs.Option.{option_map}
use Rattle.std.specs.declared.alloc.Global.{Global}
use Rattle.sqlite.specs.Held.{state}
use Rattle.mx_base.specs.declared.rows.rows.ComponentRow.{ComponentRow}
use Rattle.mx_layout.specs.declared.fault.Table.TheVariants as table
use Rattle.mx_layout.specs.kept.Cells.{kept_component}
use Rattle.mx_migrate.specs.settle.Choices.{FindsNext, next_checked}
use Rattle.mx_migrate.proofs.SettleProofs.FrontLemmas.{above_number, next_read, next_stops}
use Rattle.mx_migrate.proofs.settle.front.next_component.Goals as goal

pub returns-in_err-rows-clause-finds : goal.returns-in_err-rows-clause-finds
returns-in_err-rows-clause-finds g c =
    next_stops kept_component c.args.mark (λ row. above_number row.seq c.args.mark) (λ row good. good) _ (state g.S.Store c.args.tx.now.conn.now) (state g.S.Store c.next_components.new.tx.conn.now) c.in_err-rows.field-0.0 c.from_residual.result c.from_residual.ensures.1 c.in_err-rows.ensures.reads

pub returns-clause-finds : goal.returns-clause-finds
returns-clause-finds g c =
    let old = state g.S.Store c.args.tx.now.conn.now in
    let new = state g.S.Store c.next_components.new.tx.conn.now in
    let first : c.first_seq.result ≡ option_map (λ (row : ComponentRow). row.seq) (slice_get c.in_ok-rows.rows.items 0) = search rules in
    let same = c.next_checked.ensures ∙ ap (next_checked table.Component c.args.mark) first in
    subst (FindsNext kept_component c.args.mark old new) (sym same)
    (next_read kept_component c.args.mark (λ row. above_number row.seq c.args.mark) (λ row good. good) (λ (v : Vec ComponentRow Global). v.items) old new c.in_ok-rows.rows c.in_ok-rows.ensures.reads)
