use Rattle.std.proofs.Common.{◌+◌, [], ◌∷◌, sym, ap, subst, ◌∙◌}
use Rattle.sqlite.specs.Held.{state}
use Rattle.mx_base.specs.rows.Pairs.{rows_in_pairs}
use Rattle.mx_registers.specs.Added.{AreAddedRows}
use Rattle.mx_registers.specs.Registers.{entry_row}
use Rattle.mx_layout.specs.kept.Cells.{kept_entry}
use Rattle.mx_tables.proofs.InsertsProofs.SetLemmas.{one_then, on_weaker}
use Rattle.mx_moves.proofs.InstallProofs.GainLemmas.{AreIn, entries_in, gains_command, onto_rest, rest_in, rest_keeps}
use Rattle.mx_moves.proofs.install.adding.add_rows.Goals as goal

pub returns-clause-adds : goal.returns-clause-adds
returns-clause-adds g c clean begun has =
    let s0 = state g.S.Store c.args.tx.now.conn.now in
    let s1 = state g.S.Store c.insert.new.tx.conn.now in
    let s2 = state g.S.Store c.write.new.tx.conn.now in
    let v = rows_in_pairs c.into_pairs-beside.result in
    let are = subst (AreAddedRows c.args.book.now c.args.command.now) (sym c.into_pairs-beside.ensures) c.requires in
    let x = c.entry_row-entry.result in
    let entry = ap (λ e. e ∷ []) (c.entry_row-entry.ensures.row ∙ ap (λ n. entry_row (n + 1) c.args.command.now) c.len.ensures.len) in
    let it = one_then kept_entry x AreIn (onto_rest v) (rest_keeps v) s0 s1 s2 c.in_ok-insert.field-0 c.write.result c.in_ok-insert.ensures.inserts c.write.ensures.writes in
    on_weaker c.write.result (gains_command c.args.book.now c.args.command.now (x ∷ []) v entry are s0.now s2.now)
    (it.gains clean begun (entries_in _ has) (rest_in _ has))
