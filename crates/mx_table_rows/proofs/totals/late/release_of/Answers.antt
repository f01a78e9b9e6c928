use Rattle.std.proofs.Common.{sym, subst, pos}
use Rattle.sqlite.specs.declared.types.Value.TheVariants.{Int}
use Rattle.sqlite.specs.Held.{state}
use Rattle.mx_layout.specs.kept.Cells.{kept_crs}
use Rattle.mx_table_rows.specs.chosen.Choices.{has_value}
use Rattle.mx_table_rows.specs.totals.Calls.{ReadsFrom}
use Rattle.mx_table_rows.specs.totals.Single.{IsOnly, HasOne}
use Rattle.mx_table_rows.proofs.TotalsProofs.ReadLemmas.{reads_only}
use Rattle.mx_table_rows.proofs.totals.late.release_of.Goals as goal

pub returns-clause-reads : goal.returns-clause-reads
returns-clause-reads g c =
    let test = has_value 0 (Int (pos c.args.seq)) in
    let old = state g.S.Store c.args.tx.now.conn.now in
    let new = state g.S.Store c.crs_by_seq-read.new.tx.conn.now in
    subst (ReadsFrom kept_crs (IsOnly kept_crs test) (λ rows. ¬ HasOne kept_crs test rows) old new) (sym c.only.ensures)
    (reads_only kept_crs test old new c.crs_by_seq-read.result c.crs_by_seq-read.ensures.reads)
