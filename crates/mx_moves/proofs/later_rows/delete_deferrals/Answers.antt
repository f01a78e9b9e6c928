use Rattle.std.proofs.Common.{pos}
use Rattle.sqlite.specs.declared.types.Value.TheVariants.{Int}
use Rattle.sqlite.specs.Held.{state}
use Rattle.mx_layout.specs.kept.Cells.{kept_defect}
use Rattle.mx_layout.proofs.KeptProofs.Lawful.{defect_lawful}
use Rattle.mx_table_rows.specs.chosen.Choices.{is_up_to}
use Rattle.mx_moves.proofs.RowLemmas.{deletes_write}
use Rattle.mx_moves.proofs.later_rows.delete_deferrals.Goals as goal

pub returns-clause-writes : goal.returns-clause-writes
returns-clause-writes g c =
    let old = state g.S.Store c.args.tx.now.conn.now in
    deletes_write kept_defect (is_up_to 0 (Int (pos c.args.seq))) old (state g.S.Store c.delete_defect.new.tx.conn.now) c.delete_defect.result (defect_lawful.there old.now.schema) c.delete_defect.ensures.deletes
