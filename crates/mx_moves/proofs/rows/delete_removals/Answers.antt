use Rattle.std.proofs.Common.{pos}
use Rattle.sqlite.specs.declared.types.Value.TheVariants.{Int}
use Rattle.sqlite.specs.Held.{state}
use Rattle.mx_layout.specs.kept.Cells.{kept_removal1}
use Rattle.mx_layout.proofs.KeptProofs.Lawful.{removal1_lawful}
use Rattle.mx_table_rows.specs.chosen.Choices.{has_value}
use Rattle.mx_moves.proofs.RowLemmas.{deletes_write}
use Rattle.mx_moves.proofs.rows.delete_removals.Goals as goal

pub returns-clause-writes : goal.returns-clause-writes
returns-clause-writes g c =
    let old = state g.S.Store c.args.tx.now.conn.now in
    deletes_write kept_removal1 (has_value 1 (Int (pos c.args.component))) old (state g.S.Store c.delete_removal1.new.tx.conn.now) c.delete_removal1.result (removal1_lawful.there old.now.schema) c.delete_removal1.ensures.deletes
