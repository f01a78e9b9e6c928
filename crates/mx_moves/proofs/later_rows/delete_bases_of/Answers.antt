use Rattle.std.proofs.Common.{pos}
use Rattle.sqlite.specs.declared.types.Value.TheVariants.{Int}
use Rattle.sqlite.specs.Held.{state}
use Rattle.mx_layout.specs.kept.Cells.{kept_base2}
use Rattle.mx_layout.proofs.KeptProofs.MovedLawful.{base2_lawful}
use Rattle.mx_table_rows.specs.chosen.Choices.{has_value}
use Rattle.mx_moves.proofs.RowLemmas.{deletes_write}
use Rattle.mx_moves.proofs.later_rows.delete_bases_of.Goals as goal

pub returns-clause-writes : goal.returns-clause-writes
returns-clause-writes g c =
    let old = state g.S.Store c.args.tx.now.conn.now in
    deletes_write kept_base2 (has_value 0 (Int (pos c.args.item))) old (state g.S.Store c.delete_base2.new.tx.conn.now) c.delete_base2.result (base2_lawful.there old.now.schema) c.delete_base2.ensures.deletes
