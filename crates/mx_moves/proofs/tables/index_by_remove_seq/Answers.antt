use Rattle.sqlite.specs.Held.{state}
use Rattle.mx_layout.specs.CreateTexts.{span2_by_remove_seq_text}
use Rattle.mx_layout.specs.Tables.{span2, span2_by_remove_seq}
use Rattle.mx_layout.proofs.StepLemmas.{span2_by_remove_seq_made}
use Rattle.mx_moves.proofs.AlterLemmas.{makes_index}
use Rattle.mx_moves.proofs.tables.index_by_remove_seq.Goals as goal

pub returns-clause-alters : goal.returns-clause-alters
returns-clause-alters g c =
    makes_index span2_by_remove_seq_text (state g.S.Store c.args.tx.now.conn.now) (state g.S.Store c.execute.new.tx.conn.now) c.execute.result c.execute.ensures.runs c.execute.ensures.stays.inside c.execute.ensures.stays.within 20 span2 span2_by_remove_seq span2_by_remove_seq_made
