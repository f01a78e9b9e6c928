use Rattle.mx_tables.proofs.InsertsProofs.SetLemmas.{reads_one}
use Rattle.mx_tables.proofs.inserts.sets.VecTables.read.Goals as goal

pub returns-clause-reads : goal.returns-clause-reads
returns-clause-reads g c = reads_one g.R.Stored.kept (λ rows. rows.items) g.met.R.Stored.lawful _ _ c.rows.result c.rows.ensures.reads
