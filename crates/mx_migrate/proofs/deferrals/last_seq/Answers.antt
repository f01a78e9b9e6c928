use Rattle.std.proofs.Common.{sym}
use Rattle.mx_migrate.proofs.BatchLemmas.{last_is}
use Rattle.mx_migrate.proofs.deferrals.last_seq.Goals as goal

pub returns-in-Some : goal.returns-in-Some
returns-in-Some c = last_is (λ row. row.seq) c.args.mark c.args.rows.now c.in-Some.row.now (sym c.in-Some.ensures.value)
