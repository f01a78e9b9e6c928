use Rattle.std.proofs.Common.{◌∙◌, sym}
use Rattle.sqlite.specs.Held.{state}
use Rattle.mx_migrate.proofs.SettleProofs.KnownLemmas.{known_found, none_known}
use Rattle.mx_migrate.proofs.settle.known.kept_known.Goals as goal

pub returns-in-Some-clause-finds : goal.returns-in-Some-clause-finds
returns-in-Some-clause-finds g c begun = known_found c.args.known.now c.in-Some.kept (state g.S.Store c.args.tx.now.conn.now) (sym c.take.ensures.value ∙ c.in-Some.is)

pub returns-in-None-clause-finds : goal.returns-in-None-clause-finds
returns-in-None-clause-finds g c begun =
    none_known c.args.known.now (state g.S.Store c.args.tx.now.conn.now) (state g.S.Store c.read_kept.new.tx.conn.now) c.read_kept.result (sym c.take.ensures.value ∙ c.in-None.is) (c.read_kept.ensures.finds begun)
