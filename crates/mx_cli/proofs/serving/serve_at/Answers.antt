use Rattle.std.proofs.Common.{[], inl, inr, refl}
use Rattle.sqlite.specs.Held.{state}
use Rattle.mx_desk.proofs.ServedLemmas.{left_here}
use Rattle.mx_cli.proofs.serving.serve_at.Goals as goal

pub returns-in_default-clause-served : goal.returns-in_default-clause-served
returns-in_default-clause-served g c = record {
  kept = λ book rests ready. ([], rests);
  crash = λ book rests. ([], left_here book (state g.S.Store c.args.office.now.conn) rests);
  ready = λ ready. tt;
  stopped = inl (refl, refl);
}

pub returns-in-Ok-serve_on-clause-served : goal.returns-in-Ok-serve_on-clause-served
returns-in-Ok-serve_on-clause-served g c =
    let served = c.in-Ok-serve_on.ensures in record {
      kept = served.kept;
      crash = served.crash;
      ready = served.ready;
      stopped = tt;
    }

pub returns-clause-served : goal.returns-clause-served
returns-clause-served g c =
    let served = c.in-Err.ensures in record {
      kept = served.kept;
      crash = served.crash;
      ready = λ ready. tt;
      stopped = inr (c.in-Err.fault, refl, served.stops);
    }
