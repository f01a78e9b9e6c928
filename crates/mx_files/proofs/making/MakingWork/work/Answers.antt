use Rattle.std.proofs.Common.{inl}
use Rattle.mx_files.proofs.making.MakingWork.work.Goals as goal

pub returns-in-Ok-clause-kept : goal.returns-in-Ok-clause-kept
returns-in-Ok-clause-kept g c =
    let made = c.in-Ok.ensures in
    inl (record {
      made = made.made;
      crash = made.crash;
      unchanged = made.unchanged;
      taken = made.taken;
      kept = made.kept;
      not_here = made.not_here;
      stops = made.stops;
    })

pub returns-in-Err-clause-kept : goal.returns-in-Err-clause-kept
returns-in-Err-clause-kept g c =
    let made = c.in-Err.ensures in
    inl (record {
      made = made.made;
      crash = made.crash;
      unchanged = made.unchanged;
      taken = made.taken;
      kept = made.kept;
      not_here = made.not_here;
      stops = made.stops;
    })
