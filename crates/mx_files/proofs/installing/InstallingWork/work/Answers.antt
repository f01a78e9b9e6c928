use Rattle.mx_files.proofs.installing.InstallingWork.work.Goals as goal

pub returns-clause-kept : goal.returns-clause-kept
returns-clause-kept g c =
    let made = c.install_book-done.ensures in record {
      made = made.installed;
      crash = made.crash;
      unchanged = made.unchanged;
      taken = made.taken;
      kept = made.kept;
      not_here = made.not_here;
      stops = made.stops;
    }
