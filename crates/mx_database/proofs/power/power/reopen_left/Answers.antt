use Rattle.std.proofs.Common.{◌+◌, ◌≤◌, arith, subst}
use Rattle.std.proofs.lemmas.Bool.{and_from}
use Rattle.sqlite_wal.specs.Files.{outcomes, seen_image}
use Rattle.sqlite_disk.specs.declared.Files.{Files}
use Rattle.sqlite_wal.specs.Recovery.{Image}
use Rattle.sqlite_wal.specs.Reads.{AreClean}
use Rattle.sqlite_wal.proofs.CleanLemmas.{halves}
use Rattle.sqlite.specs.Files.{file_state}
use Rattle.mx_database.proofs.PowerProofs.FoundLemmas.{finds}
use Rattle.mx_database.proofs.PowerProofs.LeftLemmas.{clean_left, err_by, ok_by, still_stands, stop_of_opening}
use Rattle.mx_database.proofs.power.power.reopen_left.Goals as goal

pub returns-clause-clean : goal.returns-clause-clean
returns-clause-clean g c = ok_by c.open_files.result c.open_files.ensures.found c.open_files.ensures.opened (λ again found opened clean.
    let parts = halves g.D.Disk c.crash.new.self c.crash-2.new.self (found clean).honest in
    let before : AreClean g.D.Disk c.into_files-files.result.log c.into_files-files.result.db = and_from _ _ (c.crash.ensures.clean parts.0) (c.crash-2.ensures.clean parts.1) in
    clean_left c.args.left (subst (λ p. AreClean g.D.Disk p.0 p.1) c.into_files-files.ensures before))

pub returns-clause-found : goal.returns-clause-found
returns-clause-found g c conn holds =
    let image = seen_image g.D.Disk c.crash.new.self c.crash-2.new.self in
    let may = subst (λ p. outcomes g.D.Disk p.0 p.1 image) c.into_files-files.ensures (c.crash.ensures.left, c.crash-2.ensures.left) in
    ok_by c.open_files.result c.open_files.ensures.found c.open_files.ensures.opened (λ again found opened clean.
    finds g.met.D.Disk.seen_may_stay again (opened clean) (file_state conn).may_leave image (holds image may) (record { holds = (found clean).holds; reads = (found clean).reads }))

pub returns-clause-left : goal.returns-clause-left
returns-clause-left g c conn holds =
    let among = (file_state conn).may_leave in
    let files : Files _ = record { log = c.crash.new.self; db = c.crash-2.new.self } in
    let image = seen_image g.D.Disk files.log files.db in
    let same = c.into_files-files.ensures in
    let may = subst (λ p. outcomes g.D.Disk p.0 p.1 image) same (c.crash.ensures.left, c.crash-2.ensures.left) in
    let seen = holds image may in
    let old = λ (i : Image) (out : outcomes g.D.Disk files.log files.db i). holds i (subst (λ p. outcomes g.D.Disk p.0 p.1 i) same (c.crash.ensures.crash i.log out.0, c.crash-2.ensures.crash i.db out.1)) in
    let few = subst (λ p. g.D.Disk.faults p.0 + g.D.Disk.faults p.1 ≤ g.D.Disk.faults files.log + g.D.Disk.faults files.db) same (omega (arith, c.crash.ensures.faults, c.crash-2.ensures.faults)) in
    err_by c.open_files.result c.open_files.ensures.cause c.open_files.ensures.unharmed (λ why cause kept clean. record {
      stands = still_stands among files seen old why.1 clean (kept clean);
      reason = stop_of_opening among files seen _ few why.1 why.0 (cause clean);
    })
