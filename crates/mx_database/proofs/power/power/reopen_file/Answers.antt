use Rattle.std.proofs.Common.{◌≡◌, List, ℕ, Bool, cond, inl, refl, sym, ap₂, subst, subst₂, arith}
use Rattle.std.proofs.Math.Logic.{∥∥₁_map}
use Rattle.sqlite.specs.Files.{file_state}
use Rattle.sqlite.proofs.Theorems.{opens_again}
use Rattle.sqlite_disk.specs.Events.{Event, replay}
use Rattle.sqlite_disk.specs.History.{MayLeave}
use Rattle.sqlite_wal.specs.Recovery.{Image}
use Rattle.sqlite_wal.specs.Files.{image_at}
use Rattle.mx_database.proofs.PowerProofs.FoundLemmas.{finds}
use Rattle.mx_database.proofs.PowerProofs.LeftLemmas.{err_by, ok_by, only_start, some_by, still_stands, stop_of_opening, Holds}
use Rattle.mx_database.proofs.power.power.reopen_file.Goals as goal

pub returns-clause-found : goal.returns-clause-found
returns-clause-found g c conn end was =
    let among = (file_state conn).may_leave in
    let image = image_at g.S.Start in
    let holds : Holds among image = ∥∥₁_map (opens_again c.args.left (end.numbered was.clean) (end.databases was.clean) image was.among) (λ one. (one.0, end.left one.0 one.1, one.2)) in
    ok_by c.open_from.result c.open_from.ensures.found c.open_from.ensures.opened (λ again found opened clean. finds (λ file. inl refl) again (opened clean) among image holds (found clean))

abbrev image : List ℕ → List ℕ → Image
image log db = record { log = log; db = db }

abbrev seen : List ℕ → List ℕ → Bool → List Event → List ℕ
seen log db is_log history = (replay (cond is_log log db) history).seen

abbrev may_leave : Bool → List ℕ → List ℕ → List ℕ → Bool → List Event → Type 0
may_leave mixes c log db is_log history = let m = replay (cond is_log log db) history in MayLeave mixes m.seen m.synced m.steps c

pub returns-clause-left : goal.returns-clause-left
returns-clause-left g c conn end was =
    let among = (file_state conn).may_leave in
    let start = image_at g.S.Start in
    let holds : Holds among start = ∥∥₁_map (opens_again c.args.left (end.numbered was.clean) (end.databases was.clean) start was.among) (λ one. (one.0, end.left one.0 one.1, one.2)) in
    err_by c.open_from.result c.open_from.ensures.cause c.open_from.ensures.cause (λ why cause _. some_by why.1 cause (λ rest it clean.
    let log = it.1 in
    let db = it.2 in
    let same = ap₂ image (ap₂ (seen g.S.Start.log g.S.Start.db) log.0 log.1) (ap₂ (seen g.S.Start.log g.S.Start.db) db.0 db.1) in
    let here = subst (Holds among) (sym same) holds in
    record {
      stands = still_stands among it.0 here (λ i out.
          let in_log : i.log ≡ g.S.Start.log = only_start g.S.Start.log it.0.log.key g.S.Start.is_mixing i.log (subst₂ (may_leave g.S.Start.is_mixing i.log g.S.Start.log g.S.Start.db) log.0 log.1 out.0) in
          let in_db : i.db ≡ g.S.Start.db = only_start g.S.Start.db it.0.db.key g.S.Start.is_mixing i.db (subst₂ (may_leave g.S.Start.is_mixing i.db g.S.Start.log g.S.Start.db) db.0 db.1 out.1) in
          subst (Holds among) (sym (ap₂ image in_log in_db)) holds) rest clean (it.3 clean).1;
      reason = stop_of_opening among it.0 here 0 (omega arith) rest why.0 (it.3 clean).0;
    }))
