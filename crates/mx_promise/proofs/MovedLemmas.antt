-- A file whose office is opened, at whatever point it is: what a stop leaves, and what the next opening makes of it.
use Rattle.std.proofs.Common.{◌≡◌, ℕ, zero, suc, List, Result, Ok, Err, IfOk, IfErr, arith, refl, subst}
use Rattle.std.proofs.Math.Logic.{∥∥₁_map}
use Rattle.sqlite_disk.specs.declared.Disk as disk
use Rattle.sqlite.specs.Store.{Ghosts}
use Rattle.sqlite.specs.Files.{file_state}
use Rattle.sqlite.specs.Schema.{Schema}
use Rattle.sqlite.specs.State.{State, HasCleanDisk}
use Rattle.mx_book.specs.commands.Act.{Entry}
use Rattle.mx_book.specs.Book.{IsBook}
use Rattle.mx_base.specs.declared.point.Point.{Point}
use Rattle.mx_registers.specs.points.Commits.{point_behind}
use Rattle.mx_registers.specs.points.Points.{next_point}
use Rattle.mx_layout.specs.Crash.{Leaves}
use Rattle.mx_database.proofs.PowerProofs.LeftLemmas.{wider_left}
use Rattle.mx_faults.specs.declared.fault.OpenFault.{OpenFault}
use Rattle.mx_office.specs.declared.office.Office.{Office as TheOffice}
use Rattle.mx_office.specs.Office.{office_state}
use Rattle.mx_promise.specs.declared.again.Unopened.{Unopened}
use Rattle.mx_promise.specs.declared.again.Unopened.TheVariants.{Files, Database, Office}
use Rattle.mx_promise.specs.Moved.{FindsBook, IsKeptMoving, KeepsMoving, StandsMoving}
use Rattle.mx_promise.specs.Opened.{FindsAgain, MissesAgain}
use Rattle.mx_promise.specs.Own.{RestsOn, StandsOn}
use Rattle.mx_promise.proofs.AgainLemmas.{file_behind}

-- a point behind one behind another is behind that
behind_both : (n m : ℕ) (at : Point) (book : List Entry) → (k : ℕ) × (point_behind m (point_behind n at book) book ≡ point_behind k at book)
behind_both zero m at book = (m, refl)
behind_both (suc n) m at book = let it = behind_both n m (next_point at book) book in (suc it.0, it.1)

-- what was kept of a file behind a point was kept of it behind the one before
kept_behind : (n : ℕ) (own : Schema) (at : Point) (book : List Entry) (fault : OpenFault) (now : State) → IsBook book → IsKeptMoving own (point_behind n at book) book fault now → IsKeptMoving own at book fault now
kept_behind n own at book fault now is it = record {
  rests = λ other. (let one = it.rests other in let both = behind_both n one.0 at book in (both.0, subst (λ p. RestsOn own p now book) both.1 one.1));
  crash = λ clean db may. (let one = it.crash clean db may in let both = behind_both n one.0 at book in (both.0, subst (λ p. StandsOn own p db book) both.1 one.1));
  reason = λ file. it.reason (file_behind book is n at file);
}

module _ (own : Schema) (at : Point) (book : List Entry) (end : State) (leaves : Leaves end (StandsMoving own at book)) where
  pub finds_book : {S E : Type 0} {g : Ghosts S} (again : Result (TheOffice S g) E) → IfOk again (λ it. HasCleanDisk (office_state it) → HasCleanDisk end) → IfOk again (λ it. FindsAgain end (office_state it)) → IfOk again (FindsBook own book)
  finds_book (Ok it) sure found = λ clean. ∥∥₁_map (found clean) (λ one. let stands = leaves (sure clean) one.tables one.left in one.books own (point_behind stands.0 at book) book stands.1)
  finds_book (Err why) sure found = tt

  pub keeps_moving : {X D : Type 0} {g : disk.Ghosts D} (again : Result X (Unopened D g)) → IfErr again (MissesAgain end) → IfErr again (KeepsMoving own at book)
  keeps_moving (Ok it) misses = tt
  keeps_moving (Err (Files error)) misses = misses
  keeps_moving (Err (Database error rest)) misses = λ faithful.
      let it = misses faithful in
      wider_left _ (StandsMoving own at book) (λ db may. ∣ leaves it.0 db may ∣₁) 0 0 (omega arith) _ _ it.1
  keeps_moving (Err (Office conn fault)) misses = λ clean. ∥∥₁_map (misses clean) (λ one.
      let stands = leaves one.clean one.tables one.left in
      kept_behind stands.0 own at book fault (file_state conn) stands.1.tables.rows.is_book (one.books own (point_behind stands.0 at book) book stands.1))
