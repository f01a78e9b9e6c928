-- An opening behind a loss of power: what is found, of any book and of any rows, and what is printed from it.
use Rattle.std.proofs.Common.{refl, ap, subst, ◌≡◌, ◌≢◌, ◌⊎◌, inl, inr, arith, ℕ, zero, suc, List, Option, Some, None, Result, Ok, Err, IsTrue, IfOk, IfErr}
use Rattle.std.proofs.Math.Logic.{∥∥₁_map}
use Rattle.sqlite_disk.specs.declared.Disk as disk
use Rattle.sqlite.specs.Store.{Ghosts}
use Rattle.sqlite.specs.Held.{Held, state}
use Rattle.sqlite.specs.Schema.{Schema}
use Rattle.sqlite.specs.State.{State, HasCleanDisk}
use Rattle.sqlite.specs.Tree.{Trees}
use Rattle.mx_book.specs.commands.Act.{Entry}
use Rattle.mx_book.specs.Book.{IsBook}
use Rattle.mx_base.specs.declared.point.Point.{Point}
use Rattle.mx_registers.specs.points.Commits.{point_behind}
use Rattle.mx_registers.specs.points.Points.{next_point}
use Rattle.mx_registers.proofs.PointsProofs.CommitLemmas.{commit_counts}
use Rattle.mx_layout.specs.Crash.{ChangesNothing, Leaves, RestsAs}
use Rattle.mx_layout.proofs.CrashLemmas.{rests_kept}
use Rattle.mx_database.specs.power.Found.{Finds, IsFound}
use Rattle.mx_database.proofs.PowerProofs.FoundLemmas.{rests_found}
use Rattle.mx_migrate.specs.settle.Place.{IsPlacedAt, SaysAt}
use Rattle.mx_book_tables.specs.stands.Schemas.{IsOfFile, schema_at}
use Rattle.mx_faults.specs.declared.fault.OpenFault.{OpenFault}
use Rattle.mx_faults.specs.declared.fault.OpenFault.TheVariants as opening
use Rattle.mx_office.specs.declared.office.Office.{Office as TheOffice}
use Rattle.mx_office.specs.Layout.{office_point}
use Rattle.mx_office.specs.Office.{office_state}
use Rattle.mx_office.specs.Opening.{AreMovedOn, ChangesOnWay, HasReason, MovesOn}
use Rattle.mx_apply.specs.writing.Written.{IsSettled}
use Rattle.mx_office.specs.Stands.{RestsIn}
use Rattle.mx_promise.specs.Moved.{IsKeptMoving}
use Rattle.mx_promise.specs.Own.{RestsOn, StandsOn}
use Rattle.mx_promise.proofs.OwnLemmas.{crash_on, kept_on, rests_still, same_on, settled_of, stands_on, whole_on}
use Rattle.mx_promise.specs.declared.again.Reopened.{Reopened}
use Rattle.mx_promise.specs.declared.again.Unopened.{Unopened}
use Rattle.mx_promise.specs.declared.again.Unopened.TheVariants.{Files, Database, Office}
use Rattle.mx_promise.specs.Opened.{FindsAgain, IsOpenedAgain, IsPrintedAgain, IsUnopenedAgain, MissesAgain}
use Rattle.mx_promise.specs.Reopened.{FindsUnopened, IsPrintOf, SaysHere}
use Rattle.mx_promise.proofs.KeptLemmas.{nothing_found, rests_on}

-- ── a file that goes on ──

-- one commit further a file is at a point that it can be at
next_file : (book : List Entry) → IsBook book → (at : Point) → IsOfFile at → IsOfFile (next_point at book)
next_file book is at (inl way) = (commit_counts book is at way).1
next_file book is at (inr there) = inr (ap (λ p. next_point p book) there)

pub file_behind : (book : List Entry) → IsBook book → (commits : ℕ) (at : Point) → IsOfFile at → IsOfFile (point_behind commits at book)
file_behind book is zero at file = file
file_behind book is (suc commits) at file = file_behind book is commits (next_point at book) (next_file book is at file)

-- where no office was opened, this is known of a file of a book
kept_moving : {S : Type 0} (g : Ghosts S) (was : Held S) (now : State) (own : Schema) (at : Point) (book : List Entry) (fault : OpenFault) → HasCleanDisk (state g was) → RestsOn own at (state g was) book → ChangesOnWay g was now → MovesOn (state g was) now (Some fault)
    → HasReason (state g was) fault → IsKeptMoving own at book fault now
kept_moving g was now own at book fault early rests changes moves reason = record {
  rests = same_on g was now own at book rests changes (Some fault) moves fault refl;
  crash = crash_on g was now own at book rests changes (Some fault) moves;
  reason = λ file. whole_on (state g was) own at book fault early reason file rests;
}

-- ── an opening behind a loss of power ──

module _ (was : State) {S : Type 0} (g : Ghosts S) (mid : Held S) (now : State) (clean : HasCleanDisk now) (found : IsFound was.may_leave (state g mid)) where
  -- the tables that were found rest at the point at which they stand for a book
  found_at : (own : Schema) (at : Point) (book : List Entry) → StandsOn own at found.tables book → RestsOn own at (state g mid) book
  found_at own at book stands = rests_on own at was.may_leave (state g mid) book found stands

  placed_at : (at : Point) → SaysAt at found.tables → IsPlacedAt at (state g mid)
  placed_at at says = rests_found was.may_leave (state g mid) (schema_at at) (SaysAt at) found says.lies.sound says

  -- no table is another than was found
  as_found : (at : Point) → SaysAt at found.tables → RestsAs (state g mid) (schema_at at) (λ db. db ≡ found.tables)
  as_found at says = rests_found was.may_leave (state g mid) (schema_at at) (λ db. db ≡ found.tables) found says.lies.sound refl

  module _ (at : Point) (says : SaysAt at found.tables) (why : Option OpenFault) (moves : MovesOn (state g mid) now why) where
    early : HasCleanDisk (state g mid)
    early = omega (arith, moves.clean, clean)

    of_found : (trees : Trees) → IsTrue (state g mid).is_open × AreMovedOn at (state g mid).now.trees trees → AreMovedOn at found.tables trees
    of_found trees (is_open, moved) = subst (λ old. AreMovedOn at old trees) ((as_found at says).tables early is_open) moved

    -- what a crash may leave is what steps of the move make of what was found
    pub moved_from : Leaves now (AreMovedOn at found.tables)
    moved_from _ db may = by (moves.left at (placed_at at says) clean db may)
      where
        by : (state g mid).may_leave db ⊎ (IsTrue (state g mid).is_open × AreMovedOn at (state g mid).now.trees db) → AreMovedOn at found.tables db
        by (inl before) = (0, at, (refl, (as_found at says).crash early db before))
        by (inr moved) = of_found db moved

    pub made_from : why ≢ Some opening.Store → IsTrue now.is_open → AreMovedOn at found.tables now.now.trees
    made_from other is_open = of_found now.now.trees (moves.made at (placed_at at says) other clean is_open)

  -- tables of the point of the office are as they were found
  as_they_were : HasCleanDisk (state g mid) → ChangesOnWay g mid now → (here : SaysHere found.tables) → RestsAs now here.schema (λ db. db ≡ found.tables)
  as_they_were early changes here = rests_kept here.schema (λ db. db ≡ found.tables) (state g mid) now (nothing_found was.may_leave g mid now early clean found here changes)
      (rests_found was.may_leave (state g mid) here.schema (λ db. db ≡ found.tables) found here.sound refl)

  pub opened_again : HasCleanDisk (state g mid) → MovesOn (state g mid) now None → ChangesOnWay g mid now → IsOpenedAgain was now
  opened_again early moves changes = record {
    tables = found.tables;
    left = found.left;
    books = λ own at book stands. kept_on g mid now own at book (found_at own at book stands) changes None moves refl;
    placed = λ at says. moves.placed at (placed_at at says) refl;
    moved = λ at says. moved_from at says None moves;
    settled = as_they_were early changes;
  }

  pub unopened_again : (fault : OpenFault) → HasCleanDisk was → HasCleanDisk (state g mid) → ChangesOnWay g mid now → MovesOn (state g mid) now (Some fault) → HasReason (state g mid) fault → IsUnopenedAgain was fault now
  unopened_again fault sure early changes moves reason = record {
    clean = sure;
    tables = found.tables;
    left = found.left;
    books = λ own at book stands. kept_moving g mid now own at book fault early (found_at own at book stands) changes moves reason;
    made = λ at says other is_open. made_from at says (Some fault) moves (λ is. other cc) is_open;
    moved = λ at says. moved_from at says (Some fault) moves;
    settled = as_they_were early changes;
  }

-- a list that is printed changes nothing
pub printed_again : {S : Type 0} {g : Ghosts S} (was mid : State) (tail : List ℕ) (day : ℕ) (again : Reopened S g) → IsOpenedAgain was mid → ChangesNothing mid (office_state again.office)
    → ((own : Schema) → IsSettled own → (book : List Entry) → RestsIn own mid book → IsPrintOf book tail day again.printed) → IsPrintedAgain was tail day again
printed_again was mid tail day again it nothing prints = record {
  tables = it.tables;
  left = it.left;
  books = λ own at book stands. rests_still own mid (office_state again.office) book nothing (it.books own at book stands);
  printed = λ own at book stands. prints own (settled_of own at stands.schema stands.is) book (it.books own at book stands);
}

-- ── at the point of the office ──

pub if_opened_then : {X E : Type 0} {P Q : X → Type 0} (again : Result X E) → IfOk again P → ((x : X) → P x → Q x) → IfOk again Q
if_opened_then (Ok x) has then = then x has
if_opened_then (Err error) has then = tt

-- whatever rows a file has there, they are found
module _ (was : State) (says : Leaves was SaysHere) where
  is_found : HasCleanDisk was → (now : State) (tables : Trees) → was.may_leave tables → ((here : SaysHere tables) → RestsAs now here.schema (λ db. db ≡ tables)) → IsFound was.may_leave now
  is_found clean now tables left settled =
      let here = says clean tables left in
      record { schema = here.schema; tables = tables; left = left; sound = here.sound; rests = settled here }

  pub finds : {S E : Type 0} {g : Ghosts S} (again : Result (TheOffice S g) E) → IfOk again (λ it. HasCleanDisk (office_state it) → HasCleanDisk was) → IfOk again (λ it. FindsAgain was (office_state it)) → IfOk again (λ it. Finds was.may_leave (office_state it))
  finds (Ok it) sure found = λ clean. ∥∥₁_map (found clean) (λ one. is_found (sure clean) (office_state it) one.tables one.left one.settled)
  finds (Err why) sure found = tt

  pub finds_unopened : {X D : Type 0} {g : disk.Ghosts D} (again : Result X (Unopened D g)) → IfErr again (MissesAgain was) → IfErr again (FindsUnopened was)
  finds_unopened (Ok it) misses = tt
  finds_unopened (Err (Files error)) misses = misses
  finds_unopened (Err (Database error left)) misses = misses
  finds_unopened (Err (Office conn fault)) misses = λ clean. ∥∥₁_map (misses clean) (λ one.
      let here = says one.clean one.tables one.left in
      record {
        clean = one.clean;
        found = record { schema = here.schema; tables = one.tables; left = one.left; sound = here.sound; rests = one.settled here };
        reason = λ own settled book stands. (one.books own office_point book (stands_on own settled one.tables book stands)).reason (inr refl);
      })
