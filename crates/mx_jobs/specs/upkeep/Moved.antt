-- What becomes of a file that is moved to the newest layout.
use Rattle.std.specs.Prelude.{ℕ, Result}
use Rattle.sqlite.specs.State.{State}
use Rattle.sqlite.specs.Store.{Ghosts}
use Rattle.sqlite.specs.Held.{Held, state}
use Rattle.mx_base.specs.declared.point.Point.{Point}
use Rattle.mx_faults.specs.declared.moving.MoveFault.{MoveFault}
use Rattle.mx_migrate.specs.settle.Place.{FollowsPoint}
use Rattle.mx_migrate.specs.settle.Settles.{Settles}

-- a file was moved by at most so many commits, as what `office` says of it decides, and this was printed of the answer
abbrev pub Moves : {S : Type 0} → Ghosts S → ℕ → Held S → State → (Result Point MoveFault → Type 0) → Type 0
Moves g at_most was new Prints = (answer : Result Point MoveFault) × Settles at_most (state g was) new answer × FollowsPoint g was new answer × Prints answer
