-- What becomes of an office that serves connections at a port.
use Rattle.std.specs.Prelude.{◌≡◌, ◌⊎◌, List, Result, OnOk, IfErr}
use Rattle.sqlite.specs.Store.{Ghosts}
use Rattle.mx_book.specs.commands.Act.{Entry}
use Rattle.mx_book.specs.Run.{book_run}
use Rattle.mx_desk.specs.Served.{KeepsBook, LeavesSome, StopsServing}
use Rattle.mx_faults.specs.declared.fault.Fault.{Fault}
use Rattle.mx_office.specs.declared.office.Office.{Office}
use Rattle.mx_office.specs.Office.{office_state, IsReady, StandsFor}
use Rattle.mx_output.specs.declared.endings.ending.Ending.{Ending}
use Rattle.mx_output.specs.declared.endings.ending.Stop.{Stop}
use Rattle.mx_output.specs.declared.endings.ending.Stop.TheVariants as stop

-- an office served connections at a port, one after the other
pub record ServesAt {S : Type 0} {g : Ghosts S} (before after : Office S g) (result : Result Ending Stop) : Type 0 where
  -- whatever book it stood for, while it goes on it stands for that book behind some commands
  pub kept : KeepsBook before after
  -- and a crash leaves the book behind some commands, or behind these the first so many of one more request
  pub crash : (book : List Entry) → StandsFor before book → (commands : List Entry) × LeavesSome (book_run book commands) (office_state after)
  -- it goes on, unless it was stopped
  pub ready : IsReady before → OnOk result (IsReady after)
  -- the port was not bound, and it is as it was; or memory or the store stopped it
  pub stopped : IfErr result (λ why. ((why ≡ stop.Net) × (after ≡ before)) ⊎ ((fault : Fault) × (why ≡ stop.Office fault) × StopsServing fault after))
