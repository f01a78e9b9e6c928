-- An office, as the crates above see it: what its database shows, the book that it stands for, and whether it goes on.
use Rattle.std.specs.Prelude.{◌≡◌, false, true, List}
use Rattle.sqlite.specs.Store.{Ghosts}
use Rattle.sqlite.specs.State.{State}
use Rattle.sqlite.specs.Held.{Held, state}
use Rattle.mx_book.specs.commands.Act.{Entry}
use Rattle.mx_office.specs.Stands.{Rests}
use Rattle.mx_office.specs.declared.office.Office.{Office}

-- what the database of an office shows
abbrev pub office_state : {S : Type 0} {g : Ghosts S} → Office S g → State
office_state {S} {g} office = state g office.conn

-- the connection of an office, which is handed back where it is closed
abbrev pub office_conn : {S : Type 0} {g : Ghosts S} → Office S g → Held S
office_conn office = office.conn

-- the office takes commands and questions: no commit is in doubt
abbrev pub IsReady : {S : Type 0} {g : Ghosts S} → Office S g → Type 0
IsReady office = office.needs_reopen ≡ false

-- the office has to be opened again
abbrev pub IsInDoubt : {S : Type 0} {g : Ghosts S} → Office S g → Type 0
IsInDoubt office = office.needs_reopen ≡ true

-- the tables of an office, and each state of them that a crash may leave, stand for the book
abbrev pub StandsFor : {S : Type 0} {g : Ghosts S} → Office S g → List Entry → Type 0
StandsFor office book = Rests (office_state office) book
