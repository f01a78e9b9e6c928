-- The command that loads the maintenance programme of a text.
use Rattle.std.specs.Prelude.{ℕ, List, ◌&&◌, nat_lt, Result, Ok, Err, if◌then◌else◌}
use Rattle.mx_book.specs.commands.Act.{Entry, Loaded}
use Rattle.mx_book.specs.commands.Shape.{has_shape, is_log_doc}
use Rattle.mx_book.specs.declared.commands.programme.Programme.{Programme}
use Rattle.mx_book.specs.declared.commands.programme.Task.{Task}
use Rattle.mx_intake.specs.declared.fault.IntakeFault.{IntakeFault}
use Rattle.mx_intake.specs.declared.fault.TheConstants.{BAD_SHAPE}
use Rattle.mx_intake.specs.Fault.{fault}
use Rattle.mx_intake.specs.Form.{if_shaped}
use Rattle.mx_intake.specs.ProgrammeText.{programme_of_text}

-- the command that loads a programme with its tasks, by a document
abbrev pub loading : List ℕ → Programme × List Task → Entry
loading doc stated = record { doc = doc; act = Loaded stated.0 stated.1 }

-- the command, or its fault in entry 0
abbrev pub of_whole : Result Entry ℕ → Result Entry IntakeFault
of_whole (Ok e) = Ok e
of_whole (Err which) = Err (fault which 0)

-- the fault that is told by a document: one of the technical log is a bad shape of entry 0, before the faults of the tasks
abbrev pub fault_by_document : List ℕ → IntakeFault → IntakeFault
fault_by_document doc f = if is_log_doc doc && nat_lt 0 f.entry then fault BAD_SHAPE 0 else f

-- the command that loads a programme by a document, if the programme is read
abbrev pub entry_if_programme : List ℕ → Result (Programme × List Task) IntakeFault → Result Entry IntakeFault
entry_if_programme doc (Ok stated) = of_whole (if_shaped has_shape (loading doc stated))
entry_if_programme doc (Err f) = Err (fault_by_document doc f)

-- the command that loads the programme of a text by a document, or its fault
abbrev pub entry_of_programme : List ℕ → List ℕ → Result Entry IntakeFault
entry_of_programme doc bytes = entry_if_programme doc (programme_of_text bytes)
