-- What stops an answer before it is made, and what was written of one whose write failed.
use Rattle.std.specs.Prelude.{ℕ, List, take, Option}
use Rattle.std.specs.Io.KnownBytes.{Appends}
use Rattle.mx_http.specs.declared.request.input.InputFault.{InputFault}
use Rattle.mx_http.specs.declared.request.input.InputFault.TheVariants as input
use Rattle.mx_http.specs.declared.responses.fault.DeskFault.{DeskFault}
use Rattle.mx_http.specs.declared.responses.fault.DeskFault.TheVariants as desk

-- why a request could not be read
abbrev pub fault_of_input : InputFault → DeskFault
fault_of_input input.Memory = desk.Memory
fault_of_input input.Read = desk.Read

-- a beginning of a text was appended, and nothing behind it
abbrev pub AppendsSome : Option (List ℕ) → Option (List ℕ) → List ℕ → Type 0
AppendsSome old new text = (n : ℕ) × Appends old new (take n text)
