-- A fault by its number and its entry.
use Rattle.std.specs.Prelude.{ℕ}
use Rattle.mx_intake.specs.declared.fault.IntakeFault.{IntakeFault}

-- the fault of that number in that entry; entry 0 is the whole input
abbrev pub fault : ℕ → ℕ → IntakeFault
fault number entry = record { number = number; entry = entry }
