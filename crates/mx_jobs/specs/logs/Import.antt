-- An import: the rows of what a reader has left, or why there are none.
use Rattle.std.specs.Prelude.{◌≡◌, ◌⊎◌, ℕ, List, Option, Result, Ok, Err}
use Rattle.mx_book.specs.commands.Act.{Entry}
use Rattle.mx_intake.specs.Input.{IfKnownAll, IfKnownLonger}
use Rattle.mx_intake.specs.Sectors.{sector_rows}
use Rattle.mx_intake.specs.Fault.{fault}
use Rattle.mx_intake.specs.declared.fault.IntakeFault.{IntakeFault}
use Rattle.mx_intake.specs.declared.fault.TheConstants.{MEMORY, TOO_LONG, READ_FAILED}
use Rattle.mx_intake.specs.declared.text.TheConstants.{MOST_BYTES}

-- the rows are those of all bytes that a reader had left, where those are known
abbrev pub AreRowsOf : Option (List ℕ) → List (Result Entry IntakeFault) → Type 0
AreRowsOf left rows = (bytes : List ℕ) × IfKnownAll left bytes × (sector_rows bytes ≡ Ok rows)

-- why a reader gives no rows: memory or a read failed, it has more bytes than are taken, or its text as a whole has the fault
abbrev pub IsFaultOf : Option (List ℕ) → IntakeFault → Type 0
IsFaultOf left f =
    ((f.entry ≡ 0) × ((f.number ≡ MEMORY) ⊎ (f.number ≡ READ_FAILED)))
    ⊎ (((f ≡ fault TOO_LONG 0) × IfKnownLonger left MOST_BYTES)
    ⊎ ((bytes : List ℕ) × IfKnownAll left bytes × (sector_rows bytes ≡ Err f)))
