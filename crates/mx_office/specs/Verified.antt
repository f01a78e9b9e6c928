-- What an office answers where it is asked whether its tables stand for a book.
use Rattle.std.specs.Prelude.{◌≡◌, Bool, Result}
use Rattle.sqlite.specs.Effect.{Database}
use Rattle.mx_layout.specs.declared.fault.TableFault.{TableFault}
use Rattle.mx_verify.specs.Verifies.{IsVerified, Tells}
use Rattle.mx_office.specs.Faults.{call_answer}
use Rattle.mx_faults.specs.declared.fault.Fault.{Fault}

-- the answer is that on these tables, whatever rows they have: whether they have those of a book, or why that was not found out
abbrev pub SaysVerified : Database → Result Bool Fault → Type 0
SaysVerified db answer = (found : Result Bool TableFault) × Tells (IsVerified db) db.trees found × (answer ≡ call_answer found)
