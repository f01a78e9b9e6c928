-- What the rows of a table become with a command, whichever table it is.
use Rattle.std.proofs.Common.{List, []}
use Rattle.mx_book.specs.commands.Act.{Act, Entry}
use Rattle.mx_registers.specs.Registers.{gives_by}
use Rattle.mx_registers.proofs.RegisterLemmas.{gives-more}
use Rattle.mx_registers.specs.kept.Becomes.{Becomes, adding}

-- to a register the rows of a command are added
pub register_becomes : {Row : Type 0} (by : List Entry → Act → List Row) → Becomes (λ book. gives_by by [] book) (adding by)
register_becomes by book command b new shape = gives-more (λ before entry. by before entry.act) [] book command
