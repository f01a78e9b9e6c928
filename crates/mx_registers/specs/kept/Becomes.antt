-- What the rows of a table become with a command: one form for registers, to which rows are added, and for kept rows, which change.
use Rattle.std.specs.Prelude.{◌≡◌, List, [], ◌∷◌, ◌++◌, map, true, IsPermutation}
use Rattle.mx_book.specs.commands.Act.{Act, Entry}
use Rattle.mx_book.specs.commands.Shape.{has_shape}
use Rattle.mx_book.specs.declared.verdict.Verdict.TheVariants.{New}
use Rattle.mx_book.specs.Book.{IsBook}
use Rattle.mx_book.specs.Judge.{judge}
use Rattle.mx_base.specs.declared.rows.rows.BaseRow.{BaseRow}
use Rattle.mx_base.specs.declared.rows.rows.SpanRow.{SpanRow}
use Rattle.mx_base.specs.declared.rows.rows.TotalRow.{TotalRow}
use Rattle.mx_registers.specs.kept.Bases.{bases_by, bases_put}
use Rattle.mx_registers.specs.kept.Spans.{span_ended, spans_opened}
use Rattle.mx_registers.specs.kept.Totals.{total_changed, totals_opened}

-- what rows become with a command, behind the entries before it
abbrev pub Change : Type 0 → Type 0
Change Row = List Entry → Entry → List Row → List Row

-- the rows that the command adds come behind the others
abbrev pub adding : {Row : Type 0} → (List Entry → Act → List Row) → Change Row
adding by before command rows = rows ++ by before command.act

-- the spans: a removal ends the open one of its component, and a fitting opens one
abbrev pub spans_become : Change SpanRow
spans_become before command rows = map (span_ended before command.act) rows ++ spans_opened before command.act

-- the totals: each grows by what the command gives its item, and an item that it adds has one
abbrev pub totals_become : Change TotalRow
totals_become before command rows = map (total_changed before command.act) rows ++ totals_opened before command.act

-- the last bases: those that the command sets come in place of those of the same tasks of the same items
abbrev pub bases_become : Change BaseRow
bases_become before command rows = bases_put (bases_by before command.act) rows

-- with a new command the rows of the table become these
abbrev pub Becomes : {Row : Type 0} → (List Entry → List Row) → Change Row → Type 0
Becomes rows change = (book : List Entry) (command : Entry) → IsBook book → judge book command ≡ New → has_shape command ≡ true → rows (book ++ command ∷ []) ≡ change book command (rows book)

-- with a new command the rows of the table become these, in some order
abbrev pub BecomesSome : {Row : Type 0} → (List Entry → List Row) → Change Row → Type 0
BecomesSome rows change =
    (book : List Entry) (command : Entry) → IsBook book → judge book command ≡ New → has_shape command ≡ true → IsPermutation (change book command (rows book)) (rows (book ++ command ∷ []))
