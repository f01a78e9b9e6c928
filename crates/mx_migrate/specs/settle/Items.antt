-- What layout 2 keeps of all items, while it is known: whose it is, and which step it makes due for the next item.
use Rattle.std.specs.Prelude.{◌≡◌, ◌&&◌, ℕ, nat_eq, nat_le, nat_lt, Bool, List, filter, find, Vec, Option, None, Some, IfSome}
use Rattle.std.specs.declared.alloc.Global.{Global}
use Rattle.mx_book.specs.commands.Act.{Entry}
use Rattle.mx_book.specs.Book.{IsBook}
use Rattle.mx_book.specs.declared.limits.TheConstants.{MOST_ENTRIES}
use Rattle.mx_base.specs.declared.rows.rows.BaseRow.{BaseRow}
use Rattle.mx_base.specs.declared.rows.rows.TotalRow.{TotalRow}
use Rattle.mx_verify.specs.derived.Kept.{AreKeptOf}
use Rattle.mx_verify.specs.declared.derived.kept.KeptRows.{KeptRows}
use Rattle.mx_migrate.specs.declared.settle.due.Due.{Due}
use Rattle.mx_migrate.specs.declared.settle.due.Due.TheVariants as due

-- ── whose it is ──

-- the kept rows are those of this book
abbrev pub AreItemsOf : KeptRows → List Entry → Type 0
AreItemsOf kept book = IsBook book × AreKeptOf kept book

-- the kept rows that are known, if any are, are those of this book
abbrev pub Knows : Option KeptRows → List Entry → Type 0
Knows known book = IfSome known (λ kept. AreItemsOf kept book)

-- ── the next item ──

-- the number is behind the mark, and one that an entry can have
abbrev pub is_next : ℕ → ℕ → Bool
is_next mark number = nat_lt mark number && nat_le number MOST_ENTRIES

-- the total of the next item behind a mark, if there is one
abbrev pub next_total : ℕ → List TotalRow → Option TotalRow
next_total mark totals = find (λ row. is_next mark row.item) totals

-- the step behind totals that are written up to a mark: it writes this next one, or where there is none makes the table of last bases
abbrev pub total_by : ℕ → Option TotalRow → Due
total_by mark (Some row) = due.Total (record { mark = mark; row = row })
total_by mark None = due.BaseTable (record { mark = mark })

-- those of these last bases that are of the item with this number
abbrev pub of_item : ℕ → List BaseRow → List BaseRow
of_item item bases = filter (λ (base : BaseRow). nat_eq base.item item) bases

-- the step writes those of these last bases that are of the item with this next total, or where there is none ends the move
abbrev pub IsBasesBy : ℕ → List BaseRow → Option TotalRow → Due → Type 0
IsBasesBy mark bases (Some row) step = (rows : Vec BaseRow Global) × (rows.items ≡ of_item row.item bases) × (step ≡ due.Bases (record { mark = mark; item = row.item; rows = rows }))
IsBasesBy mark bases None step = step ≡ due.End (record { mark = mark })
