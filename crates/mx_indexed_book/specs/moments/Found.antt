-- The deferrals with the cycles at which they were found, by their rows.
use Rattle.std.specs.Prelude.{ℕ, List}
use Rattle.std.specs.Option.{option_and_then}
use Rattle.mx_base.specs.declared.rows.rows.DeferralRow.{DeferralRow}
use Rattle.mx_base.specs.declared.rows.rows.Deferral3Row.{Deferral3Row}
use Rattle.mx_book.specs.commands.Act.{Entry}
use Rattle.mx_book.specs.Life.{life_at, use_or_none}
use Rattle.mx_registers.specs.Names.{item_at}

-- the cycles that the item with a number had reached at a moment: 0 where the book has no such item
abbrev pub cycles_reached : List Entry → ℕ → ℕ → ℕ
cycles_reached book number moment = (use_or_none (option_and_then (λ item. life_at book item moment) (item_at book number))).cycles

-- the row of a deferral with the cycles at which the defect was found
abbrev pub found_row : List Entry → DeferralRow → Deferral3Row
found_row book d = record { deferral = d; found_cycles = cycles_reached book d.aircraft d.moment }
