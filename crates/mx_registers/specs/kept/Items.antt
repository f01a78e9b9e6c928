-- The items of a book, by the numbers of the entries that added them.
use Rattle.std.specs.Prelude.{ℕ, List, []}
use Rattle.mx_book.specs.commands.Act.{Act, Entry}
use Rattle.mx_book.specs.declared.commands.item.Item.{Item}
use Rattle.mx_book.specs.declared.commands.release.Place.{Place}
use Rattle.mx_book.specs.Judge.{item_at as item_of_place}
use Rattle.mx_registers.specs.Names.{item_added, or_zero, seq_of_item, seq_of_serial, seq_of_tail}
use Rattle.mx_registers.specs.Registers.{gives_by, if_any, next}

-- the item that an entry adds, with the number of the entry
abbrev pub items_by : List Entry → Act → List (ℕ × Item)
items_by before act = if_any (λ item. (next before, item)) (item_added act)

-- the items of a book, each with the number of the entry that added it
abbrev pub items : List Entry → List (ℕ × Item)
items book = gives_by items_by [] book

-- the number of the aircraft with a registration
abbrev pub number_of_tail : List Entry → List ℕ → ℕ
number_of_tail book tail = or_zero (seq_of_tail book tail)

-- the number of the component with a serial number
abbrev pub number_of_serial : List Entry → List ℕ → ℕ
number_of_serial book serial = or_zero (seq_of_serial book serial)

-- the number of an item
abbrev pub number_of_item : List Entry → Item → ℕ
number_of_item book item = or_zero (seq_of_item book item)

-- the number of the place of a release: of the aircraft, or of the component in the shop
abbrev pub number_of_place : List Entry → Place → ℕ
number_of_place book place = number_of_item book (item_of_place place)
