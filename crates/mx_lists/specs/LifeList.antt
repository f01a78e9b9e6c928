-- The life list, and what is fitted to an aircraft at its positions.
use Rattle.std.specs.Prelude.{ℕ, List, Bool, Option, filter}
use Rattle.std.specs.List.{filter_map}
use Rattle.std.specs.Option.{option_map}
use Rattle.mx_book.specs.commands.Act.{Entry}
use Rattle.mx_book.specs.declared.commands.item.Item.TheVariants.{Airframe, Component}
use Rattle.mx_book.specs.Register.{aircraft, component}
use Rattle.mx_book.specs.Span.{Span, spans, is_open_on}
use Rattle.mx_book.specs.Life.{life_now, use_or_none}
use Rattle.mx_lists.specs.declared.life_list.FittedPart.{FittedPart}
use Rattle.mx_lists.specs.declared.life_list.LifeList.{LifeList}
use Rattle.mx_lists.specs.Order.{in_order, text_before}

-- the component in a position, with its life
abbrev pub part_in : List Entry → List ℕ → List ℕ → Option FittedPart
part_in book position serial = option_map (λ c. record { position = position; serial = serial; part = c.part; life = use_or_none (life_now book (Component serial)) }) (component book serial)

-- the component of a span, in its position
abbrev pub part_of : List Entry → Span → Option FittedPart
part_of book s = part_in book s.position s.serial

-- one part comes before another: by their positions
abbrev pub part_before : FittedPart → FittedPart → Bool
part_before a b = text_before a.position b.position

-- the components that some entries of the book leave fitted to an aircraft, in the order of their fittings
abbrev pub parts_from : List Entry → List ℕ → List Entry → List FittedPart
parts_from book tail entries = filter_map (part_of book) (filter (is_open_on tail) (spans entries))

-- the components that are fitted to an aircraft, by position
abbrev pub parts : List Entry → List ℕ → List FittedPart
parts book tail = in_order part_before (parts_from book tail book)

-- the life list of an aircraft: its kind, the life of its airframe, and that of each component fitted to it
abbrev pub life_list : List Entry → List ℕ → Option LifeList
life_list book tail = option_map (λ a. record { tail = tail; kind = a.kind; life = use_or_none (life_now book (Airframe tail)); parts = parts book tail }) (aircraft book tail)
