-- The item that an object names: an airframe by its registration, or a component by its serial number.
use Rattle.std.specs.Prelude.{Bool, not, ◌&&◌, Option, Some, is_some, option_map, codes, if◌then◌else◌}
use Rattle.serde_json.specs.Data.{Data}
use Rattle.serde_json.specs.Find.{get}
use Rattle.mx_book.specs.declared.commands.item.Item.{Item}
use Rattle.mx_book.specs.declared.commands.item.Item.TheVariants.{Airframe, Component}
use Rattle.mx_intake.specs.Form.{if_read}
use Rattle.mx_intake.specs.Vocabulary.{tail_at_key, name_at_key}

-- an airframe is named
abbrev pub names_airframe : Data → Bool
names_airframe d = is_some (get (codes "tail") d)

-- a component is named
abbrev pub names_component : Data → Bool
names_component d = is_some (get (codes "serial") d)

-- no item is named
abbrev pub lacks_item : Data → Bool
lacks_item d = not (names_airframe d) && not (names_component d)

-- an airframe and a component are named
abbrev pub names_two_items : Data → Bool
names_two_items d = names_airframe d && names_component d

-- the airframe that is named
abbrev pub airframe_at_key : Data → Option Item
airframe_at_key d = option_map Airframe (tail_at_key (codes "tail") d)

-- the component that is named
abbrev pub component_at_key : Data → Option Item
component_at_key d = option_map Component (name_at_key (codes "serial") d)

-- the item that is named, where each that is named can be read
abbrev pub item_at_keys : Data → Option Item
item_at_keys d =
    if names_component d then if_read (component_at_key d) (λ component. if names_airframe d then airframe_at_key d else Some component)
    else airframe_at_key d
