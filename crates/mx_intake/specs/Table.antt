-- What a table of TOML has at its keys.
use Rattle.std.specs.Prelude.{ℕ, suc, ℤ, pos, negsuc, List, Bool, false, not, ◌||◌, Option, None, is_some, option_and_then}
use Rattle.std.specs.List.{list_any}
use Rattle.toml.specs.Data.{Data, string, integer, float, boolean, datetime, array, table, Items, no_items, item, Members, no_members, member, get, as_str, as_integer, as_array}
use Rattle.mx_base.specs.Identifier.{is_graphic}
use Rattle.mx_intake.specs.Keys.{is_key, if_small}
use Rattle.mx_intake.specs.Vocabulary.{identifier_of}

-- one of the keys is missing
abbrev pub lacks_key : List (List ℕ) → Data → Bool
lacks_key keys d = list_any (λ key. not (is_some (get key d))) keys

-- a member has a key that is none of these
abbrev pub has_other_member : List (List ℕ) → Members → Bool
has_other_member keys no_members = false
has_other_member keys (member key d ms) = not (is_key keys key) || has_other_member keys ms

-- the table has a key that is none of these
abbrev pub has_other_key : List (List ℕ) → Data → Bool
has_other_key keys (table ms) = has_other_member keys ms
has_other_key keys (string s) = false
has_other_key keys (integer z) = false
has_other_key keys (float x) = false
has_other_key keys (boolean b) = false
has_other_key keys (datetime dt) = false
has_other_key keys (array ds) = false

-- the number, where it is from 0 up to below 2 ^ 32
abbrev pub if_small_integer : ℤ → Option ℕ
if_small_integer (pos n) = if_small n
if_small_integer (negsuc n) = None

-- the number that a value is: whole, and from 0 up to below 2 ^ 32
abbrev pub number_of : Data → Option ℕ
number_of d = option_and_then if_small_integer (as_integer d)

-- the number at a key
abbrev pub number_at_key : List ℕ → Data → Option ℕ
number_at_key key d = option_and_then number_of (get key d)

-- the text at a key
abbrev pub text_at_key : List ℕ → Data → Option (List ℕ)
text_at_key key d = option_and_then as_str (get key d)

-- the kind or the task at a key
abbrev pub name_at_key : List ℕ → Data → Option (List ℕ)
name_at_key key d = option_and_then (identifier_of is_graphic 16) (text_at_key key d)

-- the list at a key
abbrev pub list_at_key : List ℕ → Data → Option Items
list_at_key key d = option_and_then as_array (get key d)

-- how many values a list has
abbrev pub items_len : Items → ℕ
items_len no_items = 0
items_len (item d ds) = suc (items_len ds)
