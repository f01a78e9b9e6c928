-- What an object of JSON has at its keys.
use Rattle.std.specs.Prelude.{ℕ, List, [], ◌∷◌, Bool, false, not, ◌||◌, Option, Some, is_some, option_map, option_and_then}
use Rattle.std.specs.List.{list_any}
use Rattle.std.specs.Option.{option_map_or}
use Rattle.serde_json.specs.Data.{Data, null, boolean, number, string, array, object, Items, no_items, item, Members, no_members, member}
use Rattle.serde_json.specs.Find.{get, as_number, as_u64, as_str, as_array}
use Rattle.mx_intake.specs.Keys.{is_key, if_small}

-- one of the keys is missing
abbrev pub lacks_key : List (List ℕ) → Data → Bool
lacks_key keys d = list_any (λ key. not (is_some (get key d))) keys

-- a member has a key that is none of these
abbrev pub has_other_member : List (List ℕ) → Members → Bool
has_other_member keys no_members = false
has_other_member keys (member key d ms) = not (is_key keys key) || has_other_member keys ms

-- the object has a key that is none of these
abbrev pub has_other_key : List (List ℕ) → Data → Bool
has_other_key keys (object ms) = has_other_member keys ms
has_other_key keys null = false
has_other_key keys (boolean b) = false
has_other_key keys (number n) = false
has_other_key keys (string s) = false
has_other_key keys (array ds) = false

-- the number that a value is: whole, written without a fraction or an exponent, and below 2 ^ 32
abbrev pub number_of : Data → Option ℕ
number_of d = option_and_then if_small (option_and_then as_u64 (as_number d))

-- the number at a key
abbrev pub number_at_key : List ℕ → Data → Option ℕ
number_at_key key d = option_and_then number_of (get key d)

-- the text at a key
abbrev pub text_at_key : List ℕ → Data → Option (List ℕ)
text_at_key key d = option_and_then as_str (get key d)

-- the list at a key
abbrev pub list_at_key : List ℕ → Data → Option Items
list_at_key key d = option_and_then as_array (get key d)

-- a value of the list passes the test
abbrev pub any_item : (Data → Bool) → Items → Bool
any_item test no_items = false
any_item test (item d ds) = test d || any_item test ds

-- a value of the list at a key passes the test
abbrev pub any_at_key : List ℕ → (Data → Bool) → Data → Bool
any_at_key key test d = option_map_or (any_item test) (list_at_key key d) false

-- what the values of a list state, where each can be read
abbrev pub stated_all : {A : Type 0} → (Data → Option A) → Items → Option (List A)
stated_all read no_items = Some []
stated_all read (item d ds) = option_and_then (λ a. option_map (λ more. a ∷ more) (stated_all read ds)) (read d)
