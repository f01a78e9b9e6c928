-- The category of a deferred defect: a letter, and the days that category A states.
use Rattle.std.specs.Prelude.{ℕ, List, [], ◌∷◌, codes, Bool, false, not, ◌&&◌, Option, Some, None, is_some, option_map, if◌then◌else◌}
use Rattle.std.specs.Option.{option_map_or}
use Rattle.std.specs.Str.{bytes_eq}
use Rattle.serde_json.specs.Data.{Data}
use Rattle.serde_json.specs.Find.{get}
use Rattle.mx_base.specs.declared.category.Category.{Category}
use Rattle.mx_base.specs.declared.category.Category.TheVariants.{A, B, C, D}
use Rattle.mx_intake.specs.Form.{if_read}
use Rattle.mx_intake.specs.Keys.{is_key, if_there}
use Rattle.mx_intake.specs.Object.{number_of, text_at_key}

-- the category is one of these
abbrev pub names_category : List (List ℕ) → Data → Bool
names_category letters d = option_map_or (is_key letters) (text_at_key (codes "category") d) false

-- the days of a category are stated
abbrev pub states_days : Data → Bool
states_days d = is_some (get (codes "days") d)

-- the days of category A are not stated
abbrev pub lacks_days : Data → Bool
lacks_days d = names_category (codes "A" ∷ []) d && not (states_days d)

-- days are stated beside a category that has days of its own
abbrev pub states_other_days : Data → Bool
states_other_days d = names_category (codes "B" ∷ codes "C" ∷ codes "D" ∷ []) d && states_days d

-- the category that a letter names: A with the days that are stated
abbrev pub category_of : List ℕ → Option ℕ → Option Category
category_of letter days =
    if bytes_eq letter (codes "A") then option_map A days
    else if bytes_eq letter (codes "B") then Some B
    else if bytes_eq letter (codes "C") then Some C
    else if bytes_eq letter (codes "D") then Some D
    else None

-- the category that an object states, where the days beside it can be read
abbrev pub stated_category : Data → Option Category
stated_category d =
    if_read (text_at_key (codes "category") d) (λ letter.
    if_read (if_there number_of (get (codes "days") d)) (λ days.
    category_of letter days))
