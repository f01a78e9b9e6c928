-- The two texts of a table, by its name, its columns and its key.
use Rattle.std.specs.Prelude.{ℕ, List, [], ◌∷◌, ◌++◌, map, take, length, codes, ◌+◌, nat_lt, if◌then◌else◌}
use Rattle.std.specs.List.{range_with_len}
use Rattle.sqlite.specs.Table.{Table}
use Rattle.sqlite_schema.specs.declared.schema.Column.{Column}
use Rattle.mx_base.specs.Texts.{two_digits}

-- texts with a comma between two
abbrev pub listed : List (List ℕ) → List ℕ
listed [] = []
listed (text ∷ []) = text
listed (text ∷ next ∷ more) = text ++ codes ", " ++ listed (next ∷ more)

-- the names of the columns of a table
abbrev pub column_names : Table → List (List ℕ)
column_names table = map (λ (c : Column). c.name) table.columns

-- the place of a value of an insert, from 1, of at most 99
abbrev pub place_text : ℕ → List ℕ
place_text at = codes "?" ++ (if nat_lt at 10 then (48 + at) ∷ [] else two_digits at)

-- the text that shows all rows of a table, in the order of its key
abbrev pub select_text : Table → List ℕ
select_text table =
    codes "SELECT " ++ listed (column_names table) ++ codes " FROM " ++ table.name ++ codes " ORDER BY "
    ++ listed (take (length table.primary) (column_names table))

-- the text that adds a row to it, of values in the order of the columns
abbrev pub insert_text : Table → List ℕ
insert_text table =
    codes "INSERT INTO " ++ table.name ++ codes " (" ++ listed (column_names table) ++ codes ") VALUES ("
    ++ listed (map place_text (range_with_len 1 (length table.columns))) ++ codes ")"
