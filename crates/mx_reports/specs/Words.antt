-- Words of a line.
use Rattle.std.specs.Prelude.{◌≡◌, ℕ, List, [], ◌∷◌, ◌++◌, codes, take, length, pos}
use Rattle.std.specs.Fmt.{decimal}
use Rattle.mx_base.specs.Texts.{hours_text}
use Rattle.mx_base.specs.declared.amounts.Status.{Status}
use Rattle.mx_base.specs.declared.amounts.Status.TheVariants as statuses
use Rattle.mx_base.specs.declared.amounts.Use.{Use}

-- a word behind a space
abbrev pub spaced : List ℕ → List ℕ
spaced word = 32 ∷ word

-- how a row stands
unfoldable pub status_word : Status → List ℕ
status_word statuses.Overdue = codes "OVERDUE"
status_word statuses.Due = codes "DUE"
status_word statuses.Ok = codes "OK"

-- hours and cycles
abbrev pub use_words : Use → List ℕ
use_words u = spaced (hours_text (pos u.minutes)) ++ spaced (decimal u.cycles)

-- the last line of a list, with the number of its rows
abbrev pub end_line : ℕ → List ℕ
end_line rows = codes "end" ++ (spaced (decimal rows) ++ 10 ∷ [])

-- one text begins with another
abbrev pub StartsWith : List ℕ → List ℕ → Type 0
StartsWith text longer = take (length text) longer ≡ text
