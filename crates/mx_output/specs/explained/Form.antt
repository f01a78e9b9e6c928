-- The form of an explanation.
use Rattle.std.specs.Prelude.{ℕ, ◌-◌, ◌==◌, List, [], ◌∷◌, ◌++◌, ◌&&◌, ◌||◌, Bool, true, false, nat_lt, nat_le, if◌then◌else◌, codes, length, drop, count_by}
use Rattle.std.specs.List.{starts_with}
use Rattle.std.specs.Str.{bytes_eq}

-- each line of a text has at most 80 bytes, and the first no more than there is room for
abbrev pub has_short_lines : ℕ → List ℕ → Bool
has_short_lines room [] = true
has_short_lines room (byte ∷ text) = ((byte == 10) || nat_lt 0 room) && has_short_lines (if byte == 10 then 80 else room - 1) text

-- a text has the part somewhere
abbrev pub has_part : List ℕ → List ℕ → Bool
has_part part [] = false
has_part part (byte ∷ text) = starts_with (λ x y. x == y) (byte ∷ text) part || has_part part text

-- the last line of a text has its end
abbrev pub ends_its_line : List ℕ → Bool
ends_its_line text = bytes_eq (drop (length text - 1) text) (10 ∷ [])

-- a text explains this: it begins with it and a blank, has up to three lines of up to 80 bytes, the last one with its end, and one that says what to do
abbrev pub is_explanation : List ℕ → List ℕ → Bool
is_explanation what text =
    starts_with (λ x y. x == y) text (what ++ 32 ∷ [])
    && (has_short_lines 80 text && (nat_le (count_by (λ byte. byte == 10) text) 3 && (ends_its_line text && has_part (codes "\nWhat to do: ") text)))
