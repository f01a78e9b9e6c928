-- The words of a deferred defect, in a due list and among the limits.
use Rattle.std.specs.Prelude.{ℕ, ℤ, List, [], ◌∷◌, ◌++◌, codes, encode_utf8, unsigned_abs}
use Rattle.std.specs.Fmt.{signed_decimal}
use Rattle.mx_base.specs.Texts.{day_number_text}
use Rattle.mx_reports.specs.Words.{spaced}

-- DOC LETTER REFERENCE: the document that deferred it, the letter of its category, and the item of the minimum equipment list
unfoldable pub defect_words : List ℕ → ℕ → List ℕ → List ℕ
defect_words doc letter reference = spaced doc ++ (spaced (encode_utf8 letter) ++ spaced reference)

-- last=DAY left=N: the last day, later where that is past the calendar, and the days that are left until then
unfoldable pub until_line : ℤ → ℤ → List ℕ
until_line last left = codes " last=" ++ (day_number_text (unsigned_abs last) ++ (codes " left=" ++ (signed_decimal left ++ 10 ∷ [])))
