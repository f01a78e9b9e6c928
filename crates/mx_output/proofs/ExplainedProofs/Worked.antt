-- What is explained, and the form of an explanation, computed from the definitions.
use Rattle.std.proofs.Common.{refl, ◌≡◌, [], ◌∷◌, ◌++◌, true, false, Some, None, map}
use Rattle.std.specs.Prelude.{codes}
use Rattle.std.specs.List.{flat_map}
use Rattle.std.specs.Option.{option_map}
use Rattle.std.specs.Fmt.{digits}
use Rattle.mx_output.specs.explained.Explained.{explained_words, explanation_of, explanations, first_word, is_explained}
use Rattle.mx_output.specs.explained.Form.{ends_its_line, has_part, has_short_lines, is_explanation}

-- all that is explained, in its order
words : flat_map (λ word. word ++ 32 ∷ []) explained_words
    ≡ codes "10 11 20 21 22 23 24 25 30 31 33 34 35 36 37 38 39 40 41 42 43 44 45 46 47 48 49 52 60 61 62 63 64 65 66 67 68 69 words shape memory store reopen damaged not-ours exists newer older net "
unfolding digits
words = refl

-- a number of a refusal, one of a fault of an input file, and words behind `fault`
known : map is_explained (codes "10" ∷ codes "41" ∷ codes "63" ∷ codes "store" ∷ codes "not-ours" ∷ codes "net" ∷ []) ≡ true ∷ true ∷ true ∷ true ∷ true ∷ true ∷ []
unfolding digits
known = refl

-- numbers that none has, a number and a word written otherwise, and words that don't stand behind `fault`
unknown : map is_explained (codes "32" ∷ codes "50" ∷ codes "041" ∷ codes "41 " ∷ codes "" ∷ codes "Store" ∷ codes "damaged entry" ∷ codes "refused" ∷ []) ≡ false ∷ false ∷ false ∷ false ∷ false ∷ false ∷ false ∷ false ∷ []
unfolding digits
unknown = refl

-- what is found begins with what was asked for
found : map (λ what. option_map first_word (explanation_of what)) (codes "41" ∷ codes "net" ∷ codes "32" ∷ []) ≡ Some (codes "41") ∷ Some (codes "net") ∷ None ∷ []
unfolding explanations
found = refl

-- its text goes on behind that
whole : map (λ what. option_map (is_explanation what) (explanation_of what)) (codes "41" ∷ codes "net" ∷ []) ≡ Some true ∷ Some true ∷ []
unfolding explanations
whole = refl

-- the first word of a text, and of one that is a word
first_words : map first_word (codes "41 The command" ∷ codes "net" ∷ codes "" ∷ []) ≡ codes "41" ∷ codes "net" ∷ [] ∷ []
first_words = refl

formed : is_explanation (codes "9") (codes "9 It rains.\nWhat to do: wait.\n") ≡ true
formed = refl

-- the text of something else, no blank behind the number, nothing that says what to do, four lines, a line without its end
unformed : map (is_explanation (codes "9"))
    (codes "8 It rains.\nWhat to do: wait.\n" ∷ codes "9: It rains.\nWhat to do: wait.\n" ∷ codes "9 It rains. What to do: wait.\n" ∷ codes "9 It\nrains.\nWhat to do: wait\nfor it.\n" ∷ codes "9 It rains.\nWhat to do: wait." ∷ [])
    ≡ false ∷ false ∷ false ∷ false ∷ false ∷ []
unformed = refl

-- lines of as many bytes as there is room for, and of one more
lengths : map (has_short_lines 4) (codes "four\nmore in this one" ∷ codes "fours\n" ∷ []) ≡ true ∷ false ∷ []
lengths = refl

long_line : map (λ line. has_short_lines 80 (codes "9\n" ++ line))
    (codes "12345678901234567890123456789012345678901234567890123456789012345678901234567890\n" ∷ codes "123456789012345678901234567890123456789012345678901234567890123456789012345678901\n" ∷ [])
    ≡ true ∷ false ∷ []
long_line = refl

ends : map ends_its_line (codes "one\n" ∷ codes "one\ntwo" ∷ codes "" ∷ []) ≡ true ∷ false ∷ false ∷ []
ends = refl

parts : map (has_part (codes "rain")) (codes "rain" ∷ codes "it rains" ∷ codes "it rai" ∷ []) ≡ true ∷ true ∷ false ∷ []
parts = refl
