-- The texts of what there is: all aircraft, and all components.
use Rattle.std.specs.Prelude.{ℕ, List, [], ◌∷◌, ◌++◌, codes, length, Option, Some, None}
use Rattle.std.specs.Fmt.{decimal}
use Rattle.std.specs.List.{flat_map}
use Rattle.mx_base.specs.Texts.{moment_text}
use Rattle.mx_lists.specs.declared.inventory.AircraftRow.{AircraftRow}
use Rattle.mx_lists.specs.declared.inventory.ComponentRow.{ComponentRow}
use Rattle.mx_reports.specs.Words.{spaced, use_words, end_line}

-- WORD: the first line of what there is
abbrev pub head_alone : List ℕ → List ℕ
head_alone word = word ++ 10 ∷ []

-- fitted=N open=N: how many components are fitted, and how many defects are open
unfoldable pub count_words : ℕ → ℕ → List ℕ
count_words components defects = codes " fitted=" ++ (decimal components ++ (codes " open=" ++ (decimal defects ++ 10 ∷ [])))

-- TAIL KIND HOURS CYCLES CLOCK, and those
abbrev pub aircraft_line : AircraftRow → List ℕ
aircraft_line r = r.tail ++ (spaced r.kind ++ (use_words r.life ++ (spaced (moment_text r.clock) ++ count_words r.components r.defects)))

-- aircraft; a line for each; end N, where N counts them
abbrev pub aircraft_lines : List AircraftRow → List ℕ
aircraft_lines rows = head_alone (codes "aircraft") ++ (flat_map aircraft_line rows ++ end_line (length rows))

-- TAIL POSITION, or - -: where a component is fitted
unfoldable pub fitted_words : Option (List ℕ × List ℕ) → List ℕ
fitted_words None = codes " - -"
fitted_words (Some place) = spaced place.0 ++ spaced place.1

-- SERIAL PART HOURS CYCLES CLOCK, and those
abbrev pub component_line : ComponentRow → List ℕ
component_line r = r.serial ++ (spaced r.part ++ (use_words r.life ++ (spaced (moment_text r.clock) ++ (fitted_words r.place ++ 10 ∷ []))))

-- components; a line for each; end N, where N counts them
abbrev pub component_lines : List ComponentRow → List ℕ
component_lines rows = head_alone (codes "components") ++ (flat_map component_line rows ++ end_line (length rows))
