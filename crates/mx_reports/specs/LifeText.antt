-- The text of a life list.
use Rattle.std.specs.Prelude.{ℕ, ◌+◌, List, [], ◌∷◌, ◌++◌, codes, length}
use Rattle.std.specs.List.{flat_map}
use Rattle.mx_lists.specs.declared.life_list.FittedPart.{FittedPart}
use Rattle.mx_lists.specs.declared.life_list.LifeList.{LifeList}
use Rattle.mx_reports.specs.Words.{spaced, use_words, end_line}

-- life TAIL; airframe KIND HOURS CYCLES
abbrev pub head_lines : LifeList → List ℕ
head_lines l = codes "life" ++ (spaced l.tail ++ 10 ∷ (codes "airframe" ++ (spaced l.kind ++ (use_words l.life ++ 10 ∷ []))))

-- part POSITION SERIAL PART HOURS CYCLES
abbrev pub part_line : FittedPart → List ℕ
part_line p = codes "part" ++ (spaced p.position ++ (spaced p.serial ++ (spaced p.part ++ (use_words p.life ++ 10 ∷ []))))

-- the lines of the aircraft and its airframe; a line for each part; end N, where N counts the lines between the first and the last
abbrev pub life_lines : LifeList → List ℕ
life_lines l = head_lines l ++ (flat_map part_line l.parts ++ end_line (1 + length l.parts))
