-- Worked examples of what is fitted to an aircraft, and of life lists.
use Rattle.std.proofs.Common.{refl, ◌≡◌, List, [], ◌∷◌, Some, None}
use Rattle.std.specs.Prelude.{codes}
use Rattle.mx_book.proofs.Worked.{used, abcd, first_two}
use Rattle.mx_book.proofs.WorkedFittings.{efgh, engine, propeller, e1, e2, replaced, two_parts, without_engine, on_another}
use Rattle.mx_lists.specs.declared.life_list.FittedPart.{FittedPart}
use Rattle.mx_lists.specs.declared.life_list.LifeList.{LifeList}
use Rattle.mx_lists.specs.Fitted.{fitted_on}
use Rattle.mx_lists.specs.LifeList.{life_list}

-- ── what is fitted, by places ──

-- two components in the order of their fittings, and none behind the removals
fitted_two : fitted_on abcd two_parts ≡ (propeller, codes "P1") ∷ (engine, e1) ∷ []
fitted_two = refl

fitted_none : fitted_on abcd without_engine ≡ []
fitted_none = refl

fitted_on_another : fitted_on efgh on_another ≡ (engine, e1) ∷ []
fitted_on_another = refl

-- ── life lists ──

no_list : life_list first_two (codes "D-NONE") ≡ None
no_list = refl

-- that of the aircraft with these parts
abbrev with_parts : List FittedPart → LifeList
with_parts parts = record { tail = abcd; kind = codes "C172"; life = used 60090 801; parts = parts }

listed : life_list first_two abcd ≡ Some (with_parts [])
listed = refl

-- the part in its position
listed_part : life_list replaced abcd ≡ Some (with_parts (record { position = engine; serial = e2; part = codes "IO360"; life = used 1000 100 } ∷ []))
listed_part = refl

-- two parts, fitted in the other order than that of their positions
listed_by_position : life_list two_parts abcd ≡ Some (with_parts (record { position = engine; serial = e1; part = codes "IO360"; life = used 1090 101 }
    ∷ record { position = propeller; serial = codes "P1"; part = codes "HC2"; life = used 590 51 } ∷ []))
listed_by_position = refl
