-- Worked rows of the tables that a move makes: each value in the column that the page of the file has it in, all of a row different.
use Rattle.std.proofs.Common.{refl, ◌≡◌, [], ◌∷◌, None, Some}
use Rattle.std.specs.Prelude.{codes, pos}
use Rattle.sqlite.specs.declared.types.Value.TheVariants.{Int, Null, Text}
use Rattle.mx_layout.specs.kept.Cells.{kept_base2, kept_sector2, kept_span2, kept_total2}

sector_as_kept : kept_sector2.as_cells (record { seq = 5; aircraft = 1; page = 12; line = 3; took_off = 28487520; landed = 28487610; cycles = 2 })
    ≡ Int (pos 5) ∷ Int (pos 1) ∷ Int (pos 12) ∷ Int (pos 3) ∷ Int (pos 28487520) ∷ Int (pos 28487610) ∷ Int (pos 2) ∷ []
sector_as_kept = refl

span_as_kept : kept_span2.as_cells (record { fit_seq = 4; component = 2; aircraft = 1; position = codes "ENG"; from = 28445760; remove_seq = Some 6; to = Some 28487610 })
    ≡ Int (pos 4) ∷ Int (pos 2) ∷ Int (pos 1) ∷ Text (codes "ENG") ∷ Int (pos 28445760) ∷ Int (pos 6) ∷ Int (pos 28487610) ∷ []
span_as_kept = refl

-- while it is fitted it has no end
open_span_as_kept : kept_span2.as_cells (record { fit_seq = 4; component = 2; aircraft = 1; position = codes "ENG"; from = 28445760; remove_seq = None; to = None })
    ≡ Int (pos 4) ∷ Int (pos 2) ∷ Int (pos 1) ∷ Text (codes "ENG") ∷ Int (pos 28445760) ∷ Null ∷ Null ∷ []
open_span_as_kept = refl

total_as_kept : kept_total2.as_cells (record { item = 2; life = record { minutes = 60090; cycles = 801 }; clock = 28487610 })
    ≡ Int (pos 2) ∷ Int (pos 60090) ∷ Int (pos 801) ∷ Int (pos 28487610) ∷ []
total_as_kept = refl

base_as_kept : kept_base2.as_cells (record { item = 2; task = codes "OVERHAUL"; life = record { minutes = 54000; cycles = 700 }; day = 19783 })
    ≡ Int (pos 2) ∷ Text (codes "OVERHAUL") ∷ Int (pos 54000) ∷ Int (pos 700) ∷ Int (pos 19783) ∷ []
base_as_kept = refl
