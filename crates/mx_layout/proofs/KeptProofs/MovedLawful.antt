-- The law of each table that the moves to layout 2 and to layout 3 make, by the same means.
use Rattle.std.proofs.Common.{◌⊎◌, [], ◌∷◌, refl}
use Rattle.sqlite.specs.Listing.{understood}
use Rattle.sqlite_tied.specs.Compute.{everything}
use Rattle.mx_layout.specs.Tables.{defect, sector1, fit1, removal1, sector2, span2, total2, base2, defect3, done3}
use Rattle.mx_layout.proofs.RowLemmas.{cast_int, cast_null}
use Rattle.mx_layout.specs.kept.Cells
use Rattle.mx_layout.specs.kept.Meanings.{IsLawful}
use Rattle.mx_layout.specs.kept.Schemas.{own_2, own_3, own_moving, HasBehind, HasOwn2, HasOwn3}
use Rattle.mx_layout.proofs.KeptProofs.Lawful.{category_of, category_back}
use Rattle.mx_layout.proofs.KeptProofs.OrderLemmas.{first_part_ascends, first_of_four_ascends}
use Rattle.mx_layout.proofs.KeptProofs.ValueLemmas.{cast-number_or_null, number_at, number_if_at, text_at, limit_at, number_back, limit_back}
use Rattle.mx_layout.proofs.KeptProofs.KeptLemmas.{TellsApart, told_apart, first_keyed, two_keyed, four_keyed, either_lawful}
use Rattle.mx_layout.proofs.KeptProofs.HeldLemmas.{held_lawful}

sector2_apart : TellsApart Cells.kept_sector2
sector2_apart = told_apart (λ row. record { seq = number_at row 0; aircraft = number_at row 1; page = number_at row 2; line = number_at row 3; took_off = number_at row 4; landed = number_at row 5; cycles = number_at row 6 }) (λ _. refl)

pub sector2_lawful : IsLawful Cells.kept_sector2
unfolding understood everything
sector2_lawful = either_lawful Cells.kept_sector2 (HasBehind (defect ∷ sector1 ∷ fit1 ∷ removal1 ∷ sector2 ∷ [])) (λ s. HasBehind own_moving s ⊎ (HasBehind (defect ∷ sector2 ∷ []) s ⊎ HasBehind (sector2 ∷ []) s))
    (first_keyed Cells.kept_sector2 (defect ∷ sector1 ∷ fit1 ∷ removal1 ∷ sector2 ∷ []) 15 (λ _ _. refl) (λ _ _. simp (cast_int, cast_null) refl) (λ _. refl) sector2_apart)
    (either_lawful Cells.kept_sector2 (HasBehind own_moving) (λ s. HasBehind (defect ∷ sector2 ∷ []) s ⊎ HasBehind (sector2 ∷ []) s)
    (first_keyed Cells.kept_sector2 own_moving 14 (λ _ _. refl) (λ _ _. simp (cast_int, cast_null) refl) (λ _. refl) sector2_apart)
    (either_lawful Cells.kept_sector2 (HasBehind (defect ∷ sector2 ∷ [])) (HasBehind (sector2 ∷ []))
    (first_keyed Cells.kept_sector2 (defect ∷ sector2 ∷ []) 12 (λ _ _. refl) (λ _ _. simp (cast_int, cast_null) refl) (λ _. refl) sector2_apart)
    (first_keyed Cells.kept_sector2 (sector2 ∷ []) 11 (λ _ _. refl) (λ _ _. simp (cast_int, cast_null) refl) (λ _. refl) sector2_apart)))

-- sectors of `sector2` by the type of its rows
pub sector2_row_lawful : IsLawful Cells.kept_sector2_rows
sector2_row_lawful = held_lawful Cells.kept_sector2 (λ r. r.sector) (λ sector. record { sector = sector }) (λ _. refl) (λ a b same i. record { sector = same i }) sector2_lawful

span2_apart : TellsApart Cells.kept_span2
span2_apart =
    told_apart (λ row. record { fit_seq = number_at row 0; component = number_at row 1; aircraft = number_at row 2; position = text_at row 3; from = number_at row 4; remove_seq = number_if_at row 5; to = number_if_at row 6 })
    (λ r i. record { fit_seq = r.fit_seq; component = r.component; aircraft = r.aircraft; position = r.position; from = r.from; remove_seq = number_back r.remove_seq i; to = number_back r.to i })

pub span2_lawful : IsLawful Cells.kept_span2
unfolding understood everything
span2_lawful = either_lawful Cells.kept_span2 (HasBehind own_moving) (λ s. HasBehind (defect ∷ sector2 ∷ span2 ∷ []) s ⊎ HasBehind (sector2 ∷ span2 ∷ []) s)
    (first_keyed Cells.kept_span2 own_moving 15 (λ _ _. refl) (λ _ _. simp (cast_int, cast_null, cast-number_or_null) refl) (λ _. refl) span2_apart)
    (either_lawful Cells.kept_span2 (HasBehind (defect ∷ sector2 ∷ span2 ∷ [])) (HasBehind (sector2 ∷ span2 ∷ []))
    (first_keyed Cells.kept_span2 (defect ∷ sector2 ∷ span2 ∷ []) 13 (λ _ _. refl) (λ _ _. simp (cast_int, cast_null, cast-number_or_null) refl) (λ _. refl) span2_apart)
    (first_keyed Cells.kept_span2 (sector2 ∷ span2 ∷ []) 12 (λ _ _. refl) (λ _ _. simp (cast_int, cast_null, cast-number_or_null) refl) (λ _. refl) span2_apart))

total2_apart : TellsApart Cells.kept_total2
total2_apart = told_apart (λ row. record { item = number_at row 0; life = record { minutes = number_at row 1; cycles = number_at row 2 }; clock = number_at row 3 }) (λ _. refl)

pub total2_lawful : IsLawful Cells.kept_total2
unfolding understood everything
total2_lawful = either_lawful Cells.kept_total2 (HasBehind (defect ∷ sector2 ∷ span2 ∷ total2 ∷ [])) (HasBehind (sector2 ∷ span2 ∷ total2 ∷ []))
    (first_keyed Cells.kept_total2 (defect ∷ sector2 ∷ span2 ∷ total2 ∷ []) 14 (λ _ _. refl) (λ _ _. simp (cast_int, cast_null) refl) (λ _. refl) total2_apart)
    (first_keyed Cells.kept_total2 (sector2 ∷ span2 ∷ total2 ∷ []) 13 (λ _ _. refl) (λ _ _. simp (cast_int, cast_null) refl) (λ _. refl) total2_apart)

base2_apart : TellsApart Cells.kept_base2
base2_apart = told_apart (λ row. record { item = number_at row 0; task = text_at row 1; life = record { minutes = number_at row 2; cycles = number_at row 3 }; day = number_at row 4 }) (λ _. refl)

pub base2_lawful : IsLawful Cells.kept_base2
unfolding understood everything
base2_lawful = either_lawful Cells.kept_base2 HasOwn2 (HasBehind (sector2 ∷ span2 ∷ total2 ∷ base2 ∷ []))
    (two_keyed Cells.kept_base2 own_2 15 (λ _ _. refl) (λ _ _. simp (cast_int, cast_null) refl) (first_part_ascends Cells.kept_base2 (λ _. refl)) base2_apart)
    (two_keyed Cells.kept_base2 (sector2 ∷ span2 ∷ total2 ∷ base2 ∷ []) 14 (λ _ _. refl) (λ _ _. simp (cast_int, cast_null) refl) (first_part_ascends Cells.kept_base2 (λ _. refl)) base2_apart)

-- ── tables of layout 3 ──

defect3_apart : TellsApart Cells.kept_defect3
defect3_apart =
    told_apart (λ row. record { deferral = record { seq = number_at row 0; aircraft = number_at row 1; moment = number_at row 2; reference = text_at row 3; category = category_of (number_at row 4) (number_if_at row 5) }; found_cycles = number_at row 7 })
    (λ r i. record { deferral = record { seq = r.deferral.seq; aircraft = r.deferral.aircraft; moment = r.deferral.moment; reference = r.deferral.reference; category = category_back r.deferral.category i }; found_cycles = r.found_cycles })

pub defect3_lawful : IsLawful Cells.kept_defect3
unfolding understood everything
defect3_lawful = either_lawful Cells.kept_defect3 (HasBehind (defect ∷ sector2 ∷ span2 ∷ total2 ∷ base2 ∷ defect3 ∷ []))
    (λ s. HasBehind (sector2 ∷ span2 ∷ total2 ∷ base2 ∷ defect3 ∷ []) s ⊎ HasBehind (sector2 ∷ span2 ∷ total2 ∷ defect3 ∷ []) s)
    (first_keyed Cells.kept_defect3 (defect ∷ sector2 ∷ span2 ∷ total2 ∷ base2 ∷ defect3 ∷ []) 16 (λ _ _. refl) (λ _ _. simp (cast_int, cast_null, cast-number_or_null) refl) (λ _. refl) defect3_apart)
    (either_lawful Cells.kept_defect3 (HasBehind (sector2 ∷ span2 ∷ total2 ∷ base2 ∷ defect3 ∷ [])) (HasBehind (sector2 ∷ span2 ∷ total2 ∷ defect3 ∷ []))
    (first_keyed Cells.kept_defect3 (sector2 ∷ span2 ∷ total2 ∷ base2 ∷ defect3 ∷ []) 15 (λ _ _. refl) (λ _ _. simp (cast_int, cast_null, cast-number_or_null) refl) (λ _. refl) defect3_apart)
    (first_keyed Cells.kept_defect3 (sector2 ∷ span2 ∷ total2 ∷ defect3 ∷ []) 14 (λ _ _. refl) (λ _ _. simp (cast_int, cast_null, cast-number_or_null) refl) (λ _. refl) defect3_apart))

done3_apart : TellsApart Cells.kept_done3
done3_apart =
    told_apart (λ row. record { item = number_at row 0; task = text_at row 1; seq = number_at row 2; line = number_at row 3; value = record { minutes = number_at row 4; cycles = number_at row 5; day = number_at row 6 }; due = limit_at row 7; base = record { minutes = number_at row 10; cycles = number_at row 11; day = number_at row 12 } })
    (λ r i. record { item = r.item; task = r.task; seq = r.seq; line = r.line; value = r.value; due = limit_back r.due i; base = r.base })

pub done3_lawful : IsLawful Cells.kept_done3
unfolding understood everything
done3_lawful = either_lawful Cells.kept_done3 (HasBehind (sector2 ∷ span2 ∷ total2 ∷ base2 ∷ defect3 ∷ done3 ∷ [])) HasOwn3
    (four_keyed Cells.kept_done3 (sector2 ∷ span2 ∷ total2 ∷ base2 ∷ defect3 ∷ done3 ∷ []) 16 (λ _ _. refl) (λ _ _. simp (cast_int, cast_null, cast-number_or_null) refl) (first_of_four_ascends Cells.kept_done3 (λ _. refl)) done3_apart)
    (four_keyed Cells.kept_done3 own_3 15 (λ _ _. refl) (λ _ _. simp (cast_int, cast_null, cast-number_or_null) refl) (first_of_four_ascends Cells.kept_done3 (λ _. refl)) done3_apart)
