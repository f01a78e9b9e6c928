-- The texts that delete the rows in whose place others come: what each is understood as, computed.
use Rattle.std.proofs.Common.{◌≡◌, ◌⊎◌, List, [], ◌∷◌, refl}
use Rattle.std.specs.List.{list_all}
use Rattle.sqlite.specs.Order.{Row, column}
use Rattle.sqlite.specs.Term.{Term, holds}
use Rattle.sqlite.specs.Listing.{understood}
use Rattle.sqlite_sql.specs.declared.ops.CompareOp.TheVariants.{Eq}
use Rattle.sqlite_tied.specs.Compute.{everything}
use Rattle.mx_layout.specs.Contents.{cells}
use Rattle.mx_layout.specs.Tables.{defect, sector2, span2, total2, base2, defect3, done3}
use Rattle.mx_layout.specs.kept.Cells.{kept_span2, kept_total2, kept_base2, kept_defect3, kept_done3}
use Rattle.mx_layout.specs.kept.Kept.{over}
use Rattle.mx_layout.specs.kept.Schemas.{own_2, own_3, own_moving, HasBehind, HasOwn2, HasOwn3}
use Rattle.mx_table_rows.specs.chosen.Choices.{has_value}
use Rattle.mx_table_rows.specs.chosen.Lookups.{Deletes}
use Rattle.mx_table_rows.specs.chosen.Texts.{by_value, by_values, by_four_values}
use Rattle.mx_table_rows.proofs.ChosenProofs.LookupLemmas.{given_at, deleted, either_deletes}
use Rattle.mx_table_rows.proofs.ChosenProofs.EqualLemmas.{one_equal, two_equal, four_equal}
use Rattle.mx_table_rows.specs.totals.InPlace.{span2_gone, total2_gone, base2_gone, defect3_gone, done3_gone, done3_of_task_gone}

pub span2_gone_deletes : Deletes kept_span2 span2_gone (by_value 0)
unfolding understood everything
span2_gone_deletes =
    either_deletes kept_span2 (HasBehind own_moving) (λ s. HasBehind (defect ∷ sector2 ∷ span2 ∷ []) s ⊎ HasBehind (sector2 ∷ span2 ∷ []) s) span2_gone (by_value 0)
    (deleted (over kept_span2 (HasBehind own_moving)) own_moving (λ _ has. has) span2_gone (given_at Eq span2 0 0 ∷ []) (by_value 0) (λ _. refl) (λ _ _. one_equal _ _ refl) 15 (λ _ _. refl) (λ _ _. (refl, (refl, refl))))
    (either_deletes kept_span2 (HasBehind (defect ∷ sector2 ∷ span2 ∷ [])) (HasBehind (sector2 ∷ span2 ∷ [])) span2_gone (by_value 0)
    (deleted (over kept_span2 (HasBehind (defect ∷ sector2 ∷ span2 ∷ []))) (defect ∷ sector2 ∷ span2 ∷ []) (λ _ has. has) span2_gone (given_at Eq span2 0 0 ∷ []) (by_value 0) (λ _. refl) (λ _ _. one_equal _ _ refl) 13 (λ _ _. refl) (λ _ _. (refl, (refl, refl))))
    (deleted (over kept_span2 (HasBehind (sector2 ∷ span2 ∷ []))) (sector2 ∷ span2 ∷ []) (λ _ has. has) span2_gone (given_at Eq span2 0 0 ∷ []) (by_value 0) (λ _. refl) (λ _ _. one_equal _ _ refl) 12 (λ _ _. refl) (λ _ _. (refl, (refl, refl)))))

pub total2_gone_deletes : Deletes kept_total2 total2_gone (by_value 0)
unfolding understood everything
total2_gone_deletes =
    either_deletes kept_total2 (HasBehind (defect ∷ sector2 ∷ span2 ∷ total2 ∷ [])) (HasBehind (sector2 ∷ span2 ∷ total2 ∷ [])) total2_gone (by_value 0)
    (deleted (over kept_total2 (HasBehind (defect ∷ sector2 ∷ span2 ∷ total2 ∷ []))) (defect ∷ sector2 ∷ span2 ∷ total2 ∷ []) (λ _ has. has) total2_gone (given_at Eq total2 0 0 ∷ []) (by_value 0) (λ _. refl) (λ _ _. one_equal _ _ refl) 14 (λ _ _. refl) (λ _ _. (refl, (refl, refl))))
    (deleted (over kept_total2 (HasBehind (sector2 ∷ span2 ∷ total2 ∷ []))) (sector2 ∷ span2 ∷ total2 ∷ []) (λ _ has. has) total2_gone (given_at Eq total2 0 0 ∷ []) (by_value 0) (λ _. refl) (λ _ _. one_equal _ _ refl) 13 (λ _ _. refl) (λ _ _. (refl, (refl, refl))))

pub base2_gone_deletes : Deletes kept_base2 base2_gone (by_values 0 1)
unfolding understood everything
base2_gone_deletes =
    either_deletes kept_base2 HasOwn2 (HasBehind (sector2 ∷ span2 ∷ total2 ∷ base2 ∷ [])) base2_gone (by_values 0 1)
    (deleted (over kept_base2 (HasBehind own_2)) own_2 (λ _ has. has) base2_gone (given_at Eq base2 0 0 ∷ given_at Eq base2 1 1 ∷ []) (by_values 0 1) (λ _. refl) (λ _ _. two_equal _ _ _ refl) 15 (λ _ _. refl) (λ _ _. (refl, (refl, refl))))
    (deleted (over kept_base2 (HasBehind (sector2 ∷ span2 ∷ total2 ∷ base2 ∷ []))) (sector2 ∷ span2 ∷ total2 ∷ base2 ∷ []) (λ _ has. has) base2_gone (given_at Eq base2 0 0 ∷ given_at Eq base2 1 1 ∷ []) (by_values 0 1) (λ _. refl) (λ _ _. two_equal _ _ _ refl) 14 (λ _ _. refl) (λ _ _. (refl, (refl, refl))))

pub defect3_gone_deletes : Deletes kept_defect3 defect3_gone (by_value 0)
unfolding understood everything
defect3_gone_deletes =
    either_deletes kept_defect3 (HasBehind (defect ∷ sector2 ∷ span2 ∷ total2 ∷ base2 ∷ defect3 ∷ [])) (λ s. HasBehind (sector2 ∷ span2 ∷ total2 ∷ base2 ∷ defect3 ∷ []) s ⊎ HasBehind (sector2 ∷ span2 ∷ total2 ∷ defect3 ∷ []) s) defect3_gone (by_value 0)
    (deleted (over kept_defect3 (HasBehind (defect ∷ sector2 ∷ span2 ∷ total2 ∷ base2 ∷ defect3 ∷ []))) (defect ∷ sector2 ∷ span2 ∷ total2 ∷ base2 ∷ defect3 ∷ []) (λ _ has. has) defect3_gone (given_at Eq defect3 0 0 ∷ []) (by_value 0) (λ _. refl) (λ _ _. one_equal _ _ refl) 16 (λ _ _. refl) (λ _ _. (refl, (refl, refl))))
    (either_deletes kept_defect3 (HasBehind (sector2 ∷ span2 ∷ total2 ∷ base2 ∷ defect3 ∷ [])) (HasBehind (sector2 ∷ span2 ∷ total2 ∷ defect3 ∷ [])) defect3_gone (by_value 0)
    (deleted (over kept_defect3 (HasBehind (sector2 ∷ span2 ∷ total2 ∷ base2 ∷ defect3 ∷ []))) (sector2 ∷ span2 ∷ total2 ∷ base2 ∷ defect3 ∷ []) (λ _ has. has) defect3_gone (given_at Eq defect3 0 0 ∷ []) (by_value 0) (λ _. refl) (λ _ _. one_equal _ _ refl) 15 (λ _ _. refl) (λ _ _. (refl, (refl, refl))))
    (deleted (over kept_defect3 (HasBehind (sector2 ∷ span2 ∷ total2 ∷ defect3 ∷ []))) (sector2 ∷ span2 ∷ total2 ∷ defect3 ∷ []) (λ _ has. has) defect3_gone (given_at Eq defect3 0 0 ∷ []) (by_value 0) (λ _. refl) (λ _ _. one_equal _ _ refl) 14 (λ _ _. refl) (λ _ _. (refl, (refl, refl)))))

-- the tests of the key of an accomplishment
abbrev done_tests : List Term
done_tests = given_at Eq done3 0 0 ∷ given_at Eq done3 1 1 ∷ given_at Eq done3 2 2 ∷ given_at Eq done3 3 3 ∷ []

done_picks : (values r : Row) → list_all (holds (values ∷ r ∷ [])) done_tests ≡ by_four_values values (cells done3 r)
unfolding understood everything
done_picks values r =
    four_equal (has_value 0 (column values 0) (cells done3 r)) (has_value 1 (column values 1) (cells done3 r)) (has_value 2 (column values 2) (cells done3 r)) (has_value 3 (column values 3) (cells done3 r)) (by_four_values values (cells done3 r)) refl

pub done3_gone_deletes : Deletes kept_done3 done3_gone by_four_values
unfolding understood everything
done3_gone_deletes =
    either_deletes kept_done3 (HasBehind (sector2 ∷ span2 ∷ total2 ∷ base2 ∷ defect3 ∷ done3 ∷ [])) HasOwn3 done3_gone by_four_values
    (deleted (over kept_done3 (HasBehind (sector2 ∷ span2 ∷ total2 ∷ base2 ∷ defect3 ∷ done3 ∷ []))) (sector2 ∷ span2 ∷ total2 ∷ base2 ∷ defect3 ∷ done3 ∷ []) (λ _ has. has) done3_gone done_tests by_four_values (λ _. refl) done_picks 16 (λ _ _. refl) (λ _ _. (refl, (refl, refl))))
    (deleted (over kept_done3 (HasBehind own_3)) own_3 (λ _ has. has) done3_gone done_tests by_four_values (λ _. refl) done_picks 15 (λ _ _. refl) (λ _ _. (refl, (refl, refl))))

pub done3_of_task_gone_deletes : Deletes kept_done3 done3_of_task_gone (by_values 0 1)
unfolding understood everything
done3_of_task_gone_deletes =
    either_deletes kept_done3 (HasBehind (sector2 ∷ span2 ∷ total2 ∷ base2 ∷ defect3 ∷ done3 ∷ [])) HasOwn3 done3_of_task_gone (by_values 0 1)
    (deleted (over kept_done3 (HasBehind (sector2 ∷ span2 ∷ total2 ∷ base2 ∷ defect3 ∷ done3 ∷ []))) (sector2 ∷ span2 ∷ total2 ∷ base2 ∷ defect3 ∷ done3 ∷ []) (λ _ has. has) done3_of_task_gone (given_at Eq done3 0 0 ∷ given_at Eq done3 1 1 ∷ []) (by_values 0 1) (λ _. refl) (λ _ _. two_equal _ _ _ refl) 16 (λ _ _. refl) (λ _ _. (refl, (refl, refl))))
    (deleted (over kept_done3 (HasBehind own_3)) own_3 (λ _ has. has) done3_of_task_gone (given_at Eq done3 0 0 ∷ given_at Eq done3 1 1 ∷ []) (by_values 0 1) (λ _. refl) (λ _ _. two_equal _ _ _ refl) 15 (λ _ _. refl) (λ _ _. (refl, (refl, refl))))
