-- The texts about the fittings and removals of a component: what each is understood as, computed.
use Rattle.std.proofs.Common.{List, [], ◌∷◌, ◌++◌, ℕ, ◌≡◌, Some, slice_get, refl}
use Rattle.sqlite.specs.Table.{Table}
use Rattle.sqlite.specs.Listing.{understood}
use Rattle.sqlite_schema.specs.declared.schema.Index.{Index}
use Rattle.sqlite_sql.specs.declared.ops.CompareOp.TheVariants.{Eq}
use Rattle.sqlite_tied.specs.Compute.{everything}
use Rattle.mx_layout.specs.Tables.{fit1, removal1}
use Rattle.mx_layout.specs.kept.Cells.{kept_fit1, kept_removal1}
use Rattle.mx_layout.specs.kept.Kept.{over}
use Rattle.mx_layout.specs.kept.Schemas.{HasBehind, HasOwn1, own_1, own_moving, permanent}
use Rattle.mx_table_rows.specs.chosen.Lookups.{Deletes, Finds}
use Rattle.mx_table_rows.specs.chosen.Texts.{by_value}
use Rattle.mx_table_rows.proofs.ChosenProofs.EqualLemmas.{one_equal}
use Rattle.mx_table_rows.proofs.ChosenProofs.LookupLemmas.{Chooses, Drops, deleted, either_deletes, either_finds, first_found, given_at}
use Rattle.mx_moves.specs.Texts.{fit1_by_component, removal1_by_component, removal1_gone}
use Rattle.std.specs.Prelude.{None}

fittings_in : (own : List Table) → ((rest : List Table) (more : List Index) → Chooses (permanent (own ++ rest) more) fit1_by_component fit1 (given_at Eq fit1 1 0 ∷ [])) → Finds (over kept_fit1 (HasBehind own)) fit1_by_component (by_value 1)
fittings_in own texts = first_found (over kept_fit1 (HasBehind own)) own (λ _ has. has) fit1_by_component (given_at Eq fit1 1 0 ∷ []) (by_value 1) (λ _. refl) (λ _ _. one_equal _ _ refl) refl texts (λ _. refl) (λ _ _. refl)

pub fittings_find : Finds kept_fit1 fit1_by_component (by_value 1)
unfolding understood everything
fittings_find = either_finds kept_fit1 HasOwn1 (HasBehind own_moving) fit1_by_component None kept_fit1.order (by_value 1) (fittings_in own_1 (λ _ _. (refl, refl, (refl, refl)))) (fittings_in own_moving (λ _ _. (refl, refl, (refl, refl))))

removals_in : (own : List Table) → ((rest : List Table) (more : List Index) → Chooses (permanent (own ++ rest) more) removal1_by_component removal1 (given_at Eq removal1 1 0 ∷ [])) → Finds (over kept_removal1 (HasBehind own)) removal1_by_component (by_value 1)
removals_in own texts = first_found (over kept_removal1 (HasBehind own)) own (λ _ has. has) removal1_by_component (given_at Eq removal1 1 0 ∷ []) (by_value 1) (λ _. refl) (λ _ _. one_equal _ _ refl) refl texts (λ _. refl) (λ _ _. refl)

pub removals_find : Finds kept_removal1 removal1_by_component (by_value 1)
unfolding understood everything
removals_find = either_finds kept_removal1 HasOwn1 (HasBehind own_moving) removal1_by_component None kept_removal1.order (by_value 1) (removals_in own_1 (λ _ _. (refl, refl, (refl, refl)))) (removals_in own_moving (λ _ _. (refl, refl, (refl, refl))))

gone_in : (own : List Table) (at : ℕ) → ((rest : List Table) (more : List Index) → slice_get (permanent (own ++ rest) more).tables at ≡ Some removal1)
    → ((rest : List Table) (more : List Index) → Drops (permanent (own ++ rest) more) removal1_gone at removal1 (given_at Eq removal1 1 0 ∷ [])) → Deletes (over kept_removal1 (HasBehind own)) removal1_gone (by_value 1)
gone_in own at there texts = deleted (over kept_removal1 (HasBehind own)) own (λ _ has. has) removal1_gone (given_at Eq removal1 1 0 ∷ []) (by_value 1) (λ _. refl) (λ _ _. one_equal _ _ refl) at there texts

pub removals_gone : Deletes kept_removal1 removal1_gone (by_value 1)
unfolding understood everything
removals_gone = either_deletes kept_removal1 HasOwn1 (HasBehind own_moving) removal1_gone (by_value 1) (gone_in own_1 14 (λ _ _. refl) (λ _ _. (refl, (refl, refl)))) (gone_in own_moving 13 (λ _ _. refl) (λ _ _. (refl, (refl, refl))))
