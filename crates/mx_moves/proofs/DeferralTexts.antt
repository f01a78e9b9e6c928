-- The texts about deferrals: what each is understood as, computed.
use Rattle.std.proofs.Common.{Some, [], ◌∷◌, refl}
use Rattle.sqlite.specs.Listing.{understood}
use Rattle.sqlite_sql.specs.declared.ops.CompareOp.TheVariants.{Le}
use Rattle.sqlite_tied.specs.Compute.{everything}
use Rattle.mx_layout.specs.Tables.{defect}
use Rattle.mx_layout.specs.kept.Cells.{kept_defect}
use Rattle.mx_table_rows.specs.chosen.Lookups.{Deletes, FindsFirst}
use Rattle.mx_table_rows.specs.chosen.Texts.{any_row, up_to}
use Rattle.mx_table_rows.proofs.ChosenProofs.EqualLemmas.{one_equal}
use Rattle.mx_table_rows.proofs.ChosenProofs.LookupLemmas.{deleted, first_page, given_at}
use Rattle.mx_moves.specs.Texts.{defect_gone, first_deferrals}

pub first_deferrals_finds : FindsFirst kept_defect first_deferrals (Some 64) kept_defect.order any_row
unfolding understood everything
first_deferrals_finds = first_page kept_defect (defect ∷ []) (λ _ has. has) first_deferrals [] any_row (λ _. refl) (λ _ _. refl) 64 refl (λ _ _. (refl, refl, (refl, refl))) (λ _. refl) (λ _ _. refl)

pub defect_gone_deletes : Deletes kept_defect defect_gone (up_to 0)
unfolding understood everything
defect_gone_deletes = deleted kept_defect (defect ∷ []) (λ _ has. has) defect_gone (given_at Le defect 0 0 ∷ []) (up_to 0) (λ _. refl) (λ _ _. one_equal _ _ refl) 11 (λ _ _. refl) (λ _ _. (refl, (refl, refl)))
