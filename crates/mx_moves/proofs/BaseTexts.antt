-- The text that deletes the last bases of an item: what it is understood as, computed.
use Rattle.std.proofs.Common.{List, [], ◌∷◌, ◌++◌, ℕ, ◌≡◌, Some, slice_get, refl}
use Rattle.sqlite.specs.Table.{Table}
use Rattle.sqlite.specs.Listing.{understood}
use Rattle.sqlite_schema.specs.declared.schema.Index.{Index}
use Rattle.sqlite_sql.specs.declared.ops.CompareOp.TheVariants.{Eq}
use Rattle.sqlite_tied.specs.Compute.{everything}
use Rattle.mx_layout.specs.Tables.{base2, sector2, span2, total2}
use Rattle.mx_layout.specs.kept.Cells.{kept_base2}
use Rattle.mx_layout.specs.kept.Kept.{over}
use Rattle.mx_layout.specs.kept.Schemas.{HasBehind, HasOwn2, own_2, permanent}
use Rattle.mx_table_rows.specs.chosen.Lookups.{Deletes}
use Rattle.mx_table_rows.specs.chosen.Texts.{by_value}
use Rattle.mx_table_rows.proofs.ChosenProofs.EqualLemmas.{one_equal}
use Rattle.mx_table_rows.proofs.ChosenProofs.LookupLemmas.{Drops, deleted, either_deletes, given_at}
use Rattle.mx_moves.specs.Texts.{base2_gone}

-- those that stand behind the permanent tables once deferrals have moved
abbrev own_later : List Table
own_later = sector2 ∷ span2 ∷ total2 ∷ base2 ∷ []

gone_in : (own : List Table) (at : ℕ) → ((rest : List Table) (more : List Index) → slice_get (permanent (own ++ rest) more).tables at ≡ Some base2)
    → ((rest : List Table) (more : List Index) → Drops (permanent (own ++ rest) more) base2_gone at base2 (given_at Eq base2 0 0 ∷ [])) → Deletes (over kept_base2 (HasBehind own)) base2_gone (by_value 0)
gone_in own at there texts = deleted (over kept_base2 (HasBehind own)) own (λ _ has. has) base2_gone (given_at Eq base2 0 0 ∷ []) (by_value 0) (λ _. refl) (λ _ _. one_equal _ _ refl) at there texts

pub bases_gone : Deletes kept_base2 base2_gone (by_value 0)
unfolding understood everything
bases_gone = either_deletes kept_base2 HasOwn2 (HasBehind own_later) base2_gone (by_value 0) (gone_in own_2 15 (λ _ _. refl) (λ _ _. (refl, (refl, refl)))) (gone_in own_later 14 (λ _ _. refl) (λ _ _. (refl, (refl, refl))))
