-- The texts about sectors: what each is understood as, computed.
use Rattle.std.proofs.Common.{Some, [], refl}
use Rattle.sqlite.specs.Listing.{understood}
use Rattle.sqlite_tied.specs.Compute.{everything}
use Rattle.mx_layout.specs.kept.Cells.{kept_sector1}
use Rattle.mx_layout.specs.kept.Schemas.{own_1}
use Rattle.mx_table_rows.specs.chosen.Lookups.{FindsFirst}
use Rattle.mx_table_rows.specs.chosen.Texts.{any_row}
use Rattle.mx_table_rows.proofs.ChosenProofs.LookupLemmas.{first_page}
use Rattle.mx_moves.specs.Texts.{first_sectors}

pub first_sectors_finds : FindsFirst kept_sector1 first_sectors (Some 64) kept_sector1.order any_row
unfolding understood everything
first_sectors_finds = first_page kept_sector1 own_1 (λ _ has. has) first_sectors [] any_row (λ _. refl) (λ _ _. refl) 64 refl (λ _ _. (refl, refl, (refl, refl))) (λ _. refl) (λ _ _. refl)
