-- The text that shows the next component: what it is understood as, computed.
use Rattle.std.proofs.Common.{◌∷◌, [], ℕ, List, Some, refl}
use Rattle.std.specs.Prelude.{codes}
use Rattle.sqlite.specs.Listing.{understood}
use Rattle.sqlite_sql.specs.declared.ops.CompareOp.TheVariants.{Gt}
use Rattle.sqlite_tied.specs.Compute.{everything}
use Rattle.mx_layout.specs.Tables.{component}
use Rattle.mx_layout.specs.kept.Cells.{kept_component}
use Rattle.mx_table_rows.specs.chosen.Lookups.{FindsFirst}
use Rattle.mx_table_rows.specs.chosen.Texts.{above}
use Rattle.mx_table_rows.proofs.ChosenProofs.EqualLemmas.{one_equal}
use Rattle.mx_table_rows.proofs.ChosenProofs.LookupLemmas.{first_page, given_at}

abbrev pub next_component : List ℕ
next_component = codes "SELECT seq, serial, part, birth, minutes, cycles, as_of FROM component WHERE seq > ?1 ORDER BY seq LIMIT 1"

pub next_component_finds : FindsFirst kept_component next_component (Some 1) kept_component.order (above 0)
unfolding understood everything
next_component_finds = first_page kept_component [] (λ _ has. has) next_component (given_at Gt component 0 0 ∷ []) (above 0) (λ _. refl) (λ _ _. one_equal _ _ refl) 1 refl (λ _ _. (refl, refl, (refl, refl))) (λ _. refl) (λ _ _. refl)
