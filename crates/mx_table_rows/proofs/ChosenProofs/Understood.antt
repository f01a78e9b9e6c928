-- The texts that show chosen rows or delete them: what each is understood as, computed.
use Rattle.std.proofs.Common.{◌≡◌, ◌⊎◌, slice_get, ℕ, Bool, ◌&&◌, ap, List, [], ◌∷◌, ◌++◌, None, Some, refl}
use Rattle.std.specs.List.{list_all}
use Rattle.sqlite.specs.Order.{Row, column}
use Rattle.sqlite.specs.Table.{Table}
use Rattle.sqlite.specs.Term.{Term, lit, col, holds}
use Rattle.sqlite_schema.specs.Names.{place_of}
use Rattle.sqlite_sql.specs.Term.{op2}
use Rattle.sqlite_sql.specs.declared.ops.BinaryOp.TheVariants.{Is}
use Rattle.sqlite.specs.Collation.TheVariants.{Binary}
use Rattle.sqlite.specs.declared.types.Value.TheVariants.{Null}
use Rattle.sqlite.specs.Listing.{understood}
use Rattle.sqlite_schema.specs.declared.schema.Index.{Index}
use Rattle.sqlite_sql.specs.declared.ops.CompareOp.TheVariants.{Eq, Ge, Le, Lt}
use Rattle.sqlite_tied.specs.Compute.{everything}
use Rattle.mx_layout.specs.Contents.{cells}
use Rattle.mx_layout.specs.Tables.{entry, aircraft, place, component, programme, task, opening, crs, crs_line, extension, defect, sector1, fit1, removal1, sector2, span2, total2, base2, defect3, done3}
use Rattle.mx_layout.specs.kept.Cells.{kept_entry, kept_aircraft, kept_place, kept_component, kept_programme, kept_task, kept_opening, kept_crs, kept_crs_line, kept_extension, kept_defect, kept_sector1, kept_fit1, kept_sector2_rows, kept_span2, kept_total2, kept_base2, kept_defect3, kept_done3}
use Rattle.mx_layout.specs.kept.Kept.{over}
use Rattle.mx_layout.specs.kept.Schemas.{permanent, own_1, own_2, own_3, own_moving, HasBehind, HasOwn1, HasOwn2, HasOwn3}
use Rattle.mx_table_rows.specs.chosen.Choices.{backward, is_at_least, is_below}
use Rattle.mx_table_rows.specs.chosen.Lookups.{FindsFirst, Finds, Deletes}
use Rattle.mx_table_rows.specs.chosen.Texts.{sector2_by_seq, sector2_by_aircraft, sector2_between, crs_by_item, crs_between, between, defect3_by_seq, defect3_by_aircraft, done3_by_item, done3_by_item_and_task, all_defects3, by_value, by_values, open_by, open_spans_by_component, open_spans_by_aircraft, up_to, any_row, entry_by_seq, entry_by_doc, aircraft_by_seq, aircraft_by_tail, place_by_seq, component_by_seq, component_by_serial, programme_by_seq, programme_by_kind, task_by_seq, opening_by_seq, crs_by_seq, crs_line_by_seq, crs_line_by_defect, defect_by_seq, defect_by_aircraft, extension_by_seq, extension_by_defect, span2_by_fit_seq, span2_by_component, span2_by_aircraft, span2_by_remove_seq, total2_by_item, base2_by_item_and_task, last_entry, all_aircraft, all_components, all_defects, all_crs_lines, sector1_gone, fit1_gone}
use Rattle.mx_table_rows.proofs.ChosenProofs.LookupLemmas.{Chooses, Drops, given_at, first_found, last_found, two_found, four_found, ChoosesByFour, deleted, either_finds, either_deletes}
use Rattle.mx_table_rows.proofs.ChosenProofs.EqualLemmas.{one_equal, two_equal, three_equal, missing}

-- spans stand at one place while components are moved, at another from then on, and at a third once deferrals are moved
spans_found : (text : List ℕ) (tests : List Term) (chosen : Row → Row → Bool) → ((values r : Row) → list_all (holds (values ∷ r ∷ [])) tests ≡ chosen values (cells span2 r))
    → ((rest : List Table) (more : List Index) → Chooses (permanent (own_moving ++ rest) more) text span2 tests)
    → ((rest : List Table) (more : List Index) → Chooses (permanent ((defect ∷ sector2 ∷ span2 ∷ []) ++ rest) more) text span2 tests)
    → ((rest : List Table) (more : List Index) → Chooses (permanent ((sector2 ∷ span2 ∷ []) ++ rest) more) text span2 tests) → Finds kept_span2 text chosen
spans_found text tests chosen picks moving settled last =
    either_finds kept_span2 (HasBehind own_moving) (λ s. HasBehind (defect ∷ sector2 ∷ span2 ∷ []) s ⊎ HasBehind (sector2 ∷ span2 ∷ []) s) text None kept_span2.order chosen (in_place own_moving moving)
    (either_finds kept_span2 (HasBehind (defect ∷ sector2 ∷ span2 ∷ [])) (HasBehind (sector2 ∷ span2 ∷ [])) text None kept_span2.order chosen (in_place (defect ∷ sector2 ∷ span2 ∷ []) settled) (in_place (sector2 ∷ span2 ∷ []) last))
  where
    in_place : (own : List Table) → ((rest : List Table) (more : List Index) → Chooses (permanent (own ++ rest) more) text span2 tests) → Finds (over kept_span2 (HasBehind own)) text chosen
    in_place own texts = first_found (over kept_span2 (HasBehind own)) own (λ _ has. has) text tests chosen (λ _. refl) picks refl texts (λ _. refl) (λ _ _. refl)

-- sectors of layout 2 stand at four places: while sectors are moved, while components are, from then on, and once deferrals are moved
sectors_found : (text : List ℕ) (tests : List Term) (chosen : Row → Row → Bool) → ((values r : Row) → list_all (holds (values ∷ r ∷ [])) tests ≡ chosen values (cells sector2 r))
    → ((rest : List Table) (more : List Index) → Chooses (permanent ((defect ∷ sector1 ∷ fit1 ∷ removal1 ∷ sector2 ∷ []) ++ rest) more) text sector2 tests)
    → ((rest : List Table) (more : List Index) → Chooses (permanent (own_moving ++ rest) more) text sector2 tests)
    → ((rest : List Table) (more : List Index) → Chooses (permanent ((defect ∷ sector2 ∷ []) ++ rest) more) text sector2 tests)
    → ((rest : List Table) (more : List Index) → Chooses (permanent ((sector2 ∷ []) ++ rest) more) text sector2 tests) → Finds kept_sector2_rows text chosen
sectors_found text tests chosen picks first moving settled last =
    either_finds kept_sector2_rows (HasBehind (defect ∷ sector1 ∷ fit1 ∷ removal1 ∷ sector2 ∷ [])) (λ s. HasBehind own_moving s ⊎ (HasBehind (defect ∷ sector2 ∷ []) s ⊎ HasBehind (sector2 ∷ []) s)) text None kept_sector2_rows.order chosen
    (in_place (defect ∷ sector1 ∷ fit1 ∷ removal1 ∷ sector2 ∷ []) first)
    (either_finds kept_sector2_rows (HasBehind own_moving) (λ s. HasBehind (defect ∷ sector2 ∷ []) s ⊎ HasBehind (sector2 ∷ []) s) text None kept_sector2_rows.order chosen (in_place own_moving moving)
    (either_finds kept_sector2_rows (HasBehind (defect ∷ sector2 ∷ [])) (HasBehind (sector2 ∷ [])) text None kept_sector2_rows.order chosen (in_place (defect ∷ sector2 ∷ []) settled) (in_place (sector2 ∷ []) last)))
  where
    in_place : (own : List Table) → ((rest : List Table) (more : List Index) → Chooses (permanent (own ++ rest) more) text sector2 tests) → Finds (over kept_sector2_rows (HasBehind own)) text chosen
    in_place own texts = first_found (over kept_sector2_rows (HasBehind own)) own (λ _ has. has) text tests chosen (λ _. refl) picks refl texts (λ _. refl) (λ _ _. refl)

-- deferrals of layout 3 stand at three places: while deferrals are moved, while accomplishments are written, and from then on
defects_found : (text : List ℕ) (tests : List Term) (chosen : Row → Row → Bool) → ((values r : Row) → list_all (holds (values ∷ r ∷ [])) tests ≡ chosen values (cells defect3 r))
    → ((rest : List Table) (more : List Index) → Chooses (permanent ((defect ∷ sector2 ∷ span2 ∷ total2 ∷ base2 ∷ defect3 ∷ []) ++ rest) more) text defect3 tests)
    → ((rest : List Table) (more : List Index) → Chooses (permanent ((sector2 ∷ span2 ∷ total2 ∷ base2 ∷ defect3 ∷ []) ++ rest) more) text defect3 tests)
    → ((rest : List Table) (more : List Index) → Chooses (permanent ((sector2 ∷ span2 ∷ total2 ∷ defect3 ∷ []) ++ rest) more) text defect3 tests) → Finds kept_defect3 text chosen
defects_found text tests chosen picks moving written last =
    either_finds kept_defect3 (HasBehind (defect ∷ sector2 ∷ span2 ∷ total2 ∷ base2 ∷ defect3 ∷ [])) (λ s. HasBehind (sector2 ∷ span2 ∷ total2 ∷ base2 ∷ defect3 ∷ []) s ⊎ HasBehind (sector2 ∷ span2 ∷ total2 ∷ defect3 ∷ []) s) text None kept_defect3.order chosen
    (in_place (defect ∷ sector2 ∷ span2 ∷ total2 ∷ base2 ∷ defect3 ∷ []) moving)
    (either_finds kept_defect3 (HasBehind (sector2 ∷ span2 ∷ total2 ∷ base2 ∷ defect3 ∷ [])) (HasBehind (sector2 ∷ span2 ∷ total2 ∷ defect3 ∷ [])) text None kept_defect3.order chosen
    (in_place (sector2 ∷ span2 ∷ total2 ∷ base2 ∷ defect3 ∷ []) written) (in_place (sector2 ∷ span2 ∷ total2 ∷ defect3 ∷ []) last))
  where
    in_place : (own : List Table) → ((rest : List Table) (more : List Index) → Chooses (permanent (own ++ rest) more) text defect3 tests) → Finds (over kept_defect3 (HasBehind own)) text chosen
    in_place own texts = first_found (over kept_defect3 (HasBehind own)) own (λ _ has. has) text tests chosen (λ _. refl) picks refl texts (λ _. refl) (λ _ _. refl)

-- accomplishments stand at one place while they are written, and at another from then on
done_found : (text : List ℕ) (tests : List Term) (chosen : Row → Row → Bool) → ((values r : Row) → list_all (holds (values ∷ r ∷ [])) tests ≡ chosen values (cells done3 r))
    → ((rest : List Table) (more : List Index) → ChoosesByFour (permanent ((sector2 ∷ span2 ∷ total2 ∷ base2 ∷ defect3 ∷ done3 ∷ []) ++ rest) more) text done3 tests)
    → ((rest : List Table) (more : List Index) → ChoosesByFour (permanent (own_3 ++ rest) more) text done3 tests) → Finds kept_done3 text chosen
done_found text tests chosen picks written last =
    either_finds kept_done3 (HasBehind (sector2 ∷ span2 ∷ total2 ∷ base2 ∷ defect3 ∷ done3 ∷ [])) HasOwn3 text None kept_done3.order chosen (in_place (sector2 ∷ span2 ∷ total2 ∷ base2 ∷ defect3 ∷ done3 ∷ []) written) (in_place own_3 last)
  where
    in_place : (own : List Table) → ((rest : List Table) (more : List Index) → ChoosesByFour (permanent (own ++ rest) more) text done3 tests) → Finds (over kept_done3 (HasBehind own)) text chosen
    in_place own texts = four_found (over kept_done3 (HasBehind own)) own (λ _ has. has) text tests chosen (λ _. refl) picks refl texts (λ _. refl) (λ _ _. refl) (λ _ _. refl) (λ _ _. refl) (λ _ _. refl)

-- ── look-ups by the value in one column ──

pub entry_by_seq_finds : Finds kept_entry entry_by_seq (by_value 0)
unfolding understood everything
entry_by_seq_finds = first_found kept_entry [] (λ _ has. has) entry_by_seq (given_at Eq entry 0 0 ∷ []) (by_value 0) (λ _. refl) (λ _ _. one_equal _ _ refl) refl (λ _ _. (refl, refl, (refl, refl))) (λ _. refl) (λ _ _. refl)

pub entry_by_doc_finds : Finds kept_entry entry_by_doc (by_value 1)
unfolding understood everything
entry_by_doc_finds = first_found kept_entry [] (λ _ has. has) entry_by_doc (given_at Eq entry 1 0 ∷ []) (by_value 1) (λ _. refl) (λ _ _. one_equal _ _ refl) refl (λ _ _. (refl, refl, (refl, refl))) (λ _. refl) (λ _ _. refl)

pub aircraft_by_seq_finds : Finds kept_aircraft aircraft_by_seq (by_value 0)
unfolding understood everything
aircraft_by_seq_finds = first_found kept_aircraft [] (λ _ has. has) aircraft_by_seq (given_at Eq aircraft 0 0 ∷ []) (by_value 0) (λ _. refl) (λ _ _. one_equal _ _ refl) refl (λ _ _. (refl, refl, (refl, refl))) (λ _. refl) (λ _ _. refl)

pub aircraft_by_tail_finds : Finds kept_aircraft aircraft_by_tail (by_value 1)
unfolding understood everything
aircraft_by_tail_finds = first_found kept_aircraft [] (λ _ has. has) aircraft_by_tail (given_at Eq aircraft 1 0 ∷ []) (by_value 1) (λ _. refl) (λ _ _. one_equal _ _ refl) refl (λ _ _. (refl, refl, (refl, refl))) (λ _. refl) (λ _ _. refl)

pub place_by_seq_finds : Finds kept_place place_by_seq (by_value 0)
unfolding understood everything
place_by_seq_finds = two_found kept_place [] (λ _ has. has) place_by_seq (given_at Eq place 0 0 ∷ []) (by_value 0) (λ _. refl) (λ _ _. one_equal _ _ refl) refl (λ _ _. (refl, refl, (refl, refl))) (λ _. refl) (λ _ _. refl) (λ _ _. refl)

pub component_by_seq_finds : Finds kept_component component_by_seq (by_value 0)
unfolding understood everything
component_by_seq_finds = first_found kept_component [] (λ _ has. has) component_by_seq (given_at Eq component 0 0 ∷ []) (by_value 0) (λ _. refl) (λ _ _. one_equal _ _ refl) refl (λ _ _. (refl, refl, (refl, refl))) (λ _. refl) (λ _ _. refl)

pub component_by_serial_finds : Finds kept_component component_by_serial (by_value 1)
unfolding understood everything
component_by_serial_finds = first_found kept_component [] (λ _ has. has) component_by_serial (given_at Eq component 1 0 ∷ []) (by_value 1) (λ _. refl) (λ _ _. one_equal _ _ refl) refl (λ _ _. (refl, refl, (refl, refl))) (λ _. refl) (λ _ _. refl)

pub programme_by_seq_finds : Finds kept_programme programme_by_seq (by_value 0)
unfolding understood everything
programme_by_seq_finds = first_found kept_programme [] (λ _ has. has) programme_by_seq (given_at Eq programme 0 0 ∷ []) (by_value 0) (λ _. refl) (λ _ _. one_equal _ _ refl) refl (λ _ _. (refl, refl, (refl, refl))) (λ _. refl) (λ _ _. refl)

pub programme_by_kind_finds : Finds kept_programme programme_by_kind (by_value 1)
unfolding understood everything
programme_by_kind_finds = first_found kept_programme [] (λ _ has. has) programme_by_kind (given_at Eq programme 1 0 ∷ []) (by_value 1) (λ _. refl) (λ _ _. one_equal _ _ refl) refl (λ _ _. (refl, refl, (refl, refl))) (λ _. refl) (λ _ _. refl)

pub task_by_seq_finds : Finds kept_task task_by_seq (by_value 0)
unfolding understood everything
task_by_seq_finds = two_found kept_task [] (λ _ has. has) task_by_seq (given_at Eq task 0 0 ∷ []) (by_value 0) (λ _. refl) (λ _ _. one_equal _ _ refl) refl (λ _ _. (refl, refl, (refl, refl))) (λ _. refl) (λ _ _. refl) (λ _ _. refl)

pub opening_by_seq_finds : Finds kept_opening opening_by_seq (by_value 0)
unfolding understood everything
opening_by_seq_finds = first_found kept_opening [] (λ _ has. has) opening_by_seq (given_at Eq opening 0 0 ∷ []) (by_value 0) (λ _. refl) (λ _ _. one_equal _ _ refl) refl (λ _ _. (refl, refl, (refl, refl))) (λ _. refl) (λ _ _. refl)

pub crs_by_seq_finds : Finds kept_crs crs_by_seq (by_value 0)
unfolding understood everything
crs_by_seq_finds = first_found kept_crs [] (λ _ has. has) crs_by_seq (given_at Eq crs 0 0 ∷ []) (by_value 0) (λ _. refl) (λ _ _. one_equal _ _ refl) refl (λ _ _. (refl, refl, (refl, refl))) (λ _. refl) (λ _ _. refl)

pub crs_by_item_finds : Finds kept_crs crs_by_item (by_value 1)
unfolding understood everything
crs_by_item_finds = first_found kept_crs [] (λ _ has. has) crs_by_item (given_at Eq crs 1 0 ∷ []) (by_value 1) (λ _. refl) (λ _ _. one_equal _ _ refl) refl (λ _ _. (refl, refl, (refl, refl))) (λ _. refl) (λ _ _. refl)

pub crs_line_by_seq_finds : Finds kept_crs_line crs_line_by_seq (by_value 0)
unfolding understood everything
crs_line_by_seq_finds = two_found kept_crs_line [] (λ _ has. has) crs_line_by_seq (given_at Eq crs_line 0 0 ∷ []) (by_value 0) (λ _. refl) (λ _ _. one_equal _ _ refl) refl (λ _ _. (refl, refl, (refl, refl))) (λ _. refl) (λ _ _. refl) (λ _ _. refl)

pub crs_line_by_defect_finds : Finds kept_crs_line crs_line_by_defect (by_value 4)
unfolding understood everything
crs_line_by_defect_finds = two_found kept_crs_line [] (λ _ has. has) crs_line_by_defect (given_at Eq crs_line 4 0 ∷ []) (by_value 4) (λ _. refl) (λ _ _. one_equal _ _ refl) refl (λ _ _. (refl, refl, (refl, refl))) (λ _. refl) (λ _ _. refl) (λ _ _. refl)

pub defect_by_seq_finds : Finds kept_defect defect_by_seq (by_value 0)
unfolding understood everything
defect_by_seq_finds = first_found kept_defect (defect ∷ []) (λ _ has. has) defect_by_seq (given_at Eq defect 0 0 ∷ []) (by_value 0) (λ _. refl) (λ _ _. one_equal _ _ refl) refl (λ _ _. (refl, refl, (refl, refl))) (λ _. refl) (λ _ _. refl)

pub defect_by_aircraft_finds : Finds kept_defect defect_by_aircraft (by_value 1)
unfolding understood everything
defect_by_aircraft_finds = first_found kept_defect (defect ∷ []) (λ _ has. has) defect_by_aircraft (given_at Eq defect 1 0 ∷ []) (by_value 1) (λ _. refl) (λ _ _. one_equal _ _ refl) refl (λ _ _. (refl, refl, (refl, refl))) (λ _. refl) (λ _ _. refl)

pub extension_by_seq_finds : Finds kept_extension extension_by_seq (by_value 0)
unfolding understood everything
extension_by_seq_finds = first_found kept_extension [] (λ _ has. has) extension_by_seq (given_at Eq extension 0 0 ∷ []) (by_value 0) (λ _. refl) (λ _ _. one_equal _ _ refl) refl (λ _ _. (refl, refl, (refl, refl))) (λ _. refl) (λ _ _. refl)

pub extension_by_defect_finds : Finds kept_extension extension_by_defect (by_value 1)
unfolding understood everything
extension_by_defect_finds = first_found kept_extension [] (λ _ has. has) extension_by_defect (given_at Eq extension 1 0 ∷ []) (by_value 1) (λ _. refl) (λ _ _. one_equal _ _ refl) refl (λ _ _. (refl, refl, (refl, refl))) (λ _. refl) (λ _ _. refl)

pub span2_by_fit_seq_finds : Finds kept_span2 span2_by_fit_seq (by_value 0)
unfolding understood everything
span2_by_fit_seq_finds = spans_found span2_by_fit_seq (given_at Eq span2 0 0 ∷ []) (by_value 0) (λ _ _. one_equal _ _ refl) (λ _ _. (refl, refl, (refl, refl))) (λ _ _. (refl, refl, (refl, refl))) (λ _ _. (refl, refl, (refl, refl)))

pub span2_by_component_finds : Finds kept_span2 span2_by_component (by_value 1)
unfolding understood everything
span2_by_component_finds = spans_found span2_by_component (given_at Eq span2 1 0 ∷ []) (by_value 1) (λ _ _. one_equal _ _ refl) (λ _ _. (refl, refl, (refl, refl))) (λ _ _. (refl, refl, (refl, refl))) (λ _ _. (refl, refl, (refl, refl)))

pub span2_by_aircraft_finds : Finds kept_span2 span2_by_aircraft (by_value 2)
unfolding understood everything
span2_by_aircraft_finds = spans_found span2_by_aircraft (given_at Eq span2 2 0 ∷ []) (by_value 2) (λ _ _. one_equal _ _ refl) (λ _ _. (refl, refl, (refl, refl))) (λ _ _. (refl, refl, (refl, refl))) (λ _ _. (refl, refl, (refl, refl)))

pub span2_by_remove_seq_finds : Finds kept_span2 span2_by_remove_seq (by_value 5)
unfolding understood everything
span2_by_remove_seq_finds = spans_found span2_by_remove_seq (given_at Eq span2 5 0 ∷ []) (by_value 5) (λ _ _. one_equal _ _ refl) (λ _ _. (refl, refl, (refl, refl))) (λ _ _. (refl, refl, (refl, refl))) (λ _ _. (refl, refl, (refl, refl)))

pub total2_by_item_finds : Finds kept_total2 total2_by_item (by_value 0)
unfolding understood everything
total2_by_item_finds = either_finds kept_total2 (HasBehind (defect ∷ sector2 ∷ span2 ∷ total2 ∷ [])) (HasBehind (sector2 ∷ span2 ∷ total2 ∷ [])) total2_by_item None kept_total2.order (by_value 0)
    (first_found (over kept_total2 (HasBehind (defect ∷ sector2 ∷ span2 ∷ total2 ∷ []))) (defect ∷ sector2 ∷ span2 ∷ total2 ∷ []) (λ _ has. has) total2_by_item (given_at Eq total2 0 0 ∷ []) (by_value 0) (λ _. refl) (λ _ _. one_equal _ _ refl) refl (λ _ _. (refl, refl, (refl, refl))) (λ _. refl) (λ _ _. refl))
    (first_found (over kept_total2 (HasBehind (sector2 ∷ span2 ∷ total2 ∷ []))) (sector2 ∷ span2 ∷ total2 ∷ []) (λ _ has. has) total2_by_item (given_at Eq total2 0 0 ∷ []) (by_value 0) (λ _. refl) (λ _ _. one_equal _ _ refl) refl (λ _ _. (refl, refl, (refl, refl))) (λ _. refl) (λ _ _. refl))

pub sector2_by_seq_finds : Finds kept_sector2_rows sector2_by_seq (by_value 0)
unfolding understood everything
sector2_by_seq_finds = sectors_found sector2_by_seq (given_at Eq sector2 0 0 ∷ []) (by_value 0) (λ _ _. one_equal _ _ refl) (λ _ _. (refl, refl, (refl, refl))) (λ _ _. (refl, refl, (refl, refl))) (λ _ _. (refl, refl, (refl, refl))) (λ _ _. (refl, refl, (refl, refl)))

pub sector2_by_aircraft_finds : Finds kept_sector2_rows sector2_by_aircraft (by_value 1)
unfolding understood everything
sector2_by_aircraft_finds = sectors_found sector2_by_aircraft (given_at Eq sector2 1 0 ∷ []) (by_value 1) (λ _ _. one_equal _ _ refl) (λ _ _. (refl, refl, (refl, refl))) (λ _ _. (refl, refl, (refl, refl))) (λ _ _. (refl, refl, (refl, refl))) (λ _ _. (refl, refl, (refl, refl)))

pub base2_by_item_and_task_finds : Finds kept_base2 base2_by_item_and_task (by_values 0 1)
unfolding understood everything
base2_by_item_and_task_finds = either_finds kept_base2 HasOwn2 (HasBehind (sector2 ∷ span2 ∷ total2 ∷ base2 ∷ [])) base2_by_item_and_task None kept_base2.order (by_values 0 1)
    (two_found (over kept_base2 (HasBehind own_2)) own_2 (λ _ has. has) base2_by_item_and_task (given_at Eq base2 0 0 ∷ given_at Eq base2 1 1 ∷ []) (by_values 0 1) (λ _. refl) (λ _ _. two_equal _ _ _ refl) refl (λ _ _. (refl, refl, (refl, refl))) (λ _. refl) (λ _ _. refl) (λ _ _. refl))
    (two_found (over kept_base2 (HasBehind (sector2 ∷ span2 ∷ total2 ∷ base2 ∷ []))) (sector2 ∷ span2 ∷ total2 ∷ base2 ∷ []) (λ _ has. has) base2_by_item_and_task (given_at Eq base2 0 0 ∷ given_at Eq base2 1 1 ∷ []) (by_values 0 1) (λ _. refl) (λ _ _. two_equal _ _ _ refl) refl (λ _ _. (refl, refl, (refl, refl))) (λ _. refl) (λ _ _. refl) (λ _ _. refl))

pub defect3_by_seq_finds : Finds kept_defect3 defect3_by_seq (by_value 0)
unfolding understood everything
defect3_by_seq_finds = defects_found defect3_by_seq (given_at Eq defect3 0 0 ∷ []) (by_value 0) (λ _ _. one_equal _ _ refl) (λ _ _. (refl, refl, (refl, refl))) (λ _ _. (refl, refl, (refl, refl))) (λ _ _. (refl, refl, (refl, refl)))

pub defect3_by_aircraft_finds : Finds kept_defect3 defect3_by_aircraft (by_value 1)
unfolding understood everything
defect3_by_aircraft_finds = defects_found defect3_by_aircraft (given_at Eq defect3 1 0 ∷ []) (by_value 1) (λ _ _. one_equal _ _ refl) (λ _ _. (refl, refl, (refl, refl))) (λ _ _. (refl, refl, (refl, refl))) (λ _ _. (refl, refl, (refl, refl)))

pub done3_by_item_finds : Finds kept_done3 done3_by_item (by_value 0)
unfolding understood everything
done3_by_item_finds = done_found done3_by_item (given_at Eq done3 0 0 ∷ []) (by_value 0) (λ _ _. one_equal _ _ refl) (λ _ _. (refl, refl, (refl, refl))) (λ _ _. (refl, refl, (refl, refl)))

pub done3_by_item_and_task_finds : Finds kept_done3 done3_by_item_and_task (by_values 0 1)
unfolding understood everything
done3_by_item_and_task_finds = done_found done3_by_item_and_task (given_at Eq done3 0 0 ∷ given_at Eq done3 1 1 ∷ []) (by_values 0 1) (λ _ _. two_equal _ _ _ refl) (λ _ _. (refl, refl, (refl, refl))) (λ _ _. (refl, refl, (refl, refl)))

-- ── look-ups by the value in one column, and by bounds of another ──

pub sector2_between_finds : Finds kept_sector2_rows sector2_between (between 1 4)
unfolding understood everything
sector2_between_finds = sectors_found sector2_between (given_at Eq sector2 1 0 ∷ given_at Ge sector2 4 1 ∷ given_at Lt sector2 4 2 ∷ []) (between 1 4) (λ values r. three_equal (by_value 1 values (cells sector2 r)) (is_at_least 4 (column values 1) (cells sector2 r)) (is_below 4 (column values 2) (cells sector2 r)) _ refl) (λ _ _. (refl, refl, (refl, refl))) (λ _ _. (refl, refl, (refl, refl))) (λ _ _. (refl, refl, (refl, refl))) (λ _ _. (refl, refl, (refl, refl)))

pub crs_between_finds : Finds kept_crs crs_between (between 1 3)
unfolding understood everything
crs_between_finds = first_found kept_crs [] (λ _ has. has) crs_between (given_at Eq crs 1 0 ∷ given_at Ge crs 3 1 ∷ given_at Lt crs 3 2 ∷ []) (between 1 3) (λ _. refl) (λ values r. three_equal (by_value 1 values (cells crs r)) (is_at_least 3 (column values 1) (cells crs r)) (is_below 3 (column values 2) (cells crs r)) _ refl) refl (λ _ _. (refl, refl, (refl, refl))) (λ _. refl) (λ _ _. refl)

-- ── open spans ──

-- the tests of a span that nothing ended
abbrev open_tests : ℕ → List Term
open_tests at = given_at Eq span2 at 0 ∷ op2 (Is Binary) (col 1 (place_of span2 5)) (lit Null) ∷ []

pub open_spans_by_component_finds : Finds kept_span2 open_spans_by_component (open_by 1)
unfolding understood everything
open_spans_by_component_finds = spans_found open_spans_by_component (open_tests 1) (open_by 1) (λ values r. two_equal _ _ _ (ap (λ b. by_value 1 values (cells span2 r) && b) (missing (column r (place_of span2 5))))) (λ _ _. (refl, refl, (refl, refl))) (λ _ _. (refl, refl, (refl, refl))) (λ _ _. (refl, refl, (refl, refl)))

pub open_spans_by_aircraft_finds : Finds kept_span2 open_spans_by_aircraft (open_by 2)
unfolding understood everything
open_spans_by_aircraft_finds = spans_found open_spans_by_aircraft (open_tests 2) (open_by 2) (λ values r. two_equal _ _ _ (ap (λ b. by_value 2 values (cells span2 r) && b) (missing (column r (place_of span2 5))))) (λ _ _. (refl, refl, (refl, refl))) (λ _ _. (refl, refl, (refl, refl))) (λ _ _. (refl, refl, (refl, refl)))

-- ── all rows of a table ──

pub all_aircraft_finds : Finds kept_aircraft all_aircraft any_row
unfolding understood everything
all_aircraft_finds = first_found kept_aircraft [] (λ _ has. has) all_aircraft [] any_row (λ _. refl) (λ _ _. refl) refl (λ _ _. (refl, refl, (refl, refl))) (λ _. refl) (λ _ _. refl)

pub all_components_finds : Finds kept_component all_components any_row
unfolding understood everything
all_components_finds = first_found kept_component [] (λ _ has. has) all_components [] any_row (λ _. refl) (λ _ _. refl) refl (λ _ _. (refl, refl, (refl, refl))) (λ _. refl) (λ _ _. refl)

pub all_crs_lines_finds : Finds kept_crs_line all_crs_lines any_row
unfolding understood everything
all_crs_lines_finds = two_found kept_crs_line [] (λ _ has. has) all_crs_lines [] any_row (λ _. refl) (λ _ _. refl) refl (λ _ _. (refl, refl, (refl, refl))) (λ _. refl) (λ _ _. refl) (λ _ _. refl)

pub all_defects_finds : Finds kept_defect all_defects any_row
unfolding understood everything
all_defects_finds = first_found kept_defect (defect ∷ []) (λ _ has. has) all_defects [] any_row (λ _. refl) (λ _ _. refl) refl (λ _ _. (refl, refl, (refl, refl))) (λ _. refl) (λ _ _. refl)

pub all_defects3_finds : Finds kept_defect3 all_defects3 any_row
unfolding understood everything
all_defects3_finds = defects_found all_defects3 [] any_row (λ _ _. refl) (λ _ _. (refl, refl, (refl, refl))) (λ _ _. (refl, refl, (refl, refl))) (λ _ _. (refl, refl, (refl, refl)))

-- ── the last row ──

pub last_entry_finds : FindsFirst kept_entry last_entry (Some 1) (backward kept_entry.order) any_row
unfolding understood everything
last_entry_finds = last_found kept_entry [] (λ _ has. has) last_entry [] any_row (λ _. refl) (λ _ _. refl) 1 (λ _ _. (refl, refl, (refl, refl))) (λ _. refl) (λ _ _. refl)

-- ── rows that are deleted ──

pub sector1_gone_deletes : Deletes kept_sector1 sector1_gone (up_to 0)
unfolding understood everything
sector1_gone_deletes = deleted kept_sector1 own_1 (λ _ has. has) sector1_gone (given_at Le sector1 0 0 ∷ []) (up_to 0) (λ _. refl) (λ _ _. one_equal _ _ refl) 12 (λ _ _. refl) (λ _ _. (refl, (refl, refl)))

fit1_gone_in : (own : List Table) (at : ℕ) → ((rest : List Table) (more : List Index) → slice_get (permanent (own ++ rest) more).tables at ≡ Some fit1)
    → ((rest : List Table) (more : List Index) → Drops (permanent (own ++ rest) more) fit1_gone at fit1 (given_at Eq fit1 1 0 ∷ [])) → Deletes (over kept_fit1 (HasBehind own)) fit1_gone (by_value 1)
fit1_gone_in own at there texts = deleted (over kept_fit1 (HasBehind own)) own (λ _ has. has) fit1_gone (given_at Eq fit1 1 0 ∷ []) (by_value 1) (λ _. refl) (λ _ _. one_equal _ _ refl) at there texts

pub fit1_gone_deletes : Deletes kept_fit1 fit1_gone (by_value 1)
unfolding understood everything
fit1_gone_deletes = either_deletes kept_fit1 HasOwn1 (HasBehind own_moving) fit1_gone (by_value 1) (fit1_gone_in own_1 13 (λ _ _. refl) (λ _ _. (refl, (refl, refl)))) (fit1_gone_in own_moving 12 (λ _ _. refl) (λ _ _. (refl, (refl, refl))))
