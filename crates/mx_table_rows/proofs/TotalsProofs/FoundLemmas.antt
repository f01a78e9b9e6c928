-- Defects that are found at more cycles: those that are read.
use Rattle.std.proofs.Common.{◌≡◌, ◌≤◌, ◌⊎◌, inl, inr, ◌+◌, ℕ, Bool, true, false, cond, List, [], ◌∷◌, ◌++◌, map, filter, not, All, Any, Vec, None, Ok, Err, Result, IfOk, IfErr, IsPermutation, refl, sym, ap, subst, ◌∙◌, arith}
use Rattle.std.specs.Prelude.{nat_lt, IsErrAnd}
use Rattle.std.proofs.lemmas.Bool.Decides.{nat_tests}
use Rattle.std.proofs.lemmas.List.{map-append, append-nil}
use Rattle.std.proofs.lemmas.List.Elements.{All-nil, All-cons, All-append, All-map, filter-append}
use Rattle.std.proofs.lemmas.List.Sorted.{IsPermutation-sym, Contains-permutation, All-permutation}
use Rattle.sqlite_rules.proofs.ListLemmas.{has_contained, contains_had}
use Rattle.sqlite_rules.proofs.ProbeLemmas.{mapped_has}
use Rattle.sqlite.specs.Order.{Row}
use Rattle.sqlite.specs.State.{State}
use Rattle.mx_base.specs.declared.rows.rows.Deferral3Row.{Deferral3Row}
use Rattle.mx_layout.specs.declared.fault.TableFault.{TableFault}
use Rattle.mx_layout.specs.declared.fault.TableFault.TheVariants.{Memory, Damaged}
use Rattle.mx_layout.specs.declared.fault.Table.TheVariants.{Defect3}
use Rattle.mx_layout.specs.Contents.{rows_in}
use Rattle.mx_layout.specs.Tables.{defect3}
use Rattle.mx_layout.specs.kept.Cells.{kept_defect3}
use Rattle.mx_layout.proofs.KeptProofs.MovedLawful.{defect3_lawful}
use Rattle.mx_table_rows.specs.chosen.Calls.{ReadsFirst}
use Rattle.mx_table_rows.specs.totals.Calls.{ReadsFrom}
use Rattle.mx_table_rows.specs.declared.totals.lives.TheConstants.{MOST_CYCLES}
use Rattle.mx_table_rows.specs.totals.Found.{is_of_aircraft, was_found_from, found_with, CanGain, CanShift, AllCanShift, OneCantShift, AreGained, AreShifted}
use Rattle.mx_table_rows.proofs.TotalsProofs.ReadLemmas.{stopped_is}

module _ (cycles landed : ℕ) where
  pub none_gained : AreGained cycles landed [] []
  none_gained = record { can = All-nil (CanGain cycles landed); are = refl }

  module _ (xs : List Deferral3Row) (x : Deferral3Row) (ys : List Deferral3Row) (so_far : AreGained cycles landed xs ys) where
    each_can : CanGain cycles landed x → All (CanGain cycles landed) (xs ++ x ∷ [])
    each_can can = All-append (CanGain cycles landed) xs (x ∷ []) so_far.can (All-cons (CanGain cycles landed) x [] can (All-nil (CanGain cycles landed)))

    made : (more : List Deferral3Row) → map (found_with cycles) (filter (was_found_from landed) (x ∷ [])) ≡ more → ys ++ more ≡ map (found_with cycles) (filter (was_found_from landed) (xs ++ x ∷ []))
    made more is =
        ap (λ l. l ++ more) so_far.are ∙ ap (λ l. map (found_with cycles) (filter (was_found_from landed) xs) ++ l) (sym is)
        ∙ sym (map-append (found_with cycles) (filter (was_found_from landed) xs) (filter (was_found_from landed) (x ∷ []))) ∙ ap (map (found_with cycles)) (sym (filter-append (was_found_from landed) xs (x ∷ [])))

    -- one that was found before is left
    pub one_left : nat_lt x.deferral.moment landed ≡ true → AreGained cycles landed (xs ++ x ∷ []) ys
    one_left before = record {
      can = each_can (λ from. absurd (early from));
      are = sym (append-nil ys) ∙ made [] (ap (λ b. map (found_with cycles) (cond (not b) (x ∷ []) [])) before);
    }
      where
        early : landed ≤ x.deferral.moment → ⊥
        early from = grind (arith, nat_tests)

    -- one that was found from then on is found later
    pub one_gained : nat_lt x.deferral.moment landed ≡ false → x.found_cycles + cycles ≤ MOST_CYCLES → AreGained cycles landed (xs ++ x ∷ []) (ys ++ found_with cycles x ∷ [])
    one_gained from within = record {
      can = each_can (λ _. within);
      are = made (found_with cycles x ∷ []) (ap (λ b. map (found_with cycles) (cond (not b) (x ∷ []) [])) from);
    }

module _ (aircraft cycles landed : ℕ) where
  abbrev own : Row → Bool
  own = is_of_aircraft aircraft

  -- each defect of the aircraft can be found later
  pub all_can : (rows : List Row) (ys : List Deferral3Row) → AreShifted aircraft cycles landed rows ys → AllCanShift aircraft cycles landed rows
  all_can rows ys are = All-permutation (CanShift cycles landed) (map kept_defect3.as_cells are.defects) (filter own rows) (IsPermutation-sym _ _ are.those)
      (All-map (CanShift cycles landed) kept_defect3.as_cells are.defects (λ i d low. record { defect = _; fits = are.fit i d low; is = refl; can = are.gained.can i d low }))

  -- one of the defects that were read can't be
  one_cant : (rows : List Row) (xs : List Deferral3Row) → IsPermutation (filter own rows) (map kept_defect3.as_cells xs) → All kept_defect3.Fits xs → Any (λ x. ¬ CanGain cycles landed x) xs → OneCantShift aircraft cycles landed rows
  one_cant rows xs those fit past =
      let x = past.1 in
      let fits : kept_defect3.Fits x = subst kept_defect3.Fits past.3 (fit past.0 x past.2) in
      let here = contains_had (map kept_defect3.as_cells xs) (kept_defect3.as_cells x) (mapped_has kept_defect3.as_cells xs x (has_contained xs x (past.0, past.2, past.3))) in (
        kept_defect3.as_cells x,
        Contains-permutation (map kept_defect3.as_cells xs) (filter own rows) (kept_defect3.as_cells x) (IsPermutation-sym _ _ those) here,
        λ can. past.4 (subst (CanGain cycles landed) (defect3_lawful.once can.defect x can.fits fits (sym can.is)) can.can),
      )

  module _ (old new : State) where
    abbrev stored : List Row
    stored = filter own (rows_in defect3 old.now.trees)

    -- how the defects of the aircraft were read
    abbrev pub Read : {A : Type 0} → Result (Vec Deferral3Row A) TableFault → Type 0
    Read read = ReadsFirst kept_defect3 None kept_defect3.order own (λ rows. rows.items) old new read

    -- how those that are found later were made
    abbrev pub Answers : {B : Type 0} → Result (Vec Deferral3Row B) TableFault → Type 0
    Answers answer = ReadsFrom kept_defect3 (λ rows v. AreShifted aircraft cycles landed rows v.items) (OneCantShift aircraft cycles landed) old new answer

    pub found_read : {A B : Type 0} (rows : Vec Deferral3Row A) (answer : Result (Vec Deferral3Row B) TableFault) → IfOk answer (λ v. AreGained cycles landed rows.items v.items)
        → IfErr answer (λ e. (e ≡ Memory) ⊎ ((e ≡ Damaged Defect3) × Any (λ x. ¬ CanGain cycles landed x) rows.items)) → Read (Ok rows) → Answers answer
    found_read rows (Ok v) gained why r = record {
      value = λ clean has. (let are = r.rows clean has in record { defects = rows.items; fit = r.fits; those = subst (IsPermutation stored) (sym are.first) are.are.all; gained = gained });
      cause = tt;
      damaged = λ _ _ is. (absurd cc);
      unchanged = r.unchanged;
      inside = r.inside;
      within = r.within;
    }
    found_read {A} {B} rows (Err e) gained (inl memory) r = subst (λ f. Answers {B = B} (Err f)) (sym memory) (record { value = λ _ _. tt; cause = inl refl; damaged = λ _ _ is. (absurd cc); unchanged = λ _ _. tt; inside = λ _ _. tt; within = r.within })
    found_read {A} {B} rows (Err e) gained (inr past) r = subst (λ f. Answers {B = B} (Err f)) (sym past.0)
        (record {
          value = λ _ _. tt;
          cause = inr (inr refl);
          damaged = λ clean has _. (let are = r.rows clean has in one_cant (rows_in defect3 old.now.trees) rows.items (subst (IsPermutation stored) (sym are.first) are.are.all) r.fits past.1);
          unchanged = r.unchanged;
          inside = r.inside;
          within = r.within;
        })

    pub found_unread : {A B : Type 0} (e : TableFault) (answer : Result (Vec Deferral3Row B) TableFault) → IsErrAnd answer (λ f. f ≡ e) → Read {A = A} (Err e) → Answers answer
    found_unread e answer is r = subst Answers (sym (stopped_is e answer is))
        (record {
          value = λ _ _. tt;
          cause = r.cause;
          damaged = λ clean has same. (let bad = r.damaged clean has (cc) in
              let rows = subst (IsPermutation stored) (sym bad.1.first) bad.1.are.all in
              (bad.2.0, Contains-permutation bad.0 _ bad.2.0 (IsPermutation-sym _ bad.0 rows) bad.2.1, λ can. bad.2.2 (can.defect, can.fits, can.is)));
          unchanged = r.unchanged;
          inside = r.inside;
          within = r.within;
        })
