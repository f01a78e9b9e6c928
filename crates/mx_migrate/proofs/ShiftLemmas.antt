-- What the statements of the move of a component do, from what each call does.
use Rattle.std.proofs.Common.{◌≡◌, ◌⊎◌, inl, inr, ℕ, List, None, Ok, Err, Result, IsTrue, refl, sym, ap, subst, ◌∙◌, arith}
use Rattle.sqlite.specs.Effect.{Database}
use Rattle.sqlite.specs.State.{State, HasCleanDisk}
use Rattle.mx_base.specs.declared.rows.rows.FittingRow.{FittingRow}
use Rattle.mx_base.specs.declared.rows.rows.RemovalRow.{RemovalRow}
use Rattle.mx_base.specs.declared.rows.rows.SpanRow.{SpanRow}
use Rattle.mx_base.specs.declared.point.Point.{Point}
use Rattle.mx_registers.specs.points.Points.{moving}
use Rattle.mx_layout.specs.TableName.{TableName}
use Rattle.mx_layout.specs.declared.fault.Table.TheVariants as table
use Rattle.mx_layout.specs.declared.fault.TableFault.{TableFault}
use Rattle.mx_layout.specs.declared.fault.TableFault.TheVariants.{Memory, Damaged}
use Rattle.mx_layout.specs.Crash.{StaysInside, IsWithin}
use Rattle.mx_layout.specs.Tables.{fit1, removal1}
use Rattle.mx_layout.proofs.CrashLemmas.{stays_then, within_then}
use Rattle.mx_layout.specs.kept.Cells.{kept_fit1, kept_removal1}
use Rattle.mx_layout.specs.kept.Family.{IsReadableAs}
use Rattle.mx_layout.specs.kept.Schemas.{HasFittings}
use Rattle.mx_table_rows.specs.chosen.Calls.{ReadsFirst}
use Rattle.mx_table_rows.specs.chosen.Choices.{AreFirst}
use Rattle.mx_book_tables.specs.stands.Schemas.{schema_at}
use Rattle.mx_moves.specs.Changes.{Alters}
use Rattle.mx_moves.specs.steps.Components.{AreFittings, AreRemovals, IsComponentOff, MovesComponent, component_moved, is_of_component}
use Rattle.mx_moves.specs.steps.Pairing.{spans_made}
use Rattle.mx_migrate.specs.Steps.{Runs}
use Rattle.mx_moves.proofs.StepsProofs.PageLemmas.{chosen_damaged}
use Rattle.mx_tables.proofs.InsertsProofs.SetLemmas.{on_read_weaker}
use Rattle.mx_migrate.proofs.RunLemmas.{Reaching, memory_stops, read_stops, writes_behind}

abbrev pub Shifts : ℕ → ℕ → State → State → Result Point TableFault → Type 0
Shifts mark component = Runs (λ at. at ≡ moving 2 mark) (λ at to. MovesComponent component to) (λ at. IsComponentOff component)

-- the fittings of the component were read
abbrev pub ReadsFittings : {V : Type 0} → ℕ → (V → List FittingRow) → State → State → Result V TableFault → Type 0
ReadsFittings component items = ReadsFirst kept_fit1 None kept_fit1.order (is_of_component component) items

-- its removals were read
abbrev pub ReadsRemovals : {V : Type 0} → ℕ → (V → List RemovalRow) → State → State → Result V TableFault → Type 0
ReadsRemovals component items = ReadsFirst kept_removal1 None kept_removal1.order (is_of_component component) items

pub has_fittings : (mark : ℕ) → HasFittings (schema_at (moving 2 mark))
has_fittings mark = inr (record { rest = _; more = _; is = refl })

has_both : (mark : ℕ) (at : Point) (old : State) → at ≡ moving 2 mark → old.now.schema ≡ schema_at at → HasFittings old.now.schema
has_both mark at old here has = subst HasFittings (sym (has ∙ ap schema_at here)) (has_fittings mark)

-- ── the fittings were not read ──

pub fittings_stop : {V : Type 0} (mark component : ℕ) (items : V → List FittingRow) (old new : State) (e : TableFault) → ReadsFittings component items old new (Err e) → Shifts mark component old new (Err e)
fittings_stop mark component items old new e r = read_stops _ _ _ table.Fit1 old new e r.cause
    (λ clean at here has damaged. inl (inl refl, chosen_damaged kept_fit1.order fit1 (is_of_component component) old.now.trees (IsReadableAs kept_fit1) (r.damaged clean (has_both mark at old here has) (ap Err damaged)))) r.inside r.within

module _ {V : Type 0} (mark component : ℕ) (fittings : V → List FittingRow) (old one : State) (v : V) (r : ReadsFittings component fittings old one (Ok v)) where
  begun_one : HasCleanDisk one → IsTrue old.in_transaction → IsTrue one.in_transaction
  begun_one clean begun = (r.inside clean begun).mode

  fitted : HasCleanDisk one → HasFittings old.now.schema → AreFittings component old.now.trees (fittings v)
  fitted clean has = record { all = r.rows clean has; fit = r.fits }

  same_one : HasCleanDisk one → HasFittings old.now.schema → one.now ≡ old.now
  same_one clean has = (r.unchanged clean has).0.now_is

  module _ {W : Type 0} (removals : W → List RemovalRow) (two : State) where
    -- ── the removals were not read ──

    pub removals_stop : (e : TableFault) → ReadsRemovals component removals one two (Err e) → Shifts mark component old two (Err e)
    removals_stop e q =
        let early : HasCleanDisk two → HasCleanDisk one = λ clean. omega (arith, q.within.survives.clean) in
        read_stops _ _ _ table.Removal1 old two e q.cause
        (λ clean at here has damaged.
        let there = has_both mark at old here has in
        let now = same_one (early clean) there in
        let other = q.damaged clean (subst (λ (d : Database). HasFittings d.schema) (sym now) there) (ap Err damaged) in
        inl (inr refl, chosen_damaged kept_removal1.order removal1 (is_of_component component) old.now.trees (IsReadableAs kept_removal1) (other.0, subst (λ (d : Database). AreFirst None kept_removal1.order removal1 (is_of_component component) d.trees other.0) now other.1, other.2)))
        (λ clean begun. (let stays = r.inside (early clean) begun in on_read_weaker {T = W} (Err e) (stays_then old one two stays) (q.inside clean stays.mode))) (within_then old one two r.within begun_one q.within)

    module _ (w : W) (q : ReadsRemovals component removals one two (Ok w)) where
      early_two : HasCleanDisk two → HasCleanDisk one
      early_two clean = omega (arith, q.within.survives.clean)

      removed : HasCleanDisk two → HasFittings old.now.schema → AreRemovals component old.now.trees (removals w)
      removed clean has =
          let now = same_one (early_two clean) has in
          let read : AreRemovals component one.now.trees (removals w) = record { all = q.rows clean (subst (λ (d : Database). HasFittings d.schema) (sym now) has); fit = q.fits } in
          subst (λ (d : Database). AreRemovals component d.trees (removals w)) now read

      within_two : IsWithin old two
      within_two = within_then old one two r.within begun_one q.within

      inside_two : HasCleanDisk two → IsTrue old.in_transaction → StaysInside old two
      inside_two clean begun = (let stays = r.inside (early_two clean) begun in stays_then old one two stays (q.inside clean stays.mode))

      -- ── both were read, and they make no spans ──

      pairs_stop : (name : TableName) → spans_made (fittings v) (removals w) ≡ Err name → Shifts mark component old two (Err (Damaged name))
      pairs_stop name off = record {
        made = λ _ _ _ _ _ _. tt;
        cause = inr (inr (name, refl));
        damaged = λ clean at here has other is.
            let there = has_both mark at old here has in
            let same : name ≡ other = cc in
            inr (fittings v, removals w, fitted (early_two clean) there, removed clean there, off ∙ ap Err same);
        inside = inside_two;
        within = within_two;
      }

      pairs_full : Shifts mark component old two (Err Memory)
      pairs_full = memory_stops _ _ _ old two within_two

      pub pairs_fail : (e : TableFault) → (e ≡ Memory) ⊎ ((name : TableName) × (e ≡ Damaged name) × (spans_made (fittings v) (removals w) ≡ Err name)) → Shifts mark component old two (Err e)
      pairs_fail e (inl memory) = subst (λ f. Shifts mark component old two (Err f)) (sym memory) pairs_full
      pairs_fail e (inr damaged) = subst (λ f. Shifts mark component old two (Err f)) (sym damaged.1) (pairs_stop damaged.0 damaged.2)

      -- ── they were moved ──

      pub component_moves : {U : Type 0} (new : State) (to : Point) (spans : List SpanRow) (ran : Result U TableFault) (result : Result Point TableFault) → Reaching to ran result → spans_made (fittings v) (removals w) ≡ Ok spans → to ≡ moving 2 component
          → Alters (schema_at (moving 2 0)) (schema_at (moving 2 0)) (component_moved spans to) two new ran → Shifts mark component old new result
      component_moves {U} new to spans ran result answered pairs is a = writes_behind _ _ _ (moving 2 mark) to (λ at here. here) (component_moved spans to) old two
          (λ clean at here has.
          let there = has_both mark at old here has in
          let first = same_one (early_two clean) there in
          (q.unchanged clean (subst (λ (d : Database). HasFittings d.schema) (sym first) there)).0.now_is ∙ first)
          inside_two within_two new
          (λ clean at here has lies made.
          let there = has_both mark at old here has in
          record { fittings = fittings v; removals = removals w; spans = spans; fitted = fitted (early_two clean) there; removed = removed clean there; made_of = pairs; point = is; made = made })
          ran result answered (subst (λ p. Alters {V = U} (schema_at (moving 2 0)) (schema_at p) (component_moved spans to) two new ran) (sym is) a)
