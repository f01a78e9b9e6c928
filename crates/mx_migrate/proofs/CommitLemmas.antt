-- From the law of a step to its commit, whatever the step is.
use Rattle.std.proofs.Common.{◌≡◌, ◌⊎◌, inl, inr, true, false, IsTrue, List, Ok, Err, Result, refl, sym, ap, subst, ◌∙◌, arith}
use Rattle.sqlite.specs.Store.{Ghosts}
use Rattle.sqlite.specs.Tree.{Trees}
use Rattle.sqlite.specs.State.{HasCleanDisk, Shows, Survives, IsRolledBack}
use Rattle.sqlite.specs.Held.{Held, state}
use Rattle.sqlite.proofs.Callers.{survives_begin}
use Rattle.sqlite.proofs.StateLemmas.{survives_then}
use Rattle.mx_book.specs.commands.Act.{Entry}
use Rattle.mx_base.specs.declared.point.Point.{Point}
use Rattle.mx_moves.specs.steps.Next.{next_in_move}
use Rattle.mx_layout.specs.TableName.{TableName}
use Rattle.mx_layout.specs.declared.fault.TableFault.{TableFault}
use Rattle.mx_layout.specs.declared.fault.TableFault.TheVariants as fault
use Rattle.mx_layout.specs.Crash.{Leaves, RestsAs, StaysInside, IsWithin, ChangesNothing}
use Rattle.mx_layout.proofs.CrashLemmas.{IsSettled, commits_either, commits_ok, dropped}
use Rattle.mx_book_tables.specs.stands.Schemas.{schema_at}
use Rattle.mx_book_tables.specs.stands.Stands.{LiesAt, StandsAt, RestsAt}
use Rattle.mx_tables.specs.Calls.{OnDamaged}
use Rattle.mx_faults.specs.declared.moving.MoveFault.{MoveFault}
use Rattle.mx_faults.specs.declared.moving.MoveFault.TheVariants as stop
use Rattle.mx_faults.specs.Moving.{fault_from}
use Rattle.mx_migrate.specs.Steps.{Runs, CommitsStep, LeavesOneBook}

-- a fault of a move that is damage is that of the tables
pub damage_from : (e : TableFault) (name : TableName) → fault_from e ≡ stop.Damaged name → e ≡ fault.Damaged name
damage_from fault.Memory name is = absurd cc
damage_from fault.Store name is = absurd cc
damage_from fault.NotOurs name is = absurd cc
damage_from fault.Exists name is = absurd cc
damage_from (fault.Damaged other) name is = let same : other ≡ name = cc in ap fault.Damaged same

module _ {S : Type 0} (g : Ghosts S) (old last : Held S) where
  abbrev begun : Held S
  begun = record old { in_transaction = true }

  -- a transaction that is dropped leaves everything as it was
  drops_nothing : IsWithin (state g begun) (state g last) → (end : Held S) → Survives (state g last) (state g end) (λ _. ⊥) → (HasCleanDisk (state g end) → IsRolledBack (state g last) (state g end)) → ChangesNothing (state g old) (state g end)
  drops_nothing within end drop back =
      let mid : HasCleanDisk (state g end) → HasCleanDisk (state g last) = λ clean. omega (arith, drop.clean) in
      record {
        survives = survives_begin g old (state g end) (λ _. ⊥) (survives_then (state g begun) (state g last) (state g end) (λ _. ⊥) (λ _. ⊥) (λ _. ⊥) (λ _ _ none. none) (λ _ _ none. none) within.survives drop);
        was_open = λ clean is_open. (within.kept (mid clean) refl).was_open ((back clean).was_open is_open);
        now_is = λ clean is_open. ((back clean).undone is_open).0 ∙ (within.kept (mid clean) refl).committed ((back clean).was_open is_open);
        committed_is = λ clean is_open. ((back clean).undone is_open).1 ∙ (within.kept (mid clean) refl).committed ((back clean).was_open is_open);
      }

  module _ (IsAt : Point → Type 0) (IsDue : Point → List Entry → Type 0) (Makes : Point → Point → Trees → Trees → Type 0) (IsOff : Point → TableName → Trees → Type 0)
      (moves : (at to : Point) (book : List Entry) (before after : Trees) → IsAt at → IsDue at book → StandsAt at before book → Makes at to before after → (to ≡ next_in_move at book) × StandsAt to after book)
      (whole : (at : Point) (book : List Entry) (name : TableName) (trees : Trees) → IsAt at → IsDue at book → StandsAt at trees book → IsOff at name trees → ⊥) where
    -- ── the step did not answer ──

    module _ (e : TableFault) (runs : Runs IsAt Makes IsOff (state g begun) (state g last) (Err e)) (end : Held S) (drop : Survives (state g last) (state g end) (λ _. ⊥)) (back : HasCleanDisk (state g end) → IsRolledBack (state g last) (state g end)) where
      mid : HasCleanDisk (state g end) → HasCleanDisk (state g last)
      mid clean = omega (arith, drop.clean)

      early : HasCleanDisk (state g end) → HasCleanDisk (state g old)
      early clean = omega (arith, drop.clean, runs.within.survives.clean)

      -- a table that is damaged was read, so the connection was open
      was_open : (name : TableName) → e ≡ fault.Damaged name → HasCleanDisk (state g end) → IsTrue (state g old).is_open
      was_open name is clean = (subst (λ f. OnDamaged f (StaysInside (state g begun) (state g last))) is (runs.inside (mid clean) refl)).was_open

      off : (at : Point) → RestsAs (state g old) (schema_at at) (LiesAt at) → (HasCleanDisk (state g old) → IsAt at) → HasCleanDisk (state g end) → (name : TableName) → e ≡ fault.Damaged name → IsOff at name (state g old).now.trees
      off at rests here clean name is = runs.damaged (mid clean) at (here (early clean)) (rests.schema (early clean) (was_open name is clean)) name (ap Err is)

      rest : (at : Point) (book : List Entry) → RestsAt at (state g old) book → RestsAt at (state g end) book
      rest at book rests = dropped g (schema_at at) (schema_at at) (λ trees. StandsAt at trees book) (λ trees. StandsAt at trees book) old begun last refl rests runs.within end drop back

      -- the same tables, of which less is known
      lie : (at : Point) (book : List Entry) → RestsAt at (state g old) book → RestsAs (state g old) (schema_at at) (LiesAt at)
      lie at book rests = record { schema = rests.schema; tables = λ clean is_open. (rests.tables clean is_open).lies; settled = rests.settled; crash = λ clean db may. (rests.crash clean db may).lies }

      why : (fault_from e ≡ stop.Memory) ⊎ ((fault_from e ≡ stop.Store) ⊎ ((name : TableName) × (fault_from e ≡ stop.Damaged name)))
      why = elim runs.cause [ inl memory ↦ inl (ap fault_from memory) | inr other ↦ elim other [ inl store ↦ inr (inl (ap fault_from store)) | inr damaged ↦ inr (inr (damaged.0, ap fault_from damaged.1)) ] ]

      not_off : (at : Point) (book : List Entry) → RestsAt at (state g old) book → (HasCleanDisk (state g old) → IsAt at × IsDue at book) → HasCleanDisk (state g end) → (fault_from e ≡ stop.Memory) ⊎ (fault_from e ≡ stop.Store)
      not_off at book rests due clean = elim runs.cause [
        | inl memory ↦ inl (ap fault_from memory)
        | inr other ↦ elim other [
          | inl store ↦ inr (ap fault_from store)
          | inr damaged ↦ (let now = due (early clean) in
              absurd (whole at book damaged.0 (state g old).now.trees now.0 now.1 (rests.tables (early clean) (was_open damaged.0 damaged.1 clean)) (off at (lie at book rests) (λ c. (due c).0) clean damaged.0 damaged.1)))
        ]
      ]

      stops : CommitsStep IsAt IsDue Makes IsOff (state g old) (state g end) (Err (fault_from e))
      stops = record {
        clean = omega (arith, drop.clean, runs.within.survives.clean);
        cause = why;
        untouched = λ _. drops_nothing runs.within end drop back;
        opened = λ _. tt;
        made = λ _ _ _. tt;
        left = λ at rests here clean db may. elim (drop.crash clean db may) [
          | inl before ↦ elim (runs.within.survives.crash (mid clean) db before) [ inl first ↦ inl first | inr none ↦ absurd none ]
          | inr none ↦ absurd none
        ];
        damaged = λ at rests here clean name is. (was_open name (damage_from e name is) clean, off at rests here clean name (damage_from e name is));
        moved = λ _ _ _ _ _. tt;
        kept = λ _ _ _ _. tt;
        same = λ at book rests _. rest at book rests;
        whole = not_off;
      }

      stops_whole : LeavesOneBook IsAt IsDue (state g old) (state g end)
      stops_whole at book rests due clean db may = inl ((rest at book rests).crash clean db may)

    -- ── the step answered the point ──

    module _ (p : Point) (runs : Runs IsAt Makes IsOff (state g begun) (state g last) (Ok p)) where
      ran : HasCleanDisk (state g last) → (at : Point) → IsAt at → (state g begun).now.schema ≡ schema_at at → LiesAt at (state g begun).now.trees → ((state g last).now.schema ≡ schema_at p) × Makes at p (state g old).now.trees (state g last).now.trees
      ran clean at here has lies = runs.made clean (refl, (runs.inside clean refl).was_open) at here has lies

      stood : HasCleanDisk (state g last) → (at : Point) (book : List Entry) → (HasCleanDisk (state g old) → IsAt at × IsDue at book) → (state g begun).now.schema ≡ schema_at at → StandsAt at (state g begun).now.trees book
          → (p ≡ next_in_move at book) × ((state g last).now.schema ≡ schema_at (next_in_move at book)) × StandsAt (next_in_move at book) (state g last).now.trees book
      stood clean at book due has stands =
          let now = due (omega (arith, runs.within.survives.clean)) in
          let it = ran clean at now.0 has stands.lies in
          let law = moves at p book (state g old).now.trees (state g last).now.trees now.0 now.1 stands it.1 in
          (law.0, subst (λ q. (state g last).now.schema ≡ schema_at q) law.0 it.0, subst (λ q. StandsAt q (state g last).now.trees book) law.0 law.1)

      module _ (end : Held S) (commit : Survives (state g last) (state g end) (λ db. db ≡ (state g last).now.trees)) where
        late : HasCleanDisk (state g end) → HasCleanDisk (state g last)
        late clean = omega (arith, commit.clean)

        first : HasCleanDisk (state g end) → HasCleanDisk (state g old)
        first clean = omega (arith, commit.clean, runs.within.survives.clean)

        opened : HasCleanDisk (state g end) → IsTrue (state g old).is_open
        opened clean = (runs.inside (late clean) refl).was_open

        commits_whole : LeavesOneBook IsAt IsDue (state g old) (state g end)
        commits_whole at book rests due =
            commits_either g (schema_at at) (schema_at (next_in_move at book)) (λ trees. StandsAt at trees book) (λ trees. StandsAt (next_in_move at book) trees book) old begun last refl rests runs.within runs.inside
            (λ clean within has stands. (let it = stood clean at book due has stands in (it.1, it.2))) end commit

        left : (at : Point) → RestsAs (state g old) (schema_at at) (LiesAt at) → (HasCleanDisk (state g old) → IsAt at) → Leaves (state g end) (λ db. (state g old).may_leave db ⊎ (IsTrue (state g old).is_open × ((to : Point) × Makes at to (state g old).now.trees db)))
        left at rests here clean db may = elim (commit.crash clean db may) [
          | inl before ↦ elim (runs.within.survives.crash (late clean) db before) [ inl one ↦ inl one | inr none ↦ absurd none ]
          | inr new ↦ inr (opened clean, (p, subst (Makes at p (state g old).now.trees) (sym new) (ran (late clean) at (here (first clean)) (rests.schema (first clean) (opened clean)) (rests.tables (first clean) (opened clean))).1))
        ]

        -- whether it was kept is not known
        commits_in_doubt : CommitsStep IsAt IsDue Makes IsOff (state g old) (state g end) (Err stop.Store)
        commits_in_doubt = record {
          clean = omega (arith, commit.clean, runs.within.survives.clean);
          cause = inr (inl refl);
          untouched = λ other. absurd (other refl);
          opened = λ _. tt;
          made = λ _ _ _. tt;
          left = left;
          damaged = λ _ _ _ _ name is. absurd cc;
          moved = λ _ _ _ _ _. tt;
          kept = λ _ _ _ _. tt;
          same = λ _ _ _ other. absurd (other refl);
          whole = λ _ _ _ _ _. inr refl;
        }

        commits : IsSettled g → (HasCleanDisk (state g end) → Shows (state g last) (state g end) (state g last).now (state g last).now false) → CommitsStep IsAt IsDue Makes IsOff (state g old) (state g end) (Ok p)
        commits settled shown = record {
          clean = omega (arith, commit.clean, runs.within.survives.clean);
          cause = tt;
          untouched = tt;
          opened = λ clean. (opened clean, (shown clean).is_open);
          made = λ at rests here.
              commits_ok g (schema_at at) (schema_at p) (LiesAt at) (Makes at p (state g old).now.trees) old begun last refl rests runs.within runs.inside
              (λ clean within has lies. ran clean at (here (omega (arith, runs.within.survives.clean))) has lies) end commit settled shown;
          left = left;
          damaged = λ _ _ _ _. tt;
          moved = λ at book rests due clean. (stood (late clean) at book due (rests.schema (first clean) (opened clean)) (rests.tables (first clean) (opened clean))).0;
          kept = λ at book rests due.
              commits_ok g (schema_at at) (schema_at (next_in_move at book)) (λ trees. StandsAt at trees book) (λ trees. StandsAt (next_in_move at book) trees book) old begun last refl rests runs.within runs.inside
              (λ clean within has stands. (let it = stood clean at book due has stands in (it.1, it.2))) end commit settled shown;
          same = λ _ _ _. tt;
          whole = λ _ _ _ _ _. tt;
        }

-- ── the same of a transaction that began so, and of the connection as it is had back ──

module _ {S : Type 0} (g : Ghosts S) (old tx last end final : Held S) (began : tx ≡ record old { in_transaction = true }) (back : end ≡ final)
    (IsAt : Point → Type 0) (IsDue : Point → List Entry → Type 0) (Makes : Point → Point → Trees → Trees → Type 0) (IsOff : Point → TableName → Trees → Type 0)
    (moves : (at to : Point) (book : List Entry) (before after : Trees) → IsAt at → IsDue at book → StandsAt at before book → Makes at to before after → (to ≡ next_in_move at book) × StandsAt to after book)
    (whole : (at : Point) (book : List Entry) (name : TableName) (trees : Trees) → IsAt at → IsDue at book → StandsAt at trees book → IsOff at name trees → ⊥) where
  abbrev Commits : Held S → Result Point MoveFault → Type 0
  Commits h result = CommitsStep IsAt IsDue Makes IsOff (state g old) (state g h) result

  abbrev LeavesIt : Held S → Type 0
  LeavesIt h = LeavesOneBook IsAt IsDue (state g old) (state g h)

  started : (result : Result Point TableFault) → Runs IsAt Makes IsOff (state g tx) (state g last) result → Runs IsAt Makes IsOff (state g (begun g old last)) (state g last) result
  started result runs = subst (λ h. Runs IsAt Makes IsOff (state g h) (state g last) result) began runs

  module _ (e : TableFault) (f : MoveFault) (told : f ≡ fault_from e) (runs : Runs IsAt Makes IsOff (state g tx) (state g last) (Err e)) (drop : Survives (state g last) (state g end) (λ _. ⊥)) (undone : HasCleanDisk (state g end) → IsRolledBack (state g last) (state g end)) where
    pub step_stops : Commits final (Err f) × LeavesIt final
    step_stops = (
      subst (λ h. Commits h (Err f)) back (subst (λ x. Commits end (Err x)) (sym told) (stops g old last IsAt IsDue Makes IsOff moves whole e (started (Err e) runs) end drop undone)),
      subst LeavesIt back (stops_whole g old last IsAt IsDue Makes IsOff moves whole e (started (Err e) runs) end drop undone),
    )

  module _ (p : Point) (runs : Runs IsAt Makes IsOff (state g tx) (state g last) (Ok p)) (commit : Survives (state g last) (state g end) (λ db. db ≡ (state g last).now.trees)) where
    leaves : LeavesIt final
    leaves = subst LeavesIt back (commits_whole g old last IsAt IsDue Makes IsOff moves whole p (started (Ok p) runs) end commit)

    pub step_commits : IsSettled g → (HasCleanDisk (state g end) → Shows (state g last) (state g end) (state g last).now (state g last).now false) → Commits final (Ok p) × LeavesIt final
    step_commits settled shown = (subst (λ h. Commits h (Ok p)) back (commits g old last IsAt IsDue Makes IsOff moves whole p (started (Ok p) runs) end commit settled shown), leaves)

    pub step_in_doubt : Commits final (Err stop.Store) × LeavesIt final
    step_in_doubt = (subst (λ h. Commits h (Err stop.Store)) back (commits_in_doubt g old last IsAt IsDue Makes IsOff moves whole p (started (Ok p) runs) end commit), leaves)
