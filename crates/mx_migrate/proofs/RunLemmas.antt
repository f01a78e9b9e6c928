-- What the statements of a step do, from what each call does.
use Rattle.std.proofs.Common.{◌≡◌, ◌⊎◌, All, inl, inr, ℕ, Bool, true, false, ◌&&◌, List, [], ◌∷◌, map, filter, pos, Some, Ok, Err, Result, IsTrue, refl, sym, ap, subst, ◌∙◌, ◌<◌, arith}
use Rattle.std.specs.Prelude.{Contains, IsErrAnd, MatchResult}
use Rattle.std.specs.List.{list_all}
use Rattle.std.proofs.lemmas.List.{length-map}
use lib.ListN.{get_or-map}
use Rattle.std.proofs.lemmas.List.Elements.{Contains-append_right}
use Rattle.sqlite.specs.declared.types.Value.TheVariants.{Int}
use Rattle.sqlite.specs.Order.{Row}
use Rattle.sqlite.specs.Tree.{Trees}
use Rattle.sqlite.specs.Effect.{Database}
use Rattle.sqlite.specs.State.{State, HasCleanDisk}
use Rattle.mx_base.specs.declared.rows.rows.DeferralRow.{DeferralRow}
use Rattle.mx_base.specs.declared.rows.rows.Deferral3Row.{Deferral3Row}
use Rattle.mx_base.specs.declared.rows.rows.SectorRow.{SectorRow}
use Rattle.mx_base.specs.declared.point.Point.{Point}
use Rattle.mx_registers.specs.points.Moves.{last_moved}
use Rattle.mx_registers.specs.points.Points.{moving, moving_from}
use Rattle.mx_layout.specs.TableName.{TableName}
use Rattle.mx_layout.specs.declared.fault.Table.TheVariants as table
use Rattle.mx_layout.specs.declared.fault.TableFault.{TableFault}
use Rattle.mx_layout.specs.declared.fault.TableFault.TheVariants.{Memory, Store, Damaged}
use Rattle.mx_layout.specs.Contents.{rows_in}
use Rattle.mx_layout.specs.Crash.{IsWithin, StaysInside}
use Rattle.mx_tables.specs.Calls.{OnDamaged}
use Rattle.mx_tables.specs.inserts.Sets.{IsDamaged}
use Rattle.mx_layout.specs.Names.{table_named}
use Rattle.mx_layout.specs.Reading.{HasOther}
use Rattle.mx_layout.specs.Tables.{defect, sector1}
use Rattle.mx_layout.proofs.CrashLemmas.{stays_then, within_then}
use Rattle.mx_layout.specs.kept.Cells.{kept_defect, kept_sector1}
use Rattle.mx_layout.specs.kept.Kept.{Kept}
use Rattle.mx_layout.specs.kept.Family.{IsReadableAs}
use Rattle.mx_layout.specs.kept.Schemas.{HasOwn1}
use Rattle.mx_table_rows.specs.chosen.Calls.{ReadsFirst}
use Rattle.mx_table_rows.specs.chosen.Choices.{AreFirst, is_any, is_up_to}
use Rattle.mx_book_tables.specs.stands.Schemas.{schema_at}
use Rattle.mx_book_tables.specs.stands.Stands.{LiesAt}
use Rattle.mx_moves.specs.Changes.{Alters, AllRise, Reaches, WasOpen}
use Rattle.mx_moves.specs.steps.Sectors.{is_next_from, sectors_moved, MovesSectors, IsOldOff}
use Rattle.mx_book_tables.specs.reading.Deferrals.{deferrals_in}
use Rattle.mx_moves.specs.steps.Deferrals.{AreOthers, deferrals_moved, is_deferral_next, IsDeferralOff, MovesDeferrals}
use Rattle.mx_migrate.specs.Steps.{Runs}
use Rattle.mx_migrate.proofs.LaterLemmas.{has_deferrals}
use Rattle.mx_moves.specs.steps.Rows.{MakesRows}
use Rattle.mx_moves.proofs.StepsProofs.FrontLemmas.{front_is}
use Rattle.mx_moves.proofs.StepsProofs.PageLemmas.{among, page_damaged}
use Rattle.mx_moves.proofs.StepsProofs.SectorLemmas.{seq_of}
use Rattle.mx_book_tables.proofs.StandsProofs.SchemaLemmas.{has_tables}
use Rattle.mx_moves.proofs.StepsProofs.StandsLemmas.{reaches_rows}

module _ (IsAt : Point → Type 0) (Makes : Point → Point → Trees → Trees → Type 0) (IsOff : Point → TableName → Trees → Type 0) (old new : State) (within : IsWithin old new) where
  -- the store stopped the statements that write
  pub store_stops : Runs IsAt Makes IsOff old new (Err Store)
  store_stops = record { made = λ _ _ _ _ _ _. tt; cause = inr (inl refl); damaged = λ _ _ _ _ name is. absurd cc; inside = λ _ _. tt; within = within }

  -- there was no room
  pub memory_stops : Runs IsAt Makes IsOff old new (Err Memory)
  memory_stops = record { made = λ _ _ _ _ _ _. tt; cause = inl refl; damaged = λ _ _ _ _ name is. absurd cc; inside = λ _ _. tt; within = within }

-- a call that stopped with this fault
pub stopped_by : (IsAt : Point → Type 0) (Makes : Point → Point → Trees → Trees → Type 0) (IsOff : Point → TableName → Trees → Type 0) (old new : State) (e : TableFault) (result : Result Point TableFault) → IsErrAnd result (λ f. f ≡ e) → Runs IsAt Makes IsOff old new (Err e) → Runs IsAt Makes IsOff old new result
stopped_by IsAt Makes IsOff old new e (Ok p) is runs = absurd is
stopped_by IsAt Makes IsOff old new e (Err f) is runs = subst (λ x. Runs IsAt Makes IsOff old new (Err x)) (sym is) runs

-- a table that was to be read was not: for want of memory, for the store, or because the table with this name is damaged
pub read_stops : (IsAt : Point → Type 0) (Makes : Point → Point → Trees → Trees → Type 0) (IsOff : Point → TableName → Trees → Type 0) (name : TableName) (old new : State) (e : TableFault)
    → (e ≡ Memory) ⊎ ((e ≡ Store) ⊎ (e ≡ Damaged name)) → (HasCleanDisk new → (at : Point) → IsAt at → old.now.schema ≡ schema_at at → e ≡ Damaged name → IsOff at name old.now.trees)
    → (HasCleanDisk new → IsTrue old.in_transaction → OnDamaged e (StaysInside old new)) → IsWithin old new → Runs IsAt Makes IsOff old new (Err e)
read_stops IsAt Makes IsOff name old new e why off inside within = record {
  made = λ _ _ _ _ _ _. tt;
  cause = elim why [ inl memory ↦ inl memory | inr other ↦ elim other [ inl store ↦ inr (inl store) | inr damaged ↦ inr (inr (name, damaged)) ] ];
  damaged = λ clean at is has other same. by why clean at is has other same;
  inside = inside;
  within = within;
}
  where
    by : (e ≡ Memory) ⊎ ((e ≡ Store) ⊎ (e ≡ Damaged name)) → HasCleanDisk new → (at : Point) → IsAt at → old.now.schema ≡ schema_at at → (other : TableName) → ◌≡◌ {A = Result Point TableFault} (Err e) (Err (Damaged other)) → IsOff at other old.now.trees
    by (inl memory) clean at is has other same = absurd cc
    by (inr (inl store)) clean at is has other same = absurd cc
    by (inr (inr damaged)) clean at is has other same = let named : name ≡ other = cc in subst (λ n. IsOff at n old.now.trees) named (off clean at is has damaged)

-- ── statements that write ──

-- the point that they lead to is answered where all ran, and else the store
abbrev pub Reaching : {U : Type 0} → Point → Result U TableFault → Result Point TableFault → Type 0
Reaching to ran result = MatchResult ran (λ _. result ≡ Ok to) (λ _. result ≡ Err Store)

module _ (IsAt : Point → Type 0) (Makes : Point → Point → Trees → Trees → Type 0) (IsOff : Point → TableName → Trees → Type 0) (here to : Point) (at_here : (at : Point) → IsAt at → at ≡ here) (onto : TableName → List Row → List Row) where
  abbrev Ran : State → State → Result Point TableFault → Type 0
  Ran old new result = Runs IsAt Makes IsOff old new result

  -- none before them: they lead from the one point to the other, and what they make of any rows is what the step makes of them
  pub writes_alone : {U : Type 0} → ((at : Point) (before after : Trees) → MakesRows onto to before after → Makes at to before after) → (old new : State) (ran : Result U TableFault) (result : Result Point TableFault)
      → Reaching to ran result → WasOpen old new ran → Alters (schema_at here) (schema_at to) onto old new ran → Ran old new result
  writes_alone makes old new (Ok u) result answered opened w = subst (λ a. Ran old new a) (sym answered) (record {
    made = λ clean entered at is has lies.
        let has_now = has ∙ ap schema_at (at_here at is) in
        let lies_now = subst (λ q. LiesAt q old.now.trees) (at_here at is) lies in
        let it = reaches_rows here to onto old.now new.now has_now lies_now (w.reaches clean entered has_now lies_now.rises) in
        (it.0, makes at old.now.trees new.now.trees it.1);
    cause = tt;
    damaged = λ _ _ _ _ name never. absurd cc;
    inside = λ clean begun. w.inside clean (begun, opened clean begun);
    within = w.within;
  })
  writes_alone makes old new (Err e) result answered opened w = subst (λ a. Ran old new a) (sym answered) (store_stops IsAt Makes IsOff old new w.within)

  -- behind what was read, and changed nothing
  module _ (old mid : State) (unchanged : HasCleanDisk mid → (at : Point) → IsAt at → old.now.schema ≡ schema_at at → mid.now ≡ old.now) (stays : HasCleanDisk mid → IsTrue old.in_transaction → StaysInside old mid) (within : IsWithin old mid) where
    pub writes_behind : {U : Type 0} (new : State) → (HasCleanDisk mid → (at : Point) → IsAt at → old.now.schema ≡ schema_at at → LiesAt here old.now.trees → MakesRows onto to old.now.trees new.now.trees → Makes at to old.now.trees new.now.trees)
        → (ran : Result U TableFault) (result : Result Point TableFault) → Reaching to ran result → Alters (schema_at here) (schema_at to) onto mid new ran → Ran old new result
    writes_behind new makes (Ok u) result answered w =
        let early : HasCleanDisk new → HasCleanDisk mid = λ clean. omega (arith, w.within.survives.clean) in
        subst (λ a. Ran old new a) (sym answered) (record {
          made = λ clean entered at is has lies.
              let has_now : old.now.schema ≡ schema_at here = has ∙ ap schema_at (at_here at is) in
              let same : mid.now ≡ old.now = unchanged (early clean) at is has in
              let open_mid = stays (early clean) entered.0 in
              let lies_now = subst (λ q. LiesAt q old.now.trees) (at_here at is) lies in
              let rise : AllRise (schema_at here) mid.now.trees = subst (λ (d : Database). AllRise (schema_at here) d.trees) (sym same) lies_now.rises in
              let reached = w.reaches clean (open_mid.mode, open_mid.is_open) (ap (λ (d : Database). d.schema) same ∙ has_now) rise in
              let it = reaches_rows here to onto old.now new.now has_now lies_now (subst (λ d. Reaches (schema_at to) onto d new.now) same reached) in
              (it.0, makes (early clean) at is has lies_now it.1);
          cause = tt;
          damaged = λ _ _ _ _ name never. absurd cc;
          inside = λ clean begun. (let open_mid = stays (early clean) begun in stays_then old mid new open_mid (w.inside clean (open_mid.mode, open_mid.is_open)));
          within = within_then old mid new within (λ clean begun. (stays clean begun).mode) w.within;
        })
    writes_behind new makes (Err e) result answered w = subst (λ a. Ran old new a) (sym answered) (store_stops IsAt Makes IsOff old new (within_then old mid new within (λ clean begun. (stays clean begun).mode) w.within))

-- ── rows that move, the first 64 of a table ──

-- they were read
abbrev pub ReadsPage : {X V : Type 0} → Kept X → (V → List X) → State → State → Result V TableFault → Type 0
ReadsPage k items = ReadsFirst k (Some 64) k.order is_any items

-- they are these
abbrev pub IsPage : {X : Type 0} → Kept X → Trees → List X → Type 0
IsPage k trees rows = AreFirst (Some 64) k.order (table_named k.name) is_any trees (map k.as_cells rows)

-- one of them fails the test
pub some_fails : {X : Type 0} (p : X → Bool) (xs : List X) → list_all p xs ≡ false → (x : X) × Contains xs x × (p x ≡ false)
some_fails p [] e = absurd cc
some_fails p (x ∷ xs) e = at (p x) refl (some_fails p xs)
  where
    at : (b : Bool) → p x ≡ b → (list_all p xs ≡ false → (y : _) × Contains xs y × (p y ≡ false)) → (y : _) × Contains (x ∷ xs) y × (p y ≡ false)
    at true h more = let rest = more (ap (λ b. b && list_all p xs) (sym h) ∙ e) in (rest.0, Contains-append_right (x ∷ []) xs rest.0 rest.1, rest.2)
    at false h more = (x, (0, omega arith, refl), h)

mapped_in : {X Y : Type 0} (f : X → Y) (xs : List X) (x : X) → Contains xs x → Contains (map f xs) (f x)
mapped_in f xs x (k, low, e) = (k, subst (λ n. k < n) (sym (length-map xs f)) low, get_or-map f xs k x ∙ ap f e)

-- one of the table fails it
pub one_fails : {X : Type 0} (k : Kept X) (p : X → Bool) (trees : Trees) (rows : List X) → IsPage k trees rows → list_all p rows ≡ false → (x : X) × Contains (rows_in (table_named k.name) trees) (k.as_cells x) × (p x ≡ false)
one_fails k p trees rows page fails =
    let one = some_fails p rows fails in
    (one.0, among 64 k.order (table_named k.name) trees (map k.as_cells rows) page (k.as_cells one.0) (mapped_in k.as_cells rows one.0 one.1), one.2)

module _ (IsAt : Point → Type 0) (Makes : Point → Point → Trees → Trees → Type 0) (IsOff : Point → TableName → Trees → Type 0) {X V : Type 0} (k : Kept X) (items : V → List X) (here : Point) (at_here : (at : Point) → IsAt at → at ≡ here) (there : k.IsIn (schema_at here)) where
  has_own : (at : Point) (old : State) → IsAt at → old.now.schema ≡ schema_at at → k.IsIn old.now.schema
  has_own at old is has = subst k.IsIn (sym (has ∙ ap schema_at (at_here at is))) there

  -- they were not read
  pub batch_stops : ((at : Point) (trees : Trees) → HasOther (IsReadableAs k) (rows_in (table_named k.name) trees) → IsOff at k.name trees) → (old new : State) (e : TableFault) → ReadsPage k items old new (Err e) → Runs IsAt Makes IsOff old new (Err e)
  batch_stops off old new e r = read_stops IsAt Makes IsOff k.name old new e r.cause
      (λ clean at is has damaged. off at old.now.trees (page_damaged 64 k.order (table_named k.name) old.now.trees (IsReadableAs k) (r.damaged clean (has_own at old is has) (ap Err damaged)))) r.inside r.within

  module _ (old mid : State) (v : V) (r : ReadsPage k items old mid (Ok v)) where
    -- there was no room for more
    pub batch_full : Runs IsAt Makes IsOff old mid (Err Memory)
    batch_full = memory_stops IsAt Makes IsOff old mid r.within

    -- the table is off
    pub batch_off : ((at : Point) → IsPage k old.now.trees (items v) → All k.Fits (items v) → IsOff at k.name old.now.trees) → Runs IsAt Makes IsOff old mid (Err (Damaged k.name))
    batch_off off = record {
      made = λ _ _ _ _ _ _. tt;
      cause = inr (inr (k.name, refl));
      damaged = λ clean at is has name told. (let same : k.name ≡ name = cc in subst (λ n. IsOff at n old.now.trees) same (off at (r.rows clean (has_own at old is has)) r.fits));
      inside = r.inside;
      within = r.within;
    }

    -- they were moved
    pub batch_moves : {U : Type 0} (new : State) (to : Point) (onto : TableName → List Row → List Row) (ran : Result U TableFault) (result : Result Point TableFault) → Reaching to ran result → Alters (schema_at here) (schema_at to) onto mid new ran
        → ((at : Point) → LiesAt here old.now.trees → IsPage k old.now.trees (items v) → MakesRows onto to old.now.trees new.now.trees → Makes at to old.now.trees new.now.trees) → Runs IsAt Makes IsOff old new result
    batch_moves new to onto ran result answered w makes =
        writes_behind IsAt Makes IsOff here to at_here onto old mid (λ clean at is has. (r.unchanged clean (has_own at old is has)).0.now_is) r.inside r.within new
        (λ clean at is has lies made. makes at lies (r.rows clean (has_own at old is has)) made) ran result answered w

-- ── sectors that move ──

abbrev pub Moves : ℕ → State → State → Result Point TableFault → Type 0
Moves mark = Runs (λ at. at ≡ moving 1 mark) (λ at to. MovesSectors mark to) (λ at. IsOldOff mark)

pub has_sectors : (mark : ℕ) → HasOwn1 (schema_at (moving 1 mark))
has_sectors mark = record { rest = _; more = _; is = refl }

module _ {V : Type 0} (mark : ℕ) (items : V → List SectorRow) where
  pub page_stops : (old new : State) (e : TableFault) → ReadsPage kept_sector1 items old new (Err e) → Moves mark old new (Err e)
  page_stops = batch_stops (λ at. at ≡ moving 1 mark) (λ at to. MovesSectors mark to) (λ at. IsOldOff mark) kept_sector1 items (moving 1 mark) (λ at here. here) (has_sectors mark) (λ at trees damaged. (refl, inl damaged))

  module _ (old mid : State) (v : V) (r : ReadsPage kept_sector1 items old mid (Ok v)) where
    -- one of them has moved before, or has a number that no entry has
    pub page_off : list_all (is_next_from mark) (items v) ≡ false → Moves mark old mid (Err (Damaged table.Sector1))
    page_off off =
        batch_off (λ at. at ≡ moving 1 mark) (λ at to. MovesSectors mark to) (λ at. IsOldOff mark) kept_sector1 items (moving 1 mark) (λ at here. here) (has_sectors mark) old mid v r
        (λ at page fits. (refl, inr (one_fails kept_sector1 (is_next_from mark) old.now.trees (items v) page off)))

    pub page_full : Moves mark old mid (Err Memory)
    page_full = batch_full (λ at. at ≡ moving 1 mark) (λ at to. MovesSectors mark to) (λ at. IsOldOff mark) kept_sector1 items (moving 1 mark) (λ at here. here) (has_sectors mark) old mid v r

    pub page_moves : {U : Type 0} (new : State) (to : Point) (ran : Result U TableFault) (result : Result Point TableFault) → Reaching to ran result → list_all (is_next_from mark) (items v) ≡ true → to ≡ moving 1 (last_moved (λ (row : SectorRow). row.seq) mark (items v))
        → Alters (schema_at (moving 1 0)) (schema_at (moving 1 0)) (sectors_moved (items v) to) mid new ran → Moves mark old new result
    page_moves {U} new to ran result answered next is w =
        batch_moves (λ at. at ≡ moving 1 mark) (λ at to. MovesSectors mark to) (λ at. IsOldOff mark) kept_sector1 items (moving 1 mark) (λ at here. here) (has_sectors mark) old mid v r new to (sectors_moved (items v) to) ran result answered
        (subst (λ q. Alters {V = U} (schema_at (moving 1 0)) (schema_at q) (sectors_moved (items v) to) mid new ran) (sym is) w)
        (λ at lies first made.
        let gone = ap (λ (q : Point). filter (is_up_to 0 (Int (pos q.mark))) (rows_in sector1 old.now.trees)) is
        ∙ front_is seq_of kept_sector1.as_cells (λ _. refl) sector1 (λ _. refl) 63 mark old.now.trees (items v) (lies.rises table.Sector1 ((has_tables (moving 1 mark) table.Sector1).0 refl)) first in
        record { rows = items v; first = first; fit = r.fits; next = next; point = is; gone = gone; made = made })

-- ── deferrals that move ──

abbrev pub MovesOn : ℕ → List Deferral3Row → State → State → Result Point TableFault → Type 0
MovesOn mark rows = Runs (λ at. at ≡ moving_from 2 1 mark) (λ at to. MovesDeferrals mark rows to) (λ at. IsDeferralOff mark rows)

module _ {V : Type 0} (mark : ℕ) (rows : List Deferral3Row) (items : V → List DeferralRow) where
  pub deferrals_stop : (old new : State) (e : TableFault) → ReadsPage kept_defect items old new (Err e) → MovesOn mark rows old new (Err e)
  deferrals_stop = batch_stops (λ at. at ≡ moving_from 2 1 mark) (λ at to. MovesDeferrals mark rows to) (λ at. IsDeferralOff mark rows) kept_defect items (moving_from 2 1 mark) (λ at here. here) (has_deferrals mark) (λ at trees damaged. (refl, inl damaged))

  module _ (old mid : State) (v : V) (r : ReadsPage kept_defect items old mid (Ok v)) where
    -- one of them has moved before, or has a number that no entry has, or they are others than those that were handed in
    pub deferrals_off : (deferrals_in rows ≡ items v → list_all (is_deferral_next mark) (items v) ≡ true → ⊥) → MovesOn mark rows old mid (Err (Damaged table.Defect))
    deferrals_off off =
        batch_off (λ at. at ≡ moving_from 2 1 mark) (λ at to. MovesDeferrals mark rows to) (λ at. IsDeferralOff mark rows) kept_defect items (moving_from 2 1 mark) (λ at here. here) (has_deferrals mark) old mid v r
        (λ at page fits. (refl, why page fits (list_all (is_deferral_next mark) (items v)) refl))
      where
        why : IsPage kept_defect old.now.trees (items v) → All kept_defect.Fits (items v) → (b : Bool) → list_all (is_deferral_next mark) (items v) ≡ b
            → IsDamaged old.now.trees table.Defect ⊎ (((row : DeferralRow) × Contains (rows_in defect old.now.trees) (kept_defect.as_cells row) × (is_deferral_next mark row ≡ false)) ⊎ AreOthers rows old.now.trees)
        why page fits true next = inr (inr (items v, page, fits, λ same. off (sym same) next))
        why page fits false passed = inr (inl (one_fails kept_defect (is_deferral_next mark) old.now.trees (items v) page passed))

    pub deferrals_move : {U : Type 0} (new : State) (to : Point) (ran : Result U TableFault) (result : Result Point TableFault) → Reaching to ran result → items v ≡ deferrals_in rows → list_all (is_deferral_next mark) (items v) ≡ true → to ≡ moving_from 2 1 (last_moved (λ (row : DeferralRow). row.seq) mark (items v))
        → Alters (schema_at (moving_from 2 1 0)) (schema_at (moving_from 2 1 0)) (deferrals_moved rows to) mid new ran → MovesOn mark rows old new result
    deferrals_move {U} new to ran result answered same next is w =
        batch_moves (λ at. at ≡ moving_from 2 1 mark) (λ at to. MovesDeferrals mark rows to) (λ at. IsDeferralOff mark rows) kept_defect items (moving_from 2 1 mark) (λ at here. here) (has_deferrals mark) old mid v r new to (deferrals_moved rows to) ran result answered
        (subst (λ q. Alters {V = U} (schema_at (moving_from 2 1 0)) (schema_at q) (deferrals_moved rows to) mid new ran) (sym is) w)
        (λ at lies first made.
        let gone = ap (λ (q : Point). filter (is_up_to 0 (Int (pos q.mark))) (rows_in defect old.now.trees)) is
        ∙ front_is (λ (row : DeferralRow). row.seq) kept_defect.as_cells (λ _. refl) defect (λ _. refl) 63 mark old.now.trees (items v) (lies.rises table.Defect ((has_tables (moving_from 2 1 mark) table.Defect).0 refl)) first in
        record {
          first = subst (λ (xs : List DeferralRow). IsPage kept_defect old.now.trees xs) same first;
          fit = subst (λ (xs : List DeferralRow). All kept_defect.Fits xs) same r.fits;
          next = subst (λ (xs : List DeferralRow). list_all (is_deferral_next mark) xs ≡ true) same next;
          point = is ∙ ap (λ (xs : List DeferralRow). moving_from 2 1 (last_moved (λ row. row.seq) mark xs)) same;
          gone = gone ∙ ap (map kept_defect.as_cells) same;
          made = made;
        })
