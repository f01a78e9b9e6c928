-- Looks at tables that are about to be dropped, and the statements that write behind them.
use Rattle.std.proofs.Common.{◌≡◌, ◌⊎◌, inr, ℕ, suc, List, [], ◌∷◌, map, take, Some, Ok, Err, Result, IsTrue, refl, sym, ap, subst, ◌∙◌, arith}
use Rattle.std.specs.Prelude.{◌≢◌, Contains, IsErrAnd}
use Rattle.std.specs.List.Sorted.{IsPermutation}
use Rattle.std.proofs.lemmas.List.Sorted.{Contains-permutation, IsPermutation-sym}
use Rattle.sqlite.specs.Order.{Row}
use Rattle.sqlite.specs.Schema.{Schema}
use Rattle.sqlite.specs.Tree.{Trees}
use Rattle.sqlite.specs.Effect.{Database}
use Rattle.sqlite.specs.State.{State, HasCleanDisk, IsUnchanged}
use Rattle.sqlite.proofs.Callers.{unchanged_then}
use Rattle.mx_base.specs.declared.point.Point.{Point}
use Rattle.mx_registers.proofs.PointsProofs.OneBook.{all_there}
use Rattle.mx_layout.specs.TableName.{TableName}
use Rattle.mx_layout.specs.declared.fault.TableFault.{TableFault}
use Rattle.mx_layout.specs.declared.fault.TableFault.TheVariants.{Memory, Store, Damaged}
use Rattle.mx_layout.specs.Contents.{rows_in}
use Rattle.mx_layout.specs.Crash.{IsWithin, StaysInside}
use Rattle.mx_layout.specs.Names.{table_named}
use Rattle.mx_layout.proofs.CrashLemmas.{stays_then, within_then}
use Rattle.mx_layout.specs.kept.Kept.{Kept}
use Rattle.mx_layout.specs.kept.Family.{IsReadableAs}
use Rattle.mx_table_rows.specs.chosen.Calls.{ReadsFirst}
use Rattle.mx_table_rows.specs.chosen.Choices.{is_any}
use Rattle.mx_book_tables.specs.stands.Schemas.{schema_at}
use Rattle.mx_tables.specs.Calls.{OnDamaged, ReadsRows}
use Rattle.mx_tables.proofs.InsertsProofs.SetLemmas.{on_read_weaker, on_weaker}
use Rattle.mx_moves.specs.Changes.{Alters}
use Rattle.mx_moves.specs.steps.Rows.{MakesRows}
use Rattle.mx_moves.proofs.StepsProofs.PageLemmas.{among, page_damaged, permutation_none}
use Rattle.mx_migrate.specs.Seeing.{SeesNone}
use Rattle.mx_migrate.specs.Steps.{Runs}
use Rattle.mx_migrate.proofs.RunLemmas.{Reaching, read_stops, writes_behind}

has_none : {row : Row} → Contains [] row → ⊥
has_none h = absurd (omega (arith, h.1))

first_in : {X : Type 0} (as_cells : X → Row) (x : X) (more : List X) → Contains (map as_cells (x ∷ more)) (as_cells x)
first_in as_cells x more = (0, omega arith, refl)

-- ── a table was read ──

abbrev stored : {X : Type 0} → Kept X → State → List Row
stored k old = rows_in (table_named k.name) old.now.trees

module _ {X W : Type 0} (k : Kept X) (old new : State) where
  -- it was not: where it is damaged there is a row
  read_not : (e : TableFault) (result : Result W TableFault) → IsErrAnd result (λ f. f ≡ e) → (e ≡ Memory) ⊎ ((e ≡ Store) ⊎ (e ≡ Damaged k.name)) → (HasCleanDisk new → k.IsIn old.now.schema → e ≡ Damaged k.name → (row : Row) × Contains (stored k old) row)
      → (HasCleanDisk new → k.IsIn old.now.schema → OnDamaged e (IsUnchanged old new)) → (HasCleanDisk new → IsTrue old.in_transaction → OnDamaged e (StaysInside old new)) → IsWithin old new → SeesNone k old new result
  read_not e (Ok w) is why row unchanged inside within = absurd is
  read_not e (Err f) is why row unchanged inside within = subst (λ x. SeesNone {V = W} k old new (Err x)) (sym is) (record {
    empty = λ _ _. tt;
    cause = why;
    damaged = λ clean has same none.
        let damage : e ≡ Damaged k.name = cc in
        let one = row clean has damage in
        has_none (subst (λ l. Contains l one.0) none one.1);
    unchanged = unchanged;
    inside = inside;
    within = within;
  })

  module _ (unchanged : HasCleanDisk new → k.IsIn old.now.schema → IsUnchanged old new) (inside : HasCleanDisk new → IsTrue old.in_transaction → StaysInside old new) (within : IsWithin old new) where
    -- there is a row
    read_some : (row : Row) → (HasCleanDisk new → k.IsIn old.now.schema → Contains (stored k old) row) → SeesNone {V = W} k old new (Err (Damaged k.name))
    read_some row there = record {
      empty = λ _ _. tt;
      cause = inr (inr refl);
      damaged = λ clean has same none. has_none (subst (λ l. Contains l row) none (there clean has));
      unchanged = unchanged;
      inside = inside;
      within = within;
    }

    -- there is none
    read_none : (w : W) → (HasCleanDisk new → k.IsIn old.now.schema → stored k old ≡ []) → SeesNone k old new (Ok w)
    read_none w none = record { empty = none; cause = tt; damaged = λ _ _ never. absurd cc; unchanged = unchanged; inside = inside; within = within }

-- ── a table whose rows are all read ──

module _ {X V W : Type 0} (k : Kept X) (items : V → List X) (old new : State) where
  pub rows_stop : (e : TableFault) (result : Result W TableFault) → IsErrAnd result (λ f. f ≡ e) → ReadsRows k items old new (Err e) → SeesNone k old new result
  rows_stop e result is r = read_not k old new e result is r.cause (λ clean has damage. (let other = r.damaged clean has (ap Err damage) in (other.0, other.1))) r.unchanged r.inside r.within

  pub rows_left : (v : V) (x : X) (more : List X) → items v ≡ x ∷ more → ReadsRows k items old new (Ok v) → SeesNone {V = W} k old new (Err (Damaged k.name))
  rows_left v x more some r = read_some k old new r.unchanged r.inside r.within (k.as_cells x) (λ clean has.
      let shown = subst (λ l. IsPermutation (stored k old) (map k.as_cells l)) some (r.rows clean has).all in
      Contains-permutation (map k.as_cells (x ∷ more)) (stored k old) (k.as_cells x) (IsPermutation-sym _ _ shown) (first_in k.as_cells x more))

  pub no_rows : (v : V) (w : W) → items v ≡ [] → ReadsRows k items old new (Ok v) → SeesNone k old new (Ok w)
  no_rows v w none r = read_none k old new r.unchanged r.inside r.within w (λ clean has. permutation_none (stored k old) (IsPermutation-sym _ _ (subst (λ l. IsPermutation (stored k old) (map k.as_cells l)) none (r.rows clean has).all)))

-- ── a table whose first rows are read ──

taken_none : {X : Type 0} (most : ℕ) (xs : List X) → take (suc most) xs ≡ [] → xs ≡ []
taken_none most [] e = refl
taken_none most (x ∷ xs) e = absurd cc

module _ {X V W : Type 0} (k : Kept X) (most : ℕ) (items : V → List X) (old new : State) where
  pub sees_stops : (e : TableFault) (result : Result W TableFault) → IsErrAnd result (λ f. f ≡ e) → ReadsFirst k (Some (suc most)) k.order is_any items old new (Err e) → SeesNone k old new result
  sees_stops e result is r = read_not k old new e result is r.cause
      (λ clean has damage. (let other = page_damaged (suc most) k.order (table_named k.name) old.now.trees (IsReadableAs k) (r.damaged clean has (ap Err damage)) in (other.0, other.1))) r.unchanged r.inside r.within

  pub sees_some : (v : V) (x : X) (more : List X) → items v ≡ x ∷ more → ReadsFirst k (Some (suc most)) k.order is_any items old new (Ok v) → SeesNone {V = W} k old new (Err (Damaged k.name))
  sees_some v x more some r = read_some k old new r.unchanged r.inside r.within (k.as_cells x) (λ clean has.
      among (suc most) k.order (table_named k.name) old.now.trees (map k.as_cells (items v)) (r.rows clean has) (k.as_cells x) (subst (λ l. Contains (map k.as_cells l) (k.as_cells x)) (sym some) (first_in k.as_cells x more)))

  pub sees_none : (v : V) (w : W) → items v ≡ [] → ReadsFirst k (Some (suc most)) k.order is_any items old new (Ok v) → SeesNone k old new (Ok w)
  sees_none v w none r = read_none k old new r.unchanged r.inside r.within w (λ clean has.
      let first = r.rows clean has in
      let those : first.those ≡ [] = taken_none most first.those (sym first.first ∙ ap (map k.as_cells) none) in
      let same = subst (λ l. IsPermutation (stored k old) l) those (subst (λ l. IsPermutation l first.those) (all_there (stored k old)) first.are.all) in
      permutation_none (stored k old) (IsPermutation-sym _ _ same))

-- ── one look behind another ──

-- the first saw no row, and changed nothing: the second sees what was there before both
pub sees_then : {X Y V W : Type 0} (k : Kept X) (m : Kept Y) → ((schema : Schema) → m.IsIn schema → k.IsIn schema) → (old mid new : State) (v : V) (r : Result W TableFault) → SeesNone k old mid (Ok v) → SeesNone m mid new r → SeesNone m old new r
sees_then k m both old mid new v r a b =
    let early : HasCleanDisk new → HasCleanDisk mid = λ clean. omega (arith, b.within.survives.clean) in
    let was = λ (clean : HasCleanDisk new) (has : m.IsIn old.now.schema). a.unchanged (early clean) (both old.now.schema has) in
    let still = λ (clean : HasCleanDisk new) (has : m.IsIn old.now.schema). subst (λ (d : Database). m.IsIn d.schema) (sym (was clean has).0.now_is) has in
    record {
      empty = λ clean has. on_weaker r (λ none. subst (λ (d : Database). rows_in (table_named m.name) d.trees ≡ []) (was clean has).0.now_is none) (b.empty clean (still clean has));
      cause = b.cause;
      damaged = λ clean has is. subst (λ (d : Database). rows_in (table_named m.name) d.trees ≢ []) (was clean has).0.now_is (b.damaged clean (still clean has) is);
      unchanged = λ clean has. on_read_weaker r (unchanged_then old mid new (was clean has)) (b.unchanged clean (still clean has));
      inside = λ clean begun. (let stays = a.inside (early clean) begun in on_read_weaker r (stays_then old mid new stays) (b.inside clean stays.mode));
      within = within_then old mid new a.within (λ clean begun. (a.inside clean begun).mode) b.within;
    }

-- ── a step that looks first ──

module _ {X : Type 0} (k : Kept X) (IsAt : Point → Type 0) (Makes : Point → Point → Trees → Trees → Type 0) (IsOff : Point → TableName → Trees → Type 0) (here : Point) (at_here : (at : Point) → IsAt at → at ≡ here) (there : k.IsIn (schema_at here)) (old : State) where
  -- the schema has the table
  own : (at : Point) → IsAt at → old.now.schema ≡ schema_at at → k.IsIn old.now.schema
  own at is has = subst k.IsIn (sym (has ∙ ap schema_at (at_here at is))) there

  -- a row is left, or the table was not read
  pub look_stops : {V : Type 0} (new : State) (e : TableFault) → ((at : Point) → rows_in (table_named k.name) old.now.trees ≢ [] → IsOff at k.name old.now.trees) → SeesNone {V = V} k old new (Err e) → Runs IsAt Makes IsOff old new (Err e)
  look_stops new e off r = read_stops IsAt Makes IsOff k.name old new e r.cause (λ clean at is has damaged. off at (r.damaged clean (own at is has) (ap Err damaged))) r.inside r.within

  module _ {V : Type 0} (mid new : State) (v : V) (r : SeesNone k old mid (Ok v)) (to : Point) (onto : TableName → List Row → List Row) where
    -- no row is left, and what the statements behind the look make of any rows is what the step makes of them
    pub looked_writes : {U : Type 0} (ran : Result U TableFault) (result : Result Point TableFault) → Reaching to ran result
        → (HasCleanDisk mid → k.IsIn old.now.schema → (at : Point) → rows_in (table_named k.name) old.now.trees ≡ [] → MakesRows onto to old.now.trees new.now.trees → Makes at to old.now.trees new.now.trees)
        → Alters (schema_at here) (schema_at to) onto mid new ran → Runs IsAt Makes IsOff old new result
    looked_writes ran result answered makes w = writes_behind IsAt Makes IsOff here to at_here onto old mid (λ clean at is has. (r.unchanged clean (own at is has)).0.now_is) r.inside r.within new
        (λ clean at is has lies made. (let there = own at is has in makes clean there at (r.empty clean there) made)) ran result answered w
