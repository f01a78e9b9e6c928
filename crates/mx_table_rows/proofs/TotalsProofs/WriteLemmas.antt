-- Calls one after another that write rows of a table, and rows that are made of what was read, and then written.
use Rattle.std.proofs.Common.{◌≡◌, ◌≢◌, ℕ, Bool, List, [], ◌∷◌, ◌++◌, map, filter, not, Ok, Err, Result, OnOk, IsPermutation, refl, sym, ap, subst, ◌∙◌, arith}
use Rattle.std.specs.Prelude.{IsErrAnd}
use Rattle.std.specs.List.{AllByRecursion}
use Rattle.std.proofs.lemmas.List.Sorted.{IsPermutation-refl, IsPermutation-trans, IsPermutation-cons, IsPermutation-middle, IsPermutation-append_right}
use Rattle.sqlite_keyed.proofs.ListLemmas.{IsPermutation-same}
use Rattle.sqlite.specs.Order.{Row}
use Rattle.sqlite.specs.Table.{Table}
use Rattle.sqlite.specs.Schema.{Schema}
use Rattle.sqlite.specs.Tree.{Trees}
use Rattle.sqlite.specs.Effect.{Database}
use Rattle.sqlite.specs.State.{State, HasCleanDisk}
use Rattle.mx_layout.specs.declared.fault.TableFault.{TableFault}
use Rattle.mx_layout.specs.Contents.{rows_in, HasNoReferences, Rises}
use Rattle.mx_layout.specs.Names.{table_named}
use Rattle.mx_layout.proofs.CrashLemmas.{within_then, within_itself, stays_then}
use Rattle.mx_layout.proofs.ReadLemmas.{on_ok}
use Rattle.mx_layout.specs.kept.Kept.{Kept}
use Rattle.mx_tables.specs.inserts.Calls.{InsertsRow}
use Rattle.mx_tables.proofs.InsertsProofs.SetLemmas.{on_weaker, stays_open}
use Rattle.mx_table_rows.specs.chosen.Calls.{DeletesRows}
use Rattle.mx_table_rows.specs.totals.Calls.{Becomes, ReadsFrom, ChangesTable}
use Rattle.mx_table_rows.specs.totals.Puts.{WritesRows, rows_added, rows_instead}
use Rattle.mx_table_rows.proofs.TotalsProofs.ReadLemmas.{stopped_is}
use Rattle.mx_table_rows.proofs.TotalsProofs.KeepLemmas.{on_read, not_damaged, caused}

-- ── each other table, over calls one after another ──

pub others_same : (table : Table) (db : Trees) (tables : List Table) → AllByRecursion (λ t. t.tree ≢ table.tree → db t.tree ≡ db t.tree) tables
others_same table db [] = tt
others_same table db (t ∷ tables) = ((λ _. refl), others_same table db tables)

pub others_then : (table : Table) (old mid new : Trees) (tables : List Table) → AllByRecursion (λ t. t.tree ≢ table.tree → mid t.tree ≡ old t.tree) tables → AllByRecursion (λ t. t.tree ≢ table.tree → new t.tree ≡ mid t.tree) tables
    → AllByRecursion (λ t. t.tree ≢ table.tree → new t.tree ≡ old t.tree) tables
others_then table old mid new [] a b = tt
others_then table old mid new (t ∷ tables) a b = ((λ other. b.0 other ∙ a.0 other), others_then table old mid new tables a.1 b.1)

becomes_then : (table : Table) (made more whole : List Row → List Row) (old mid new : Database) → ((xs ys : List Row) → IsPermutation xs ys → IsPermutation (more xs) (more ys)) → ((rows : List Row) → IsPermutation (whole rows) (more (made rows)))
    → Becomes table made old mid → Becomes table more mid new → Becomes table whole old new
becomes_then table made more whole old mid new keeps is a b = record {
  schema = b.schema ∙ a.schema;
  rows = IsPermutation-trans _ _ _ (is (rows_in table old.trees)) (IsPermutation-trans _ _ _ (keeps _ _ a.rows) b.rows);
  others = others_then table old.trees mid.trees new.trees old.schema.tables a.others (subst (λ (s : Schema). AllByRecursion (λ t. t.tree ≢ table.tree → new.trees t.tree ≡ mid.trees t.tree) s.tables) a.schema b.others);
  rises = b.rises;
  sound = λ sound. b.sound (a.sound sound);
}

module _ {X : Type 0} (k : Kept X) where
  abbrev table : Table
  table = table_named k.name

  -- one call after another
  pub writes_then : {T V : Type 0} (made more whole : List Row → List Row) (old mid new : State) (t : T) (result : Result V TableFault) → ((xs ys : List Row) → IsPermutation xs ys → IsPermutation (more xs) (more ys))
      → ((rows : List Row) → IsPermutation (whole rows) (more (made rows))) → WritesRows {V = T} k made old mid (Ok t) → WritesRows k more mid new result → WritesRows k whole old new result
  writes_then made more whole old mid new t result keeps is a b =
      let early : HasCleanDisk new → HasCleanDisk mid = λ clean. omega (arith, b.within.survives.clean) in
      record {
        becomes = λ clean begun has free rises. (let first = a.becomes (early clean) begun has free rises in
            on_weaker result (becomes_then table made more whole old.now mid.now new.now keeps is first)
            (b.becomes clean (a.mode (early clean) begun) (subst k.IsIn (sym first.schema) has) (subst HasNoReferences (sym first.schema) free) first.rises));
        cause = b.cause;
        mode = λ clean begun. b.mode clean (a.mode (early clean) begun);
        inside = λ clean begun. (let first = a.inside (early clean) begun in on_weaker result (stays_then old mid new first) (b.inside clean (first.mode, first.is_open)));
        within = within_then old mid new a.within a.mode b.within;
      }

  -- a call that stopped
  pub stops_writing : {V W : Type 0} (made whole : List Row → List Row) (old new : State) (e : TableFault) (result : Result W TableFault) → IsErrAnd result (λ f. f ≡ e) → WritesRows {V = V} k made old new (Err e) → WritesRows k whole old new result
  stops_writing {V} {W} made whole old new e result is r =
      subst (λ (s : Result W TableFault). WritesRows k whole old new s) (sym (stopped_is e result is))
      (record { becomes = λ _ _ _ _ _. tt; cause = r.cause; mode = λ _ _. tt; inside = λ _ _. tt; within = r.within })

  pub inserts_write : {V : Type 0} (x : X) (old new : State) (result : Result V TableFault) → InsertsRow k x old new result → WritesRows k (λ rows. k.as_cells x ∷ rows) old new result
  inserts_write x old new result r = record {
    becomes = λ clean begun has free rises. on_weaker result (λ gains. record { schema = gains.schema; rows = gains.adds.gained; others = gains.adds.others; rises = gains.adds.rises rises; sound = λ _. gains.sound }) (r.gains clean begun has);
    cause = r.cause;
    mode = λ clean begun. on_weaker result (λ stays. stays.mode) (r.inside clean begun);
    inside = λ clean begun. r.inside clean begun.0;
    within = r.within;
  }

  pub deletes_write : {V : Type 0} (chosen : Row → Bool) (old new : State) (result : Result V TableFault) → DeletesRows k chosen old new result → WritesRows k (filter (λ row. not (chosen row))) old new result
  deletes_write chosen old new result r = record {
    becomes = λ clean begun has free rises. on_weaker result (λ loses. record { schema = loses.schema; rows = IsPermutation-same _ _ (sym loses.left); others = loses.others; rises = loses.rises; sound = λ _. loses.sound }) (r.loses clean begun has free rises);
    cause = r.cause;
    mode = λ clean begun. on_weaker result (λ stays. stays.mode) (r.inside clean begun);
    inside = λ clean begun. r.inside clean begun.0;
    within = r.within;
  }

  -- ── rows that are added ──

  added_more : (xs : List X) (x : X) (rows : List Row) → rows_added k (xs ++ x ∷ []) rows ≡ map k.as_cells xs ++ k.as_cells x ∷ rows
  added_more [] x rows = refl
  added_more (y ∷ xs) x rows = ap (λ l. k.as_cells y ∷ l) (added_more xs x rows)

  pub none_added : (s : State) → WritesRows {V = ℕ} k (rows_added k []) s s (Ok 0)
  none_added s = record {
    becomes = λ _ _ _ _ rises. record { schema = refl; rows = IsPermutation-refl (rows_in table s.now.trees); others = others_same table s.now.trees s.now.schema.tables; rises = rises; sound = λ sound. sound };
    cause = tt;
    mode = λ _ begun. begun;
    inside = λ _ begun. stays_open s begun;
    within = within_itself s;
  }

  module _ (xs : List X) (x : X) (first old new : State) (so_far : WritesRows {V = ℕ} k (rows_added k xs) first old (Ok 0)) where
    added_then : {V : Type 0} (result : Result V TableFault) → InsertsRow k x old new result → WritesRows k (rows_added k (xs ++ x ∷ [])) first new result
    added_then result one = writes_then (rows_added k xs) (λ rows. k.as_cells x ∷ rows) (rows_added k (xs ++ x ∷ [])) first old new 0 result (λ some others same. IsPermutation-cons (k.as_cells x) some others same)
        (λ rows. subst (λ l. IsPermutation l (k.as_cells x ∷ rows_added k xs rows)) (sym (added_more xs x rows)) (IsPermutation-middle (map k.as_cells xs) (k.as_cells x) rows)) so_far (inserts_write x old new result one)

    pub one_added : {V : Type 0} (v : V) → InsertsRow k x old new (Ok v) → WritesRows {V = ℕ} k (rows_added k (xs ++ x ∷ [])) first new (Ok 0)
    one_added v one = let all = added_then (Ok v) one in record { becomes = all.becomes; cause = tt; mode = all.mode; inside = all.inside; within = all.within }

    pub adding_stops : {V W : Type 0} (all : List X) (e : TableFault) (result : Result W TableFault) → IsErrAnd result (λ f. f ≡ e) → InsertsRow {V = V} k x old new (Err e) → WritesRows k (rows_added k all) first new result
    adding_stops {V} all e result is one = stops_writing {V = V} (rows_added k (xs ++ x ∷ [])) (rows_added k all) first new e result is (added_then (Err e) one)

  -- ── rows in place of others ──

  -- what was chosen is deleted, and then the rows are added
  pub instead_then : {T V : Type 0} (chosen : Row → Bool) (xs : List X) (old mid new : State) (t : T) (result : Result V TableFault) → DeletesRows {V = T} k chosen old mid (Ok t) → WritesRows k (rows_added k xs) mid new result
      → WritesRows k (rows_instead k chosen xs) old new result
  instead_then chosen xs old mid new t result a b = writes_then (filter (λ row. not (chosen row))) (rows_added k xs) (rows_instead k chosen xs) old mid new t result (λ some others same. IsPermutation-append_right (map k.as_cells xs) some others same)
      (λ rows. IsPermutation-refl _) (deletes_write chosen old mid (Ok t) a) b

  pub instead_stops : {V W : Type 0} (chosen : Row → Bool) (xs : List X) (old new : State) (e : TableFault) (result : Result W TableFault) → IsErrAnd result (λ f. f ≡ e) → DeletesRows {V = V} k chosen old new (Err e) → WritesRows k (rows_instead k chosen xs) old new result
  instead_stops {V} chosen xs old new e result is r = stops_writing {V = V} (filter (λ row. not (chosen row))) (rows_instead k chosen xs) old new e result is (deletes_write chosen old new (Err e) r)

  -- ── read, and then written ──

  pub read_then_written : {U V : Type 0} (Is : List Row → U → Type 0) (written : List Row → List Row) (Changes : Database → Database → Type 0) (AreGood AreBad : List Row → Type 0) (u : U) (old mid new : State) (result : Result V TableFault)
      → ReadsFrom k Is AreBad old mid (Ok u) → WritesRows k written mid new result
      → (Rises table old.now.trees → Is (rows_in table old.now.trees) u → Becomes table written old.now new.now → Changes old.now new.now)
      → (Is (rows_in table old.now.trees) u → AreGood (rows_in table old.now.trees)) → ChangesTable k Changes AreGood AreBad old new result
  read_then_written Is written Changes AreGood AreBad u old mid new result one two become good =
      let early : HasCleanDisk new → HasCleanDisk mid = λ clean. omega (arith, two.within.survives.clean) in
      record {
        becomes = λ clean begun has free rises. (let same = (one.unchanged (early clean) has).0.now_is in
            let writes = two.becomes clean (one.inside (early clean) begun).mode (subst (λ (d : Database). k.IsIn d.schema) (sym same) has) (subst (λ (d : Database). HasNoReferences d.schema) (sym same) free) (subst (λ (d : Database). Rises table d.trees) (sym same) rises) in
            let before : OnOk result (Becomes table written old.now new.now) = subst (λ (d : Database). OnOk result (Becomes table written d new.now)) same writes in
            on_weaker result (become rises (one.value (early clean) has)) before);
        good = λ clean has. on_ok result (good (one.value (early clean) has));
        cause = caused result k.name two.cause;
        damaged = λ _ _ is. absurd (not_damaged result k.name two.cause is);
        unchanged = λ _ _ is. absurd (not_damaged result k.name two.cause is);
        mode = λ clean begun. on_read _ result two.cause (two.mode clean (one.inside (early clean) begun).mode);
        inside = λ clean begun. (let stays = one.inside (early clean) begun.0 in on_read _ result two.cause (on_weaker result (stays_then old mid new stays) (two.inside clean (stays.mode, stays.is_open))));
        within = within_then old mid new one.within (λ clean begun. (one.inside clean begun).mode) two.within;
      }
