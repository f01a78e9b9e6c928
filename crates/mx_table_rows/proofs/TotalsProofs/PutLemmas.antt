-- Rows that are written one after another.
use Rattle.std.proofs.Common.{◌≡◌, ◌≢◌, ℕ, Bool, true, false, ◌||◌, cond, List, [], ◌∷◌, ◌++◌, map, filter, not, Ok, Err, Result, IsPermutation, refl, sym, ap, subst, ◌∙◌, arith}
use Rattle.std.specs.Prelude.{IsErrAnd}
use Rattle.std.specs.List.{AllByRecursion, list_any}
use Rattle.std.proofs.lemmas.List.Sorted.{IsPermutation-refl, IsPermutation-sym, IsPermutation-trans, IsPermutation-cons, IsPermutation-middle}
use Rattle.sqlite_keyed.proofs.ListLemmas.{IsPermutation-same, IsPermutation-filter}
use Rattle.sqlite.specs.Order.{Row}
use Rattle.sqlite_trees.specs.Tree.{IsAscending}
use Rattle.sqlite.specs.Table.{Table}
use Rattle.sqlite.specs.Schema.{Schema}
use Rattle.sqlite.specs.Effect.{Database}
use Rattle.sqlite.specs.State.{State, HasCleanDisk}
use Rattle.mx_layout.specs.declared.fault.TableFault.{TableFault}
use Rattle.mx_layout.specs.Contents.{rows_in, HasNoReferences, Rises}
use Rattle.mx_layout.specs.Names.{table_named}
use Rattle.mx_layout.proofs.CrashLemmas.{within_then, within_itself, stays_then}
use Rattle.mx_layout.specs.kept.Kept.{Kept}
use Rattle.mx_tables.proofs.InsertsProofs.SetLemmas.{stays_open}
use Rattle.mx_table_rows.specs.totals.InPlace.{Replaces, ReplacesRows}
use Rattle.mx_table_rows.specs.totals.Calls.{Becomes, ReadsFrom, ChangesRows}
use Rattle.mx_table_rows.specs.totals.Puts.{rows_put, PutsRows}
use Rattle.mx_table_rows.proofs.ChosenProofs.DeleteLemmas.{both_out, none_out}
use Rattle.mx_table_rows.proofs.TotalsProofs.ReadLemmas.{stopped_is}
use Rattle.mx_table_rows.proofs.TotalsProofs.WriteLemmas.{others_same, others_then, read_then_written}

module _ {X : Type 0} (k : Kept X) (has_key : X → Row → Bool) where
  abbrev table : Table
  table = table_named k.name

  -- one row more is written
  put_more : (xs : List X) (x : X) (rows : List Row) → rows_put k has_key (xs ++ x ∷ []) rows ≡ k.as_cells x ∷ filter (λ r. not (has_key x r)) (rows_put k has_key xs rows)
  put_more [] x rows = refl
  put_more (y ∷ xs) x rows = put_more xs x (k.as_cells y ∷ filter (λ r. not (has_key y r)) rows)

  none_has : (p : X → Bool) (xs : List X) → AllByRecursion (λ x. p x ≡ false) xs → list_any p xs ≡ false
  none_has p [] none = refl
  none_has p (x ∷ xs) none = rw none.0 (none_has p xs none.1)

  -- rows of which none has the key of a later one all stand there, beside those that have the key of none
  pub all_put : (xs : List X) (rows : List Row) → IsAscending (λ x y. has_key y (k.as_cells x) ≡ false) xs → IsPermutation (map k.as_cells xs ++ filter (λ r. not (list_any (λ x. has_key x r) xs)) rows) (rows_put k has_key xs rows)
  all_put [] rows apart = IsPermutation-same _ _ (none_out rows)
  all_put (x ∷ xs) rows apart =
      let row = k.as_cells x in
      let left = filter (λ r. not (has_key x r)) rows in
      let is_other = λ (r : Row). not (list_any (λ y. has_key y r) xs) in
      let others = filter (λ r. not (has_key x r || list_any (λ y. has_key y r) xs)) rows in
      let stays : is_other row ≡ true = ap not (none_has (λ y. has_key y row) xs apart.0) in
      let those : filter is_other (row ∷ left) ≡ row ∷ others = ap (λ b. cond b (row ∷ filter is_other left) (filter is_other left)) stays ∙ ap (λ l. row ∷ l) (both_out (has_key x) (λ r. list_any (λ y. has_key y r) xs) rows) in
      IsPermutation-trans (row ∷ map k.as_cells xs ++ others) (map k.as_cells xs ++ row ∷ others) (rows_put k has_key (x ∷ xs) rows)
      (IsPermutation-sym _ _ (IsPermutation-middle (map k.as_cells xs) row others))
      (subst (λ l. IsPermutation (map k.as_cells xs ++ l) (rows_put k has_key xs (row ∷ left))) those (all_put xs (row ∷ left) apart.1))

  pub none_put : (s : State) → PutsRows {V = ℕ} k has_key [] s s (Ok 0)
  none_put s = record {
    becomes = λ _ _ _ _ rises. record { schema = refl; rows = IsPermutation-refl (rows_in table s.now.trees); others = others_same table s.now.trees s.now.schema.tables; rises = rises; sound = λ sound. sound };
    cause = tt;
    mode = λ _ begun. begun;
    inside = λ _ begun. stays_open s begun;
    within = within_itself s;
  }

  -- one more, in place of what it was
  becomes_more : (xs : List X) (x : X) (old mid new : Database) → Becomes table (rows_put k has_key xs) old mid → Replaces table (has_key x) (k.as_cells x) mid new → Becomes table (rows_put k has_key (xs ++ x ∷ [])) old new
  becomes_more xs x old mid new a b =
      let left = λ (r : Row). not (has_key x r) in
      record {
        schema = b.schema ∙ a.schema;
        rows = IsPermutation-trans _ _ _ (IsPermutation-same _ _ (put_more xs x (rows_in table old.trees)))
            (IsPermutation-trans _ _ _ (IsPermutation-cons (k.as_cells x) _ _ (IsPermutation-filter left _ _ a.rows)) b.replaced);
        others = others_then table old.trees mid.trees new.trees old.schema.tables a.others (subst (λ (s : Schema). AllByRecursion (λ t. t.tree ≢ table.tree → new.trees t.tree ≡ mid.trees t.tree) s.tables) a.schema b.others);
        rises = b.rises;
        sound = λ _. b.sound;
      }

  module _ (xs : List X) (x : X) (first old new : State) (so_far : PutsRows {V = ℕ} k has_key xs first old (Ok 0)) where
    pub one_put : {V : Type 0} (v : V) → ReplacesRows k (has_key x) x old new (Ok v) → PutsRows {V = ℕ} k has_key (xs ++ x ∷ []) first new (Ok 0)
    one_put v one =
        let early : HasCleanDisk new → HasCleanDisk old = λ clean. omega (arith, one.within.survives.clean) in
        record {
          becomes = λ clean begun has free rises. (let before = so_far.becomes (early clean) begun has free rises in
              becomes_more xs x first.now old.now new.now before
              (one.replaces clean (so_far.mode (early clean) begun) (subst k.IsIn (sym before.schema) has) (subst HasNoReferences (sym before.schema) free) before.rises));
          cause = tt;
          mode = λ clean begun. (one.inside clean (so_far.mode (early clean) begun)).mode;
          inside = λ clean begun. stays_then first old new (so_far.inside (early clean) begun) (one.inside clean (so_far.mode (early clean) begun.0));
          within = within_then first old new so_far.within so_far.mode one.within;
        }

    pub put_stops : {V W : Type 0} (all : List X) (e : TableFault) (result : Result W TableFault) → IsErrAnd result (λ f. f ≡ e) → ReplacesRows {V = V} k (has_key x) x old new (Err e) → PutsRows k has_key all first new result
    put_stops {V} {W} all e result is one =
        subst (λ (r : Result W TableFault). PutsRows k has_key all first new r) (sym (stopped_is e result is))
        (record { becomes = λ _ _ _ _ _. tt; cause = one.cause; mode = λ _ _. tt; inside = λ _ _. tt; within = within_then first old new so_far.within so_far.mode one.within })

  -- rows are made of what was read, and then written
  pub read_then_put : {U V : Type 0} (Is : List Row → U → Type 0) (rows_of : U → List X) (made : List Row → List Row) (AreGood AreBad : List Row → Type 0) (u : U) (old mid new : State) (result : Result V TableFault)
      → ReadsFrom k Is AreBad old mid (Ok u) → PutsRows k has_key (rows_of u) mid new result
      → (Rises table old.now.trees → Is (rows_in table old.now.trees) u → IsPermutation (made (rows_in table old.now.trees)) (rows_put k has_key (rows_of u) (rows_in table old.now.trees)))
      → (Is (rows_in table old.now.trees) u → AreGood (rows_in table old.now.trees)) → ChangesRows k made AreGood AreBad old new result
  read_then_put Is rows_of made AreGood AreBad u old mid new result one two become good =
      read_then_written k Is (rows_put k has_key (rows_of u)) (Becomes table made) AreGood AreBad u old mid new result one two
      (λ rises is b. record { schema = b.schema; rows = IsPermutation-trans _ _ _ (become rises is) b.rows; others = b.others; rises = b.rises; sound = b.sound }) good
