-- What statements make of the rows of tables, one after another.
use Rattle.std.proofs.Common.{◌≡◌, ◌≢◌, ◌⊎◌, inl, inr, ℕ, Bool, true, false, not, cond, List, [], ◌∷◌, map, filter, IsTrue, Ok, Err, Result, ◌==◌, refl, sym, subst, ◌∙◌, arith}
use Rattle.std.specs.Prelude.{Contains, IsErr}
use Rattle.std.specs.List.{AllByRecursion}
use Rattle.std.specs.List.Sorted.{IsPermutation}
use Rattle.std.proofs.lemmas.Bool.{eqb-true}
use Rattle.std.proofs.lemmas.Bool.Decides.{nat_tests}
use Rattle.std.proofs.lemmas.List.Elements.{All-contains, All-from_recursion}
use Rattle.std.proofs.lemmas.List.Sorted.{IsPermutation-refl, IsPermutation-trans}
use Rattle.sqlite_keyed.proofs.ListLemmas.{IsPermutation-filter}
use Rattle.sqlite.specs.Order.{Row}
use Rattle.sqlite.specs.Table.{Table}
use Rattle.sqlite.specs.Schema.{Schema}
use Rattle.sqlite.specs.Tree.{Trees, IsTable, rowid}
use Rattle.sqlite.specs.View.{is_int}
use Rattle.sqlite.specs.Effect.{Database}
use Rattle.sqlite.specs.State.{State, HasCleanDisk}
use Rattle.mx_layout.specs.TableName.{TableName}
use Rattle.mx_layout.specs.declared.fault.TableFault.{TableFault}
use Rattle.mx_layout.specs.Contents.{cells, rows_in, Rises}
use Rattle.mx_layout.specs.Crash.{IsWithin}
use Rattle.mx_layout.specs.Names.{table_named}
use Rattle.mx_layout.proofs.CrashLemmas.{stays_then, within_then}
use Rattle.mx_layout.proofs.TreeLemmas.{same_tree}
use Rattle.mx_layout.specs.kept.Kept.{Kept}
use Rattle.mx_layout.specs.kept.Family.{on_top}
use Rattle.mx_layout.proofs.KeptProofs.OntoLemmas.{on_top_keeps}
use Rattle.mx_tables.specs.inserts.Calls.{InsertsRow}
use Rattle.mx_tables.specs.inserts.Sets.{GainsRows, WritesTables}
use Rattle.mx_tables.proofs.InsertsProofs.SetLemmas.{gains_none, gains_one, gains_then, on_weaker}
use Rattle.mx_table_rows.specs.chosen.Calls.{DeletesRows}
use Rattle.mx_table_rows.specs.chosen.Choices.{Loses}
use Rattle.mx_moves.specs.Changes.{less, in_place, emptied, AllRise, Reaches, WritesRows, Alters}
use Rattle.mx_moves.specs.Schemas.{IsFree}

-- permuted rows of the table give permuted rows
abbrev pub Keeps : (TableName → List Row → List Row) → TableName → Type 0
Keeps onto name = (xs ys : List Row) → IsPermutation xs ys → IsPermutation (onto name xs) (onto name ys)

-- the rows that the table had do not count
abbrev pub Forgets : (TableName → List Row → List Row) → TableName → Type 0
Forgets onto name = (xs ys : List Row) → IsPermutation (onto name xs) (onto name ys)

pub not_same : (n m : ℕ) → (n == m) ≡ false → m ≢ n
not_same n m h same = grind (arith, nat_tests)

-- ── rows of one table ──

less_if : (b : Bool) (p : Row → Bool) (xs ys : List Row) → IsPermutation xs ys → IsPermutation (cond b (filter p xs) xs) (cond b (filter p ys) ys)
less_if true p xs ys same = IsPermutation-filter p xs ys same
less_if false p xs ys same = same

pub less_keeps : {X : Type 0} (k : Kept X) (chosen : Row → Bool) (name : TableName) → Keeps (less k chosen) name
less_keeps k chosen name xs ys same = less_if ((table_named k.name).tree == (table_named name).tree) (λ row. not (chosen row)) xs ys same

pub in_place_keeps : {X : Type 0} (k : Kept X) (chosen : Row → Bool) (x : X) (name : TableName) → Keeps (in_place k chosen x) name
in_place_keeps k chosen x name xs ys same = on_top_keeps k (x ∷ []) name _ _ (less_keeps k chosen name xs ys same)

pub emptied_keeps : (new name : TableName) → Keeps (emptied new) name
emptied_keeps new name xs ys same = by ((table_named new).tree == (table_named name).tree)
  where
    by : (b : Bool) → IsPermutation (cond b [] xs) (cond b [] ys)
    by true = IsPermutation-refl []
    by false = same

pub emptied_forgets : (new : TableName) → Forgets (emptied new) new
emptied_forgets new = by ((table_named new).tree == (table_named new).tree) refl
  where
    by : (b : Bool) → ((table_named new).tree == (table_named new).tree) ≡ b → Forgets (emptied new) new
    by true e xs ys = subst (λ b. IsPermutation (cond b [] xs) (cond b [] ys)) (sym e) (IsPermutation-refl [])
    by false e xs ys = absurd (not_same (table_named new).tree (table_named new).tree e refl)

pub rises_kept : (t : Table) (old new : Trees) → new t.tree ≡ old t.tree → Rises t old → Rises t new
rises_kept t old new same h = record {
  up = subst IsTable (sym same) h.up;
  numbers = subst (AllByRecursion (λ r. IsTrue (is_int (rowid r)))) (sym same) h.numbers;
}

-- ── rows that are deleted ──

module _ {X : Type 0} (k : Kept X) (chosen : Row → Bool) (old new : Database) (loses : Loses (table_named k.name) chosen old new) where
  as_it_was : (name : TableName) → Contains old.schema.tables (table_named name) → ((table_named k.name).tree == (table_named name).tree) ≡ false → new.trees (table_named name).tree ≡ old.trees (table_named name).tree
  as_it_was name at same =
      let P = λ (t : Table). t.tree ≢ (table_named k.name).tree → new.trees t.tree ≡ old.trees t.tree in
      All-contains P old.schema.tables (table_named name) (All-from_recursion P old.schema.tables loses.others) at (not_same (table_named k.name).tree (table_named name).tree same)

  lost : (name : TableName) → Contains old.schema.tables (table_named name) → (b : Bool) → ((table_named k.name).tree == (table_named name).tree) ≡ b
      → IsPermutation (cond b (filter (λ row. not (chosen row)) (rows_in (table_named name) old.trees)) (rows_in (table_named name) old.trees)) (rows_in (table_named name) new.trees)
  lost name at true same =
      let here = same_tree k.name name (eqb-true (table_named k.name).tree (table_named name).tree same) in
      subst (λ n. IsPermutation (filter (λ row. not (chosen row)) (rows_in (table_named n) old.trees)) (rows_in (table_named n) new.trees)) here
      (subst (λ rows. IsPermutation rows (rows_in (table_named k.name) new.trees)) loses.left (IsPermutation-refl (rows_in (table_named k.name) new.trees)))
  lost name at false same =
      subst (λ stored. IsPermutation (rows_in (table_named name) old.trees) (map (cells (table_named name)) stored)) (sym (as_it_was name at same)) (IsPermutation-refl (rows_in (table_named name) old.trees))

  still_rises : (name : TableName) → Contains old.schema.tables (table_named name) → (b : Bool) → ((table_named k.name).tree == (table_named name).tree) ≡ b → Rises (table_named name) old.trees → Rises (table_named name) new.trees
  still_rises name at true same up = subst (λ n. Rises (table_named n) new.trees) (same_tree k.name name (eqb-true (table_named k.name).tree (table_named name).tree same)) loses.rises
  still_rises name at false same up = rises_kept (table_named name) old.trees new.trees (as_it_was name at same) up

  pub loses_rows : GainsRows (less k chosen) old new
  loses_rows = record {
    schema = loses.schema;
    sound = λ _. loses.sound;
    tables = λ name at. lost name at ((table_named k.name).tree == (table_named name).tree) refl;
    rises = λ name at. still_rises name at ((table_named k.name).tree == (table_named name).tree) refl;
  }

-- ── calls that write rows ──

-- the same rows, in fewer schemas
pub rows_over : {V : Type 0} (One Two : Schema → Type 0) (onto : TableName → List Row → List Row) (old new : State) (result : Result V TableFault) → ((schema : Schema) → Two schema → One schema) → WritesRows One onto old new result → WritesRows Two onto old new result
rows_over One Two onto old new result f w = record { gains = λ clean inside has. w.gains clean inside (f old.now.schema has); mode = w.mode; inside = w.inside; within = w.within }

pub tables_write : {V : Type 0} (IsIn : Schema → Type 0) (onto : TableName → List Row → List Row) (old new : State) (result : Result V TableFault) → WritesTables IsIn onto old new result → WritesRows IsIn onto old new result
tables_write IsIn onto old new result w = record { gains = λ clean inside has rises. w.gains clean inside has; mode = w.mode; inside = w.inside; within = w.within }

-- one row that is added
pub inserts_write : {X V : Type 0} (k : Kept X) (x : X) (old new : State) (result : Result V TableFault) → InsertsRow k x old new result → WritesRows k.IsIn (on_top k (x ∷ [])) old new result
inserts_write k x old new result h = record {
  gains = λ clean inside has rises. on_weaker result (λ one. gains_one k [] x old.now old.now new.now (gains_none k old.now) one) (h.gains clean inside.0 has);
  mode = λ clean begun. on_weaker result (λ stays. stays.mode) (h.inside clean begun);
  inside = λ clean inside. h.inside clean inside.0;
  within = h.within;
}

pub deletes_write : {X V : Type 0} (k : Kept X) (chosen : Row → Bool) (old new : State) (result : Result V TableFault) → (k.IsIn old.now.schema → Contains old.now.schema.tables (table_named k.name)) → DeletesRows k chosen old new result
    → WritesRows (IsFree k) (less k chosen) old new result
deletes_write k chosen old new result there h = record {
  gains = λ clean inside has rises. on_weaker result (loses_rows k chosen old.now new.now) (h.loses clean inside.0 has.0 has.1 (rises k.name (there has.0)));
  mode = λ clean begun. on_weaker result (λ stays. stays.mode) (h.inside clean begun);
  inside = λ clean inside. h.inside clean inside.0;
  within = h.within;
}

-- some rows, and then others
pub rows_then : {T U : Type 0} (IsIn : Schema → Type 0) (one two : TableName → List Row → List Row) → ((name : TableName) → Keeps two name) → (old mid new : State) (t : T) (second : Result U TableFault)
    → WritesRows {V = T} IsIn one old mid (Ok t) → WritesRows IsIn two mid new second → WritesRows IsIn (λ name rows. two name (one name rows)) old new second
rows_then IsIn one two keeps old mid new t second a b =
    let early : HasCleanDisk new → HasCleanDisk mid = λ clean. omega (arith, b.within.survives.clean) in
    record {
      gains = λ clean inside has rises. (let stays = a.inside (early clean) inside in
          let gone = a.gains (early clean) inside has rises in
          let back = λ (name : TableName) (at : Contains mid.now.schema.tables (table_named name)). subst (λ (s : Schema). Contains s.tables (table_named name)) gone.schema at in
          on_weaker second (gains_then one two keeps old.now mid.now new.now gone) (b.gains clean (stays.mode, stays.is_open) (subst IsIn (sym gone.schema) has) (λ name at. gone.rises name (back name at) (rises name (back name at)))));
      mode = λ clean begun. b.mode clean (a.mode (early clean) begun);
      inside = λ clean inside. (let stays = a.inside (early clean) inside in on_weaker second (stays_then old mid new stays) (b.inside clean (stays.mode, stays.is_open)));
      within = within_then old mid new a.within a.mode b.within;
    }

-- a call that stopped
pub rows_stop : {U : Type 0} (IsIn : Schema → Type 0) (onto : TableName → List Row → List Row) (old new : State) (r : Result U TableFault) → IsErr r → IsWithin old new → WritesRows IsIn onto old new r
rows_stop IsIn onto old new (Ok v) is within = absurd (cc)
rows_stop IsIn onto old new (Err e) is within = record { gains = λ _ _ _ _. tt; mode = λ _ _. tt; inside = λ _ _. tt; within = within }

-- ── from one schema to another ──

pub rows_alter : {V : Type 0} (IsIn : Schema → Type 0) (from : Schema) (onto : TableName → List Row → List Row) (old new : State) (result : Result V TableFault) → IsIn from → WritesRows IsIn onto old new result → Alters from from onto old new result
rows_alter IsIn from onto old new result is w = record {
  reaches = λ clean inside has rises.
      let there = λ (name : TableName) (at : Contains from.tables (table_named name)). subst (λ (s : Schema). Contains s.tables (table_named name)) (sym has) at in
      on_weaker result (λ (gone : GainsRows onto old.now new.now). record {
        schema = gone.schema ∙ has;
        sound = gone.sound;
        tables = λ name at. gone.tables name (there name at);
        rises = λ up name at. gone.rises name (there name at) (up name (there name at));
      }) (w.gains clean inside (subst IsIn (sym has) is) (subst (λ s. AllRise s old.now.trees) (sym has) rises));
  mode = w.mode;
  inside = w.inside;
  within = w.within;
}

-- each table of the new schema was there, and what is made of its rows does not depend on their order; or on them at all
abbrev pub Turns : Schema → Schema → (TableName → List Row → List Row) → Type 0
Turns mid to onto = (name : TableName) → Contains to.tables (table_named name) → (Contains mid.tables (table_named name) × Keeps onto name) ⊎ Forgets onto name

pub turns_same : (mid to : Schema) (onto : TableName → List Row → List Row) → mid.tables ≡ to.tables → ((name : TableName) → Keeps onto name) → Turns mid to onto
turns_same mid to onto same keeps name at = inl (subst (λ ts. Contains ts (table_named name)) (sym same) at, keeps name)

pub alters_then : {T U : Type 0} (from mid to : Schema) (one two : TableName → List Row → List Row) → Turns mid to two → (old m new : State) (t : T) (second : Result U TableFault)
    → Alters {V = T} from mid one old m (Ok t) → Alters mid to two m new second → Alters from to (λ name rows. two name (one name rows)) old new second
alters_then from mid to one two turns old m new t second a b =
    let early : HasCleanDisk new → HasCleanDisk m = λ clean. omega (arith, b.within.survives.clean) in
    record {
      reaches = λ clean inside has rises. (let stays = a.inside (early clean) inside in
          let gone = a.reaches (early clean) inside has rises in
          let up = gone.rises (subst (λ s. AllRise s old.now.trees) (sym has) rises) in
          on_weaker second (λ (more : Reaches to two m.now new.now). record {
            schema = more.schema;
            sound = λ sound. more.sound (gone.sound sound);
            tables = λ name at.
                let turned : IsPermutation (two name (one name (rows_in (table_named name) old.now.trees))) (two name (rows_in (table_named name) m.now.trees)) =
                elim (turns name at) [ inl keeps ↦ keeps.1 _ _ (gone.tables name keeps.0) | inr forgets ↦ forgets _ _ ] in
                IsPermutation-trans _ _ _ turned (more.tables name at);
            rises = λ _. more.rises (subst (λ s. AllRise s m.now.trees) (sym gone.schema) up);
          }) (b.reaches clean (stays.mode, stays.is_open) gone.schema up));
      mode = λ clean begun. b.mode clean (a.mode (early clean) begun);
      inside = λ clean inside. (let stays = a.inside (early clean) inside in on_weaker second (stays_then old m new stays) (b.inside clean (stays.mode, stays.is_open)));
      within = within_then old m new a.within a.mode b.within;
    }

-- a call that stopped
pub alters_stop : {U : Type 0} (from to : Schema) (onto : TableName → List Row → List Row) (old new : State) (r : Result U TableFault) → IsErr r → IsWithin old new → Alters from to onto old new r
alters_stop from to onto old new (Ok v) is within = absurd (cc)
alters_stop from to onto old new (Err e) is within = record { reaches = λ _ _ _ _. tt; mode = λ _ _. tt; inside = λ _ _. tt; within = within }
