-- What several tables come to, from what each does.
use Rattle.std.proofs.Common.{IsTrue, ◌≡◌, ◌≢◌, ◌⊎◌, inl, inr, ℕ, ◌==◌, Bool, true, false, cond, List, [], ◌∷◌, ◌++◌, map, All, Ok, Err, Result, OnOk, refl, sym, ap, subst, ◌∙◌, arith}
use Rattle.std.specs.Prelude.{Contains, IfOk, IfErr}
use Rattle.std.specs.List.{AllByRecursion}
use Rattle.std.specs.List.Sorted.{IsPermutation}
use Rattle.std.proofs.lemmas.Bool.{eqb-true}
use Rattle.std.proofs.lemmas.Bool.Decides.{nat_tests}
use Rattle.std.proofs.lemmas.List.{map-append}
use Rattle.std.proofs.lemmas.List.Elements.{All-contains, All-from_recursion}
use Rattle.std.proofs.lemmas.List.Sorted.{IsPermutation-refl, IsPermutation-trans, IsPermutation-append_comm, IsPermutation-append_left, IsPermutation-append_right}
use Rattle.sqlite.specs.Order.{Row}
use Rattle.sqlite.specs.Table.{Table}
use Rattle.sqlite.specs.Schema.{Schema}
use Rattle.sqlite.specs.Tree.{Trees, rowid, IsTable}
use Rattle.sqlite.specs.View.{is_int}
use Rattle.sqlite.specs.Effect.{Database}
use Rattle.sqlite.specs.State.{State, HasCleanDisk}
use Rattle.sqlite.proofs.Callers.{unchanged_then}
use Rattle.mx_layout.specs.TableName.{TableName}
use Rattle.mx_layout.specs.declared.fault.TableFault.{TableFault}
use Rattle.mx_layout.specs.declared.fault.TableFault.TheVariants.{Memory, Store, NotOurs, Exists, Damaged}
use Rattle.mx_layout.specs.Contents.{cells, rows_in, Rises}
use Rattle.mx_layout.specs.Names.{table_named}
use Rattle.mx_layout.specs.Reading.{HasOther}
use Rattle.mx_layout.specs.Writing.{Gains}
use Rattle.mx_layout.specs.kept.Kept.{Kept}
use Rattle.mx_layout.specs.kept.Family.{IsReadableAs, on_top}
use Rattle.mx_layout.specs.kept.Meanings.{IsLawful}
use Rattle.mx_layout.specs.Reading.{AreAllBy}
use Rattle.mx_tables.specs.Calls.{OnRead, ReadsRows}
use Rattle.mx_tables.specs.inserts.Calls.{InsertsRow}
use Rattle.mx_tables.specs.inserts.Sets.{GainsRows, IsDamaged, AreRowsOf, ReadsTables, WritesTables, IsInside}
use Rattle.mx_layout.specs.Crash.{StaysInside, IsWithin}
use Rattle.mx_layout.proofs.CrashLemmas.{within_itself, within_then, stays_then}
use Rattle.mx_layout.proofs.TreeLemmas.{same_tree}
use Rattle.std.specs.Prelude.{IsErr, IsErrAnd}

not_same : (n m : ℕ) → (n == m) ≡ false → m ≢ n
not_same n m h same = grind (arith, nat_tests)

-- ── rows of one table ──

-- no row
pub gains_none : {X : Type 0} (k : Kept X) (db : Database) → GainsRows (on_top k []) db db
gains_none k db = record {
  schema = refl;
  sound = λ sound. sound;
  tables = λ name at. none ((table_named k.name).tree == (table_named name).tree) (rows_in (table_named name) db.trees);
  rises = λ name at up. up;
}
  where
    none : (b : Bool) (rows : List Row) → IsPermutation (cond b ([] ++ rows) rows) rows
    none true rows = IsPermutation-refl rows
    none false rows = IsPermutation-refl rows

-- one row more
module _ {X : Type 0} (k : Kept X) (done : List X) (x : X) (first old new : Database) (so_far : GainsRows (on_top k done) first old) (one : Gains (table_named k.name) (k.as_cells x) old new) where
  -- each other table is as it was
  as_it_was : (name : TableName) → Contains first.schema.tables (table_named name) → ((table_named k.name).tree == (table_named name).tree) ≡ false → new.trees (table_named name).tree ≡ old.trees (table_named name).tree
  as_it_was name at same =
      let there = subst (λ (s : Schema). Contains s.tables (table_named name)) (sym so_far.schema) at in
      let P = λ (t : Table). t.tree ≢ (table_named k.name).tree → new.trees t.tree ≡ old.trees t.tree in
      All-contains P old.schema.tables (table_named name) (All-from_recursion P old.schema.tables one.adds.others) there (not_same (table_named k.name).tree (table_named name).tree same)

  one_more : (name : TableName) → Contains first.schema.tables (table_named name) → (b : Bool) → ((table_named k.name).tree == (table_named name).tree) ≡ b
      → IsPermutation (cond b (map k.as_cells done ++ rows_in (table_named name) first.trees) (rows_in (table_named name) first.trees)) (rows_in (table_named name) old.trees)
      → IsPermutation (cond b (map k.as_cells (done ++ x ∷ []) ++ rows_in (table_named name) first.trees) (rows_in (table_named name) first.trees)) (rows_in (table_named name) new.trees)
  one_more name at true same before =
      let here = same_tree k.name name (eqb-true (table_named k.name).tree (table_named name).tree same) in
      let row = k.as_cells x in
      let had = map k.as_cells done in
      let stored = rows_in (table_named name) first.trees in
      let gained = subst (λ n. IsPermutation (row ∷ rows_in (table_named n) old.trees) (rows_in (table_named n) new.trees)) here one.adds.gained in
      let behind = IsPermutation-trans (row ∷ (had ++ stored)) (row ∷ rows_in (table_named name) old.trees) _ (IsPermutation-append_right (row ∷ []) (had ++ stored) (rows_in (table_named name) old.trees) before) gained in
      let swapped = IsPermutation-append_left stored (had ++ row ∷ []) (row ∷ had) (IsPermutation-append_comm had (row ∷ [])) in
      subst (λ rs. IsPermutation (rs ++ stored) (rows_in (table_named name) new.trees)) (sym (map-append k.as_cells done (x ∷ [])))
      (IsPermutation-trans ((had ++ row ∷ []) ++ stored) ((row ∷ had) ++ stored) _ swapped behind)
  one_more name at false same before =
      subst (λ stored. IsPermutation (rows_in (table_named name) first.trees) (map (cells (table_named name)) stored)) (sym (as_it_was name at same)) before

  still_rises : (name : TableName) → Contains first.schema.tables (table_named name) → (b : Bool) → ((table_named k.name).tree == (table_named name).tree) ≡ b → Rises (table_named name) old.trees → Rises (table_named name) new.trees
  still_rises name at true same =
      subst (λ n. Rises (table_named n) old.trees → Rises (table_named n) new.trees) (same_tree k.name name (eqb-true (table_named k.name).tree (table_named name).tree same)) one.adds.rises
  still_rises name at false same = λ up.
      let kept = sym (as_it_was name at same) in
      record { up = subst IsTable kept up.up; numbers = subst (AllByRecursion (λ r. IsTrue (is_int (rowid r)))) kept up.numbers }

  pub gains_one : GainsRows (on_top k (done ++ x ∷ [])) first new
  gains_one = record {
    schema = one.schema ∙ so_far.schema;
    sound = λ sound. one.sound;
    tables = λ name at. one_more name at ((table_named k.name).tree == (table_named name).tree) refl (so_far.tables name at);
    rises = λ name at up. still_rises name at ((table_named k.name).tree == (table_named name).tree) refl (so_far.rises name at up);
  }

-- ── some tables, and then others ──

pub gains_then : (one two : TableName → List Row → List Row) → ((name : TableName) (xs ys : List Row) → IsPermutation xs ys → IsPermutation (two name xs) (two name ys)) → (old mid new : Database)
    → GainsRows one old mid → GainsRows two mid new → GainsRows (λ name rows. two name (one name rows)) old new
gains_then one two keeps old mid new first second = record {
  schema = second.schema ∙ first.schema;
  sound = λ sound. second.sound (first.sound sound);
  tables = λ name at.
      let there = subst (λ (s : Schema). Contains s.tables (table_named name)) (sym first.schema) at in
      IsPermutation-trans _ _ _ (keeps name _ _ (first.tables name at)) (second.tables name there);
  rises = λ name at up. second.rises name (subst (λ (s : Schema). Contains s.tables (table_named name)) (sym first.schema) at) (first.rises name at up);
}

-- ── damage ──

-- a row that is none of the type is damage, by the name of the table
pub damage_of : {X : Type 0} (k : Kept X) → IsLawful k → (trees : Trees) (name : TableName) → k.name ≡ name → HasOther (IsReadableAs k) (rows_in (table_named k.name) trees) → IsDamaged trees name
damage_of k law trees name same other = subst (IsDamaged trees) same (other.0, other.1, λ good. other.2 (law.tells other.0 good))

-- one table that was read
pub reads_one : {X V : Type 0} (k : Kept X) (items : V → List X) → IsLawful k → (old new : State) (result : Result V TableFault) → ReadsRows k items old new result
    → ReadsTables k.IsIn (λ trees v. AreRowsOf k trees (items v)) old new result
reads_one {X} {V} k items law old new result r = record {
  rows = λ clean has. both result (r.rows clean has) r.fits;
  cause = caused result r.cause;
  damaged = λ clean has name. damages result name r.cause (r.damaged clean has);
  there = λ schema has name. contained schema result name (law.there schema has) r.cause;
  unchanged = r.unchanged;
  inside = r.inside;
  within = r.within;
}
  where
    both : (result : Result V TableFault) → IfOk result (λ v. AreAllBy k.order (table_named k.name) old.now.trees (map k.as_cells (items v))) → IfOk result (λ v. All k.Fits (items v)) → IfOk result (λ v. AreRowsOf k old.now.trees (items v))
    both (Ok v) rows fits = (rows, fits)
    both (Err e) rows fits = tt

    caused : (result : Result V TableFault) → IfErr result (λ e. (e ≡ Memory) ⊎ ((e ≡ Store) ⊎ (e ≡ Damaged k.name))) → IfErr result (λ e. (e ≡ Memory) ⊎ ((e ≡ Store) ⊎ ((name : TableName) × (e ≡ Damaged name))))
    caused (Ok v) why = tt
    caused (Err e) (inl memory) = inl memory
    caused (Err e) (inr (inl store)) = inr (inl store)
    caused (Err e) (inr (inr damaged)) = inr (inr (k.name, damaged))

    contained : (schema : Schema) (result : Result V TableFault) (name : TableName) → Contains schema.tables (table_named k.name) → IfErr result (λ e. (e ≡ Memory) ⊎ ((e ≡ Store) ⊎ (e ≡ Damaged k.name)))
        → IfErr result (λ e. e ≡ Damaged name → Contains schema.tables (table_named name))
    contained schema (Ok v) name there why = tt
    contained schema (Err e) name there (inl memory) = λ is. absurd (cc)
    contained schema (Err e) name there (inr (inl store)) = λ is. absurd (cc)
    contained schema (Err e) name there (inr (inr damaged)) = λ is. (let same : k.name ≡ name = cc in subst (λ n. Contains schema.tables (table_named n)) same there)

    damages : (result : Result V TableFault) (name : TableName) → IfErr result (λ e. (e ≡ Memory) ⊎ ((e ≡ Store) ⊎ (e ≡ Damaged k.name))) → (result ≡ Err (Damaged k.name) → HasOther (IsReadableAs k) (rows_in (table_named k.name) old.now.trees))
        → IfErr result (λ e. e ≡ Damaged name → IsDamaged old.now.trees name)
    damages (Ok v) name why has = tt
    damages (Err e) name (inl memory) has = λ is. absurd (cc)
    damages (Err e) name (inr (inl store)) has = λ is. absurd (cc)
    damages (Err e) name (inr (inr damaged)) has = λ is. (let same : k.name ≡ name = cc in damage_of k law old.now.trees name same (has (ap Err damaged)))

-- some tables that were written, and then others
pub on_weaker : {T E P Q : Type 0} (r : Result T E) → (P → Q) → OnOk r P → OnOk r Q
on_weaker (Ok x) f h = f h
on_weaker (Err e) f h = tt

pub writes_then : {T U : Type 0} (One Two : Schema → Type 0) (one two : TableName → List Row → List Row) → ((name : TableName) (xs ys : List Row) → IsPermutation xs ys → IsPermutation (two name xs) (two name ys)) → (old mid new : State) (t : T) (second : Result U TableFault)
    → WritesTables {V = T} One one old mid (Ok t) → ((s : Schema) (s' : Schema) → s' ≡ s → Two s → Two s') → WritesTables Two two mid new second → WritesTables (λ s. One s × Two s) (λ name rows. two name (one name rows)) old new second
writes_then One Two one two keeps old mid new t second a moves b =
    let early : HasCleanDisk new → HasCleanDisk mid = λ clean. omega (arith, b.within.survives.clean) in
    record {
      gains = λ clean inside has. (let stays = a.inside (early clean) inside in
          let gone = a.gains (early clean) inside has.0 in
          on_weaker second (gains_then one two keeps old.now mid.now new.now gone) (b.gains clean (stays.mode, stays.is_open) (moves old.now.schema mid.now.schema gone.schema has.1)));
      mode = λ clean begun. b.mode clean (a.mode (early clean) begun);
      inside = λ clean inside. (let stays = a.inside (early clean) inside in on_weaker second (stays_then old mid new stays) (b.inside clean (stays.mode, stays.is_open)));
      within = within_then old mid new a.within a.mode b.within;
    }

-- a call that stopped
pub stops_writing : {U : Type 0} (IsIn : Schema → Type 0) (onto : TableName → List Row → List Row) (old new : State) (r : Result U TableFault) → IsErr r → IsWithin old new → WritesTables IsIn onto old new r
stops_writing IsIn onto old new (Ok v) is within = absurd (cc)
stops_writing IsIn onto old new (Err e) is within = record { gains = λ _ _ _. tt; mode = λ _ _. tt; inside = λ _ _. tt; within = within }

-- a call that wrote no row yet
pub stays_open : (s : State) → IsInside s → StaysInside s s
stays_open s inside = record { was_open = inside.1; is_open = inside.1; now_is = refl; committed_is = refl; mode = inside.0 }

-- the rows of one table, one after another
pub none_written : {X : Type 0} (k : Kept X) (s : State) → WritesTables {V = ℕ} k.IsIn (on_top k []) s s (Ok 0)
none_written k s = record { gains = λ _ _ _. gains_none k s.now; mode = λ _ begun. begun; inside = λ _ inside. stays_open s inside; within = within_itself s }

pub one_written : {X U : Type 0} (k : Kept X) (xs : List X) (x : X) (first old new : State) (u : U) → WritesTables {V = ℕ} k.IsIn (on_top k xs) first old (Ok 0) → InsertsRow {V = U} k x old new (Ok u) → WritesTables {V = ℕ} k.IsIn (on_top k (xs ++ x ∷ [])) first new (Ok 0)
one_written k xs x first old new u so_far one =
    let early : HasCleanDisk new → HasCleanDisk old = λ clean. omega (arith, one.within.survives.clean) in
    record {
      gains = λ clean inside has. (let stays = so_far.inside (early clean) inside in
          let gained = so_far.gains (early clean) inside has in
          gains_one k xs x first.now old.now new.now gained (one.gains clean stays.mode (subst k.IsIn (sym gained.schema) has)));
      mode = λ clean begun. (one.inside clean (so_far.mode (early clean) begun)).mode;
      inside = λ clean inside. (let stays = so_far.inside (early clean) inside in stays_then first old new stays (one.inside clean stays.mode));
      within = within_then first old new so_far.within so_far.mode one.within;
    }

pub on_ok : {T E P : Type 0} (r : Result T E) (x : T) → r ≡ Ok x → OnOk r P → P
on_ok (Ok y) x is p = p
on_ok (Err e) x is p = absurd (cc)

-- one row, and then some tables: the row shows that the connection is open
pub record OneThen {X U : Type 0} (k : Kept X) (x : X) (Two : Schema → Type 0) (two : TableName → List Row → List Row) (old new : State) (second : Result U TableFault) : Type 0 where
  pub gains : HasCleanDisk new → IsTrue old.in_transaction → k.IsIn old.now.schema → Two old.now.schema → OnOk second (GainsRows (λ name rows. two name (on_top k (x ∷ []) name rows)) old.now new.now)
  pub inside : HasCleanDisk new → IsTrue old.in_transaction → OnOk second (StaysInside old new)
  pub within : IsWithin old new

pub one_then : {X T U : Type 0} (k : Kept X) (x : X) (Two : Schema → Type 0) (two : TableName → List Row → List Row) → ((name : TableName) (xs ys : List Row) → IsPermutation xs ys → IsPermutation (two name xs) (two name ys)) → (old mid new : State) (t : T) (second : Result U TableFault)
    → InsertsRow {V = T} k x old mid (Ok t) → WritesTables Two two mid new second → OneThen k x Two two old new second
one_then k x Two two keeps old mid new t second a b =
    let early : HasCleanDisk new → HasCleanDisk mid = λ clean. omega (arith, b.within.survives.clean) in
    record {
      gains = λ clean begun has has_two. (let stays = a.inside (early clean) begun in
          let one = gains_one k [] x old.now old.now mid.now (gains_none k old.now) (a.gains (early clean) begun has) in
          on_weaker second (gains_then (on_top k (x ∷ [])) two keeps old.now mid.now new.now one) (b.gains clean (stays.mode, stays.is_open) (subst Two (sym one.schema) has_two)));
      inside = λ clean begun. (let stays = a.inside (early clean) begun in on_weaker second (stays_then old mid new stays) (b.inside clean (stays.mode, stays.is_open)));
      within = within_then old mid new a.within (λ clean begun. (a.inside clean begun).mode) b.within;
    }

pub on_read_weaker : {T P Q : Type 0} (r : Result T TableFault) → (P → Q) → OnRead r P → OnRead r Q
on_read_weaker (Ok v) f h = f h
on_read_weaker (Err Memory) f h = tt
on_read_weaker (Err Store) f h = tt
on_read_weaker (Err NotOurs) f h = tt
on_read_weaker (Err Exists) f h = tt
on_read_weaker (Err (Damaged t)) f h = f h

-- some tables that were read, and then others that were not
pub reads_stopped : {T U V : Type 0} (One Two : Schema → Type 0) (OneRows : Trees → T → Type 0) (TwoRows : Trees → U → Type 0) (Rows : Trees → V → Type 0) (old mid new : State) (t : T) (e : TableFault)
    → ReadsTables One OneRows old mid (Ok t) → ReadsTables Two TwoRows mid new (Err e) → ReadsTables (λ s. One s × Two s) Rows old new (Err e)
reads_stopped {T} {U} {V} One Two OneRows TwoRows Rows old mid new t e a b =
    let early : HasCleanDisk new → HasCleanDisk mid = λ clean. omega (arith, b.within.survives.clean) in
    record {
      rows = λ _ _. tt;
      cause = b.cause;
      damaged = λ clean has name is. (let same = (a.unchanged (early clean) has.0).0.now_is in
          subst (λ (db : Database). IsDamaged db.trees name) same (b.damaged clean (subst (λ (db : Database). Two db.schema) (sym same) has.1) name is));
      there = λ schema has name. b.there schema has.1 name;
      unchanged = λ clean has. (let first = a.unchanged (early clean) has.0 in
          on_read_weaker {T = V} (Err e) (unchanged_then old mid new first) (b.unchanged clean (subst (λ (db : Database). Two db.schema) (sym first.0.now_is) has.1)));
      inside = λ clean begun. (let first = a.inside (early clean) begun in on_read_weaker {T = V} (Err e) (stays_then old mid new first) (b.inside clean first.mode));
      within = within_then old mid new a.within (λ clean begun. (a.inside clean begun).mode) b.within;
    }

pub reads_fault : {V : Type 0} (IsIn : Schema → Type 0) (Rows : Trees → V → Type 0) (old new : State) (e : TableFault) (result : Result V TableFault) → IsErrAnd result (λ x. x ≡ e) → ReadsTables IsIn Rows old new (Err e) → ReadsTables IsIn Rows old new result
reads_fault IsIn Rows old new e (Ok v) is h = absurd is
reads_fault IsIn Rows old new e (Err x) is h = subst (λ f. ReadsTables IsIn Rows old new (Err f)) (sym is) h
