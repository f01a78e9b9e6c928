-- Calls that write rows, one after another: what they make of the rows of each table.
use Rattle.std.proofs.Common.{IsTrue, ◌≡◌, ◌≢◌, ℕ, ◌==◌, Bool, true, false, not, cond, List, [], ◌∷◌, ◌++◌, map, filter, Ok, Err, Result, OnOk, refl, sym, subst, arith}
use Rattle.std.specs.Prelude.{Contains, IsErr}
use Rattle.std.specs.List.{AllByRecursion}
use Rattle.std.specs.List.Sorted.{IsPermutation}
use Rattle.std.proofs.lemmas.Bool.{eqb-true}
use Rattle.std.proofs.lemmas.Bool.Decides.{nat_tests}
use Rattle.std.proofs.lemmas.List.Elements.{All-contains, All-from_recursion}
use Rattle.std.proofs.lemmas.List.Sorted.{IsPermutation-refl}
use Rattle.sqlite.specs.Order.{Row}
use Rattle.sqlite.specs.Table.{Table}
use Rattle.sqlite.specs.Schema.{Schema}
use Rattle.sqlite.specs.Tree.{rowid, IsTable}
use Rattle.sqlite.specs.View.{is_int}
use Rattle.sqlite.specs.Effect.{Database}
use Rattle.sqlite.specs.State.{State, HasCleanDisk}
use Rattle.sqlite_keyed.proofs.ListLemmas.{IsPermutation-filter}
use Rattle.mx_layout.specs.TableName.{TableName}
use Rattle.mx_layout.specs.declared.fault.TableFault.{TableFault}
use Rattle.mx_layout.specs.Contents.{cells, rows_in, HasNoReferences, Rises}
use Rattle.mx_layout.specs.Crash.{IsWithin}
use Rattle.mx_layout.specs.Names.{table_named}
use Rattle.mx_layout.proofs.CrashLemmas.{stays_then, within_itself, within_then}
use Rattle.mx_layout.proofs.TreeLemmas.{same_tree}
use Rattle.mx_layout.specs.kept.Kept.{Kept}
use Rattle.mx_layout.specs.kept.Family.{on_top}
use Rattle.mx_layout.specs.kept.Meanings.{IsLawful}
use Rattle.mx_layout.proofs.KeptProofs.OntoLemmas.{on_top_keeps}
use Rattle.mx_tables.specs.inserts.Calls.{InsertsRow}
use Rattle.mx_tables.specs.inserts.Sets.{GainsRows, WritesTables}
use Rattle.mx_tables.proofs.InsertsProofs.SetLemmas.{gains_none, gains_one, gains_then, on_weaker, stays_open}
use Rattle.mx_table_rows.specs.totals.InPlace.{Replaces, ReplacesRows}
use Rattle.mx_apply.specs.writing.Changes.{AllRise, WritesRows, all_in_place, in_place}

-- what is made of rows does not depend on their order
abbrev pub Keeps : (List Row → List Row) → Type 0
Keeps onto = (xs ys : List Row) → IsPermutation xs ys → IsPermutation (onto xs) (onto ys)

-- ── rows that come in place of others ──

not_same : (n m : ℕ) → (n == m) ≡ false → m ≢ n
not_same n m h same = grind (arith, nat_tests)

less_if : (b : Bool) (test : Row → Bool) (xs ys : List Row) → IsPermutation xs ys → IsPermutation (cond b (filter test xs) xs) (cond b (filter test ys) ys)
less_if true test xs ys same = IsPermutation-filter test xs ys same
less_if false test xs ys same = same

in_place_keeps : {X : Type 0} (k : Kept X) (chosen : Row → Bool) (x : X) (name : TableName) → Keeps (in_place k chosen x name)
in_place_keeps k chosen x name = λ xs ys same.
    on_top_keeps k (x ∷ []) name _ _ (less_if ((table_named k.name).tree == (table_named name).tree) (λ row. not (chosen row)) xs ys same)

pub all_in_place_keeps : {X : Type 0} (k : Kept X) (replaced : X → Row → Bool) (xs : List X) (name : TableName) → Keeps (all_in_place k replaced xs name)
all_in_place_keeps k replaced [] name = λ ys zs same. same
all_in_place_keeps k replaced (x ∷ xs) name = λ ys zs same. all_in_place_keeps k replaced xs name _ _ (in_place_keeps k (replaced x) x name ys zs same)

module _ {X : Type 0} (k : Kept X) (chosen : Row → Bool) (x : X) (old new : Database) (it : Replaces (table_named k.name) chosen (k.as_cells x) old new) where
  -- each other table is as it was
  as_it_was : (name : TableName) → Contains old.schema.tables (table_named name) → ((table_named k.name).tree == (table_named name).tree) ≡ false → new.trees (table_named name).tree ≡ old.trees (table_named name).tree
  as_it_was name at other =
      let P = λ (t : Table). t.tree ≢ (table_named k.name).tree → new.trees t.tree ≡ old.trees t.tree in
      All-contains P old.schema.tables (table_named name) (All-from_recursion P old.schema.tables it.others) at (not_same (table_named k.name).tree (table_named name).tree other)

  abbrev left : Row → Bool
  left row = not (chosen row)

  replaced_rows : (name : TableName) → Contains old.schema.tables (table_named name) → (b : Bool) → ((table_named k.name).tree == (table_named name).tree) ≡ b
      → IsPermutation (cond b (map k.as_cells (x ∷ []) ++ cond b (filter left (rows_in (table_named name) old.trees)) (rows_in (table_named name) old.trees)) (cond b (filter left (rows_in (table_named name) old.trees)) (rows_in (table_named name) old.trees)))
      (rows_in (table_named name) new.trees)
  replaced_rows name at true here =
      subst (λ n. IsPermutation (k.as_cells x ∷ filter left (rows_in (table_named n) old.trees)) (rows_in (table_named n) new.trees)) (same_tree k.name name (eqb-true (table_named k.name).tree (table_named name).tree here)) it.replaced
  replaced_rows name at false other =
      subst (λ stored. IsPermutation (rows_in (table_named name) old.trees) (map (cells (table_named name)) stored)) (sym (as_it_was name at other)) (IsPermutation-refl (rows_in (table_named name) old.trees))

  still_rises : (name : TableName) → Contains old.schema.tables (table_named name) → (b : Bool) → ((table_named k.name).tree == (table_named name).tree) ≡ b → Rises (table_named name) old.trees → Rises (table_named name) new.trees
  still_rises name at true here up = subst (λ n. Rises (table_named n) new.trees) (same_tree k.name name (eqb-true (table_named k.name).tree (table_named name).tree here)) it.rises
  still_rises name at false other up =
      let kept = sym (as_it_was name at other) in
      record { up = subst IsTable kept up.up; numbers = subst (AllByRecursion (λ r. IsTrue (is_int (rowid r)))) kept up.numbers }

  replaces_gains : GainsRows (in_place k chosen x) old new
  replaces_gains = record {
    schema = it.schema;
    sound = λ _. it.sound;
    tables = λ name at. replaced_rows name at ((table_named k.name).tree == (table_named name).tree) refl;
    rises = λ name at up. still_rises name at ((table_named k.name).tree == (table_named name).tree) refl up;
  }

-- ── one call ──

pub replaces_write : {X V : Type 0} (k : Kept X) → IsLawful k → (chosen : Row → Bool) (x : X) (old new : State) (result : Result V TableFault) → ReplacesRows k chosen x old new result
    → WritesRows (λ schema. k.IsIn schema × HasNoReferences schema) (in_place k chosen x) old new result
replaces_write k law chosen x old new result r = record {
  gains = λ clean inside has rise. on_weaker result (replaces_gains k chosen x old.now new.now) (r.replaces clean inside.0 has.0 has.1 (rise k.name (law.there old.now.schema has.0)));
  mode = λ clean begun. on_weaker result (λ stays. stays.mode) (r.inside clean begun);
  inside = λ clean inside. r.inside clean inside.0;
  within = r.within;
}

pub inserts_write : {X V : Type 0} (k : Kept X) (x : X) (old new : State) (result : Result V TableFault) → InsertsRow k x old new result → WritesRows k.IsIn (on_top k (x ∷ [])) old new result
inserts_write k x old new result r = record {
  gains = λ clean inside has rise. on_weaker result (gains_one k [] x old.now old.now new.now (gains_none k old.now)) (r.gains clean inside.0 has);
  mode = λ clean begun. on_weaker result (λ stays. stays.mode) (r.inside clean begun);
  inside = λ clean inside. r.inside clean inside.0;
  within = r.within;
}

pub tables_write : {V : Type 0} (IsIn : Schema → Type 0) (onto : TableName → List Row → List Row) (old new : State) (result : Result V TableFault) → WritesTables IsIn onto old new result → WritesRows IsIn onto old new result
tables_write IsIn onto old new result w = record { gains = λ clean inside has rise. w.gains clean inside has; mode = w.mode; inside = w.inside; within = w.within }

-- in fewer schemas
pub rows_over : {V : Type 0} (One Two : Schema → Type 0) (onto : TableName → List Row → List Row) (old new : State) (result : Result V TableFault) → ((schema : Schema) → Two schema → One schema) → WritesRows One onto old new result → WritesRows Two onto old new result
rows_over One Two onto old new result fewer w = record { gains = λ clean inside has rise. w.gains clean inside (fewer old.now.schema has) rise; mode = w.mode; inside = w.inside; within = w.within }

-- a call that stopped
pub rows_stop : {U : Type 0} (IsIn : Schema → Type 0) (onto : TableName → List Row → List Row) (old new : State) (r : Result U TableFault) → IsErr r → IsWithin old new → WritesRows IsIn onto old new r
rows_stop IsIn onto old new (Ok v) is within = absurd (cc)
rows_stop IsIn onto old new (Err e) is within = record { gains = λ _ _ _ _. tt; mode = λ _ _. tt; inside = λ _ _. tt; within = within }

-- ── one call behind another ──

-- the rowids of tables that gained rows rise as they did
pub rise_then : (onto : TableName → List Row → List Row) (old new : Database) → GainsRows onto old new → AllRise old → AllRise new
rise_then onto old new gains rise = λ name at.
    let there = subst (λ (s : Schema). Contains s.tables (table_named name)) gains.schema at in
    gains.rises name there (rise name there)

pub rows_then : {T U : Type 0} (IsIn : Schema → Type 0) (one two : TableName → List Row → List Row) → ((name : TableName) → Keeps (two name)) → (old mid new : State) (t : T) (second : Result U TableFault)
    → WritesRows {V = T} IsIn one old mid (Ok t) → WritesRows {V = U} IsIn two mid new second → WritesRows {V = U} IsIn (λ name rows. two name (one name rows)) old new second
rows_then IsIn one two keeps old mid new t second a b =
    let early : HasCleanDisk new → HasCleanDisk mid = λ clean. omega (arith, b.within.survives.clean) in
    record {
      gains = λ clean inside has rise. (let stays = a.inside (early clean) inside in
          let gone = a.gains (early clean) inside has rise in
          on_weaker second (gains_then one two keeps old.now mid.now new.now gone)
          (b.gains clean (stays.mode, stays.is_open) (subst IsIn (sym gone.schema) has) (rise_then one old.now mid.now gone rise)));
      mode = λ clean begun. b.mode clean (a.mode (early clean) begun);
      inside = λ clean inside. (let stays = a.inside (early clean) inside in on_weaker second (stays_then old mid new stays) (b.inside clean (stays.mode, stays.is_open)));
      within = within_then old mid new a.within a.mode b.within;
    }

-- a call behind another that stopped
pub stop_after : {T U V : Type 0} (IsIn : Schema → Type 0) {one two : TableName → List Row → List Row} (onto : TableName → List Row → List Row) {old mid new : State} {t : T} {r : Result U TableFault} (stopped : Result V TableFault) → IsErr stopped
    → WritesRows {V = T} IsIn one old mid (Ok t) → WritesRows {V = U} IsIn two mid new r → WritesRows IsIn onto old new stopped
stop_after IsIn onto {old = old} {mid = mid} {new = new} stopped is a b = rows_stop IsIn onto old new stopped is (within_then old mid new a.within a.mode b.within)

-- ── rows one after another ──

pub none_in_place : {X : Type 0} (k : Kept X) (replaced : X → Row → Bool) (IsIn : Schema → Type 0) (s : State) → WritesRows {V = ℕ} IsIn (all_in_place k replaced []) s s (Ok 0)
none_in_place k replaced IsIn s = record {
  gains = λ _ _ _ rise. record { schema = refl; sound = λ sound. sound; tables = λ name at. IsPermutation-refl _; rises = λ name at up. up };
  mode = λ _ begun. begun;
  inside = λ _ inside. stays_open _ inside;
  within = within_itself _;
}

last_in_place : {X : Type 0} (k : Kept X) (replaced : X → Row → Bool) (xs : List X) (x : X) (name : TableName) (rows : List Row) → all_in_place k replaced (xs ++ x ∷ []) name rows ≡ in_place k (replaced x) x name (all_in_place k replaced xs name rows)
last_in_place k replaced [] x name rows = refl
last_in_place k replaced (y ∷ xs) x name rows = last_in_place k replaced xs x name (in_place k (replaced y) y name rows)

pub one_more_in_place : {X U : Type 0} (k : Kept X) (replaced : X → Row → Bool) (IsIn : Schema → Type 0) (xs : List X) (x : X) (old mid new : State) (u : U) → WritesRows {V = ℕ} IsIn (all_in_place k replaced xs) old mid (Ok 0) → WritesRows {V = U} IsIn (in_place k (replaced x) x) mid new (Ok u)
    → WritesRows {V = ℕ} IsIn (all_in_place k replaced (xs ++ x ∷ [])) old new (Ok 0)
one_more_in_place k replaced IsIn xs x old mid new u so_far more =
    let w = rows_then IsIn (all_in_place k replaced xs) (in_place k (replaced x) x) (in_place_keeps k (replaced x) x) old mid new 0 (Ok u) so_far more in
    subst (λ (onto : TableName → List Row → List Row). WritesRows {V = ℕ} IsIn onto old new (Ok 0)) (λ i name rows. sym (last_in_place k replaced xs x name rows) i)
    (record { gains = w.gains; mode = w.mode; inside = w.inside; within = w.within })

-- rows of a slice that were put in place, in fewer schemas
pub placed : {X V : Type 0} (k : Kept X) (replaced : X → Row → Bool) (IsIn : Schema → Type 0) → ((schema : Schema) → IsIn schema → k.IsIn schema × HasNoReferences schema) → {xs ys : List X} {old new : State} {r : Result V TableFault} → xs ≡ ys
    → WritesRows (λ schema. k.IsIn schema × HasNoReferences schema) (all_in_place k replaced xs) old new r → WritesRows IsIn (all_in_place k replaced ys) old new r
placed k replaced IsIn fewer {xs = xs} {ys = ys} {old = old} {new = new} {r = r} same w =
    rows_over (λ schema. k.IsIn schema × HasNoReferences schema) IsIn (all_in_place k replaced ys) old new r fewer (subst (λ zs. WritesRows (λ schema. k.IsIn schema × HasNoReferences schema) (all_in_place k replaced zs) old new r) same w)

-- what holds whatever was answered
pub always : {V : Type 0} (P : Type 0) (r : Result V TableFault) → P → OnOk r P
always P (Ok v) p = p
always P (Err e) p = tt
