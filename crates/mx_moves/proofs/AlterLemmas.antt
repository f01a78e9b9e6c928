-- What statements that make a table or an index, or drop a table, leave of every table, whatever rows there are.
use Rattle.std.proofs.Common.{◌≡◌, ◌⊎◌, inl, inr, ℕ, Bool, true, false, cond, List, [], ◌∷◌, ◌+◌, ◌++◌, map, None, Ok, Result, OnOk, IsTrue, ◌==◌, refl, sym, ap, subst, not, filter, ◌∙◌}
use Rattle.std.specs.Prelude.{Contains}
use Rattle.std.specs.List.{AllByRecursion}
use Rattle.std.specs.List.Sorted.{IsPermutation}
use Rattle.std.proofs.lemmas.Bool.{eqb-true}
use Rattle.std.proofs.lemmas.List.Elements.{All-contains, All-from_recursion, Contains-append_cases}
use Rattle.std.proofs.lemmas.List.Sorted.{IsPermutation-refl}
use Rattle.sqlite_rules.proofs.ListLemmas.{has_contained, has_filtered, contains_had}
use Rattle.sqlite.specs.Order.{Row}
use Rattle.sqlite.specs.Table.{Table}
use Rattle.sqlite.specs.Schema.{Schema}
use Rattle.sqlite.specs.Tree.{Trees, IsTable, rowid}
use Rattle.sqlite.specs.View.{is_int}
use Rattle.sqlite.specs.Command.TheVariants.{CreateTable}
use Rattle.sqlite.specs.Change.{created, next_tree, without_table, with_index, KeepsRows}
use Rattle.sqlite.specs.Does.{Tally, lacks_sequence}
use Rattle.sqlite.specs.Effect.{Database, IsDatabase}
use Rattle.sqlite.specs.State.{State, HasCleanDisk, Executes, ExecutesInside, Writes}
use Rattle.sqlite.proofs.Callers.{runs_as}
use Rattle.sqlite_schema.specs.declared.schema.Index.{Index}
use Rattle.mx_layout.specs.TableName.{TableName}
use Rattle.mx_layout.specs.declared.fault.TableFault.{TableFault}
use Rattle.mx_layout.specs.Contents.{cells, rows_in, HasNoReferences, Rises}
use Rattle.mx_layout.specs.Crash.{StaysInside, IsWithin}
use Rattle.mx_layout.specs.Names.{table_named}
use Rattle.mx_layout.proofs.CreateLemmas.{Defines, lacks_none}
use Rattle.mx_layout.proofs.DropLemmas.{MeansRemoved, removes}
use Rattle.mx_layout.proofs.IndexLemmas.{MeansIndexed, indexes}
use Rattle.mx_layout.proofs.StepLemmas.{Dropping, Indexing, Making, schema_at}
use Rattle.mx_layout.specs.Steps.{schema_after}
use Rattle.mx_layout.proofs.TreeLemmas.{same_tree}
use Rattle.mx_layout.proofs.WriteLemmas.{went, same_value}
use Rattle.mx_tables.proofs.InsertsProofs.SetLemmas.{on_weaker}
use Rattle.mx_moves.specs.Changes.{emptied, unchanged, AllRise, Reaches, Alters}
use Rattle.mx_moves.proofs.RowLemmas.{Turns, Forgets, emptied_forgets, emptied_keeps, not_same, rises_kept}

-- ── tables that stay ──

kept_in : (tables : List Table) (old new : Trees) (t : Table) → KeepsRows tables old new → Contains tables t → new t.tree ≡ old t.tree
kept_in tables old new t kept there = let P = λ (x : Table). new x.tree ≡ old x.tree in All-contains P tables t (All-from_recursion P tables kept) there

rows_kept : (t : Table) (old new : Trees) → new t.tree ≡ old t.tree → IsPermutation (rows_in t old) (rows_in t new)
rows_kept t old new same = subst (λ stored. IsPermutation (rows_in t old) (map (cells t) stored)) (sym same) (IsPermutation-refl (rows_in t old))

-- each table of the new schema was there, and is as it was
pub all_stay : (from to : Schema) (old new : Database) → old.schema ≡ from → new.schema ≡ to → IsDatabase new → ((t : Table) → Contains to.tables t → Contains from.tables t) → KeepsRows to.tables old.trees new.trees → Reaches to unchanged old new
all_stay from to old new has is sound were kept =
    let same = λ (name : TableName) (at : Contains to.tables (table_named name)). kept_in to.tables old.trees new.trees (table_named name) kept at in
    record {
      schema = is;
      sound = λ _. sound;
      tables = λ name at. rows_kept (table_named name) old.trees new.trees (same name at);
      rises = λ up name at. rises_kept (table_named name) old.trees new.trees (same name at) (up name (subst (λ (s : Schema). Contains s.tables (table_named name)) (sym has) (were (table_named name) at)));
    }

-- ── a table that is made ──

-- a schema that is another one with the table at its end
pub record HasNew (from to : Schema) (new : TableName) : Type 0 where
  pub is : created from (table_named new) ≡ to
  pub ends : to.tables ≡ from.tables ++ table_named new ∷ []
  pub tree : next_tree from ≡ (table_named new).tree
  pub uncounted : AllByRecursion (λ t. t.is_counted ≡ false) to.tables

empty_rises : (t : Table) (trees : Trees) → trees t.tree ≡ [] → Rises t trees
empty_rises t trees none = record { up = subst IsTable (sym none) tt; numbers = subst (AllByRecursion (λ r. IsTrue (is_int (rowid r)))) (sym none) tt }

-- a table of such a schema was there, or is the new one
old_or_new : (from to : Schema) (new : TableName) → HasNew from to new → (name : TableName) → Contains to.tables (table_named name) → Contains from.tables (table_named name) ⊎ (new ≡ name)
old_or_new from to new room name there =
    elim (Contains-append_cases from.tables (table_named new ∷ []) (table_named name) (subst (λ ts. Contains ts (table_named name)) room.ends there)) [
      | inl had ↦ inl had
      | inr here ↦ elim (has_contained (table_named new ∷ []) (table_named name) here) [
        | inl is ↦ inr (sym (same_tree name new (ap (λ (t : Table). t.tree) is)))
        | inr none ↦ absurd none
      ]
    ]

pub turns_new : (from to : Schema) (new : TableName) → HasNew from to new → Turns from to (emptied new)
turns_new from to new room name there = elim (old_or_new from to new room name there) [
  | inl had ↦ inl (had, emptied_keeps new name)
  | inr same ↦ inr (subst (Forgets (emptied new)) same (emptied_forgets new))
]

-- what a table that is made leaves of the others
record IsMade (from to : Schema) (t : Table) (s s' : State) : Type 0 where
  pub schema : s'.now.schema ≡ to
  pub kept : KeepsRows from.tables s.now.trees s'.now.trees
  pub empty : s'.now.trees t.tree ≡ []

module _ (from to : Schema) (text : List ℕ) (new : TableName) (defines : Defines from text (table_named new)) (room : HasNew from to new) (s s' : State) (has : s.now.schema ≡ from) where
  abbrev t : Table
  t = table_named new

  made : (count : ℕ) → Writes s s' None CreateTable text [] count → IsMade from to t s s'
  made count w =
      let all = went w.changed in
      let first = went all.1 in
      let it = first.1 in
      let same : it.table ≡ record t { tree = 0 } = same_value (sym it.defined ∙ defines.defined) in
      let listed : first.0.schema ≡ to = it.is ∙ ap (λ x. created x it.table) has ∙ ap (created from) same ∙ room.is in
      let none : lacks_sequence first.0.schema ≡ false = ap lacks_sequence listed ∙ lacks_none to room.uncounted in
      let now : s'.now ≡ first.0 = ap (λ (p : Tally × Database). p.1) (same_value all.2) ∙ same_value (rw none at first.2) in
      record {
        schema = ap (λ (d : Database). d.schema) now ∙ listed;
        kept = subst (λ (d : Database). KeepsRows from.tables s.now.trees d.trees) (sym now) (subst (λ (x : Schema). KeepsRows x.tables s.now.trees first.0.trees) has it.others);
        empty = ap (λ (d : Database). d.trees t.tree) now ∙ subst (λ n. first.0.trees n ≡ []) (ap next_tree has ∙ room.tree) it.empty;
      }

  one_table : IsMade from to t s s' → (name : TableName) → Contains to.tables (table_named name) → (b : Bool) → (t.tree == (table_named name).tree) ≡ b
      → IsPermutation (cond b [] (rows_in (table_named name) s.now.trees)) (rows_in (table_named name) s'.now.trees)
  one_table is name there true e =
      let here = same_tree new name (eqb-true t.tree (table_named name).tree e) in
      subst (λ n. IsPermutation [] (rows_in (table_named n) s'.now.trees)) here (subst (λ stored. IsPermutation [] (map (cells t) stored)) (sym is.empty) (IsPermutation-refl []))
  one_table is name there false e = elim (old_or_new from to new room name there) [
    | inl had ↦ rows_kept (table_named name) s.now.trees s'.now.trees (kept_in from.tables s.now.trees s'.now.trees (table_named name) is.kept had)
    | inr same ↦ absurd (not_same t.tree (table_named name).tree e (ap (λ n. (table_named n).tree) (sym same)))
  ]

  rises_now : IsMade from to t s s' → AllRise s.now.schema s.now.trees → AllRise to s'.now.trees
  rises_now is up name there = elim (old_or_new from to new room name there) [
    | inl had ↦ rises_kept (table_named name) s.now.trees s'.now.trees (kept_in from.tables s.now.trees s'.now.trees (table_named name) is.kept had) (up name (subst (λ (x : Schema). Contains x.tables (table_named name)) (sym has) had))
    | inr same ↦ subst (λ n. Rises (table_named n) s'.now.trees) same (empty_rises t s'.now.trees is.empty)
  ]

  pub table_made : (count : ℕ) → Executes text [] s s' (Ok count) → Reaches to (emptied new) s.now s'.now
  table_made count h =
      let w = subst (λ x. Writes s s' None CreateTable x [] count) defines.whole (runs_as text [] s s' from has CreateTable defines.command defines.plain count h) in
      let is = made count w in
      record {
        schema = is.schema;
        sound = λ _. w.sound;
        tables = λ name at. one_table is name at (t.tree == (table_named name).tree) refl;
        rises = rises_now is;
      }

-- ── an index that is made ──

module _ (from : Schema) (text : List ℕ) (table : Table) (index : Index) (m : MeansIndexed from text table index) (old new : State) (has : old.now.schema ≡ from) where
  pub index_made : (count : ℕ) → Executes text [] old new (Ok count) → Reaches (with_index from index) unchanged old.now new.now
  index_made count h =
      let is = indexes from text table index m old new has count h in
      all_stay from (with_index from index) old.now new.now has is.schema_is is.sound (λ t at. at) is.others

-- ── a table that is dropped ──

was_among : (p : Table → Bool) (tables : List Table) (t : Table) → Contains (filter p tables) t → Contains tables t
was_among p tables t there = contains_had tables t (has_filtered p tables t (has_contained (filter p tables) t there)).0

-- each table that is left was there, and has the same rows
pub turns_gone : (from to : Schema) (tree : ℕ) → without_table from tree ≡ to → Turns from to unchanged
turns_gone from to tree left name there = inl (
  was_among (λ t. not (t.tree == tree)) from.tables (table_named name) (subst (λ (s : Schema). Contains s.tables (table_named name)) (sym left) there),
  λ xs ys same. same,
)

module _ (from : Schema) (text : List ℕ) (table : Table) (m : MeansRemoved from text table) (free : HasNoReferences from) (old new : State) (has : old.now.schema ≡ from) where
  pub table_gone : (count : ℕ) → Executes text [] old new (Ok count) → Reaches (without_table from table.tree) unchanged old.now new.now
  table_gone count h =
      let left = removes from text table m free old new has count h in
      all_stay from (without_table from table.tree) old.now new.now has left.0.schema_is left.1 (was_among (λ t. not (t.tree == table.tree)) from.tables) left.0.others

-- ── calls ──

-- the one statement of a call
module _ {V : Type 0} (text : List ℕ) (old new : State) (r : Result V TableFault) (runs : HasCleanDisk new → IsTrue old.in_transaction → OnOk r ((count : ℕ) × ExecutesInside 0 text [] old new (Ok count)))
    (inside : HasCleanDisk new → IsTrue old.in_transaction → OnOk r (StaysInside old new)) (within : IsWithin old new) where
  alters_by : (from to : Schema) (onto : TableName → List Row → List Row) → ((count : ℕ) → old.now.schema ≡ from → Executes text [] old new (Ok count) → Reaches to onto old.now new.now) → Alters from to onto old new r
  alters_by from to onto does = record {
    reaches = λ clean entered has rises. on_weaker r (λ ran. does ran.0 has ran.1.0) (runs clean entered.0);
    mode = λ clean begun. on_weaker r (λ stays. stays.mode) (inside clean begun);
    inside = λ clean entered. inside clean entered.0;
    within = within;
  }

  -- the statement at a place of those of all layouts makes a table, drops one, or makes an index
  pub makes_table : (n : ℕ) (made : TableName) → Making n text (table_named made) → HasNew (schema_after n) (schema_after (n + 1)) made → Alters (schema_after n) (schema_after (n + 1)) (emptied made) old new r
  unfolding schema_at
  makes_table n made it room = alters_by (schema_after n) (schema_after (n + 1)) (emptied made) (λ count has h. table_made (schema_after n) (schema_after (n + 1)) text made it.defines room old new has count h)

  pub drops_table : (n : ℕ) (table : Table) → Dropping n text table → Alters (schema_after n) (schema_after (n + 1)) unchanged old new r
  unfolding schema_at
  drops_table n table it = alters_by (schema_after n) (schema_after (n + 1)) unchanged (λ count has h. subst (λ s. Reaches s unchanged old.now new.now) it.next (table_gone (schema_after n) text table it.means it.free old new has count h))

  pub makes_index : (n : ℕ) (table : Table) (index : Index) → Indexing n text table index → Alters (schema_after n) (schema_after (n + 1)) unchanged old new r
  unfolding schema_at
  makes_index n table index it = alters_by (schema_after n) (schema_after (n + 1)) unchanged (λ count has h. subst (λ s. Reaches s unchanged old.now new.now) it.next (index_made (schema_after n) text table index it.means old new has count h))
