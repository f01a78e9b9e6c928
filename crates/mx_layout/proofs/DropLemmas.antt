-- What DROP TABLE makes of a database with no rows, whatever its schema is.
use Rattle.std.proofs.Common.{◌≡◌, ℕ, ◌==◌, not, true, false, ◌&&◌, List, [], ◌∷◌, ◌++◌, flat_map, slice_get, is_some, cond, Some, None, Ok, Err, Result, OnOk, refl, sym, ap, subst, subst₂, ◌∙◌}
use Rattle.std.specs.List.{AllByRecursion, list_any}
use Rattle.std.specs.Bool.{MatchBool}
use Rattle.sqlite.specs.Table.{Table}
use Rattle.sqlite.specs.Schema.{Schema}
use Rattle.sqlite.specs.Tree.{Trees}
use Rattle.sqlite.specs.Edit.{edit_of}
use Rattle.sqlite.specs.Rowids.TheVariants.{Given}
use Rattle.sqlite.specs.Command.TheVariants.{DropTable}
use Rattle.sqlite.specs.Change.{without_table, KeepsRows}
use Rattle.sqlite.specs.Does.{Tally, Does, AtPlace, Drops, Empties, UncountsIn, Uncounts}
use Rattle.sqlite.specs.Effect.{Database}
use Rattle.sqlite.specs.Rows.{Task, Edited, Gives, sequence}
use Rattle.sqlite.specs.declared.run.Mode.{Mode}
use Rattle.sqlite.specs.declared.error.Error.{Error}
use Rattle.sqlite.specs.Listing.{understood}
use Rattle.sqlite.specs.State.{State, mode_of, Executes, ExecutesInside}
use Rattle.sqlite.proofs.Callers.{IsPlain, command_of, statement_of, runs_as}
use Rattle.sqlite_keyed.proofs.ListLemmas.{all-filter}
use Rattle.sqlite_catalog.specs.Listing.{IsSound}
use Rattle.sqlite_schema.specs.declared.schema.Keys.{Keys}
use Rattle.sqlite_schema.specs.declared.schema.Keys.TheVariants.{Enforced}
use Rattle.sqlite_schema.specs.Names.{same_name}
use Rattle.sqlite_rules.specs.Action.{deed_for}
use Rattle.sqlite_rules.specs.Calls.{ids_of}
use Rattle.mx_layout.specs.Contents.{HasNoReferences}
use Rattle.mx_layout.specs.Making.{IsBlank}
use Rattle.mx_layout.proofs.CreateLemmas.{kept_empty}
use Rattle.mx_layout.proofs.WriteLemmas.{went, same_value}

-- over this schema the text is understood as the statement that drops the table, and nothing else
pub record MeansRemoved (schema : Schema) (text : List ℕ) (table : Table) : Type 0 where
  pub at : ℕ
  pub there : slice_get schema.tables at ≡ Some table
  pub is : command_of (understood schema text) ≡ DropTable at
  pub plain : IsPlain (understood schema text)
  pub uncounted : table.is_counted ≡ false

no_child : (keys : Keys) (table : Table) (tables : List Table) → AllByRecursion (λ t. t.references ≡ []) tables
    → list_any (λ t. list_any (λ ref. same_name table.name ref.parent && is_some (deed_for keys true ref)) t.references) tables ≡ false
no_child keys table [] h = refl
no_child keys table (t ∷ tables) h = rw h.0 (no_child keys table tables h.1)

emptied_same : (task : Task) → HasNoReferences task.schema → (db next : Trees) → Empties task db (Ok next) → next ≡ db
emptied_same task free db next h =
    let none = subst (λ b. MatchBool b (Edited task.schema task.keys db (edit_of db task.table (ids_of (db task.table.tree)) Given 0 []) (Ok next)) (Gives db (Ok next))) (no_child task.keys task.table task.schema.tables free) h in
    same_value none

uncounted_same : (task : Task) → task.table.is_counted ≡ false → (db next : Trees) → Uncounts task db (Ok next) → next ≡ db
uncounted_same task plain db next h =
    let none = subst (λ b. UncountsIn task db (cond b (sequence task.schema) None) (Ok next)) plain h in
    same_value none

-- what a drop leaves
pub record Left (schema : Schema) (tree : ℕ) (old : Trees) (new : Database) : Type 0 where
  pub schema_is : new.schema ≡ without_table schema tree
  pub others : KeepsRows (without_table schema tree).tables old new.trees

on_drop : (task : Task) → HasNoReferences task.schema → task.table.is_counted ≡ false → (mode : Mode) (db : Trees) (tally : Tally) (after : Database) → Drops task mode db (Ok (tally, after))
    → Left task.schema task.table.tree db after
on_drop task free plain mode db tally after h =
    let emptied = went h in
    let counted = went emptied.2 in
    let tested = went counted.2 in
    let left = went tested.2 in
    let now : after ≡ left.0 = ap (λ (p : Tally × Database). p.1) (same_value left.2) in
    let same : counted.0 ≡ db = uncounted_same task plain emptied.0 counted.0 counted.1 ∙ emptied_same task free db emptied.0 emptied.1 in
    record {
      schema_is = ap (λ (d : Database). d.schema) now ∙ left.1.0;
      others = subst₂ (λ (was : Trees) (d : Database). KeepsRows (without_table task.schema task.table.tree).tables was d.trees) same (sym now) left.1.1;
    }

empty_parts : {A : Type 0} (xs ys : List A) → xs ++ ys ≡ [] → (xs ≡ []) × (ys ≡ [])
empty_parts [] ys h = (refl, h)
empty_parts (x ∷ xs) ys h = absurd cc

-- no table refers to another, from what is computed
pub none_refer : (tables : List Table) → flat_map (λ (t : Table). t.references) tables ≡ [] → AllByRecursion (λ t. t.references ≡ []) tables
none_refer [] h = tt
none_refer (t ∷ tables) h = let parts = empty_parts t.references (flat_map (λ (s : Table). s.references) tables) h in (parts.0, none_refer tables parts.1)

module _ (schema : Schema) (text : List ℕ) (table : Table) (m : MeansRemoved schema text table) (free : HasNoReferences schema) (old new : State) where
  pub removes : old.now.schema ≡ schema → (count : ℕ) → Executes text [] old new (Ok count) → Left schema table.tree old.now.trees new.now × IsSound new.now.schema new.now.trees
  removes has count h =
      let w = runs_as text [] old new schema has (DropTable m.at) m.is m.plain count h in
      let does = subst (λ s. Does old.step_limit (mode_of old) [] (record old.now { schema = s }) (statement_of text (understood schema text)) None (DropTable m.at) (Ok (w.tally, new.now))) has w.changed in
      let task = λ (t : Table). (let it : Task = record { limit = old.step_limit; keys = Enforced; schema = schema; table = t; params = [] } in it) in
      let done = subst (λ o. AtPlace (λ t. Drops (task t) (mode_of old) old.now.trees) o (Ok (w.tally, new.now))) m.there does in
      (on_drop (task table) free m.uncounted (mode_of old) old.now.trees w.tally new.now done, w.sound)

  pub removes_blank : IsBlank schema old.now → (r : Result ℕ Error) → ExecutesInside 0 text [] old new r → OnOk r (IsBlank (without_table schema table.tree) new.now)
  removes_blank blank (Ok count) h =
      let left = removes blank.schema_is count h.0 in
      record {
        schema_is = left.0.schema_is;
        empty = kept_empty old.now.trees new.now.trees (without_table schema table.tree).tables left.0.others (all-filter (λ t. old.now.trees t.tree ≡ []) (λ t. not (t.tree == table.tree)) schema.tables blank.empty);
        uncounted = all-filter (λ t. t.is_counted ≡ false) (λ t. not (t.tree == table.tree)) schema.tables blank.uncounted;
        sound = subst (λ s. IsSound s new.now.trees) left.0.schema_is left.1;
      }
  removes_blank blank (Err e) h = tt
