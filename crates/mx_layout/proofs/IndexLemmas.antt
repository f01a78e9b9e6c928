-- What CREATE INDEX makes of a database with no rows, whatever its schema is.
use Rattle.std.proofs.Common.{◌≡◌, ℕ, List, [], slice_get, Some, None, Ok, Err, Result, OnOk, sym, ap, subst, ◌∙◌}
use Rattle.sqlite.specs.Table.{Table}
use Rattle.sqlite.specs.Schema.{Schema}
use Rattle.sqlite.specs.Tree.{Trees}
use Rattle.sqlite.specs.Command.TheVariants.{CreateIndex}
use Rattle.sqlite.specs.Change.{with_index, indexed, KeepsRows}
use Rattle.sqlite.specs.Compile.{index_defined_by}
use Rattle.sqlite.specs.Does.{Tally, Does, AtPlace, Defines, MakesIndex}
use Rattle.sqlite.specs.Effect.{Database}
use Rattle.sqlite.specs.declared.error.Error.{Error}
use Rattle.sqlite.specs.Listing.{understood}
use Rattle.sqlite.specs.State.{State, mode_of, Executes, ExecutesInside}
use Rattle.sqlite.proofs.Callers.{IsPlain, command_of, statement_of, runs_as}
use Rattle.sqlite_catalog.specs.Listing.{IsSound}
use Rattle.sqlite_schema.specs.declared.schema.Index.{Index}
use Rattle.mx_layout.specs.Making.{IsBlank}
use Rattle.mx_layout.proofs.CreateLemmas.{kept_empty}
use Rattle.mx_layout.proofs.WriteLemmas.{went, same_value}

-- over this schema the text is the whole of the statement that makes the index of the table
pub record MeansIndexed (schema : Schema) (text : List ℕ) (table : Table) (index : Index) : Type 0 where
  pub at : ℕ
  pub there : slice_get schema.tables at ≡ Some table
  pub is : command_of (understood schema text) ≡ CreateIndex at
  pub whole : statement_of text (understood schema text) ≡ text
  pub plain : IsPlain (understood schema text)
  pub defined : index_defined_by table text ≡ Ok (record index { tree = 0 })
  pub tree : indexed schema table (record index { tree = 0 }) ≡ with_index schema index

-- what an index that is made leaves
pub record IsIndexed (schema : Schema) (index : Index) (old : Trees) (new : Database) : Type 0 where
  pub schema_is : new.schema ≡ with_index schema index
  pub others : KeepsRows schema.tables old new.trees
  pub sound : IsSound new.schema new.trees

module _ (schema : Schema) (text : List ℕ) (table : Table) (index : Index) (m : MeansIndexed schema text table index) (old new : State) where
  pub indexes : old.now.schema ≡ schema → (count : ℕ) → Executes text [] old new (Ok count) → IsIndexed schema index old.now.trees new.now
  indexes has count h =
      let w = runs_as text [] old new schema has (CreateIndex m.at) m.is m.plain count h in
      let db : Database = record old.now { schema = schema } in
      let does = subst (λ s. Does old.step_limit (mode_of old) [] (record old.now { schema = s }) (statement_of text (understood schema text)) None (CreateIndex m.at) (Ok (w.tally, new.now))) has w.changed in
      let there = subst (λ o. AtPlace (λ (t : Table). Defines (mode_of old) (MakesIndex (statement_of text (understood schema text)) db t)) o (Ok (w.tally, new.now))) m.there does in
      let all = went (subst (λ t. Defines (mode_of old) (MakesIndex t db table) (Ok (w.tally, new.now))) m.whole there) in
      let made = all.1 in
      let now : new.now ≡ all.0 = ap (λ (p : Tally × Database). p.1) (same_value all.2) in
      let same : made.index ≡ record index { tree = 0 } = same_value (sym made.defined ∙ m.defined) in
      record {
        schema_is = ap (λ (d : Database). d.schema) now ∙ made.is ∙ ap (indexed schema table) same ∙ m.tree;
        others = subst (λ (d : Database). KeepsRows schema.tables old.now.trees d.trees) (sym now) made.rows;
        sound = w.sound;
      }

  pub indexes_blank : IsBlank schema old.now → (r : Result ℕ Error) → ExecutesInside 0 text [] old new r → OnOk r (IsBlank (with_index schema index) new.now)
  indexes_blank blank (Ok count) h =
      let is = indexes blank.schema_is count h.0 in
      record {
        schema_is = is.schema_is;
        empty = kept_empty old.now.trees new.now.trees schema.tables is.others blank.empty;
        uncounted = blank.uncounted;
        sound = subst (λ s. IsSound s new.now.trees) is.schema_is is.sound;
      }
  indexes_blank blank (Err e) h = tt
