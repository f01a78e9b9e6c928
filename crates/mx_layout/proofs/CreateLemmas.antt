-- What CREATE TABLE makes of a database with no rows, whatever its schema is.
use Rattle.std.proofs.Common.{◌≡◌, ℕ, List, [], ◌∷◌, ◌++◌, false, None, Ok, Err, Result, OnOk, refl, sym, ap, subst, ◌∙◌}
use Rattle.std.specs.List.{AllByRecursion, list_any}
use Rattle.sqlite.specs.Table.{Table}
use Rattle.sqlite.specs.Schema.{Schema}
use Rattle.sqlite.specs.Tree.{Trees}
use Rattle.sqlite.specs.Command.TheVariants.{CreateTable}
use Rattle.sqlite.specs.Change.{created, next_tree, KeepsRows}
use Rattle.sqlite.specs.Does.{Tally, lacks_sequence}
use Rattle.sqlite.specs.Effect.{Database}
use Rattle.sqlite.specs.declared.error.Error.{Error}
use Rattle.sqlite.specs.State.{State, Executes, ExecutesInside, Writes}
use Rattle.sqlite.specs.Compile.{table_defined_by}
use Rattle.sqlite.specs.Listing.{understood}
use Rattle.sqlite.proofs.Callers.{IsPlain, command_of, statement_of, runs_as}
use Rattle.sqlite_catalog.specs.Listing.{IsSound}
use Rattle.mx_layout.specs.Making.{IsBlank}
use Rattle.mx_layout.proofs.WriteLemmas.{went, same_value}

-- the text is the whole of one CREATE TABLE over the schema, and defines the table but for its tree
pub record Defines (schema : Schema) (text : List ℕ) (table : Table) : Type 0 where
  pub command : command_of (understood schema text) ≡ CreateTable
  pub whole : statement_of text (understood schema text) ≡ text
  pub plain : IsPlain (understood schema text)
  pub defined : table_defined_by text ≡ Ok (record table { tree = 0 })
  pub uncounted : table.is_counted ≡ false

-- a fact of each of some, and of one more
and_last : {A : Type 0} (P : A → Type 0) (xs : List A) (x : A) → AllByRecursion P xs → P x → AllByRecursion P (xs ++ x ∷ [])
and_last P [] x all last = (last, tt)
and_last P (y ∷ ys) x all last = (all.0, and_last P ys x all.1 last)

pub kept_empty : (old new : Trees) (tables : List Table) → KeepsRows tables old new → AllByRecursion (λ t. old t.tree ≡ []) tables → AllByRecursion (λ t. new t.tree ≡ []) tables
kept_empty old new [] kept empty = tt
kept_empty old new (t ∷ tables) kept empty = (kept.0 ∙ empty.0, kept_empty old new tables kept.1 empty.1)

none_counted : (tables : List Table) → AllByRecursion (λ t. t.is_counted ≡ false) tables → list_any (λ t. t.is_counted) tables ≡ false
none_counted [] all = refl
none_counted (t ∷ tables) all = rw all.0 (none_counted tables all.1)

pub lacks_none : (schema : Schema) → AllByRecursion (λ t. t.is_counted ≡ false) schema.tables → lacks_sequence schema ≡ false
lacks_none schema all = rw (none_counted schema.tables all) refl

module _ (schema : Schema) (text : List ℕ) (table : Table) (defines : Defines schema text table) (old new : State) (blank : IsBlank schema old.now) where
  abbrev next : Schema
  next = created schema table

  uncounted : AllByRecursion (λ t. t.is_counted ≡ false) next.tables
  uncounted = and_last (λ t. t.is_counted ≡ false) schema.tables (record table { tree = next_tree schema }) blank.uncounted defines.uncounted

  created_blank : (count : ℕ) → Executes text [] old new (Ok count) → IsBlank next new.now
  created_blank count h =
      let has = blank.schema_is in
      let w = subst (λ t. Writes old new None CreateTable t [] count) defines.whole (runs_as text [] old new schema has CreateTable defines.command defines.plain count h) in
      let all = went w.changed in
      let first = went all.1 in
      let made = first.1 in
      let same : made.table ≡ record table { tree = 0 } = same_value (sym made.defined ∙ defines.defined) in
      let listed : first.0.schema ≡ next = made.is ∙ ap (λ s. created s made.table) has ∙ ap (created schema) same in
      let none : lacks_sequence first.0.schema ≡ false = ap lacks_sequence listed ∙ lacks_none next uncounted in
      let now : new.now ≡ first.0 = ap (λ (p : Tally × Database). p.1) (same_value all.2) ∙ same_value (rw none at first.2) in
      let schema_is : new.now.schema ≡ next = ap (λ (d : Database). d.schema) now ∙ listed in
      let kept : KeepsRows schema.tables old.now.trees new.now.trees = subst (λ (d : Database). KeepsRows schema.tables old.now.trees d.trees) (sym now) (subst (λ (s : Schema). KeepsRows s.tables old.now.trees first.0.trees) has made.others) in
      let empty : new.now.trees (next_tree schema) ≡ [] = ap (λ (d : Database). d.trees (next_tree schema)) now ∙ subst (λ s. first.0.trees (next_tree s) ≡ []) has made.empty in
      record {
        schema_is = schema_is;
        empty = and_last (λ t. new.now.trees t.tree ≡ []) schema.tables (record table { tree = next_tree schema }) (kept_empty old.now.trees new.now.trees schema.tables kept blank.empty) empty;
        uncounted = uncounted;
        sound = subst (λ s. IsSound s new.now.trees) schema_is w.sound;
      }

  pub creates_blank : (r : Result ℕ Error) → ExecutesInside 0 text [] old new r → OnOk r (IsBlank next new.now)
  creates_blank (Ok count) h = created_blank count h.0
  creates_blank (Err e) h = tt
