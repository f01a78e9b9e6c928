-- What one INSERT of values makes of a database, whatever the schema is.
use Rattle.std.proofs.Common.{◌≡◌, ◌⊎◌, inl, inr, ℕ, List, [], ◌∷◌, slice_get, false, Some, None, Option, Ok, Err, Result, refl, sym, ap, subst, ◌∙◌, append-nil}
use Rattle.sqlite.specs.Order.{Row}
use Rattle.sqlite.specs.Term.{Term}
use Rattle.sqlite.specs.Table.{Table}
use Rattle.sqlite.specs.Schema.{Schema}
use Rattle.sqlite.specs.Source.TheVariants.{Values}
use Rattle.sqlite.specs.Command.TheVariants.{Insert}
use Rattle.sqlite.specs.Command.{Command}
use Rattle.sqlite.specs.Edit.{edit_of, Applies}
use Rattle.sqlite.specs.Rowids.TheVariants.{Chosen}
use Rattle.sqlite.specs.Does.{Tally, Does}
use Rattle.sqlite.specs.declared.run.Mode.{Mode}
use Rattle.sqlite.specs.Rows.{Written, Edited}
use Rattle.sqlite.specs.Tree.{Trees}
use Rattle.sqlite.specs.Effect.{Database}
use Rattle.sqlite.proofs.Callers.{one_step}
use Rattle.sqlite_rules.specs.Action.{works}
use Rattle.std.proofs.lemmas.Bool.{cases_Bool}
use Rattle.sqlite_schema.specs.declared.schema.Keys.TheVariants.{Enforced}
use Rattle.sqlite_resolve.specs.declared.compiled.Compiled.{Compiled}
use Rattle.sqlite.specs.declared.error.Error.{Error}
use Rattle.sqlite.specs.Listing.{understood}
use Rattle.sqlite.specs.State.{State, mode_of, text_of, shows_rows, RunsAlone, ExecutesIn, Executes, IsNotRun, MayCommit, CommitsBy}
use Rattle.sqlite.proofs.Callers.{IsPlain, command_of, runs_as}
use Rattle.mx_layout.specs.Contents.{cells, Adds}
use Rattle.mx_layout.specs.Plans.{added, uncounted}
use Rattle.mx_layout.specs.Writing.{Inserts, MayInsert, Stops}
use Rattle.mx_layout.proofs.RowLemmas.{adds_one}

-- a part that gave a value did not stop on the way
pub went : {B E R : Type 0} {b : B} {Stops : E → Type 0} → ((stop : E) × Stops stop × (Ok b ≡ Err stop)) ⊎ R → R
went (inl stopped) = absurd (let e = stopped.2 in cc)
went (inr on) = on

pub same_value : {B E : Type 0} {a b : B} → ◌≡◌ {A = Result B E} (Ok a) (Ok b) → a ≡ b
same_value e = cc

pub inserted : (schema : Schema) (at : ℕ) (t : Table) (terms : List Term) (width : ℕ) (limit : Option ℕ) (mode : Mode) (params : Row) (text : List ℕ) (db : Database) (tally : Tally) (after : Database)
    → slice_get schema.tables at ≡ Some (uncounted t) → works schema mode.keys 0 t.tree [] (added db.trees (uncounted t) terms width params).news ≡ []
    → db.schema ≡ schema → Does limit mode params db text None (Insert at (Values terms width)) (Ok (tally, after))
    → (after.schema ≡ schema) × Applies schema mode.keys db.trees (added db.trees (uncounted t) terms width params) after.trees
inserted schema at t terms width limit mode params text db tally after there none has h =
    let table = uncounted t in
    let command : Command = Insert at (Values terms width) in
    let found = rw there at (subst (λ s. Does limit mode params (record db { schema = s }) text None command (Ok (tally, after))) has h) in
    let done = went found in
    let ended = went (went done.2).2 in
    let now : after ≡ record { schema = schema; trees = done.0.trees } = ap (λ (p : Tally × Database). p.1) (same_value ended.2) in
    let given = went done.1 in
    let counter = went given.2 in
    let written = went counter.2 in
    let counted = went written.2 in
    let trees : done.0.trees ≡ written.0 = ap (λ (it : Written). it.trees) (same_value counted.2) ∙ same_value counted.1 in
    let edit = λ (rows : List Row). edit_of db.trees table [] Chosen 0 rows in
    let step = (subst (λ rows. Edited schema mode.keys db.trees (edit rows) (Ok written.0)) given.1.1 written.1) in
    let applied = one_step schema mode.keys db.trees written.0 (added db.trees table terms width params) none step in
    (ap (λ (d : Database). d.schema) now, subst (Applies schema mode.keys db.trees (added db.trees table terms width params)) (sym (ap (λ (d : Database). d.trees) now ∙ trees)) applied)

-- a refusal changes nothing, and a failure undoes the transaction
alone_stops : (old new : State) (sql : List ℕ) (c : Compiled) (params : Row) (e : Error) → RunsAlone false old new sql c params (Err e) → Stops old new
alone_stops old new sql c params e h = elim (cases_Bool (shows_rows false c)) [
  | inl shows ↦ inl ((rw shows at h).1)
  | inr runs ↦ elim (rw runs at h) [
    | inl refused ↦ inl refused.1
    | inr failed ↦ inr failed.3
  ]
]

pub stops : (sql : List ℕ) (params : Row) (old new : State) (e : Error) → Executes sql params old new (Err e) → Stops old new
unfolding ExecutesIn IsNotRun
stops sql params old new e (inl (inl refused)) = inl refused.1
stops sql params old new e (inl (inr failed)) = inr failed.3
stops sql params old new e (inr ran) = alone_stops old new sql ran.0 _ e ran.2

module _ (schema : Schema) (at : ℕ) (t : Table) (terms : List Term) (width : ℕ) (text : List ℕ) (params row : Row) (stored : Trees → Row)
    (there : slice_get schema.tables at ≡ Some (uncounted t))
    (is : command_of (understood schema text) ≡ Insert at (Values terms width))
    (plain : IsPlain (understood schema text))
    (none : (news : List Row) → works schema Enforced 0 t.tree [] news ≡ [])
    (news : (db : Trees) → (added db (uncounted t) terms width params).news ≡ stored db ∷ []) (shows : (db : Trees) → cells (uncounted t) (stored db) ≡ row)
    (old : State) (has : old.now.schema ≡ schema) where
  made : (limit : Option ℕ) (mode : Mode) (same : mode.keys ≡ Enforced) (tally : Tally) (after : Database) → Does limit mode params old.now [] None (Insert at (Values terms width)) (Ok (tally, after))
      → (after.schema ≡ old.now.schema) × Adds old.now.schema.tables (uncounted t) row old.now.trees after.trees
  made limit mode same tally after h =
      let all = inserted schema at t terms width limit mode params [] old.now tally after there (rw same (none _)) has h in
      (all.0 ∙ sym has, subst (λ (s : Schema). Adds s.tables (uncounted t) row old.now.trees after.trees) (sym has) (subst (λ r. Adds schema.tables (uncounted t) r old.now.trees after.trees) (shows old.now.trees) (adds_one schema mode.keys old.now.trees after.trees (uncounted t) _ (stored old.now.trees) (news old.now.trees) all.1)))

  pub inserts : (new : State) (count : ℕ) → Executes text params old new (Ok count) → Inserts (uncounted t) row old new
  inserts new count h =
      let w = runs_as text params old new schema has (Insert at (Values terms width)) is plain count h in
      let it = made old.step_limit (mode_of old) refl w.tally new.now w.changed in
      record { schema = it.0; adds = it.1; sound = w.sound; shown = w.shown; marks = w.marks }

  may : (trees : Trees) → CommitsBy text params old trees → MayInsert (uncounted t) row old trees
  unfolding CommitsBy
  may trees h =
      let known = sym h.1.is ∙ ap (λ s. understood s text) has in
      let bare = subst IsPlain (sym known) plain in
      let command : h.0.command ≡ Insert at (Values terms width) = ap command_of known ∙ is in
      let commits : MayCommit old None (Insert at (Values terms width)) (text_of text h.0) params trees = rw (command, bare.0, bare.1, append-nil params) at h.2 in
      elim commits [
        | inl ends ↦ elim ends.0 [ inl commit ↦ absurd cc | inr release ↦ absurd (let e = release.2 in cc) ]
        | inr writes ↦ (writes.0, subst (Adds old.now.schema.tables (uncounted t) row old.now.trees) (sym writes.5) (made old.step_limit (mode_of old) refl writes.1 writes.2 writes.3).1)
      ]
