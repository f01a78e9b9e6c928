-- What DELETE FROM table WHERE leaves, whatever the schema is.
use Rattle.std.proofs.Common.{◌≡◌, ◌≢◌, inl, inr, ℕ, ℤ, negsuc, Bool, true, false, not, ◌||◌, cond, List, [], ◌∷◌, map, filter, flat_map, None, Ok, Err, Result, OnOk, IsTrue, refl, sym, ap, ap₂, subst, subst₂, ◌∙◌}
use Rattle.std.specs.List.{list_all, list_any, AllByRecursion, filter_map}
use Rattle.std.specs.Ordering.{is_eq}
use Rattle.std.specs.List.Sorted.{IsPermutation}
use Rattle.std.specs.declared.cmp.Ordering.{Ordering}
use Rattle.std.specs.declared.cmp.Ordering.TheVariants.{Less, Equal, Greater}
use Rattle.std.proofs.lemmas.Bool.{cases_Bool}
use Rattle.std.proofs.lemmas.List.Sorted.{IsPermutation-map, Contains-permutation, IsPermutation-sym}
use Rattle.std.proofs.lemmas.Cmp.{tied_itself}
use Rattle.sqlite_keyed.proofs.ListLemmas.{map-map, filter-map, filter_same, all-filter}
use Rattle.sqlite_rules.proofs.ListLemmas.{all_has, all_from, some_has, some_from, has_filtered, has_kept, has_contained, contains_had}
use Rattle.sqlite_rules.proofs.ProbeLemmas.{mapped_has}
use Rattle.sqlite_rules.proofs.PlaceLemmas.{tied_same}
use Rattle.sqlite_rules.specs.Lists.{Has}
use Rattle.sqlite.specs.declared.types.Value.{Value}
use Rattle.sqlite.specs.declared.types.Value.TheVariants.{Null, Int, Real, Text, Blob}
use Rattle.sqlite.specs.Order.{Row, value_cmp}
use Rattle.sqlite_value.proofs.OrderLemmas.{value_cmp_total}
use Rattle.sqlite.specs.Term.{Term, lit, col, holds}
use Rattle.sqlite.specs.Query.{Query, IsAnswer, output, Output}
use Rattle.sqlite.specs.Tree.{Trees, rowid, IsTable, has_rowid, without_rowid}
use Rattle.sqlite.specs.Table.{Table}
use Rattle.sqlite.specs.Schema.{Schema}
use Rattle.sqlite.specs.Command.TheVariants.{Delete}
use Rattle.sqlite.specs.Edit.{Edit, edit_of, id_in, without_all, taken_by, Applies}
use Rattle.sqlite.specs.Rowids.TheVariants.{Given}
use Rattle.sqlite.specs.Does.{Tally, Does}
use Rattle.sqlite.specs.declared.error.Error.{Error}
use Rattle.sqlite.specs.Rows.{Written, Edited}
use Rattle.sqlite.specs.Effect.{Database, IsDatabase}
use Rattle.sqlite.specs.Listing.{understood}
use Rattle.sqlite.specs.Program.{overlay}
use Rattle.sqlite.specs.State.{State, mode_of, Executes, ExecutesInside}
use Rattle.sqlite.proofs.Callers.{statement_of, runs_as, one_step}
use Rattle.sqlite_rules.specs.Calls.{ids_of}
use Rattle.sqlite_rules.specs.Action.{works, work_for}
use Rattle.sqlite_trees.specs.View.{is_int}
use Rattle.sqlite_schema.specs.declared.schema.Keys.TheVariants.{Enforced}
use Rattle.sqlite_schema.specs.declared.program.Program.{Program}
use Rattle.mx_layout.specs.Contents.{cells, Rises}
use Rattle.mx_layout.proofs.WriteLemmas.{went, same_value}
use Rattle.mx_table_rows.specs.chosen.Choices.{Loses}
use Rattle.mx_table_rows.specs.chosen.Lookups.{choose, MeansDeleted}
use Rattle.mx_table_rows.specs.chosen.Calls.{DeletesThose}
use Rattle.mx_table_rows.proofs.ChosenProofs.ChooseLemmas.{picked}

-- what fails two tests, one after another
pub both_out : (a b : Row → Bool) (xs : List Row) → filter (λ r. not (b r)) (filter (λ r. not (a r)) xs) ≡ filter (λ r. not (a r || b r)) xs
both_out a b [] = refl
both_out a b (x ∷ xs) = elim (cases_Bool (a x)) [
  | inl e ↦ simp e (both_out a b xs)
  | inr e ↦ elim (cases_Bool (b x)) [ inl k ↦ simp (e, k) (both_out a b xs) | inr k ↦ simp (e, k) (ap (λ l. x ∷ l) (both_out a b xs)) ]
]

pub none_out : (xs : List Row) → filter (λ _. true) xs ≡ xs
none_out [] = refl
none_out (x ∷ xs) = ap (λ l. x ∷ l) (none_out xs)

-- the rows without some rowids are those that have none of them
without_is : (ids : List ℤ) (xs : List Row) → without_all xs ids ≡ filter (λ r. not (list_any (λ id. has_rowid id r) ids)) xs
without_is [] xs = sym (none_out xs)
without_is (id ∷ ids) xs = without_is ids (without_rowid id xs) ∙ both_out (has_rowid id) (λ r. list_any (λ i. has_rowid i r) ids) xs

-- tests that are the same of each element leave the same
pub filter_has : {X : Type 0} (p q : X → Bool) (xs : List X) → ((x : X) → Has xs x → p x ≡ q x) → filter p xs ≡ filter q xs
filter_has p q [] h = refl
filter_has p q (x ∷ xs) h = ap₂ (λ b l. cond b (x ∷ l) l) (h x (inl refl)) (filter_has p q xs (λ y k. h y (inr k)))

pub same_test : (a b : Bool) → (a ≡ true → b ≡ true) → (b ≡ true → a ≡ true) → a ≡ b
same_test true b f g = sym (f refl)
same_test false true f g = g refl
same_test false false f g = refl

pub map_had : {X Y : Type 0} (f : X → Y) (xs : List X) (y : Y) → Has (map f xs) y → (x : X) × Has xs x × (y ≡ f x)
map_had f [] y h = absurd h
map_had f (x ∷ xs) y (inl same) = (x, inl refl, same)
map_had f (x ∷ xs) y (inr later) = let it = map_had f xs y later in (it.0, inr it.1, it.2)

equal_is : (o : Ordering) → is_eq o ≡ true → o ≡ Equal
equal_is Less h = absurd cc
equal_is Equal h = refl
equal_is Greater h = absurd cc

int_is : (v : Value) → IsTrue (is_int v) → v ≡ Int (id_in v)
int_is Null h = absurd cc
int_is (Int n) h = refl
int_is (Real x) h = absurd cc
int_is (Text t) h = absurd cc
int_is (Blob b) h = absurd cc

abbrev id_of : Row → ℤ
id_of r = id_in (rowid r)

module _ (xs : List Row) (up : IsTable xs) (numbers : AllByRecursion (λ r. IsTrue (is_int (rowid r))) xs) (passes : Row → Bool) (ids : List ℤ) (same : IsPermutation (map id_of (filter passes xs)) ids) where
  number_of : (r : Row) → Has xs r → rowid r ≡ Int (id_of r)
  number_of r h = int_is (rowid r) (all_has (λ s. IsTrue (is_int (rowid s))) xs r numbers h)

  given_id : (id : ℤ) → Has ids id → Has (map id_of (filter passes xs)) id
  given_id id h = has_contained _ id (Contains-permutation ids (map id_of (filter passes xs)) id (IsPermutation-sym _ _ same) (contains_had ids id h))

  id_given : (id : ℤ) → Has (map id_of (filter passes xs)) id → Has ids id
  id_given id h = has_contained _ id (Contains-permutation (map id_of (filter passes xs)) ids id same (contains_had _ id h))

  taken_out : (r : Row) → Has xs r → list_any (λ id. has_rowid id r) ids ≡ true → passes r ≡ true
  taken_out r here h =
      let it = some_has (λ id. has_rowid id r) ids h in
      let from = map_had id_of (filter passes xs) it.0 (given_id it.0 it.1) in
      let kept = has_filtered passes xs from.0 from.1 in
      let other : rowid from.0 ≡ Int it.0 = number_of from.0 kept.0 ∙ ap Int (sym from.2) in
      let tied : value_cmp (rowid r) (rowid from.0) ≡ Equal = ap (value_cmp (rowid r)) other ∙ equal_is _ it.2 in
      ap passes (tied_same xs r from.0 up here kept.0 tied) ∙ kept.1

  is_out : (r : Row) → Has xs r → passes r ≡ true → list_any (λ id. has_rowid id r) ids ≡ true
  is_out r here h =
      some_from (λ id. has_rowid id r) ids (id_of r) (id_given (id_of r) (mapped_has id_of (filter passes xs) r (has_kept passes xs r here h)))
      (ap (λ v. is_eq (value_cmp v (Int (id_of r)))) (number_of r here) ∙ ap is_eq (tied_itself value_cmp_total (Int (id_of r))))

  pub left_is : without_all xs ids ≡ filter (λ r. not (passes r)) xs
  left_is = without_is ids xs ∙ filter_has _ _ xs (λ r here. ap not (same_test _ _ (taken_out r here) (is_out r here)))

-- what is left of a table is one
left_up : (p : Row → Bool) (xs : List Row) → IsTable xs → IsTable (filter p xs)
left_up p [] up = tt
left_up p (r ∷ xs) up = elim (cases_Bool (p r)) [
  | inl e ↦ rw e (all_from _ (filter p xs) (λ y h. all_has _ xs y up.0 (has_filtered p xs y h).0), left_up p xs up.1)
  | inr e ↦ rw e (left_up p xs up.1)
]

none_refer : (schema : Schema) → AllByRecursion (λ t. t.references ≡ []) schema.tables → (depth tree : ℕ) (olds news : List Row) → works schema Enforced depth tree olds news ≡ []
none_refer schema free depth tree olds news = each schema.tables free
  where
    each : (tables : List Table) → AllByRecursion (λ t. t.references ≡ []) tables
        → flat_map (λ child. Rattle.std.specs.List.filter_map (Rattle.sqlite_rules.specs.Action.work_for schema Enforced depth tree olds news child) child.references) tables ≡ []
    each [] h = refl
    each (t ∷ tables) h = rw h.0 (each tables h.1)

module _ (tests : List Term) (table : Table) (params : Row) (chosen : Row → Bool) (picks : (r : Row) → list_all (holds (params ∷ r ∷ [])) tests ≡ chosen (cells table r)) where
  abbrev q : Query
  q = choose [] tests table.tree (col 1 0 ∷ []) (lit (Int (negsuc 0)))

  abbrev out : Row → Output
  out r = output q (params ∷ r ∷ [])

  abbrev passes : Row → Bool
  passes r = list_all (holds (params ∷ r ∷ [])) tests

  ids_are : (db : Trees) (rows : List Row) → IsAnswer q db params rows → IsPermutation (map id_of (filter passes (db table.tree))) (ids_of rows)
  ids_are db rows a =
      let kept : a.kept ≡ map out (filter passes (db table.tree)) =
      a.distinct ∙ ap (map (output q)) (a.grouped ∙ picked passes (λ r. params ∷ r ∷ []) (db table.tree)) ∙ map-map (output q) (λ r. params ∷ r ∷ []) (filter passes (db table.tree)) in
      let id_out = λ (o : Output). id_of o.1 in
      let seen : map id_out a.kept ≡ map id_of (filter passes (db table.tree)) = ap (map id_out) kept ∙ map-map id_out out (filter passes (db table.tree)) in
      let shown : map id_out a.ordered ≡ ids_of rows = sym (ap ids_of a.shown ∙ map-map id_of (λ (o : Output). o.1) a.ordered) in
      subst₂ IsPermutation seen shown (IsPermutation-map id_out a.kept a.ordered a.same)

  -- the rows of the table that are left
  pub left_in : (db : Trees) (rows : List Row) → Rises table db → IsAnswer q db params rows → without_all (db table.tree) (ids_of rows) ≡ filter (λ r. not (chosen (cells table r))) (db table.tree)
  left_in db rows rises a = left_is (db table.tree) rises.up rises.numbers passes (ids_of rows) (ids_are db rows a) ∙ filter_same _ _ (λ r. ap not (picks r)) (db table.tree)

module _ (schema : Schema) (text : List ℕ) (table : Table) (chosen : Row → Row → Bool) (m : MeansDeleted schema text table chosen) (values : Row) (old new : State) (has : old.now.schema ≡ schema) where
  abbrev program : Program
  program = record { lets = []; body = choose [] m.tests table.tree (col 1 0 ∷ []) (lit (Int (negsuc 0))) }

  abbrev edit : List Row → Edit
  edit rows = edit_of old.now.trees table (ids_of rows) Given 0 []

  loses_of : (rows : List Row) → IsAnswer program.body (overlay old.now.trees []) values rows → (free : AllByRecursion (λ t. t.references ≡ []) schema.tables) → Rises table old.now.trees
      → Edited schema Enforced old.now.trees (edit rows) (Ok new.now.trees) → new.now.schema ≡ schema → IsDatabase new.now → Loses table (chosen values) old.now new.now
  loses_of rows answer free rises wrote stays sound =
      let applied : Applies schema Enforced old.now.trees (edit rows) new.now.trees = one_step schema Enforced old.now.trees new.now.trees (edit rows) (none_refer schema free 0 table.tree (taken_by old.now.trees (edit rows)) []) wrote in
      let low = m.low old.now.trees in
      let over : Rises table (overlay old.now.trees []) = record { up = subst IsTable (sym low) rises.up; numbers = subst (AllByRecursion (λ r. IsTrue (is_int (rowid r)))) (sym low) rises.numbers } in
      let p = λ (r : Row). not (chosen values (cells table r)) in
      let left : new.now.trees table.tree ≡ filter p (old.now.trees table.tree) =
      applied.rows ∙ subst (λ xs. without_all xs (ids_of rows) ≡ filter p xs) low (left_in m.tests table values (chosen values) (m.picks values) (overlay old.now.trees []) rows over answer) in
      record {
        schema = stays ∙ sym has;
        left = ap (map (cells table)) left ∙ sym (filter-map (λ row. not (chosen values row)) (cells table) (old.now.trees table.tree));
        others = subst (λ (s : Schema). AllByRecursion (λ t. t.tree ≢ table.tree → new.now.trees t.tree ≡ old.now.trees t.tree) s.tables) (sym has) applied.tables;
        rises = record { up = subst IsTable (sym left) (left_up p (old.now.trees table.tree) rises.up); numbers = subst (AllByRecursion (λ r. IsTrue (is_int (rowid r)))) (sym left) (all-filter (λ r. IsTrue (is_int (rowid r))) p (old.now.trees table.tree) rises.numbers) };
        sound = sound;
      }

  loses_one : (free : AllByRecursion (λ t. t.references ≡ []) schema.tables) → Rises table old.now.trees → (count : ℕ) → Executes text values old new (Ok count) → Loses table (chosen values) old.now new.now
  loses_one free rises count h =
      let w = runs_as text values old new schema has (Delete m.at program) m.is m.plain count h in
      let does = subst (λ s. Does old.step_limit (mode_of old) values (record old.now { schema = s }) (statement_of text (understood schema text)) None (Delete m.at program) (Ok (w.tally, new.now))) has w.changed in
      let found = rw m.there at does in
      let wrote = went found in
      let asked = went wrote.1 in
      let made = went asked.2 in
      let is = same_value made.2 in
      let ended = went (went wrote.2).2 in
      let now : new.now ≡ record { schema = schema; trees = wrote.0.trees } = ap (λ (p : Tally × Database). p.1) (same_value ended.2) in
      let trees : made.0 ≡ new.now.trees = sym (ap (λ (it : Written). it.trees) is) ∙ sym (ap (λ (d : Database). d.trees) now) in
      loses_of asked.0 (asked.1.answer Null) free rises (subst (λ t. Edited schema Enforced old.now.trees (edit asked.0) (Ok t)) trees made.1) (ap (λ (d : Database). d.schema) now) w.sound

  pub deletes_those : DeletesThose text values table (chosen values) old new
  deletes_those = record { loses = λ ran free rises h. each ran (subst (λ (s : Schema). AllByRecursion (λ t. t.references ≡ []) s.tables) has free) rises h }
    where
      each : (ran : Result ℕ Error) → AllByRecursion (λ t. t.references ≡ []) schema.tables → Rises table old.now.trees → ExecutesInside 0 text values old new ran → OnOk ran (Loses table (chosen values) old.now new.now)
      each (Ok count) free rises h = loses_one free rises count h.0
      each (Err e) free rises h = tt
