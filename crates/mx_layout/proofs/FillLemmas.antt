-- The row of the point, and what the tables of a new book are.
use Rattle.std.proofs.Common.{◌≡◌, ◌≢◌, ◌⊎◌, inl, inr, false, true, ℕ, zero, suc, pos, List, [], ◌∷◌, map, Result, OnOk, refl, sym, ap, subst, ◌∙◌, arith}
use Rattle.std.specs.Prelude.{Contains, IsTrue}
use Rattle.std.specs.List.{AllByRecursion}
use Rattle.std.specs.List.Sorted.{IsPermutation}
use Rattle.std.proofs.lemmas.List.Elements.{All-contains, All-from_recursion}
use Rattle.sqlite.specs.declared.types.Value.TheVariants.{Null, Int}
use Rattle.sqlite.specs.Order.{Row}
use Rattle.sqlite.specs.Term.{Term, lit, col}
use Rattle.sqlite.specs.Table.{Table}
use Rattle.sqlite.specs.View.{is_int}
use Rattle.sqlite.specs.Schema.{Schema}
use Rattle.sqlite.specs.Source.TheVariants.{Values}
use Rattle.sqlite.specs.Command.TheVariants.{Insert}
use Rattle.sqlite.specs.Tree.{Trees, rowid, IsTable}
use Rattle.sqlite.specs.Effect.{Database}
use Rattle.sqlite.specs.Listing.{understood}
use Rattle.sqlite.specs.declared.error.Error.{Error}
use Rattle.sqlite.specs.Store.{Ghosts}
use Rattle.sqlite.specs.Held.{Held, state}
use Rattle.sqlite.specs.State.{State, ExecutesInside, HasCleanDisk, Shows, Survives}
use Rattle.sqlite.proofs.Callers.{IsPlain, command_of, one_permutation}
use Rattle.sqlite_tied.specs.Compute.{everything}
use Rattle.sqlite_catalog.specs.Listing.{IsSound}
use Rattle.mx_base.specs.declared.point.Point.{Point}
use Rattle.mx_layout.specs.Contents.{cells, rows_in, Adds, Rises}
use Rattle.mx_layout.specs.Crash.{Leaves, RestsAs, StaysInside, IsWithin}
use Rattle.mx_layout.specs.Making.{IsBlank, IsEmptyAt, IsEmptyIn}
use Rattle.mx_base.specs.Settled.{settled}
use Rattle.mx_layout.specs.Names.{table_named}
use Rattle.mx_layout.specs.Point.{point_cells, insert_office_text}
use Rattle.mx_layout.specs.Steps.{schema_of, IsLayout}
use Rattle.mx_layout.specs.TableName.{TableName}
use Rattle.mx_layout.specs.declared.fault.Table.TheVariants as table
use Rattle.mx_layout.specs.Tables.{no_schema, layout_1, layout_2, layout_3, office}
use Rattle.mx_layout.specs.Writing.{Gains}
use Rattle.mx_layout.proofs.CrashLemmas.{IsSettled, commits_either, commits_ok}
use Rattle.mx_layout.proofs.InsideLemmas.{gains}
use Rattle.mx_layout.proofs.RowLemmas.{cast_int, cast_null}
use Rattle.mx_layout.proofs.TreeLemmas.{same_tree}
use Rattle.mx_layout.proofs.WriteLemmas.{inserts}
use Rattle.mx_layout.specs.Plans.{added}

abbrev terms : List Term
terms = lit (Int (pos 1)) ∷ lit Null ∷ col 0 0 ∷ col 0 1 ∷ col 0 2 ∷ []

-- over this schema the text that adds the row of the point is understood as that, and nothing else
abbrev AddsPoint : Schema → Type 0
AddsPoint schema = (command_of (understood schema insert_office_text) ≡ Insert 0 (Values terms 5)) × IsPlain (understood schema insert_office_text)

in_layout_1 : AddsPoint layout_1
unfolding understood everything
in_layout_1 = (refl, (refl, refl))

in_layout_2 : AddsPoint layout_2
unfolding understood everything
in_layout_2 = (refl, (refl, refl))

in_layout_3 : AddsPoint layout_3
unfolding understood everything
in_layout_3 = (refl, (refl, refl))

abbrev pub bound_point : Point → Row
bound_point p = Int (pos p.layout) ∷ Int (pos p.step) ∷ Int (pos p.mark) ∷ []

abbrev stored : Point → Row
stored p = Int (pos 1) ∷ Null ∷ bound_point p

news_are : (p : Point) (db : Trees) → (added db office terms 5 (bound_point p)).news ≡ stored p ∷ []
news_are p db = simp (cast_int, cast_null) refl

pub office_gains : (layout : ℕ) → IsLayout layout → (p : Point) (old new : State) (ran : Result ℕ Error) → old.now.schema ≡ schema_of layout → ExecutesInside 0 insert_office_text (bound_point p) old new ran
    → OnOk ran (Gains office (point_cells p) old.now new.now)
office_gains layout (inl one) p old new ran has h = gains old new insert_office_text (bound_point p) office (point_cells p) ran
    (inserts layout_1 0 office terms 5 insert_office_text (bound_point p) (point_cells p) (λ _. stored p) refl in_layout_1.0 in_layout_1.1 (λ _. refl) (news_are p) (λ _. refl) old (has ∙ ap schema_of one) new) h
office_gains layout (inr (inl two)) p old new ran has h = gains old new insert_office_text (bound_point p) office (point_cells p) ran
    (inserts layout_2 0 office terms 5 insert_office_text (bound_point p) (point_cells p) (λ _. stored p) refl in_layout_2.0 in_layout_2.1 (λ _. refl) (news_are p) (λ _. refl) old (has ∙ ap schema_of two) new) h
office_gains layout (inr (inr three)) p old new ran has h = gains old new insert_office_text (bound_point p) office (point_cells p) ran
    (inserts layout_3 0 office terms 5 insert_office_text (bound_point p) (point_cells p) (λ _. stored p) refl in_layout_3.0 in_layout_3.1 (λ _. refl) (news_are p) (λ _. refl) old (has ∙ ap schema_of three) new) h

-- with no table there is nothing that could have a row
pub bare_blank : (db : Database) → db.schema ≡ no_schema → IsSound no_schema db.trees → IsBlank no_schema db
bare_blank db has sound = record { schema_is = has; empty = tt; uncounted = tt; sound = sound }

still_empty : (table : Table) (old new : Trees) → new table.tree ≡ old table.tree → old table.tree ≡ [] → rows_in table new ≡ []
still_empty table old new same none = ap (map (cells table)) (same ∙ none)

-- each table but office stays empty
others_empty : (schema : Schema) (at : Point) (old new : Database) → IsBlank schema old → Adds schema.tables office (point_cells at) old.trees new.trees
    → (name : TableName) → Contains schema.tables (table_named name) → name ≢ table.Office → rows_in (table_named name) new.trees ≡ []
others_empty schema at old new blank adds name there other =
    let Keeps = λ (t : Table). t.tree ≢ office.tree → new.trees t.tree ≡ old.trees t.tree in
    let IsBare = λ (t : Table). old.trees t.tree ≡ [] in
    still_empty (table_named name) old.trees new.trees
    (All-contains Keeps schema.tables (table_named name) (All-from_recursion Keeps schema.tables adds.others) there (λ same. other (same_tree name table.Office same)))
    (All-contains IsBare schema.tables (table_named name) (All-from_recursion IsBare schema.tables blank.empty) there)

-- rows that are none rise
none_rise : (rows : List Row) → rows ≡ [] → IsTable rows × AllByRecursion (λ r. IsTrue (is_int (rowid r))) rows
none_rise rows is = (subst IsTable (sym is) tt, subst (AllByRecursion (λ r. IsTrue (is_int (rowid r)))) (sym is) tt)

rise_at : (n : ℕ) (old new : Trees) → Rises office new → (n ≢ 0 → new n ≡ old n) → old n ≡ [] → IsTable (new n) × AllByRecursion (λ r. IsTrue (is_int (rowid r))) (new n)
rise_at zero old new first same none = (first.up, first.numbers)
rise_at (suc n) old new first same none = none_rise (new (suc n)) (same (λ is. omega arith) ∙ none)

-- the rowids of each table rise
all_rise : (schema : Schema) (old new : Database) → IsBlank schema old → Rises office new.trees → AllByRecursion (λ t. t.tree ≢ office.tree → new.trees t.tree ≡ old.trees t.tree) schema.tables
    → (name : TableName) → Contains schema.tables (table_named name) → Rises (table_named name) new.trees
all_rise schema old new blank first others name there =
    let Keeps = λ (t : Table). t.tree ≢ office.tree → new.trees t.tree ≡ old.trees t.tree in
    let IsBare = λ (t : Table). old.trees t.tree ≡ [] in
    let up = rise_at (table_named name).tree old.trees new.trees first (All-contains Keeps schema.tables (table_named name) (All-from_recursion Keeps schema.tables others) there)
    (All-contains IsBare schema.tables (table_named name) (All-from_recursion IsBare schema.tables blank.empty) there) in
    record { up = up.0; numbers = up.1 }

-- tables without a row, and then the row of the point
pub empty_at : (schema : Schema) → Contains schema.tables office → (p : Point) (old new : Database) → IsBlank schema old → Gains office (point_cells p) old new → (new.schema ≡ schema) × IsEmptyAt schema p new.trees
empty_at schema there p old new blank gained =
    let IsBare = λ (t : Table). old.trees t.tree ≡ [] in
    let same : new.schema ≡ schema = gained.schema ∙ blank.schema_is in
    let adds = subst (λ (s : Schema). Adds s.tables office (point_cells p) old.trees new.trees) blank.schema_is gained.adds in
    let none : rows_in office old.trees ≡ [] = ap (map (cells office)) (All-contains IsBare schema.tables office (All-from_recursion IsBare schema.tables blank.empty) there) in
    let before = none_rise (old.trees office.tree) (All-contains IsBare schema.tables office (All-from_recursion IsBare schema.tables blank.empty) there) in
    let one : IsPermutation (point_cells p ∷ []) (rows_in office new.trees) = subst (λ rows. IsPermutation (point_cells p ∷ rows) (rows_in office new.trees)) none adds.gained in (
      same,
      record {
        sound = subst (λ s. IsSound s new.trees) same gained.sound;
        points = one_permutation (point_cells p) (rows_in office new.trees) one;
        others = others_empty schema p old new blank adds;
        rises = all_rise schema old new blank (adds.rises (record { up = before.0; numbers = before.1 })) adds.others;
      },
    )

-- ── a database with no table that was filled in a transaction, which was committed ──

module _ {S : Type 0} (g : Ghosts S) (to : Schema) (Q : Trees → Type 0) (old tx last : Held S) (begun : tx ≡ record old { in_transaction = true }) (bare : RestsAs (state g old) no_schema (IsSound no_schema)) (run : IsWithin (state g tx) (state g last))
    (inside : HasCleanDisk (state g last) → IsTrue (state g tx).in_transaction → StaysInside (state g tx) (state g last))
    (fills : HasCleanDisk (state g last) → IsTrue (state g tx).in_transaction → IsBlank no_schema (state g tx).now → ((state g last).now.schema ≡ to) × Q (state g last).now.trees)
    (end final : Held S) (same : end ≡ final) (commit : Survives (state g last) (state g end) (λ db. db ≡ (state g last).now.trees)) where
  -- whatever the commit answers
  pub filled_either : Leaves (state g final) (λ db. IsSound no_schema db ⊎ Q db)
  filled_either = subst (λ h. Leaves (state g h) (λ db. IsSound no_schema db ⊎ Q db)) same
      (commits_either g no_schema to (IsSound no_schema) Q old tx last begun bare run inside (λ clean within has sound. fills clean within (bare_blank (state g tx).now has sound)) end commit)

  -- where it answers Ok
  pub filled_ok : IsSettled g → (HasCleanDisk (state g end) → Shows (state g last) (state g end) (state g last).now (state g last).now false) → RestsAs (state g final) to Q
  filled_ok settled shown = subst (λ h. RestsAs (state g h) to Q) same
      (commits_ok g no_schema to (IsSound no_schema) Q old tx last begun bare run inside (λ clean within has sound. fills clean within (bare_blank (state g tx).now has sound)) end commit settled shown)

-- each layout has the table of the point
has_office : (layout : ℕ) → IsLayout layout → Contains (schema_of layout).tables office
has_office layout (inl one) = subst (λ n. Contains (schema_of n).tables office) (sym one) (0, omega arith, refl)
has_office layout (inr (inl two)) = subst (λ n. Contains (schema_of n).tables office) (sym two) (0, omega arith, refl)
has_office layout (inr (inr three)) = subst (λ n. Contains (schema_of n).tables office) (sym three) (0, omega arith, refl)

-- the tables of a layout without a row, and then the row of its settled point
pub empty_book : (layout : ℕ) → IsLayout layout → (old new : Database) → IsBlank (schema_of layout) old → Gains office (point_cells (settled layout)) old new → (new.schema ≡ schema_of layout) × IsEmptyIn layout new.trees
empty_book layout is old new blank gained = empty_at (schema_of layout) (has_office layout is) (settled layout) old new blank gained
