-- What SELECT count(*) FROM table answers, whatever the schema is, and what the call that asks for it leaves.
use Rattle.std.proofs.Common.{◌≡◌, ◌≢◌, ◌<◌, ◌^◌, inl, inr, ℕ, pos, min, Option, None, List, [], ◌∷◌, map, flat_map, length, Some, Ok, Err, Result, IsTrue, refl, sym, ap, subst, ◌∙◌, arith}
use Rattle.std.specs.Prelude.{MatchOption}
use Rattle.std.specs.Option.{ok_or}
use Rattle.std.specs.List.{AllZip}
use Rattle.std.proofs.lemmas.List.{length-map}
use Rattle.std.proofs.lemmas.List.Sorted.{length_permutation}
use Rattle.sqlite.specs.declared.types.Value.TheVariants.{Null, Int}
use Rattle.sqlite.specs.declared.error.Error.{Error}
use Rattle.sqlite.specs.Order.{Row, column}
use Rattle.sqlite.specs.Table.{Table}
use Rattle.sqlite.specs.Schema.{Schema}
use Rattle.sqlite.specs.Tree.{Trees}
use Rattle.sqlite.specs.Term.{Env, lit, eval}
use Rattle.sqlite.specs.Query.{IsAnswer}
use Rattle.sqlite.specs.Command.TheVariants.{Select}
use Rattle.sqlite.specs.Listing.{understood}
use Rattle.sqlite.specs.Program.{overlay}
use Rattle.sqlite.specs.State.{State, HasCleanDisk, IsUnchanged, KeepsCommit, QueriesRow, QueriesRowInside, Survives}
use Rattle.sqlite.proofs.Callers.{IsPlain, first_as}
use Rattle.sqlite.proofs.InsideLemmas.{unchanged_keeps}
use Rattle.sqlite_sql.specs.Group.{Grouping, value_over, IsSummary}
use Rattle.sqlite_sql.proofs.AggregateLemmas.{only_one}
use Rattle.mx_layout.specs.Contents.{cells, rows_in}
use Rattle.mx_layout.specs.Crash.{StaysInside, IsWithin}
use Rattle.mx_layout.specs.Names.{table_named}
use Rattle.mx_layout.specs.Point.{IsStop}
use Rattle.mx_layout.specs.declared.fault.TableFault.{TableFault}
use Rattle.mx_layout.specs.declared.fault.TableFault.TheVariants.{Damaged}
use Rattle.mx_layout.specs.kept.Kept.{Kept}
use Rattle.mx_tables.proofs.AnswerLemmas.{never_damaged, not_read}
use Rattle.mx_layout.proofs.InsideLemmas.{shown_keeps, shown_stays, query_keeps}
use Rattle.mx_layout.proofs.ReadLemmas.{shown_unchanged}
use Rattle.mx_table_rows.specs.chosen.Counts.{row_count, tally, MeansCount, Counts, CountsRows}

-- the one row of a count
abbrev pub counted : ℕ → Row
counted n = Int (pos (min n 9223372036854775807)) ∷ []

-- all rows are one group, of which its size is told
abbrev whole : Grouping
whole = record { keys = []; collations = []; aggregates = row_count ∷ []; having = [] }

one_value : (group : List Env) (values : Row) → AllZip (λ a v. value_over group a ≡ Some v) (row_count ∷ []) values → values ≡ counted (length group)
one_value group [] is = absurd is
one_value group (v ∷ u ∷ values) is = absurd is.1
one_value group (v ∷ []) is = let e : v ∷ [] ≡ counted (length (map (eval (lit Null)) group)) = cc in e ∙ rw length-map

one_row : (rows : List Row) (group : List Env) → AllZip (IsSummary whole) (group ∷ []) rows → rows ≡ counted (length group) ∷ []
one_row [] group is = absurd is
one_row (row ∷ other ∷ rows) group is = absurd is.1
one_row (row ∷ []) group is = ap (λ r. r ∷ []) (is.0.2 ∙ one_value group is.0.0 is.0.1)

-- each alone, all of them
length-each : {A B : Type 0} (f : A → B) (xs : List A) → length (flat_map (λ x. f x ∷ []) xs) ≡ length xs
length-each f [] = refl
length-each f (x ∷ xs) = let e = length-each f xs in omega (arith, e)

pub count_is : (tree : ℕ) (db : Trees) (params : Row) (rows : List Row) → IsAnswer (tally tree) db params rows → rows ≡ counted (length (db tree)) ∷ []
count_is tree db params rows answer =
    let made = answer.grouped in
    let size : length made.grouping.0 ≡ length (db tree) = length_permutation _ _ made.grouping.1 ∙ length-each (λ r. params ∷ r ∷ []) (db tree) in
    let row = one_row made.rows made.grouping.0 (subst (λ groups. AllZip (IsSummary whole) groups made.rows) made.grouping.2 made.summaries) in
    let staged : answer.staged ≡ (params ∷ counted (length made.grouping.0) ∷ []) ∷ [] = made.having ∙ rw row in
    let ordered = only_one _ answer.ordered (rw (answer.distinct, staged) at answer.same) in
    answer.shown ∙ rw (ordered, size)

-- by a text that is written out
pub row_counts : (schema : Schema) (text : List ℕ) (table : Table) → MeansCount schema text table → (old new : State) → old.now.schema ≡ schema → (row : Row) → QueriesRow text [] old new (Ok row)
    → row ≡ counted (length (rows_in table old.now.trees))
row_counts schema text table m old new has row shown =
    let plan = Select (record { lets = []; body = tally table.tree }) m.names in
    let got = (first_as text [] old new schema has plan m.is m.plain m.unlisted row shown).1 in
    let all = count_is table.tree (overlay old.now.trees []) [] (row ∷ got.0) (got.1 Null) in
    let size : length (overlay old.now.trees [] table.tree) ≡ length (rows_in table old.now.trees) = ap length (m.low old.now.trees) ∙ sym (length-map (old.now.trees table.tree) (cells table)) in
    let first : row ≡ counted (length (overlay old.now.trees [] table.tree)) = cc in
    first ∙ ap counted size

module _ (old new : State) (text : List ℕ) (params : Row) where
  -- the call changed nothing
  pub row_unchanged : IsPlain (understood old.now.schema text) → (row : Row) → QueriesRow text params old new (Ok row) → IsUnchanged old new
  unfolding QueriesRow
  row_unchanged plain row (inl begun) = begun.1
  row_unchanged plain row (inr shown) = shown_unchanged text params old new shown.0 plain shown.1

  -- and the transaction is open as it was
  pub row_stays : IsTrue old.in_transaction → (row : Row) → QueriesRow text params old new (Ok row) → StaysInside old new
  unfolding QueriesRow
  row_stays inside row (inl begun) =
      let same = begun.1.0 in
      record { was_open = same.was_open; is_open = same.is_open; now_is = refl; committed_is = same.committed_is; mode = same.mode ∙ inside }
  row_stays inside row (inr shown) = shown_stays old new text params shown.0 inside shown.1

  row_keeps : IsTrue old.in_transaction → (result : Result Row Error) → QueriesRowInside text params old new result → KeepsCommit old new
  unfolding QueriesRow
  row_keeps inside (Ok row) (inl begun) = unchanged_keeps old new (inl begun.1)
  row_keeps inside (Ok row) (inr shown) = shown_keeps old new text params shown.0 inside shown.1
  row_keeps inside (Err e) (inl (inl fails)) = query_keeps old new text params e (inl fails)
  row_keeps inside (Err e) (inl (inr none)) = shown_keeps old new text params [] inside none.1
  row_keeps inside (Err e) (inr late) = query_keeps old new text params e (inr late)

  -- whatever the call answered, a crash has no new outcome, and the last commit stands
  pub row_within : (result : Result Row Error) → Survives old new (λ _. ⊥) → (HasCleanDisk new → QueriesRowInside text params old new result) → IsWithin old new
  row_within result survives row = record { survives = survives; kept = λ clean inside. row_keeps inside result (row clean) }

-- the number in the row of a count, if 32 bits hold it
abbrev Tells : Row → Option ℕ → Type 0
Tells row number = MatchOption number ((n : ℕ) → n < 2 ^ 32 → column row 0 ≢ Int (pos n)) (λ n. (column row 0 ≡ Int (pos n)) × (n < 2 ^ 32))

module _ {X : Type 0} (k : Kept X) (old new : State) (within : IsWithin old new) where
  -- what the number in the row says
  pub counts_told : (text : List ℕ) → Counts k text → (row : Row) → (HasCleanDisk new → QueriesRow text [] old new (Ok row)) → (number : Option ℕ) → Tells row number → CountsRows k old new (ok_or number (Damaged k.name))
  counts_told text counts row shown (Some n) is = record {
    rows = λ clean has.
        let told = ap (λ r. column r 0) (row_counts old.now.schema text (table_named k.name) (counts old.now.schema has) old new refl row (shown clean)) in
        let same : n ≡ min (length (rows_in (table_named k.name) old.now.trees)) 9223372036854775807 = cc in
        let low = is.1 in
        omega (arith, same, low);
    cause = tt;
    damaged = λ clean has none. absurd cc;
    unchanged = λ clean has. row_unchanged old new text [] (counts old.now.schema has).plain row (shown clean);
    inside = λ clean inside. row_stays old new text [] inside row (shown clean);
    within = within;
  }
  counts_told text counts row shown None is = record {
    rows = λ clean has. tt;
    cause = inr (inr refl);
    damaged = λ clean has _.
        let told = ap (λ r. column r 0) (row_counts old.now.schema text (table_named k.name) (counts old.now.schema has) old new refl row (shown clean)) in
        let not_low = λ (low : min (length (rows_in (table_named k.name) old.now.trees)) 9223372036854775807 < 2 ^ 32). is _ low told in
        omega (arith, not_low);
    unchanged = λ clean has. row_unchanged old new text [] (counts old.now.schema has).plain row (shown clean);
    inside = λ clean inside. row_stays old new text [] inside row (shown clean);
    within = within;
  }

  -- want of memory or the store stopped the call
  pub counts_stopped : (fault : TableFault) → IsStop fault → CountsRows k old new (Err fault)
  counts_stopped fault why = record {
    rows = λ clean has. tt;
    cause = elim why [ inl memory ↦ inl memory | inr store ↦ inr (inl store) ];
    damaged = λ clean has is. absurd (never_damaged fault why is);
    unchanged = λ clean has. not_read _ fault why;
    inside = λ clean inside. not_read _ fault why;
    within = within;
  }
