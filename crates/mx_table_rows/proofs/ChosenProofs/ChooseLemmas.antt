-- What SELECT .. FROM table WHERE .. ORDER BY .. LIMIT answers, whatever the schema is.
use Rattle.std.proofs.Common.{◌≡◌, ℕ, Bool, true, false, cond, List, [], ◌∷◌, ◌++◌, map, filter, flat_map, Option, Some, None, refl, sym, ap, ap₂, subst, ◌∙◌, All}
use Rattle.std.specs.List.{list_all}
use Rattle.std.specs.declared.cmp.Ordering.{Ordering}
use Rattle.std.specs.declared.cmp.Ordering.TheVariants.{Less, Equal, Greater}
use Rattle.std.specs.Ordering.{is_lt, ordering_then}
use Rattle.std.specs.List.Sorted.{IsPermutation}
use Rattle.std.proofs.lemmas.List.Sorted.{IsPermutation-map, All-permutation}
use Rattle.std.proofs.lemmas.List.Elements.{All-map}
use Rattle.sqlite_keyed.proofs.ListLemmas.{map-map, filter-map, filter_same}
use Rattle.sqlite.specs.declared.types.Value.TheVariants.{Null}
use Rattle.sqlite.specs.Order.{Row, column, value_cmp}
use Rattle.sqlite.specs.Collation.TheVariants.{Binary}
use Rattle.sqlite.specs.Term.{Term, col, eval, eval_all, holds}
use Rattle.sqlite.specs.Query.{Query, IsAnswer, output, output_cmp, Output, as_count, limited}
use Rattle.sqlite.specs.Tree.{Trees}
use Rattle.sqlite.specs.Table.{Table}
use Rattle.sqlite.specs.Schema.{Schema}
use Rattle.sqlite.specs.Command.TheVariants.{Select}
use Rattle.sqlite.specs.Listing.{understood}
use Rattle.sqlite.specs.Program.{overlay}
use Rattle.sqlite.specs.State.{State, Shown}
use Rattle.sqlite.proofs.Callers.{IsPlain, reads_as}
use Rattle.sqlite_value.specs.declared.keys.Key.{Key}
use Rattle.mx_layout.specs.Contents.{cells, rows_in}
use Rattle.mx_layout.specs.Reading.{by_first, by_two, by_four}
use Rattle.mx_layout.proofs.ReadLemmas.{first_key, two_keys, four_keys, shown_unchanged, rows_sorted}
use Rattle.mx_table_rows.specs.chosen.Choices.{AreFirst, at_most, backward}
use Rattle.mx_table_rows.specs.chosen.Lookups.{choose, SortsAt, MeansThose}
use Rattle.mx_table_rows.specs.chosen.Calls.{ShowsFirst}

or_equal : (o : Ordering) → ordering_then o Equal ≡ o
or_equal Less = refl
or_equal Equal = refl
or_equal Greater = refl

-- the key of a table whose first column is the rowid, from the last row on
abbrev pub last_key : List (Term × Key)
last_key = (col 1 0, record { collation = Binary; descending = true }) ∷ []

pub sorts_by_first : (tests : List Term) (tree : ℕ) (project : List Term) (limit : Term) (params : Row) → ((r : Row) → column r 0 ≡ column (eval_all project (params ∷ r ∷ [])) 0) → SortsAt (choose first_key tests tree project limit) params by_first
sorts_by_first tests tree project limit params first x y = ap is_lt (or_equal _ ∙ ap₂ value_cmp (first x) (first y))

pub sorts_by_last : (tests : List Term) (tree : ℕ) (project : List Term) (limit : Term) (params : Row) → ((r : Row) → column r 0 ≡ column (eval_all project (params ∷ r ∷ [])) 0) → SortsAt (choose last_key tests tree project limit) params (backward by_first)
sorts_by_last tests tree project limit params first x y = ap is_lt (or_equal _ ∙ ap₂ value_cmp (first y) (first x))

pub sorts_by_two : (tests : List Term) (tree : ℕ) (project : List Term) (limit : Term) (params : Row) → ((r : Row) → column r 1 ≡ column (eval_all project (params ∷ r ∷ [])) 0) → ((r : Row) → column r 2 ≡ column (eval_all project (params ∷ r ∷ [])) 1) → SortsAt (choose two_keys tests tree project limit) params by_two
sorts_by_two tests tree project limit params first second x y = ap is_lt (ap₂ ordering_then (ap₂ value_cmp (first x) (first y)) (or_equal _ ∙ ap₂ value_cmp (second x) (second y)))

pub sorts_by_four : (tests : List Term) (tree : ℕ) (project : List Term) (limit : Term) (params : Row) → ((r : Row) → column r 1 ≡ column (eval_all project (params ∷ r ∷ [])) 0) → ((r : Row) → column r 2 ≡ column (eval_all project (params ∷ r ∷ [])) 1)
    → ((r : Row) → column r 3 ≡ column (eval_all project (params ∷ r ∷ [])) 2) → ((r : Row) → column r 4 ≡ column (eval_all project (params ∷ r ∷ [])) 3) → SortsAt (choose four_keys tests tree project limit) params by_four
sorts_by_four tests tree project limit params first second third fourth x y =
    ap is_lt (ap₂ ordering_then (ap₂ value_cmp (first x) (first y)) (ap₂ ordering_then (ap₂ value_cmp (second x) (second y)) (ap₂ ordering_then (ap₂ value_cmp (third x) (third y)) (or_equal _ ∙ ap₂ value_cmp (fourth x) (fourth y)))))

-- each that passes, alone
pub picked : {A B : Type 0} (p : A → Bool) (f : A → B) (xs : List A) → flat_map (λ x. cond (p x) (f x ∷ []) []) xs ≡ map f (filter p xs)
picked p f [] = refl
picked p f (x ∷ xs) =
    elim (p x) as (λ b. cond b (f x ∷ []) [] ++ flat_map (λ y. cond (p y) (f y ∷ []) []) xs ≡ map f (cond b (x ∷ filter p xs) (filter p xs)))
    [ true ↦ ap (λ l. f x ∷ l) (picked p f xs) | false ↦ picked p f xs ]

limited_is : (most : Option ℕ) (rows : List Row) → limited most rows ≡ at_most most rows
limited_is None rows = refl
limited_is (Some n) rows = refl

module _ (keys : List (Term × Key)) (tests : List Term) (order : Row → Row → Ordering) (table : Table) (project : List Term) (limit : Term) (params : Row) (chosen : Row → Bool) (most : Option ℕ)
    (shows : (λ (r : Row). eval_all project (params ∷ r ∷ [])) ≡ cells table) (picks : (r : Row) → list_all (holds (params ∷ r ∷ [])) tests ≡ chosen (cells table r))
    (sorts : SortsAt (choose keys tests table.tree project limit) params order) (counts : as_count (eval limit (params ∷ [])) ≡ most) where
  abbrev q : Query
  q = choose keys tests table.tree project limit

  abbrev out : Row → Output
  out r = output q (params ∷ r ∷ [])

  abbrev passes : Row → Bool
  passes r = list_all (holds (params ∷ r ∷ [])) tests

  -- the output is that of a row
  abbrev IsOut : Output → Type 0
  IsOut o = (r : Row) × (o ≡ out r)

  step : (x y : Output) → IsOut x → IsOut y → is_lt (output_cmp q x y) ≡ false → is_lt (order x.1 y.1) ≡ false
  step x y p s h = rw (p.1, s.1) (sym (sorts p.0 s.0) ∙ (rw (p.1, s.1) at h))

  -- the rows that pass are those that are chosen by their values
  passing : (db : Trees) → map (cells table) (filter passes (db table.tree)) ≡ filter chosen (rows_in table db)
  passing db = ap (map (cells table)) (filter_same passes (λ r. chosen (cells table r)) picks (db table.tree)) ∙ sym (filter-map chosen (cells table) (db table.tree))

  pub chose : (db : Trees) (rows : List Row) → IsAnswer q db params rows → AreFirst most order table chosen db rows
  chose db rows a =
      let kept : a.kept ≡ map out (filter passes (db table.tree)) =
      a.distinct ∙ ap (map (output q)) (a.grouped ∙ picked passes (λ r. params ∷ r ∷ []) (db table.tree)) ∙ map-map (output q) (λ r. params ∷ r ∷ []) (filter passes (db table.tree)) in
      let seen : map (λ (o : Output). o.1) a.kept ≡ filter chosen (rows_in table db) =
      ap (map (λ (o : Output). o.1)) kept ∙ map-map (λ (o : Output). o.1) out (filter passes (db table.tree)) ∙ ap (λ (f : Row → Row). map f (filter passes (db table.tree))) shows ∙ passing db in
      let outs : All IsOut a.ordered = All-permutation IsOut a.kept a.ordered a.same (subst (All IsOut) (sym kept) (All-map IsOut out (filter passes (db table.tree)) (λ i d low. (_, refl)))) in
      let xs = map (λ (o : Output). o.1) a.ordered in
      let sorted = rows_sorted order q IsOut step a.ordered outs a.sorted in
      let all : IsPermutation (filter chosen (rows_in table db)) xs = subst (λ ys. IsPermutation ys xs) seen (IsPermutation-map (λ (o : Output). o.1) a.kept a.ordered a.same) in
      record { those = xs; are = record { all = all; sorted = sorted }; first = a.shown ∙ ap (λ o. limited o xs) counts ∙ limited_is most xs }

-- by a text that is written out
module _ (schema : Schema) (text : List ℕ) (table : Table) (order : Row → Row → Ordering) (chosen : Row → Row → Bool) (most : Option ℕ) (m : MeansThose schema text table order chosen most)
    (values : Row) (old new : State) (has : old.now.schema ≡ schema) where
  shows_those : (rows : List Row) → Shown text values old new rows → AreFirst most order table (chosen values) old.now.trees rows
  shows_those rows h =
      let read = reads_as text values old new schema has (Select (record { lets = []; body = choose m.keys m.tests table.tree m.project m.limit }) m.names) m.is m.plain m.unlisted rows h in
      let it = chose m.keys m.tests order table m.project m.limit values (chosen values) most (m.shows values) (m.picks values) (m.sorts values) (m.counts values) (overlay old.now.trees []) rows (read.answer Null) in
      record { those = it.those; are = record { all = subst (λ rs. IsPermutation (filter (chosen values) (map (cells table) rs)) it.those) (m.low old.now.trees) it.are.all; sorted = it.are.sorted }; first = it.first }

  pub shows_first : ShowsFirst text values most table order (chosen values) old new
  shows_first = record { those = shows_those; same = λ rows h. shown_unchanged text values old new rows (subst (λ s. IsPlain (understood s text)) (sym has) m.plain) h }
