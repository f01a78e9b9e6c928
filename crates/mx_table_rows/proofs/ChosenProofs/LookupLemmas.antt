-- What makes a text one that shows or deletes chosen rows, from what is computed of it.
use Rattle.std.proofs.Common.{◌≡◌, ◌⊎◌, inl, inr, ℕ, pos, negsuc, Bool, false, List, [], ◌∷◌, ◌++◌, map, slice_get, Option, Some, None, refl, sym, subst}
use Rattle.std.specs.List.{list_all}
use Rattle.std.specs.declared.cmp.Ordering.{Ordering}
use Rattle.sqlite.specs.declared.types.Value.TheVariants.{Int}
use Rattle.sqlite.specs.Order.{Row, column}
use Rattle.sqlite.specs.Collation.TheVariants.{Binary}
use Rattle.sqlite.specs.Table.{Table}
use Rattle.sqlite.specs.Schema.{Schema}
use Rattle.sqlite.specs.Tree.{Trees}
use Rattle.sqlite.specs.Query.{as_count}
use Rattle.sqlite.specs.Term.{Term, lit, col, eval, eval_all, holds}
use Rattle.sqlite_value.specs.declared.keys.Key.{Key}
use Rattle.sqlite.specs.Command.TheVariants.{Select, Delete}
use Rattle.sqlite.specs.Listing.{understood, reads_listing}
use Rattle.sqlite.specs.Program.{overlay}
use Rattle.sqlite.proofs.Callers.{IsPlain, command_of}
use Rattle.sqlite_schema.specs.Names.{place_of}
use Rattle.sqlite_schema.specs.declared.schema.Column.{Column}
use Rattle.sqlite_schema.specs.declared.schema.Index.{Index}
use Rattle.sqlite_sql.specs.Term.{op2}
use Rattle.sqlite_sql.specs.declared.ops.BinaryOp.TheVariants.{Compare}
use Rattle.sqlite_sql.specs.declared.ops.CompareOp.{CompareOp}
use Rattle.mx_layout.specs.Contents.{cells}
use Rattle.mx_layout.specs.Names.{table_named}
use Rattle.mx_layout.specs.Reading.{by_first, by_two, by_four}
use Rattle.mx_layout.proofs.ReadLemmas.{first_key, two_keys, four_keys}
use Rattle.mx_layout.specs.kept.Kept.{Kept, over}
use Rattle.mx_layout.specs.kept.Schemas.{HasBehind, permanent}
use Rattle.mx_layout.proofs.KeptProofs.KeptLemmas.{shown_terms, behind_terms}
use Rattle.mx_table_rows.specs.chosen.Choices.{backward}
use Rattle.mx_table_rows.specs.chosen.Lookups.{choose, SortsAt, MeansThose, MeansDeleted, FindsFirst, Finds, Deletes}
use Rattle.mx_table_rows.proofs.ChosenProofs.ChooseLemmas.{last_key, sorts_by_first, sorts_by_last, sorts_by_two, sorts_by_four}

abbrev pub no_limit : Term
no_limit = lit (Int (negsuc 0))

-- the column of the table compares with the value at a place of those that are given
abbrev pub given_at : CompareOp → Table → ℕ → ℕ → Term
given_at op table at place = op2 (Compare op Binary) (col 1 (place_of table at)) (col 0 place)

-- the text shows the rows of the table that pass the tests, sorted by these keys, up to the limit
abbrev pub ChoosesBy : List (Term × Key) → (Table → List Term) → Term → Schema → List ℕ → Table → List Term → Type 0
ChoosesBy keys project limit schema text table tests =
    (command_of (understood schema text) ≡ Select (record { lets = []; body = choose keys tests table.tree (project table) limit }) (map (λ (c : Column). c.name) table.columns))
    × (reads_listing schema text ≡ false) × IsPlain (understood schema text)

-- a table whose first column is the rowid: all that pass the tests
abbrev pub Chooses : Schema → List ℕ → Table → List Term → Type 0
Chooses = ChoosesBy first_key shown_terms no_limit

-- the same, the first so many
abbrev pub ChoosesFirst : Schema → List ℕ → Table → List Term → ℕ → Type 0
ChoosesFirst schema text table tests most = ChoosesBy first_key shown_terms (lit (Int (pos most))) schema text table tests

-- the same, the last so many, the last of all first
abbrev pub ChoosesLast : Schema → List ℕ → Table → List Term → ℕ → Type 0
ChoosesLast schema text table tests most = ChoosesBy last_key shown_terms (lit (Int (pos most))) schema text table tests

-- a table whose rows are stored behind a rowid: all that pass the tests
abbrev pub ChoosesByTwo : Schema → List ℕ → Table → List Term → Type 0
ChoosesByTwo = ChoosesBy two_keys behind_terms no_limit

-- the same, where the first four columns are the key
abbrev pub ChoosesByFour : Schema → List ℕ → Table → List Term → Type 0
ChoosesByFour = ChoosesBy four_keys behind_terms no_limit

-- the text deletes the rows that pass the tests of the table at a place of the schema
abbrev pub Drops : Schema → List ℕ → ℕ → Table → List Term → Type 0
Drops schema text at table tests =
    (command_of (understood schema text) ≡ Delete at (record { lets = []; body = choose [] tests table.tree (col 1 0 ∷ []) no_limit })) × IsPlain (understood schema text)

module _ {X : Type 0} (k : Kept X) (own : List Table) (behind : (schema : Schema) → k.IsIn schema → HasBehind own schema) (text : List ℕ) (tests : List Term) (chosen : Row → Row → Bool)
    (low : (db : Trees) → overlay db [] (table_named k.name).tree ≡ db (table_named k.name).tree)
    (picks : (values r : Row) → list_all (holds (values ∷ r ∷ [])) tests ≡ chosen values (cells (table_named k.name) r)) where
  abbrev table : Table
  table = table_named k.name

  -- what a text means that shows the rows by these keys, up to the limit
  means : (keys : List (Term × Key)) (project : Table → List Term) (limit : Term) (order : Row → Row → Ordering) (most : Option ℕ)
      → ((rest : List Table) (more : List Index) → ChoosesBy keys project limit (permanent (own ++ rest) more) text table tests)
      → ((values : Row) → (λ (r : Row). eval_all (project table) (values ∷ r ∷ [])) ≡ cells table) → ((values : Row) → SortsAt (choose keys tests table.tree (project table) limit) values order)
      → ((values : Row) → as_count (eval limit (values ∷ [])) ≡ most) → FindsFirst k text most order chosen
  means keys project limit order most texts shows sorts counts schema h =
      let has = behind schema h in
      let is = texts has.rest has.more in
      subst (λ s. MeansThose s text table order chosen most) (sym has.is)
      (record {
        keys = keys;
        tests = tests;
        project = project table;
        limit = limit;
        names = map (λ (c : Column). c.name) table.columns;
        is = is.0;
        unlisted = is.1;
        plain = is.2;
        shows = shows;
        picks = picks;
        sorts = sorts;
        counts = counts;
        low = low;
      })

  -- the first column is the rowid
  pub first_found : k.order ≡ by_first → ((rest : List Table) (more : List Index) → Chooses (permanent (own ++ rest) more) text table tests)
      → ((values : Row) → (λ (r : Row). eval_all (shown_terms table) (values ∷ r ∷ [])) ≡ cells table) → ((values r : Row) → column r 0 ≡ column (eval_all (shown_terms table) (values ∷ r ∷ [])) 0) → Finds k text chosen
  first_found ordered texts shows at_first =
      subst (λ o. FindsFirst k text None o chosen) (sym ordered) (means first_key shown_terms no_limit by_first None texts shows (λ values. sorts_by_first tests table.tree (shown_terms table) no_limit values (at_first values)) (λ _. refl))

  -- the same, the first so many
  pub first_page : (most : ℕ) → k.order ≡ by_first → ((rest : List Table) (more : List Index) → ChoosesFirst (permanent (own ++ rest) more) text table tests most)
      → ((values : Row) → (λ (r : Row). eval_all (shown_terms table) (values ∷ r ∷ [])) ≡ cells table) → ((values r : Row) → column r 0 ≡ column (eval_all (shown_terms table) (values ∷ r ∷ [])) 0) → FindsFirst k text (Some most) k.order chosen
  first_page most ordered texts shows at_first =
      let limit = lit (Int (pos most)) in
      subst (λ o. FindsFirst k text (Some most) o chosen) (sym ordered) (means first_key shown_terms limit by_first (Some most) texts shows (λ values. sorts_by_first tests table.tree (shown_terms table) limit values (at_first values)) (λ _. refl))

  -- the last so many, the last of all first
  pub last_found : (most : ℕ) → ((rest : List Table) (more : List Index) → ChoosesLast (permanent (own ++ rest) more) text table tests most)
      → ((values : Row) → (λ (r : Row). eval_all (shown_terms table) (values ∷ r ∷ [])) ≡ cells table) → ((values r : Row) → column r 0 ≡ column (eval_all (shown_terms table) (values ∷ r ∷ [])) 0) → FindsFirst k text (Some most) (backward by_first) chosen
  last_found most texts shows at_first =
      let limit = lit (Int (pos most)) in
      means last_key shown_terms limit (backward by_first) (Some most) texts shows (λ values. sorts_by_last tests table.tree (shown_terms table) limit values (at_first values)) (λ _. refl)

  -- the key is the first two columns
  pub two_found : k.order ≡ by_two → ((rest : List Table) (more : List Index) → ChoosesByTwo (permanent (own ++ rest) more) text table tests)
      → ((values : Row) → (λ (r : Row). eval_all (behind_terms table) (values ∷ r ∷ [])) ≡ cells table) → ((values r : Row) → column r 1 ≡ column (eval_all (behind_terms table) (values ∷ r ∷ [])) 0)
      → ((values r : Row) → column r 2 ≡ column (eval_all (behind_terms table) (values ∷ r ∷ [])) 1) → Finds k text chosen
  two_found ordered texts shows at_first at_second =
      subst (λ o. FindsFirst k text None o chosen) (sym ordered) (means two_keys behind_terms no_limit by_two None texts shows (λ values. sorts_by_two tests table.tree (behind_terms table) no_limit values (at_first values) (at_second values)) (λ _. refl))

  -- the key is the first four columns
  pub four_found : k.order ≡ by_four → ((rest : List Table) (more : List Index) → ChoosesByFour (permanent (own ++ rest) more) text table tests)
      → ((values : Row) → (λ (r : Row). eval_all (behind_terms table) (values ∷ r ∷ [])) ≡ cells table) → ((values r : Row) → column r 1 ≡ column (eval_all (behind_terms table) (values ∷ r ∷ [])) 0)
      → ((values r : Row) → column r 2 ≡ column (eval_all (behind_terms table) (values ∷ r ∷ [])) 1) → ((values r : Row) → column r 3 ≡ column (eval_all (behind_terms table) (values ∷ r ∷ [])) 2)
      → ((values r : Row) → column r 4 ≡ column (eval_all (behind_terms table) (values ∷ r ∷ [])) 3) → Finds k text chosen
  four_found ordered texts shows at_first at_second at_third at_fourth =
      subst (λ o. FindsFirst k text None o chosen) (sym ordered) (means four_keys behind_terms no_limit by_four None texts shows (λ values. sorts_by_four tests table.tree (behind_terms table) no_limit values (at_first values) (at_second values) (at_third values) (at_fourth values)) (λ _. refl))

  -- rows are deleted from a table, whatever its key is
  pub deleted : (at : ℕ) → ((rest : List Table) (more : List Index) → slice_get (permanent (own ++ rest) more).tables at ≡ Some table)
      → ((rest : List Table) (more : List Index) → Drops (permanent (own ++ rest) more) text at table tests) → Deletes k text chosen
  deleted at there texts schema h =
      let has = behind schema h in
      let is = texts has.rest has.more in
      subst (λ s. MeansDeleted s text table chosen) (sym has.is) (record { at = at; tests = tests; there = there has.rest has.more; is = is.0; plain = is.1; picks = picks; low = low })

-- a table that stands at one place in some schemas, and at another in others
pub either_finds : {X : Type 0} (k : Kept X) (P Q : Schema → Type 0) (text : List ℕ) (most : Option ℕ) (order : Row → Row → Ordering) (chosen : Row → Row → Bool)
    → FindsFirst (over k P) text most order chosen → FindsFirst (over k Q) text most order chosen → FindsFirst (over k (λ s. P s ⊎ Q s)) text most order chosen
either_finds k P Q text most order chosen a b schema h = elim h [ inl one ↦ a schema one | inr other ↦ b schema other ]

pub either_deletes : {X : Type 0} (k : Kept X) (P Q : Schema → Type 0) (text : List ℕ) (chosen : Row → Row → Bool) → Deletes (over k P) text chosen → Deletes (over k Q) text chosen → Deletes (over k (λ s. P s ⊎ Q s)) text chosen
either_deletes k P Q text chosen a b schema h = elim h [ inl one ↦ a schema one | inr other ↦ b schema other ]
