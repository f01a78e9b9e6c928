-- What SELECT .. FROM table ORDER BY its first column, its first two or its first four, answers, whatever the schema is.
use Rattle.std.proofs.Common.{◌≡◌, inl, inr, ℕ, ◌+◌, ◌<◌, List, [], ◌∷◌, map, length, slice_index_or, false, Ok, Err, Result, OnOk, refl, sym, ap, ap₂, subst, ◌∙◌, All, arith}
use Rattle.std.specs.declared.cmp.Ordering.{Ordering}
use Rattle.std.specs.declared.cmp.Ordering.TheVariants.{Less, Equal, Greater}
use Rattle.std.specs.Ordering.{is_lt, ordering_then}
use Rattle.std.specs.List.Sorted.{IsPermutation, IsSorted}
use Rattle.std.proofs.lemmas.List.Sorted.{IsPermutation-map, IsPermutation-sym, All-permutation, Contains-permutation}
use Rattle.std.proofs.lemmas.List.Concat.{flat_map_single}
use Rattle.std.proofs.lemmas.List.{get_or-map, length-map}
use Rattle.std.proofs.lemmas.Simd.{map-map}
use Rattle.std.proofs.lemmas.List.Elements.{All-map}
use Rattle.sqlite.specs.declared.types.Value.TheVariants.{Null}
use Rattle.sqlite.specs.Order.{Row, column, value_cmp}
use Rattle.sqlite.specs.Collation.TheVariants.{Binary}
use Rattle.sqlite.specs.Term.{Term, col, eval_all}
use Rattle.sqlite.specs.Query.{Query, IsAnswer, output, output_cmp, Output}
use Rattle.sqlite.specs.Tree.{Trees}
use Rattle.sqlite.specs.Table.{Table}
use Rattle.sqlite_value.specs.Keys.{ascending}
use Rattle.sqlite_value.specs.declared.keys.Key.{Key}
use Rattle.mx_layout.specs.Contents.{cells, rows_in}
use Rattle.mx_layout.specs.Reading.{AreAllBy, by_first, by_two, by_four, HasOther}
use Rattle.sqlite.specs.Listing.{understood}
use Rattle.sqlite.specs.Clock.{timed}
use Rattle.sqlite.specs.State.{State, Shown, ShowsRows, IsUnchanged, FailsToQuery, FailsToShow, IsNotRun}
use Rattle.sqlite.proofs.Callers.{IsPlain, command_of, reads_as}
use Rattle.sqlite.specs.Program.{overlay}
use Rattle.sqlite.specs.Schema.{Schema}
use Rattle.sqlite.specs.Listing.{reads_listing}
use Rattle.sqlite.specs.Command.TheVariants.{Select}
use Rattle.sqlite_schema.specs.declared.program.Program.{Program}
use Rattle.sqlite.specs.Effect.{RefusesToRead}
use Rattle.sqlite.specs.declared.error.Error.TheVariants.{SqlInputError}
use Rattle.sqlite_resolve.specs.declared.error.CompileError.{CompileError}
use Rattle.sqlite_trees.specs.declared.error.StoreError.{StoreError}
use Rattle.sqlite_trees.specs.declared.error.StoreError.TheVariants as failure
use Rattle.sqlite.specs.State.{store_error}
use Rattle.mx_layout.specs.Plans.{scan_by, Sorts}

-- the key of a table whose first column is the rowid
abbrev pub first_key : List (Term × Key)
first_key = (col 1 0, ascending Binary) ∷ []

-- the key of the first two columns of a table whose rows are stored behind a rowid
abbrev pub two_keys : List (Term × Key)
two_keys = (col 1 1, ascending Binary) ∷ (col 1 2, ascending Binary) ∷ []

-- the key of the first four columns of a table whose rows are stored behind a rowid
abbrev pub four_keys : List (Term × Key)
four_keys = (col 1 1, ascending Binary) ∷ (col 1 2, ascending Binary) ∷ (col 1 3, ascending Binary) ∷ (col 1 4, ascending Binary) ∷ []

-- all rows of a table, sorted by its rowid
abbrev pub scan : ℕ → List Term → Query
scan = scan_by first_key

or_equal : (o : Ordering) → ordering_then o Equal ≡ o
or_equal Less = refl
or_equal Equal = refl
or_equal Greater = refl

pub sorts_by_first : (project : List Term) → ((r : Row) → column r 0 ≡ column (eval_all project ([] ∷ r ∷ [])) 0) → Sorts first_key project by_first
sorts_by_first project first x y = ap is_lt (or_equal _ ∙ ap₂ value_cmp (first x) (first y))

pub sorts_by_two : (project : List Term) → ((r : Row) → column r 1 ≡ column (eval_all project ([] ∷ r ∷ [])) 0) → ((r : Row) → column r 2 ≡ column (eval_all project ([] ∷ r ∷ [])) 1) → Sorts two_keys project by_two
sorts_by_two project first second x y = ap is_lt (ap₂ ordering_then (ap₂ value_cmp (first x) (first y)) (or_equal _ ∙ ap₂ value_cmp (second x) (second y)))

pub sorts_by_four : (project : List Term) → ((r : Row) → column r 1 ≡ column (eval_all project ([] ∷ r ∷ [])) 0) → ((r : Row) → column r 2 ≡ column (eval_all project ([] ∷ r ∷ [])) 1)
    → ((r : Row) → column r 3 ≡ column (eval_all project ([] ∷ r ∷ [])) 2) → ((r : Row) → column r 4 ≡ column (eval_all project ([] ∷ r ∷ [])) 3) → Sorts four_keys project by_four
sorts_by_four project first second third fourth x y =
    ap is_lt (ap₂ ordering_then (ap₂ value_cmp (first x) (first y)) (ap₂ ordering_then (ap₂ value_cmp (second x) (second y)) (ap₂ ordering_then (ap₂ value_cmp (third x) (third y)) (or_equal _ ∙ ap₂ value_cmp (fourth x) (fourth y)))))

-- outputs that are sorted give rows that are, where what sorts them sorts the rows
pub rows_sorted : (order : Row → Row → Ordering) (q : Query) (IsOut : Output → Type 0) → ((x y : Output) → IsOut x → IsOut y → is_lt (output_cmp q x y) ≡ false → is_lt (order x.1 y.1) ≡ false)
    → (outs : List Output) → All IsOut outs → IsSorted (output_cmp q) outs → IsSorted order (map (λ (o : Output). o.1) outs)
rows_sorted order q IsOut step outs are sorted k d low high =
    let e : Output = ([], []) in
    let within : k + 1 < length outs = omega (arith, high, length-map outs (λ (o : Output). o.1)) in
    let one = get_or-map (λ (o : Output). o.1) outs k e d (omega arith) in
    let two = get_or-map (λ (o : Output). o.1) outs (k + 1) e d within in
    rw (one, two) (step (slice_index_or outs (k + 1) e) (slice_index_or outs k e) (are (k + 1) e within) (are k e (omega arith)) (sorted k e low within))

module _ (keys : List (Term × Key)) (order : Row → Row → Ordering) (table : Table) (project : List Term)
    (shows : (λ (r : Row). eval_all project ([] ∷ r ∷ [])) ≡ cells table) (sorts : Sorts keys project order) where
  abbrev q : Query
  q = scan_by keys table.tree project

  abbrev out : Row → Output
  out r = output q ([] ∷ r ∷ [])

  -- the output is that of a row
  abbrev IsOut : Output → Type 0
  IsOut o = (r : Row) × (o ≡ out r)

  step : (x y : Output) → IsOut x → IsOut y → is_lt (output_cmp q x y) ≡ false → is_lt (order x.1 y.1) ≡ false
  step x y p s h = rw (p.1, s.1) (sym (sorts p.0 s.0) ∙ (rw (p.1, s.1) at h))

  pub scanned : (db : Trees) (rows : List Row) → IsAnswer q db [] rows → AreAllBy order table db rows
  scanned db rows a =
      let kept : a.kept ≡ map out (db table.tree) = a.distinct ∙ ap (map (output q)) (a.grouped ∙ flat_map_single (λ r. [] ∷ r ∷ []) (db table.tree)) ∙ map-map (output q) (λ r. [] ∷ r ∷ []) (db table.tree) in
      let seen : map (λ (o : Output). o.1) a.kept ≡ rows_in table db =
      ap (map (λ (o : Output). o.1)) kept ∙ map-map (λ (o : Output). o.1) out (db table.tree) ∙ ap (λ (f : Row → Row). map f (db table.tree)) shows in
      let outs : All IsOut a.ordered = All-permutation IsOut a.kept a.ordered a.same (subst (All IsOut) (sym kept) (All-map IsOut out (db table.tree) (λ i d low. (_, refl)))) in
      let xs = map (λ (o : Output). o.1) a.ordered in
      let sorted = rows_sorted order q IsOut step a.ordered outs a.sorted in
      let all : IsPermutation (rows_in table db) xs = subst (λ ys. IsPermutation ys xs) seen (IsPermutation-map (λ (o : Output). o.1) a.kept a.ordered a.same) in
      let given : xs ≡ rows = sym a.shown in
      subst (AreAllBy order table db) given (record { all = all; sorted = sorted })

pub shown_unchanged : (sql : List ℕ) (params : Row) (old new : State) (rows : List Row) → IsPlain (understood old.now.schema sql) → Shown sql params old new rows → IsUnchanged old new
unfolding Shown
shown_unchanged sql params old new rows plain h =
    let none = (subst IsPlain h.1.is plain).0 in
    (subst (ShowsRows old new sql h.0 (timed params h.0.formats h.1.now) rows) none h.2).3

pub on_ok : {T E P : Type 0} (r : Result T E) → P → OnOk r P
on_ok (Ok x) p = p
on_ok (Err e) p = tt

-- a row of an answer is one of the table
pub other_in : (IsGood : Row → Type 0) {order : Row → Row → Ordering} (table : Table) (trees : Trees) (rows : List Row) → AreAllBy order table trees rows → HasOther IsGood rows → HasOther IsGood (rows_in table trees)
other_in IsGood table trees rows all it = (it.0, Contains-permutation rows (rows_in table trees) it.0 (IsPermutation-sym _ _ all.all) it.1, it.2)

pub not_store : (fault : CompileError) (cause : StoreError) → SqlInputError fault ≡ store_error cause → ⊥
not_store fault failure.OutOfMemory e = cc
not_store fault failure.Io e = cc
not_store fault failure.Corrupt e = cc
not_store fault failure.Full e = cc
not_store fault failure.Broken e = cc
not_store fault failure.Unstorable e = cc

pub no_input : (text : List ℕ) (params : Row) (old new : State) (q : Program) (names : List (List ℕ)) (fault : CompileError)
    → command_of (understood old.now.schema text) ≡ Select q names → IsPlain (understood old.now.schema text) → FailsToQuery text params old new (SqlInputError fault) → ⊥
unfolding FailsToQuery IsNotRun
no_input text params old new q names fault is plain (inl (inl refused)) = elim refused.0 [
  | inl bad ↦ let e = rw bad.1 at is in cc
  | inr good ↦ elim good.2 [
    | inl many ↦ let e = many.1 in cc
    | inr other ↦ elim other [ inl count ↦ let e = count.1 in cc | inr clock ↦ let e = clock.1 in cc ]
  ]
]
no_input text params old new q names fault is plain (inl (inr failed)) = not_store fault failed.0 failed.1
no_input text params old new q names fault is plain (inr ran) =
    let none = (subst IsPlain ran.1.is plain).0 in
    let full = timed params ran.0.formats ran.1.now in
    let it = subst (FailsToShow old new text ran.0 full (SqlInputError fault)) none ran.2 in
    let select : ran.0.command ≡ Select q names = sym (ap command_of ran.1.is) ∙ is in
    let why = subst (λ k. RefusesToRead old.step_limit k it.0 full (SqlInputError fault)) select it.2 in
    elim why [
      | inl mismatch ↦ let e = mismatch.0 in cc
      | inr more ↦ elim more [ inl over ↦ let e = over.0 in cc | inr limit ↦ let e = limit.0 in cc ]
    ]

-- the whole of a table, by a text that is written out
module _ (keys : List (Term × Key)) (order : Row → Row → Ordering) (schema : Schema) (text : List ℕ) (table : Table) (project : List Term) (names : List (List ℕ))
    (shows : (λ (r : Row). eval_all project ([] ∷ r ∷ [])) ≡ cells table) (sorts : Sorts keys project order)
    (is : command_of (understood schema text) ≡ Select (record { lets = []; body = scan_by keys table.tree project }) names) (unlisted : reads_listing schema text ≡ false)
    (plain : IsPlain (understood schema text)) (low : (db : Trees) → overlay db [] table.tree ≡ db table.tree)
    (old new : State) (has : old.now.schema ≡ schema) where
  plain_now : IsPlain (understood old.now.schema text)
  plain_now = subst (λ s. IsPlain (understood s text)) (sym has) plain

  pub reads_all : (rows : List Row) → Shown text [] old new rows → AreAllBy order table old.now.trees rows
  reads_all rows h =
      let read = reads_as text [] old new schema has (Select (record { lets = []; body = scan_by keys table.tree project }) names) is plain unlisted rows h in
      let it = scanned keys order table project shows sorts (overlay old.now.trees []) rows (read.answer Null) in
      record { all = subst (λ rs. IsPermutation (map (cells table) rs) rows) (low old.now.trees) it.all; sorted = it.sorted }

  pub reads_unchanged : (rows : List Row) → Shown text [] old new rows → IsUnchanged old new
  reads_unchanged rows h = shown_unchanged text [] old new rows plain_now h

  -- the text itself is not refused
  pub reads_input : (fault : CompileError) → FailsToQuery text [] old new (SqlInputError fault) → ⊥
  reads_input fault h = no_input text [] old new (record { lets = []; body = scan_by keys table.tree project }) names fault (ap (λ s. command_of (understood s text)) has ∙ is) plain_now h
