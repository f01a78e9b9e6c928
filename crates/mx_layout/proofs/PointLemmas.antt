-- The statement that reads office, and what its rows say.
use Rattle.std.proofs.Common.{◌≡◌, ◌⊎◌, inl, inr, ℕ, ◌^◌, List, [], ◌∷◌, length, slice_index_or, codes, false, Ok, Err, Result, refl, sym, ap, subst, ◌∙◌, arith}
use Rattle.std.specs.Prelude.{MatchResult, Contains}
use Rattle.std.proofs.lemmas.List.Sorted.{IsPermutation-sym, length_permutation}
use Rattle.sqlite.specs.Order.{Row, column}
use Rattle.sqlite.specs.Term.{Term, col}
use Rattle.sqlite.specs.Tree.{Trees}
use Rattle.sqlite.specs.Command.TheVariants.{Select}
use Rattle.sqlite.specs.Listing.{understood, reads_listing}
use Rattle.sqlite.proofs.Callers.{IsPlain, command_of, one_permutation}
use Rattle.sqlite_tied.specs.Compute.{everything}
use Rattle.sqlite.specs.State.{State, Shown, IsUnchanged, FailsToQuery}
use Rattle.sqlite.specs.declared.error.Error.TheVariants.{SqlInputError}
use Rattle.sqlite_resolve.specs.declared.error.CompileError.{CompileError}
use Rattle.mx_base.specs.declared.point.Point.{Point}
use Rattle.mx_layout.specs.declared.fault.TableFault.{TableFault}
use Rattle.mx_layout.specs.Contents.{rows_in}
use Rattle.mx_layout.specs.Point.{point_cells, FitsPoint, IsPoint, HoldsBelow, IsStop, IsNoPoint, ReadsPoint, ReadsExactly, point_text}
use Rattle.mx_layout.specs.Reading.{AreAll, by_first}
use Rattle.mx_layout.specs.Tables.{office, HasOffice}
use Rattle.sqlite.specs.Schema.{Schema}
use Rattle.sqlite.specs.Table.{Table}
use Rattle.sqlite_schema.specs.declared.schema.Index.{Index}
use Rattle.sqlite_schema.specs.declared.schema.View.{View}
use Rattle.mx_layout.proofs.ReadLemmas.{scan, first_key, sorts_by_first, reads_all, reads_unchanged, reads_input, other_in}
use Rattle.mx_layout.specs.Plans.{Sorts}

abbrev pub project : List Term
project = col 1 0 ∷ col 1 2 ∷ col 1 3 ∷ col 1 4 ∷ []

abbrev pub names : List (List ℕ)
names = codes "id" ∷ codes "layout" ∷ codes "step" ∷ codes "mark" ∷ []

-- a schema whose first table is office
abbrev pub with_office : List Table → List Index → List View → Schema
with_office rest indexes views = record { tables = office ∷ rest; indexes = indexes; views = views }

pub is_with_office : (schema : Schema) (has : HasOffice schema) → schema ≡ with_office has.0 schema.indexes schema.views
is_with_office schema has = ap (λ ts. let it : Schema = record schema { tables = ts } in it) has.1

select_is : (rest : List Table) (indexes : List Index) (views : List View) → let schema = with_office rest indexes views in
    (command_of (understood schema point_text) ≡ Select (record { lets = []; body = scan 0 project }) names) × (reads_listing schema point_text ≡ false) × IsPlain (understood schema point_text)
unfolding understood everything
select_is rest indexes views = (refl, refl, (refl, refl))

module _ (old new : State) (has : HasOffice old.now.schema) where
  abbrev schema : Schema
  schema = with_office has.0 old.now.schema.indexes old.now.schema.views

  means : (command_of (understood schema point_text) ≡ Select (record { lets = []; body = scan 0 project }) names) × (reads_listing schema point_text ≡ false) × IsPlain (understood schema point_text)
  means = select_is has.0 old.now.schema.indexes old.now.schema.views

  sorts : Sorts first_key project by_first
  sorts = sorts_by_first project (λ _. refl)

  pub office_rows : (rows : List Row) → Shown point_text [] old new rows → AreAll office old.now.trees rows
  office_rows = reads_all first_key by_first schema point_text office project names refl sorts means.0 means.1 means.2 (λ _. refl) old new (is_with_office old.now.schema has)

  pub office_same : (rows : List Row) → Shown point_text [] old new rows → IsUnchanged old new
  office_same = reads_unchanged first_key by_first schema point_text office project names refl sorts means.0 means.1 means.2 (λ _. refl) old new (is_with_office old.now.schema has)

  pub office_input : (fault : CompileError) → FailsToQuery point_text [] old new (SqlInputError fault) → ⊥
  office_input = reads_input first_key by_first schema point_text office project names refl sorts means.0 means.1 means.2 (λ _. refl) old new (is_with_office old.now.schema has)

-- one row is the table
only_row : (trees : Trees) (row : Row) → AreAll office trees (row ∷ []) → rows_in office trees ≡ row ∷ []
only_row trees row all = one_permutation row (rows_in office trees) (IsPermutation-sym _ _ all.all)

same_count : (trees : Trees) (rows : List Row) → AreAll office trees rows → length rows ≡ length (rows_in office trees)
same_count trees rows all = length_permutation (rows_in office trees) rows all.all

-- what was found of the rows of an answer is so of those of the table
no_point_in : (trees : Trees) (rows : List Row) → AreAll office trees rows → (fault : TableFault) → IsNoPoint rows fault → IsNoPoint (rows_in office trees) fault
no_point_in trees rows all fault (inl none) = inl (none.0, λ one. none.1 (same_count trees rows all ∙ one))
no_point_in trees rows all fault (inr bad) = inr (bad.0, sym (same_count trees rows all) ∙ bad.1, other_in IsPoint office trees rows all bad.2)

pub reads_point : (trees : Trees) (rows : List Row) → AreAll office trees rows → (r : Result Point TableFault) → MatchResult r (λ p. rows ≡ point_cells p ∷ []) (IsNoPoint rows) → ReadsPoint (rows_in office trees) r
reads_point trees rows all (Ok p) is = only_row trees (point_cells p) (subst (AreAll office trees) is all)
reads_point trees rows all (Err fault) is = inr (no_point_in trees rows all fault is)

pub alone : (rows : List Row) (row : Row) → length rows ≡ 1 → row ≡ slice_index_or rows 0 row → rows ≡ row ∷ []
alone [] row h is = absurd (omega arith)
alone (a ∷ []) row h is = ap (λ r. r ∷ []) (sym is)
alone (a ∷ b ∷ more) row h is = absurd (omega arith)

same_head : {a b : Row} → ◌≡◌ {A = List Row} (a ∷ []) (b ∷ []) → a ≡ b
same_head e = cc

of_fields : (a b c d e f : ℕ) → a ≡ b → c ≡ d → e ≡ f → ◌≡◌ {A = Point} (record { layout = a; step = c; mark = e }) (record { layout = b; step = d; mark = f })
of_fields a b c d e f one two three = cc

contained : (one row : Row) → Contains (one ∷ []) row → row ≡ one
contained one row h = let at : h.0 ≡ 0 = omega arith in sym (rw at at h.2)

same_point : (p q : Point) → point_cells p ≡ point_cells q → p ≡ q
same_point p q e =
    let layout : p.layout ≡ q.layout = cc in
    let step : p.step ≡ q.step = cc in
    let mark : p.mark ≡ q.mark = cc in
    of_fields p.layout q.layout p.step q.step p.mark q.mark layout step mark

-- where the only row is a point, the answer is that point
pub reads_exactly : (rows : List Row) (p : Point) → FitsPoint p → rows ≡ point_cells p ∷ [] → (r : Result Point TableFault) → ReadsPoint rows r → ReadsExactly p r
reads_exactly rows p fits is (Ok q) read = same_point q p (same_head (sym read ∙ is))
reads_exactly rows p fits is (Err fault) (inl stop) = stop
reads_exactly rows p fits is (Err fault) (inr (inl none)) = absurd (none.1 (ap length is))
reads_exactly rows p fits is (Err fault) (inr (inr bad)) = absurd (bad.2.2 (p, fits, contained (point_cells p) bad.2.0 (subst (λ rs. Contains rs bad.2.0) is bad.2.1)))

pub no_layout : (values : Row) → ¬ HoldsBelow (2 ^ 8) (column values 1) → ¬ IsPoint values
no_layout values h it = h (it.0.layout, ap (λ x. column x 1) it.2, it.1.0)

pub no_step : (values : Row) → ¬ HoldsBelow (2 ^ 8) (column values 2) → ¬ IsPoint values
no_step values h it = h (it.0.step, ap (λ x. column x 2) it.2, it.1.1)

pub no_mark : (values : Row) → ¬ HoldsBelow (2 ^ 32) (column values 3) → ¬ IsPoint values
no_mark values h it = h (it.0.mark, ap (λ x. column x 3) it.2, it.1.2)

-- a call that answered found the connection open
pub open_either : {T : Type 0} {P : Type 0} (r : Result T TableFault) → P → MatchResult r (λ _. P) (λ fault. IsStop fault ⊎ P)
open_either (Ok x) p = p
open_either (Err e) p = inr p
