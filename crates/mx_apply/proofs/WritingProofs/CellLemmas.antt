-- Rows that are put in place of others, as cells of their table and as rows of its type.
use Rattle.std.proofs.Common.{◌≡◌, ◌==◌, ℕ, Bool, true, false, not, cond, ◌&&◌, List, [], ◌∷◌, map, filter, refl, ap, ◌∙◌}
use Rattle.std.specs.Prelude.{nat_eq}
use Rattle.std.proofs.lemmas.Map.Text.{is_eq-slice_cmp}
use Rattle.sqlite.specs.declared.types.Value.TheVariants.{Text}
use Rattle.sqlite.specs.Collation.TheVariants.{Binary}
use Rattle.sqlite.specs.Order.{Row}
use Rattle.sqlite_schema.specs.Rules.{equal}
use Rattle.mx_book.specs.commands.Same.{same_text}
use Rattle.mx_base.specs.declared.rows.rows.BaseRow.{BaseRow}
use Rattle.mx_registers.specs.kept.Bases.{base_put, bases_put, is_keyed}
use Rattle.mx_row_rules.specs.changes.Puts.{rows_put}
use Rattle.mx_layout.specs.TableName.{TableName}
use Rattle.mx_layout.specs.Names.{table_named}
use Rattle.mx_layout.specs.kept.Kept.{Kept}
use Rattle.mx_layout.specs.kept.Cells.{kept_base2}
use Rattle.mx_table_rows.proofs.ChosenProofs.EqualLemmas.{equal_numbers, equal_texts}
use Rattle.mx_apply.specs.writing.Changes.{all_in_place}
use Rattle.mx_apply.specs.writing.Written.{is_same_base}

module _ {X : Type 0} (k : Kept X) (replaced : X → Row → Bool) where
  abbrev left : X → Row → Bool
  left x row = not (replaced x row)

  abbrev placed : X → Bool → List Row → List Row
  placed x b rows = cond b (k.as_cells x ∷ cond b (filter (left x) rows) rows) (cond b (filter (left x) rows) rows)

  -- the rows of another table stay
  pub other_table : (xs : List X) (name : TableName) (rows : List Row) → ((table_named k.name).tree == (table_named name).tree) ≡ false → all_in_place k replaced xs name rows ≡ rows
  other_table [] name rows other = refl
  other_table (x ∷ xs) name rows other = ap (λ b. all_in_place k replaced xs name (placed x b rows)) other ∙ other_table xs name rows other

  -- in its own table, where the test of the statement is that of the rows
  module _ (same : X → X → Bool) (agree : (x y : X) → replaced x (k.as_cells y) ≡ same x y) where
    filter_cells : (x : X) (ys : List X) → filter (left x) (map k.as_cells ys) ≡ map k.as_cells (filter (λ other. not (same x other)) ys)
    filter_cells x [] = refl
    filter_cells x (y ∷ ys) =
        ap (λ c. cond (not c) (k.as_cells y ∷ filter (left x) (map k.as_cells ys)) (filter (left x) (map k.as_cells ys))) (agree x y)
        ∙ at (same x y) (filter_cells x ys)
      where
        at : (c : Bool) → filter (left x) (map k.as_cells ys) ≡ map k.as_cells (filter (λ other. not (same x other)) ys)
            → cond (not c) (k.as_cells y ∷ filter (left x) (map k.as_cells ys)) (filter (left x) (map k.as_cells ys))
            ≡ map k.as_cells (cond (not c) (y ∷ filter (λ other. not (same x other)) ys) (filter (λ other. not (same x other)) ys))
        at true rest = rest
        at false rest = ap (λ l. k.as_cells y ∷ l) rest

    pub own_table : (xs ys : List X) (name : TableName) → ((table_named k.name).tree == (table_named name).tree) ≡ true → all_in_place k replaced xs name (map k.as_cells ys) ≡ map k.as_cells (rows_put same xs ys)
    own_table [] ys name here = refl
    own_table (x ∷ xs) ys name here =
        ap (λ b. all_in_place k replaced xs name (placed x b (map k.as_cells ys))) here
        ∙ ap (λ l. all_in_place k replaced xs name (k.as_cells x ∷ l)) (filter_cells x ys)
        ∙ own_table xs (x ∷ filter (λ other. not (same x other)) ys) name here

-- ── last bases ──

-- another row is of the same task of the same item
abbrev pub is_of_same_task : BaseRow → BaseRow → Bool
is_of_same_task base other = is_keyed base.item base.task other

pub bases_put_are : (news rows : List BaseRow) → rows_put is_of_same_task news rows ≡ bases_put news rows
bases_put_are [] rows = refl
bases_put_are (base ∷ news) rows = bases_put_are news (base_put base rows)

text_is : (a b : List ℕ) → equal Binary (Text a) (Text b) ≡ same_text a b
text_is a b = equal_texts a b ∙ is_eq-slice_cmp a b

pub base_agrees : (base other : BaseRow) → is_same_base base (kept_base2.as_cells other) ≡ is_of_same_task base other
base_agrees base other =
    ap (λ c. c && equal Binary (Text other.task) (Text base.task)) (equal_numbers other.item base.item)
    ∙ ap (λ c. nat_eq other.item base.item && c) (text_is other.task base.task)
