-- A map of the tasks of items that have rows.
use Rattle.std.proofs.Common.{refl, sym, ap, ◌∙◌, ◌≡◌, ℕ, List, [], ◌∷◌, ◌++◌, Bool, true, false, cond, ◌||◌, Option, Some, None}
use Rattle.std.specs.Prelude.{unwrap_or}
use Rattle.std.specs.BTreeMap.{BTreeMap, get, is_at, IsEmpty, Updates}
use Rattle.std.specs.Map.{lookup}
use Rattle.std.specs.Ordering.{is_eq}
use Rattle.std.proofs.lemmas.List.Folds.{list_any-append}
use Rattle.mx_base.specs.declared.rows.rows.BaseRow.{BaseRow}
use Rattle.mx_registers.specs.kept.Bases.{is_keyed}
use Rattle.mx_indexed_book.specs.moments.Done.{task_cmp}
use Rattle.mx_indexed_book.proofs.MomentsProofs.WalkLemmas.{tie_task}
use Rattle.mx_verify.specs.merged.Keys.{AreKeys}

-- a map behind the key of one row more has the keys of the rows with it
pub keys_more : (rows : List BaseRow) (row : BaseRow) (keys more : BTreeMap (ℕ × List ℕ) Bool) → Updates task_cmp keys more (row.item, row.task) (Some true) → AreKeys rows keys → AreKeys (rows ++ row ∷ []) more
keys_more rows row keys more updates are = λ number id.
    ap (λ o. unwrap_or o false) (updates.0 (number, id))
    ∙ put (is_eq (task_cmp (row.item, row.task) (number, id))) (get task_cmp keys (number, id))
    ∙ ap (λ c. unwrap_or (get task_cmp keys (number, id)) false || c) (tie_task row.item row.task number id ∙ sym (or_false (is_keyed number id row)))
    ∙ ap (λ c. c || (is_keyed number id row || false)) (are number id)
    ∙ sym (list_any-append (is_keyed number id) rows (row ∷ []))
  where
    put : (c : Bool) (o : Option Bool) → unwrap_or (cond c (Some true) o) false ≡ unwrap_or o false || c
    put true None = refl
    put true (Some true) = refl
    put true (Some false) = refl
    put false None = refl
    put false (Some true) = refl
    put false (Some false) = refl

    or_false : (c : Bool) → c || false ≡ c
    or_false true = refl
    or_false false = refl

-- an empty map has the keys of no rows
pub keys_of_none : (keys : BTreeMap (ℕ × List ℕ) Bool) → IsEmpty keys → AreKeys [] keys
keys_of_none keys empty = λ number id. ap (λ entries. unwrap_or (lookup (is_at (task_cmp (number, id))) entries) false) empty
