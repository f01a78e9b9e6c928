-- Which rows are the last bases of a book, by a map of the tasks of items that have rows.
use Rattle.std.proofs.Common.{refl, sym, ap, subst, ◌∙◌, ◌≡◌, ℕ, List, [], ◌∷◌, ◌++◌, length, Bool, true, false, ◌&&◌, Option, Some, None, arith, append_assoc, append-nil}
use Rattle.std.specs.Prelude.{IsPermutation}
use Rattle.std.specs.Bool.{Decides}
use Rattle.std.specs.BTreeMap.{BTreeMap, IsEmpty, Updates}
use Rattle.std.specs.List.{list_all}
use Rattle.std.specs.Option.{option_map_or}
use Rattle.mx_base.specs.declared.rows.rows.BaseRow.{BaseRow}
use Rattle.mx_base.specs.declared.rows.rows.OpeningRow.{OpeningRow}
use Rattle.mx_base.specs.declared.rows.rows.ReleaseLineRow.{ReleaseLineRow}
use Rattle.mx_book.specs.commands.Act.{Entry}
use Rattle.mx_book.specs.Book.{IsBook}
use Rattle.mx_registers.specs.Registers.{opening_rows, release_line_rows}
use Rattle.mx_registers.specs.kept.Bases.{AreKeyedOnce, base_rows}
use Rattle.mx_indexed_book.specs.maps.Maps.{held}
use Rattle.mx_indexed_book.specs.moments.Done.{task_cmp}
use Rattle.mx_verify.specs.merged.Keys.{AreKeys}
use Rattle.mx_verify.proofs.MergedProofs.KeyLemmas.{keys_more, keys_of_none}
use Rattle.mx_verify.specs.verified.Bases.{has_certified, has_stated}
use Rattle.mx_registers.specs.file.Bases.{has_key, is_certified_in, is_last_base, is_stated_in}
use Rattle.mx_registers.proofs.FileProofs.BaseLemmas.{decided, once_apart, once_if, once_more}

-- the rows so far have distinct keys, which the map has
pub record Keeps (rows rest : List BaseRow) (keys : BTreeMap (ℕ × List ℕ) Bool) : Type 0 where
  pub before : List BaseRow
  pub rows_are : rows ≡ before ++ rest
  pub once : AreKeyedOnce before
  pub keys_are : AreKeys before keys

pub starts : (rows : List BaseRow) (keys : BTreeMap (ℕ × List ℕ) Bool) → IsEmpty keys → Keeps rows rows keys
starts rows keys empty = record { before = []; rows_are = refl; once = tt; keys_are = keys_of_none keys empty }

-- a row of another key
pub goes_on : (rows rest later : List BaseRow) (row : BaseRow) (keys more : BTreeMap (ℕ × List ℕ) Bool) → rest ≡ row ∷ later → held task_cmp false keys (row.item, row.task) ≡ false → Updates task_cmp keys more (row.item, row.task) (Some true) → Keeps rows rest keys → Keeps rows later more
goes_on rows rest later row keys more is apart updates k = record {
  before = k.before ++ row ∷ [];
  rows_are = k.rows_are ∙ ap (λ xs. k.before ++ xs) is ∙ sym (append_assoc k.before (row ∷ []) later);
  once = once_more k.before row k.once (sym (k.keys_are row.item row.task) ∙ apart);
  keys_are = keys_more k.before row keys more updates k.keys_are;
}

-- a row of the key of one before it
pub repeats : (rows rest later : List BaseRow) (row : BaseRow) (keys : BTreeMap (ℕ × List ℕ) Bool) → rest ≡ row ∷ later → held task_cmp false keys (row.item, row.task) ≡ true → Keeps rows rest keys → AreKeyedOnce rows → ⊥
repeats rows rest later row keys is has k once =
    let apart = once_apart k.before row later (subst AreKeyedOnce (k.rows_are ∙ ap (λ xs. k.before ++ xs) is) once) in
    let e : true ≡ false = sym has ∙ k.keys_are row.item row.task ∙ apart in
    no e
  where
    no : true ≡ false → ⊥
    no e = (cc)

no_rows : (rows : List BaseRow) → length rows ≡ 0 → rows ≡ []
no_rows [] h = refl
no_rows (row ∷ rows) h = absurd (omega arith)

-- behind the last row the map has the keys of all
pub ends : (rows rest : List BaseRow) (keys : BTreeMap (ℕ × List ℕ) Bool) → length rest ≡ 0 → Keeps rows rest keys → AreKeyedOnce rows × AreKeys rows keys
ends rows rest keys none k =
    let all : k.before ≡ rows = sym (k.rows_are ∙ ap (λ xs. k.before ++ xs) (no_rows rest none) ∙ append-nil k.before) in
    (subst AreKeyedOnce all k.once, λ number id. k.keys_are number id ∙ ap (has_key number id) all)

-- a map that has the keys of rows tells which tasks have a row
pub stated_alike : (rows : List BaseRow) (keys : BTreeMap (ℕ × List ℕ) Bool) → AreKeys rows keys → (openings : List OpeningRow) → list_all (has_stated keys) openings ≡ list_all (is_stated_in rows) openings
stated_alike rows keys are [] = refl
stated_alike rows keys are (row ∷ openings) =
    ap (λ c. c && list_all (has_stated keys) openings) (are row.item row.task) ∙ ap (λ c. is_stated_in rows row && c) (stated_alike rows keys are openings)

pub certified_alike : (rows : List BaseRow) (keys : BTreeMap (ℕ × List ℕ) Bool) → AreKeys rows keys → (lines : List ReleaseLineRow) → list_all (has_certified keys) lines ≡ list_all (is_certified_in rows) lines
certified_alike rows keys are [] = refl
certified_alike rows keys are (row ∷ lines) =
    ap (λ c. c && list_all (has_certified keys) lines) (at row.item row.task) ∙ ap (λ c. is_certified_in rows row && c) (certified_alike rows keys are lines)
  where
    at : (item : Option ℕ) (task : Option (List ℕ)) → option_map_or (λ i. option_map_or (λ t. held task_cmp false keys (i, t)) task true) item true ≡ option_map_or (λ i. option_map_or (λ t. has_key i t rows) task true) item true
    at None task = refl
    at (Some i) None = refl
    at (Some i) (Some t) = are i t

and_assoc : (a b c : Bool) → (a && b) && c ≡ a && (b && c)
and_assoc true b c = refl
and_assoc false b c = refl

-- rows of distinct keys, which a map has, are the last bases of a book exactly where each is right and the map has each task that its openings and lines say
pub tells : (book : List Entry) → IsBook book → (openings : List OpeningRow) (lines : List ReleaseLineRow) (rows : List BaseRow) (keys : BTreeMap (ℕ × List ℕ) Bool) → openings ≡ opening_rows book → lines ≡ release_line_rows book → AreKeyedOnce rows → AreKeys rows keys
    → Decides ((list_all (is_last_base book) rows && list_all (has_stated keys) openings) && list_all (has_certified keys) lines) (IsPermutation rows (base_rows book))
tells book b openings lines rows keys o l once are =
    let same : (list_all (is_last_base book) rows && list_all (has_stated keys) openings) && list_all (has_certified keys) lines ≡ list_all (is_last_base book) rows && (list_all (is_stated_in rows) (opening_rows book) && list_all (is_certified_in rows) (release_line_rows book)) =
    and_assoc (list_all (is_last_base book) rows) (list_all (has_stated keys) openings) (list_all (has_certified keys) lines)
    ∙ ap (λ c. list_all (is_last_base book) rows && (c && list_all (has_certified keys) lines)) (stated_alike rows keys are openings ∙ ap (list_all (is_stated_in rows)) o)
    ∙ ap (λ c. list_all (is_last_base book) rows && (list_all (is_stated_in rows) (opening_rows book) && c)) (certified_alike rows keys are lines ∙ ap (list_all (is_certified_in rows)) l) in
    subst (λ (c : Bool). Decides c (IsPermutation rows (base_rows book))) (sym same) (decided book b rows once)

-- rows of which two have one key are not the last bases
pub tells_not : (book : List Entry) → IsBook book → (rows : List BaseRow) → (AreKeyedOnce rows → ⊥) → Decides false (IsPermutation rows (base_rows book))
tells_not book b rows twice = (λ e. absurd (no e), λ same. absurd (twice (once_if book b rows same)))
  where
    no : false ≡ true → ⊥
    no e = (cc)
