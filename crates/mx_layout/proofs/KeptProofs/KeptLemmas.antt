-- The law of a table from what is computed of it, for every table alike.
use Rattle.std.proofs.Common.{◌≡◌, ◌⊎◌, inl, inr, ℕ, zero, suc, length, drop, Bool, true, false, List, [], ◌∷◌, map, slice_get, Option, Some, None, Result, Ok, Err, sym, ap, subst, refl, ◌∙◌, ◌++◌, arith}
use Rattle.std.specs.Prelude.{All, Contains, IsSorted, pos}
use Rattle.std.specs.List.{range_with_len}
use Rattle.std.specs.declared.cmp.Ordering.{Ordering}
use Rattle.sqlite.specs.Order.{Row, column}
use Rattle.sqlite.specs.Table.{Table}
use Rattle.sqlite.specs.Schema.{Schema}
use Rattle.sqlite.specs.Term.{Term, lit, col, eval_all}
use Rattle.sqlite.specs.declared.types.Value.TheVariants.{Null, Int}
use Rattle.sqlite_schema.specs.declared.schema.Column.{Column}
use Rattle.sqlite_schema.specs.declared.schema.Index.{Index}
use Rattle.sqlite_value.specs.declared.keys.Key.{Key}
use Rattle.sqlite.specs.Tree.{Trees}
use Rattle.sqlite.specs.Edit.{next_rowid}
use Rattle.sqlite.specs.Source.TheVariants.{Values}
use Rattle.sqlite.specs.Command.{Command}
use Rattle.sqlite.specs.Command.TheVariants.{Insert, Select}
use Rattle.sqlite.specs.Listing.{understood, reads_listing}
use Rattle.sqlite.specs.Program.{overlay}
use Rattle.sqlite.proofs.Callers.{IsPlain, command_of}
use Rattle.sqlite_resolve.specs.declared.compiled.Compiled.{Compiled}
use Rattle.sqlite_resolve.specs.declared.error.CompileError.{CompileError}
use Rattle.mx_layout.specs.Contents.{cells}
use Rattle.mx_layout.specs.Names.{table_named}
use Rattle.mx_layout.specs.Reading.{by_first, by_two, by_four}
use Rattle.mx_layout.proofs.ReadLemmas.{first_key, two_keys, four_keys, sorts_by_first, sorts_by_two, sorts_by_four}
use Rattle.mx_layout.specs.Plans.{scan_by, Sorts, added, uncounted}
use Rattle.mx_base.specs.rows.Rising.{IsFrom}
use Rattle.mx_layout.proofs.KeptProofs.OrderLemmas.{first_ascends}
use Rattle.mx_layout.specs.kept.Kept.{Kept, over}
use Rattle.mx_layout.specs.kept.Family.{IsReadable, IsReadableAs}
use Rattle.mx_layout.specs.kept.Meanings.{MeansAll, MeansAdded, IsLawful}
use Rattle.mx_layout.specs.kept.Schemas.{HasBehind, permanent}

-- the places of a row from one on, one for each column
abbrev pub places_from : ℕ → ℕ → List Column → List Term
places_from source at [] = []
places_from source at (c ∷ cs) = col source at ∷ places_from source (suc at) cs

-- how the rows of a table are sorted, by which terms they are shown, where the key is in a stored row, and by which terms an insert takes values
pub record Shape : Type 0 where
  pub keys : List (Term × Key)
  pub order : Row → Row → Ordering
  pub shown : List Term
  pub key_places : List ℕ
  pub added : List Term

-- ── tables whose first column is the rowid ──

-- the terms by which a stored row is shown
abbrev pub shown_terms : Table → List Term
shown_terms table = col 1 0 ∷ places_from 1 2 (drop 1 table.columns)

-- the row behind its rowid, as it is stored
abbrev pub stored_row : Row → Row
stored_row [] = []
stored_row (v ∷ vs) = v ∷ Null ∷ vs

abbrev pub one_shape : Table → Shape
one_shape table = record { keys = first_key; order = by_first; shown = shown_terms table; key_places = 0 ∷ []; added = col 0 0 ∷ lit Null ∷ places_from 0 1 (drop 1 table.columns) }

-- ── tables whose rows are stored behind a rowid ──

abbrev pub behind_terms : Table → List Term
behind_terms table = places_from 1 1 table.columns

abbrev pub two_shape : Table → Shape
two_shape table = record { keys = two_keys; order = by_two; shown = behind_terms table; key_places = 1 ∷ 2 ∷ []; added = lit Null ∷ places_from 0 0 table.columns }

abbrev pub four_shape : Table → Shape
four_shape table = record (two_shape table) { keys = four_keys; order = by_four; key_places = 1 ∷ 2 ∷ 3 ∷ 4 ∷ [] }

-- ── the law of a table, from what is computed of it ──

-- there is none, and no item
abbrev are_none : {R F : Type 0} → Option R → List F → Bool
are_none None [] = true
are_none _ _ = false

none_are : {R F : Type 0} (o : Option R) (fs : List F) → are_none o fs ≡ true → (o ≡ None) × (fs ≡ [])
none_are None [] e = (refl, refl)
none_are None (f ∷ fs) e = absurd cc
none_are (Some r) fs e = absurd cc

-- whether a text that was understood has no RETURNING, and does not read the time
abbrev pub is_plain : Result Compiled CompileError → Bool
is_plain (Ok c) = are_none c.returning c.formats
is_plain (Err e) = false

plain_is : (r : Result Compiled CompileError) → is_plain r ≡ true → IsPlain r
plain_is (Ok c) plain = none_are c.returning c.formats plain
plain_is (Err e) plain = absurd cc

-- what can be computed of a table where it stands, of its two texts, and of its rows
pub record Facts (X : Type 0) : Type 1 where
  pub there : Option Table
  pub uncounted : Table
  pub rows : Trees → List Row
  pub order : Row → Row → Ordering
  pub select : Command
  pub lists : Bool
  pub select_plain : Bool
  pub insert : Command
  pub insert_plain : Bool
  pub shown : Row → Row
  pub sorted : Row → Row
  pub stored : Trees → X → Row
  pub key : X → ℕ
  pub readable : Row → Type 0

-- what is found at a place behind the permanent tables and these, of a table of that shape
abbrev pub found : {X : Type 0} → Kept X → Shape → (Trees → X → Row) → List Table → ℕ → List Table → List Index → Facts X
found k shape stored own at rest more =
    let schema = permanent (own ++ rest) more in
    let table = table_named k.name in
    record {
      there = slice_get schema.tables at;
      uncounted = uncounted table;
      rows = λ db. overlay db [] table.tree;
      order = k.order;
      select = command_of (understood schema k.select);
      lists = reads_listing schema k.select;
      select_plain = is_plain (understood schema k.select);
      insert = command_of (understood schema k.insert);
      insert_plain = is_plain (understood schema k.insert);
      shown = λ r. eval_all shape.shown ([] ∷ r ∷ []);
      sorted = λ r. map (λ at. column (eval_all shape.shown ([] ∷ r ∷ [])) at) (range_with_len 0 (length shape.key_places));
      stored = λ db x. cells table (stored db x);
      key = λ x. k.cells_key (k.as_cells x);
      readable = IsReadable k.name;
    }

-- what has to be found
abbrev pub wanted : {X : Type 0} → Kept X → Shape → ℕ → Facts X
wanted k shape at =
    let table = table_named k.name in
    record {
      there = Some table;
      uncounted = table;
      rows = λ db. db table.tree;
      order = shape.order;
      select = Select (record { lets = []; body = scan_by shape.keys table.tree shape.shown }) (map (λ (c : Column). c.name) table.columns);
      lists = false;
      select_plain = true;
      insert = Insert at (Values shape.added (suc (length table.columns)));
      insert_plain = true;
      shown = cells table;
      sorted = λ r. map (column r) shape.key_places;
      stored = λ _. k.as_cells;
      key = k.key;
      readable = IsReadableAs k;
    }

-- what is found is what has to be, whatever other tables there are
abbrev pub Computes : {X : Type 0} → Kept X → Shape → (Trees → X → Row) → List Table → ℕ → Type 1
Computes k shape stored own at = (rest : List Table) (more : List Index) → found k shape stored own at rest more ≡ wanted k shape at

-- an insert stores a row as this
abbrev pub Stores : {X : Type 0} → Kept X → Shape → (Trees → X → Row) → Type 0
Stores {X} k shape stored =
    let table = table_named k.name in
    (x : X) (db : Trees) → (added db table shape.added (suc (length table.columns)) (k.as_cells x)).news ≡ stored db x ∷ []

-- the values of a row tell it from each other one that fits
pub record TellsApart {X : Type 0} (k : Kept X) : Type 0 where
  pub once : (a b : X) → k.Fits a → k.Fits b → k.as_cells a ≡ k.as_cells b → a ≡ b

-- rows in the order of their table ascend by their keys
abbrev pub Ascends : {X : Type 0} → Kept X → (Row → Row → Ordering) → Type 0
Ascends {X} k order = (xs : List X) → All k.Fits xs → IsSorted order (map k.as_cells xs) → IsFrom k.key 0 xs

-- what is found at a place is contained
get_contains : {X : Type 0} (xs : List X) (at : ℕ) (x : X) → slice_get xs at ≡ Some x → Contains xs x
get_contains [] at x is = cc
get_contains (y ∷ ys) zero x is = (0, omega arith, cc)
get_contains (y ∷ ys) (suc at) x is = let below = get_contains ys at x is in let low = below.1 in (suc below.0, omega arith, below.2)

-- a row that can be had back from its values is told apart by them
pub told_apart : {X : Type 0} {k : Kept X} (back : Row → X) → ((x : X) → back (k.as_cells x) ≡ x) → TellsApart k
told_apart back same = record { once = λ a b _ _ e. sym (same a) ∙ ap back e ∙ same b }

module _ {X : Type 0} (k : Kept X) (own : List Table) (at : ℕ) where
  abbrev table : Table
  table = table_named k.name

  -- how a row is stored whose first column is the rowid, and one behind a rowid
  abbrev one_stored : Trees → X → Row
  one_stored db x = stored_row (k.as_cells x)

  abbrev two_stored : Trees → X → Row
  two_stored db x = Int (next_rowid (db table.tree)) ∷ k.as_cells x

  -- the law of a table of that shape
  by_shape : (shape : Shape) (stored : Trees → X → Row) → Computes k shape stored own at → Sorts shape.keys shape.shown shape.order → Stores k shape stored → TellsApart k → Ascends k shape.order → IsLawful (over k (HasBehind own))
  by_shape shape stored computes sorts stores once ascends = record {
    there = λ schema has. (let facts = computes has.rest has.more in
        subst (λ (s : Schema). Contains s.tables table) (sym has.is) (get_contains (permanent (own ++ has.rest) has.more).tables at table (ap (λ f. f.there) facts)));
    shows = λ schema has. (let facts = computes has.rest has.more in
        subst (λ s. MeansAll s k.select table k.order) (sym has.is) (subst (MeansAll (permanent (own ++ has.rest) has.more) k.select table) (sym (ap (λ f. f.order) facts)) (record {
          keys = shape.keys;
          project = shape.shown;
          names = map (λ (c : Column). c.name) table.columns;
          is = ap (λ f. f.select) facts;
          unlisted = ap (λ f. f.lists) facts;
          plain = plain_is _ (ap (λ f. f.select_plain) facts);
          shows = ap (λ f. f.shown) facts;
          sorts = sorts;
          low = λ db. ap (λ f. f.rows db) facts;
        })));
    adds = λ schema has x. (let facts = computes has.rest has.more in
        subst (λ s. MeansAdded s k.insert table (k.as_cells x)) (sym has.is) (record {
          at = at;
          terms = shape.added;
          width = suc (length table.columns);
          stored = λ db. stored db x;
          same = ap (λ f. f.uncounted) facts;
          there = ap (λ f. f.there) facts;
          is = ap (λ f. f.insert) facts;
          plain = plain_is _ (ap (λ f. f.insert_plain) facts);
          news = stores x;
          shown = λ db. ap (λ f. f.stored db x) facts;
        }));
    once = once.once;
    tells = λ row readable. subst (λ (P : Row → Type 0). P row) (ap (λ f. f.readable) (computes [] [])) readable;
    keyed = λ x. sym (ap (λ f. f.key x) (computes [] []));
    in_order = subst (λ o. Ascends k o) (sym (ap (λ f. f.order) (computes [] []))) ascends;
  }

  -- the first column is the rowid
  pub first_keyed : Computes k (one_shape table) one_stored own at → Stores k (one_shape table) one_stored → ((x : X) → column (k.as_cells x) 0 ≡ Int (pos (k.key x))) → TellsApart k → IsLawful (over k (HasBehind own))
  first_keyed computes stores first once =
      let sorts = sorts_by_first (shown_terms table) (λ r. sym (ap (λ f. column (f.sorted r) 0) (computes [] []))) in
      by_shape (one_shape table) one_stored computes sorts stores once (first_ascends k.as_cells k.Fits k.key first)

  -- the key is the first two columns, and a row is stored behind a rowid of its own
  pub two_keyed : Computes k (two_shape table) two_stored own at → Stores k (two_shape table) two_stored → Ascends k by_two → TellsApart k → IsLawful (over k (HasBehind own))
  two_keyed computes stores ascends once =
      let sorts = sorts_by_two (behind_terms table) (λ r. sym (ap (λ f. column (f.sorted r) 0) (computes [] []))) (λ r. sym (ap (λ f. column (f.sorted r) 1) (computes [] []))) in
      by_shape (two_shape table) two_stored computes sorts stores once ascends

  -- the key is the first four columns, and a row is stored behind a rowid of its own
  pub four_keyed : Computes k (four_shape table) two_stored own at → Stores k (four_shape table) two_stored → Ascends k by_four → TellsApart k → IsLawful (over k (HasBehind own))
  four_keyed computes stores ascends once =
      let sorts = sorts_by_four (behind_terms table) (λ r. sym (ap (λ f. column (f.sorted r) 0) (computes [] []))) (λ r. sym (ap (λ f. column (f.sorted r) 1) (computes [] [])))
      (λ r. sym (ap (λ f. column (f.sorted r) 2) (computes [] []))) (λ r. sym (ap (λ f. column (f.sorted r) 3) (computes [] []))) in
      by_shape (four_shape table) two_stored computes sorts stores once ascends

-- a table that stands at one place in some schemas, and at another in others
pub either_lawful : {X : Type 0} (k : Kept X) (P Q : Schema → Type 0) → IsLawful (over k P) → IsLawful (over k Q) → IsLawful (over k (λ s. P s ⊎ Q s))
either_lawful k P Q a b = record {
  there = λ schema h. elim h [ inl one ↦ a.there schema one | inr other ↦ b.there schema other ];
  shows = λ schema h. elim h [ inl one ↦ a.shows schema one | inr other ↦ b.shows schema other ];
  adds = λ schema h x. elim h [ inl one ↦ a.adds schema one x | inr other ↦ b.adds schema other x ];
  once = a.once;
  tells = a.tells;
  keyed = a.keyed;
  in_order = a.in_order;
}
