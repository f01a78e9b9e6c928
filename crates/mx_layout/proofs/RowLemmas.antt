-- Rows that a write puts into a table.
use Rattle.std.proofs.Common.{◌≡◌, inl, inr, IsTrue, ℤ, List, [], ◌∷◌, map, Bool, true, false, ◌||◌, ◌&&◌, not, cond, refl, sym, subst}
use Rattle.std.specs.List.{AllByRecursion}
use Rattle.std.specs.declared.cmp.Ordering.{Ordering}
use Rattle.std.specs.declared.cmp.Ordering.TheVariants.{Less, Equal, Greater}
use Rattle.std.specs.Ordering.{is_eq, match_ordering}
use Rattle.std.specs.List.Sorted.{IsPermutation}
use Rattle.std.proofs.lemmas.List.Sorted.{IsPermutation-refl, IsPermutation-sym, IsPermutation-cons, IsPermutation-trans, IsPermutation-middle, IsPermutation-map}
use Rattle.sqlite.specs.declared.types.Value.{Value}
use Rattle.sqlite.specs.declared.types.Value.TheVariants.{Null, Int}
use Rattle.sqlite.specs.Order.{Row, value_cmp}
use Rattle.sqlite.specs.Ops.{unary}
use Rattle.sqlite.specs.Kind.TheVariants.{Integer}
use Rattle.sqlite.specs.Cast.{cast}
use Rattle.sqlite.specs.Tree.{rowid, put_row, IsTable}
use Rattle.sqlite.specs.View.{is_int}
use Rattle.sqlite_trees.proofs.TreeLemmas.{IsTable-put_row}
use Rattle.sqlite_rules.proofs.ListLemmas.{all_has, all_from}
use Rattle.sqlite_rules.proofs.TableLemmas.{put_has}
use Rattle.sqlite.specs.Edit.{is_taken, Applies}
use Rattle.sqlite.specs.Tree.{Trees}
use Rattle.sqlite.specs.Table.{Table}
use Rattle.sqlite.specs.Schema.{Schema}
use Rattle.sqlite_schema.specs.declared.schema.Keys.{Keys}
use Rattle.mx_layout.specs.Contents.{cells, rows_in, Adds, Rises}

either : (b : Bool) (x : Value) → cond b x x ≡ x
either true x = refl
either false x = refl

pub cast_null : cast Integer Null ≡ Null
unfolding unary
cast_null = either _ Null

pub cast_int : (n : ℤ) → cast Integer (Int n) ≡ Int n
unfolding unary
cast_int n = either _ (Int n)

placed : (new r : Row) (rs put : List Row) (rest : Bool) → (rest ≡ false → IsPermutation (new ∷ rs) put) → (o : Ordering) → (is_eq o || rest) ≡ false
    → IsPermutation (new ∷ r ∷ rs) (match_ordering o (r ∷ put) (new ∷ rs) (new ∷ r ∷ rs))
placed new r rs put rest later Less h =
    IsPermutation-trans (new ∷ r ∷ rs) (r ∷ new ∷ rs) (r ∷ put) (IsPermutation-sym _ _ (IsPermutation-middle (r ∷ []) new rs)) (IsPermutation-cons r (new ∷ rs) put (later h))
placed new r rs put rest later Equal h = absurd cc
placed new r rs put rest later Greater h = IsPermutation-refl _

-- a row whose rowid is free is added
pub put_fresh : (new : Row) (rows : List Row) → is_taken rows new ≡ false → IsPermutation (new ∷ rows) (put_row new rows)
put_fresh new [] h = IsPermutation-refl _
put_fresh new (r ∷ rs) h = placed new r rs (put_row new rs) (is_taken rs new) (put_fresh new rs) (value_cmp (rowid r) (rowid new)) h

free : (b : Bool) → (not b && true) ≡ true → b ≡ false
free true h = absurd cc
free false h = refl

and_true : (b : Bool) → (b && true) ≡ true → IsTrue b
and_true true h = refl
and_true false h = absurd cc

-- a row with a number for its rowid keeps the rowids rising
rises_put : (table : Table) (stored : Row) (db next : Trees) → IsTrue (is_int (rowid stored)) → next table.tree ≡ put_row stored (db table.tree) → Rises table db → Rises table next
rises_put table stored db next number rows rises = record {
  up = subst IsTable (sym rows) (IsTable-put_row stored (db table.tree) rises.up);
  numbers = subst (AllByRecursion (λ r. IsTrue (is_int (rowid r)))) (sym rows)
      (all_from _ (put_row stored (db table.tree)) (λ r h. elim (put_has stored (db table.tree) r h) [
        | inl same ↦ subst (λ x. IsTrue (is_int (rowid x))) (sym same) number
        | inr old ↦ all_has (λ x. IsTrue (is_int (rowid x))) (db table.tree) r rises.numbers old
      ]));
}

-- a write of one row alone
pub adds_one : (schema : Schema) (keys : Keys) (db next : Trees) (table : Table) (news : List Row) (stored : Row) → news ≡ stored ∷ []
    → Applies schema keys db (record { table = table; gone = []; news = news }) next → Adds schema.tables table (cells table stored) db next
adds_one schema keys db next table news stored is h =
    let a = subst (λ n. Applies schema keys db (record { table = table; gone = []; news = n }) next) is h in
    record {
      gained = subst (λ rows. IsPermutation (cells table stored ∷ rows_in table db) (map (cells table) rows)) (sym a.rows)
          (IsPermutation-map (cells table) (stored ∷ db table.tree) (put_row stored (db table.tree)) (put_fresh stored (db table.tree) (free (is_taken (db table.tree) stored) a.fresh)));
      others = a.tables;
      rises = rises_put table stored db next (and_true _ a.keyed) a.rows;
    }
