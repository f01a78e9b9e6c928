-- The plans of the two texts of a table: what shows all of its rows in an order, and what adds one.
use Rattle.std.specs.Prelude.{◌≡◌, ℕ, ◌/◌, negsuc, pos, List, [], ◌∷◌, length, false, None}
use Rattle.std.specs.declared.cmp.Ordering.{Ordering}
use Rattle.std.specs.Ordering.{is_lt}
use Rattle.sqlite.specs.declared.types.Value.TheVariants.{Int}
use Rattle.sqlite.specs.Edit.{Edit, edit_of}
use Rattle.sqlite.specs.Effect.{value_rows}
use Rattle.sqlite.specs.Order.{Row}
use Rattle.sqlite.specs.Query.{Query, inner, end, output, output_cmp}
use Rattle.sqlite.specs.Rowids.TheVariants.{Chosen}
use Rattle.sqlite.specs.Rows.{stamped}
use Rattle.sqlite.specs.Table.{Table}
use Rattle.sqlite.specs.Term.{Term, lit, eval_all}
use Rattle.sqlite.specs.Tree.{Trees}
use Rattle.sqlite_value.specs.declared.keys.Key.{Key}

-- all rows of a table, sorted by these keys
abbrev pub scan_by : List (Term × Key) → ℕ → List Term → Query
scan_by keys tree project = record {
  from = inner tree end;
  filter = [];
  group = None;
  project = project;
  distinct = false;
  collations = [];
  order = keys;
  limit = lit (Int (negsuc 0));
  offset = lit (Int (pos 0));
}

-- rows that are sorted by these keys are shown in this order
abbrev pub Sorts : List (Term × Key) → List Term → (Row → Row → Ordering) → Type 0
Sorts keys project order =
    (x y : Row) → is_lt (output_cmp (scan_by keys 0 project) (output (scan_by keys 0 project) ([] ∷ x ∷ [])) (output (scan_by keys 0 project) ([] ∷ y ∷ [])))
    ≡ is_lt (order (eval_all project ([] ∷ x ∷ [])) (eval_all project ([] ∷ y ∷ [])))

-- the edit of one INSERT of values
abbrev pub added : Trees → Table → List Term → ℕ → Row → Edit
added db table terms width params = edit_of db table [] Chosen 0 (value_rows (stamped table params) width (length terms / width) terms)

-- a table with no AUTOINCREMENT
abbrev pub uncounted : Table → Table
uncounted t = record t { is_counted = false }
