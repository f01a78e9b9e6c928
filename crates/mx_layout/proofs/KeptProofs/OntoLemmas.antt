-- Rows on top of others.
use Rattle.std.proofs.Common.{Bool, true, false, List, map, ◌++◌, ◌==◌, cond}
use Rattle.std.specs.List.Sorted.{IsPermutation}
use Rattle.std.proofs.lemmas.List.Sorted.{IsPermutation-append_right}
use Rattle.sqlite.specs.Order.{Row}
use Rattle.mx_layout.specs.TableName.{TableName}
use Rattle.mx_layout.specs.Names.{table_named}
use Rattle.mx_layout.specs.kept.Kept.{Kept}
use Rattle.mx_layout.specs.kept.Family.{on_top}

keeps_if : (b : Bool) (top xs ys : List Row) → IsPermutation xs ys → IsPermutation (cond b (top ++ xs) xs) (cond b (top ++ ys) ys)
keeps_if true top xs ys same = IsPermutation-append_right top xs ys same
keeps_if false top xs ys same = same

pub on_top_keeps : {X : Type 0} (k : Kept X) (rows : List X) (name : TableName) (xs ys : List Row) → IsPermutation xs ys → IsPermutation (on_top k rows name xs) (on_top k rows name ys)
on_top_keeps k rows name xs ys same = keeps_if ((table_named k.name).tree == (table_named name).tree) (map k.as_cells rows) xs ys same
