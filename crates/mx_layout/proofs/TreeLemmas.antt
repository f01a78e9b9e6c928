-- A table is known by its tree.
use Rattle.std.proofs.Common.{◌≡◌, ◌==◌, cond, ℕ, refl, sym, ap, ◌∙◌}
use Rattle.mx_layout.specs.TableName.{TableName}
use Rattle.mx_layout.specs.declared.fault.Table.TheVariants.{Office, Entry, Aircraft, Place, Component, Programme, Task, Opening, Crs, CrsLine, Extension, Defect, Sector1, Fit1, Removal1, Sector2, Span2, Total2, Base2, Defect3, Done3}
use Rattle.mx_layout.specs.Names.{table_named}

by_tree : ℕ → TableName
by_tree n =
    cond (n == 0) Office (cond (n == 1) Entry (cond (n == 3) Aircraft (cond (n == 5) Place (cond (n == 7) Component (cond (n == 9) Programme (cond (n == 10) Task
    (cond (n == 12) Opening (cond (n == 13) Crs (cond (n == 14) CrsLine (cond (n == 16) Extension (cond (n == 17) Defect (cond (n == 18) Sector1 (cond (n == 19) Fit1 (cond (n == 20) Removal1 (cond (n == 21) Sector2 (cond (n == 22) Span2 (cond (n == 26) Total2 (cond (n == 27) Base2 (cond (n == 32) Defect3 Done3)))))))))))))))))))

found_by_tree : (name : TableName) → by_tree (table_named name).tree ≡ name
unfolding by_tree
found_by_tree Office = refl
found_by_tree _ = refl

-- two names of one tree are one
pub same_tree : (one other : TableName) → (table_named one).tree ≡ (table_named other).tree → one ≡ other
same_tree one other same = sym (found_by_tree one) ∙ ap by_tree same ∙ found_by_tree other
