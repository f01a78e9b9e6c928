-- Accomplishments whose dues are moved: the rows that are made so far, and those that do not fit.
use Rattle.std.proofs.Common.{◌≡◌, ◌<◌, ◌+◌, ℕ, List, [], ◌∷◌, ◌++◌, length, drop, get_or, Option, Some, None, All, sym, ap, subst, ◌∙◌}
use Rattle.std.proofs.lemmas.List.{append_assoc, drop_more}
use Rattle.std.proofs.lemmas.List.Elements.{All-head, All-tail, All-push, All-get_or}
use Rattle.mx_base.specs.declared.amounts.Base.{Base}
use Rattle.mx_base.specs.declared.rows.rows.DoneRow.{DoneRow}
use Rattle.mx_book.specs.due.Moved.{due_moved, row_with, moved}
use Rattle.mx_layout.specs.kept.Cells.{kept_done3}

in_middle : (P : DoneRow → Type 0) (xs : List DoneRow) (x : DoneRow) (rest : List DoneRow) → All P (xs ++ x ∷ rest) → P x
in_middle P [] x rest all = All-head P x rest all
in_middle P (y ∷ xs) x rest all = in_middle P xs x rest (All-tail P y (xs ++ x ∷ rest) all)

module _ (rows made : List DoneRow) (i : ℕ) (x : DoneRow) (within : i < length rows) (is : x ≡ get_or rows i x) where
  module _ (old new : Option Base) (so_far : made ++ moved old new (drop i rows) ≡ moved None None rows) where
    here : made ++ moved old new (x ∷ drop (i + 1) rows) ≡ moved None None rows
    here = ap (λ l. made ++ moved old new l) (sym (drop_more rows i x within ∙ ap (λ y. y ∷ drop (i + 1) rows) (sym is))) ∙ so_far

    -- one more is made
    pub one_moved : (y : DoneRow) → y ≡ row_with x (due_moved old new x.due) → (made ++ y ∷ []) ++ moved (Some x.base) (Some y.base) (drop (i + 1) rows) ≡ moved None None rows
    one_moved y as_moved =
        append_assoc made (y ∷ []) (moved (Some x.base) (Some y.base) (drop (i + 1) rows))
        ∙ subst (λ (z : DoneRow). made ++ z ∷ moved (Some x.base) (Some z.base) (drop (i + 1) rows) ≡ moved None None rows) (sym as_moved) here

    -- one does not fit
    pub one_misfits : ¬ kept_done3.Fits (row_with x (due_moved old new x.due)) → ¬ All kept_done3.Fits (moved None None rows)
    one_misfits misfit all =
        let row = row_with x (due_moved old new x.due) in
        let rest = moved (Some x.base) (Some row.base) (drop (i + 1) rows) in
        misfit (in_middle kept_done3.Fits made row rest (subst (All kept_done3.Fits) (sym here) all))

  pub one_fits : (y : DoneRow) → (All kept_done3.Fits rows → All kept_done3.Fits made) → (kept_done3.Fits x → kept_done3.Fits y) → All kept_done3.Fits rows → All kept_done3.Fits (made ++ y ∷ [])
  one_fits y fit so all = All-push kept_done3.Fits made y (fit all) (so (subst kept_done3.Fits (sym is) (All-get_or kept_done3.Fits rows i x within all)))
