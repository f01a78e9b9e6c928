use Rattle.std.proofs.Common.{◌≡◌, ◌+◌, inr, List, [], ◌∷◌, ◌++◌, Some, None, All, drop, refl, sym, subst}
use Rattle.mx_base.specs.declared.rows.rows.DoneRow.{DoneRow}
use Rattle.mx_book.specs.due.Moved.{moved}
use Rattle.mx_layout.specs.kept.Cells.{kept_done3}
use Rattle.mx_table_rows.proofs.TotalsProofs.RebaseLemmas.{one_moved, one_misfits, one_fits}
use Rattle.mx_table_rows.proofs.totals.rebase.rows_moved.Goals as goal

pub returns-in-None-clause-stopped : goal.returns-in-None-clause-stopped
returns-in-None-clause-stopped c =
    inr (refl, one_misfits c.args.rows.now c.rows.made.items c.rows.row-index c.row-item.result c.rows-test.true c.row-item.is c.rows.old c.rows.new c.rows.invariant.moved c.in-None.ensures.past)

pub rows-preserved : goal.rows-preserved
rows-preserved c =
    let rows = c.args.rows.now in
    let made = c.rows.made.items in
    let i = c.rows.row-index in
    let x = c.row-item.result in
    let y = c.in-Some.moved in
    let left = drop (i + 1) rows in
    let longer : made ++ y ∷ [] ≡ c.push.new.self.items = sym c.in_ok-push-in-Some.ensures.items in
    let one = one_moved rows made i x c.rows-test.true c.row-item.is c.rows.old c.rows.new c.rows.invariant.moved y c.in-Some.ensures.moved in
    record {
      moved = subst (λ (z : DoneRow). c.push.new.self.items ++ moved (Some x.base) (Some z.base) left ≡ moved None None rows) (sym c.row.ensures.value)
          (subst (λ (ys : List DoneRow). ys ++ moved (Some x.base) (Some y.base) left ≡ moved None None rows) longer one);
      fit = subst (λ (ys : List DoneRow). All kept_done3.Fits rows → All kept_done3.Fits ys) longer (one_fits rows made i x c.rows-test.true c.row-item.is y c.rows.invariant.fit c.in-Some.ensures.fits);
    }
