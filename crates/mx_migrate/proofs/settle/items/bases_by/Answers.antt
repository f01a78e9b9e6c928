use Rattle.std.proofs.Common.{rules, ◌≡◌, ◌∙◌, filter, nat_eq, Some, refl, ap, subst}
use Rattle.mx_base.specs.declared.rows.rows.BaseRow.{BaseRow}
use Rattle.mx_migrate.specs.declared.settle.due.Due.TheVariants as due
use Rattle.mx_migrate.specs.settle.Items.{IsBasesBy, next_total}
use Rattle.mx_migrate.proofs.settle.items.bases_by.Goals as goal

pub returns-in_ok-rows-in-Some : goal.returns-in_ok-rows-in-Some
returns-in_ok-rows-in-Some c =
    let row = c.in-Some.row in
    let rows = c.in_ok-rows-in-Some.rows in
    let step = due.Bases (record { mark = c.args.mark; item = row.item; rows = rows }) in
    let is : Some row ≡ next_total c.args.mark c.args.kept.now.totals.items = search rules in
    subst (λ next. IsBasesBy c.args.mark c.args.kept.now.bases.items next step) is
    (rows, c.in_ok-rows-in-Some.ensures ∙ ap (filter (λ (base : BaseRow). nat_eq base.item row.item)) c.as_slice-in-Some.ensures.value, refl)
