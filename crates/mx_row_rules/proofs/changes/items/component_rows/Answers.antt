use Rattle.std.proofs.Common.{rules, ap, [], ◌∷◌, ◌∙◌}
use Rattle.mx_book.specs.commands.Act.{Listed}
use Rattle.mx_base.specs.rows.Rows.{FitsComponent, FitsTotal}
use Rattle.mx_base.specs.declared.rows.rows.EntryRow.{EntryRow}
use Rattle.mx_registers.specs.Registers.{components_by, component_row}
use Rattle.mx_registers.specs.kept.Changes.{entry_of}
use Rattle.mx_row_rules.specs.changes.Kept.{total_begun}
use Rattle.mx_registers.specs.kept.Totals.{totals_opened}
use Rattle.mx_row_rules.proofs.ChangesProofs.AddedLemmas.{none_fit, one}
use Rattle.mx_row_rules.proofs.ChangesProofs.TouchLemmas.{none_pass}
use Rattle.mx_row_rules.proofs.changes.items.component_rows.Goals as goal

pub returns-clause-of_book : goal.returns-clause-of_book
returns-clause-of_book c book doc own =
    let e = entry_of doc (Listed c.args.component) in
    let components = one FitsComponent components_by book e c.in_ok-push.ensures.items c.entry_alone-rows.ensures.added.components (ap (λ row. row ∷ []) (c.component_row-row.ensures.row ∙ ap (λ (row : EntryRow). component_row row.seq c.args.component) own)) c.component_row-row.ensures.fits in
    let totals = one FitsTotal totals_opened book e c.in_ok-push-2.ensures.items c.entry_alone-rows.ensures.added.totals (ap (λ row. row ∷ []) (c.first_total-total.ensures.row ∙ ap (λ (row : EntryRow). total_begun row.seq c.args.component.opening c.args.component.as_of) own)) c.first_total-total.ensures.fits in
    search (rules, none_fit, none_pass)
