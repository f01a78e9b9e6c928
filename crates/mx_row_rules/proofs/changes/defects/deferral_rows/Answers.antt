use Rattle.std.proofs.Common.{rules, ℕ, refl, ap, [], ◌∷◌, ◌∙◌, map}
use Rattle.mx_book.specs.commands.Act.{Deferred}
use Rattle.mx_base.specs.rows.Rows.{FitsDeferral, FitsTotal}
use Rattle.mx_base.specs.declared.rows.rows.EntryRow.{EntryRow}
use Rattle.mx_registers.specs.Registers.{deferral_row, deferrals_by, next}
use Rattle.mx_registers.specs.kept.Changes.{entry_of}
use Rattle.mx_row_rules.specs.changes.Kept.{total_clocked}
use Rattle.mx_row_rules.specs.changes.Rows.{totals_touched}
use Rattle.mx_row_rules.proofs.ChangesProofs.AddedLemmas.{none_fit, one, these}
use Rattle.mx_row_rules.proofs.ChangesProofs.TouchLemmas.{clocked_are, none_pass}
use Rattle.mx_row_rules.proofs.changes.defects.deferral_rows.Goals as goal

pub returns-clause-of_book : goal.returns-clause-of_book
returns-clause-of_book c book doc own aircraft touched =
    let e = entry_of doc (Deferred c.args.deferral) in
    let deferrals = one FitsDeferral deferrals_by book e c.in_ok-push.ensures.items c.entry_alone-rows.ensures.added.deferrals (ap (λ row. row ∷ []) (c.deferral_row-row.ensures.row ∙ ap (λ (row : EntryRow). deferral_row row.seq c.args.aircraft c.args.deferral) own ∙ ap (λ (n : ℕ). deferral_row (next book) n c.args.deferral) aircraft)) c.deferral_row-row.ensures.fits in
    let totals = these FitsTotal totals_touched book e (c.in_ok-behind.ensures.rows ∙ ap (map (total_clocked c.args.deferral.moment)) touched ∙ clocked_are book e.act c.args.deferral.moment (λ row. refl)) c.in_ok-behind.ensures.fits in
    search (rules, none_fit, none_pass)
