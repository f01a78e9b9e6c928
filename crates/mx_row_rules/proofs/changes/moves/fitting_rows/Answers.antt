use Rattle.std.proofs.Common.{rules, ℕ, refl, ap, [], ◌∷◌, ◌∙◌, map}
use Rattle.mx_book.specs.commands.Act.{Fitted}
use Rattle.mx_base.specs.rows.Rows.{FitsSpan, FitsTotal}
use Rattle.mx_base.specs.declared.rows.rows.EntryRow.{EntryRow}
use Rattle.mx_registers.specs.Registers.{next}
use Rattle.mx_registers.specs.kept.Changes.{entry_of}
use Rattle.mx_registers.specs.kept.Items.{number_of_serial}
use Rattle.mx_registers.specs.kept.Spans.{spans_opened}
use Rattle.mx_row_rules.specs.changes.Rows.{totals_touched}
use Rattle.mx_row_rules.proofs.ChangesProofs.AddedLemmas.{none_fit, one, these}
use Rattle.mx_row_rules.proofs.ChangesProofs.TouchLemmas.{clocked_are, none_pass}
use Rattle.mx_row_rules.specs.changes.Kept.{span_fitted, total_clocked}
use Rattle.mx_row_rules.proofs.changes.moves.fitting_rows.Goals as goal

pub returns-clause-of_book : goal.returns-clause-of_book
returns-clause-of_book c book doc own component aircraft touched =
    let e = entry_of doc (Fitted c.args.fitting) in
    let spans = one FitsSpan spans_opened book e c.in_ok-push.ensures.items c.entry_alone-rows.ensures.added.spans (ap (λ row. row ∷ []) (c.span_begun-span.ensures.row ∙ ap (λ (row : EntryRow). span_fitted row.seq c.args.component c.args.aircraft c.args.fitting) own ∙ ap (λ (n : ℕ). span_fitted (next book) n c.args.aircraft c.args.fitting) component ∙ ap (λ (n : ℕ). span_fitted (next book) (number_of_serial book c.args.fitting.serial) n c.args.fitting) aircraft)) c.span_begun-span.ensures.fits in
    let totals = these FitsTotal totals_touched book e (c.in_ok-behind.ensures.rows ∙ ap (map (total_clocked c.args.fitting.moment)) touched ∙ clocked_are book e.act c.args.fitting.moment (λ row. refl)) c.in_ok-behind.ensures.fits in
    search (rules, none_fit, none_pass)
