use Rattle.std.proofs.Common.{rules, refl, ap, ◌∙◌, map}
use Rattle.mx_book.specs.commands.Act.{Removed}
use Rattle.mx_base.specs.rows.Rows.{FitsSpan, FitsTotal}
use Rattle.mx_base.specs.declared.rows.rows.EntryRow.{EntryRow}
use Rattle.mx_registers.specs.Registers.{next}
use Rattle.mx_registers.specs.kept.Changes.{entry_of}
use Rattle.mx_row_rules.specs.changes.Rows.{spans_touched, totals_touched}
use Rattle.mx_row_rules.proofs.ChangesProofs.AddedLemmas.{none_fit, these}
use Rattle.mx_row_rules.proofs.ChangesProofs.TouchLemmas.{clocked_are, ended_are, none_pass}
use Rattle.mx_row_rules.specs.changes.Kept.{span_removed, total_clocked}
use Rattle.mx_row_rules.proofs.changes.moves.removal_rows.Goals as goal

pub returns-clause-of_book : goal.returns-clause-of_book
returns-clause-of_book c book doc own opened touched =
    let e = entry_of doc (Removed c.args.removal) in
    let spans = these FitsSpan spans_touched book e (c.in_ok-ended.ensures.rows ∙ ap (λ (row : EntryRow). map (span_removed row.seq c.args.removal.moment) c.args.spans.now) own ∙ ap (map (span_removed (next book) c.args.removal.moment)) opened ∙ ended_are book c.args.removal) c.in_ok-ended.ensures.fits in
    let totals = these FitsTotal totals_touched book e (c.in_ok-behind.ensures.rows ∙ ap (map (total_clocked c.args.removal.moment)) touched ∙ clocked_are book e.act c.args.removal.moment (λ row. refl)) c.in_ok-behind.ensures.fits in
    search (rules, none_fit, none_pass)
