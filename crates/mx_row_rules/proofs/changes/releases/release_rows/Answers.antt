use Rattle.std.proofs.Common.{rules, ℕ, refl, ap, [], ◌∷◌, ◌∙◌, map}
use Rattle.mx_book.specs.commands.Act.{Released}
use Rattle.mx_base.specs.rows.Rows.{FitsRelease, FitsReleaseLine, FitsTotal, FitsBase}
use Rattle.mx_base.specs.declared.rows.rows.EntryRow.{EntryRow}
use Rattle.mx_registers.specs.Registers.{releases_by, release_lines_by, next, release_row}
use Rattle.mx_registers.specs.Lines.{lines_from}
use Rattle.mx_registers.specs.kept.Bases.{bases_by}
use Rattle.mx_registers.specs.kept.Changes.{entry_of}
use Rattle.mx_row_rules.specs.changes.Kept.{total_clocked}
use Rattle.mx_row_rules.specs.changes.Rows.{totals_touched}
use Rattle.mx_row_rules.proofs.ChangesProofs.AddedLemmas.{none_fit, one, these}
use Rattle.mx_row_rules.proofs.ChangesProofs.TouchLemmas.{clocked_are, none_pass}
use Rattle.mx_row_rules.proofs.ChangesProofs.CertifiedLemmas.{bases_same, lines_same}
use Rattle.std.specs.List.{filter_map}
use Rattle.mx_row_rules.specs.changes.Certified.{base_made, line_made}
use Rattle.mx_row_rules.proofs.changes.releases.release_rows.Goals as goal

pub returns-clause-of_book : goal.returns-clause-of_book
returns-clause-of_book c book doc certified own item known touched =
    let e = entry_of doc (Released c.args.release certified) in
    let releases = one FitsRelease releases_by book e c.in_ok-push.ensures.items c.entry_alone-rows.ensures.added.releases (ap (λ row. row ∷ []) (c.release_row-row.ensures.row ∙ ap (λ (row : EntryRow). release_row row.seq c.args.item c.args.release) own ∙ ap (λ (n : ℕ). release_row (next book) n c.args.release) item)) c.release_row-row.ensures.fits in
    let release_lines = these FitsReleaseLine release_lines_by book e (c.in_ok-line_rows.ensures.rows ∙ ap (λ (row : EntryRow). lines_from line_made row.seq 1 c.args.lines.now) own ∙ lines_same book c.args.release (next book) 1 certified c.args.lines.now known) c.in_ok-line_rows.ensures.fits in
    let totals = these FitsTotal totals_touched book e (c.in_ok-behind.ensures.rows ∙ ap (map (total_clocked c.args.release.moment)) touched ∙ clocked_are book e.act c.args.release.moment (λ row. refl)) c.in_ok-behind.ensures.fits in
    let bases = these FitsBase bases_by book e (c.in_ok-bases.ensures.rows ∙ ap (λ (day : ℕ). filter_map (base_made day) c.args.lines.now) c.day_of.ensures ∙ bases_same book c.args.release certified c.args.lines.now known) c.in_ok-bases.ensures.fits in
    search (rules, none_fit, none_pass)
