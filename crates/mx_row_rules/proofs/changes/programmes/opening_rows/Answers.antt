use Rattle.std.proofs.Common.{rules, ℕ, ap, [], ◌∷◌, ◌∙◌}
use Rattle.mx_book.specs.commands.Act.{Opened}
use Rattle.mx_base.specs.rows.Rows.{FitsOpening, FitsBase, base_row_with}
use Rattle.mx_base.specs.declared.rows.rows.EntryRow.{EntryRow}
use Rattle.mx_registers.specs.Registers.{openings_by, next, opening_row}
use Rattle.mx_registers.specs.kept.Bases.{bases_by, stated_base}
use Rattle.mx_registers.specs.kept.Changes.{entry_of}
use Rattle.mx_row_rules.proofs.ChangesProofs.AddedLemmas.{none_fit, one}
use Rattle.mx_row_rules.proofs.ChangesProofs.TouchLemmas.{none_pass}
use Rattle.mx_row_rules.proofs.changes.programmes.opening_rows.Goals as goal

pub returns-clause-of_book : goal.returns-clause-of_book
returns-clause-of_book c book doc own item =
    let e = entry_of doc (Opened c.args.opening) in
    let openings = one FitsOpening openings_by book e c.in_ok-push.ensures.items c.entry_alone-rows.ensures.added.openings (ap (λ row. row ∷ []) (c.opening_row-row.ensures.row ∙ ap (λ (row : EntryRow). opening_row row.seq c.args.item c.args.opening) own ∙ ap (λ (n : ℕ). opening_row (next book) n c.args.opening) item)) c.opening_row-row.ensures.fits in
    let bases = one FitsBase bases_by book e c.in_ok-push-2.ensures.items c.entry_alone-rows.ensures.changed.bases (ap (λ row. row ∷ []) (c.stated_row-base.ensures.row ∙ ap (λ (n : ℕ). base_row_with n c.args.opening.task (stated_base c.args.opening)) item)) c.stated_row-base.ensures.fits in
    search (rules, none_fit, none_pass)
