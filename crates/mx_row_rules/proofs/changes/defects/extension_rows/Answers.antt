use Rattle.std.proofs.Common.{rules, ℕ, ap, [], ◌∷◌, ◌∙◌}
use Rattle.mx_book.specs.commands.Act.{Extended}
use Rattle.mx_base.specs.rows.Rows.{FitsExtension}
use Rattle.mx_base.specs.declared.rows.rows.EntryRow.{EntryRow}
use Rattle.mx_registers.specs.Registers.{extensions_by, next, extension_row}
use Rattle.mx_registers.specs.kept.Changes.{entry_of}
use Rattle.mx_row_rules.proofs.ChangesProofs.AddedLemmas.{none_fit, one}
use Rattle.mx_row_rules.proofs.ChangesProofs.TouchLemmas.{none_pass}
use Rattle.mx_row_rules.proofs.changes.defects.extension_rows.Goals as goal

pub returns-clause-of_book : goal.returns-clause-of_book
returns-clause-of_book c book doc own defect =
    let extensions = one FitsExtension extensions_by book (entry_of doc (Extended c.args.extension)) c.in_ok-push.ensures.items c.entry_alone-rows.ensures.added.extensions (ap (λ row. row ∷ []) (c.extension_row-row.ensures.row ∙ ap (λ (row : EntryRow). extension_row row.seq c.args.defect c.args.extension) own ∙ ap (λ (n : ℕ). extension_row (next book) n c.args.extension) defect)) c.extension_row-row.ensures.fits in
    search (rules, none_fit, none_pass)
