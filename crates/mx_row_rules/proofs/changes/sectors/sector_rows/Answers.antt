use Rattle.std.proofs.Common.{rules, ℕ, ap, [], ◌∷◌, ◌∙◌, map}
use Rattle.mx_book.specs.commands.Act.{Flown}
use Rattle.mx_base.specs.rows.Rows.{FitsTotal}
use Rattle.mx_base.specs.declared.rows.rows.EntryRow.{EntryRow}
use Rattle.mx_registers.specs.Registers.{next, sector_row}
use Rattle.mx_registers.specs.kept.Changes.{entry_of}
use Rattle.mx_registers.specs.kept.Items.{number_of_tail}
use Rattle.mx_row_rules.specs.changes.Kept.{total_flown}
use Rattle.mx_row_rules.specs.changes.Rows.{FitsHeld, held, sectors_held_by, totals_touched}
use Rattle.mx_row_rules.proofs.ChangesProofs.AddedLemmas.{none_fit, one, these}
use Rattle.mx_row_rules.proofs.ChangesProofs.TouchLemmas.{flown_are, none_pass}
use Rattle.mx_base.specs.declared.rows.rows.SectorRow.{SectorRow}
use Rattle.mx_row_rules.proofs.changes.sectors.sector_rows.Goals as goal

pub returns-clause-of_book : goal.returns-clause-of_book
returns-clause-of_book c book doc own aircraft touched =
    let e = entry_of doc (Flown c.args.sector) in
    let sectors = one FitsHeld sectors_held_by book e c.in_ok-push.ensures.items c.entry_alone-rows.ensures.added.sectors (ap (λ (row : SectorRow). held row ∷ []) (c.sector_row.ensures.row ∙ ap (λ (row : EntryRow). sector_row row.seq c.args.aircraft c.args.sector) own ∙ ap (λ (n : ℕ). sector_row (next book) n c.args.sector) aircraft)) c.sector_row.ensures.fits in
    let totals = these FitsTotal totals_touched book e (c.in_ok-behind.ensures.rows ∙ ap (λ (n : ℕ). map (total_flown n c.args.sector) c.args.totals.now) aircraft ∙ ap (map (total_flown (number_of_tail book c.args.sector.tail) c.args.sector)) touched ∙ flown_are book c.args.sector) c.in_ok-behind.ensures.fits in
    search (rules, none_fit, none_pass)
