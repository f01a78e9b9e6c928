use Rattle.std.proofs.Common.{rules, ap, [], ◌∷◌, ◌∙◌}
use Rattle.mx_book.specs.commands.Act.{Added}
use Rattle.mx_base.specs.rows.Rows.{FitsAircraft, FitsPlace, FitsTotal}
use Rattle.mx_base.specs.declared.rows.rows.EntryRow.{EntryRow}
use Rattle.mx_registers.specs.Registers.{aircraft_by, places_by, aircraft_row, place_row}
use Rattle.mx_registers.specs.Lines.{lines_from}
use Rattle.mx_registers.specs.kept.Changes.{entry_of}
use Rattle.mx_row_rules.specs.changes.Kept.{total_begun}
use Rattle.mx_registers.specs.kept.Totals.{totals_opened}
use Rattle.mx_row_rules.proofs.ChangesProofs.AddedLemmas.{none_fit, one, these}
use Rattle.mx_row_rules.proofs.ChangesProofs.TouchLemmas.{none_pass}
use Rattle.mx_row_rules.proofs.changes.items.aircraft_rows.Goals as goal

pub returns-clause-of_book : goal.returns-clause-of_book
returns-clause-of_book c book doc own =
    let e = entry_of doc (Added c.args.aircraft c.args.positions.now) in
    let aircraft = one FitsAircraft aircraft_by book e c.in_ok-push.ensures.items c.entry_alone-rows.ensures.added.aircraft (ap (λ row. row ∷ []) (c.aircraft_row-row.ensures.row ∙ ap (λ (row : EntryRow). aircraft_row row.seq c.args.aircraft) own)) c.aircraft_row-row.ensures.fits in
    let places = these FitsPlace places_by book e (c.in_ok-places.ensures.rows ∙ ap (λ (row : EntryRow). lines_from place_row row.seq 1 c.args.positions.now) own) c.in_ok-places.ensures.fits in
    let totals = one FitsTotal totals_opened book e c.in_ok-push-2.ensures.items c.entry_alone-rows.ensures.added.totals (ap (λ row. row ∷ []) (c.first_total-total.ensures.row ∙ ap (λ (row : EntryRow). total_begun row.seq c.args.aircraft.opening c.args.aircraft.as_of) own)) c.first_total-total.ensures.fits in
    search (rules, none_fit, none_pass)
