use Rattle.std.proofs.Common.{sym, ap, ◌∙◌, None, Some}
use Rattle.std.specs.Option.{option_and_then, option_copied}
use Rattle.mx_book.specs.commands.Act.{Entry, aircraft_of}
use Rattle.mx_indexed_book.proofs.MapsProofs.NumberedLemmas.{aircraft_by}
use Rattle.mx_indexed_book.proofs.indexed_book.IndexedBook.aircraft.Goals as goal

pub returns-in-None : goal.returns-in-None
returns-in-None c =
    let inside = c.self.inside in
    sym (aircraft_by inside.book c.args.self.now c.args.tail.now inside.indexes.registers.aircraft None c.self.view_is c.self.invariant.registers_are.aircraft_are (sym c.in-None.is ∙ c.held.ensures))

pub returns-in-None-entry : goal.returns-in-None-entry
returns-in-None-entry c =
    let inside = c.self.inside in
    sym (aircraft_by inside.book c.args.self.now c.args.tail.now inside.indexes.registers.aircraft (Some c.in-Some.seq) c.self.view_is c.self.invariant.registers_are.aircraft_are (sym c.in-Some.is ∙ c.held.ensures)
    ∙ ap (option_and_then (λ (e : Entry). aircraft_of e.act)) (sym c.entry.ensures ∙ ap option_copied c.in-None-entry.is))

pub returns-in-Some-entry : goal.returns-in-Some-entry
returns-in-Some-entry c =
    let inside = c.self.inside in
    c.added_aircraft.ensures
    ∙ sym (aircraft_by inside.book c.args.self.now c.args.tail.now inside.indexes.registers.aircraft (Some c.in-Some.seq) c.self.view_is c.self.invariant.registers_are.aircraft_are (sym c.in-Some.is ∙ c.held.ensures)
    ∙ ap (option_and_then (λ (e : Entry). aircraft_of e.act)) (sym c.entry.ensures ∙ ap option_copied c.in-Some-entry.is))
