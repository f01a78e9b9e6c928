use Rattle.std.proofs.Common.{sym, ap, ◌∙◌, None, Some}
use Rattle.std.specs.Option.{option_and_then, option_copied}
use Rattle.mx_book.specs.commands.Act.{Entry, component_of}
use Rattle.mx_indexed_book.proofs.MapsProofs.NumberedLemmas.{component_by}
use Rattle.mx_indexed_book.proofs.indexed_book.IndexedBook.component.Goals as goal

pub returns-in-None : goal.returns-in-None
returns-in-None c =
    let inside = c.self.inside in
    sym (component_by inside.book c.args.self.now c.args.serial.now inside.indexes.registers.components None c.self.view_is c.self.invariant.registers_are.components_are (sym c.in-None.is ∙ c.held.ensures))

pub returns-in-None-entry : goal.returns-in-None-entry
returns-in-None-entry c =
    let inside = c.self.inside in
    sym (component_by inside.book c.args.self.now c.args.serial.now inside.indexes.registers.components (Some c.in-Some.seq) c.self.view_is c.self.invariant.registers_are.components_are (sym c.in-Some.is ∙ c.held.ensures)
    ∙ ap (option_and_then (λ (e : Entry). component_of e.act)) (sym c.entry.ensures ∙ ap option_copied c.in-None-entry.is))

pub returns-in-Some-entry : goal.returns-in-Some-entry
returns-in-Some-entry c =
    let inside = c.self.inside in
    c.added_component.ensures
    ∙ sym (component_by inside.book c.args.self.now c.args.serial.now inside.indexes.registers.components (Some c.in-Some.seq) c.self.view_is c.self.invariant.registers_are.components_are (sym c.in-Some.is ∙ c.held.ensures)
    ∙ ap (option_and_then (λ (e : Entry). component_of e.act)) (sym c.entry.ensures ∙ ap option_copied c.in-Some-entry.is))
