use Rattle.std.proofs.Common.{sym, ap, ◌∙◌, Some}
use Rattle.std.specs.Prelude.{Bool}
use Rattle.std.specs.Option.{option_map, option_copied}
use Rattle.mx_book.specs.commands.Act.{Entry}
use Rattle.mx_book.specs.commands.Same.{same_entry}
use Rattle.mx_indexed_book.proofs.MapsProofs.RegisterLemmas.{known_by}
use Rattle.mx_indexed_book.proofs.indexed_book.IndexedBook.known.Goals as goal

pub returns-in-None-entry : goal.returns-in-None-entry
returns-in-None-entry c =
    let inside = c.self.inside in
    sym (known_by inside.book c.args.self.now c.args.command.now c.doc.result inside.indexes.registers.documents (Some c.in-Some.seq) c.self.view_is c.self.invariant.registers_are.documents_are c.doc.ensures.doc (sym c.in-Some.is ∙ c.held.ensures)
    ∙ ap (option_map (λ (e : Entry). (c.in-Some.seq, same_entry e c.args.command.now))) (sym c.entry.ensures ∙ ap option_copied c.in-None-entry.is))

pub returns-in-Some-entry : goal.returns-in-Some-entry
returns-in-Some-entry c =
    let inside = c.self.inside in
    ap (λ (b : Bool). Some (c.in-Some.seq, b)) c.is_same.ensures.test
    ∙ sym (known_by inside.book c.args.self.now c.args.command.now c.doc.result inside.indexes.registers.documents (Some c.in-Some.seq) c.self.view_is c.self.invariant.registers_are.documents_are c.doc.ensures.doc (sym c.in-Some.is ∙ c.held.ensures)
    ∙ ap (option_map (λ (e : Entry). (c.in-Some.seq, same_entry e c.args.command.now))) (sym c.entry.ensures ∙ ap option_copied c.in-Some-entry.is))
