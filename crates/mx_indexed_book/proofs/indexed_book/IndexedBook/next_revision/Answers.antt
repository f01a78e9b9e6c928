use Rattle.std.proofs.Common.{sym, ap, ◌∙◌, Some, None}
use Rattle.std.specs.Option.{option_copied}
use Rattle.mx_indexed_book.proofs.MapsProofs.ProgrammeLemmas.{next_by}
use Rattle.mx_indexed_book.proofs.indexed_book.IndexedBook.next_revision.Goals as goal

pub returns-in-Some : goal.returns-in-Some
returns-in-Some c =
    c.revision_after.ensures
    ∙ next_by c.args.self.now c.args.kind.now (Some c.in-Some.entry.now) (sym (ap option_copied c.in-Some.is) ∙ c.programme_entry.ensures)

pub returns-in-None : goal.returns-in-None
returns-in-None c = next_by c.args.self.now c.args.kind.now None (sym (ap option_copied c.in-None.is) ∙ c.programme_entry.ensures)
