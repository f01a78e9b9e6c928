use Rattle.std.proofs.Common.{sym, ap, ◌∙◌, Some, None}
use Rattle.std.specs.Option.{option_copied}
use Rattle.mx_indexed_book.proofs.MapsProofs.ProgrammeLemmas.{tasks_by}
use Rattle.mx_indexed_book.proofs.indexed_book.IndexedBook.tasks_in_force.Goals as goal

pub returns-in-Some-clause-tasks : goal.returns-in-Some-clause-tasks
returns-in-Some-clause-tasks c =
    c.tasks_loaded.ensures.tasks
    ∙ tasks_by c.args.self.now c.args.kind.now (Some c.in-Some.entry.now) (sym (ap option_copied c.in-Some.is) ∙ c.programme_entry.ensures)

pub returns-in-None-clause-tasks : goal.returns-in-None-clause-tasks
returns-in-None-clause-tasks c = tasks_by c.args.self.now c.args.kind.now None (sym (ap option_copied c.in-None.is) ∙ c.programme_entry.ensures)
