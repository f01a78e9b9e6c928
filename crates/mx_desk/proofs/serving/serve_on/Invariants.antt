use Rattle.std.proofs.Common.{◌≡◌, List, false}
use Rattle.sqlite.specs.Held.{state}
use Rattle.mx_book.specs.commands.Act.{Entry}
use Rattle.mx_book.specs.Run.{book_run}
use Rattle.mx_jobs.specs.Stands.{Rests}
use Rattle.mx_desk.proofs.serving.serve_on.Given as goal

abbrev pub invariant-loop : goal.invariant-loop
invariant-loop g l =
    (l.out.items ≡ l.initial.out.items)
    × (l.initial.office.needs_reopen ≡ false → l.office.needs_reopen ≡ false)
    × ((book : List Entry) → Rests (state g.S.Store l.initial.office.conn) book → (commands : List Entry) × Rests (state g.S.Store l.office.conn) (book_run book commands))
