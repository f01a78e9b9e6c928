use Rattle.std.proofs.Common.{◌≡◌, refl, sym, subst, List, ◌++◌, false}
use Rattle.sqlite.specs.Held.{state}
use Rattle.mx_book.specs.commands.Act.{Entry}
use Rattle.mx_book.specs.Run.{book_run}
use Rattle.mx_book.proofs.GrowthLemmas.{book_run-append}
use Rattle.mx_jobs.specs.Stands.{Rests}
use Rattle.mx_desk.proofs.ServedLemmas.{left_here}
use Rattle.mx_desk.proofs.serving.serve_on.Goals as goal

pub returns-then-needs_reopen-clause-crash : goal.returns-then-needs_reopen-clause-crash
returns-then-needs_reopen-clause-crash g c = λ book rests.
    let had = c.loop.invariant.2 book rests in
    (had.0, c.serve_next.ensures.crash (book_run book had.0) had.1)

pub loop-preserved : goal.loop-preserved
loop-preserved g c =
    let ready : c.serve_next.new.office.needs_reopen ≡ false = (cc) in (
      refl,
      λ _. ready,
      λ book rests.
          let had = c.loop.invariant.2 book rests in
          let next = c.serve_next.ensures.kept (book_run book had.0) had.1 ready in
          (had.0 ++ next.0, subst (λ (b : List Entry). Rests (state g.S.Store c.serve_next.new.office.conn) b) (sym (book_run-append book had.0 next.0)) next.1),
    )

pub returns-in-Ok-clause-crash : goal.returns-in-Ok-clause-crash
returns-in-Ok-clause-crash g c = λ book rests.
    let had = c.loop.invariant.2 book rests in
    (had.0, left_here (book_run book had.0) (state g.S.Store c.loop.office.conn) had.1)

pub returns-in-Err-clause-crash : goal.returns-in-Err-clause-crash
returns-in-Err-clause-crash g c = λ book rests.
    let had = c.loop.invariant.2 book rests in
    (had.0, left_here (book_run book had.0) (state g.S.Store c.loop.office.conn) had.1)

pub returns-in-Ok-clause-kept : goal.returns-in-Ok-clause-kept
returns-in-Ok-clause-kept g c = λ book rests ready. c.loop.invariant.2 book rests

pub returns-in-Err-clause-kept : goal.returns-in-Err-clause-kept
returns-in-Err-clause-kept g c = λ book rests ready. c.loop.invariant.2 book rests
