use Rattle.std.proofs.Common.{inl, inr, refl}
use Rattle.mx_files.proofs.asking.AskingWork.work.Goals as goal

pub returns-in-Ok-clause-kept : goal.returns-in-Ok-clause-kept
returns-in-Ok-clause-kept g c =
    let opened = c.in-Ok.ensures in
    inl (
      c.in-Ok.office,
      c.answer-done.new.office,
      record {
        ready = opened.ready;
        moves = opened.moves;
        changes = opened.changes;
        told = opened.told;
        ours = opened.ours;
      },
      c.answer-done.ensures.kept,
      c.close-conn.ensures,
    )

pub returns-in-Err-clause-kept : goal.returns-in-Err-clause-kept
returns-in-Err-clause-kept g c =
    let unopened = c.in-Err.ensures in
    inr (
      _,
      record {
        moves = unopened.moves;
        changes = unopened.changes;
        told = unopened.told;
        reason = unopened.reason;
        older = unopened.older;
      },
      refl,
      refl,
    )
