use Rattle.std.proofs.Common.{arith, ◌∙◌, ap, sym, ◌<◌, ◌++◌, [], ◌∷◌, length, take}
use Rattle.mx_book.specs.Run.{book_after, reply, replies}
use Rattle.mx_jobs.proofs.UpkeepProofs.InstallLemmas.{next_book, next_replies}
use Rattle.mx_jobs.proofs.upkeep.installing.accept_all.Goals as goal

pub loop-command-preserved : goal.loop-command-preserved
loop-command-preserved c =
    let i = c.loop-command.command-index in
    let cs = c.args.commands.now in
    let low : i < length cs = omega (arith, c.loop-command-test.true) in
    let command = c.command-item.result in
    let had = c.loop-command.invariant.book in
    record {
      book = c.in-Ok.ensures.entered ∙ ap (λ b. book_after b command) had ∙ sym (next_book cs i command low c.command-item.is);
      replies = c.in-Ok.ensures.replied ∙ ap (λ said. said ++ reply c.loop-command.book command ∷ []) c.loop-command.invariant.replies
          ∙ ap (λ b. replies [] (take i cs) ++ reply b command ∷ []) had ∙ sym (next_replies cs i command low c.command-item.is);
    }
