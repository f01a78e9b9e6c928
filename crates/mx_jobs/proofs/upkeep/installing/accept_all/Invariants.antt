use Rattle.std.proofs.Common.{◌≡◌, [], take}
use Rattle.mx_book.specs.Run.{book_run, replies}
use Rattle.mx_jobs.proofs.upkeep.installing.accept_all.Given as goal

abbrev pub invariant-loop-command : goal.invariant-loop-command
invariant-loop-command l = record {
  book : l.book ≡ book_run [] (take l.command-index l.commands);
  replies : l.replies.items ≡ replies [] (take l.command-index l.commands);
}
