use Rattle.std.proofs.Common.{◌≡◌, take}
use Rattle.mx_book.proofs.entry_list.book.copied.Given as goal

abbrev pub invariant-loop-entry : goal.invariant-loop-entry
invariant-loop-entry l = l.all.items ≡ take l.entry-index l.entries
