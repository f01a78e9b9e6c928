use Rattle.std.proofs.Common.{◌≡◌, ◌≤◌, ◌-◌, min}
use Rattle.sqlite.specs.Held.{state}
use Rattle.mx_row_questions.proofs.EntriesProofs.EntryLemmas.{EntriesWalk}
use Rattle.mx_row_questions.proofs.entries.entries.entries.Given as goal

-- so many entries were found, of those that are wanted
abbrev pub invariant-loop-asked : goal.invariant-loop-asked
invariant-loop-asked g l = record {
  same_reference : l.tx.conn.ghost_name ≡ l.fn.tx.conn.ghost_name;
  few : l.asked ≤ l.wanted;
  begins : l.before ≡ l.from - 1;
  wants : l.wanted ≡ min (l.last - l.before) l.at_most;
  walk : EntriesWalk l.before l.last l.asked (state g.S.Store l.fn.tx.conn.now) (state g.S.Store l.tx.conn.now) l.found.items;
}

abbrev pub decreases-loop-asked : goal.decreases-loop-asked
decreases-loop-asked g l = l.wanted - l.asked
