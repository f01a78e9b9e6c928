use Rattle.std.proofs.Common.{◌≡◌, ℕ, true, Ok, [], take, drop}
use Rattle.sqlite.specs.Held.{state}
use Rattle.mx_book.specs.Book.{is_book_from}
use Rattle.mx_moves.specs.install.Entries.{AddsEntries}
use Rattle.mx_moves.proofs.install.adding.add_all.Given as goal

-- the entries so far are added, and the others are each judged new behind those before them
abbrev pub invariant-entries : goal.invariant-entries
invariant-entries g l = record {
  same_reference : l.tx.conn.ghost_name ≡ l.fn.tx.conn.ghost_name;
  so_far : l.book ≡ take l.command-index l.entries;
  judged : is_book_from l.book (drop l.command-index l.entries) ≡ true;
  adds : AddsEntries {V = ℕ} [] l.book (state g.S.Store l.fn.tx.conn.now) (state g.S.Store l.tx.conn.now) (Ok 0);
}
