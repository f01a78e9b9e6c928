-- What the entries of a book accomplish, with one entry more.
use Rattle.std.proofs.Common.{◌≡◌, List, [], ◌∷◌, ◌++◌}
use Rattle.mx_book.specs.commands.Act.{Entry}
use Rattle.mx_registers.proofs.RegisterLemmas.{gives-more}
use Rattle.mx_indexed_book.specs.moments.Done.{accomplished, accomplished_by}

pub said_more : (book : List Entry) (entry : Entry) → accomplished (book ++ entry ∷ []) ≡ accomplished book ++ accomplished_by book entry.act
said_more book entry = gives-more (λ earlier e. accomplished_by earlier e.act) [] book entry
