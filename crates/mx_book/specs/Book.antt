-- Which lists of entries are books.
use Rattle.std.specs.Prelude.{◌≡◌, ◌≤◌, ℕ, zero, suc, length, List, [], ◌∷◌, ◌++◌, Bool, true, false, ◌&&◌, Option, None, slice_get, take, drop}
use Rattle.std.specs.List.{list_all}
use Rattle.mx_book.specs.commands.Act.{Entry}
use Rattle.mx_book.specs.commands.Shape.{has_shape}
use Rattle.mx_book.specs.declared.limits.TheConstants.{MOST_ENTRIES}
use Rattle.mx_book.specs.declared.verdict.Verdict.{Verdict}
use Rattle.mx_book.specs.declared.verdict.Verdict.TheVariants.{New, Already, Refused}
use Rattle.mx_book.specs.Judge.{judge}

-- the verdict is that the command is new
abbrev pub is_new : Verdict → Bool
is_new New = true
is_new (Already seq) = false
is_new (Refused refusal) = false

-- each of the later entries is judged new against those before it
abbrev pub is_book_from : List Entry → List Entry → Bool
is_book_from before [] = true
is_book_from before (entry ∷ later) = is_new (judge before entry) && is_book_from (before ++ entry ∷ []) later

-- each entry is judged new against those before it
abbrev pub is_book : List Entry → Bool
is_book book = is_book_from [] book

-- a book: at most 1,000,000 entries, each of its shape, and each judged new against those before it
pub record IsBook (book : List Entry) : Type 0 where
  pub few : length book ≤ MOST_ENTRIES
  pub shaped : list_all has_shape book ≡ true
  pub judged : is_book book ≡ true

-- the entry with a number, from 1
abbrev pub entry_at : List Entry → ℕ → Option Entry
entry_at book zero = None
entry_at book (suc k) = slice_get book k

-- the first entries, at most so many, of those with at least this number
abbrev pub entries_from : ℕ → ℕ → List Entry → List Entry
entries_from zero at_most book = take at_most book
entries_from (suc before) at_most book = take at_most (drop before book)
