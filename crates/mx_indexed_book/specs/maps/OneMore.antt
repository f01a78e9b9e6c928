-- Maps of a book behind one more entry of it.
use Rattle.std.specs.Prelude.{◌≡◌, List, [], ◌∷◌, ◌++◌, true}
use Rattle.mx_book.specs.commands.Act.{Entry}
use Rattle.mx_book.specs.commands.Shape.{has_shape}
use Rattle.mx_book.specs.declared.verdict.Verdict.TheVariants.{New}
use Rattle.mx_book.specs.Book.{IsBook}
use Rattle.mx_book.specs.Judge.{judge}

-- the changes are those that are defined
abbrev pub Equal : {Changes : Type 0} → Changes → (List Entry → Entry → Changes) → List Entry → Entry → Type 0
Equal changes defined book entry = changes ≡ defined book entry

-- where the old maps say what they say of a book, and these are the changes by a new entry, the new maps say it of the book with that entry
abbrev pub SayOneMore : {Maps : Type 0} → (List Entry → Maps → Type 0) → (List Entry → Entry → Type 0) → Maps → Maps → Type 0
SayOneMore Say AreChanges old new =
    (book : List Entry) (entry : Entry) → IsBook book → has_shape entry ≡ true → judge book entry ≡ New → AreChanges book entry → Say book old → Say (book ++ entry ∷ []) new
