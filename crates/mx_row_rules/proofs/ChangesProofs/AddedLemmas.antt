-- Lists of the rows of a command: those that are empty, and those with one row.
use Rattle.std.proofs.Common.{◌≡◌, List, [], ◌∷◌, ◌++◌, All, sym, ap, subst, ◌∙◌}
use Rattle.std.proofs.lemmas.List.Elements.{All-cons, All-nil}
use Rattle.mx_book.specs.commands.Act.{Act, Entry}
use Rattle.mx_registers.specs.Added.{AreAdded}

-- no row is added to a table to which the command adds none
pub nothing : {Row : Type 0} (Fits : Row → Type 0) (by : List Entry → Act → List Row) {rows : List Row} (before : List Entry) (command : Entry) → rows ≡ [] → by before command.act ≡ [] → AreAdded Fits by rows before command
nothing Fits by before command empty adds = (empty ∙ sym adds, subst (All Fits) (sym empty) (All-nil Fits))

-- each of no rows can be kept
pub none_fit : {Row : Type 0} (Fits : Row → Type 0) {rows : List Row} → rows ≡ [] → All Fits rows
none_fit Fits empty = subst (All Fits) (sym empty) (All-nil Fits)

-- one row is added to a table to which the command adds that one
pub one : {Row : Type 0} (Fits : Row → Type 0) (by : List Entry → Act → List Row) {rows old : List Row} {row : Row} (before : List Entry) (command : Entry) → rows ≡ old ++ row ∷ [] → old ≡ [] → row ∷ [] ≡ by before command.act → Fits row → AreAdded Fits by rows before command
one Fits by {rows = rows} {row = row} before command pushed empty adds fits =
    let is : rows ≡ row ∷ [] = pushed ∙ ap (λ l. l ++ row ∷ []) empty in
    (is ∙ adds, subst (All Fits) (sym is) (All-cons Fits row [] fits (All-nil Fits)))

-- these rows are added
pub these : {Row : Type 0} (Fits : Row → Type 0) (by : List Entry → Act → List Row) {rows : List Row} (before : List Entry) (command : Entry) → rows ≡ by before command.act → All Fits rows → AreAdded Fits by rows before command
these Fits by before command is fits = (is, fits)
