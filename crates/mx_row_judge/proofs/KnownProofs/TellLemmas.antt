-- What the rows of an entry say of a command, from how they compare with those that the command would have.
use Rattle.std.proofs.Common.{◌≡◌, ◌↔◌, ◌&&◌, ℕ, ◌+◌, Bool, true, false, refl, List, [], ◌∷◌, ◌++◌, IsTrue, sym, subst, ap, ◌∙◌}
use Rattle.std.proofs.lemmas.List.{append_assoc}
use Rattle.mx_book.specs.commands.Act.{Act, Entry}
use Rattle.mx_book.specs.Book.{IsBook}
use Rattle.mx_registers.specs.Lines.{lines_from}
use Rattle.mx_registers.specs.kept.Changes.{entry_of}
use Rattle.mx_row_rules.specs.found.Given.{AreSame, Register, found}
use Rattle.mx_row_rules.proofs.FoundProofs.AnswerLemmas.{known_by_rows}
use Rattle.mx_row_rules.proofs.FoundProofs.FoundLemmas.{entry_is}
use Rattle.mx_row_judge.specs.known.Known.{Tells, TellsRows}

-- rows that were read and compared
pub compared : {Row : Type 0} (register : Register Row) (n : ℕ) (wanted : List Entry → List Row) (book : List Entry) (same : Bool) (read given : List Row) → IsTrue same ↔ (read ≡ given) → read ≡ found register book n → given ≡ wanted book → TellsRows register n wanted book same
compared register n wanted book same read given is of_entry of_command = subst (λ rows. IsTrue same ↔ (rows ≡ wanted book)) of_entry (subst (λ rows. IsTrue same ↔ (read ≡ rows)) of_command is)

-- rows in each table of its kind
pub tells : (n : ℕ) (act : Act) (book : List Entry) (same : Bool) → IsBook book → IsTrue same ↔ AreSame book n act → Tells n act book same
tells n act book same b is doc shape number = known_by_rows book (entry_of doc act) n same b shape (entry_is book doc ∙ number) is

-- whether two are so, by whether each is
pub both_told : (P Q : Type 0) (one two : Bool) {same : Bool} → same ≡ (one && two) → IsTrue one ↔ P → IsTrue two ↔ Q → IsTrue same ↔ (P × Q)
both_told P Q true two is first second = subst (λ same. IsTrue same ↔ (P × Q)) (sym is) (λ t. (first.0 refl, second.0 t), λ have. second.1 have.1)
both_told P Q false two is first second = subst (λ same. IsTrue same ↔ (P × Q)) (sym is) (λ t. absurd cc, λ have. first.1 have.0)

-- one line more has its row
pub one_more : {X Row : Type 0} (row_of : ℕ → ℕ → X → Row) (n line : ℕ) (all given more : List Row) (x : X) (rest later : List X) (row : Row) → all ≡ given ++ lines_from row_of n line rest → rest ≡ x ∷ later → row ≡ row_of n line x → more ≡ given ++ row ∷ []
    → all ≡ more ++ lines_from row_of n (line + 1) later
one_more row_of n line all given more x rest later row split is its pushed =
    let behind = lines_from row_of n (line + 1) later in
    split ∙ ap (λ xs. given ++ lines_from row_of n line xs) is ∙ ap (λ r. given ++ r ∷ behind) (sym its) ∙ sym (append_assoc given (row ∷ []) behind) ∙ ap (λ rows. rows ++ behind) (sym pushed)
