-- What is known of a command, by the number of the entry that has its document.
use Rattle.std.proofs.Common.{◌≡◌, ◌↔◌, ℕ, Bool, true, List, filter, nat_eq, Option, Some, None, refl, sym, ap, ◌∙◌}
use Rattle.std.specs.List.{list_any}
use Rattle.std.specs.Option.{option_eq, option_map}
use Rattle.std.proofs.lemmas.Bool.Decides.{same_from_decides}
use Rattle.mx_book.specs.commands.Act.{Entry, Fitted, Removed}
use Rattle.mx_book.specs.commands.Same.{same_entry, same_text}
use Rattle.mx_book.specs.commands.Shape.{has_shape}
use Rattle.mx_book.specs.declared.commands.fitting.Fitting.{Fitting}
use Rattle.mx_book.specs.declared.commands.fitting.Removal.{Removal}
use Rattle.mx_book.specs.Asking.{known_same}
use Rattle.mx_book.specs.Book.{IsBook}
use Rattle.mx_book.specs.Judge.{known_from}
use Rattle.mx_registers.specs.Registers.{entry_rows}
use Rattle.mx_base.specs.declared.rows.rows.EntryRow.{EntryRow}
use Rattle.mx_base.specs.declared.rows.rows.SpanRow.{SpanRow}
use Rattle.mx_registers.specs.kept.Changes.{entry_of}
use Rattle.mx_registers.specs.kept.Items.{number_of_serial, number_of_tail}
use Rattle.mx_registers.specs.kept.Spans.{span_rows}
use Rattle.mx_row_rules.specs.found.Given.{AreSame}
use Rattle.mx_row_rules.specs.found.Names.{entry_number}
use Rattle.mx_row_rules.specs.found.Spans.{begins_with, ends_with}
use Rattle.mx_row_rules.proofs.FoundProofs.FoundLemmas.{entry_is}
use Rattle.mx_row_rules.proofs.FoundProofs.KnownLemmas.{known_rows}
use Rattle.mx_row_rules.proofs.FoundProofs.SpanLemmas.{fitted_by_spans, removed_by_spans}

some_known : (o : Option (ℕ × Entry)) (n : ℕ) → option_map (λ (k : ℕ × Entry). k.0) o ≡ Some n → (e : Entry) × (o ≡ Some (n, e))
some_known (Some k) n h = (k.1, let same : k.0 ≡ n = cc in ap (λ m. Some (m, k.1)) same)
some_known None n h = absurd cc

none_known : (o : Option (ℕ × Entry)) → option_map (λ (k : ℕ × Entry). k.0) o ≡ None → o ≡ None
none_known (Some k) h = absurd cc
none_known None h = refl

abbrev number_in : List Entry → List ℕ → Option ℕ
number_in book doc = entry_number (filter (λ (row : EntryRow). same_text row.doc doc) (entry_rows book))

-- it is known with the answer that says whether the entry with the number says the same
answered : (book : List Entry) (command : Entry) (n : ℕ) (same : Bool) → number_in book command.doc ≡ Some n
    → ((e : Entry) → known_from command.doc 1 book ≡ Some (n, e) → same ≡ same_entry e command) → option_map (known_same command) (known_from command.doc 1 book) ≡ Some (n, same)
answered book command n same number is =
    let it = some_known (known_from command.doc 1 book) n (sym (entry_is book command.doc) ∙ number) in
    ap (option_map (known_same command)) it.1 ∙ ap (λ b. Some (n, b)) (sym (is it.0 it.1))

pub known_by_rows : (book : List Entry) (command : Entry) (n : ℕ) (same : Bool) → IsBook book → has_shape command ≡ true → number_in book command.doc ≡ Some n → (same ≡ true) ↔ AreSame book n command.act
    → option_map (known_same command) (known_from command.doc 1 book) ≡ Some (n, same)
known_by_rows book command n same b shape number decides =
    answered book command n same number (λ e known. same_from_decides {P = AreSame book n command.act} same (same_entry e command) decides (known_rows book command n e b shape known))

pub unknown_by_rows : (book : List Entry) (command : Entry) → number_in book command.doc ≡ None → option_map (known_same command) (known_from command.doc 1 book) ≡ None
unknown_by_rows book command none = ap (option_map (known_same command)) (none_known (known_from command.doc 1 book) (sym (entry_is book command.doc) ∙ none))

pub fitting_by_spans : (book : List Entry) (doc : List ℕ) (f : Fitting) (n : ℕ) → IsBook book → has_shape (entry_of doc (Fitted f)) ≡ true → number_in book doc ≡ Some n
    → option_map (known_same (entry_of doc (Fitted f))) (known_from doc 1 book)
    ≡ Some (n, list_any (begins_with n (number_of_serial book f.serial) (number_of_tail book f.tail) f) (filter (λ (row : SpanRow). nat_eq row.fit_seq n) (span_rows book)))
fitting_by_spans book doc f n b shape number = answered book (entry_of doc (Fitted f)) n _ number (λ e known. fitted_by_spans book doc f n e b shape known)

pub removal_by_spans : (book : List Entry) (doc : List ℕ) (r : Removal) (n : ℕ) → IsBook book → has_shape (entry_of doc (Removed r)) ≡ true → number_in book doc ≡ Some n
    → option_map (known_same (entry_of doc (Removed r))) (known_from doc 1 book)
    ≡ Some (n, list_any (ends_with n (number_of_serial book r.serial) r) (filter (λ (row : SpanRow). option_eq nat_eq row.remove_seq (Some n)) (span_rows book)))
removal_by_spans book doc r n b shape number = answered book (entry_of doc (Removed r)) n _ number (λ e known. removed_by_spans book doc r n e b shape known)
