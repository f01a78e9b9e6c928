-- What chosen rows give where the tables stand for a book.
use Rattle.std.proofs.Common.{◌≡◌, ℕ, pos, Bool, List, filter, Option, None, Some, refl, sym, ap, subst, ◌∙◌}
use Rattle.std.specs.Prelude.{MatchOption, nat_eq}
use Rattle.std.specs.Option.{option_eq}
use Rattle.sqlite.specs.declared.types.Value.TheVariants.{Int, Text}
use Rattle.sqlite.specs.Collation.TheVariants.{Binary}
use Rattle.sqlite.specs.Order.{Row, column}
use Rattle.sqlite.specs.Tree.{Trees}
use Rattle.sqlite_schema.specs.Rules.{equal}
use Rattle.mx_book.specs.commands.Act.{Entry}
use Rattle.mx_book.specs.commands.Same.{same_text}
use Rattle.mx_book.specs.declared.commands.item.Item.{Item}
use Rattle.mx_book.specs.declared.commands.item.Item.TheVariants.{Airframe, Component}
use Rattle.mx_book.specs.Book.{IsBook}
use Rattle.mx_registers.specs.Names.{seq_of_defect, seq_of_item, seq_of_serial, seq_of_tail}
use Rattle.mx_registers.specs.Registers.{aircraft_rows, component_rows, entry_rows}
use Rattle.mx_layout.specs.kept.Cells.{kept_aircraft, kept_component, kept_entry}
use Rattle.mx_layout.specs.kept.Kept.{Kept}
use Rattle.mx_table_rows.specs.chosen.Choices.{has_value}
use Rattle.mx_book_tables.specs.stands.Stands.{HasRowsAt}
use Rattle.mx_row_rules.specs.found.Names.{aircraft_number, component_number, deferral_number}
use Rattle.mx_row_rules.proofs.FoundProofs.FoundLemmas.{defect_is, serial_is, tail_is}
use Rattle.mx_lookups.specs.numbers.AnyRows.{Gives, GivesBy}
use Rattle.mx_lookups.specs.numbers.Given.{AircraftNumber, ComponentNumber, DefectNumber, ItemNumber}
use Rattle.mx_lookups.specs.numbers.Reads.{rows_point}
use Rattle.mx_lookups.proofs.NumbersProofs.ChosenLemmas.{chosen_is}
use Rattle.mx_lookups.proofs.NumbersProofs.LookupLemmas.{number_is, text_is}
use Rattle.mx_lookups.proofs.NumbersProofs.TableLemmas.{IsTable, aircraft as aircraft_table, components, entries}
use Rattle.std.specs.Option.{option_eq}
use Rattle.sqlite_sql.specs.Ops.{binary}
use Rattle.mx_layout.specs.kept.Values.{number_or_null}

-- a number that may be missing
pub some_number : (o : Option ℕ) (n : ℕ) → equal Binary (number_or_null o) (Int (pos n)) ≡ option_eq nat_eq o (Some n)
unfolding binary
some_number None n = refl
some_number (Some m) n = number_is m n

-- what is so of what was looked up by what was found
pub looked : {A V : Type 0} {First : Trees → Option A → Type 0} {none : V} {Then : A → Trees → V → Type 0} {trees : Trees} (P : V → Type 0) (there : Option A) → ((o : Option A) → First trees o → o ≡ there) → (there ≡ None → P none) → ((a : A) → there ≡ Some a → (v : V) → Then a trees v → P v)
    → (v : V) → GivesBy First none Then trees v → P v
looked {A} {V} {none = none} {Then = Then} {trees = trees} P there first missed then v gave = at gave.found (first gave.found gave.first) gave.then
  where
    at : (o : Option A) → o ≡ there → MatchOption o (v ≡ none) (λ a. Then a trees v) → P v
    at None is e = subst P (sym e) (missed (sym is))
    at (Some a) is gives = then a (sym is) v gives

module _ (trees : Trees) (book : List Entry) (has : HasRowsAt rows_point trees book) where
  -- what chosen rows give is what those of the book give
  pub given : {X V : Type 0} (k : Kept X) (rows : List Entry → List X) (it : IsTable k rows) (chosen : Row → Bool) (picks : X → Bool) → ((x : X) → chosen (k.as_cells x) ≡ picks x) → (of : List X → V) (v : V) → Gives k chosen of trees v → v ≡ of (filter picks (rows book))
  given k rows it chosen picks same of v gave = gave.2 ∙ ap of (chosen_is k it.law trees (rows book) (it.keeps trees book has) chosen picks same gave.0 gave.1.are gave.1.fit)

  pub by_number : {X V : Type 0} (k : Kept X) (rows : List Entry → List X) (it : IsTable k rows) (at : ℕ) (number : X → ℕ) → ((x : X) → column (k.as_cells x) at ≡ Int (pos (number x))) → (n : ℕ) (of : List X → V) (v : V) → Gives k (has_value at (Int (pos n))) of trees v
      → v ≡ of (filter (λ x. nat_eq (number x) n) (rows book))
  by_number k rows it at number is n = given k rows it (has_value at (Int (pos n))) (λ x. nat_eq (number x) n) (λ x. ap (λ cell. equal Binary cell (Int (pos n))) (is x) ∙ number_is (number x) n)

  pub by_text : {X V : Type 0} (k : Kept X) (rows : List Entry → List X) (it : IsTable k rows) (at : ℕ) (name : X → List ℕ) → ((x : X) → column (k.as_cells x) at ≡ Text (name x)) → (text : List ℕ) (of : List X → V) (v : V) → Gives k (has_value at (Text text)) of trees v
      → v ≡ of (filter (λ x. same_text (name x) text) (rows book))
  by_text k rows it at name is text = given k rows it (has_value at (Text text)) (λ x. same_text (name x) text) (λ x. ap (λ cell. equal Binary cell (Text text)) (is x) ∙ text_is (name x) text)

  b : IsBook book
  b = has.is_book

  -- ── numbers ──

  pub tail_number : (tail : List ℕ) (o : Option ℕ) → AircraftNumber tail trees o → o ≡ seq_of_tail book tail
  tail_number tail o gave = by_text kept_aircraft aircraft_rows aircraft_table 1 (λ row. row.tail) (λ row. refl) tail aircraft_number o gave ∙ tail_is book tail

  pub serial_number : (serial : List ℕ) (o : Option ℕ) → ComponentNumber serial trees o → o ≡ seq_of_serial book serial
  serial_number serial o gave = by_text kept_component component_rows components 1 (λ row. row.serial) (λ row. refl) serial component_number o gave ∙ serial_is book serial

  pub item_number : (item : Item) (o : Option ℕ) → ItemNumber item trees o → o ≡ seq_of_item book item
  item_number (Airframe tail) = tail_number tail
  item_number (Component serial) = serial_number serial

  pub defect_number : (doc : List ℕ) (o : Option ℕ) → DefectNumber doc trees o → o ≡ seq_of_defect book doc
  defect_number doc o gave = by_text kept_entry entry_rows entries 1 (λ row. row.doc) (λ row. refl) doc deferral_number o gave ∙ defect_is book doc
