-- A thing that a book has, by the number of the entry that added it.
use Rattle.std.proofs.Common.{◌≡◌, ℕ, ◌+◌, Bool, true, false, cond, List, [], ◌∷◌, ◌++◌, length, Option, Some, None, refl, sym, ap, ◌∙◌, length-append, append_assoc, add-one}
use Rattle.std.specs.Prelude.{find, is_some}
use Rattle.std.specs.List.{cons_option, filter_map}
use Rattle.std.specs.Option.{option_map, option_map_or, option_and_then}
use Rattle.mx_book.specs.commands.Act.{Entry, aircraft_of, component_of}
use Rattle.mx_book.specs.commands.Same.{same_text}
use Rattle.mx_book.specs.declared.commands.aircraft.Aircraft.{Aircraft}
use Rattle.mx_book.specs.declared.commands.component.Component.{Component}
use Rattle.mx_book.specs.declared.commands.item.Item.{Item}
use Rattle.mx_book.specs.declared.commands.item.Item.TheVariants as items
use Rattle.mx_book.specs.Book.{entry_at}
use Rattle.mx_book.specs.Register.{aircraft, component}
use Rattle.mx_registers.specs.Names.{number_from, said_at, seq_of_tail, seq_of_serial, seq_of_item, item_at, has_item, or_zero}
use Rattle.mx_registers.proofs.NameLemmas.{said_at-number, item_known}
use Rattle.mx_row_rules.proofs.FoundProofs.EntryLemmas.{get_seam}

module _ {X : Type 0} (pick : Entry → Option X) (name : X → List ℕ) (text : List ℕ) where
  abbrev name_of : Entry → Option (List ℕ)
  name_of e = option_map name (pick e)

  abbrev is_named : X → Bool
  is_named x = same_text (name x) text

  said_here : (before later : List Entry) (e : Entry) → said_at pick (before ++ e ∷ later) (length before + 1) ≡ pick e
  said_here before later e = ap (said_at pick (before ++ e ∷ later)) (add-one (length before)) ∙ ap (option_and_then pick) (get_seam before later e)

  found_if : (b : Bool) (x : X) (k : ℕ) (o : Option X) (p : Option ℕ) (said : ℕ → Option X) → said k ≡ Some x → o ≡ option_and_then said p → cond b (Some x) o ≡ option_and_then said (cond b (Some k) p)
  found_if true x k o p said h e = sym h
  found_if false x k o p said h e = e

  found_step : (k : ℕ) (o : Option X) (xs : List X) (p : Option ℕ) (said : ℕ → Option X) → said k ≡ o → find is_named xs ≡ option_and_then said p
      → find is_named (cons_option o xs) ≡ option_and_then said (cond (option_map_or (λ t. same_text t text) (option_map name o) false) (Some k) p)
  found_step k None xs p said h e = e
  found_step k (Some x) xs p said h e = found_if (is_named x) x k (find is_named xs) p said h e

  found_from : (before later : List Entry) → find is_named (filter_map pick later) ≡ option_and_then (said_at pick (before ++ later)) (number_from name_of text (length before + 1) later)
  found_from before [] = refl
  found_from before (e ∷ later) =
      let one : length (before ++ e ∷ []) ≡ length before + 1 = length-append before (e ∷ []) in
      found_step (length before + 1) (pick e) (filter_map pick later) (number_from name_of text (length before + 1 + 1) later) (said_at pick (before ++ e ∷ later)) (said_here before later e)
      (found_from (before ++ e ∷ []) later ∙ ap (λ (b : List Entry). option_and_then (said_at pick b) (number_from name_of text (length (before ++ e ∷ []) + 1) later)) (append_assoc before (e ∷ []) later)
      ∙ ap (λ (n : ℕ). option_and_then (said_at pick (before ++ e ∷ later)) (number_from name_of text (n + 1) later)) one)

  -- the thing with a name is what the entry with its number added
  pub found_said : (book : List Entry) (o : Option ℕ) → number_from name_of text 1 book ≡ o → find is_named (filter_map pick book) ≡ option_and_then (said_at pick book) o
  found_said book o h = found_from [] book ∙ ap (option_and_then (said_at pick book)) h

  said_some : (o : Option Entry) → option_and_then name_of o ≡ Some text → is_some (option_and_then pick o) ≡ true
  said_some None h = absurd cc
  said_some (Some e) h = at (pick e) h
    where
      at : (o : Option X) → option_map name o ≡ Some text → is_some o ≡ true
      at None h = absurd cc
      at (Some x) h = refl

  -- it is there, where it has a number
  pub found_there : (book : List Entry) (n : ℕ) → number_from name_of text 1 book ≡ Some n → is_some (find is_named (filter_map pick book)) ≡ true
  found_there book n h = ap is_some (found_said book (Some n) h) ∙ at n (said_at-number name_of book text n h)
    where
      at : (m : ℕ) → said_at name_of book m ≡ Some text → is_some (said_at pick book m) ≡ true
      at m h = said_some (entry_at book m) h

-- ── aircraft, components and items ──

pub tail_there : (book : List Entry) (tail : List ℕ) (n : ℕ) → seq_of_tail book tail ≡ Some n → is_some (aircraft book tail) ≡ true
tail_there book tail n h = found_there (λ e. aircraft_of e.act) (λ (a : Aircraft). a.tail) tail book n h

pub serial_there : (book : List Entry) (serial : List ℕ) (n : ℕ) → seq_of_serial book serial ≡ Some n → is_some (component book serial) ≡ true
serial_there book serial n h = found_there (λ e. component_of e.act) (λ (c : Component). c.serial) serial book n h

pub no_tail : (book : List Entry) (tail : List ℕ) → seq_of_tail book tail ≡ None → aircraft book tail ≡ None
no_tail book tail h = found_said (λ e. aircraft_of e.act) (λ (a : Aircraft). a.tail) tail book None h

pub no_serial : (book : List Entry) (serial : List ℕ) → seq_of_serial book serial ≡ None → component book serial ≡ None
no_serial book serial h = found_said (λ e. component_of e.act) (λ (c : Component). c.serial) serial book None h

-- an item that has a number is there
pub item_there : (book : List Entry) (item : Item) (n : ℕ) → seq_of_item book item ≡ Some n → has_item book item ≡ true
item_there book (items.Airframe tail) n h = tail_there book tail n h
item_there book (items.Component serial) n h = serial_there book serial n h

-- and the entry with the number added it
pub item_numbered : (book : List Entry) (item : Item) (n : ℕ) → seq_of_item book item ≡ Some n → item_at book n ≡ Some item
item_numbered book item n h = ap (item_at book) (sym (ap or_zero h)) ∙ item_known book item (item_there book item n h)

-- an item that has none is not there
pub no_item : (book : List Entry) (item : Item) → seq_of_item book item ≡ None → has_item book item ≡ false
no_item book (items.Airframe tail) h = ap is_some (no_tail book tail h)
no_item book (items.Component serial) h = ap is_some (no_serial book serial h)
