-- Names and numbers of a book are one to one, and a number stays.
use Rattle.std.proofs.Common.{◌≡◌, ℕ, ◌+◌, List, ◌++◌, length, true, Option, Some, None, refl, sym, ap, ◌∙◌}
use Rattle.std.specs.Prelude.{is_some}
use Rattle.std.specs.Option.{option_or, option_and_then}
use Rattle.mx_book.specs.commands.Act.{Act, Entry, Added}
use Rattle.mx_book.specs.declared.commands.item.Item.{Item}
use Rattle.mx_book.specs.declared.commands.item.Item.TheVariants.{Airframe, Component}
use Rattle.mx_book.specs.Book.{entry_at}
use Rattle.mx_book.specs.Defect.{defect}
use Rattle.mx_book.specs.Register.{aircraft, component}
use Rattle.mx_registers.specs.Names.{number_from, said_at, tail_added, serial_added, defect_deferred, seq_of_tail, seq_of_serial, seq_of_defect, seq_of_item, tail_at, serial_at, or_zero}
use Rattle.mx_registers.proofs.NameLemmas.{said_at-number, tail_known, serial_known, defect_known}
use Rattle.mx_registers.specs.Names.{has_item}
use Rattle.mx_registers.proofs.TakeLemmas.{same_some}
use Rattle.mx_registers.proofs.KeptProofs.SpanRows.{number-append}

first_there : (o p : Option ℕ) → is_some o ≡ true → option_or o p ≡ o
first_there None p h = absurd cc
first_there (Some n) p h = refl

module _ (name_of : Entry → Option (List ℕ)) where
  -- the entry that a number gives has one
  there_at : (book : List Entry) (name : List ℕ) (o : Option ℕ) → said_at name_of book (or_zero o) ≡ Some name → is_some o ≡ true
  there_at book name None h = absurd cc
  there_at book name (Some n) h = refl

  -- the number of a thing stays
  pub stays : (before more : List Entry) (name : List ℕ) → is_some (number_from name_of name 1 before) ≡ true → number_from name_of name 1 (before ++ more) ≡ number_from name_of name 1 before
  stays before more name h = number-append name_of name 1 before more ∙ first_there (number_from name_of name 1 before) (number_from name_of name (1 + length before) more) h

  once_if : (book : List Entry) (a b : List ℕ) (o p : Option ℕ) → number_from name_of a 1 book ≡ o → number_from name_of b 1 book ≡ p → is_some o ≡ true → or_zero o ≡ or_zero p → a ≡ b
  once_if book a b None p i j h e = absurd cc
  once_if book a b (Some m) None i j h e =
      let no : said_at name_of book 0 ≡ Some a = ap (said_at name_of book) (sym e) ∙ said_at-number name_of book a m i in absurd cc
  once_if book a b (Some m) (Some k) i j h e = same_some (sym (said_at-number name_of book a m i) ∙ ap (said_at name_of book) e ∙ said_at-number name_of book b k j)

  -- a name that is there is the only one with its number
  pub once : (book : List Entry) (a b : List ℕ) → is_some (number_from name_of a 1 book) ≡ true → or_zero (number_from name_of a 1 book) ≡ or_zero (number_from name_of b 1 book) → a ≡ b
  once book a b h e = once_if book a b (number_from name_of a 1 book) (number_from name_of b 1 book) refl refl h e

-- ── things that a book has, have numbers ──

pub tail_there : (book : List Entry) (tail : List ℕ) → is_some (aircraft book tail) ≡ true → is_some (seq_of_tail book tail) ≡ true
tail_there book tail h = there_at tail_added book tail (seq_of_tail book tail) (tail_known book tail h)

pub serial_there : (book : List Entry) (serial : List ℕ) → is_some (component book serial) ≡ true → is_some (seq_of_serial book serial) ≡ true
serial_there book serial h = there_at serial_added book serial (seq_of_serial book serial) (serial_known book serial h)

pub defect_there : (book : List Entry) (doc : List ℕ) → is_some (defect book doc) ≡ true → is_some (seq_of_defect book doc) ≡ true
defect_there book doc h = there_at defect_deferred book doc (seq_of_defect book doc) (defect_known book doc h)

pub item_there : (book : List Entry) (item : Item) → has_item book item ≡ true → is_some (seq_of_item book item) ≡ true
item_there book (Airframe tail) h = tail_there book tail h
item_there book (Component serial) h = serial_there book serial h

-- ── items ──

pub item_stays : (before more : List Entry) (item : Item) → is_some (seq_of_item before item) ≡ true → seq_of_item (before ++ more) item ≡ seq_of_item before item
item_stays before more (Airframe tail) h = stays tail_added before more tail h
item_stays before more (Component serial) h = stays serial_added before more serial h

not_both : (doc : List ℕ) (act : Act) (tail serial : List ℕ) → tail_added (record { doc = doc; act = act }) ≡ Some tail → serial_added (record { doc = doc; act = act }) ≡ Some serial → ⊥
not_both doc (Added a positions) tail serial h k = (cc)
not_both doc _ tail serial h k = (cc)

not_both_at : (o : Option Entry) (tail serial : List ℕ) → option_and_then tail_added o ≡ Some tail → option_and_then serial_added o ≡ Some serial → ⊥
not_both_at None tail serial h k = (cc)
not_both_at (Some e) tail serial h k = not_both e.doc e.act tail serial h k

-- no aircraft has the number of a component
other_if : (book : List Entry) (tail serial : List ℕ) (o p : Option ℕ) → seq_of_tail book tail ≡ o → seq_of_serial book serial ≡ p → or_zero o ≡ or_zero p → is_some o ≡ true → ⊥
other_if book tail serial None p i j e h = (cc)
other_if book tail serial (Some m) None i j e h = let no : tail_at book 0 ≡ Some tail = ap (tail_at book) (sym e) ∙ said_at-number tail_added book tail m i in (cc)
other_if book tail serial (Some m) (Some k) i j e h = not_both_at (entry_at book k) tail serial (ap (tail_at book) (sym e) ∙ said_at-number tail_added book tail m i) (said_at-number serial_added book serial k j)

other_if' : (book : List Entry) (tail serial : List ℕ) (o p : Option ℕ) → seq_of_tail book tail ≡ o → seq_of_serial book serial ≡ p → or_zero p ≡ or_zero o → is_some p ≡ true → ⊥
other_if' book tail serial o None i j e h = (cc)
other_if' book tail serial None (Some k) i j e h = let no : serial_at book 0 ≡ Some serial = ap (serial_at book) (sym e) ∙ said_at-number serial_added book serial k j in (cc)
other_if' book tail serial (Some m) (Some k) i j e h = other_if book tail serial (Some m) (Some k) i j (sym e) refl

-- an item that is there is the only one with its number
pub item_once : (book : List Entry) (a b : Item) → is_some (seq_of_item book a) ≡ true → or_zero (seq_of_item book a) ≡ or_zero (seq_of_item book b) → a ≡ b
item_once book (Airframe a) (Airframe b) h e = ap Airframe (once tail_added book a b h e)
item_once book (Component a) (Component b) h e = ap Component (once serial_added book a b h e)
item_once book (Airframe a) (Component b) h e = absurd (other_if book a b (seq_of_tail book a) (seq_of_serial book b) refl refl e h)
item_once book (Component a) (Airframe b) h e = absurd (other_if' book b a (seq_of_tail book b) (seq_of_serial book a) refl refl e h)
