-- The entry that added a thing: its number by the name, and the name by its number.
use Rattle.std.proofs.Common.{arith, ◌≡◌, ℕ, ◌+◌, zero, suc, List, [], ◌∷◌, ◌++◌, length, Bool, true, false, cond, Option, Some, None, refl, sym, ap, ◌∙◌, append_assoc, length-append, add-one}
use Rattle.std.specs.Prelude.{is_some, find}
use Rattle.std.specs.List.{slice_get, cons_option, filter_map}
use Rattle.std.specs.Option.{option_map, option_map_or, option_and_then}
use Rattle.mx_book.specs.commands.Act.{Act, Entry, Added, Listed, aircraft_of, component_of, deferral_of}
use Rattle.mx_book.specs.commands.Same.{same_text}
use Rattle.mx_book.specs.declared.commands.aircraft.Aircraft.{Aircraft}
use Rattle.mx_book.specs.declared.commands.component.Component.{Component}
use Rattle.mx_book.specs.declared.commands.deferral.Deferral.{Deferral}
use Rattle.mx_book.specs.declared.commands.item.Item.{Item}
use Rattle.mx_book.specs.declared.commands.item.Item.TheVariants as items
use Rattle.mx_book.proofs.CommandsProofs.SameLemmas.{text_same}
use Rattle.mx_book.specs.declared.defects.Defect.{Defect}
use Rattle.mx_book.specs.Defect.{deferred_by, defect}
use Rattle.mx_book.specs.Register.{aircraft, component}
use Rattle.mx_book.specs.Judge.{judge, known_from}
use Rattle.mx_book.specs.Book.{is_new, is_book_from, entry_at}
use Rattle.mx_book.proofs.JudgeLemmas.{both_true, is_new-New}
use Rattle.mx_book.proofs.KnownLemmas.{unknown_document}
use Rattle.mx_registers.specs.Names.{adds_named, number_from, said_at, tail_added, serial_added, defect_deferred, item_added, seq_of_tail, seq_of_serial, seq_of_defect, seq_of_item, tail_at, serial_at, defect_at, item_at, or_zero, has_item}
use Rattle.mx_registers.proofs.NewLemmas.{added_is_unknown, listed_is_unknown}

named : (o : Option (List ℕ)) (name : List ℕ) → option_map_or (λ added. same_text added name) o false ≡ true → o ≡ Some name
named None name h = (cc)
named (Some added) name h = ap (λ (t : List ℕ). Some t) ((text_same added name).0 h)

names : (o : Option (List ℕ)) (name : List ℕ) → o ≡ Some name → option_map_or (λ added. same_text added name) o false ≡ true
names o name h = ap (λ (p : Option (List ℕ)). option_map_or (λ added. same_text added name) p false) h ∙ (text_same name name).1 refl

none_of : (o : Option ℕ) → is_some o ≡ false → o ≡ None
none_of None h = refl
none_of (Some seq) h = (cc)

some_of : (o : Option ℕ) → is_some o ≡ true → o ≡ Some (or_zero o)
some_of None h = (cc)
some_of (Some seq) h = refl

module _ (name_of : Entry → Option (List ℕ)) where
  -- ── the entry whose number is found added the thing ──

  slice_get_seam : (before : List Entry) (entry : Entry) (later : List Entry) → slice_get (before ++ entry ∷ later) (length before) ≡ Some entry
  slice_get_seam [] entry later = refl
  slice_get_seam (e ∷ before) entry later = slice_get_seam before entry later

  said_at_seam : (before : List Entry) (entry : Entry) (later : List Entry) → said_at name_of (before ++ entry ∷ later) (length before + 1) ≡ name_of entry
  said_at_seam before entry later =
      ap (said_at name_of (before ++ entry ∷ later)) (add-one (length before)) ∙ ap (option_and_then name_of) (slice_get_seam before entry later)

  at_if : (b : Bool) (k seq : ℕ) (later : Option ℕ) (goal : ℕ → Option (List ℕ)) (name : List ℕ) → (b ≡ true → goal k ≡ Some name) → (later ≡ Some seq → goal seq ≡ Some name)
      → cond b (Some k) later ≡ Some seq → goal seq ≡ Some name
  at_if true k seq later goal name here there h = let same : k ≡ seq = cc in sym (ap goal same) ∙ here refl
  at_if false k seq later goal name here there h = there h

  said_at_from : (name : List ℕ) (seq : ℕ) (before later : List Entry) → number_from name_of name (length before + 1) later ≡ Some seq → said_at name_of (before ++ later) seq ≡ Some name
  said_at_from name seq before [] h = (cc)
  said_at_from name seq before (entry ∷ later) h =
      let one : length (before ++ entry ∷ []) ≡ length before + 1 = length-append before (entry ∷ []) in
      at_if (adds_named name_of name entry) (length before + 1) seq (number_from name_of name (length before + 1 + 1) later) (said_at name_of (before ++ entry ∷ later)) name
      (λ this. said_at_seam before entry later ∙ named (name_of entry) name this)
      (λ g. ap (λ (es : List Entry). said_at name_of es seq) (sym (append_assoc before (entry ∷ []) later))
      ∙ said_at_from name seq (before ++ entry ∷ []) later (ap (λ (n : ℕ). number_from name_of name (n + 1) later) one ∙ g)) h

  -- the entry whose number is found added the thing with this name
  pub said_at-number : (book : List Entry) (name : List ℕ) (seq : ℕ) → number_from name_of name 1 book ≡ Some seq → said_at name_of book seq ≡ Some name
  said_at-number book name seq h = said_at_from name seq [] book h

  -- ── in a book the entry that added the thing is the one that is found ──

  stays_if : (b : Bool) (k : ℕ) (o p : Option ℕ) → (is_some o ≡ true → is_some p ≡ true) → is_some (cond b (Some k) o) ≡ true → is_some (cond b (Some k) p) ≡ true
  stays_if true k o p f h = refl
  stays_if false k o p f h = f h

  -- a name that is found stays so
  stays : (name : List ℕ) (k : ℕ) (before more : List Entry) → is_some (number_from name_of name k before) ≡ true → is_some (number_from name_of name k (before ++ more)) ≡ true
  stays name k [] more h = (cc)
  stays name k (e ∷ before) more h =
      stays_if (adds_named name_of name e) k (number_from name_of name (k + 1) before) (number_from name_of name (k + 1) (before ++ more)) (stays name (k + 1) before more) h

  becomes_if : (b : Bool) (k : ℕ) (o : Option ℕ) → is_some o ≡ true → is_some (cond b (Some k) o) ≡ true
  becomes_if true k o h = refl
  becomes_if false k o h = h

  added_if : (b : Bool) (k : ℕ) → b ≡ true → is_some (cond b (Some k) None) ≡ true
  added_if true k h = refl
  added_if false k h = (cc)

  -- a name is found once an entry adds it
  becomes : (name : List ℕ) (k : ℕ) (before : List Entry) (entry : Entry) → adds_named name_of name entry ≡ true → is_some (number_from name_of name k (before ++ entry ∷ [])) ≡ true
  becomes name k [] entry h = added_if (adds_named name_of name entry) k h
  becomes name k (e ∷ before) entry h = becomes_if (adds_named name_of name e) k (number_from name_of name (k + 1) (before ++ entry ∷ [])) (becomes name (k + 1) before entry h)

  -- a command that is new adds no name that is there
  abbrev AddsNew : Type 0
  AddsNew = (before : List Entry) (entry : Entry) (name : List ℕ) → is_new (judge before entry) ≡ true → name_of entry ≡ Some name → is_some (number_from name_of name 1 before) ≡ false

  no_second : AddsNew → (name : List ℕ) (before later : List Entry) (k : ℕ) → is_some (number_from name_of name 1 before) ≡ true → is_book_from before later ≡ true → said_at name_of later (suc k) ≡ Some name → ⊥
  no_second fresh name before [] k h judged e = (cc)
  no_second fresh name before (entry ∷ later) zero h judged e =
      let both = both_true (is_new (judge before entry)) (is_book_from (before ++ entry ∷ []) later) judged in
      let free = fresh before entry name both.0 e in (cc)
  no_second fresh name before (entry ∷ later) (suc k) h judged e =
      let both = both_true (is_new (judge before entry)) (is_book_from (before ++ entry ∷ []) later) judged in
      no_second fresh name (before ++ entry ∷ []) later k (stays name 1 before (entry ∷ []) h) both.1 e

  later_if : (b : Bool) (k seq : ℕ) (o : Option ℕ) → (b ≡ true → ⊥) → o ≡ Some seq → cond b (Some k) o ≡ Some seq
  later_if true k seq o other h = absurd (other refl)
  later_if false k seq o other h = h

  number_at : AddsNew → (name : List ℕ) (before later : List Entry) (k : ℕ) → is_book_from before later ≡ true → said_at name_of later (suc k) ≡ Some name → number_from name_of name (length before + 1) later ≡ Some (length before + suc k)
  number_at fresh name before [] k judged e = (cc)
  number_at fresh name before (entry ∷ later) zero judged e =
      ap (λ b. cond b (Some (length before + 1)) (number_from name_of name (length before + 1 + 1) later)) (names (name_of entry) name e)
  number_at fresh name before (entry ∷ later) (suc k) judged e =
      let both = both_true (is_new (judge before entry)) (is_book_from (before ++ entry ∷ []) later) judged in
      let one : length (before ++ entry ∷ []) ≡ length before + 1 = length-append before (entry ∷ []) in
      let sum : length (before ++ entry ∷ []) + suc k ≡ length before + suc (suc k) = omega arith in
      let rest = ap (λ (n : ℕ). number_from name_of name (n + 1) later) (sym one) ∙ number_at fresh name (before ++ entry ∷ []) later k both.1 e ∙ ap (λ (n : ℕ). Some n) sum in
      later_if (adds_named name_of name entry) (length before + 1) (length before + suc (suc k)) (number_from name_of name (length before + 1 + 1) later)
      (λ again. no_second fresh name (before ++ entry ∷ []) later k (becomes name 1 before entry again) both.1 e) rest

  -- the entry of a book that added the thing with this name is the one whose number is found
  pub number-said_at : AddsNew → (book : List Entry) (name : List ℕ) (seq : ℕ) → is_book_from [] book ≡ true → said_at name_of book seq ≡ Some name → number_from name_of name 1 book ≡ Some seq
  number-said_at fresh book name zero judged e = (cc)
  number-said_at fresh book name (suc k) judged e = number_at fresh name [] book k judged e ∙ let same : 0 + suc k ≡ suc k = omega arith in ap (λ (n : ℕ). Some n) same

-- ── a thing that the book has is found by its number ──

module _ {X : Type 0} (pick : Entry → Option X) (name : X → List ℕ) where
  found_if : (b : Bool) (x : X) (k : ℕ) (o : Option X) (p : Option ℕ) → is_some o ≡ is_some p → is_some (cond b (Some x) o) ≡ is_some (cond b (Some k) p)
  found_if true x k o p h = refl
  found_if false x k o p h = h

  found_step : (text : List ℕ) (k : ℕ) (o : Option X) (rest : List X) (p : Option ℕ) → is_some (find (λ x. same_text (name x) text) rest) ≡ is_some p
      → is_some (find (λ x. same_text (name x) text) (cons_option o rest)) ≡ is_some (cond (option_map_or (λ added. same_text added text) (option_map name o) false) (Some k) p)
  found_step text k None rest p h = h
  found_step text k (Some x) rest p h = found_if (same_text (name x) text) x k (find (λ x. same_text (name x) text) rest) p h

  found_from : (text : List ℕ) (k : ℕ) (book : List Entry) → is_some (find (λ x. same_text (name x) text) (filter_map pick book)) ≡ is_some (number_from (λ entry. option_map name (pick entry)) text k book)
  found_from text k [] = refl
  found_from text k (e ∷ book) = found_step text k (pick e) (filter_map pick book) (number_from (λ entry. option_map name (pick entry)) text (k + 1) book) (found_from text (k + 1) book)

aircraft_found : (book : List Entry) (tail : List ℕ) → is_some (aircraft book tail) ≡ is_some (seq_of_tail book tail)
aircraft_found book tail = found_from (λ (e : Entry). aircraft_of e.act) (λ (a : Aircraft). a.tail) tail 1 book

component_found : (book : List Entry) (serial : List ℕ) → is_some (component book serial) ≡ is_some (seq_of_serial book serial)
component_found book serial = found_from (λ (e : Entry). component_of e.act) (λ (c : Component). c.serial) serial 1 book

defect_found : (book : List Entry) (doc : List ℕ) → is_some (defect book doc) ≡ is_some (seq_of_defect book doc)
defect_found book doc = found_from deferred_by (λ (d : Defect). d.doc) doc 1 book

-- an aircraft that the book has is the one that the entry of its number added
pub tail_known : (book : List Entry) (tail : List ℕ) → is_some (aircraft book tail) ≡ true → tail_at book (or_zero (seq_of_tail book tail)) ≡ Some tail
tail_known book tail h = said_at-number tail_added book tail (or_zero (seq_of_tail book tail)) (some_of (seq_of_tail book tail) (sym (aircraft_found book tail) ∙ h))

-- a component that the book has is the one that the entry of its number added
pub serial_known : (book : List Entry) (serial : List ℕ) → is_some (component book serial) ≡ true → serial_at book (or_zero (seq_of_serial book serial)) ≡ Some serial
serial_known book serial h = said_at-number serial_added book serial (or_zero (seq_of_serial book serial)) (some_of (seq_of_serial book serial) (sym (component_found book serial) ∙ h))

-- a defect that was deferred is the one that the entry of its number deferred
pub defect_known : (book : List Entry) (doc : List ℕ) → is_some (defect book doc) ≡ true → defect_at book (or_zero (seq_of_defect book doc)) ≡ Some doc
defect_known book doc h = said_at-number defect_deferred book doc (or_zero (seq_of_defect book doc)) (some_of (seq_of_defect book doc) (sym (defect_found book doc) ∙ h))

tail_by : (before : List Entry) (doc : List ℕ) (act : Act) (tail : List ℕ) → is_new (judge before (record { doc = doc; act = act })) ≡ true → tail_added (record { doc = doc; act = act }) ≡ Some tail → is_some (seq_of_tail before tail) ≡ false
tail_by before doc (Added a positions) tail new e =
    let same : a.tail ≡ tail = cc in
    sym (aircraft_found before tail) ∙ ap (λ (t : List ℕ). is_some (aircraft before t)) (sym same) ∙ added_is_unknown before doc a positions new
tail_by before doc _ tail new e = (cc)

serial_by : (before : List Entry) (doc : List ℕ) (act : Act) (serial : List ℕ) → is_new (judge before (record { doc = doc; act = act })) ≡ true → serial_added (record { doc = doc; act = act }) ≡ Some serial → is_some (seq_of_serial before serial) ≡ false
serial_by before doc (Listed c) serial new e =
    let same : c.serial ≡ serial = cc in
    sym (component_found before serial) ∙ ap (λ (t : List ℕ). is_some (component before t)) (sym same) ∙ listed_is_unknown before doc c new
serial_by before doc _ serial new e = (cc)

-- in a book the entry that added an aircraft is the one whose number is found
pub tail_number : (book : List Entry) (tail : List ℕ) (seq : ℕ) → is_book_from [] book ≡ true → tail_at book seq ≡ Some tail → seq ≡ or_zero (seq_of_tail book tail)
tail_number book tail seq judged e = sym (ap or_zero (number-said_at tail_added (λ before entry name new is. tail_by before entry.doc entry.act name new is) book tail seq judged e))

-- in a book the entry that added a component is the one whose number is found
pub serial_number : (book : List Entry) (serial : List ℕ) (seq : ℕ) → is_book_from [] book ≡ true → serial_at book seq ≡ Some serial → seq ≡ or_zero (seq_of_serial book serial)
serial_number book serial seq judged e = sym (ap or_zero (number-said_at serial_added (λ before entry name new is. serial_by before entry.doc entry.act name new is) book serial seq judged e))

-- ── defects ──

other_document : (b : Bool) (k : ℕ) (e : Entry) (o : Option (ℕ × Entry)) → cond b (Some (k, e)) o ≡ None → (b ≡ false) × (o ≡ None)
other_document true k e o h = (cc)
other_document false k e o h = (refl, h)

-- an entry with another document defers another defect
other_defect : (doc : List ℕ) (o : Option Deferral) (name : List ℕ) → same_text doc name ≡ false
    → option_map_or (λ added. same_text added name) (option_map (λ (d : Defect). d.doc) (option_map (λ d. record { doc = doc; deferral = d }) o)) false ≡ false
other_defect doc None name h = refl
other_defect doc (Some d) name h = h

none_if : (b : Bool) (k : ℕ) (o : Option ℕ) → b ≡ false → is_some o ≡ false → is_some (cond b (Some k) o) ≡ false
none_if true k o h g = (cc)
none_if false k o h g = g

-- no entry defers a defect that has a document which no entry has
unknown_defect : (doc : List ℕ) (k : ℕ) (book : List Entry) → known_from doc k book ≡ None → is_some (number_from defect_deferred doc k book) ≡ false
unknown_defect doc k [] h = refl
unknown_defect doc k (e ∷ book) h =
    let other = other_document (same_text e.doc doc) k e (known_from doc (k + 1) book) h in
    none_if (adds_named defect_deferred doc e) k (number_from defect_deferred doc (k + 1) book) (other_defect e.doc (deferral_of e.act) doc other.0) (unknown_defect doc (k + 1) book other.1)

own_document : (doc : List ℕ) (o : Option Deferral) (name : List ℕ) → option_map (λ (d : Defect). d.doc) (option_map (λ d. record { doc = doc; deferral = d }) o) ≡ Some name → doc ≡ name
own_document doc None name h = (cc)
own_document doc (Some d) name h = (cc)

defect_by : (before : List Entry) (entry : Entry) (doc : List ℕ) → is_new (judge before entry) ≡ true → defect_deferred entry ≡ Some doc → is_some (seq_of_defect before doc) ≡ false
defect_by before entry doc new e =
    let same = own_document entry.doc (deferral_of entry.act) doc e in
    ap (λ (name : List ℕ). is_some (seq_of_defect before name)) (sym same) ∙ unknown_defect entry.doc 1 before (unknown_document before entry (is_new-New (judge before entry) new))

-- in a book the entry that deferred a defect is the one whose number is found
pub defect_number : (book : List Entry) (doc : List ℕ) (seq : ℕ) → is_book_from [] book ≡ true → defect_at book seq ≡ Some doc → seq ≡ or_zero (seq_of_defect book doc)
defect_number book doc seq judged e = sym (ap or_zero (number-said_at defect_deferred defect_by book doc seq judged e))

-- ── items ──

airframe_of : (doc : List ℕ) (act : Act) (tail : List ℕ) → tail_added (record { doc = doc; act = act }) ≡ Some tail → item_added act ≡ Some (items.Airframe tail)
airframe_of doc (Added a positions) tail h = ap (option_map (λ (t : List ℕ). items.Airframe t)) h
airframe_of doc _ tail h = (cc)

-- an entry that adds an aircraft adds its airframe
pub airframe_at : (o : Option Entry) (tail : List ℕ) → option_and_then tail_added o ≡ Some tail → option_and_then (λ (e : Entry). item_added e.act) o ≡ Some (items.Airframe tail)
airframe_at None tail h = (cc)
airframe_at (Some e) tail h = airframe_of e.doc e.act tail h

component_of_serial : (doc : List ℕ) (act : Act) (serial : List ℕ) → serial_added (record { doc = doc; act = act }) ≡ Some serial → item_added act ≡ Some (items.Component serial)
component_of_serial doc (Listed c) serial h = ap (option_map (λ (s : List ℕ). items.Component s)) h
component_of_serial doc _ serial h = (cc)

-- one that adds a component adds the item
pub component_at : (o : Option Entry) (serial : List ℕ) → option_and_then serial_added o ≡ Some serial → option_and_then (λ (e : Entry). item_added e.act) o ≡ Some (items.Component serial)
component_at None serial h = (cc)
component_at (Some e) serial h = component_of_serial e.doc e.act serial h

-- an item that the book has is the one that the entry of its number added
pub item_known : (book : List Entry) (item : Item) → has_item book item ≡ true → item_at book (or_zero (seq_of_item book item)) ≡ Some item
item_known book (items.Airframe tail) h = airframe_at (entry_at book (or_zero (seq_of_tail book tail))) tail (tail_known book tail h)
item_known book (items.Component serial) h = component_at (entry_at book (or_zero (seq_of_serial book serial))) serial (serial_known book serial h)

tail_of : (doc : List ℕ) (act : Act) (tail : List ℕ) → item_added act ≡ Some (items.Airframe tail) → tail_added (record { doc = doc; act = act }) ≡ Some tail
tail_of doc (Added a positions) tail h = let same : a.tail ≡ tail = cc in ap (λ (t : List ℕ). Some t) same
tail_of doc _ tail h = (cc)

tail_from : (o : Option Entry) (tail : List ℕ) → option_and_then (λ (e : Entry). item_added e.act) o ≡ Some (items.Airframe tail) → option_and_then tail_added o ≡ Some tail
tail_from None tail h = (cc)
tail_from (Some e) tail h = tail_of e.doc e.act tail h

serial_of : (doc : List ℕ) (act : Act) (serial : List ℕ) → item_added act ≡ Some (items.Component serial) → serial_added (record { doc = doc; act = act }) ≡ Some serial
serial_of doc (Listed c) serial h = let same : c.serial ≡ serial = cc in ap (λ (s : List ℕ). Some s) same
serial_of doc _ serial h = (cc)

serial_from : (o : Option Entry) (serial : List ℕ) → option_and_then (λ (e : Entry). item_added e.act) o ≡ Some (items.Component serial) → option_and_then serial_added o ≡ Some serial
serial_from None serial h = (cc)
serial_from (Some e) serial h = serial_of e.doc e.act serial h

-- in a book the entry that added an item is the one whose number is found
pub item_number : (book : List Entry) (item : Item) (seq : ℕ) → is_book_from [] book ≡ true → item_at book seq ≡ Some item → seq ≡ or_zero (seq_of_item book item)
item_number book (items.Airframe tail) seq judged e = tail_number book tail seq judged (tail_from (entry_at book seq) tail e)
item_number book (items.Component serial) seq judged e = serial_number book serial seq judged (serial_from (entry_at book seq) serial e)
