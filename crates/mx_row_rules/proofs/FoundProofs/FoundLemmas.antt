-- What the first of the rows with a name says is what the definition of the book finds, and its number is that of the name.
use Rattle.std.proofs.Common.{◌≡◌, ℕ, zero, suc, ◌+◌, Bool, true, false, cond, List, [], ◌∷◌, ◌++◌, filter, length, map, take, Option, Some, None, refl, ap, ◌∙◌, length-append}
use Rattle.std.specs.Prelude.{find, nat_eq, slice_get}
use Rattle.std.specs.List.{cons_option, range_with_len, AllByRecursion}
use Rattle.std.specs.Option.{option_map, option_map_or, option_and_then}
use Rattle.mx_book.specs.commands.Act.{Act, Entry, aircraft_of, component_of}
use Rattle.mx_book.specs.commands.Same.{same_text}
use Rattle.mx_book.specs.declared.commands.aircraft.Aircraft.{Aircraft}
use Rattle.mx_book.specs.declared.commands.component.Component.{Component}
use Rattle.mx_book.specs.Judge.{known_from}
use Rattle.mx_book.specs.Register.{register, aircraft, component}
use Rattle.mx_registers.specs.Names.{number_from, said_at, seq_of_tail, seq_of_serial, tail_at, serial_at}
use Rattle.mx_registers.specs.Registers.{gives, gives_by, next, if_any, entry_added, entry_rows, aircraft_row, aircraft_rows, component_row, component_rows}
use Rattle.mx_base.specs.declared.rows.rows.AircraftRow.{AircraftRow}
use Rattle.mx_base.specs.declared.rows.rows.ComponentRow.{ComponentRow}
use Rattle.mx_base.specs.declared.rows.rows.EntryRow.{EntryRow}
use Rattle.mx_row_rules.specs.found.Names.{entry_number, aircraft_number, component_number, tail_in, serial_in}
use Rattle.mx_row_rules.specs.found.Said.{aircraft_said, aircraft_in, component_said, component_in}
use Rattle.std.proofs.Common.{◌≡◌, ℕ, ◌+◌, Bool, true, false, ◌&&◌, cond, List, [], ◌∷◌, ◌++◌, filter, length, Option, Some, refl, ap, ◌∙◌, length-append}
use Rattle.std.specs.Prelude.{find}
use Rattle.std.specs.Option.{option_map}
use Rattle.mx_book.specs.commands.Act.{Act, Entry, Deferred}
use Rattle.mx_registers.specs.Names.{number_from, adds_named, defect_deferred, seq_of_defect}
use Rattle.mx_registers.specs.Registers.{gives, entry_added, entry_rows, kind_of}
use Rattle.mx_row_rules.specs.found.Names.{is_deferral}
use Rattle.mx_row_rules.proofs.FoundProofs.ListLemmas.{first_if, first_left}
use Rattle.mx_row_rules.proofs.FoundProofs.EntryLemmas.{given_by, rows_numbered}

-- ── a register whose rows have names ──

-- a register: what an entry says for it, its row, and the name of it, in what is said and in the row
module _ {X Row : Type 0} (pick : Act → Option X) (name : X → List ℕ) (row : ℕ → X → Row) (seq : Row → ℕ) (label : Row → List ℕ) (said : Row → X) (seq_is : (n : ℕ) (x : X) → seq (row n x) ≡ n) (label_is : (n : ℕ) (x : X) → label (row n x) ≡ name x) (said_is : (n : ℕ) (x : X) → said (row n x) ≡ x) (text : List ℕ) where
  abbrev name_of : Entry → Option (List ℕ)
  name_of e = option_map name (pick e.act)

  abbrev picks : Row → Bool
  picks r = same_text (label r) text

  abbrev is_named : X → Bool
  is_named x = same_text (name x) text

  abbrev by : List Entry → Act → List Row
  by before act = if_any (row (next before)) (pick act)

  said_step : (n : ℕ) (o : Option X) (rows : List Row) (xs : List X) → option_map said (find picks rows) ≡ find is_named xs → option_map said (find picks (if_any (row n) o ++ rows)) ≡ find is_named (cons_option o xs)
  said_step n None rows xs h = h
  said_step n (Some x) rows xs h = first_if said (picks (row n x)) (is_named x) (row n x) x (find picks rows) (find is_named xs) (ap (λ t. same_text t text) (label_is n x)) (said_is n x) h

  said_from : (before later : List Entry) → option_map said (find picks (gives_by by before later)) ≡ find is_named (register pick later)
  said_from before [] = refl
  said_from before (e ∷ later) = said_step (next before) (pick e.act) (gives_by by (before ++ e ∷ []) later) (register pick later) (said_from (before ++ e ∷ []) later)

  -- what the first row with the name says is the first thing with the name
  pub named_said : (book : List Entry) → option_map said (slice_get (filter picks (gives_by by [] book)) 0) ≡ find is_named (register pick book)
  named_said book = ap (option_map said) (first_left picks (gives_by by [] book)) ∙ said_from [] book

  number_step : (n : ℕ) (o : Option X) (rows : List Row) (p : Option ℕ) → option_map seq (find picks rows) ≡ p
      → option_map seq (find picks (if_any (row n) o ++ rows)) ≡ cond (option_map_or (λ t. same_text t text) (option_map name o) false) (Some n) p
  number_step n None rows p h = h
  number_step n (Some x) rows p h = first_if seq (picks (row n x)) (is_named x) (row n x) n (find picks rows) p (ap (λ t. same_text t text) (label_is n x)) (seq_is n x) h

  number_found_from : (before later : List Entry) → option_map seq (find picks (gives_by by before later)) ≡ number_from name_of text (length before + 1) later
  number_found_from before [] = refl
  number_found_from before (e ∷ later) =
      let one : length (before ++ e ∷ []) ≡ length before + 1 = length-append before (e ∷ []) in
      number_step (next before) (pick e.act) (gives_by by (before ++ e ∷ []) later) _ (number_found_from (before ++ e ∷ []) later ∙ ap (λ (n : ℕ). number_from name_of text (n + 1) later) one)

  -- and its number is that of the name
  pub named_number : (book : List Entry) → option_map seq (slice_get (filter picks (gives_by by [] book)) 0) ≡ number_from name_of text 1 book
  named_number book = ap (option_map seq) (first_left picks (gives_by by [] book)) ∙ number_found_from [] book

  one_numbered : (before : List Entry) (e : Entry) → AllByRecursion (λ r. seq r ≡ length before + 1) (by before e.act)
  one_numbered before e = at (pick e.act)
    where
      at : (o : Option X) → AllByRecursion (λ r. seq r ≡ length before + 1) (if_any (row (next before)) o)
      at None = tt
      at (Some x) = (seq_is (next before) x, tt)

  -- the first row with a number has the name that the entry with that number added
  pub numbered_name : (book : List Entry) (n : ℕ) → option_map label (slice_get (filter (λ r. nat_eq (seq r) n) (gives_by by [] book)) 0) ≡ said_at name_of book n
  numbered_name book n = ap (λ rows. option_map label (slice_get rows 0)) (rows_numbered seq (λ before e. by before e.act) one_numbered book n) ∙ at n
    where
      of_row : (m : ℕ) (o : Option X) → option_map label (slice_get (if_any (row m) o) 0) ≡ option_map name o
      of_row m None = refl
      of_row m (Some x) = ap (λ (t : List ℕ). Some t) (label_is m x)

      of_entry : (before : List Entry) (o : Option Entry) → option_map label (slice_get (option_map_or (λ (e : Entry). by before e.act) o []) 0) ≡ option_and_then name_of o
      of_entry before None = refl
      of_entry before (Some e) = of_row (next before) (pick e.act)

      at : (m : ℕ) → option_map label (slice_get (given_by seq (λ before e. by before e.act) one_numbered book m) 0) ≡ said_at name_of book m
      at zero = refl
      at (suc k) = of_entry (take k book) (slice_get book k)

pub aircraft_is : (book : List Entry) (tail : List ℕ) → aircraft_in (filter (λ (r : AircraftRow). same_text r.tail tail) (aircraft_rows book)) ≡ aircraft book tail
aircraft_is book tail = named_said aircraft_of (λ (a : Aircraft). a.tail) aircraft_row (λ r. r.seq) (λ r. r.tail) aircraft_said (λ _ _. refl) (λ _ _. refl) (λ _ _. refl) tail book

pub tail_is : (book : List Entry) (tail : List ℕ) → aircraft_number (filter (λ (r : AircraftRow). same_text r.tail tail) (aircraft_rows book)) ≡ seq_of_tail book tail
tail_is book tail = named_number aircraft_of (λ (a : Aircraft). a.tail) aircraft_row (λ r. r.seq) (λ r. r.tail) aircraft_said (λ _ _. refl) (λ _ _. refl) (λ _ _. refl) tail book

pub component_is : (book : List Entry) (serial : List ℕ) → component_in (filter (λ (r : ComponentRow). same_text r.serial serial) (component_rows book)) ≡ component book serial
component_is book serial = named_said component_of (λ (c : Component). c.serial) component_row (λ r. r.seq) (λ r. r.serial) component_said (λ _ _. refl) (λ _ _. refl) (λ _ _. refl) serial book

pub serial_is : (book : List Entry) (serial : List ℕ) → component_number (filter (λ (r : ComponentRow). same_text r.serial serial) (component_rows book)) ≡ seq_of_serial book serial
serial_is book serial = named_number component_of (λ (c : Component). c.serial) component_row (λ r. r.seq) (λ r. r.serial) component_said (λ _ _. refl) (λ _ _. refl) (λ _ _. refl) serial book

pub tail_numbered : (book : List Entry) (n : ℕ) → tail_in (filter (λ (r : AircraftRow). nat_eq r.seq n) (aircraft_rows book)) ≡ tail_at book n
tail_numbered book n = numbered_name aircraft_of (λ (a : Aircraft). a.tail) aircraft_row (λ r. r.seq) (λ r. r.tail) aircraft_said (λ _ _. refl) (λ _ _. refl) (λ _ _. refl) [] book n

pub serial_numbered : (book : List Entry) (n : ℕ) → serial_in (filter (λ (r : ComponentRow). nat_eq r.seq n) (component_rows book)) ≡ serial_at book n
serial_numbered book n = numbered_name component_of (λ (c : Component). c.serial) component_row (λ r. r.seq) (λ r. r.serial) component_said (λ _ _. refl) (λ _ _. refl) (λ _ _. refl) [] book n

-- ── entries ──

seq_if : (b : Bool) (n : ℕ) (e : Entry) (r : EntryRow) (o : Option EntryRow) (p : Option (ℕ × Entry)) → r.seq ≡ n → option_map (λ (x : EntryRow). x.seq) o ≡ option_map (λ (k : ℕ × Entry). k.0) p
    → option_map (λ (x : EntryRow). x.seq) (cond b (Some r) o) ≡ option_map (λ (k : ℕ × Entry). k.0) (cond b (Some (n, e)) p)
seq_if true n e r o p i h = ap (λ (k : ℕ). Some k) i
seq_if false n e r o p i h = h

seq_from : (doc : List ℕ) (before later : List Entry) → option_map (λ (x : EntryRow). x.seq) (find (λ (r : EntryRow). same_text r.doc doc) (gives entry_added before later)) ≡ option_map (λ (k : ℕ × Entry). k.0) (known_from doc (length before + 1) later)
seq_from doc before [] = refl
seq_from doc before (e ∷ later) =
    let one : length (before ++ e ∷ []) ≡ length before + 1 = length-append before (e ∷ []) in
    seq_if (same_text e.doc doc) (length before + 1) e _ _ _ refl (seq_from doc (before ++ e ∷ []) later ∙ ap (λ (n : ℕ). option_map (λ (k : ℕ × Entry). k.0) (known_from doc (n + 1) later)) one)

-- the number of the entry that is found by its document
pub entry_is : (book : List Entry) (doc : List ℕ) → entry_number (filter (λ (r : EntryRow). same_text r.doc doc) (entry_rows book)) ≡ option_map (λ (k : ℕ × Entry). k.0) (known_from doc 1 book)
entry_is book doc = ap (option_map (λ (x : EntryRow). x.seq)) (first_left (λ (r : EntryRow). same_text r.doc doc) (entry_rows book)) ∙ seq_from doc [] book

counted_from : (before later : List Entry) → length (gives entry_added before later) ≡ length later
counted_from before [] = refl
counted_from before (e ∷ later) = ap suc (counted_from (before ++ e ∷ []) later)

pub entries_counted : (book : List Entry) → length (entry_rows book) ≡ length book
entries_counted = counted_from []

numbered_from : (before later : List Entry) → map (λ (e : EntryRow). e.seq) (gives entry_added before later) ≡ range_with_len (length before + 1) (length later)
numbered_from before [] = refl
numbered_from before (e ∷ later) =
    let one : length (before ++ e ∷ []) ≡ length before + 1 = length-append before (e ∷ []) in
    ap (λ (l : List ℕ). (length before + 1) ∷ l) (numbered_from (before ++ e ∷ []) later ∙ ap (λ (n : ℕ). range_with_len (n + 1) (length later)) one)

pub entries_numbered : (book : List Entry) → map (λ (e : EntryRow). e.seq) (entry_rows book) ≡ range_with_len 1 (length book)
entries_numbered book = numbered_from [] book

-- ── deferrals ──

found_if : {X : Type 0} (b c : Bool) (p : X → Bool) (x : X) (xs : List X) (o : Option X) → p x ≡ c → find p xs ≡ o → find p (cond b (x ∷ xs) xs) ≡ cond (b && c) (Some x) o
found_if true true p x xs o e h = ap (λ c. cond c (Some x) (find p xs)) e
found_if true false p x xs o e h = ap (λ c. cond c (Some x) (find p xs)) e ∙ h
found_if false c p x xs o e h = h

-- the first that passes one test of those that pass another passes both
found_left : {X : Type 0} (p q : X → Bool) (xs : List X) → find p (filter q xs) ≡ find (λ x. q x && p x) xs
found_left p q [] = refl
found_left p q (x ∷ xs) = found_if (q x) (p x) p x (filter q xs) (find (λ y. q y && p y) xs) refl (found_left p q xs)

and_true : (b : Bool) → b && true ≡ b
and_true true = refl
and_true false = refl

and_false : (b : Bool) → b && false ≡ false
and_false true = refl
and_false false = refl

defers : (name doc : List ℕ) (act : Act) → same_text name doc && is_deferral (kind_of act) ≡ adds_named defect_deferred doc (record { doc = name; act = act })
defers name doc (Deferred d) = and_true (same_text name doc)
defers name doc _ = and_false (same_text name doc)

defect_from : (doc : List ℕ) (before later : List Entry) → option_map (λ (x : EntryRow). x.seq) (find (λ (r : EntryRow). same_text r.doc doc && is_deferral r.kind) (gives entry_added before later)) ≡ number_from defect_deferred doc (length before + 1) later
defect_from doc before [] = refl
defect_from doc before (e ∷ later) =
    let one : length (before ++ e ∷ []) ≡ length before + 1 = length-append before (e ∷ []) in
    first_if (λ (x : EntryRow). x.seq) _ (adds_named defect_deferred doc e) _ (length before + 1) _ _ (defers e.doc doc e.act) refl (defect_from doc (before ++ e ∷ []) later ∙ ap (λ (n : ℕ). number_from defect_deferred doc (n + 1) later) one)

-- the number of the defect that is found by its document
pub defect_is : (book : List Entry) (doc : List ℕ) → option_map (λ (x : EntryRow). x.seq) (find (λ (r : EntryRow). is_deferral r.kind) (filter (λ (r : EntryRow). same_text r.doc doc) (entry_rows book))) ≡ seq_of_defect book doc
defect_is book doc = ap (option_map (λ (x : EntryRow). x.seq)) (found_left (λ (r : EntryRow). is_deferral r.kind) (λ (r : EntryRow). same_text r.doc doc) (entry_rows book)) ∙ defect_from doc [] book
