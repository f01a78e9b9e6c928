-- The positions of an aircraft, by the rows that have its number; how many aircraft and components there are, and their names.
use Rattle.std.proofs.Common.{◌≡◌, ℕ, zero, suc, ◌+◌, Bool, true, false, cond, List, [], ◌∷◌, ◌++◌, filter, map, length, take, nat_eq, Option, Some, None, refl, sym, ap, ap₂, ◌∙◌, length-append, append_assoc, append-nil, add-one}
use Rattle.std.specs.Prelude.{is_some, slice_get, nat_lt}
use Rattle.std.specs.List.{cons_option, flat_map}
use Rattle.std.specs.Option.{option_and_then, option_map, option_map_or, option_or}
use Rattle.mx_book.specs.commands.Act.{Act, Entry, Added, aircraft_of, component_of, positions_of}
use Rattle.mx_book.specs.commands.Same.{same_text}
use Rattle.mx_book.proofs.CommandsProofs.SameLemmas.{text_same}
use Rattle.mx_book.specs.declared.limits.TheConstants.{MOST_AIRCRAFT, MOST_COMPONENTS}
use Rattle.mx_book.specs.Book.{IsBook, is_book_from, is_new, entry_at}
use Rattle.mx_book.specs.Judge.{judge}
use Rattle.mx_book.specs.Register.{register, aircraft, has_room_for_aircraft, has_room_for_component, part_among, part_at, positions_added}
use Rattle.mx_book.proofs.JudgeLemmas.{both_true}
use Rattle.mx_registers.specs.Lines.{lines_from}
use Rattle.mx_registers.specs.Names.{adds_named, number_from, seq_of_tail, tail_added, tail_at}
use Rattle.mx_registers.specs.Registers.{gives_by, if_any, next, aircraft_row, aircraft_rows, component_row, component_rows, place_row, place_rows}
use Rattle.mx_registers.proofs.NameLemmas.{said_at-number}
use Rattle.mx_registers.proofs.NewLemmas.{added_is_unknown}
use Rattle.mx_base.specs.declared.rows.rows.AircraftRow.{AircraftRow}
use Rattle.mx_base.specs.declared.rows.rows.ComponentRow.{ComponentRow}
use Rattle.mx_base.specs.declared.rows.rows.PlaceRow.{PlaceRow}
use Rattle.mx_registers.proofs.KeptProofs.SpanRows.{number-append}
use Rattle.mx_row_rules.specs.found.Given.{places}
use Rattle.mx_row_rules.specs.found.Said.{part_in}
use Rattle.mx_row_rules.proofs.FoundProofs.EntryLemmas.{get_seam, given_by, rows_at}
use Rattle.mx_row_rules.proofs.FoundProofs.ListLemmas.{some_is}
use Rattle.mx_row_rules.proofs.FoundProofs.NumberLemmas.{stays}
use Rattle.mx_row_rules.proofs.FoundProofs.RowLemmas.{places_law}
use Rattle.mx_row_rules.proofs.FoundProofs.ThereLemmas.{tail_there}

-- ── which entry says the positions of an aircraft ──

module _ (tail : List ℕ) where
  abbrev said_by : Entry → List (List ℕ × List ℕ)
  said_by e = positions_added tail e.act

  -- an entry that does not add the aircraft says none
  unsaid : (doc : List ℕ) (act : Act) → adds_named tail_added tail (record { doc = doc; act = act }) ≡ false → positions_added tail act ≡ []
  unsaid doc (Added a ps) h = ap (λ b. cond b ps []) h
  unsaid doc _ h = refl

  -- the entry that adds it says its positions
  said_all : (doc : List ℕ) (act : Act) → tail_added (record { doc = doc; act = act }) ≡ Some tail → positions_added tail act ≡ positions_of act
  said_all doc (Added a ps) h = let same : a.tail ≡ tail = cc in ap (λ b. cond b ps []) ((text_same a.tail tail).1 same)
  said_all doc _ h = absurd cc

  -- a new entry does not add an aircraft that is there
  no_second : (before : List Entry) (doc : List ℕ) (act : Act) → is_new (judge before (record { doc = doc; act = act })) ≡ true → is_some (seq_of_tail before tail) ≡ true → adds_named tail_added tail (record { doc = doc; act = act }) ≡ false
  no_second before doc (Added a ps) new known = at (same_text a.tail tail) refl
    where
      at : (b : Bool) → same_text a.tail tail ≡ b → b ≡ false
      at true e =
          let number = some_is (seq_of_tail before tail) known in
          let there = tail_there before tail number.0 number.1 in
          let free = ap (λ (t : List ℕ). is_some (aircraft before t)) (sym ((text_same a.tail tail).0 e)) ∙ added_is_unknown before doc a ps new in cc
      at false e = refl
  no_second before doc _ new known = refl

  none_later : (before later : List Entry) → is_book_from before later ≡ true → is_some (seq_of_tail before tail) ≡ true → flat_map said_by later ≡ []
  none_later before [] judged known = refl
  none_later before (e ∷ later) judged known =
      let both = both_true (is_new (judge before e)) (is_book_from (before ++ e ∷ []) later) judged in
      ap₂ ◌++◌ (unsaid e.doc e.act (no_second before e.doc e.act both.0 known))
      (none_later (before ++ e ∷ []) later both.1 (ap is_some (stays tail_added before (e ∷ []) tail known) ∙ known))

  or_some : (o : Option ℕ) (b : Bool) (k : ℕ) → b ≡ true → is_some (option_or o (cond b (Some k) None)) ≡ true
  or_some None true k h = refl
  or_some (Some n) b k h = refl
  or_some None false k h = absurd cc

  -- an aircraft that an entry adds is there behind it
  added_there : (before : List Entry) (e : Entry) → adds_named tail_added tail e ≡ true → is_some (seq_of_tail (before ++ e ∷ []) tail) ≡ true
  added_there before e h = ap is_some (number-append tail_added tail 1 before (e ∷ [])) ∙ or_some (seq_of_tail before tail) (adds_named tail_added tail e) (1 + length before) h

  said_from : (n : ℕ) (before later : List Entry) → is_book_from before later ≡ true → number_from tail_added tail (length before + 1) later ≡ Some n → flat_map said_by later ≡ option_map_or said_by (entry_at (before ++ later) n) []
  said_from n before [] judged h = absurd cc
  said_from n before (e ∷ later) judged h = at (adds_named tail_added tail e) refl h (said_from n (before ++ e ∷ []) later both.1)
    where
      both : (is_new (judge before e) ≡ true) × (is_book_from (before ++ e ∷ []) later ≡ true)
      both = both_true (is_new (judge before e)) (is_book_from (before ++ e ∷ []) later) judged

      at : (b : Bool) → adds_named tail_added tail e ≡ b → cond b (Some (length before + 1)) (number_from tail_added tail (length before + 1 + 1) later) ≡ Some n
          → (number_from tail_added tail (length (before ++ e ∷ []) + 1) later ≡ Some n → flat_map said_by later ≡ option_map_or said_by (entry_at ((before ++ e ∷ []) ++ later) n) [])
          → said_by e ++ flat_map said_by later ≡ option_map_or said_by (entry_at (before ++ e ∷ later) n) []
      at true here g rest =
          let number : length before + 1 ≡ n = cc in
          ap (λ l. said_by e ++ l) (none_later (before ++ e ∷ []) later both.1 (added_there before e here)) ∙ append-nil (said_by e)
          ∙ sym (ap (λ o. option_map_or said_by o []) (ap (entry_at (before ++ e ∷ later)) (sym number ∙ add-one (length before)) ∙ get_seam before later e))
      at false other g rest =
          let one : length (before ++ e ∷ []) ≡ length before + 1 = length-append before (e ∷ []) in
          ap (λ l. l ++ flat_map said_by later) (unsaid e.doc e.act other)
          ∙ rest (ap (λ m. number_from tail_added tail (m + 1) later) one ∙ g)
          ∙ ap (λ (b : List Entry). option_map_or said_by (entry_at b n) []) (append_assoc before (e ∷ []) later)

  none_from : (k : ℕ) (later : List Entry) → number_from tail_added tail k later ≡ None → flat_map said_by later ≡ []
  none_from k [] h = refl
  none_from k (e ∷ later) h = at (adds_named tail_added tail e) refl h (none_from (k + 1) later)
    where
      at : (b : Bool) → adds_named tail_added tail e ≡ b → cond b (Some k) (number_from tail_added tail (k + 1) later) ≡ None → (number_from tail_added tail (k + 1) later ≡ None → flat_map said_by later ≡ []) → said_by e ++ flat_map said_by later ≡ []
      at true here g rest = absurd cc
      at false other g rest = ap₂ ◌++◌ (unsaid e.doc e.act other) (rest g)

  -- ── by rows ──

  part_if : (b : Bool) (row : PlaceRow) (p : List ℕ × List ℕ) (o : Option PlaceRow) (q : Option (List ℕ × List ℕ)) → row.part ≡ p.1 → option_map (λ (r : PlaceRow). r.part) o ≡ option_map (λ (x : List ℕ × List ℕ). x.1) q
      → option_map (λ (r : PlaceRow). r.part) (cond b (Some row) o) ≡ option_map (λ (x : List ℕ × List ℕ). x.1) (cond b (Some p) q)
  part_if true row p o q e h = ap (λ (t : List ℕ). Some t) e
  part_if false row p o q e h = h

  part_of_lines : (seq line : ℕ) (ps : List (List ℕ × List ℕ)) (position : List ℕ) → part_in (lines_from place_row seq line ps) position ≡ part_among ps position
  part_of_lines seq line [] position = refl
  part_of_lines seq line (p ∷ ps) position = part_if (same_text p.0 position) (place_row seq line p) p _ _ refl (part_of_lines seq (line + 1) ps position)

  pub part_found : (book : List Entry) (position : List ℕ) (n : ℕ) → IsBook book → seq_of_tail book tail ≡ Some n → part_in (filter (λ (r : PlaceRow). nat_eq r.seq n) (place_rows book)) position ≡ part_at book tail position
  part_found book position n b h =
      ap (λ rows. part_in rows position) (rows_at places places_law book n) ∙ at n (said_at-number tail_added book tail n h)
      ∙ ap (λ ps. part_among ps position) (sym (said_from n [] book b.judged h))
    where
      entry : (before : List Entry) (o : Option Entry) → option_and_then tail_added o ≡ Some tail
          → part_in (option_map_or (λ (e : Entry). lines_from place_row (next before) 1 (positions_of e.act)) o []) position ≡ part_among (option_map_or said_by o []) position
      entry before None g = absurd cc
      entry before (Some e) g = part_of_lines (next before) 1 (positions_of e.act) position ∙ ap (λ ps. part_among ps position) (sym (said_all e.doc e.act g))

      at : (m : ℕ) → tail_at book m ≡ Some tail → part_in (given_by places.seq (λ before e. places.given (next before) before e.act) (λ before e. places_law.numbered (next before) before e.act) book m) position ≡ part_among (option_map_or said_by (entry_at book m) []) position
      at zero g = absurd cc
      at (suc k) g = entry (take k book) (slice_get book k) g

  pub part_missed : (book : List Entry) (position : List ℕ) → seq_of_tail book tail ≡ None → part_at book tail position ≡ None
  part_missed book position h = ap (λ ps. part_among ps position) (none_from 1 book h)

-- ── how many there are ──

module _ {X Row : Type 0} (pick : Act → Option X) (row : ℕ → X → Row) where
  one_more : (n : ℕ) (o : Option X) (rows : List Row) (xs : List X) → length rows ≡ length xs → length (if_any (row n) o ++ rows) ≡ length (cons_option o xs)
  one_more n None rows xs h = h
  one_more n (Some x) rows xs h = ap suc h

  counted_from : (before later : List Entry) → length (gives_by (λ before act. if_any (row (next before)) (pick act)) before later) ≡ length (register pick later)
  counted_from before [] = refl
  counted_from before (e ∷ later) = one_more (next before) (pick e.act) _ (register pick later) (counted_from (before ++ e ∷ []) later)

pub room_for_aircraft : (book : List Entry) → nat_lt (length (aircraft_rows book)) MOST_AIRCRAFT ≡ has_room_for_aircraft book
room_for_aircraft book = ap (λ n. nat_lt n MOST_AIRCRAFT) (counted_from aircraft_of aircraft_row [] book)

pub room_for_components : (book : List Entry) → nat_lt (length (component_rows book)) MOST_COMPONENTS ≡ has_room_for_component book
room_for_components book = ap (λ n. nat_lt n MOST_COMPONENTS) (counted_from component_of component_row [] book)

-- ── the names of all of them ──

module _ {X Row : Type 0} (pick : Act → Option X) (row : ℕ → X → Row) (name_in : Row → List ℕ) (name : X → List ℕ) (same : (n : ℕ) (x : X) → name_in (row n x) ≡ name x) where
  one_named : (n : ℕ) (o : Option X) (rows : List Row) (xs : List X) → map name_in rows ≡ map name xs → map name_in (if_any (row n) o ++ rows) ≡ map name (cons_option o xs)
  one_named n None rows xs h = h
  one_named n (Some x) rows xs h = ap₂ ◌∷◌ (same n x) h

  named_from : (before later : List Entry) → map name_in (gives_by (λ before act. if_any (row (next before)) (pick act)) before later) ≡ map name (register pick later)
  named_from before [] = refl
  named_from before (e ∷ later) = one_named (next before) (pick e.act) _ (register pick later) (named_from (before ++ e ∷ []) later)

pub all_tails : (book : List Entry) → map (λ (row : AircraftRow). row.tail) (aircraft_rows book) ≡ map (λ a. a.tail) (register aircraft_of book)
all_tails book = named_from aircraft_of aircraft_row (λ row. row.tail) (λ a. a.tail) (λ n a. refl) [] book

pub all_serials : (book : List Entry) → map (λ (row : ComponentRow). row.serial) (component_rows book) ≡ map (λ c. c.serial) (register component_of book)
all_serials book = named_from component_of component_row (λ row. row.serial) (λ c. c.serial) (λ n c. refl) [] book
