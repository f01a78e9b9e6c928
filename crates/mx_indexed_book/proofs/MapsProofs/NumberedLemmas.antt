-- The numbers of the entries that added things, and the things by these numbers.
use Rattle.std.proofs.Common.{arith, refl, sym, ap, ◌∙◌, ◌≡◌, ℕ, suc, ◌+◌, length, List, [], ◌∷◌, ◌++◌, Bool, true, false, cond, Option, Some, None, append_assoc, length-append, slice_get}
use Rattle.std.specs.Prelude.{find}
use Rattle.std.specs.List.{cons_option, filter_map}
use Rattle.std.specs.Option.{option_and_then, option_map, option_map_or, option_or}
use Rattle.std.specs.BTreeMap.{BTreeMap}
use Rattle.std.specs.Ordering.{nat_cmp}
use Rattle.std.specs.Cmp.Lexicographic.{slice_cmp}
use Rattle.mx_book.specs.commands.Act.{Entry, aircraft_of, component_of}
use Rattle.mx_book.specs.commands.Same.{same_text}
use Rattle.mx_book.specs.declared.commands.aircraft.Aircraft.{Aircraft}
use Rattle.mx_book.specs.declared.commands.component.Component.{Component}
use Rattle.mx_book.specs.declared.verdict.Verdict.TheVariants.{New}
use Rattle.mx_book.specs.Book.{entry_at}
use Rattle.mx_book.specs.Judge.{judge}
use Rattle.mx_book.specs.Register.{aircraft, component}
use Rattle.mx_book.proofs.CommandsProofs.SameLemmas.{text_same}
use Rattle.mx_registers.specs.Names.{number_from, said_at, seq_of_serial, seq_of_tail}
use Rattle.mx_registers.proofs.KeptProofs.SpanRows.{number-append}
use Rattle.mx_indexed_book.specs.maps.Maps.{IsIndex, changed, held}
use Rattle.mx_indexed_book.specs.maps.Registers.{numbered}
use Rattle.mx_indexed_book.proofs.MapsProofs.MapLemmas.{tie}
use Rattle.mx_indexed_book.proofs.MapsProofs.RegisterLemmas.{free_aircraft, free_component, or_none, put_behind}

module _ {X : Type 0} (pick : Entry → Option X) (text : X → List ℕ) where
  abbrev name_of : Entry → Option (List ℕ)
  name_of e = option_map text (pick e)

  abbrev named : List ℕ → List Entry → Option X
  named name book = find (λ x. same_text (text x) name) (filter_map pick book)

  seam : (before : List Entry) (e : Entry) (later : List Entry) → entry_at (before ++ e ∷ later) (length before + 1) ≡ Some e
  seam before e later = ap (entry_at (before ++ e ∷ later)) one ∙ at before
    where
      one : length before + 1 ≡ suc (length before)
      one = omega arith

      at : (xs : List Entry) → slice_get (xs ++ e ∷ later) (length xs) ≡ Some e
      at [] = refl
      at (x ∷ xs) = at xs

  abbrev adds : List ℕ → Option X → Bool
  adds name o = option_map_or (λ added. same_text added name) (option_map text o) false

  -- the first thing with a name is what the entry added whose number is found
  found_from : (name : List ℕ) (before later : List Entry) → named name later ≡ option_and_then (said_at pick (before ++ later)) (number_from name_of name (length before + 1) later)
  found_from name before [] = refl
  found_from name before (e ∷ later) =
      at (pick e) refl
      (found_from name (before ++ e ∷ []) later
      ∙ ap (λ n. option_and_then (said_at pick ((before ++ e ∷ []) ++ later)) (number_from name_of name (n + 1) later)) (length-append before (e ∷ []))
      ∙ ap (λ (es : List Entry). option_and_then (said_at pick es) (number_from name_of name (length before + 1 + 1) later)) (append_assoc before (e ∷ []) later))
    where
      next : Option ℕ
      next = number_from name_of name (length before + 1 + 1) later

      both : (b : Bool) (x : X) → pick e ≡ Some x → named name later ≡ option_and_then (said_at pick (before ++ e ∷ later)) next
          → cond b (Some x) (named name later) ≡ option_and_then (said_at pick (before ++ e ∷ later)) (cond b (Some (length before + 1)) next)
      both true x is rest = sym (ap (option_and_then pick) (seam before e later) ∙ is)
      both false x is rest = rest

      at : (o : Option X) → pick e ≡ o → named name later ≡ option_and_then (said_at pick (before ++ e ∷ later)) next
          → find (λ x. same_text (text x) name) (cons_option o (filter_map pick later)) ≡ option_and_then (said_at pick (before ++ e ∷ later)) (cond (adds name o) (Some (length before + 1)) next)
      at None is rest = rest
      at (Some x) is rest = both (same_text (text x) name) x is rest

  pub found_numbered : (name : List ℕ) (book : List Entry) → named name book ≡ option_and_then (said_at pick book) (number_from name_of name 1 book)
  found_numbered name book = found_from name [] book

  -- a name of nothing has no number
  unnumbered : (name : List ℕ) (k : ℕ) (book : List Entry) → named name book ≡ None → number_from name_of name k book ≡ None
  unnumbered name k [] h = refl
  unnumbered name k (e ∷ book) h = at (pick e) h (unnumbered name (k + 1) book)
    where
      both : (b : Bool) (x : X) → cond b (Some x) (named name book) ≡ None → (named name book ≡ None → number_from name_of name (k + 1) book ≡ None) → cond b (Some k) (number_from name_of name (k + 1) book) ≡ None
      both true x h rest = (cc)
      both false x h rest = rest h

      at : (o : Option X) → find (λ x. same_text (text x) name) (cons_option o (filter_map pick book)) ≡ None → (named name book ≡ None → number_from name_of name (k + 1) book ≡ None) → cond (adds name o) (Some k) (number_from name_of name (k + 1) book) ≡ None
      at None h rest = rest h
      at (Some x) h rest = both (same_text (text x) name) x h rest

  -- a new name has the next number from then on
  pub number_moves : (book : List Entry) (e : Entry) → ((x : X) → pick e ≡ Some x → named (text x) book ≡ None)
      → (name : List ℕ) → number_from name_of name 1 (book ++ e ∷ []) ≡ changed (slice_cmp nat_cmp) (numbered text (length book + 1) (pick e)) name (number_from name_of name 1 book)
  number_moves book e free name = number-append name_of name 1 book (e ∷ []) ∙ at (pick e) free
    where
      old : Option ℕ
      old = number_from name_of name 1 book

      one : 1 + length book ≡ length book + 1
      one = omega arith

      at : (o : Option X) → ((x : X) → o ≡ Some x → named (text x) book ≡ None) → option_or old (cond (adds name o) (Some (1 + length book)) None) ≡ changed (slice_cmp nat_cmp) (numbered text (length book + 1) o) name old
      at None free = or_none old
      at (Some x) free =
          put_behind (same_text (text x) name) (1 + length book) old (λ same. ap (λ n. number_from name_of n 1 book) (sym ((text_same (text x) name).0 same)) ∙ unnumbered (text x) 1 book (free x refl))
          ∙ ap (λ n. cond (same_text (text x) name) (Some n) old) one
          ∙ ap (λ b. cond b (Some (length book + 1)) old) (sym (tie (text x) name))

-- ── aircraft and components ──

pub tail_moves : (book : List Entry) (e : Entry) → judge book e ≡ New → (tail : List ℕ) → seq_of_tail (book ++ e ∷ []) tail ≡ changed (slice_cmp nat_cmp) (numbered (λ (a : Aircraft). a.tail) (length book + 1) (aircraft_of e.act)) tail (seq_of_tail book tail)
tail_moves book e new = number_moves (λ x. aircraft_of x.act) (λ (a : Aircraft). a.tail) book e (free_aircraft book e.doc e.act new)

pub serial_moves : (book : List Entry) (e : Entry) → judge book e ≡ New → (serial : List ℕ) → seq_of_serial (book ++ e ∷ []) serial ≡ changed (slice_cmp nat_cmp) (numbered (λ (c : Component). c.serial) (length book + 1) (component_of e.act)) serial (seq_of_serial book serial)
serial_moves book e new = number_moves (λ x. component_of x.act) (λ (c : Component). c.serial) book e (free_component book e.doc e.act new)

pub aircraft_numbered : (book : List Entry) (tail : List ℕ) → aircraft book tail ≡ option_and_then (said_at (λ x. aircraft_of x.act) book) (seq_of_tail book tail)
aircraft_numbered book tail = found_numbered (λ x. aircraft_of x.act) (λ (a : Aircraft). a.tail) tail book

pub component_numbered : (book : List Entry) (serial : List ℕ) → component book serial ≡ option_and_then (said_at (λ x. component_of x.act) book) (seq_of_serial book serial)
component_numbered book serial = found_numbered (λ x. component_of x.act) (λ (c : Component). c.serial) serial book

-- the same by what a map has of the name
pub aircraft_by : (book seen : List Entry) (tail : List ℕ) (map : BTreeMap (List ℕ) (Option ℕ)) (found : Option ℕ) → book ≡ seen → IsIndex (slice_cmp nat_cmp) None (seq_of_tail book) map → found ≡ held (slice_cmp nat_cmp) None map tail
    → aircraft seen tail ≡ option_and_then (said_at (λ x. aircraft_of x.act) book) found
aircraft_by book seen tail map found same i is = ap (λ b. aircraft b tail) (sym same) ∙ aircraft_numbered book tail ∙ ap (option_and_then (said_at (λ x. aircraft_of x.act) book)) (sym (is ∙ i tail))

pub component_by : (book seen : List Entry) (serial : List ℕ) (map : BTreeMap (List ℕ) (Option ℕ)) (found : Option ℕ) → book ≡ seen → IsIndex (slice_cmp nat_cmp) None (seq_of_serial book) map → found ≡ held (slice_cmp nat_cmp) None map serial
    → component seen serial ≡ option_and_then (said_at (λ x. component_of x.act) book) found
component_by book seen serial map found same i is = ap (λ b. component b serial) (sym same) ∙ component_numbered book serial ∙ ap (option_and_then (said_at (λ x. component_of x.act) book)) (sym (is ∙ i serial))
