-- The registers in maps: which answers they keep, and what an entry changes of them.
use Rattle.std.specs.Prelude.{ℕ, ◌+◌, length, List, Option, Some, None}
use Rattle.std.specs.Option.{option_map}
use Rattle.std.specs.Ordering.{nat_cmp}
use Rattle.std.specs.Cmp.Lexicographic.{slice_cmp}
use Rattle.mx_book.specs.commands.Act.{Entry, aircraft_of, component_of, extension_of}
use Rattle.mx_book.specs.Defect.{deferred_by, defect, extension}
use Rattle.mx_book.specs.Judge.{known_from}
use Rattle.mx_registers.specs.Names.{seq_of_serial, seq_of_tail}
use Rattle.mx_indexed_book.specs.maps.Maps.{HasRoom, IsIndex}
use Rattle.mx_indexed_book.specs.declared.maps.registers.RegisterChanges.{RegisterChanges}
use Rattle.mx_indexed_book.specs.declared.maps.registers.Registers.{Registers}

-- the number of the entry with a document
abbrev pub number_of : List Entry → List ℕ → Option ℕ
number_of book doc = option_map (λ known. known.0) (known_from doc 1 book)

-- the row that is found by its name from now on, where an entry says one
abbrev pub named : {Row : Type 0} → (Row → List ℕ) → Option Row → Option (List ℕ × Option Row)
named name row = option_map (λ r. (name r, Some r)) row

-- the number that a thing is found by its name to have from now on, where an entry adds one
abbrev pub numbered : {Row : Type 0} → (Row → List ℕ) → ℕ → Option Row → Option (List ℕ × Option ℕ)
numbered name number row = option_map (λ r. (name r, Some number)) row

-- what an entry changes: its document has the next number, and so has the aircraft or the component that it adds; the row that it says is found by its name
abbrev pub registers_changed : List Entry → Entry → RegisterChanges
registers_changed book entry = record {
  document = Some (entry.doc, Some (length book + 1));
  aircraft = numbered (λ a. a.tail) (length book + 1) (aircraft_of entry.act);
  component = numbered (λ c. c.serial) (length book + 1) (component_of entry.act);
  defect = named (λ d. d.doc) (deferred_by entry);
  extension = named (λ x. x.defect) (extension_of entry.act);
}

-- the maps have the number of each document, of the entry that added each aircraft and each component, and the row of each name
pub record AreRegisters (book : List Entry) (maps : Registers) : Type 0 where
  pub documents_are : IsIndex (slice_cmp nat_cmp) None (number_of book) maps.documents
  pub aircraft_are : IsIndex (slice_cmp nat_cmp) None (seq_of_tail book) maps.aircraft
  pub components_are : IsIndex (slice_cmp nat_cmp) None (seq_of_serial book) maps.components
  pub defects_are : IsIndex (slice_cmp nat_cmp) None (defect book) maps.defects
  pub extensions_are : IsIndex (slice_cmp nat_cmp) None (extension book) maps.extensions

-- each map has room for its change
pub record RegistersHaveRoom (changes : RegisterChanges) (maps : Registers) : Type 0 where
  pub for_document : HasRoom (slice_cmp nat_cmp) changes.document maps.documents
  pub for_aircraft : HasRoom (slice_cmp nat_cmp) changes.aircraft maps.aircraft
  pub for_component : HasRoom (slice_cmp nat_cmp) changes.component maps.components
  pub for_defect : HasRoom (slice_cmp nat_cmp) changes.defect maps.defects
  pub for_extension : HasRoom (slice_cmp nat_cmp) changes.extension maps.extensions
