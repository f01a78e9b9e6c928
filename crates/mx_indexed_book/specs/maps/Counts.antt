-- How many aircraft and components a book has.
use Rattle.std.specs.Prelude.{List, length}
use Rattle.mx_book.specs.commands.Act.{Entry, aircraft_of, component_of}
use Rattle.mx_book.specs.Register.{register}
use Rattle.mx_indexed_book.specs.declared.maps.counts.Counts.{Counts}

-- how many aircraft and components the entries add
abbrev pub counts_of : List Entry → Counts
counts_of book = record {
  aircraft = length (register aircraft_of book);
  components = length (register component_of book);
}
