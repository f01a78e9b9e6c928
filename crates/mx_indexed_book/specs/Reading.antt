-- A book beside its maps, as records.
use Rattle.std.specs.declared.convert.Infallible.{Infallible}
use Rattle.mx_book.specs.Reading.{Reading, in_place}
use Rattle.mx_indexed_book.specs.declared.indexed.Indexed.{Indexed}

-- a book beside its maps is read in place
abbrev pub indexed_reading : Reading Indexed Infallible
indexed_reading = in_place (λ records. records.book.now)
