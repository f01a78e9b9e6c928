-- The plain book as records.
use Rattle.std.specs.declared.convert.Infallible.{Infallible}
use Rattle.mx_plain_book.specs.declared.plain.Plain.{Plain}
use Rattle.mx_book.specs.Reading.{Reading, in_place}

-- a book is read in place
abbrev pub plain_reading : Reading Plain Infallible
plain_reading = in_place (λ records. records.book.now)
