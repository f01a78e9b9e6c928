-- Deferred defects: which are open, and the last day on which each may be.
use Rattle.std.specs.Prelude.{ℕ, ◌+◌, ◌/◌, List, Bool, true, false, not, ◌&&◌, Option, find, filter}
use Rattle.std.specs.List.{filter_map, list_any}
use Rattle.std.specs.Option.{option_map, option_map_or}
use Rattle.mx_book.specs.commands.Act.{Entry, deferral_of, extension_of, lines_of}
use Rattle.mx_book.specs.commands.Same.{same_text}
use Rattle.mx_base.specs.declared.category.Category.{Category}
use Rattle.mx_base.specs.declared.category.Category.TheVariants.{A, B, C, D}
use Rattle.mx_book.specs.declared.commands.deferral.Extension.{Extension}
use Rattle.mx_book.specs.declared.commands.release.Line.{Line}
use Rattle.mx_book.specs.declared.commands.release.Line.TheVariants.{Done, Rectified}
use Rattle.mx_book.specs.declared.defects.Defect.{Defect}
use Rattle.mx_book.specs.Register.{register}

-- the defect that an entry defers, by the document of the entry
abbrev pub deferred_by : Entry → Option Defect
deferred_by entry = option_map (λ d. record { doc = entry.doc; deferral = d }) (deferral_of entry.act)

-- the defects that some entries defer, in their order
abbrev pub defects : List Entry → List Defect
defects entries = filter_map deferred_by entries

-- the defect that was deferred by a document
abbrev pub defect : List Entry → List ℕ → Option Defect
defect book doc = find (λ d. same_text d.doc doc) (defects book)

-- the line certifies that the defect was rectified
abbrev pub rectifies : List ℕ → Line → Bool
rectifies doc (Done item task) = false
rectifies doc (Rectified rectified) = same_text rectified doc

-- the defect was rectified: a line of some release certifies it
abbrev pub is_rectified : List Entry → List ℕ → Bool
is_rectified book doc = list_any (λ entry. list_any (rectifies doc) (lines_of entry.act)) book

-- the extension of a defect's interval
abbrev pub extension : List Entry → List ℕ → Option Extension
extension book doc = find (λ x. same_text x.defect doc) (register extension_of book)

-- the days by which the interval of a defect was extended
abbrev pub days_extended : List Entry → List ℕ → ℕ
days_extended book doc = option_map_or (λ x. x.days) (extension book doc) 0

-- the interval of a category: the days after the day of discovery within which a defect is rectified
abbrev pub interval : Category → ℕ
interval (A days) = days
interval B = 3
interval C = 10
interval D = 120

-- the item of the minimum equipment list states the days
abbrev pub is_stated : Category → Bool
is_stated (A days) = true
is_stated _ = false

-- the letter of a category
abbrev pub letter_of : Category → ℕ
letter_of (A days) = 65
letter_of B = 66
letter_of C = 67
letter_of D = 68

-- the day on which a defect was found
abbrev pub day_found : Defect → ℕ
day_found d = d.deferral.moment / 1440

-- the last day on which a defect may be open: the day of its discovery, the interval and its extension
abbrev pub last_permitted : List Entry → Defect → ℕ
last_permitted book d = day_found d + interval d.deferral.category + days_extended book d.doc

-- the defect is of this aircraft, and was not rectified
abbrev pub is_open : List Entry → List ℕ → Defect → Bool
is_open book tail d = same_text d.deferral.tail tail && not (is_rectified book d.doc)

-- the open defects of an aircraft that some entries of the book defer
abbrev pub open_from : List Entry → List ℕ → List Entry → List Defect
open_from book tail entries = filter (is_open book tail) (defects entries)

-- the open defects of an aircraft, in the order of their entries
abbrev pub open_defects : List Entry → List ℕ → List Defect
open_defects book tail = open_from book tail book
