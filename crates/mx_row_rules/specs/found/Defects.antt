-- What the rows of deferrals, of extensions and of lines of releases that were found say.
use Rattle.std.specs.Prelude.{ℕ, List, Bool, Option, None, Some, if◌then◌else◌, filter, is_some, nat_eq, slice_get}
use Rattle.std.specs.Option.{option_and_then, option_eq, option_map}
use Rattle.mx_book.specs.commands.Act.{Entry}
use Rattle.mx_book.specs.declared.commands.deferral.Extension.{Extension}
use Rattle.mx_book.specs.declared.defects.Defect.{Defect}
use Rattle.mx_registers.specs.Names.{tail_at}
use Rattle.mx_registers.specs.Registers.{release_line_rows}
use Rattle.mx_base.specs.declared.rows.rows.AircraftRow.{AircraftRow}
use Rattle.mx_base.specs.declared.rows.rows.DeferralRow.{DeferralRow}
use Rattle.mx_base.specs.declared.rows.rows.ExtensionRow.{ExtensionRow}
use Rattle.mx_base.specs.declared.rows.rows.ReleaseLineRow.{ReleaseLineRow}
use Rattle.mx_row_rules.specs.found.Names.{doc_at, tail_in}

-- the defect that the row of its deferral says, where this is its document and the registration of its aircraft
abbrev pub defect_said : List ℕ → List ℕ → DeferralRow → Defect
defect_said doc tail row = record { doc = doc; deferral = record { tail = tail; moment = row.moment; reference = row.reference; category = row.category } }

-- the number of the aircraft of the first of these deferrals
abbrev pub deferral_aircraft : List DeferralRow → Option ℕ
deferral_aircraft rows = option_map (λ row. row.aircraft) (slice_get rows 0)

-- the defect with this document that the first of these deferrals says, of the first of these aircraft
abbrev pub defect_in : List ℕ → List DeferralRow → List AircraftRow → Option Defect
defect_in doc rows aircraft = option_and_then (λ row. option_map (λ tail. defect_said doc tail row) (tail_in aircraft)) (slice_get rows 0)

-- the extension of the defect with this document that its row says
abbrev pub extension_said : List ℕ → ExtensionRow → Extension
extension_said doc row = record { defect = doc; day = row.day; days = row.days }

-- the extension of the defect with this document that the first of these rows says
abbrev pub extension_in : List ℕ → List ExtensionRow → Option Extension
extension_in doc rows = option_map (extension_said doc) (slice_get rows 0)

-- the line certifies that the defect with this number was rectified
abbrev pub rectifies : ℕ → ReleaseLineRow → Bool
rectifies defect row = option_eq nat_eq row.defect (Some defect)

-- there is such a line
abbrev pub is_rectified_in : List ReleaseLineRow → Bool
is_rectified_in rows = is_some (slice_get rows 0)

-- a line of a release of the book certifies that the defect with this number was rectified
abbrev pub is_rectified_at : List Entry → ℕ → Bool
is_rectified_at book defect = is_rectified_in (filter (rectifies defect) (release_line_rows book))

-- the defect that the row of its deferral says, of the aircraft with this registration; none where it was rectified
abbrev pub open_said : List Entry → List ℕ → DeferralRow → Option Defect
open_said book tail row = if is_rectified_at book row.seq then None else option_map (λ doc. defect_said doc tail row) (doc_at book row.seq)

-- the defect that the row of its deferral says, with the document of its entry and the registration of its aircraft
abbrev pub deferred_said : List Entry → DeferralRow → Option Defect
deferred_said book row = option_and_then (λ doc. option_map (λ tail. defect_said doc tail row) (tail_at book row.aircraft)) (doc_at book row.seq)

-- that defect; none where it was rectified
abbrev pub left_said : List Entry → DeferralRow → Option Defect
left_said book row = if is_rectified_at book row.seq then None else deferred_said book row
