-- The shape that each command has: the bounds of its amounts, and its document.
use Rattle.std.specs.Prelude.{ℕ, ◌+◌, ◌/◌, List, ◌∷◌, ◌++◌, Bool, true, false, not, ◌&&◌, Option, Some, None, nat_eq, nat_le, codes, if◌then◌else◌, length}
use Rattle.std.specs.List.{starts_with}
use Rattle.std.specs.Fmt.{decimal}
use Rattle.mx_base.specs.declared.amounts.Use.{Use}
use Rattle.mx_book.specs.commands.Act.{Act, Entry, Added, Listed, Loaded, Opened, Flown, Fitted, Removed, Released, Deferred, Extended}
use Rattle.mx_book.specs.commands.Bounds.{within, are_distinct}
use Rattle.mx_book.specs.commands.Programme.{programme_shape}
use Rattle.mx_book.specs.commands.Same.{same_text}
use Rattle.mx_base.specs.declared.category.Category.{Category}
use Rattle.mx_base.specs.declared.category.Category.TheVariants.{A}
use Rattle.mx_book.specs.declared.commands.sector.Sector.{Sector}
use Rattle.mx_book.specs.declared.commands.shape.TheConstants.{MOST_OPENING_MINUTES, MOST_OPENING_CYCLES, MOST_POSITIONS, LAST_PAGE, LAST_LINE, MOST_SECTOR_MINUTES, MOST_SECTOR_CYCLES, MOST_LINES, MOST_STATED_DAYS, MOST_EXTENSION_DAYS}

-- the use that an item brings with it: up to 100,000,000 minutes and 1,000,000 cycles
abbrev pub use_shape : Use → Bool
use_shape u = nat_le u.minutes MOST_OPENING_MINUTES && nat_le u.cycles MOST_OPENING_CYCLES

-- an opening of a thing that was built by the day of its as_of
abbrev pub opening_shape : ℕ → Use → ℕ → Bool
opening_shape birth opening as_of = use_shape opening && nat_le birth (as_of / 1440)

-- a sector: page 1 to 999,999, line 1 to 99, 1 to 1,440 minutes from take-off to landing, 1 to 50 cycles
abbrev pub sector_shape : Sector → Bool
sector_shape s =
    within 1 LAST_PAGE s.page
    && (within 1 LAST_LINE s.line && (within (s.off + 1) (s.off + MOST_SECTOR_MINUTES) s.on && within 1 MOST_SECTOR_CYCLES s.cycles))

-- the positions have the same name
abbrev pub same_name : List ℕ × List ℕ → List ℕ × List ℕ → Bool
same_name a b = same_text a.0 b.0

-- the positions of an aircraft: up to 40, of distinct names
abbrev pub positions_shape : List (List ℕ × List ℕ) → Bool
positions_shape positions = nat_le (length positions) MOST_POSITIONS && are_distinct same_name positions

-- the category of a deferred defect: where the item states the days, 1 to 365
abbrev pub category_shape : Category → Bool
category_shape (A days) = within 1 MOST_STATED_DAYS days
category_shape _ = true

-- the shape of what a command says
abbrev pub act_shape : Act → Bool
act_shape (Added a positions) = opening_shape a.birth a.opening a.as_of && positions_shape positions
act_shape (Listed c) = opening_shape c.birth c.opening c.as_of
act_shape (Loaded programme tasks) = programme_shape programme tasks
act_shape (Opened opening) = use_shape opening.use_then
act_shape (Flown sector) = sector_shape sector
act_shape (Fitted fitting) = true
act_shape (Removed removal) = true
act_shape (Released release lines) = within 1 MOST_LINES (length lines)
act_shape (Deferred deferral) = category_shape deferral.category
act_shape (Extended extension) = within 1 MOST_EXTENSION_DAYS extension.days

-- a document of the technical log begins with TL/
abbrev pub is_log_doc : List ℕ → Bool
is_log_doc doc = starts_with nat_eq doc (codes "TL/")

-- the document of a sector: TL/tail/page/line, with plain decimal numbers
abbrev pub sector_doc : Sector → List ℕ
sector_doc s = codes "TL/" ++ (s.tail ++ 47 ∷ (decimal s.page ++ 47 ∷ decimal s.line))

-- a sector has the document of its page and line, and no other command has one of the technical log
abbrev pub doc_shape : List ℕ → Act → Bool
doc_shape doc (Flown sector) = same_text doc (sector_doc sector)
doc_shape doc _ = not (is_log_doc doc)

-- the shape of a command
abbrev pub has_shape : Entry → Bool
has_shape e = act_shape e.act && doc_shape e.doc e.act

-- what is said is a sector of its shape
abbrev pub is_sector_shaped : Act → Bool
is_sector_shaped (Flown sector) = sector_shape sector
is_sector_shaped _ = false

-- the command of a sector of its shape, by its own document
abbrev pub sector_entry : Act → Option Entry
sector_entry (Flown sector) = if sector_shape sector then Some (record { doc = sector_doc sector; act = Flown sector }) else None
sector_entry _ = None
