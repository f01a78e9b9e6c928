-- Worked commands: at the ends of their shapes, with their documents, and what bodies say, computed from the definitions.
use Rattle.std.proofs.Common.{refl, ◌≡◌, ℕ, suc, zero, ◌+◌, List, [], ◌∷◌, true, false, Some, None, Bool}
use Rattle.std.specs.Prelude.{codes, filter, is_some, map}
use Rattle.std.specs.Fmt.{digits}
use Rattle.std.specs.List.{list_all, list_any}
use Rattle.mx_base.specs.declared.amounts.Use.{Use}
use Rattle.mx_book.specs.commands.Act.{Act, Entry, act_of, Added, Listed, Flown, Fitted, Removed, aircraft_of, positions_of, component_of, sector_of, fitting_of, removal_of, programme_of, opening_of, release_of, deferral_of, extension_of}
use Rattle.mx_book.specs.commands.Shape.{opening_shape, sector_shape, positions_shape, act_shape, is_log_doc, sector_doc, has_shape, is_sector_shaped, sector_entry}
use Rattle.mx_book.specs.declared.commands.body.Body.TheVariants as bodies
use Rattle.mx_book.specs.declared.commands.sector.Sector.{Sector}
use Rattle.mx_book.specs.declared.commands.shape.TheConstants.{MOST_OPENING_MINUTES, MOST_OPENING_CYCLES, MOST_POSITIONS, LAST_PAGE, LAST_LINE, MOST_SECTOR_MINUTES, MOST_SECTOR_CYCLES, MOST_LINES, MOST_STATED_DAYS, MOST_EXTENSION_DAYS}

-- the kinds of what an act says
abbrev pub kinds_said : Act → List (List ℕ)
kinds_said act =
    map (λ (kind : List ℕ × Bool). kind.0) (filter (λ (kind : List ℕ × Bool). kind.1) ((codes "aircraft", is_some (aircraft_of act)) ∷ (codes "component", is_some (component_of act))
    ∷ (codes "programme", is_some (programme_of act)) ∷ (codes "opening", is_some (opening_of act)) ∷ (codes "sector", is_some (sector_of act))
    ∷ (codes "fitting", is_some (fitting_of act)) ∷ (codes "removal", is_some (removal_of act)) ∷ (codes "release", is_some (release_of act))
    ∷ (codes "deferral", is_some (deferral_of act)) ∷ (codes "extension", is_some (extension_of act)) ∷ []))

abbrev pub abcd : List ℕ
abcd = codes "D-ABCD"

abbrev pub used : ℕ → ℕ → Use
used minutes cycles = record { minutes = minutes; cycles = cycles }

-- ── sectors ──

-- a sector of D-ABCD that takes off on 2024-03-01 at 08:00: its page, its line, the minutes to its landing, its cycles
abbrev pub sector : ℕ → ℕ → ℕ → ℕ → Sector
sector page line minutes cycles = record { tail = abcd; page = page; line = line; off = 28_488_000; on = 28_488_000 + minutes; cycles = cycles }

sectors_of_the_shape : list_all sector_shape (sector 1 1 1 1 ∷ sector 999999 99 1440 50 ∷ []) ≡ true
sectors_of_the_shape = refl

sectors_past_the_shape : list_any sector_shape (sector 0 1 1 1 ∷ sector 1000000 1 1 1 ∷ sector 1 0 1 1 ∷ sector 1 100 1 1
    ∷ sector 1 1 0 1 ∷ sector 1 1 1441 1 ∷ sector 1 1 1 0 ∷ sector 1 1 1 51 ∷ [])
    ≡ false
sectors_past_the_shape = refl

document_of_a_sector : sector_doc (sector 12 1 90 1) ≡ codes "TL/D-ABCD/12/1"
unfolding digits
document_of_a_sector = refl

longest_numbers : sector_doc (sector 999999 99 90 1) ≡ codes "TL/D-ABCD/999999/99"
unfolding digits
longest_numbers = refl

-- ── openings ──

-- on 2024-01-01 at 23:59, of a thing built on that day
opening_of_the_shape : opening_shape 19723 (used 100000000 1000000) 28_402_559 ≡ true
opening_of_the_shape = refl

built_on_the_next_day : opening_shape 19724 (used 0 0) 28_402_559 ≡ false
built_on_the_next_day = refl

too_many_minutes : opening_shape 0 (used 100000001 0) 28_402_559 ≡ false
too_many_minutes = refl

too_many_cycles : opening_shape 0 (used 0 1000001) 28_402_559 ≡ false
too_many_cycles = refl

-- ── positions ──

-- so many positions of distinct names, which all take one part
pub places : ℕ → List (List ℕ × List ℕ)
places zero = []
places (suc n) = ((33 + n) ∷ [], codes "IO360") ∷ places n

forty_positions : positions_shape (places 40) ≡ true
unfolding places
forty_positions = refl

one_position_more : positions_shape (places 41) ≡ false
unfolding places
one_position_more = refl

no_positions : positions_shape [] ≡ true
no_positions = refl

-- a name that stands first and last, with another part
name_twice : positions_shape ((codes "ENG", codes "IO360") ∷ (codes "PROP", codes "HC2") ∷ (codes "ENG", codes "IO540") ∷ []) ≡ false
name_twice = refl

-- the names, not the first and the last of them alone
name_twice_behind : positions_shape ((codes "PROP", codes "HC2") ∷ (codes "ENG", codes "IO360") ∷ (codes "ENG", codes "IO540") ∷ []) ≡ false
name_twice_behind = refl

-- ── documents ──

documents_of_the_log : list_all is_log_doc (codes "TL/" ∷ codes "TL/D-ABCD/12/1" ∷ codes "TL/1" ∷ []) ≡ true
documents_of_the_log = refl

other_documents : list_any is_log_doc (codes "A1" ∷ codes "TL" ∷ codes "TL-1" ∷ codes "tl/1" ∷ codes "A/TL/1" ∷ []) ≡ false
other_documents = refl

-- ── commands ──

abbrev pub command : List ℕ → Act → Entry
command doc act = record { doc = doc; act = act }

abbrev pub aircraft_with : ℕ → Act
aircraft_with cycles = Added (record { tail = abcd; kind = codes "C172"; birth = 10957; opening = used 60000 cycles; as_of = 28_401_120 }) (places 2)

abbrev pub engine_with : ℕ → Act
engine_with cycles = Listed (record { serial = codes "E1"; part = codes "IO360"; birth = 14610; opening = used 1000 cycles; as_of = 28_401_120 })

abbrev pub fit : Act
fit = Fitted (record { serial = codes "E1"; tail = abcd; position = codes "ENG"; moment = 28_445_760 })

abbrev pub remove : Act
remove = Removed (record { serial = codes "E1"; moment = 28_488_090 })

-- each kind of command, by a document that it may have
commands_of_the_shape : list_all has_shape (command (codes "A1") (aircraft_with 800) ∷ command (codes "C1") (engine_with 100)
    ∷ command (codes "TL/D-ABCD/12/1") (Flown (sector 12 1 90 1)) ∷ command (codes "F1") fit ∷ command (codes "R1") remove ∷ [])
    ≡ true
unfolding digits places
commands_of_the_shape = refl

-- with a document that is another's: of the log, of another line, or of no log
commands_by_other_documents : list_any has_shape (command (codes "TL/1") (aircraft_with 800) ∷ command (codes "TL/1") (engine_with 100)
    ∷ command (codes "TL/1") fit ∷ command (codes "TL/1") remove ∷ command (codes "TL/D-ABCD/12/2") (Flown (sector 12 1 90 1))
    ∷ command (codes "TL/D-ABCD/12/1/") (Flown (sector 12 1 90 1)) ∷ command (codes "S1") (Flown (sector 12 1 90 1)) ∷ [])
    ≡ false
unfolding digits places
commands_by_other_documents = refl

-- with contents past the shape
commands_past_the_shape : list_any has_shape (command (codes "A1") (aircraft_with 1000001) ∷ command (codes "C1") (engine_with 1000001)
    ∷ command (codes "TL/D-ABCD/12/1") (Flown (sector 12 1 90 51)) ∷ [])
    ≡ false
unfolding digits places
commands_past_the_shape = refl

too_many_positions : act_shape (Added (record { tail = abcd; kind = codes "C172"; birth = 0; opening = used 0 0; as_of = 0 }) (places 41)) ≡ false
unfolding places
too_many_positions = refl

-- the command that a sector of its shape makes; any other body makes none
sector_by_its_document : sector_entry (Flown (sector 12 1 90 1)) ≡ Some (command (codes "TL/D-ABCD/12/1") (Flown (sector 12 1 90 1)))
unfolding digits
sector_by_its_document = refl

sector_past_the_shape : sector_entry (Flown (sector 12 1 90 51)) ≡ None
sector_past_the_shape = refl

no_sector : sector_entry fit ≡ None
no_sector = refl

sectors_alone : list_any is_sector_shaped (aircraft_with 800 ∷ engine_with 100 ∷ Flown (sector 12 1 90 51) ∷ fit ∷ remove ∷ []) ≡ false
sectors_alone = refl

sector_is_shaped : is_sector_shaped (Flown (sector 12 1 90 1)) ≡ true
sector_is_shaped = refl

-- ── what is said ──

-- each is shown of its own kind of command, and of no other
aircraft_added : aircraft_of (aircraft_with 800) ≡ Some (record { tail = abcd; kind = codes "C172"; birth = 10957; opening = used 60000 800; as_of = 28_401_120 })
aircraft_added = refl

positions_added : positions_of (aircraft_with 800) ≡ (34 ∷ [], codes "IO360") ∷ (33 ∷ [], codes "IO360") ∷ []
unfolding places
positions_added = refl

component_listed : component_of (engine_with 100) ≡ Some (record { serial = codes "E1"; part = codes "IO360"; birth = 14610; opening = used 1000 100; as_of = 28_401_120 })
component_listed = refl

sector_flown : sector_of (Flown (sector 12 1 90 1)) ≡ Some (sector 12 1 90 1)
sector_flown = refl

component_fitted : fitting_of fit ≡ Some (record { serial = codes "E1"; tail = abcd; position = codes "ENG"; moment = 28_445_760 })
component_fitted = refl

component_removed : removal_of remove ≡ Some (record { serial = codes "E1"; moment = 28_488_090 })
component_removed = refl

no_aircraft : list_any (λ act. is_some (aircraft_of act)) (engine_with 100 ∷ Flown (sector 12 1 90 1) ∷ fit ∷ remove ∷ []) ≡ false
no_aircraft = refl

no_component : list_any (λ act. is_some (component_of act)) (aircraft_with 800 ∷ Flown (sector 12 1 90 1) ∷ fit ∷ remove ∷ []) ≡ false
no_component = refl

no_sector_flown : list_any (λ act. is_some (sector_of act)) (aircraft_with 800 ∷ engine_with 100 ∷ fit ∷ remove ∷ []) ≡ false
no_sector_flown = refl

no_fitting : list_any (λ act. is_some (fitting_of act)) (aircraft_with 800 ∷ engine_with 100 ∷ Flown (sector 12 1 90 1) ∷ remove ∷ []) ≡ false
no_fitting = refl

no_removal : list_any (λ act. is_some (removal_of act)) (aircraft_with 800 ∷ engine_with 100 ∷ Flown (sector 12 1 90 1) ∷ fit ∷ []) ≡ false
no_removal = refl

-- the body of a removal, and of a fitting
body_of_a_removal : act_of (bodies.Remove (codes "E1") 28_488_090) ≡ remove
body_of_a_removal = refl

body_of_a_fitting : act_of (bodies.Fit (codes "E1") abcd (codes "ENG") 28_445_760) ≡ fit
body_of_a_fitting = refl

body_of_a_sector : act_of (bodies.Sector abcd 12 1 28_488_000 28_488_090 1) ≡ Flown (sector 12 1 90 1)
body_of_a_sector = refl

body_of_a_component : act_of (bodies.AddComponent (codes "E1") (codes "IO360") 14610 (used 1000 100) 28_401_120) ≡ engine_with 100
body_of_a_component = refl

-- ── the bounds, as numbers ──

-- minutes and cycles that an item brings with it, and the positions of an aircraft
most_of_an_item : MOST_OPENING_MINUTES ∷ MOST_OPENING_CYCLES ∷ MOST_POSITIONS ∷ [] ≡ 100000000 ∷ 1000000 ∷ 40 ∷ []
most_of_an_item = refl

-- page, line, minutes and cycles of a sector
most_of_a_sector : LAST_PAGE ∷ LAST_LINE ∷ MOST_SECTOR_MINUTES ∷ MOST_SECTOR_CYCLES ∷ [] ≡ 999999 ∷ 99 ∷ 1440 ∷ 50 ∷ []
most_of_a_sector = refl

-- the lines of a release, the days that an item of the minimum equipment list states, and those of an extension
most_of_the_rest : MOST_LINES ∷ MOST_STATED_DAYS ∷ MOST_EXTENSION_DAYS ∷ [] ≡ 20 ∷ 365 ∷ 120 ∷ []
most_of_the_rest = refl
