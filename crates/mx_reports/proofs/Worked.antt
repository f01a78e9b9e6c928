-- Worked texts, computed from the definitions.
use Rattle.std.proofs.Common.{refl, ◌≡◌, List, [], ◌∷◌, true, false}
use Rattle.std.specs.Prelude.{codes, map}
use Rattle.std.specs.Fmt.{digits}
use Rattle.std.specs.List.{flat_map}
use Rattle.mx_base.specs.Calendar.{date_of}
use Rattle.mx_base.specs.Texts.{day_text, moment_text}
use Rattle.mx_book.specs.declared.verdict.Refusal.TheVariants.{Conflict, Full, UnknownAircraft, UnknownComponent, UnknownPosition, UnknownProgramme, UnknownTask, UnknownDefect, AircraftExists, ComponentExists, PositionTaken, AlreadyFitted, NotFitted, WrongPart, ItemElsewhere, TaskClosed, LifeLimit, DefectClosed, OutOfOrder, NotExtendable, AlreadyExtended, ExtensionTooLong, IntervalEnded, WrongRevision, OtherAircraft, OpeningTooLate, OpeningTooLarge, RepeatedLine}
use Rattle.mx_book.specs.declared.verdict.Reply.TheVariants.{Accepted, Already, Refused}
use Rattle.mx_base.specs.declared.amounts.Use.{Use}
use Rattle.mx_lists.specs.declared.life_list.FittedPart.{FittedPart}
use Rattle.mx_lists.specs.declared.life_list.LifeList.{LifeList}
use Rattle.mx_reports.specs.LifeText.{life_lines}
use Rattle.mx_reports.specs.Replies.{is_refusal, lines_of}
use Rattle.mx_reports.specs.ReplyText.{reply_line}
use Rattle.mx_reports.specs.Words.{StartsWith}

-- the life list of an airframe with these hours, cycles and parts
abbrev life_of : Use → List FittedPart → LifeList
life_of life parts = record { tail = codes "D-ABCD"; kind = codes "C172"; life = life; parts = parts }

-- a list without parts, one with a part, and one of two parts, which stand in the order of the list and are counted
lives : map life_lines (
    life_of (record { minutes = 60090; cycles = 801 }) []
    ∷ life_of (record { minutes = 60090; cycles = 801 }) (record { position = codes "ENG"; serial = codes "E2"; part = codes "IO360"; life = record { minutes = 1000; cycles = 100 } } ∷ [])
    ∷ life_of (record { minutes = 59; cycles = 0 }) (
    record { position = codes "ENG"; serial = codes "E2"; part = codes "IO360"; life = record { minutes = 60; cycles = 1 } }
    ∷ record { position = codes "PROP"; serial = codes "P1"; part = codes "HC2"; life = record { minutes = 0; cycles = 2 } } ∷ [])
    ∷ [])
    ≡ codes "life D-ABCD\nairframe C172 1001:30 801\nend 1\n"
    ∷ codes "life D-ABCD\nairframe C172 1001:30 801\npart ENG E2 IO360 16:40 100\nend 2\n"
    ∷ codes "life D-ABCD\nairframe C172 0:59 0\npart ENG E2 IO360 1:00 1\npart PROP P1 HC2 0:00 2\nend 3\n" ∷ []
unfolding digits
lives = refl

-- commands that were entered, now or before
entered : flat_map reply_line (Accepted 1 ∷ Accepted 1000000 ∷ Already 12 ∷ []) ≡ codes "accepted 1\naccepted 1000000\nalready 12\n"
unfolding digits
entered = refl

-- refusals that carry nothing
refused : flat_map (λ refusal. reply_line (Refused refusal)) (Full ∷ UnknownAircraft ∷ UnknownComponent ∷ UnknownPosition ∷ AircraftExists
    ∷ ComponentExists ∷ PositionTaken ∷ AlreadyFitted ∷ NotFitted ∷ WrongPart ∷ [])
    ≡ codes "refused 11\nrefused 20\nrefused 21\nrefused 22\nrefused 30\nrefused 31\nrefused 33\nrefused 34\nrefused 35\nrefused 36\n"
unfolding digits
refused = refl

-- those of programmes and tasks that carry nothing
refused_of_tasks : flat_map (λ refusal. reply_line (Refused refusal)) (UnknownProgramme ∷ UnknownTask ∷ TaskClosed ∷ LifeLimit ∷ OtherAircraft
    ∷ OpeningTooLate ∷ OpeningTooLarge ∷ [])
    ≡ codes "refused 23\nrefused 24\nrefused 38\nrefused 39\nrefused 47\nrefused 48\nrefused 49\n"
unfolding digits
refused_of_tasks = refl

-- those of releases
refused_of_releases : flat_map (λ refusal. reply_line (Refused refusal)) (ItemElsewhere ∷ RepeatedLine ∷ []) ≡ codes "refused 37\nrefused 52\n"
unfolding digits
refused_of_releases = refl

-- those of defects that carry nothing
refused_of_defects : flat_map (λ refusal. reply_line (Refused refusal)) (UnknownDefect ∷ DefectClosed ∷ NotExtendable ∷ AlreadyExtended ∷ [])
    ≡ codes "refused 25\nrefused 40\nrefused 42\nrefused 43\n"
unfolding digits
refused_of_defects = refl

-- an extension that is too long carries the days that it may have
extension_too_long : reply_line (Refused (ExtensionTooLong 3)) ≡ codes "refused 44 3\n"
unfolding digits
extension_too_long = refl

-- one that comes too late carries the last day of the defect
interval_ended : reply_line (Refused (IntervalEnded 19751)) ≡ codes "refused 45 2024-01-29\n"
unfolding digits date_of day_text
interval_ended = refl

-- a conflict carries the number of the entry
conflict : reply_line (Refused (Conflict 4)) ≡ codes "refused 10 4\n"
unfolding digits
conflict = refl

-- a command out of order carries the clock, here in minutes from 1970-01-01
out_of_order : reply_line (Refused (OutOfOrder 2010)) ≡ codes "refused 41 1970-01-02T09:30\n"
unfolding digits date_of day_text moment_text
out_of_order = refl

-- a revision of a programme that is not the next one carries the next one
wrong_revision : reply_line (Refused (WrongRevision 2)) ≡ codes "refused 46 2\n"
unfolding digits
wrong_revision = refl

-- a line for each reply
replies : lines_of (Accepted 1 ∷ Refused UnknownAircraft ∷ []) ≡ codes "accepted 1\nrefused 20\n"
unfolding digits
replies = refl

-- a refusal alone is one
refusals : map is_refusal (Accepted 1 ∷ Already 1 ∷ Refused UnknownAircraft ∷ []) ≡ false ∷ false ∷ true ∷ []
refusals = refl

-- a text begins with itself and with a shorter one, and not with another
begins : StartsWith (codes "end") (codes "end 1")
begins = refl

begins_with_itself : StartsWith (codes "end") (codes "end")
begins_with_itself = refl

begins_otherwise : StartsWith (codes "end 1") (codes "end") → ⊥
begins_otherwise h = (cc)
