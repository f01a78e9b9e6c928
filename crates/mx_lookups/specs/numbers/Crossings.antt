-- What is answered over any rows of a sector that is entered late, and which table is told damaged then.
use Rattle.std.specs.Prelude.{◌≡◌, ℕ, pos, List, Option, Some, None, Bool}
use Rattle.std.specs.Option.{option_map_or}
use Rattle.sqlite.specs.declared.types.Value.TheVariants.{Int, Text}
use Rattle.sqlite.specs.Order.{Row}
use Rattle.sqlite.specs.Tree.{Trees}
use Rattle.mx_book.specs.declared.commands.item.Item.TheVariants.{Airframe}
use Rattle.mx_book.specs.declared.commands.sector.Sector.{Sector}
use Rattle.mx_base.specs.declared.rows.rows.ReleaseRow.{ReleaseRow}
use Rattle.mx_base.specs.declared.rows.rows.SpanRow.{SpanRow}
use Rattle.mx_registers.specs.late.Crossings.{sooner}
use Rattle.mx_layout.specs.kept.Cells.{kept_aircraft, kept_crs, kept_sector2, kept_span2, kept_total2}
use Rattle.mx_table_rows.specs.chosen.Choices.{has_value, is_between}
use Rattle.mx_row_rules.specs.found.Crossings.{earliest_overlapping, late_in, overlapped_in, straddled_moves, straddled_releases}
use Rattle.mx_row_rules.specs.found.Said.{aircraft_in}
use Rattle.mx_lookups.specs.numbers.AnyRows.{AreChosen, Gives, GivesBy}
use Rattle.mx_lookups.specs.numbers.Given.{AircraftNumber}
use Rattle.mx_lookups.specs.numbers.Told.{Damage, DamageBy, Either, TotalDamage, Unread}

-- the moment up to which the opening of the aircraft with this registration counts, the first of all where it is not there
abbrev pub AsOf : List ℕ → Trees → ℕ → Type 0
AsOf tail = Gives kept_aircraft (has_value 1 (Text tail)) (λ rows. option_map_or (λ aircraft. aircraft.as_of) (aircraft_in rows) 0)

-- the number of the aircraft of a sector where this takes off before the clock in the total with that number, which is there
abbrev pub LateNumber : Sector → Trees → Option ℕ → Type 0
LateNumber s = GivesBy (AircraftNumber s.tail) None (λ n trees found. Gives kept_total2 (has_value 0 (Int (pos n))) (late_in s n) trees (Some found))

-- a sector of the aircraft with a number that took off near this one
abbrev pub is_near_row : ℕ → Sector → Row → Bool
is_near_row n s = is_between 1 (Int (pos n)) 4 (Int (pos (earliest_overlapping s))) (Int (pos s.on))

-- a release at the aircraft with a number, from the take-off of this one on and before its landing
abbrev pub is_released_row : ℕ → Sector → Row → Bool
is_released_row n s = is_between 1 (Int (pos n)) 3 (Int (pos s.off)) (Int (pos s.on))

-- the number of the first sector near it that is under way with it, where it is late
abbrev pub FirstOverlapped : Sector → Trees → Option ℕ → Type 0
FirstOverlapped s = GivesBy (LateNumber s) None (λ n. Gives kept_sector2 (is_near_row n s) (overlapped_in s))

-- the least number of the entries that began or ended a span of the aircraft with a number meanwhile
abbrev pub MovedMeanwhile : ℕ → Sector → Trees → Option ℕ → Type 0
MovedMeanwhile n s = Gives kept_span2 (has_value 2 (Int (pos n))) (straddled_moves s)

-- the least number of the releases at it that were made meanwhile
abbrev pub ReleasedMeanwhile : ℕ → Sector → Trees → Option ℕ → Type 0
ReleasedMeanwhile n s = Gives kept_crs (is_released_row n s) (straddled_releases s)

-- the sooner of both
abbrev pub StraddledBy : ℕ → Sector → Trees → Option ℕ → Type 0
StraddledBy n s trees found = (moved : Option ℕ) × (released : Option ℕ) × MovedMeanwhile n s trees moved × ReleasedMeanwhile n s trees released × (found ≡ sooner moved released)

-- that number, where it is late
abbrev pub FirstStraddled : Sector → Trees → Option ℕ → Type 0
FirstStraddled s = GivesBy (LateNumber s) None (λ n. StraddledBy n s)

-- of the clock, and of the sectors near it where it is late
abbrev pub OverlappedDamage : Sector → Damage
OverlappedDamage s = DamageBy (TotalDamage (Airframe s.tail)) (LateNumber s) (λ n. Unread kept_sector2 (is_near_row n s))

-- of the clock, and of the spans of the aircraft and the releases at it meanwhile where it is late
abbrev pub StraddledDamage : Sector → Damage
StraddledDamage s = DamageBy (TotalDamage (Airframe s.tail)) (LateNumber s) (λ n. Either (Unread kept_span2 (has_value 2 (Int (pos n)))) (Unread kept_crs (is_released_row n s)))
