-- Sectors by aircraft and landing, and what was flown up to each.
use Rattle.std.specs.Prelude.{◌≡◌, ℕ, ◌+◌, ◌-◌, ◌^◌, ◌≤◌, List, [], ◌∷◌, Option, None, Some}
use Rattle.std.specs.List.{AllByRecursion}
use Rattle.std.specs.List.Sorted.{IsNonDecreasingBy}
use Rattle.mx_base.specs.declared.amounts.Use.{Use}
use Rattle.mx_base.specs.declared.rows.rows.SectorRow.{SectorRow}
use Rattle.mx_base.specs.rows.Rows.{line_key}
use Rattle.mx_base.specs.Calendar.{last_moment}

-- the place of a sector among all: by the number of its aircraft, and then by its landing
abbrev pub landing_key : SectorRow → ℕ
landing_key row = line_key row.aircraft row.landed

-- the last minute by a moment, where one is named
abbrev pub last_by : Option ℕ → ℕ
last_by None = 2 ^ 32 - 1
last_by (Some moment) = moment

-- the sector landed by the last moment that there is
abbrev pub IsLandingOfDay : SectorRow → Type 0
IsLandingOfDay row = row.landed ≤ last_moment

-- nothing flown
abbrev pub none_flown : Use
none_flown = record { minutes = 0; cycles = 0 }

-- what was flown, and a sector more
abbrev pub more_by : SectorRow → Use → Use
more_by row flown = record { minutes = flown.minutes + (row.landed - row.took_off); cycles = flown.cycles + row.cycles }

-- one use less another
abbrev pub less : Use → Use → Use
less later earlier = record { minutes = later.minutes - earlier.minutes; cycles = later.cycles - earlier.cycles }

-- what was flown up to each of some sectors, where this had been flown before them
abbrev pub sums_after : Use → List SectorRow → List Use
sums_after flown [] = []
sums_after flown (row ∷ rows) = more_by row flown ∷ sums_after (more_by row flown) rows

-- sectors in the order of their places, beside what was flown before the first and up to each
pub record AreLandings (rows : List SectorRow) (sums : List Use) : Type 0 where
  pub order : IsNonDecreasingBy landing_key rows
  pub flown : sums ≡ none_flown ∷ sums_after none_flown rows
  pub bounded : AllByRecursion IsLandingOfDay rows
