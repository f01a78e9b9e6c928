-- Worked identifiers, dates and texts, computed from the definitions.
use Rattle.std.proofs.Common.{refl, ◌≡◌, ℕ, ◌+◌, ◌*◌, [], ◌∷◌, true, false, arith, pos}
use Rattle.std.specs.Prelude.{codes, negsuc}
use Rattle.std.specs.Fmt.{digits}
use Rattle.std.specs.List.{list_all, list_any}
use Rattle.jiff_core.specs.Calendar.{days_from_civil, day_count, days_of_years, days_of_months}
use Rattle.mx_base.specs.declared.calendar.CivilDate.{CivilDate}
use Rattle.mx_base.specs.Calendar.{next_date, date_of, last_day, last_moment}
use Rattle.mx_base.specs.Identifier.{IsIdentifier, is_graphic, is_tail_character}
use Rattle.mx_base.specs.Texts.{date_text, day_text, day_number_text, clock_text, moment_text, hours_text}

-- ── identifiers ──

-- the ends of both alphabets, and what stands next to them
graphic : list_all is_graphic (codes "!09AZaz~") ≡ true
graphic = refl

not_graphic : list_any is_graphic (0 ∷ 10 ∷ 32 ∷ 127 ∷ 128 ∷ 255 ∷ []) ≡ false
not_graphic = refl

of_a_registration : list_all is_tail_character (codes "AZ09-") ≡ true
of_a_registration = refl

not_of_a_registration : list_any is_tail_character (codes "@[/:,.az !") ≡ false
not_of_a_registration = refl

registration : IsIdentifier is_tail_character 8 (codes "D-ABCD12")
registration = (omega arith, omega arith, refl)

too_long : IsIdentifier is_tail_character 8 (codes "D-ABCD123") → ⊥
too_long h = omega (arith, h.1)

empty : IsIdentifier is_tail_character 8 [] → ⊥
empty h = omega (arith, h.0)

-- ── dates ──

abbrev date : ℕ → ℕ → ℕ → CivilDate
date year month day = record { year = year; month = month; day = day }

within_a_month : next_date (date 1970 1 1) ≡ date 1970 1 2
within_a_month = refl

leap_day : next_date (date 2024 2 28) ≡ date 2024 2 29
leap_day = refl

no_leap_day : next_date (date 2023 2 28) ≡ date 2023 3 1
no_leap_day = refl

leap_day_of_2000 : next_date (date 2000 2 28) ≡ date 2000 2 29
leap_day_of_2000 = refl

no_leap_day_of_2100 : next_date (date 2100 2 28) ≡ date 2100 3 1
no_leap_day_of_2100 = refl

end_of_a_month : next_date (date 2024 11 30) ≡ date 2024 12 1
end_of_a_month = refl

end_of_a_year : next_date (date 2024 12 31) ≡ date 2025 1 1
end_of_a_year = refl

first_days : date_of 0 ≡ date 1970 1 1
unfolding date_of
first_days = refl

a_year_later : date_of 365 ≡ date 1971 1 1
unfolding date_of
a_year_later = refl

-- the last day, counted by jiff's calendar, and its last minute
last_day_of_2199 : days_from_civil (pos 2199) 12 31 ≡ pos last_day
unfolding days_from_civil day_count days_of_years days_of_months
last_day_of_2199 = refl

last_minute : last_moment ≡ last_day * 1440 + 1439
last_minute = refl

-- ── texts ──

text_of_a_date : date_text (date 2199 12 31) ≡ codes "2199-12-31"
text_of_a_date = refl

text_of_a_day : day_text 31 ≡ codes "1970-02-01"
unfolding date_of day_text
text_of_a_day = refl

text_of_a_day_number : day_number_text 31 ≡ codes "1970-02-01"
unfolding date_of day_text
text_of_a_day_number = refl

later : day_number_text 84006 ≡ codes "later"
later = refl

last_minute_of_a_day : clock_text 1439 ≡ codes "23:59"
last_minute_of_a_day = refl

first_minute_of_a_day : clock_text 0 ≡ codes "00:00"
first_minute_of_a_day = refl

-- the first day at 09:30, and the last minute of the second day
text_of_a_moment : moment_text 570 ≡ codes "1970-01-01T09:30"
unfolding date_of day_text moment_text
text_of_a_moment = refl

text_of_a_last_minute : moment_text 2879 ≡ codes "1970-01-02T23:59"
unfolding date_of day_text moment_text
text_of_a_last_minute = refl

hours : hours_text (pos 2910) ≡ codes "48:30"
unfolding digits
hours = refl

no_hours : hours_text (pos 0) ≡ codes "0:00"
unfolding digits
no_hours = refl

a_minute_over : hours_text (negsuc 0) ≡ codes "-0:01"
unfolding digits
a_minute_over = refl

an_hour_over : hours_text (negsuc 59) ≡ codes "-1:00"
unfolding digits
an_hour_over = refl

-- the last day, 2199-12-31, and its last minute
last_of_the_calendar : last_day ∷ last_moment ∷ [] ≡ 84005 ∷ 120968639 ∷ []
last_of_the_calendar = refl
