-- Worked examples, computed from the definitions.
use Rattle.std.proofs.Common.{refl, ◌≡◌, ℕ, ◌+◌, ◌*◌, List, [], ◌∷◌, true, false, Some, None}
use Rattle.std.specs.Prelude.{codes, map}
use Rattle.std.specs.Fmt.{digits}
use Rattle.mx_base.specs.declared.amounts.Use.{Use}
use Rattle.mx_book.specs.commands.Act.{Act, Entry, Added, Flown}
use Rattle.mx_book.specs.commands.Shape.{has_shape}
use Rattle.mx_book.specs.declared.commands.item.Item.TheVariants.{Airframe, Component}
use Rattle.mx_book.specs.declared.verdict.Refusal.TheVariants.{Conflict, UnknownAircraft, AircraftExists, OutOfOrder}
use Rattle.mx_book.specs.declared.verdict.Verdict.TheVariants.{New, Already, Refused}
use Rattle.mx_book.specs.Life.{life_at, life_now, clock}
use Rattle.mx_book.specs.Judge.{judge}
use Rattle.mx_book.specs.Book.{is_book, entry_at}
use Rattle.mx_book.specs.declared.verdict.Reply.TheVariants as answers
use Rattle.mx_book.specs.Run.{replies, book_run}
use Rattle.mx_book.specs.Accepted.{accepted, is_accepted}

-- a moment: a day from 1970, hours and minutes; 2024-01-01 is day 19,723
abbrev pub at : ℕ → ℕ → ℕ → ℕ
at day hours minutes = day * 1440 + hours * 60 + minutes

abbrev pub used : ℕ → ℕ → Use
used minutes cycles = record { minutes = minutes; cycles = cycles }

abbrev pub abcd : List ℕ
abcd = codes "D-ABCD"

-- an aircraft with a tail, built on 2000-01-01, with 60,000 minutes and 800 cycles on 2024-01-01
abbrev pub aircraft_with : List ℕ → Act
aircraft_with tail = Added (record { tail = tail; kind = codes "C172"; birth = 10957; opening = used 60000 800; as_of = at 19723 0 0 }) []

abbrev pub a1 : Entry
a1 = record { doc = codes "A1"; act = aircraft_with abcd }

-- a sector of the log page 12 of D-ABCD
abbrev pub sector : ℕ → ℕ → ℕ → ℕ → Act
sector line off on cycles = Flown (record { tail = abcd; page = 12; line = line; off = off; on = on; cycles = cycles })

abbrev pub logged : List ℕ → Act → Entry
logged doc act = record { doc = doc; act = act }

-- 2024-03-01T08:00 to 09:30
abbrev pub first_sector : ℕ → Entry
first_sector cycles = logged (codes "TL/D-ABCD/12/1") (sector 1 (at 19783 8 0) (at 19783 9 30) cycles)

abbrev pub first_two : List Entry
first_two = a1 ∷ first_sector 1 ∷ []

-- the two commands have their shape, and are accepted one after the other
a1-shape : has_shape a1 ≡ true
a1-shape = refl

first_sector-shape : has_shape (first_sector 1) ≡ true
unfolding digits
first_sector-shape = refl

first_two-replies : replies [] first_two ≡ answers.Accepted 1 ∷ answers.Accepted 2 ∷ []
first_two-replies = refl

-- a sector before its aircraft is no book, and neither is an entry twice
no_books : map is_book ((first_sector 1 ∷ a1 ∷ []) ∷ (a1 ∷ a1 ∷ []) ∷ []) ≡ false ∷ false ∷ []
no_books = refl

-- a command that was known or refused was not accepted now
accepted_now : map is_accepted (answers.Accepted 1 ∷ answers.Already 1 ∷ answers.Refused (Conflict 1) ∷ []) ≡ true ∷ false ∷ false ∷ []
accepted_now = refl

first_two-book : is_book first_two ≡ true
first_two-book = refl

-- the same sector again is known, and with other cycles in conflict
again : judge first_two (first_sector 1) ≡ Already 2
again = refl

other_cycles : judge first_two (first_sector 2) ≡ Refused (Conflict 2)
other_cycles = refl

-- entered a second time the sector changes nothing
run_again : book_run [] (a1 ∷ first_sector 1 ∷ first_sector 1 ∷ []) ≡ first_two
run_again = refl

run_again-replies : replies [] (a1 ∷ first_sector 1 ∷ first_sector 1 ∷ first_sector 2 ∷ []) ≡ answers.Accepted 1 ∷ answers.Accepted 2 ∷ answers.Already 2 ∷ answers.Refused (Conflict 2) ∷ []
run_again-replies = refl

-- the first two of these are accepted, the sector entered again and the one with other cycles are not
run_again-accepted : accepted [] (a1 ∷ first_sector 1 ∷ first_sector 1 ∷ first_sector 2 ∷ []) ≡ first_two
run_again-accepted = refl

-- 90 minutes and one cycle more, from the landing on
life_after : life_now first_two (Airframe abcd) ≡ Some (used 60090 801)
life_after = refl

life_in_flight : life_at first_two (Airframe abcd) (at 19783 9 29) ≡ Some (used 60000 800)
life_in_flight = refl

life_at_landing : life_at first_two (Airframe abcd) (at 19783 9 30) ≡ Some (used 60090 801)
life_at_landing = refl

-- a flight past midnight: 2024-03-02T23:50 to 2024-03-03T00:20, 30 minutes
over_midnight : Entry
over_midnight = logged (codes "TL/D-ABCD/12/2") (sector 2 (at 19784 23 50) (at 19785 0 20) 1)

over_midnight-life : life_now (book_run first_two (over_midnight ∷ [])) (Airframe abcd) ≡ Some (used 60120 802)
unfolding over_midnight
over_midnight-life = refl

-- a sector that takes off a minute before the clock, which is the last landing
too_early : judge first_two (logged (codes "TL/D-ABCD/12/3") (sector 3 (at 19783 9 29) (at 19783 10 0) 1)) ≡ Refused (OutOfOrder (at 19783 9 30))
too_early = refl

-- and one that takes off at the clock
at_the_clock : judge first_two (logged (codes "TL/D-ABCD/12/3") (sector 3 (at 19783 9 30) (at 19783 10 0) 1)) ≡ New
at_the_clock = refl

-- the clock begins at the as_of
first_clock : clock (a1 ∷ []) (Airframe abcd) ≡ at 19723 0 0
first_clock = refl

-- other refusals
unknown_aircraft : judge [] (first_sector 1) ≡ Refused UnknownAircraft
unknown_aircraft = refl

aircraft_again : judge first_two (logged (codes "A2") (aircraft_with abcd)) ≡ Refused AircraftExists
aircraft_again = refl

other_aircraft : judge first_two (logged (codes "A2") (aircraft_with (codes "D-EFGH"))) ≡ New
other_aircraft = refl

-- what is asked of unknown things
unknown_tail : life_now first_two (Airframe (codes "D-NONE")) ≡ None
unknown_tail = refl

unknown_serial : life_now first_two (Component (codes "E1")) ≡ None
unknown_serial = refl

-- entries by their numbers
first_entry : entry_at first_two 1 ≡ Some a1
first_entry = refl

no_third : entry_at first_two 3 ≡ None
no_third = refl
