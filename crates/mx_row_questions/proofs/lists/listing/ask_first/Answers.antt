use Rattle.mx_lookups.proofs.NumbersProofs.Composed.{answers, hands}
use Rattle.mx_row_judge.specs.Damage.{by_aircraft, by_entry_count, by_judge}
use Rattle.mx_row_questions.proofs.lists.listing.ask_first.Goals as goal

pub returns-in_ok-aircraft_number-in-Some : goal.returns-in_ok-aircraft_number-in-Some
returns-in_ok-aircraft_number-in-Some g c = record { looks_up = answers c.in_ok-aircraft_number-in-Some.ensures.looks_up.now (λ book b found. tt) (λ trees found. tt) }

pub returns-in_err-aircraft_number-in-Some : goal.returns-in_err-aircraft_number-in-Some
returns-in_err-aircraft_number-in-Some g c = record { looks_up = hands c.from_residual.ensures.1 (λ name trees it. by_judge (by_aircraft c.in-Some.tail.now it)) c.in_err-aircraft_number-in-Some.ensures.looks_up.now }

pub returns-in_ok-entry_count-in-None : goal.returns-in_ok-entry_count-in-None
returns-in_ok-entry_count-in-None g c = record { looks_up = answers c.in_ok-entry_count-in-None.ensures.looks_up (λ book b count. tt) (λ trees count. tt) }

pub returns-in_err-entry_count-in-None : goal.returns-in_err-entry_count-in-None
returns-in_err-entry_count-in-None g c = record { looks_up = hands c.from_residual-in_err-entry_count-in-None.ensures.1 (λ name trees it. by_judge (by_entry_count it)) c.in_err-entry_count-in-None.ensures.looks_up }
