-- The commands of the worked trial, computed from the definitions: office try D-ABCD 60000 800 2024-03-01T08:00 2024-03-01T09:30 1.
use Rattle.std.proofs.Common.{refl, ◌≡◌, [], ◌∷◌, true, false, Some, None}
use Rattle.std.specs.Prelude.{codes, map}
use Rattle.std.specs.Fmt.{digits}
use Rattle.mx_base.specs.Calendar.{date_of}
use Rattle.mx_base.specs.Texts.{day_text, moment_text}
use Rattle.mx_book.specs.commands.Act.{Added, Flown}
use Rattle.mx_words.specs.declared.command_line.trial.Trial.{Trial}
use Rattle.mx_words.specs.command_line.Number.{number_in}
use Rattle.mx_words.specs.command_line.Trial.{trial_aircraft, trial_sector, trial_commands, is_trial_shaped}

-- ── its values ──

off : moment_text 28488000 ≡ codes "2024-03-01T08:00"
unfolding moment_text day_text date_of digits
off = refl

on : moment_text 28488090 ≡ codes "2024-03-01T09:30"
unfolding moment_text day_text date_of digits
on = refl

minutes : number_in (codes "60000") ≡ Some 60000
minutes = refl

-- a number may begin with zeros, and takes 32 bits at most
leading_zeros : number_in (codes "000800") ≡ Some 800
leading_zeros = refl

greatest : number_in (codes "4294967295") ≡ Some 4294967295
greatest = refl

too_great : number_in (codes "4294967296") ≡ None
too_great = refl

no_digit : number_in [] ≡ None
no_digit = refl

with_plus : number_in (codes "+1") ≡ None
with_plus = refl

with_minus : number_in (codes "-1") ≡ None
with_minus = refl

with_letter : number_in (codes "1O") ≡ None
with_letter = refl

abbrev worked : Trial
worked = record { tail = codes "D-ABCD"; minutes = 60000; cycles = 800; off = 28488000; on = 28488090; sector_cycles = 1 }

-- ── the commands ──

aircraft : trial_aircraft worked ≡ record {
  doc = codes "A1";
  act = Added (record { tail = codes "D-ABCD"; kind = codes "TRY"; birth = 0; opening = record { minutes = 60000; cycles = 800 }; as_of = 0 }) [];
}
aircraft = refl

sector : trial_sector worked ≡ Flown (record { tail = codes "D-ABCD"; page = 1; line = 1; off = 28488000; on = 28488090; cycles = 1 })
sector = refl

documents : map (λ e. e.doc) (trial_commands worked) ≡ codes "A1" ∷ codes "TL/D-ABCD/1/1" ∷ []
unfolding digits
documents = refl

shaped : is_trial_shaped worked ≡ true
shaped = refl

-- it lands when it takes off
no_minute : is_trial_shaped (record worked { on = 28488000 }) ≡ false
no_minute = refl

-- an aircraft comes with up to 100,000,000 minutes
too_old : is_trial_shaped (record worked { minutes = 100000001 }) ≡ false
too_old = refl

too_many_cycles : is_trial_shaped (record worked { sector_cycles = 51 }) ≡ false
too_many_cycles = refl
