-- A trial of an aircraft and a sector: its commands.
use Rattle.std.specs.Prelude.{List, [], ◌∷◌, Bool, ◌&&◌, codes, option_to_list}
use Rattle.mx_book.specs.commands.Act.{Act, Entry, Added, Flown}
use Rattle.mx_book.specs.commands.Shape.{has_shape, is_sector_shaped, sector_entry}
use Rattle.mx_words.specs.declared.command_line.trial.Trial.{Trial}

-- the aircraft: by document A1, of kind TRY, built and as of the first moment, without positions
abbrev pub trial_aircraft : Trial → Entry
trial_aircraft t = record {
  doc = codes "A1";
  act = Added (record { tail = t.tail; kind = codes "TRY"; birth = 0; opening = record { minutes = t.minutes; cycles = t.cycles }; as_of = 0 }) [];
}

-- the sector: line 1 of page 1
abbrev pub trial_sector : Trial → Act
trial_sector t = Flown (record { tail = t.tail; page = 1; line = 1; off = t.off; on = t.on; cycles = t.sector_cycles })

-- each of the two has its shape
abbrev pub is_trial_shaped : Trial → Bool
is_trial_shaped t = has_shape (trial_aircraft t) && is_sector_shaped (trial_sector t)

-- the two commands, the aircraft first
abbrev pub trial_commands : Trial → List Entry
trial_commands t = trial_aircraft t ∷ option_to_list (sector_entry (trial_sector t))
