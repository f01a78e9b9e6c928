-- What the worked trial prints, computed from the definitions: office try D-ABCD 60000 800 2024-03-01T08:00 2024-03-01T09:30 1.
use Rattle.std.proofs.Common.{refl, ◌≡◌, List, [], ◌∷◌}
use Rattle.std.specs.Prelude.{codes, map}
use Rattle.std.specs.Fmt.{digits}
use Rattle.mx_book.specs.commands.Act.{Entry, Flown}
use Rattle.mx_reports.proofs.WorkedReports.{flown_once}
use Rattle.mx_output.specs.printed.Tried.{run_text, run_answer}
use Rattle.mx_output.specs.declared.endings.ending.Ending.TheVariants.{Done, Refused}

-- its aircraft, built and as of the first moment, and its sector, from 08:00 to 09:30 on 2024-03-01
abbrev commands : List Entry
commands = flown_once (codes "TRY") 0 0 1 (codes "TL/D-ABCD/1/1")

-- the life of another aircraft is refused, though each command is entered
printed : map (run_text [] commands) (codes "D-ABCD" ∷ codes "D-NONE" ∷ [])
    ≡ codes "accepted 1\naccepted 2\nlife D-ABCD\nairframe TRY 1001:30 801\nend 1\n" ∷ codes "accepted 1\naccepted 2\nrefused 20\n" ∷ []
unfolding digits
printed = refl

ended : map (run_answer [] commands) (codes "D-ABCD" ∷ codes "D-NONE" ∷ []) ≡ Done ∷ Refused ∷ []
unfolding digits
ended = refl

-- behind the trial itself its commands are known, and the life is the same
printed_again : run_text commands commands (codes "D-ABCD") ≡ codes "already 1\nalready 2\nlife D-ABCD\nairframe TRY 1001:30 801\nend 1\n"
unfolding digits
printed_again = refl

-- a sector of an aircraft that nobody entered is refused, though the life that is asked for is told
refused_sector :
    run_answer commands
    (record { doc = codes "TL/D-NONE/1/1"; act = Flown (record { tail = codes "D-NONE"; page = 1; line = 1; off = 28488000; on = 28488090; cycles = 1 }) } ∷ [])
    (codes "D-ABCD")
    ≡ Refused
unfolding digits
refused_sector = refl
