-- Worked lines of faults, computed from the definitions.
use Rattle.std.proofs.Common.{refl, ◌≡◌, [], ◌∷◌}
use Rattle.std.specs.Prelude.{codes, map}
use Rattle.std.specs.List.{flat_map}
use Rattle.std.specs.Fmt.{digits}
use Rattle.mx_layout.specs.declared.fault.Table.TheVariants as name
use Rattle.mx_layout.specs.declared.fault.TableFault.TheVariants as table
use Rattle.mx_faults.specs.declared.moving.MoveFault.TheVariants as moving
use Rattle.mx_faults.specs.declared.fault.Fault.TheVariants as office
use Rattle.mx_faults.specs.declared.fault.OpenFault.TheVariants as opening
use Rattle.mx_output.specs.declared.endings.ending.Stop.TheVariants.{Words, Shape, Intake, MakeMemory, Create, Move, Open, Office, Print}
use Rattle.mx_output.specs.endings.FaultLine.{fault_line, intake_words, line_of, office_words}

words_alone : flat_map fault_line (Words ∷ Shape ∷ MakeMemory ∷ Print ∷ []) ≡ codes "fault words\nfault shape\nfault memory\nfault memory\n"
words_alone = refl

read : fault_line (Intake (record { number = 62; entry = 1 })) ≡ codes "fault 62 entry 1\n"
unfolding digits
read = refl

made : flat_map (λ fault. fault_line (Create fault)) (table.Memory ∷ table.Store ∷ table.NotOurs ∷ table.Exists ∷ table.Damaged name.Office ∷ [])
    ≡ codes "fault memory\nfault store\nfault not-ours\nfault exists\nfault damaged office\n"
made = refl

opened : flat_map (λ fault. fault_line (Open fault)) (opening.Memory ∷ opening.Store ∷ opening.NotOurs ∷ opening.NewerLayout 9 ∷ opening.Damaged name.Sector1 ∷ opening.OlderLayout 10 ∷ [])
    ≡ codes "fault memory\nfault store\nfault not-ours\nfault newer 9\nfault damaged sector1\nfault older 10\n"
unfolding digits
opened = refl

moved : flat_map (λ fault. fault_line (Move fault)) (moving.Memory ∷ moving.Store ∷ moving.NotOurs ∷ moving.NewerLayout 9 ∷ moving.Damaged name.Crs ∷ [])
    ≡ codes "fault memory\nfault store\nfault not-ours\nfault newer 9\nfault damaged crs\n"
unfolding digits
moved = refl

stopped : flat_map (λ fault. fault_line (Office fault)) (office.Memory ∷ office.Store ∷ office.NeedsReopen ∷ office.Damaged name.Place ∷ [])
    ≡ codes "fault memory\nfault store\nfault reopen\nfault damaged place\n"
stopped = refl

-- what any line of a fault begins and ends with
of_a_text : line_of (intake_words (record { number = 62; entry = 1 })) ≡ codes "fault 62 entry 1\n"
unfolding digits
of_a_text = refl

of_an_office : map office_words (office.Memory ∷ office.Store ∷ office.NeedsReopen ∷ office.Damaged name.Place ∷ []) ≡ codes "memory" ∷ codes "store" ∷ codes "reopen" ∷ codes "damaged place" ∷ []
of_an_office = refl
