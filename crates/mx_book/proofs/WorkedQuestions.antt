-- Worked examples of what is asked of records: a known entry, and a task of a programme.
use Rattle.std.proofs.Common.{refl, ◌≡◌, ℕ, List, [], ◌∷◌, Bool, true, false, Option, Some, None}
use Rattle.std.specs.Prelude.{codes}
use Rattle.std.specs.Option.{option_map}
use Rattle.mx_book.specs.commands.Act.{Entry}
use Rattle.mx_book.specs.Judge.{known_from}
use Rattle.mx_book.specs.Asking.{known_same, task_of, task_by}
use Rattle.mx_book.proofs.Worked.{a1, first_sector, first_two}
use Rattle.mx_book.proofs.WorkedProgrammes.{c172, overhaul, second_revision}

-- the entry with the document of a command, by its number, and whether it says the same
abbrev known : List Entry → Entry → Option (ℕ × Bool)
known book command = option_map (known_same command) (known_from command.doc 1 book)

known_again : known first_two (first_sector 1) ≡ Some (2, true)
known_again = refl

known_with_other_cycles : known first_two (first_sector 2) ≡ Some (2, false)
known_with_other_cycles = refl

not_known : known (a1 ∷ []) (first_sector 1) ≡ None
not_known = refl

-- a task of the second revision, one that only the first had, and one of a kind without a programme
task_in_revision : task_of second_revision c172 (codes "OVH") ≡ Some (Some overhaul)
task_in_revision = refl

task_gone : task_of second_revision c172 (codes "100H") ≡ Some None
task_gone = refl

no_programme : task_of second_revision (codes "PA28") (codes "OVH") ≡ None
no_programme = refl

-- the same where a kind is known, and where none is
task_by_kind : task_by second_revision (Some c172) (codes "OVH") ≡ Some (Some overhaul)
task_by_kind = refl

no_kind : task_by second_revision None (codes "OVH") ≡ None
no_kind = refl
