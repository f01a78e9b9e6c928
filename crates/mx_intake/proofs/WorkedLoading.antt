-- Worked commands that load a programme, and their faults, computed from the definitions.
use Rattle.std.proofs.Common.{refl, ◌≡◌, [], ◌∷◌, Some, None, Ok, Err, false}
use Rattle.std.specs.Prelude.{codes}
use Rattle.mx_book.specs.commands.Act.{Loaded}
use Rattle.mx_book.specs.declared.commands.programme.Applies.TheVariants.{Part}
use Rattle.mx_book.specs.declared.commands.programme.Programme.{Programme}
use Rattle.mx_book.specs.declared.commands.programme.Task.{Task}
use Rattle.mx_intake.specs.Fault.{fault}
use Rattle.mx_intake.specs.Loading.{entry_if_programme, fault_by_document}

-- the first revision for C172, and its task on the engine
abbrev programme : Programme
programme = record { kind = codes "C172"; revision = 1 }

abbrev overhaul : Task
overhaul = record {
  id = codes "OVH";
  applies = Part (codes "IO360");
  first = record { minutes = Some 120000; cycles = None; days = None };
  repeat = Some (record { minutes = Some 120000; cycles = None; days = None });
  tolerance = record { minutes = 0; cycles = 0; days = 0 };
  retire = false;
}

loaded : entry_if_programme (codes "P1") (Ok (programme, overhaul ∷ [])) ≡ Ok (record { doc = codes "P1"; act = Loaded programme (overhaul ∷ []) })
loaded = refl

-- no programme is loaded by a page of the technical log
by_a_page : entry_if_programme (codes "TL/D-ABCD/12/3") (Ok (programme, overhaul ∷ [])) ≡ Err (fault 65 0)
by_a_page = refl

-- which is told before the fault of a task, and behind one of entry 0
page_and_task : fault_by_document (codes "TL/D-ABCD/12/3") (fault 63 1) ≡ fault 65 0
page_and_task = refl

page_and_key : fault_by_document (codes "TL/D-ABCD/12/3") (fault 64 0) ≡ fault 64 0
page_and_key = refl

page_and_memory : fault_by_document (codes "TL/D-ABCD/12/3") (fault 60 0) ≡ fault 60 0
page_and_memory = refl

-- another document adds no fault
task_alone : fault_by_document (codes "P1") (fault 63 1) ≡ fault 63 1
task_alone = refl
