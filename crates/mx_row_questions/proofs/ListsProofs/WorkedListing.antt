-- Worked rows: what is answered to a question for a list, and why an item is unknown.
use Rattle.std.proofs.Common.{refl, ◌≡◌, ℕ, [], ◌∷◌, map, Some, None, Ok, Err}
use Rattle.std.specs.Prelude.{codes}
use Rattle.mx_book.specs.declared.commands.item.Item.TheVariants.{Airframe, Component}
use Rattle.mx_book.specs.declared.verdict.Refusal.TheVariants.{UnknownAircraft, UnknownComponent}
use Rattle.mx_layout.specs.declared.fault.Table.TheVariants.{Entry}
use Rattle.mx_layout.specs.declared.fault.TableFault.TheVariants.{Damaged, Memory, Store}
use Rattle.mx_lists.specs.declared.stop.Stop.TheVariants.{NoMemory, Fault}
use Rattle.mx_row_questions.specs.lists.Listing.{answered, unknown}

-- a list, that of an aircraft which is not there, want of memory for its rows, and what stopped a look-up
answers : map (answered {X = ℕ}) (Ok (Some 7) ∷ Ok None ∷ Err NoMemory ∷ Err (Fault Memory) ∷ Err (Fault Store) ∷ Err (Fault (Damaged Entry)) ∷ [])
    ≡ Ok (Ok 7) ∷ Ok (Err UnknownAircraft) ∷ Err Memory ∷ Err Memory ∷ Err Store ∷ Err (Damaged Entry) ∷ []
answers = refl

unknown_items : map unknown (Airframe (codes "D-ABCD") ∷ Component (codes "E1") ∷ []) ≡ UnknownAircraft ∷ UnknownComponent ∷ []
unknown_items = refl
