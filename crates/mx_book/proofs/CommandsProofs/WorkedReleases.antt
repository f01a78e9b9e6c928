-- Worked releases: at the ends of their shape and past them, what they show, and when two are the same.
use Rattle.std.proofs.Common.{refl, ◌≡◌, ℕ, suc, zero, ◌+◌, List, [], ◌∷◌, true, false, Some, None}
use Rattle.std.specs.Prelude.{codes, is_some}
use Rattle.std.specs.List.{list_all, list_any, flat_map}
use Rattle.mx_book.specs.commands.Act.{Act, Loaded, Opened, Flown, Released, positions_of, tasks_of, release_of, lines_of}
use Rattle.mx_book.specs.commands.Same.{same_act}
use Rattle.mx_book.specs.commands.Shape.{has_shape, sector_entry, is_sector_shaped}
use Rattle.mx_book.specs.declared.commands.item.Item.TheVariants as items
use Rattle.mx_book.specs.declared.commands.release.Line.{Line}
use Rattle.mx_book.specs.declared.commands.release.Line.TheVariants.{Done}
use Rattle.mx_book.specs.declared.commands.release.Place.{Place}
use Rattle.mx_book.specs.declared.commands.release.Place.TheVariants.{Aircraft, Shop}
use Rattle.mx_book.proofs.CommandsProofs.Worked.{abcd, used, sector, command, aircraft_with, engine_with, fit, remove, kinds_said}

abbrev e1 : List ℕ
e1 = codes "E1"

-- the inspection every 100 hours of D-ABCD, and the overhaul of E1
abbrev inspected : Line
inspected = Done (items.Airframe abcd) (codes "100H")

abbrev overhauled : Line
overhauled = Done (items.Component e1) (codes "OVH")

-- a release at a place, at 2024-03-02T00:00 and so many minutes
abbrev released : Place → ℕ → List Line → Act
released place minutes lines = Released (record { place = place; moment = 28_488_960 + minutes }) lines

abbrev pub at_abcd : List Line → Act
at_abcd lines = released (Aircraft abcd) 0 lines

abbrev in_shop : List Line → Act
in_shop lines = released (Shop e1 (codes "C172")) 0 lines

-- so many lines of distinct tasks
many_lines : ℕ → List Line
many_lines zero = []
many_lines (suc n) = Done (items.Airframe abcd) ((33 + n) ∷ []) ∷ many_lines n

-- ── shape ──

lines_of_the_shape : list_all (λ n. has_shape (command (codes "WO1") (at_abcd (many_lines n)))) (1 ∷ 2 ∷ 19 ∷ 20 ∷ []) ≡ true
unfolding many_lines
lines_of_the_shape = refl

lines_past_the_shape : list_any (λ n. has_shape (command (codes "WO1") (at_abcd (many_lines n)))) (0 ∷ 21 ∷ 22 ∷ []) ≡ false
unfolding many_lines
lines_past_the_shape = refl

-- in a shop too; that a line stands twice, or names what is elsewhere, is a book's to refuse
releases_of_the_shape : list_all (λ act. has_shape (command (codes "WO1") act)) (in_shop (overhauled ∷ []) ∷ in_shop (inspected ∷ []) ∷ at_abcd (inspected ∷ inspected ∷ []) ∷ []) ≡ true
releases_of_the_shape = refl

-- none has a document of the log
documents_of_the_log : list_any (λ act. has_shape (command (codes "TL/1") act)) (at_abcd (inspected ∷ []) ∷ in_shop (overhauled ∷ []) ∷ []) ≡ false
documents_of_the_log = refl

no_sector : sector_entry (at_abcd (inspected ∷ [])) ≡ None
no_sector = refl

-- ── what is said ──

release_shown : release_of (at_abcd (inspected ∷ overhauled ∷ [])) ≡ Some (record { place = Aircraft abcd; moment = 28_488_960 })
release_shown = refl

release_in_shop_shown : release_of (in_shop (overhauled ∷ [])) ≡ Some (record { place = Shop e1 (codes "C172"); moment = 28_488_960 })
release_in_shop_shown = refl

lines_shown : lines_of (at_abcd (inspected ∷ overhauled ∷ [])) ≡ inspected ∷ overhauled ∷ []
lines_shown = refl

-- of no other kind of command
abbrev pub others : List Act
others = aircraft_with 800 ∷ engine_with 100 ∷ Flown (sector 12 1 90 1) ∷ fit ∷ remove ∷ Loaded (record { kind = codes "C172"; revision = 1 }) []
    ∷ Opened (record { item = items.Airframe abcd; kind = codes "C172"; task = codes "100H"; use_then = used 0 0; day = 0 }) ∷ []

no_release : list_any (λ act. is_some (release_of act)) others ≡ false
no_release = refl

no_lines : flat_map lines_of others ≡ []
no_lines = refl

-- and a release shows nothing else
abbrev release : Act
release = at_abcd (inspected ∷ [])

nothing_else : (kinds_said release ≡ codes "release" ∷ []) × (positions_of release ≡ []) × (tasks_of release ≡ []) × (is_sector_shaped release ≡ false)
nothing_else = (refl, refl, refl, refl)

-- ── equal contents ──

same_release : list_all (λ act. same_act act act) (at_abcd (inspected ∷ overhauled ∷ []) ∷ in_shop (overhauled ∷ []) ∷ []) ≡ true
same_release = refl

-- the order of the lines counts, and how many they are
other_lines : list_any (same_act (at_abcd (inspected ∷ overhauled ∷ []))) (at_abcd (overhauled ∷ inspected ∷ []) ∷ at_abcd (inspected ∷ [])
    ∷ at_abcd (inspected ∷ overhauled ∷ overhauled ∷ []) ∷ [])
    ≡ false
other_lines = refl

-- the item of a line counts, and its task
other_work : list_any (same_act (at_abcd (overhauled ∷ []))) (at_abcd (Done (items.Component e1) (codes "100H") ∷ []) ∷ at_abcd (Done (items.Component (codes "E2")) (codes "OVH") ∷ [])
    ∷ at_abcd (Done (items.Airframe e1) (codes "OVH") ∷ []) ∷ [])
    ≡ false
other_work = refl

-- so do the place and the moment
other_places : list_any (same_act (in_shop (overhauled ∷ []))) (released (Shop (codes "E2") (codes "C172")) 0 (overhauled ∷ []) ∷ released (Shop e1 (codes "PA28")) 0 (overhauled ∷ [])
    ∷ released (Aircraft e1) 0 (overhauled ∷ []) ∷ at_abcd (overhauled ∷ []) ∷ [])
    ≡ false
other_places = refl

other_aircraft : same_act (at_abcd (inspected ∷ [])) (released (Aircraft (codes "D-EFGH")) 0 (inspected ∷ [])) ≡ false
other_aircraft = refl

other_moment : same_act (at_abcd (inspected ∷ [])) (released (Aircraft abcd) 1 (inspected ∷ [])) ≡ false
other_moment = refl
