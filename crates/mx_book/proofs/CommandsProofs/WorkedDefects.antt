-- Worked defects: deferrals and extensions at the ends of their shape and past them, what they and the lines of a release show, and when two are the same.
use Rattle.std.proofs.Common.{refl, ◌≡◌, ℕ, ◌+◌, List, [], ◌∷◌, true, false, Some}
use Rattle.std.specs.Prelude.{codes, is_some, map}
use Rattle.std.specs.List.{list_all, list_any, flat_map}
use Rattle.mx_book.specs.commands.Act.{Act, Deferred, Extended, positions_of, tasks_of, lines_of, deferral_of, extension_of}
use Rattle.mx_book.specs.commands.Same.{same_act}
use Rattle.mx_book.specs.commands.Shape.{has_shape, sector_entry, is_sector_shaped}
use Rattle.mx_base.specs.declared.category.Category.{Category}
use Rattle.mx_base.specs.declared.category.Category.TheVariants.{A, B, C, D}
use Rattle.mx_book.specs.declared.commands.item.Item.TheVariants as items
use Rattle.mx_book.specs.declared.commands.release.Line.TheVariants.{Done, Rectified}
use Rattle.mx_book.proofs.CommandsProofs.Worked.{abcd, command, kinds_said}
use Rattle.mx_book.proofs.CommandsProofs.WorkedReleases.{at_abcd, others}

abbrev x1 : List ℕ
x1 = codes "X1"

-- a defect that was found at 2024-03-02T00:00 and so many minutes, deferred by an item of the minimum equipment list
abbrev found : ℕ → List ℕ → Category → Act
found minutes reference category =
    Deferred (record { tail = abcd; moment = 28_488_960 + minutes; reference = reference; category = category })

abbrev deferred : Category → Act
deferred category = found 0 (codes "21-31-01") category

-- the interval of a defect, extended on 2024-03-04 by so many days
abbrev of_defect : List ℕ → ℕ → Act
of_defect defect days = Extended (record { defect = defect; day = 19786; days = days })

abbrev extended : ℕ → Act
extended days = of_defect x1 days

-- ── shape ──

deferrals_of_the_shape : list_all (λ category. has_shape (command x1 (deferred category))) (A 1 ∷ A 2 ∷ A 364 ∷ A 365 ∷ B ∷ C ∷ D ∷ []) ≡ true
deferrals_of_the_shape = refl

deferrals_past_the_shape : list_any (λ category. has_shape (command x1 (deferred category))) (A 0 ∷ A 366 ∷ A 367 ∷ []) ≡ false
deferrals_past_the_shape = refl

extensions_of_the_shape : list_all (λ days. has_shape (command (codes "Y1") (extended days))) (1 ∷ 2 ∷ 119 ∷ 120 ∷ []) ≡ true
extensions_of_the_shape = refl

extensions_past_the_shape : list_any (λ days. has_shape (command (codes "Y1") (extended days))) (0 ∷ 121 ∷ 122 ∷ []) ≡ false
extensions_past_the_shape = refl

-- that a defect is rectified twice, or an extension is of its own document, is a book's to refuse
defects_of_the_shape : list_all (λ act. has_shape (command x1 act)) (at_abcd (Rectified x1 ∷ []) ∷ at_abcd (Rectified x1 ∷ Rectified x1 ∷ []) ∷ extended 1 ∷ []) ≡ true
defects_of_the_shape = refl

-- none has a document of the log
documents_of_the_log : list_any (λ act. has_shape (command (codes "TL/1") act)) (deferred (A 5) ∷ deferred B ∷ extended 10 ∷ []) ≡ false
documents_of_the_log = refl

no_sectors : list_any (λ act. is_some (sector_entry act)) (deferred B ∷ extended 10 ∷ []) ≡ false
no_sectors = refl

-- ── what is said ──

deferral_shown : deferral_of (deferred (A 5)) ≡ Some (record { tail = abcd; moment = 28_488_960; reference = codes "21-31-01"; category = A 5 })
deferral_shown = refl

extension_shown : extension_of (extended 10) ≡ Some (record { defect = x1; day = 19786; days = 10 })
extension_shown = refl

lines_shown : lines_of (at_abcd (Rectified x1 ∷ Done (items.Airframe abcd) (codes "100H") ∷ [])) ≡ Rectified x1 ∷ Done (items.Airframe abcd) (codes "100H") ∷ []
lines_shown = refl

-- of no other kind of command
abbrev release : Act
release = at_abcd (Rectified x1 ∷ [])

no_deferral : list_any (λ act. is_some (deferral_of act)) (extended 10 ∷ release ∷ others) ≡ false
no_deferral = refl

no_extension : list_any (λ act. is_some (extension_of act)) (deferred B ∷ release ∷ others) ≡ false
no_extension = refl

-- and a deferral or an extension shows nothing else
abbrev of_defects : List Act
of_defects = deferred (A 5) ∷ extended 10 ∷ []

nothing_else : map kinds_said of_defects ≡ (codes "deferral" ∷ []) ∷ (codes "extension" ∷ []) ∷ []
nothing_else = refl

no_lists : (flat_map positions_of of_defects ≡ []) × (flat_map tasks_of of_defects ≡ []) × (flat_map lines_of of_defects ≡ []) × (list_any is_sector_shaped of_defects ≡ false)
no_lists = (refl, refl, refl, refl)

-- ── equal contents ──

same_defects : list_all (λ act. same_act act act) (deferred (A 5) ∷ deferred B ∷ deferred C ∷ deferred D ∷ extended 10 ∷ release ∷ []) ≡ true
same_defects = refl

-- each field of a deferral counts
other_deferrals : list_any (same_act (deferred (A 5))) (Deferred (record { tail = codes "D-EFGH"; moment = 28_488_960; reference = codes "21-31-01"; category = A 5 })
    ∷ found 1 (codes "21-31-01") (A 5) ∷ found 0 (codes "21-31-02") (A 5) ∷ deferred (A 6) ∷ extended 5 ∷ release ∷ [])
    ≡ false
other_deferrals = refl

-- so does each category, also where the days of A are as many as its own
other_categories : list_any (same_act (deferred B)) (deferred (A 3) ∷ deferred C ∷ deferred D ∷ []) ≡ false
other_categories = refl

days_of_other_categories : list_any (same_act (deferred C)) (deferred (A 10) ∷ deferred B ∷ deferred D ∷ []) ≡ false
days_of_other_categories = refl

longest_category : list_any (same_act (deferred D)) (deferred (A 120) ∷ deferred B ∷ deferred C ∷ []) ≡ false
longest_category = refl

-- each field of an extension counts
other_extensions : list_any (same_act (extended 10)) (of_defect (codes "X2") 10 ∷ Extended (record { defect = x1; day = 19787; days = 10 }) ∷ extended 11 ∷ deferred (A 10) ∷ []) ≡ false
other_extensions = refl

-- the defect that was rectified counts, and that it was no task
other_lines : list_any (same_act release) (at_abcd (Rectified (codes "X2") ∷ []) ∷ at_abcd (Done (items.Airframe abcd) x1 ∷ []) ∷ at_abcd (Done (items.Component x1) x1 ∷ [])
    ∷ at_abcd (Rectified x1 ∷ Rectified x1 ∷ []) ∷ [])
    ≡ false
other_lines = refl
