-- Worked releases to service, computed from the definitions.
use Rattle.std.proofs.Common.{refl, ℕ, zero, suc, List, [], ◌∷◌, ◌++◌, Ok, replicate}
use Rattle.std.specs.Prelude.{codes, Result}
use Rattle.mx_book.specs.commands.Act.{Entry, Released}
use Rattle.mx_book.specs.declared.commands.item.Item.TheVariants.{Airframe, Component}
use Rattle.mx_book.specs.declared.commands.release.Line.{Line}
use Rattle.mx_book.specs.declared.commands.release.Line.TheVariants.{Done, Rectified}
use Rattle.mx_book.specs.declared.commands.release.Place.{Place}
use Rattle.mx_book.specs.declared.commands.release.Place.TheVariants.{Aircraft, Shop}
use Rattle.mx_intake.specs.declared.fault.IntakeFault.{IntakeFault}
use Rattle.mx_intake.specs.Entries.{entries_of_text}
use Rattle.mx_intake.proofs.Worked.{Gives, between, faulty, intake_on_literals}

-- ── where the work was done ──

-- the release at a place
abbrev release_of_place : Place → Entry
release_of_place place =
    record { doc = codes "WO1"; act = Released (record { place = place; moment = 2879 }) (Done (Airframe (codes "D-ABCD")) (codes "ANNUAL") ∷ []) }

-- what the list of one release gives, by the keys that are written for its place
releases_at_places : Gives (between (codes "[{\"do\":\"release\",\"doc\":\"WO1\",") (codes "\"moment\":\"1970-01-02T23:59\",\"lines\":[{\"tail\":\"D-ABCD\",\"task\":\"ANNUAL\"}]}]")) (
    ((codes "\"tail\":\"D-ABCD\",", Ok (release_of_place (Aircraft (codes "D-ABCD")) ∷ []))
    ∷ (codes "\"serial\":\"E1\",\"kind\":\"C172\",", Ok (release_of_place (Shop (codes "E1") (codes "C172")) ∷ [])) ∷ [])
    ++ faulty 62 (
    []
    ∷ codes "\"kind\":\"C172\","
    ∷ codes "\"serial\":\"E1\"," ∷ [])
    -- beside an aircraft no key of a shop is missing, and none may stand
    ++ faulty 65 (
    codes "\"tail\":\"D-ABCD\",\"serial\":\"E1\","
    ∷ codes "\"tail\":\"D-ABCD\",\"kind\":\"C172\","
    ∷ codes "\"tail\":\"D-ABCD\",\"serial\":\"E1\",\"kind\":\"C172\"," ∷ [])
    -- each key of a place is read, and an unknown key is looked for, before there are too many
    ++ faulty 63 (
    codes "\"tail\":\"d-abcd\","
    ∷ codes "\"serial\":\"E1\",\"kind\":172,"
    ∷ codes "\"tail\":\"D-ABCD\",\"serial\":\"\","
    ∷ codes "\"tail\":\"D-ABCD\",\"kind\":172," ∷ [])
    ++ faulty 64 (codes "\"tail\":\"D-ABCD\",\"kind\":\"C172\",\"note\":1," ∷ []))
unfolding intake_on_literals
releases_at_places = refl

-- ── its other keys ──

keys_of_releases : Gives entries_of_text (
    faulty 62 (
    codes "[{\"do\":\"release\",\"doc\":\"WO1\",\"tail\":\"D-ABCD\",\"lines\":[{\"tail\":\"D-ABCD\",\"task\":\"ANNUAL\"}]}]"
    ∷ codes "[{\"do\":\"release\",\"doc\":\"WO1\",\"tail\":\"D-ABCD\",\"moment\":\"1970-01-02T23:59\"}]" ∷ [])
    -- a document of the technical log, which no release has
    ++ faulty 65 (codes "[{\"do\":\"release\",\"doc\":\"TL/D/1/1\",\"tail\":\"D\",\"moment\":\"1970-01-02T23:59\",\"lines\":[{\"tail\":\"D\",\"task\":\"T\"}]}]" ∷ []))
unfolding intake_on_literals
keys_of_releases = refl

-- ── its lines ──

-- what the list of one release gives, by what is written at `lines`
abbrev release_with_lines : List ℕ → Result (List Entry) IntakeFault
release_with_lines = between (codes "[{\"do\":\"release\",\"doc\":\"WO1\",\"tail\":\"D\",\"moment\":\"1970-01-02T23:59\",\"lines\":") (codes "}]")

-- the release of lines
abbrev release_of_lines : List Line → Entry
release_of_lines lines = record { doc = codes "WO1"; act = Released (record { place = Aircraft (codes "D"); moment = 2879 }) lines }

releases_of_lines : Gives release_with_lines (
    ((codes "[{\"task\":\"OVH\",\"serial\":\"E1\"},{\"tail\":\"D\",\"task\":\"100H\"}]", Ok (release_of_lines (Done (Component (codes "E1")) (codes "OVH") ∷ Done (Airframe (codes "D")) (codes "100H") ∷ []) ∷ [])) ∷ [])
    ++ faulty 63 (
    codes "{}"
    ∷ codes "[{\"task\":\"OVH\",\"serial\":\"E1\"},1]"
    ∷ codes "[{\"tail\":\"D\",\"task\":\"\",\"note\":1}]"
    ∷ codes "[{\"tail\":\"d\",\"serial\":\"E1\",\"task\":\"T\"}]" ∷ [])
    ++ faulty 62 (
    codes "[1,{\"tail\":\"D\"}]"
    ∷ codes "[1,{\"task\":\"T\"}]"
    ∷ codes "[{\"tail\":\"D\",\"serial\":\"E1\"}]" ∷ [])
    ++ faulty 64 (codes "[{\"tail\":\"D\",\"task\":\"T\"},{\"tail\":\"D\",\"task\":\"T\",\"note\":1}]" ∷ [])
    ++ faulty 65 (codes "[{\"tail\":\"D\",\"task\":\"T\"},{\"tail\":\"D\",\"serial\":\"E1\",\"task\":\"T\"}]" ∷ []))
unfolding intake_on_literals
releases_of_lines = refl

-- ── a line of a defect ──

releases_of_defects : Gives release_with_lines (
    ((codes "[{\"defect\":\"X1\"}]", Ok (release_of_lines (Rectified (codes "X1") ∷ []) ∷ []))
    ∷ (codes "[{\"defect\":\"X1\"},{\"tail\":\"D\",\"task\":\"T\"},{\"defect\":\"X2\"}]", Ok (release_of_lines (Rectified (codes "X1") ∷ Done (Airframe (codes "D")) (codes "T") ∷ Rectified (codes "X2") ∷ []) ∷ [])) ∷ [])
    -- an object of neither form lacks a key
    ++ faulty 62 (
    codes "[{\"defect\":\"X1\"},{}]"
    ∷ codes "[{\"note\":1}]" ∷ [])
    ++ faulty 63 (
    codes "[{\"defect\":\"\"}]"
    ∷ codes "[{\"defect\":1}]"
    ∷ codes "[{\"defect\":null,\"tail\":\"D\",\"task\":\"T\"}]" ∷ [])
    ++ faulty 64 (codes "[{\"defect\":\"X1\",\"note\":1}]" ∷ [])
    -- beside a defect no key of a task that was done is missing, and none may stand
    ++ faulty 65 (
    codes "[{\"tail\":\"D\",\"task\":\"T\"},{\"tail\":\"D\",\"task\":\"T\",\"defect\":\"X1\"}]"
    ∷ codes "[{\"defect\":\"X1\",\"task\":\"T\"}]"
    ∷ codes "[{\"defect\":\"X1\",\"tail\":\"D\"}]"
    ∷ codes "[{\"defect\":\"X1\",\"serial\":\"E1\"}]"
    ∷ codes "[{\"defect\":\"X1\",\"tail\":\"D\",\"serial\":\"E1\"}]" ∷ [])
    ++ faulty 64 (codes "[{\"defect\":\"X1\",\"task\":\"T\",\"note\":1}]" ∷ [])
    ++ faulty 63 (
    codes "[{\"defect\":\"X1\",\"task\":\"\"}]"
    ∷ codes "[{\"defect\":\"X1\",\"tail\":\"d\"}]"
    ∷ codes "[{\"defect\":\"X1\",\"tail\":\"D\",\"serial\":\"\"}]" ∷ []))
unfolding intake_on_literals
releases_of_defects = refl

-- ── how many lines ──

-- a list of so many lines, and one more
abbrev more_lines : ℕ → List ℕ
more_lines zero = codes "{\"tail\":\"D\",\"task\":\"T\"}]"
more_lines (suc n) = codes "{\"tail\":\"D\",\"task\":\"T\"}," ++ more_lines n

releases_of_many_lines : Gives release_with_lines (
    faulty 65 (
    codes "[]"
    ∷ (codes "[" ++ more_lines 20) ∷ [])
    ++ ((codes "[" ++ more_lines 19, Ok (release_of_lines (replicate 20 (Done (Airframe (codes "D")) (codes "T"))) ∷ [])) ∷ []))
unfolding intake_on_literals
releases_of_many_lines = refl
