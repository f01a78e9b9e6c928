-- Worked entries of each form, computed from the definitions.
use Rattle.std.proofs.Common.{refl, ◌≡◌, ℕ, List, [], ◌∷◌, ◌++◌, Ok, Err}
use Rattle.std.specs.Prelude.{codes, Result}
use Rattle.std.specs.Fmt.{digits}
use Rattle.mx_book.specs.commands.Act.{Entry, Added, Listed, Opened, Flown, Fitted}
use Rattle.mx_book.specs.declared.commands.item.Item.{Item}
use Rattle.mx_book.specs.declared.commands.item.Item.TheVariants.{Airframe, Component}
use Rattle.mx_intake.specs.declared.fault.IntakeFault.{IntakeFault}
use Rattle.mx_intake.specs.Fault.{fault}
use Rattle.mx_intake.specs.Entries.{entries_of_text}
use Rattle.mx_intake.proofs.Worked.{Gives, between, faulty, intake_on_literals}

-- ── sectors ──

-- what the list of one sector gives, by what is written at `page`
abbrev sector_with_page : List ℕ → Result (List Entry) IntakeFault
sector_with_page = between (codes "[{\"do\":\"sector\",\"tail\":\"D-ABCD\",\"page\":") (codes ",\"line\":1,\"off\":\"1970-01-02T08:00\",\"on\":\"1970-01-02T09:30\",\"cycles\":1}]")

-- the sector on a page
abbrev sector_of_page : ℕ → List ℕ → Entry
sector_of_page page doc = record { doc = doc; act = Flown (record { tail = codes "D-ABCD"; page = page; line = 1; off = 1920; on = 2010; cycles = 1 }) }

sector : sector_with_page (codes "12") ≡ Ok (sector_of_page 12 (codes "TL/D-ABCD/12/1") ∷ [])
unfolding intake_on_literals digits
sector = refl

sectors_on_pages : Gives sector_with_page (
    faulty 63 (
    codes "1.0"
    ∷ codes "-1"
    ∷ codes "-0"
    ∷ codes "4294967296"
    ∷ codes "18446744073709551616"
    ∷ codes "\"12\"" ∷ [])
    ++ ((codes "1e400", Err (fault 61 0)) ∷ [])
    ++ faulty 65 (
    codes "4294967295"
    ∷ codes "0" ∷ []))
unfolding intake_on_literals
sectors_on_pages = refl

-- a key that is written twice has its last value
page_twice : sector_with_page (codes "0,\"page\":12") ≡ Ok (sector_of_page 12 (codes "TL/D-ABCD/12/1") ∷ [])
unfolding intake_on_literals digits
page_twice = refl

-- a sector makes its own document, so it states none
document_of_a_sector : sector_with_page (codes "12,\"doc\":\"S1\"") ≡ Err (fault 64 1)
unfolding intake_on_literals
document_of_a_sector = refl

-- ── aircraft ──

-- the aircraft with these positions
abbrev aircraft_of_positions : List (List ℕ × List ℕ) → Entry
aircraft_of_positions positions =
    record { doc = codes "A1"; act = Added (record { tail = codes "D-ABCD"; kind = codes "C172"; birth = 0; opening = record { minutes = 60000; cycles = 800 }; as_of = 1440 }) positions }

-- what the list of one aircraft gives, by what is written at `positions`
aircraft_of_positions_or_none : Gives (between (codes "[{\"do\":\"add-aircraft\",\"doc\":\"A1\",\"tail\":\"D-ABCD\",\"kind\":\"C172\",\"birth\":\"1970-01-01\",\"minutes\":60000,\"cycles\":800,\"as_of\":\"1970-01-02T00:00\",\"positions\":") (codes "}]")) (
    ((codes "[]", Ok (aircraft_of_positions [] ∷ []))
    ∷ (codes "[{\"position\":\"ENG\",\"part\":\"IO360\"},{\"part\":\"HC2\",\"position\":\"PROP\"}]", Ok (aircraft_of_positions ((codes "ENG", codes "IO360") ∷ (codes "PROP", codes "HC2") ∷ []) ∷ [])) ∷ [])
    ++ faulty 63 (
    codes "{}"
    ∷ codes "[{\"position\":\"ENG\",\"part\":\"IO360\"},1]" ∷ [])
    ++ faulty 62 (codes "[1,{\"position\":\"ENG\"}]" ∷ [])
    ++ faulty 64 (codes "[{\"position\":\"ENG\",\"part\":\"IO360\",\"do\":1}]" ∷ [])
    ++ faulty 65 (codes "[{\"position\":\"ENG\",\"part\":\"IO360\"},{\"position\":\"ENG\",\"part\":\"HC2\"}]" ∷ []))
unfolding intake_on_literals
aircraft_of_positions_or_none = refl

-- ── components ──

component : entries_of_text (codes "[{\"do\":\"add-component\",\"doc\":\"C1\",\"serial\":\"E1\",\"part\":\"IO360\",\"birth\":\"1970-01-02\",\"minutes\":1000,\"cycles\":100,\"as_of\":\"1970-01-02T00:00\"}]")
    ≡ Ok (record { doc = codes "C1"; act = Listed (record { serial = codes "E1"; part = codes "IO360"; birth = 1; opening = record { minutes = 1000; cycles = 100 }; as_of = 1440 }) } ∷ [])
unfolding intake_on_literals
component = refl

-- ── openings ──

-- the opening of an item
abbrev opening_of_item : Item → Entry
opening_of_item item =
    record { doc = codes "O1"; act = Opened (record { item = item; kind = codes "C172"; task = codes "ANNUAL"; use_then = record { minutes = 59000; cycles = 780 }; day = 1 }) }

-- what the list of one opening gives, by the keys that are written for its item
openings_of_items : Gives (between (codes "[{\"do\":\"opening\",\"doc\":\"O1\",") (codes "\"kind\":\"C172\",\"task\":\"ANNUAL\",\"minutes\":59000,\"cycles\":780,\"day\":\"1970-01-02\"}]")) (
    ((codes "\"tail\":\"D-ABCD\",", Ok (opening_of_item (Airframe (codes "D-ABCD")) ∷ []))
    ∷ (codes "\"serial\":\"E1\",", Ok (opening_of_item (Component (codes "E1")) ∷ [])) ∷ [])
    ++ faulty 62 ([] ∷ [])
    ++ faulty 65 (codes "\"tail\":\"D-ABCD\",\"serial\":\"E1\"," ∷ [])
    -- each of two items is read, and an unknown key is looked for, before there are too many
    ++ faulty 63 (codes "\"tail\":\"d-abcd\",\"serial\":\"E1\"," ∷ [])
    ++ faulty 64 (codes "\"tail\":\"D-ABCD\",\"serial\":\"E1\",\"note\":1," ∷ []))
unfolding intake_on_literals
openings_of_items = refl

-- ── fittings ──

fittings : Gives entries_of_text (
    ((codes "[{\"do\":\"fit\",\"doc\":\"F1\",\"serial\":\"E1\",\"tail\":\"D-ABCD\",\"position\":\"ENG\",\"moment\":\"1970-01-03T00:00\"}]", Ok (record { doc = codes "F1"; act = Fitted (record { serial = codes "E1"; tail = codes "D-ABCD"; position = codes "ENG"; moment = 2880 }) } ∷ [])) ∷ [])
    ++ faulty 63 (codes "[{\"do\":\"fit\",\"doc\":\"F1\",\"serial\":\"E1\",\"tail\":\"d-abcd\",\"position\":\"ENG\",\"moment\":\"1970-01-03T00:00\"}]" ∷ []))
unfolding intake_on_literals
fittings = refl
