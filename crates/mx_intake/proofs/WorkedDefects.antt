-- Worked deferrals and extensions, computed from the definitions.
use Rattle.std.proofs.Common.{refl, ℕ, [], ◌∷◌, ◌++◌, Ok}
use Rattle.std.specs.Prelude.{codes}
use Rattle.mx_book.specs.commands.Act.{Entry, Deferred, Extended}
use Rattle.mx_base.specs.declared.category.Category.{Category}
use Rattle.mx_base.specs.declared.category.Category.TheVariants.{A, B, C, D}
use Rattle.mx_intake.specs.Entries.{entries_of_text}
use Rattle.mx_intake.proofs.Worked.{Gives, between, faulty, intake_on_literals}

-- ── the category of a defect ──

-- the deferral of a category
abbrev deferral_of_category : Category → Entry
deferral_of_category category =
    record { doc = codes "X1"; act = Deferred (record { tail = codes "D-ABCD"; moment = 2879; reference = codes "21-31-01"; category = category }) }

-- what the list of one deferral gives, by the keys that are written for its category
deferrals_of_categories : Gives (between (codes "[{\"do\":\"defer\",\"doc\":\"X1\",") (codes "\"tail\":\"D-ABCD\",\"moment\":\"1970-01-02T23:59\",\"reference\":\"21-31-01\"}]")) (
    ((codes "\"category\":\"A\",\"days\":5,", Ok (deferral_of_category (A 5) ∷ []))
    ∷ (codes "\"category\":\"B\",", Ok (deferral_of_category B ∷ []))
    ∷ (codes "\"category\":\"C\",", Ok (deferral_of_category C ∷ []))
    ∷ (codes "\"category\":\"D\",", Ok (deferral_of_category D ∷ [])) ∷ [])
    -- the days of category A, at the ends of their shape and past them
    ++ ((codes "\"days\":1,\"category\":\"A\",", Ok (deferral_of_category (A 1) ∷ []))
    ∷ (codes "\"category\":\"A\",\"days\":365,", Ok (deferral_of_category (A 365) ∷ [])) ∷ [])
    ++ faulty 65 (
    codes "\"category\":\"A\",\"days\":0,"
    ∷ codes "\"category\":\"A\",\"days\":366,"
    ∷ codes "\"category\":\"A\",\"days\":4294967295," ∷ [])
    ++ faulty 63 (
    codes "\"category\":\"A\",\"days\":4294967296,"
    ∷ codes "\"category\":\"A\",\"days\":5.0,"
    ∷ codes "\"category\":\"A\",\"days\":\"5\"," ∷ [])
    -- only category A wants days
    ++ faulty 62 (
    codes "\"category\":\"A\","
    ∷ codes "\"category\":\"A\",\"note\":5," ∷ [])
    -- days may not stand beside another category, which has days of its own
    ++ faulty 65 (
    codes "\"category\":\"B\",\"days\":3,"
    ∷ codes "\"category\":\"C\",\"days\":10,"
    ∷ codes "\"category\":\"D\",\"days\":120,"
    ∷ codes "\"category\":\"B\",\"days\":0," ∷ [])
    ++ faulty 64 (codes "\"category\":\"B\",\"days\":3,\"note\":1," ∷ [])
    ++ faulty 63 (
    codes "\"category\":\"B\",\"days\":\"x\","
    ∷ codes "\"category\":\"B\",\"days\":null," ∷ [])
    -- a category that is missing or can't be read neither wants days nor excludes them
    ++ faulty 62 (
    []
    ∷ codes "\"days\":5,"
    ∷ codes "\"days\":\"x\"," ∷ [])
    ++ faulty 63 (
    codes "\"category\":\"E\","
    ∷ codes "\"category\":\"E\",\"days\":5,"
    ∷ codes "\"category\":\"E\",\"days\":\"x\","
    ∷ codes "\"category\":\"a\",\"days\":5,"
    ∷ codes "\"category\":\"BA\","
    ∷ codes "\"category\":\"\","
    ∷ codes "\"category\":1,"
    ∷ codes "\"category\":[\"B\"]," ∷ []))
unfolding intake_on_literals
deferrals_of_categories = refl

-- ── the other keys of a deferral ──

keys_of_deferrals : Gives entries_of_text (
    faulty 62 (
    codes "[{\"do\":\"defer\",\"tail\":\"D-ABCD\",\"moment\":\"1970-01-02T23:59\",\"reference\":\"21-31-01\",\"category\":\"B\"}]"
    ∷ codes "[{\"do\":\"defer\",\"doc\":\"X1\",\"moment\":\"1970-01-02T23:59\",\"reference\":\"21-31-01\",\"category\":\"B\"}]"
    ∷ codes "[{\"do\":\"defer\",\"doc\":\"X1\",\"tail\":\"D-ABCD\",\"reference\":\"21-31-01\",\"category\":\"B\"}]"
    ∷ codes "[{\"do\":\"defer\",\"doc\":\"X1\",\"tail\":\"D-ABCD\",\"moment\":\"1970-01-02T23:59\",\"category\":\"B\"}]" ∷ [])
    ++ faulty 63 (
    codes "[{\"do\":\"defer\",\"doc\":\"X1\",\"tail\":\"d-abcd\",\"moment\":\"1970-01-02T23:59\",\"reference\":\"21-31-01\",\"category\":\"B\"}]"
    ∷ codes "[{\"do\":\"defer\",\"doc\":\"X1\",\"tail\":\"D-ABCD\",\"moment\":\"1970-01-02\",\"reference\":\"21-31-01\",\"category\":\"B\"}]"
    ∷ codes "[{\"do\":\"defer\",\"doc\":\"X1\",\"tail\":\"D-ABCD\",\"moment\":\"1970-01-02T23:59\",\"reference\":\"21 31\",\"category\":\"B\"}]"
    ∷ codes "[{\"do\":\"defer\",\"doc\":\"X1\",\"tail\":\"D-ABCD\",\"moment\":\"1970-01-02T23:59\",\"reference\":\"21-31-01-21-31-01\",\"category\":\"B\"}]" ∷ [])
    ++ faulty 64 (codes "[{\"do\":\"defer\",\"doc\":\"X1\",\"tail\":\"D-ABCD\",\"moment\":\"1970-01-02T23:59\",\"reference\":\"21-31-01\",\"category\":\"B\",\"defect\":\"X0\"}]" ∷ [])
    -- a document of the technical log, which no deferral has
    ++ faulty 65 (codes "[{\"do\":\"defer\",\"doc\":\"TL/D-ABCD/1/1\",\"tail\":\"D-ABCD\",\"moment\":\"1970-01-02T23:59\",\"reference\":\"21-31-01\",\"category\":\"B\"}]" ∷ []))
unfolding intake_on_literals
keys_of_deferrals = refl

-- ── extensions ──

-- the extension by so many days
abbrev extension_of_days : ℕ → Entry
extension_of_days days = record { doc = codes "Y1"; act = Extended (record { defect = codes "X1"; day = 2; days = days }) }

-- what the list of one extension gives, by what is written at `days`
extensions_of_days : Gives (between (codes "[{\"do\":\"extend\",\"doc\":\"Y1\",\"defect\":\"X1\",\"day\":\"1970-01-03\",\"days\":") (codes "}]")) (
    ((codes "1", Ok (extension_of_days 1 ∷ []))
    ∷ (codes "120", Ok (extension_of_days 120 ∷ [])) ∷ [])
    ++ faulty 65 (
    codes "0"
    ∷ codes "121" ∷ [])
    ++ faulty 63 (
    codes "4294967296"
    ∷ codes "\"10\"" ∷ [])
    ++ faulty 64 (codes "10,\"category\":\"B\"" ∷ []))
unfolding intake_on_literals
extensions_of_days = refl

keys_of_extensions : Gives entries_of_text (
    faulty 62 (
    codes "[{\"do\":\"extend\",\"defect\":\"X1\",\"day\":\"1970-01-03\",\"days\":10}]"
    ∷ codes "[{\"do\":\"extend\",\"doc\":\"Y1\",\"day\":\"1970-01-03\",\"days\":10}]"
    ∷ codes "[{\"do\":\"extend\",\"doc\":\"Y1\",\"defect\":\"X1\",\"days\":10}]"
    ∷ codes "[{\"do\":\"extend\",\"doc\":\"Y1\",\"defect\":\"X1\",\"day\":\"1970-01-03\"}]" ∷ [])
    ++ faulty 63 (
    codes "[{\"do\":\"extend\",\"doc\":\"Y1\",\"defect\":\"\",\"day\":\"1970-01-03\",\"days\":10}]"
    ∷ codes "[{\"do\":\"extend\",\"doc\":\"Y1\",\"defect\":\"X1\",\"day\":\"1970-01-03T00:00\",\"days\":10}]" ∷ [])
    -- none has a document of the technical log; that it extends a page is a book's to refuse
    ++ faulty 65 (codes "[{\"do\":\"extend\",\"doc\":\"TL/D-ABCD/1/1\",\"defect\":\"X1\",\"day\":\"1970-01-03\",\"days\":10}]" ∷ [])
    ++ ((codes "[{\"do\":\"extend\",\"doc\":\"Y1\",\"defect\":\"TL/D-ABCD/1/1\",\"day\":\"1970-01-03\",\"days\":10}]", Ok (record { doc = codes "Y1"; act = Extended (record { defect = codes "TL/D-ABCD/1/1"; day = 2; days = 10 }) } ∷ [])) ∷ []))
unfolding intake_on_literals
keys_of_extensions = refl
