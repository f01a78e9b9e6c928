-- The law of each permanent table and of each of layout 1: what its two texts mean and how a row is stored, computed, and that its cells tell rows apart.
use Rattle.std.proofs.Common.{◌≡◌, ◌==◌, cond, ℕ, Option, Some, None, [], ◌∷◌, refl}
use Rattle.sqlite.specs.Listing.{understood}
use Rattle.sqlite_tied.specs.Compute.{everything}
use Rattle.mx_base.proofs.RoundTrips.{moment_text_injective}
use Rattle.mx_base.specs.declared.category.Category.{Category}
use Rattle.mx_base.specs.declared.category.Category.TheVariants as categories
use Rattle.mx_base.specs.declared.rows.rows.EntryKind.{EntryKind}
use Rattle.mx_base.specs.declared.rows.rows.EntryKind.TheVariants as kinds
use Rattle.mx_base.specs.declared.rows.rows.FittingRow.{FittingRow}
use Rattle.mx_base.specs.declared.rows.rows.RemovalRow.{RemovalRow}
use Rattle.mx_base.specs.declared.rows.rows.SectorRow.{SectorRow}
use Rattle.mx_base.specs.rows.Rows.{kind_number, category_number, days_stated}
use Rattle.mx_layout.proofs.RowLemmas.{cast_int, cast_null}
use Rattle.mx_layout.specs.Tables.{defect}
use Rattle.mx_layout.specs.kept.Cells
use Rattle.mx_layout.specs.kept.Meanings.{IsLawful}
use Rattle.mx_layout.specs.kept.Schemas.{own_1, own_moving, HasBehind, HasOwn1}
use Rattle.mx_layout.proofs.KeptProofs.OrderLemmas.{two_ascend}
use Rattle.mx_layout.proofs.KeptProofs.ValueLemmas.{cast-number_or_null, cast-text_or_null, number_at, number_if_at, text_at, text_if_at, flag_at, limit_at, number_back, text_back, flag_back, limit_back, number_if}
use Rattle.mx_layout.specs.kept.Values.{number_or_null}
use Rattle.mx_layout.proofs.KeptProofs.KeptLemmas.{TellsApart, told_apart, first_keyed, two_keyed, either_lawful}

-- the kind of a number, and Extend of any that is none
abbrev kind_of : ℕ → EntryKind
kind_of n =
    cond (n == 1) kinds.AddAircraft (cond (n == 2) kinds.AddComponent (cond (n == 3) kinds.LoadProgramme (cond (n == 4) kinds.Opening
    (cond (n == 5) kinds.Sector (cond (n == 6) kinds.Fit (cond (n == 7) kinds.Remove (cond (n == 8) kinds.Release
    (cond (n == 9) kinds.Defer kinds.Extend))))))))

kind_back : (k : EntryKind) → kind_of (kind_number k) ≡ k
kind_back kinds.AddAircraft = refl
kind_back _ = refl

pub entry_lawful : IsLawful Cells.kept_entry
unfolding understood everything
entry_lawful = first_keyed Cells.kept_entry [] 1 (λ _ _. refl) (λ _ _. simp (cast_int, cast_null) refl) (λ _. refl)
    (told_apart (λ row. record { seq = number_at row 0; doc = text_at row 1; kind = kind_of (number_at row 2) }) (λ r i. record { seq = r.seq; doc = r.doc; kind = kind_back r.kind i }))

pub aircraft_lawful : IsLawful Cells.kept_aircraft
unfolding understood everything
aircraft_lawful = first_keyed Cells.kept_aircraft [] 2 (λ _ _. refl) (λ _ _. simp (cast_int, cast_null) refl) (λ _. refl)
    (told_apart (λ row. record { seq = number_at row 0; tail = text_at row 1; kind = text_at row 2; birth = number_at row 3; minutes = number_at row 4; cycles = number_at row 5; as_of = number_at row 6 }) (λ _. refl))

pub place_lawful : IsLawful Cells.kept_place
unfolding understood everything
place_lawful = two_keyed Cells.kept_place [] 3 (λ _ _. refl) (λ _ _. simp (cast_int, cast_null) refl)
    (two_ascend Cells.kept_place (λ r. r.seq) (λ r. r.line) (λ _. refl) (λ _. refl) (λ _. refl) (λ _ fits. fits.line))
    (told_apart (λ row. record { seq = number_at row 0; line = number_at row 1; position = text_at row 2; part = text_at row 3 }) (λ _. refl))

pub component_lawful : IsLawful Cells.kept_component
unfolding understood everything
component_lawful = first_keyed Cells.kept_component [] 4 (λ _ _. refl) (λ _ _. simp (cast_int, cast_null) refl) (λ _. refl)
    (told_apart (λ row. record { seq = number_at row 0; serial = text_at row 1; part = text_at row 2; birth = number_at row 3; minutes = number_at row 4; cycles = number_at row 5; as_of = number_at row 6 }) (λ _. refl))

pub programme_lawful : IsLawful Cells.kept_programme
unfolding understood everything
programme_lawful = first_keyed Cells.kept_programme [] 5 (λ _ _. refl) (λ _ _. simp (cast_int, cast_null) refl) (λ _. refl)
    (told_apart (λ row. record { seq = number_at row 0; kind = text_at row 1; revision = number_at row 2 }) (λ _. refl))

pub task_lawful : IsLawful Cells.kept_task
unfolding understood everything
task_lawful = two_keyed Cells.kept_task [] 6 (λ _ _. refl) (λ _ _. simp (cast_int, cast_null, cast-number_or_null, cast-text_or_null) refl)
    (two_ascend Cells.kept_task (λ r. r.seq) (λ r. r.line) (λ _. refl) (λ _. refl) (λ _. refl) (λ _ fits. fits.line))
    (told_apart (λ row. record { seq = number_at row 0; line = number_at row 1; id = text_at row 2; part = text_if_at row 3; retire = flag_at row 4; first = limit_at row 5; repeat = limit_at row 8; tolerance = record { minutes = number_at row 11; cycles = number_at row 12; days = number_at row 13 } }) (λ r i. record { seq = r.seq; line = r.line; id = r.id; part = text_back r.part i; retire = flag_back r.retire i; first = limit_back r.first i; repeat = limit_back r.repeat i; tolerance = r.tolerance }))

pub opening_lawful : IsLawful Cells.kept_opening
unfolding understood everything
opening_lawful = first_keyed Cells.kept_opening [] 7 (λ _ _. refl) (λ _ _. simp (cast_int, cast_null) refl) (λ _. refl)
    (told_apart (λ row. record { seq = number_at row 0; item = number_at row 1; kind = text_at row 2; task = text_at row 3; minutes = number_at row 4; cycles = number_at row 5; day = number_at row 6 }) (λ _. refl))

pub crs_lawful : IsLawful Cells.kept_crs
unfolding understood everything
crs_lawful = first_keyed Cells.kept_crs [] 8 (λ _ _. refl) (λ _ _. simp (cast_int, cast_null, cast-text_or_null) refl) (λ _. refl)
    (told_apart (λ row. record { seq = number_at row 0; item = number_at row 1; kind = text_if_at row 2; moment = number_at row 3 }) (λ r i. record { seq = r.seq; item = r.item; kind = text_back r.kind i; moment = r.moment }))

pub crs_line_lawful : IsLawful Cells.kept_crs_line
unfolding understood everything
crs_line_lawful = two_keyed Cells.kept_crs_line [] 9 (λ _ _. refl) (λ _ _. simp (cast_int, cast_null, cast-number_or_null, cast-text_or_null) refl)
    (two_ascend Cells.kept_crs_line (λ r. r.seq) (λ r. r.line) (λ _. refl) (λ _. refl) (λ _. refl) (λ _ fits. fits.line))
    (told_apart (λ row. record { seq = number_at row 0; line = number_at row 1; item = number_if_at row 2; task = text_if_at row 3; defect = number_if_at row 4 }) (λ r i. record { seq = r.seq; line = r.line; item = number_back r.item i; task = text_back r.task i; defect = number_back r.defect i }))

pub extension_lawful : IsLawful Cells.kept_extension
unfolding understood everything
extension_lawful = first_keyed Cells.kept_extension [] 10 (λ _ _. refl) (λ _ _. simp (cast_int, cast_null) refl) (λ _. refl)
    (told_apart (λ row. record { seq = number_at row 0; defect = number_at row 1; day = number_at row 2; days = number_at row 3 }) (λ _. refl))

-- the category of a number and the days that are stated, and D of any number that is none
abbrev pub category_of : ℕ → Option ℕ → Category
category_of n (Some days) = categories.A days
category_of n None = cond (n == 2) categories.B (cond (n == 3) categories.C categories.D)

pub category_back : (c : Category) → category_of (category_number c) (number_if (number_or_null (days_stated c))) ≡ c
category_back (categories.A days) = refl
category_back _ = refl

pub defect_lawful : IsLawful Cells.kept_defect
unfolding understood everything
defect_lawful = first_keyed Cells.kept_defect (defect ∷ []) 11 (λ _ _. refl) (λ _ _. simp (cast_int, cast_null, cast-number_or_null) refl) (λ _. refl)
    (told_apart (λ row. record { seq = number_at row 0; aircraft = number_at row 1; moment = number_at row 2; reference = text_at row 3; category = category_of (number_at row 4) (number_if_at row 5) }) (λ r i. record { seq = r.seq; aircraft = r.aircraft; moment = r.moment; reference = r.reference; category = category_back r.category i }))

-- ── tables of layout 1, whose moments are texts ──

same_sector : (a b : SectorRow) → a.seq ≡ b.seq → a.aircraft ≡ b.aircraft → a.page ≡ b.page → a.line ≡ b.line → a.took_off ≡ b.took_off → a.landed ≡ b.landed → a.cycles ≡ b.cycles → a ≡ b
same_sector a b seq aircraft page line took_off landed cycles i =
    record { seq = seq i; aircraft = aircraft i; page = page i; line = line i; took_off = took_off i; landed = landed i; cycles = cycles i }

sector1_apart : TellsApart Cells.kept_sector1
sector1_apart = record {
  once = λ a b fits_a fits_b e. same_sector a b (cc) (cc) (cc) (cc) (moment_text_injective _ _ fits_a.took_off fits_b.took_off (cc)) (moment_text_injective _ _ fits_a.landed fits_b.landed (cc)) (cc);
}

pub sector1_lawful : IsLawful Cells.kept_sector1
unfolding understood everything
sector1_lawful = first_keyed Cells.kept_sector1 own_1 12 (λ _ _. refl) (λ _ _. simp (cast_int, cast_null) refl) (λ _. refl) sector1_apart

same_fitting : (a b : FittingRow) → a.seq ≡ b.seq → a.component ≡ b.component → a.aircraft ≡ b.aircraft → a.position ≡ b.position → a.moment ≡ b.moment → a ≡ b
same_fitting a b seq component aircraft position moment i = record { seq = seq i; component = component i; aircraft = aircraft i; position = position i; moment = moment i }

fit1_apart : TellsApart Cells.kept_fit1
fit1_apart = record { once = λ a b fits_a fits_b e. same_fitting a b (cc) (cc) (cc) (cc) (moment_text_injective _ _ fits_a.moment fits_b.moment (cc)) }

pub fit1_lawful : IsLawful Cells.kept_fit1
unfolding understood everything
fit1_lawful = either_lawful Cells.kept_fit1 HasOwn1 (HasBehind own_moving)
    (first_keyed Cells.kept_fit1 own_1 13 (λ _ _. refl) (λ _ _. simp (cast_int, cast_null) refl) (λ _. refl) fit1_apart)
    (first_keyed Cells.kept_fit1 own_moving 12 (λ _ _. refl) (λ _ _. simp (cast_int, cast_null) refl) (λ _. refl) fit1_apart)

same_removal : (a b : RemovalRow) → a.seq ≡ b.seq → a.component ≡ b.component → a.moment ≡ b.moment → a ≡ b
same_removal a b seq component moment i = record { seq = seq i; component = component i; moment = moment i }

removal1_apart : TellsApart Cells.kept_removal1
removal1_apart = record { once = λ a b fits_a fits_b e. same_removal a b (cc) (cc) (moment_text_injective _ _ fits_a.moment fits_b.moment (cc)) }

pub removal1_lawful : IsLawful Cells.kept_removal1
unfolding understood everything
removal1_lawful = either_lawful Cells.kept_removal1 HasOwn1 (HasBehind own_moving)
    (first_keyed Cells.kept_removal1 own_1 14 (λ _ _. refl) (λ _ _. simp (cast_int, cast_null) refl) (λ _. refl) removal1_apart)
    (first_keyed Cells.kept_removal1 own_moving 13 (λ _ _. refl) (λ _ _. simp (cast_int, cast_null) refl) (λ _. refl) removal1_apart)
