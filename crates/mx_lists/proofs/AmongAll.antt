-- The defects of one aircraft among the open defects of all, and the rows that it has by them.
use Rattle.std.proofs.Common.{◌≡◌, ◌∙◌, ℕ, List, [], ◌∷◌, ◌++◌, Bool, true, false, cond, Option, Some, None, refl, ap, map}
use Rattle.std.specs.Prelude.{filter, not, ◌&&◌}
use Rattle.std.specs.List.{filter_map, flat_map}
use Rattle.std.specs.Option.{option_map, option_map_or}
use Rattle.mx_book.specs.commands.Act.{Entry}
use Rattle.mx_book.specs.commands.Same.{same_text}
use Rattle.mx_book.specs.Defect.{defects, is_open, is_rectified, open_defects}
use Rattle.mx_book.specs.Register.{aircraft}
use Rattle.mx_book.specs.declared.commands.aircraft.Aircraft.{Aircraft}
use Rattle.mx_book.specs.declared.defects.Defect.{Defect}
use Rattle.mx_lists.specs.declared.due_row.DueList.{DueList}
use Rattle.mx_lists.specs.declared.forecast.ForecastList.{ForecastList}
use Rattle.mx_lists.specs.DueList.{rows_placed}
use Rattle.mx_lists.specs.DueRow.{row_before}
use Rattle.mx_lists.specs.Fleet.{all_open, dues_of, is_on, reached_of, rows_among, rows_of_all, rows_of_one, tails_by_text}
use Rattle.mx_lists.specs.FleetRow.{fleet_before, with_tail}
use Rattle.mx_lists.specs.Forecast.{forecast_row, sooner}
use Rattle.mx_lists.specs.Order.{in_order}

kept : (book : List Entry) (tail : List ℕ) (ds : List Defect) → filter (is_on tail) (filter (λ d. not (is_rectified book d.doc)) ds) ≡ filter (is_open book tail) ds
kept book tail [] = refl
kept book tail (d ∷ ds) = at (kept book tail ds) (not (is_rectified book d.doc)) (same_text d.deferral.tail tail) refl
  where
    at : filter (is_on tail) (filter (λ d. not (is_rectified book d.doc)) ds) ≡ filter (is_open book tail) ds
        → (r s : Bool) → same_text d.deferral.tail tail ≡ s
        → filter (is_on tail) (cond r (d ∷ filter (λ d. not (is_rectified book d.doc)) ds) (filter (λ d. not (is_rectified book d.doc)) ds))
        ≡ cond (s && r) (d ∷ filter (is_open book tail) ds) (filter (is_open book tail) ds)
    at later true true e =
        ap (λ b. cond b (d ∷ filter (is_on tail) (filter (λ d. not (is_rectified book d.doc)) ds)) (filter (is_on tail) (filter (λ d. not (is_rectified book d.doc)) ds))) e
        ∙ ap (λ l. d ∷ l) later
    at later true false e =
        ap (λ b. cond b (d ∷ filter (is_on tail) (filter (λ d. not (is_rectified book d.doc)) ds)) (filter (is_on tail) (filter (λ d. not (is_rectified book d.doc)) ds))) e
        ∙ later
    at later false true e = later
    at later false false e = later

-- those of an aircraft among the open defects of all are its own
pub own_of_all : (book : List Entry) (tail : List ℕ) → filter (is_on tail) (all_open book) ≡ open_defects book tail
own_of_all book tail = kept book tail (defects book)

listed : {X L : Type 0} (given : Aircraft → List X) (rows : L → List X) (list : Aircraft → L) (o : Option Aircraft) → ((a : Aircraft) → given a ≡ rows (list a))
    → option_map_or given o [] ≡ option_map_or rows (option_map list o) []
listed given rows list None same = refl
listed given rows list (Some a) same = same a

flat_alike : {X Y : Type 0} (f h : X → List Y) (xs : List X) → ((x : X) → f x ≡ h x) → flat_map f xs ≡ flat_map h xs
flat_alike f h [] same = refl
flat_alike f h (x ∷ xs) same = ap (λ l. l ++ flat_map f xs) (same x) ∙ ap (λ l. h x ++ l) (flat_alike f h xs same)

all_alike : {X : Type 0} (before : X → X → Bool) (f h : List ℕ → List X) (ts : List (List ℕ)) → ((t : List ℕ) → f t ≡ h t) → rows_of_all before f ts ≡ rows_of_all before h ts
all_alike before f h ts same = ap (in_order (fleet_before before)) (flat_alike (rows_of_one f) (rows_of_one h) ts (λ t. ap (map (with_tail t)) (same t)))

module _ (book : List Entry) (day : ℕ) where
  pub fleet_by_all : rows_of_all row_before (rows_among (λ tail kind ds. in_order row_before (rows_placed book tail kind day ds)) book (all_open book)) (tails_by_text book)
      ≡ rows_of_all row_before (dues_of book day) (tails_by_text book)
  fleet_by_all =
      all_alike row_before _ (dues_of book day) (tails_by_text book)
      (λ tail. listed _ (λ (list : DueList). list.rows) _ (aircraft book tail)
      (λ a. ap (λ ds. in_order row_before (rows_placed book tail a.kind day ds)) (own_of_all book tail)))

  pub outlook_by_all : (days minutes cycles : ℕ)
      → rows_of_all sooner (rows_among (λ tail kind ds. in_order sooner (filter_map (forecast_row day days minutes cycles) (rows_placed book tail kind day ds))) book (all_open book)) (tails_by_text book)
      ≡ rows_of_all sooner (reached_of book day days minutes cycles) (tails_by_text book)
  outlook_by_all days minutes cycles =
      all_alike sooner _ (reached_of book day days minutes cycles) (tails_by_text book)
      (λ tail. listed _ (λ (list : ForecastList). list.rows) _ (aircraft book tail)
      (λ a. ap (λ ds. in_order sooner (filter_map (forecast_row day days minutes cycles) (rows_placed book tail a.kind day ds))) (own_of_all book tail)))
