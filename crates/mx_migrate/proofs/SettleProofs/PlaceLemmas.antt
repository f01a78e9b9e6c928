-- The point that a file is at, from what the reader of the point answers.
use Rattle.std.proofs.Common.{◌≡◌, ◌⊎◌, inl, inr, ◌≤◌, ◌<◌, ◌&&◌, ◌||◌, ℕ, Bool, true, false, cond, not, nat_eq, nat_le, nat_lt, List, Ok, Err, Result, IsTrue, refl, sym, ap, subst, ◌∙◌, arith}
use Rattle.std.specs.Prelude.{IfOk, OnOk}
use Rattle.std.proofs.lemmas.Bool.Decides.{nat_tests}
use Rattle.sqlite.proofs.Callers.{one_permutation}
use Rattle.sqlite.specs.Schema.{Schema}
use Rattle.sqlite.specs.State.{State, HasCleanDisk}
use Rattle.sqlite.specs.Tree.{Trees}
use Rattle.mx_book.specs.commands.Act.{Entry}
use Rattle.mx_book.specs.declared.limits.TheConstants.{MOST_ENTRIES}
use Rattle.mx_base.specs.declared.point.Point.{Point}
use Rattle.mx_base.specs.Settled.{settled}
use Rattle.mx_registers.specs.points.Points.{is_on_way, steps_from}
use Rattle.mx_registers.specs.declared.points.points.TheConstants.{NEWEST_LAYOUT}
use Rattle.mx_registers.proofs.PointsProofs.CommitLemmas.{before_parts}
use Rattle.mx_layout.specs.declared.fault.Table.TheVariants as table
use Rattle.mx_layout.specs.declared.fault.TableFault.{TableFault}
use Rattle.mx_layout.specs.Contents.{rows_in}
use Rattle.mx_layout.specs.Crash.{ChangesNothing}
use Rattle.mx_layout.proofs.CrashLemmas.{rests_same}
use Rattle.mx_layout.specs.Listed.{LacksOffice}
use Rattle.mx_layout.specs.Point.{point_cells, FitsPoint, HoldsPoint, IsStop, ReadsExactly, ReadsNone}
use Rattle.mx_layout.specs.Tables.{office}
use Rattle.mx_book_tables.specs.stands.Schemas.{IsOfFile, schema_at}
use Rattle.mx_book_tables.specs.stands.Stands.{RestsAt, StandsAt}
use Rattle.mx_book_tables.proofs.StandsProofs.PointLemmas.{and_left, and_right}
use Rattle.mx_faults.specs.Moving.{fault_from}
use Rattle.mx_faults.specs.declared.moving.MoveFault.{MoveFault}
use Rattle.mx_faults.specs.declared.moving.MoveFault.TheVariants as stop
use Rattle.mx_migrate.specs.settle.Place.{AnswersAs, IsMoveStop, IsPlacedAt, SaysAt, TellsPlace, checked, is_of_file}

-- ── points ──

pub same_point : (at other : Point) → at.layout ≡ other.layout → at.step ≡ other.step → at.mark ≡ other.mark → at ≡ other
same_point at other layout step mark = λ i. record { layout = layout i; step = step i; mark = mark i }

pub number_is : (a b : ℕ) → nat_eq a b ≡ true → a ≡ b
number_is a b e = grind (arith, nat_tests)

-- the numbers of a point that a file can be at
pub record Bounds (at : Point) : Type 0 where
  pub layout : at.layout ≤ NEWEST_LAYOUT
  pub first : 1 ≤ at.layout
  pub step : at.step ≤ 4
  pub mark : at.mark ≤ MOST_ENTRIES
  pub newest : at.layout ≡ NEWEST_LAYOUT → (at.step ≡ 0) × (at.mark ≡ 0)
  pub start : at.step ≡ 0 → at.mark ≡ 0

-- below the newest layout a move leads from the first
first_layout : (layout : ℕ) → layout < NEWEST_LAYOUT → (layout ≡ 1) ⊎ (layout ≡ 2) → layout ≡ 1
first_layout layout under (inl one) = one
first_layout layout under (inr two) = absurd (omega arith)

pub bounds : (at : Point) → IsOfFile at → Bounds at
bounds at (inl way) =
    let parts = before_parts NEWEST_LAYOUT at way in
    let one : at.layout ≡ 1 = first_layout at.layout parts.0 parts.1 in
    let last = steps_from at.layout in
    let start = and_right (nat_le at.mark MOST_ENTRIES) _ (and_right (nat_lt 0 last && nat_le at.step last) _ (and_right (nat_lt at.layout NEWEST_LAYOUT) _ way)) in
    record {
      layout = omega arith;
      first = omega arith;
      step = subst (λ l. at.step ≤ steps_from l) one parts.2.0;
      mark = parts.2.1;
      newest = λ two. absurd (omega arith);
      start = λ zero. number_is at.mark 0 (subst (λ (n : ℕ). not (nat_eq n 0) || nat_eq at.mark 0 ≡ true) zero start);
    }
bounds at (inr is) =
    subst Bounds (sym is) (record { layout = omega arith; first = omega arith; step = omega arith; mark = omega arith; newest = λ _. (refl, refl); start = λ _. refl })

pub file_fits : (at : Point) → IsOfFile at → FitsPoint at
file_fits at file = let b = bounds at file in (omega (arith, b.layout), omega (arith, b.step), omega (arith, b.mark))

abbrev is_newest : Point → Bool
is_newest at = (nat_eq at.layout NEWEST_LAYOUT && nat_eq at.step 0) && nat_eq at.mark 0

pub of_file : (at : Point) → is_of_file at ≡ true → IsOfFile at
of_file at e = by (is_on_way at) refl e
  where
    by : (b : Bool) → is_on_way at ≡ b → b || is_newest at ≡ true → IsOfFile at
    by true way h = inl way
    by false way h = inr (same_point at (settled NEWEST_LAYOUT) (number_is at.layout NEWEST_LAYOUT (and_left _ _ (and_left _ _ h))) (number_is at.step 0 (and_right _ _ (and_left _ _ h))) (number_is at.mark 0 (and_right _ _ h)))

pub is_file : (at : Point) → IsOfFile at → is_of_file at ≡ true
is_file at (inl way) = ap (λ b. b || is_newest at) way
is_file at (inr is) = ap is_of_file is

abbrev checks : Bool → Bool → Point → Result Point MoveFault
checks newer file at = cond newer (Err (stop.NewerLayout at.layout)) (cond file (Ok at) (Err (stop.Damaged table.Office)))

pub checked_file : (at : Point) → IsOfFile at → checked at ≡ Ok at
checked_file at file =
    let b = bounds at file in
    let older : nat_lt NEWEST_LAYOUT at.layout ≡ false = (let low = b.layout in grind (arith, nat_tests)) in
    ap (λ newer. checks newer (is_of_file at) at) older ∙ ap (λ known. checks false known at) (is_file at file)

-- a point that is answered is one that a file can be at
checked_is : (at : Point) → IfOk (checked at) IsOfFile
checked_is at = by (nat_lt NEWEST_LAYOUT at.layout) (is_of_file at) refl
  where
    by : (newer known : Bool) → is_of_file at ≡ known → IfOk (checks newer known at) IsOfFile
    by true known e = tt
    by false true e = of_file at e
    by false false e = tt

on_ok : {T E : Type 0} (P : Type 0) (r : Result T E) → P → OnOk r P
on_ok P (Ok x) h = h
on_ok P (Err e) h = tt

-- ── what the reader answered ──

pub move_stop : (f : TableFault) → IsStop f → IsMoveStop (fault_from f)
move_stop f (inl memory) = inl (ap fault_from memory)
move_stop f (inr store) = inr (ap fault_from store)

module _ (old new : State) (nothing : ChangesNothing old new) where
  pub told : (at : Point) → (HasCleanDisk new → IsTrue old.is_open) → ((p : Point) → HasCleanDisk new → (IsTrue old.is_open → HoldsPoint p old.now) → FitsPoint p → ReadsExactly p (Ok at))
      → (HasCleanDisk new → (IsTrue old.is_open → LacksOffice old.now.schema) → ReadsNone (Ok at)) → TellsPlace old new (checked at)
  told at opened exact absent = record {
    unchanged = nothing;
    is_open = λ clean. on_ok (IsTrue old.is_open) (checked at) (opened clean);
    of_file = checked_is at;
    exact = λ p clean holds fits. inl (ap checked (exact p clean holds fits));
    absent = λ clean lacks. absurd (absent clean lacks);
  }

  pub untold : (f : TableFault) → ((p : Point) → HasCleanDisk new → (IsTrue old.is_open → HoldsPoint p old.now) → FitsPoint p → ReadsExactly p (Err f))
      → (HasCleanDisk new → (IsTrue old.is_open → LacksOffice old.now.schema) → ReadsNone (Err f)) → TellsPlace old new (Err (fault_from f))
  untold f exact absent = record {
    unchanged = nothing;
    is_open = λ _. tt;
    of_file = tt;
    exact = λ p clean holds fits. inr (fault_from f, refl, move_stop f (exact p clean holds fits));
    absent = λ clean lacks. elim (absent clean lacks) [
      | inl stops ↦ inr (fault_from f, refl, move_stop f stops)
      | inr none ↦ inl (ap (λ e. Err (fault_from e)) none)
    ];
  }

-- ── what a file holds ──

-- tables that stand for a book at a point say it
pub stands_says : (at : Point) (trees : Trees) (book : List Entry) → StandsAt at trees book → SaysAt at trees
stands_says at trees book stands = record {
  fits = stands.rows.point;
  lies = stands.lies;
  says = one_permutation (point_cells at) (rows_in office trees) (stands.rows.tables table.Office refl);
}

pub rests_placed : (s : State) (at : Point) (book : List Entry) → RestsAt at s book → IsPlacedAt at s
rests_placed s at book rests = rests_same s (schema_at at) (λ trees. StandsAt at trees book) (SaysAt at) (λ _ db stands. stands_says at db book stands) rests

placed_holds : (s : State) (at : Point) → IsPlacedAt at s → HasCleanDisk s → IsTrue s.is_open → HoldsPoint at s.now
placed_holds s at placed clean is_open = ((_, ap (λ (x : Schema). x.tables) (placed.schema clean is_open)), (placed.tables clean is_open).says)

-- a point that is checked is answered as it is
pub checked_same : (at p : Point) → checked at ≡ Ok p → p ≡ at
checked_same at p e = by (nat_lt NEWEST_LAYOUT at.layout) (is_of_file at) e
  where
    by : (newer known : Bool) → checks newer known at ≡ Ok p → p ≡ at
    by true known e = absurd cc
    by false true e = cc
    by false false e = absurd cc

module _ (old new : State) (at : Point) (placed : IsPlacedAt at old) (early : HasCleanDisk new → HasCleanDisk old) where
  answers : HasCleanDisk new → IsTrue old.is_open → (result : Result Point MoveFault) → TellsPlace old new result → AnswersAs (checked at) result
  answers clean is_open result tells = tells.exact at clean (λ _. placed_holds old at placed (early clean) is_open) (placed.tables (early clean) is_open).fits

  -- the point that is answered is the one that the file says
  pub place_is : (p : Point) → TellsPlace old new (Ok p) → HasCleanDisk new → p ≡ at
  place_is p tells clean = by (answers clean (tells.is_open clean) (Ok p) tells)
    where
      by : AnswersAs (checked at) (Ok p) → p ≡ at
      by (inl is) = checked_same at p (sym is)
      by (inr stops) = (let is = stops.1 in absurd cc)

  -- where a file can be at that one, the call stopped, if none is answered
  pub place_stops : IsOfFile at → (e : MoveFault) → TellsPlace old new (Err e) → HasCleanDisk new → IsMoveStop e
  place_stops file e tells clean = by (tells.exact at clean (λ is_open. placed_holds old at placed (early clean) is_open) (file_fits at file))
    where
      by : AnswersAs (checked at) (Err e) → IsMoveStop e
      by (inl is) = (let two : ◌≡◌ {A = Result Point MoveFault} (Err e) (Ok at) = is ∙ checked_file at file in absurd cc)
      by (inr stops) = (let same : e ≡ stops.0 = cc in subst IsMoveStop (sym same) stops.2)
