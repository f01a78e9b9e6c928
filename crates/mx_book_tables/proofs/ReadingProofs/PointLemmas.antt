-- What the row of office is, by what was read of it.
use Rattle.std.proofs.Common.{◌≡◌, inl, inr, Bool, true, false, ◌&&◌, List, [], ◌∷◌, length, Ok, Err, Result, IfOk, IfErr, IsTrue, refl, sym, ap, subst, ◌∙◌, arith}
use Rattle.std.specs.Prelude.{◌≢◌, MatchResult, nat_eq}
use Rattle.std.proofs.lemmas.Bool.Decides.{nat_tests}
use Rattle.sqlite.specs.Order.{Row}
use Rattle.sqlite.specs.State.{State, HasCleanDisk, IsUnchanged}
use Rattle.sqlite.specs.Tree.{Trees}
use Rattle.mx_base.specs.declared.point.Point.{Point}
use Rattle.mx_registers.specs.declared.points.points.TheConstants.{NEWEST_LAYOUT}
use Rattle.mx_layout.specs.TableName.{TableName}
use Rattle.mx_layout.specs.declared.fault.TableFault.{TableFault}
use Rattle.mx_layout.specs.declared.fault.TableFault.TheVariants as fault
use Rattle.mx_layout.specs.declared.fault.Table.TheVariants as table
use Rattle.mx_layout.specs.Contents.{rows_in}
use Rattle.mx_layout.specs.Crash.{IsWithin, StaysInside}
use Rattle.mx_layout.specs.Point.{AnswersPoint, IsNoPoint, IsStop, ReadsPoint, point_cells, point_text}
use Rattle.mx_layout.specs.Tables.{office, HasOffice}
use Rattle.mx_layout.proofs.InsideLemmas.{shown_stays}
use Rattle.mx_layout.proofs.PointLemmas.{office_same}
use Rattle.mx_layout.proofs.QueryLemmas.{refused_unchanged}
use Rattle.mx_tables.specs.Calls.{OnRead}
use Rattle.mx_book_tables.specs.reading.Layout.{HasTables, verified_point}
use Rattle.mx_book_tables.specs.reading.Damage.{HasBadRow, IsCause}
use Rattle.mx_book_tables.specs.reading.Looks.{Looks, TellsPoint, is_verified_point, told_point}
use Rattle.mx_tables.proofs.AnswerLemmas.{on_read}

-- ── the point ──

same_point : (at other : Point) → at.layout ≡ other.layout → at.step ≡ other.step → at.mark ≡ other.mark → at ≡ other
same_point at other layout step mark = λ i. record { layout = layout i; step = step i; mark = mark i }

all_same : (a b c : Bool) → a && (b && c) ≡ true → (a ≡ true) × (b ≡ true) × (c ≡ true)
all_same true true true is = (refl, refl, refl)
all_same false b c is = absurd cc
all_same true false c is = absurd cc
all_same true true false is = absurd cc

is_point : (at : Point) → is_verified_point at ≡ true → at ≡ verified_point
is_point at is =
    let each = all_same (nat_eq at.layout NEWEST_LAYOUT) (nat_eq at.step 0) (nat_eq at.mark 0) is in
    same_point at verified_point (grind (arith, nat_tests, each.0)) (grind (arith, nat_tests, each.1)) (grind (arith, nat_tests, each.2))

was_point : (at : Point) → point_cells at ∷ [] ≡ point_cells verified_point ∷ [] → is_verified_point at ≡ true
was_point at same = rw (layout, step, mark) refl
  where
    layout : at.layout ≡ NEWEST_LAYOUT
    layout = cc

    step : at.step ≡ 0
    step = cc

    mark : at.mark ≡ 0
    mark = cc

tells_of : (trees : Trees) (at : Point) → rows_in office trees ≡ point_cells at ∷ [] → TellsPoint trees (is_verified_point at)
tells_of trees at is = record {
  is = (λ yes. is ∙ ap (λ p. point_cells p ∷ []) (is_point at yes), λ same. was_point at (sym is ∙ same));
  read = inl (at, is);
}

tells_none : (trees : Trees) → length (rows_in office trees) ≢ 1 → TellsPoint trees false
tells_none trees long = record {
  is = (λ yes. absurd cc, λ same. absurd (long (ap length same)));
  read = inr long;
}

-- ── by what was read ──

not_stop : {A : Type 0} → IsStop fault.NotOurs → A
not_stop (inl e) = absurd cc
not_stop (inr e) = absurd cc

not_stop_damaged : {A : Type 0} (t : TableName) → IsStop (fault.Damaged t) → A
not_stop_damaged t (inl e) = absurd cc
not_stop_damaged t (inr e) = absurd cc

not_stop_exists : {A : Type 0} → IsStop fault.Exists → A
not_stop_exists (inl e) = absurd cc
not_stop_exists (inr e) = absurd cc

not_one : (rows : List Row) → IsNoPoint rows fault.NotOurs → length rows ≢ 1
not_one rows (inl none) = none.1
not_one rows (inr bad) = absurd (let e = bad.0 in cc)

found : (trees : Trees) (read : Result Point TableFault) → ReadsPoint (rows_in office trees) read → IfOk (told_point read) (TellsPoint trees)
found trees (Ok at) is = tells_of trees at is
found trees (Err fault.NotOurs) (inl stop) = not_stop stop
found trees (Err fault.NotOurs) (inr none) = tells_none trees (not_one (rows_in office trees) none)
found trees (Err fault.Memory) is = tt
found trees (Err fault.Store) is = tt
found trees (Err fault.Exists) is = tt
found trees (Err (fault.Damaged t)) is = tt

damage : (trees : Trees) (read : Result Point TableFault) (name : TableName) → ReadsPoint (rows_in office trees) read → told_point read ≡ Err (fault.Damaged name) → HasBadRow trees name
damage trees (Ok at) name is told = absurd cc
damage trees (Err fault.NotOurs) name is told = absurd cc
damage trees (Err fault.Memory) name is told = absurd cc
damage trees (Err fault.Store) name is told = absurd cc
damage trees (Err fault.Exists) name is told = absurd cc
damage trees (Err (fault.Damaged t)) name (inl stop) told = not_stop_damaged t stop
damage trees (Err (fault.Damaged t)) name (inr (inl none)) told = absurd (let e = none.0 in cc)
damage trees (Err (fault.Damaged t)) name (inr (inr bad)) told =
    let e = bad.0 in
    let here : table.Office ≡ name = cc in
    subst (HasBadRow trees) here bad.2

module _ (old new : State) (read : Result Point TableFault) (answered : AnswersPoint old new read) where
  caused : IfErr (told_point read) IsCause
  caused = elim answered [
    | inl shown ↦ by_rows shown.0 read shown.2
    | inr (inl stop) ↦ rw stop.1 (by_stop stop.0 stop.2)
    | inr (inr refused) ↦ rw refused.1 tt
  ]
    where
      by_stop : (e : TableFault) → IsStop e → IfErr (told_point (Err e)) IsCause
      by_stop fault.Memory is = inl is
      by_stop fault.Store is = inl is
      by_stop fault.NotOurs is = tt
      by_stop fault.Exists is = inl is
      by_stop (fault.Damaged t) is = inl is

      by_none : (rows : List Row) (e : TableFault) → IsNoPoint rows e → IfErr (told_point (Err e)) IsCause
      by_none rows e (inl none) = rw none.0 tt
      by_none rows e (inr bad) = rw bad.0 (inr (table.Office, refl, refl))

      by_rows : (rows : List Row) (read : Result Point TableFault) → MatchResult read (λ p. rows ≡ point_cells p ∷ []) (IsNoPoint rows) → IfErr (told_point read) IsCause
      by_rows rows (Ok p) is = tt
      by_rows rows (Err e) is = by_none rows e is

  silent : (P : Type 0) (e : TableFault) → IsStop e → OnRead (told_point (Err e)) P
  silent P fault.Memory is = tt
  silent P fault.Store is = tt
  silent P fault.NotOurs is = not_stop is
  silent P fault.Exists is = tt
  silent P (fault.Damaged t) is = not_stop_damaged t is

  answered_same : HasOffice old.now.schema → OnRead (told_point read) (IsUnchanged old new)
  answered_same has = elim answered [
    | inl shown ↦ on_read (told_point read) (office_same old new has shown.0 shown.1)
    | inr (inl stop) ↦ rw stop.1 (silent (IsUnchanged old new) stop.0 stop.2)
    | inr (inr refused) ↦ on_read (told_point read) (refused_unchanged old new point_text [] refused.0 refused.2)
  ]

  unchanged_stays : IsTrue old.in_transaction → IsUnchanged old new → StaysInside old new
  unchanged_stays begun same =
      let shown = same.0 in
      record { was_open = shown.was_open; is_open = shown.is_open; now_is = refl; committed_is = shown.committed_is; mode = shown.mode ∙ begun }

  answered_inside : IsTrue old.in_transaction → OnRead (told_point read) (StaysInside old new)
  answered_inside begun = elim answered [
    | inl shown ↦ on_read (told_point read) (shown_stays old new point_text [] shown.0 begun shown.1)
    | inr (inl stop) ↦ rw stop.1 (silent (StaysInside old new) stop.0 stop.2)
    | inr (inr refused) ↦ on_read (told_point read) (unchanged_stays begun (refused_unchanged old new point_text [] refused.0 refused.2))
  ]

has_office : (s : State) → HasTables s.now.schema → HasOffice s.now.schema
has_office s has = (_, ap (λ (schema : _). schema.tables) has.is)

-- what was read of office says whether it is at the point
pub point_looks : (old new : State) (read : Result Point TableFault) (result : Result Bool TableFault) → result ≡ told_point read
    → (HasCleanDisk new → AnswersPoint old new read) → (HasCleanDisk new → (IsTrue old.is_open → HasOffice old.now.schema) → ReadsPoint (rows_in office old.now.trees) read) → IsWithin old new
    → Looks TellsPoint old new result
point_looks old new read result is answered reads within =
    subst (Looks TellsPoint old new) (sym is)
    (record {
      found = λ clean has. found old.now.trees read (reads clean (λ _. has_office old has));
      cause = λ clean. caused old new read (answered clean);
      damaged = λ clean has name said. damage old.now.trees read name (reads clean (λ _. has_office old has)) said;
      unchanged = λ clean has. answered_same old new read (answered clean) (has_office old has);
      inside = λ clean begun. answered_inside old new read (answered clean) begun;
      within = within;
    })
