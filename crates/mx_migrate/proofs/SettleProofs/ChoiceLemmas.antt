-- Which step is due, by what is left at the front of a step.
use Rattle.std.proofs.Common.{◌≡◌, ◌≢◌, ◌⊎◌, inl, inr, ℕ, ◌<◌, ◌≤◌, zero, suc, true, false, List, [], ◌∷◌, map, Option, None, Some, Ok, Err, Result, IsTrue, refl, sym, ap, subst, ◌∙◌, arith}
use Rattle.std.specs.Prelude.{IfOk, IfSome, MatchOption}
use Rattle.std.specs.List.{list_all}
use Rattle.std.proofs.lemmas.List.Elements.{All-contains}
use Rattle.sqlite.specs.Store.{Ghosts}
use Rattle.sqlite.specs.Held.{Held, state}
use Rattle.sqlite.specs.State.{State, HasCleanDisk, Survives}
use Rattle.sqlite.specs.Tree.{Trees}
use Rattle.mx_book.specs.commands.Act.{Entry}
use Rattle.mx_base.specs.declared.rows.rows.SectorRow.{SectorRow}
use Rattle.mx_base.specs.declared.point.Point.{Point}
use Rattle.mx_registers.specs.declared.points.points.TheConstants.{NEWEST_LAYOUT}
use Rattle.mx_base.specs.Settled.{settled}
use Rattle.mx_registers.specs.points.Moves.{last_moved}
use Rattle.mx_registers.specs.points.Points.{moving}
use Rattle.mx_registers.proofs.PointsProofs.StepLemmas.{step_on_way}
use Rattle.mx_layout.specs.TableName.{TableName}
use Rattle.mx_layout.specs.declared.fault.Table.TheVariants as table
use Rattle.mx_layout.specs.declared.fault.TableFault.{TableFault}
use Rattle.mx_layout.specs.declared.fault.TableFault.TheVariants.{Memory, Store, Damaged}
use Rattle.mx_layout.specs.Contents.{rows_in}
use Rattle.mx_layout.specs.Crash.{StaysInside}
use Rattle.mx_layout.specs.Names.{table_named}
use Rattle.mx_layout.specs.Point.{IsStop}
use Rattle.mx_layout.specs.Tables.{sector1}
use Rattle.mx_layout.specs.kept.Cells.{kept_component, kept_sector1}
use Rattle.mx_layout.specs.kept.Family.{IsReadable}
use Rattle.mx_layout.specs.kept.Schemas.{HasOwn1, HasPermanent}
use Rattle.mx_book_tables.specs.stands.Schemas.{IsOfFile, schema_at}
use Rattle.mx_book_tables.specs.stands.Stands.{StandsAt}
use Rattle.mx_book_tables.proofs.StandsProofs.RowLemmas.{readable_stored}
use Rattle.mx_tables.specs.Calls.{OnDamaged}
use Rattle.mx_tables.specs.inserts.Sets.{IsDamaged}
use Rattle.mx_migrate.specs.declared.components.MoveComponent.{MoveComponent}
use Rattle.mx_migrate.specs.declared.tables.CreateSectors.{CreateSectors}
use Rattle.mx_migrate.specs.declared.sectors.MoveSectors.{MoveSectors}
use Rattle.mx_migrate.specs.declared.tables.ChangeToSpans.{ChangeToSpans}
use Rattle.mx_migrate.specs.declared.tables.ChangeToTotals.{ChangeToTotals}
use Rattle.mx_moves.specs.steps.Sectors.{MovesSectors, is_next_from}
use Rattle.mx_verify.specs.declared.derived.kept.KeptRows.{KeptRows}
use Rattle.mx_migrate.specs.declared.settle.due.Due.{Due}
use Rattle.mx_migrate.specs.declared.settle.due.Due.TheVariants as due
use Rattle.mx_migrate.specs.settle.Choices.{Chooses, FindsLeft, FindsNext, GoesOn, HasLateNumber, IsUnfit, LiesIn, StandsIn}
use Rattle.mx_migrate.specs.settle.Due.{IsCalledFor, IsDueAt, IsFor}
use Rattle.mx_migrate.specs.settle.Found.{IsNextIn, KnowsIn}
use Rattle.mx_migrate.specs.settle.Place.{IsBehind}
use Rattle.mx_migrate.proofs.SettleProofs.FrontLemmas.{none_stored}
use Rattle.mx_migrate.proofs.SettleProofs.ItemLemmas.{between, later, on_the_way}
use Rattle.mx_migrate.proofs.SettleProofs.PlaceLemmas.{bounds, same_point}
use Rattle.mx_migrate.proofs.SettleProofs.LeftLemmas.{component_next, first_between, last_between, no_sector_due, none_late, none_unfit, sector_due, seq_of}

-- ── the choice ──

-- a call that stopped
pub chooses_stop : (at : Point) (old new : State) (e : TableFault) → IsStop e → Chooses at None None old new (Err e)
chooses_stop at old new e stops = record {
  fits = λ _. tt;
  due = λ _ _ _ _ _. tt;
  stops = λ _ _ _ _ _. stops;
  knows = λ _ _ _ _ _. tt;
  goes = λ _ _ _. tt;
  cause = elim stops [ inl memory ↦ inl memory | inr store ↦ inr (inl store) ];
  damaged = λ _ _ _ name is. elim stops [ inl memory ↦ absurd cc | inr store ↦ absurd cc ];
  called = λ _ _ _ _ _. tt;
  keeps = λ _ _ _ _ _. tt;
}

-- a table that is damaged, for a reason that no tables have which stand for a book
chooses_damage : (at : Point) (old new : State) (name : TableName) (Reason : Type 0) → (HasCleanDisk new → IsTrue old.is_open) → (HasCleanDisk new → LiesIn at old.now → Reason) → (Reason → IsUnfit name old.now.trees)
    → ((book : List Entry) → StandsAt at old.now.trees book → Reason → ⊥) → Chooses at None None old new (Err (Damaged name))
chooses_damage at old new name Reason opened off unfit whole = record {
  fits = λ _. tt;
  due = λ _ _ _ _ _. tt;
  stops = λ book _ clean stands _. (let here = stands (opened clean) in absurd (whole book here.1 (off clean (here.0, here.1.lies))));
  knows = λ _ _ _ _ _. tt;
  goes = λ _ _ _. tt;
  cause = inr (inr (name, refl));
  damaged = λ _ clean lies other is. (let same : name ≡ other = cc in (opened clean, subst (λ n. IsUnfit n old.now.trees) same (unfit (off clean (lies (opened clean))))));
  called = λ _ _ _ _ _. tt;
  keeps = λ _ _ _ _ _. tt;
}

-- the table with this name was not read: for want of memory, for the store, or for a reason in it
chooses_unread : (at : Point) (old new : State) → IsTrue old.in_transaction → (name : TableName) (Reason : Type 0) (e : TableFault) → (e ≡ Memory) ⊎ ((e ≡ Store) ⊎ (e ≡ Damaged name)) → (HasCleanDisk new → IsTrue old.in_transaction → OnDamaged e (StaysInside old new))
    → (HasCleanDisk new → LiesIn at old.now → e ≡ Damaged name → Reason) → (Reason → IsUnfit name old.now.trees) → ((book : List Entry) → StandsAt at old.now.trees book → Reason → ⊥) → Chooses at None None old new (Err e)
chooses_unread at old new begun name Reason e (inl memory) inside off unfit excluded = chooses_stop at old new e (inl memory)
chooses_unread at old new begun name Reason e (inr (inl store)) inside off unfit excluded = chooses_stop at old new e (inr store)
chooses_unread at old new begun name Reason e (inr (inr damaged)) inside off unfit excluded = subst (λ f. Chooses at None None old new (Err f)) (sym damaged)
    (chooses_damage at old new name Reason (λ clean. (subst (λ f. OnDamaged f (StaysInside old new)) damaged (inside clean begun)).was_open) (λ clean lies. off clean lies damaged) unfit excluded)

-- a step that is due
chooses_step : (at : Point) (old new : State) (step : Due) → (IsOfFile at → IsFor step at) → ((book : List Entry) → IsOfFile at → HasCleanDisk new → (IsTrue old.is_open → StandsIn at book old.now) → IsDueAt step at book)
    → (IsOfFile at → HasCleanDisk new → (IsTrue old.is_open → LiesIn at old.now) → GoesOn step at old.now.trees) → (HasCleanDisk new → LiesIn at old.now → IsCalledFor step old.now.trees) → Chooses at None None old new (Ok (Some step))
chooses_step at old new step here due goes called = record {
  fits = here;
  due = λ book file clean stands _. due book file clean stands;
  stops = λ _ _ _ _ _. tt;
  knows = λ _ _ _ _ _. tt;
  goes = goes;
  cause = tt;
  damaged = λ _ _ _. tt;
  called = λ _ clean lies is_open _. called clean (lies is_open);
  keeps = λ _ _ _ _ _. tt;
}

-- no step is due
pub settled_at : (at : Point) → IsOfFile at → NEWEST_LAYOUT ≤ at.layout → at ≡ settled NEWEST_LAYOUT
settled_at at file newest =
    let b = bounds at file in
    let two : at.layout ≡ NEWEST_LAYOUT = omega (arith, b.layout) in
    same_point at (settled NEWEST_LAYOUT) two (b.newest two).0 (b.newest two).1

pub chooses_none : (at : Point) (known : Option KeptRows) (old new : State) → NEWEST_LAYOUT ≤ at.layout → Chooses at known known old new (Ok None)
chooses_none at known old new newest = record {
  fits = λ file. settled_at at file newest;
  due = λ _ _ _ _ _. tt;
  stops = λ _ _ _ _ _. tt;
  knows = λ _ _ _ _ knows. knows;
  goes = λ _ _ _. tt;
  cause = tt;
  damaged = λ _ _ _. tt;
  called = λ _ _ _ _ _. tt;
  keeps = λ _ _ _ _ knows. knows;
}

-- where a choice has nothing to do with what is known of items, that stays
pub chooses_beside : (at : Point) (known : Option KeptRows) (old new : State) (result : Result (Option Due) TableFault) → Chooses at None None old new result → Chooses at known known old new result
chooses_beside at known old new result c = record {
  fits = c.fits;
  due = λ book file clean stands _. c.due book file clean stands tt;
  stops = λ book file clean stands _. c.stops book file clean stands tt;
  knows = λ _ _ _ _ knows. knows;
  goes = c.goes;
  cause = c.cause;
  damaged = c.damaged;
  called = λ file clean lies is_open _. c.called file clean lies is_open tt;
  keeps = λ _ _ _ _ knows. knows;
}

-- ── the new table of sectors ──

-- a point below the newest layout is in its step
in_step : (at : Point) (step : ℕ) → at.layout < NEWEST_LAYOUT → at.step ≡ step → IsOfFile at → at ≡ moving step at.mark
in_step at step older is file = let b = bounds at file in same_point at (moving step at.mark) (omega (arith, b.first)) is refl

-- and before the steps it is settled at layout 1
first_at : (at : Point) → at.layout < NEWEST_LAYOUT → at.step ≡ 0 → IsOfFile at → at ≡ settled 1
first_at at older first file = let b = bounds at file in same_point at (settled 1) (omega (arith, b.first)) first (b.start first)

pub table_due : (at : Point) (old new : State) (step : CreateSectors) → at.layout < NEWEST_LAYOUT → at.step ≡ 0 → Chooses at None None old new (Ok (Some (due.SectorTable step)))
table_due at old new step older first = chooses_step at old new (due.SectorTable step) (first_at at older first) (λ _ _ _ _. tt)
    (λ file _ _ to trees it. later at to (moving 1 0) (inl refl) (subst (λ p. IsBehind p (moving 1 0)) (sym (first_at at older first file)) (inr (refl, inl (omega arith)))) it.point)
    (λ _ _. tt)

-- ── the steps of sectors ──

module _ (mark : ℕ) (old new : State) (begun : IsTrue old.in_transaction) where
  has_own : old.now.schema ≡ schema_at (moving 1 mark) → HasOwn1 old.now.schema
  has_own has =
      let own : HasOwn1 (schema_at (moving 1 mark)) = record { rest = _; more = _; is = refl } in
      subst HasOwn1 (sym has) own

  no_damage : (book : List Entry) → StandsAt (moving 1 mark) old.now.trees book → IsDamaged old.now.trees table.Sector1 → ⊥
  no_damage book stands damaged = damaged.2 (All-contains (IsReadable table.Sector1) (rows_in (table_named table.Sector1) old.now.trees) damaged.0 (readable_stored (moving 1 mark) old.now.trees book stands.rows table.Sector1 refl) damaged.1)

  pub sectors_unread : (e : TableFault) → FindsLeft old new (Err e) → Chooses (moving 1 mark) None None old new (Err e)
  sectors_unread e r =
      chooses_unread (moving 1 mark) old new begun table.Sector1 (IsDamaged old.now.trees table.Sector1) e r.cause r.inside (λ clean lies damaged. r.damaged clean (has_own lies.0) (ap Err damaged)) (λ reason. inl reason) no_damage

  -- of sectors that are left the next move on to a later mark
  moves_on : (to : Point) (before after : Trees) → rows_in sector1 before ≢ [] → MovesSectors mark to before after → IsOfFile to × IsBehind (moving 1 mark) to
  moves_on to before after some it = at it.rows refl
    where
      none : it.rows ≡ [] → rows_in sector1 before ≡ []
      none e = none_stored sector1 before kept_sector1.order (map kept_sector1.as_cells it.rows) it.first (ap (map kept_sector1.as_cells) e)

      at : (rows : List SectorRow) → it.rows ≡ rows → IsOfFile to × IsBehind (moving 1 mark) to
      at [] e = absurd (some (none e))
      at (row ∷ rows) e =
          let all : list_all (is_next_from mark) (row ∷ rows) ≡ true = subst (λ l. list_all (is_next_from mark) l ≡ true) e it.next in
          let last = last_between mark row.seq (row ∷ rows) (first_between mark row rows all).0 (first_between mark row rows all).1 all in
          let goes : to ≡ moving 1 (last_moved seq_of mark (row ∷ rows)) = it.point ∙ ap (λ l. moving 1 (last_moved seq_of mark l)) e in
          later (moving 1 mark) to (moving 1 (last_moved seq_of mark (row ∷ rows))) (inl (step_on_way 1 (last_moved seq_of mark (row ∷ rows)) (omega arith) (omega arith) last.1)) (inr (refl, inr (refl, last.0))) goes

  pub sectors_chosen : (step : MoveSectors) → step.mark ≡ mark → FindsLeft old new (Ok true) → Chooses (moving 1 mark) None None old new (Ok (Some (due.Sectors step)))
  sectors_chosen step is r =
      let opened : HasCleanDisk new → IsTrue old.is_open = λ clean. (r.inside clean begun).was_open in
      chooses_step (moving 1 mark) old new (due.Sectors step) (λ _. ap (moving 1) (sym is))
      (λ book _ clean stands. (let here = stands (opened clean) in sector_due mark old.now.trees book here.1 (r.some clean (has_own here.0) refl)))
      (λ _ clean lies to trees it. (let here = lies (opened clean) in moves_on to old.now.trees trees (r.some clean (has_own here.0) refl) (subst (λ m. MovesSectors m to old.now.trees trees) is it)))
      (λ clean lies. r.some clean (has_own lies.0) refl)

  pub spans_chosen : (step : ChangeToSpans) → step.mark ≡ mark → FindsLeft old new (Ok false) → Chooses (moving 1 mark) None None old new (Ok (Some (due.SpanTable step)))
  spans_chosen step is r =
      let opened : HasCleanDisk new → IsTrue old.is_open = λ clean. (r.inside clean begun).was_open in
      chooses_step (moving 1 mark) old new (due.SpanTable step) (λ file. (ap (moving 1) (sym is), on_the_way 1 mark file))
      (λ book _ clean stands. (let here = stands (opened clean) in no_sector_due mark old.now.trees book here.1 (r.none clean (has_own here.0) refl)))
      (λ _ _ _ to trees it. later (moving 1 mark) to (moving 2 0) (inl refl) (inr (refl, inl (omega arith))) it.point)
      (λ clean lies. r.none clean (has_own lies.0) refl)

-- ── the step of a component ──

module _ (mark : ℕ) (old new : State) (begun : IsTrue old.in_transaction) where
  has_all : old.now.schema ≡ schema_at (moving 2 mark) → HasPermanent old.now.schema
  has_all has =
      let own : HasPermanent (schema_at (moving 2 mark)) = record { rest = _; more = _; is = refl } in
      subst HasPermanent (sym has) own

  -- a row that is none of its type, or has a number that no entry can have
  abbrev IsOff : Type 0
  IsOff = IsDamaged old.now.trees table.Component ⊎ HasLateNumber kept_component old.now.trees

  no_unfit : (book : List Entry) → StandsAt (moving 2 mark) old.now.trees book → IsOff → ⊥
  no_unfit book stands (inl damaged) = none_unfit mark old.now.trees book stands damaged
  no_unfit book stands (inr late) = none_late mark old.now.trees book stands late

  as_unfit : IsOff → IsUnfit table.Component old.now.trees
  as_unfit (inl damaged) = inl damaged
  as_unfit (inr late) = inr (inl (refl, late))

  pub component_unread : (e : TableFault) → FindsNext kept_component mark old new (Err e) → Chooses (moving 2 mark) None None old new (Err e)
  component_unread e r = chooses_unread (moving 2 mark) old new begun table.Component IsOff e r.cause r.inside (λ clean lies damaged. r.damaged clean (has_all lies.0) (ap Err damaged)) as_unfit no_unfit

  -- what was found behind the mark calls for the step
  called : (from : ℕ) → from ≡ mark → {found : Option ℕ} (next : Option ℕ) → found ≡ next → IsNextIn kept_component mark old.now.trees found → IsNextIn kept_component from old.now.trees next
  called from is next same next_in = subst (λ m. IsNextIn kept_component m old.now.trees next) (sym is) (subst (IsNextIn kept_component mark old.now.trees) same next_in)

  pub component_chosen : (n : ℕ) (step : MoveComponent) → step.mark ≡ mark → step.component ≡ n → FindsNext kept_component mark old new (Ok (Some n)) → Chooses (moving 2 mark) None None old new (Ok (Some (due.Component step)))
  component_chosen n step is number r =
      let opened : HasCleanDisk new → IsTrue old.is_open = λ clean. (r.inside clean begun).was_open in
      let far = between mark n r.next in
      chooses_step (moving 2 mark) old new (due.Component step) (λ _. ap (moving 2) (sym is))
      (λ book _ clean stands.
      let here = stands (opened clean) in
      let read = r.rows clean (has_all here.0) in
      component_next mark old.now.trees book here.1 read.0 read.1 read.2 ∙ sym read.3 ∙ ap Some (sym number))
      (λ _ _ _ to trees it. later (moving 2 mark) to (moving 2 n) (inl (step_on_way 2 n (omega arith) (omega arith) far.1)) (inr (refl, inr (refl, far.0))) (it.point ∙ ap (moving 2) number))
      (λ clean lies. called step.mark is (Some step.component) (ap Some (sym number)) (r.rows clean (has_all lies.0)))

  pub totals_chosen : (step : ChangeToTotals) → step.mark ≡ mark → FindsNext kept_component mark old new (Ok None) → Chooses (moving 2 mark) None None old new (Ok (Some (due.TotalTable step)))
  totals_chosen step is r =
      let opened : HasCleanDisk new → IsTrue old.is_open = λ clean. (r.inside clean begun).was_open in
      chooses_step (moving 2 mark) old new (due.TotalTable step) (λ file. (ap (moving 2) (sym is), on_the_way 2 mark file))
      (λ book _ clean stands.
      let here = stands (opened clean) in
      let read = r.rows clean (has_all here.0) in
      component_next mark old.now.trees book here.1 read.0 read.1 read.2 ∙ sym read.3)
      (λ _ _ _ to trees it. later (moving 2 mark) to (moving 3 0) (inl refl) (inr (refl, inl (omega arith))) it.point)
      (λ clean lies. called step.mark is None refl (r.rows clean (has_all lies.0)))

-- ── at the point itself, and outside the transaction ──

-- a file in none of the steps before is in the last
pub last_step_of : (at : Point) → at.step ≢ 0 → at.step ≢ 1 → at.step ≢ 2 → at.step ≢ 3 → IsOfFile at → at.step ≡ 4
last_step_of at not_0 not_1 not_2 not_3 file = by at.step refl (bounds at file).step
  where
    by : (n : ℕ) → at.step ≡ n → n ≤ 4 → at.step ≡ 4
    by zero is low = absurd (not_0 is)
    by (suc zero) is low = absurd (not_1 is)
    by (suc (suc zero)) is low = absurd (not_2 is)
    by (suc (suc (suc zero))) is low = absurd (not_3 is)
    by (suc (suc (suc (suc zero)))) is low = is
    by (suc (suc (suc (suc (suc n))))) is low = absurd (omega (arith, low))

pub chooses_at : (at : Point) (known after : Option KeptRows) (step : ℕ) (old new : State) (result : Result (Option Due) TableFault) → at.layout < NEWEST_LAYOUT → (IsOfFile at → at.step ≡ step) → Chooses (moving step at.mark) known after old new result → Chooses at known after old new result
chooses_at at known after step old new result older is c =
    let there : IsOfFile at → at ≡ moving step at.mark = λ f. in_step at step older (is f) f in
    let file : IsOfFile at → IsOfFile (moving step at.mark) = λ f. subst IsOfFile (there f) f in
    record {
      fits = λ f. subst (λ p. IfOk result (λ next. MatchOption next (p ≡ settled NEWEST_LAYOUT) (λ s. IsFor s p))) (sym (there f)) (c.fits (file f));
      due = λ book f clean stands knows. subst (λ p. IfOk result (λ next. IfSome next (λ s. IsDueAt s p book))) (sym (there f)) (c.due book (file f) clean (λ is_open. subst (λ p. StandsIn p book old.now) (there f) (stands is_open)) knows);
      stops = λ book f clean stands knows. c.stops book (file f) clean (λ is_open. subst (λ p. StandsIn p book old.now) (there f) (stands is_open)) knows;
      knows = λ book f clean stands knows. c.knows book (file f) clean (λ is_open. subst (λ p. StandsIn p book old.now) (there f) (stands is_open)) knows;
      goes = λ f clean lies. subst (λ p. IfOk result (λ next. IfSome next (λ s. GoesOn s p old.now.trees))) (sym (there f)) (c.goes (file f) clean (λ is_open. subst (λ p. LiesIn p old.now) (there f) (lies is_open)));
      cause = c.cause;
      damaged = λ f clean lies. c.damaged (file f) clean (λ is_open. subst (λ p. LiesIn p old.now) (there f) (lies is_open));
      called = λ f clean lies is_open knows. c.called (file f) clean (λ o. subst (λ p. LiesIn p old.now) (there f) (lies o)) is_open (subst (λ p. KnowsIn p known old.now.trees) (there f) knows);
      keeps = λ f clean lies is_open knows. subst (λ p. KnowsIn p after old.now.trees) (sym (there f)) (c.keeps (file f) clean (λ o. subst (λ p. LiesIn p old.now) (there f) (lies o)) is_open (subst (λ p. KnowsIn p known old.now.trees) (there f) knows));
    }

pub chooses_after : {S : Type 0} (g : Ghosts S) (at : Point) (known after : Option KeptRows) (old last end : Held S) (result : Result (Option Due) TableFault) → Survives (state g last) (state g end) (λ _. ⊥)
    → Chooses at known after (state g (record old { in_transaction = true })) (state g last) result → Chooses at known after (state g old) (state g end) result
chooses_after g at known after old last end result drop c =
    let mid : HasCleanDisk (state g end) → HasCleanDisk (state g last) = λ clean. omega (arith, drop.clean) in
    record {
      fits = c.fits;
      due = λ book file clean stands knows. c.due book file (mid clean) stands knows;
      stops = λ book file clean stands knows. c.stops book file (mid clean) stands knows;
      knows = λ book file clean stands knows. c.knows book file (mid clean) stands knows;
      goes = λ file clean lies. c.goes file (mid clean) lies;
      cause = c.cause;
      damaged = λ file clean lies. c.damaged file (mid clean) lies;
      called = λ file clean lies is_open knows. c.called file (mid clean) lies is_open knows;
      keeps = λ file clean lies is_open knows. c.keeps file (mid clean) lies is_open knows;
    }
