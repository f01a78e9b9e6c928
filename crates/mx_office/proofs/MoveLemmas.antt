-- What becomes of a file whose office is opened, by what was read of it and by the move.
use Rattle.std.proofs.Common.{◌≡◌, ◌≢◌, ◌⊎◌, inl, inr, Bool, true, false, ◌≤◌, ℕ, IsTrue, List, Option, Some, None, Ok, Err, Result, refl, sym, ap, subst, ◌∙◌, arith}
use Rattle.sqlite.specs.Effect.{Database}
use Rattle.sqlite.specs.Schema.{Schema}
use Rattle.sqlite.specs.State.{State, HasCleanDisk}
use Rattle.sqlite.specs.Store.{Ghosts}
use Rattle.sqlite.specs.Tree.{Trees}
use Rattle.sqlite.specs.Held.{Held, state}
use Rattle.mx_book.specs.commands.Act.{Entry}
use Rattle.mx_faults.specs.declared.moving.MoveFault.{MoveFault}
use Rattle.mx_faults.specs.declared.moving.MoveFault.TheVariants as move
use Rattle.mx_base.specs.declared.point.Point.{Point}
use Rattle.mx_registers.specs.points.Commits.{point_behind}
use Rattle.mx_registers.specs.points.Points.{is_on_way}
use Rattle.mx_layout.specs.Crash.{ChangesNothing, Leaves}
use Rattle.mx_layout.specs.Point.{FitsPoint, HoldsPoint}
use Rattle.mx_book_tables.specs.stands.Schemas.{IsOfFile, schema_at}
use Rattle.mx_book_tables.specs.stands.Stands.{RestsAt}
use Rattle.mx_migrate.specs.settle.Advances.{AreMoved}
use Rattle.mx_migrate.specs.settle.Place.{IsPlacedAt, SaysAt}
use Rattle.mx_migrate.specs.settle.Settles.{Settles}
use Rattle.mx_migrate.specs.declared.settle.settling.TheConstants.{ENOUGH_COMMITS}
use Rattle.mx_migrate.proofs.SettleProofs.AdvanceLemmas.{placed_point, placed_still, rests_point, same_now, still}
use Rattle.mx_migrate.proofs.SettleProofs.PlaceLemmas.{rests_placed}
use Rattle.mx_office.specs.Faults.{moved_fault_from, open_answer, IsStop}
use Rattle.mx_office.specs.Layout.{office_point}
use Rattle.mx_office.specs.Opening.{AreMovedOn, ChangesOnWay, IsArrived, MovesOn}
use Rattle.mx_faults.specs.declared.fault.OpenFault.{OpenFault}
use Rattle.mx_faults.specs.declared.fault.OpenFault.TheVariants as unopened
use Rattle.mx_office.proofs.AnswerLemmas.{answers_office, moved_stop}

-- a file that is at a point has its row
pub placed_holds : (s : State) (at : Point) → IsPlacedAt at s → HasCleanDisk s → IsTrue s.is_open → HoldsPoint at s.now
placed_holds s at placed clean is_open = ((_, ap (λ (schema : Schema). schema.tables) (placed.schema clean is_open)), (placed.tables clean is_open).says)

-- ── what becomes of any rows ──

as_moved_on : (at_most : ℕ) (at : Point) (old : State) (trees : Trees) → IsTrue old.is_open × AreMoved at_most at old.now.trees trees → IsTrue old.is_open × AreMovedOn at old.now.trees trees
as_moved_on at_most at old trees (is_open, (commits, low, to, leads)) = (is_open, (commits, to, leads))

as_left_on : (at_most : ℕ) (at : Point) (old : State) (trees : Trees) → old.may_leave trees ⊎ (IsTrue old.is_open × AreMoved at_most at old.now.trees trees) → old.may_leave trees ⊎ (IsTrue old.is_open × AreMovedOn at old.now.trees trees)
as_left_on at_most at old trees (inl before) = inl before
as_left_on at_most at old trees (inr moved) = inr (as_moved_on at_most at old trees moved)

-- ── nothing changed ──

module _ (old new : State) (nothing : ChangesNothing old new) where
  early : HasCleanDisk new → HasCleanDisk old
  early clean = omega (arith, nothing.survives.clean)

  -- the tables are those from before
  moved_none : (at : Point) → IsPlacedAt at old → HasCleanDisk new → IsTrue new.is_open → IsTrue old.is_open × AreMovedOn at old.now.trees new.now.trees
  moved_none at placed clean is_open = (nothing.was_open clean is_open, (0, at, (refl, ap (λ (d : Database). d.trees) (same_now (schema_at at) (SaysAt at) old new nothing placed clean is_open))))

  left_none : (at : Point) → Leaves new (λ trees. old.may_leave trees ⊎ (IsTrue old.is_open × AreMovedOn at old.now.trees trees))
  left_none at clean db may = elim (nothing.survives.crash clean db may) [ inl before ↦ inl before | inr none ↦ absurd none ]

  -- what is made of the tables is made of those from before
  from_before : (at : Point) → IsPlacedAt at old → HasCleanDisk new → (trees : Trees) → IsTrue new.is_open × AreMovedOn at new.now.trees trees → IsTrue old.is_open × AreMovedOn at old.now.trees trees
  from_before at placed clean trees (is_open, moved) =
      (nothing.was_open clean is_open, subst (λ (d : Database). AreMovedOn at d.trees trees) (same_now (schema_at at) (SaysAt at) old new nothing placed clean is_open) moved)

  left_before : (at : Point) → IsPlacedAt at old → HasCleanDisk new → (trees : Trees) → new.may_leave trees ⊎ (IsTrue new.is_open × AreMovedOn at new.now.trees trees) → old.may_leave trees ⊎ (IsTrue old.is_open × AreMovedOn at old.now.trees trees)
  left_before at placed clean trees (inl before) = left_none at clean trees before
  left_before at placed clean trees (inr moved) = inr (from_before at placed clean trees moved)

  -- no office was opened
  pub stays_shut : (why : OpenFault) → MovesOn old new (Some why)
  stays_shut why = record {
    clean = nothing.survives.clean;
    kept = λ at book rests is. absurd cc;
    same = λ at book rests fault is other. (0, still at book old new nothing rests);
    crash = λ at book rests clean db may. (0, (still at book old new nothing rests).crash clean db may);
    placed = λ at placed is. absurd cc;
    made = λ at placed _. moved_none at placed;
    left = λ at _. left_none at;
  }

  -- then the file was moved, or the move was stopped
  pub moves_then : (end : State) (why : Option OpenFault) → MovesOn new end why → MovesOn old end why
  moves_then end why on = record {
    clean = omega (arith, nothing.survives.clean, on.clean);
    kept = λ at book rests. on.kept at book (still at book old new nothing rests);
    same = λ at book rests. on.same at book (still at book old new nothing rests);
    crash = λ at book rests. on.crash at book (still at book old new nothing rests);
    placed = λ at placed. on.placed at (placed_still at old new nothing placed);
    made = λ at placed other clean is_open. from_before at placed (omega (arith, on.clean)) end.now.trees (on.made at (placed_still at old new nothing placed) other clean is_open);
    left = λ at placed clean db may. left_before at placed (omega (arith, on.clean)) db (on.left at (placed_still at old new nothing placed) clean db may);
  }

  -- the point was read
  module _ (p : Point) (is_open : HasCleanDisk new → IsTrue old.is_open) (exact : (q : Point) → HasCleanDisk new → (IsTrue old.is_open → HoldsPoint q old.now) → FitsPoint q → p ≡ q) where
    -- it is the one that the file is at
    is_at : (at : Point) → IsPlacedAt at old → HasCleanDisk new → p ≡ at
    is_at at placed clean = exact at clean (λ there. placed_holds old at placed (early clean) there) (placed.tables (early clean) (is_open clean)).fits

    pub is_at_book : HasCleanDisk new → (at : Point) (book : List Entry) → RestsAt at old book → p ≡ at
    is_at_book clean at book rests = is_at at (rests_placed old at book rests) clean

    opens_there : p ≡ office_point → MovesOn old new None
    opens_there own = record {
      clean = nothing.survives.clean;
      kept = λ at book rests _. rests_point new at office_point book (λ clean. sym (is_at_book clean at book rests) ∙ own) (still at book old new nothing rests);
      same = λ at book rests fault is. absurd cc;
      crash = λ at book rests clean db may. (0, (still at book old new nothing rests).crash clean db may);
      placed = λ at placed _. placed_point new at office_point (λ clean. sym (is_at at placed clean) ∙ own) (placed_still at old new nothing placed);
      made = λ at placed _. moved_none at placed;
      left = λ at _. left_none at;
    }

    pub answers_there : is_on_way p ≡ false → (why : Option OpenFault) → open_answer p ≡ why → MovesOn old new why
    answers_there off None is = opens_there (answers_office p is off)
    answers_there off (Some why) is = stays_shut why

-- ── it was moved ──

not_store : (e : MoveFault) (fault : OpenFault) → Some (moved_fault_from e) ≡ Some fault → fault ≢ unopened.Store → e ≢ move.Store
not_store e fault is other store = other (let same : moved_fault_from e ≡ fault = cc in sym same ∙ ap moved_fault_from store)

stopped_store : (e : MoveFault) (result : Result Point MoveFault) → result ≡ Err e → result ≡ Err move.Store → moved_fault_from e ≡ unopened.Store
stopped_store e result stops is = let same : e ≡ move.Store = cc in ap moved_fault_from same

-- as far as it goes, and the point was read once more
module _ (at_most : ℕ) (old mid new : State) (to : Point) (s : Settles at_most old mid (Ok to)) (nothing : ChangesNothing mid new) where
  before : HasCleanDisk new → HasCleanDisk mid
  before clean = omega (arith, nothing.survives.clean)

  made_then : (at : Point) → IsPlacedAt at old → HasCleanDisk new → IsTrue new.is_open → IsTrue old.is_open × AreMovedOn at old.now.trees new.now.trees
  made_then at placed clean is_open =
      let same = same_now (schema_at to) (SaysAt to) mid new nothing (s.placed at placed) clean is_open in
      let it = s.made at placed (λ is. absurd cc) (before clean) (nothing.was_open clean is_open) in
      as_moved_on at_most at old new.now.trees (it.0, subst (λ (d : Database). AreMoved at_most at old.now.trees d.trees) (sym same) it.1)

  left_then : (at : Point) → IsPlacedAt at old → Leaves new (λ trees. old.may_leave trees ⊎ (IsTrue old.is_open × AreMovedOn at old.now.trees trees))
  left_then at placed clean db may = elim (nothing.survives.crash clean db may) [
    | inl earlier ↦ as_left_on at_most at old db (s.left at placed (before clean) db earlier)
    | inr none ↦ absurd none
  ]

  kept_then : (at : Point) (book : List Entry) → RestsAt at old book → RestsAt (point_behind at_most at book) new book
  kept_then at book rests = still (point_behind at_most at book) book mid new nothing (s.kept at book rests)

  -- it is not that of the office
  pub stays_away : (why : OpenFault) → MovesOn old new (Some why)
  stays_away why = record {
    clean = omega (arith, s.clean, nothing.survives.clean);
    kept = λ at book rests is. absurd cc;
    same = λ at book rests fault is other. (at_most, kept_then at book rests);
    crash = λ at book rests clean db may. (at_most, (kept_then at book rests).crash clean db may);
    placed = λ at placed is. absurd cc;
    made = λ at placed _. made_then at placed;
    left = left_then;
  }

  -- of a book, memory or the store alone stop it
  pub whole_away : ENOUGH_COMMITS ≤ at_most → (why : OpenFault) → (HasCleanDisk new → (p : Point) → (IsTrue mid.is_open → HoldsPoint p mid.now) → FitsPoint p → IsArrived p (Some why)) → (at : Point) (book : List Entry) → RestsAt at old book → HasCleanDisk new → IsStop why
  whole_away enough why exact at book rests clean =
      let start = rests_placed old at book rests in
      let own : to ≡ office_point = s.ends at start (before clean) enough in
      elim (exact clean office_point (λ is_open. subst (λ q. HoldsPoint q mid.now) own (placed_holds mid to (s.placed at start) (before clean) is_open)) (omega arith, omega arith, omega arith)) [
        | inl stop ↦ stop
        | inr other ↦ absurd (other refl)
      ]

  -- it is
  module _ (is_open : HasCleanDisk new → IsTrue mid.is_open) (exact : HasCleanDisk new → (p : Point) → (IsTrue mid.is_open → HoldsPoint p mid.now) → FitsPoint p → p ≡ office_point) where
    is_there : (p : Point) → IsPlacedAt p mid → HasCleanDisk new → p ≡ office_point
    is_there p placed clean = exact clean p (λ there. placed_holds mid p placed (before clean) there) (placed.tables (before clean) (is_open clean)).fits

    pub settles_there : MovesOn old new None
    settles_there = record {
      clean = omega (arith, s.clean, nothing.survives.clean);
      kept = λ at book rests _.
          let p = point_behind at_most at book in
          rests_point new p office_point book (λ clean. is_there p (rests_placed mid p book (s.kept at book rests)) clean) (kept_then at book rests);
      same = λ at book rests fault is. absurd cc;
      crash = λ at book rests clean db may. (at_most, (kept_then at book rests).crash clean db may);
      placed = λ at placed _. placed_point new to office_point (λ clean. is_there to (s.placed at placed) clean) (placed_still to mid new nothing (s.placed at placed));
      made = λ at placed _. made_then at placed;
      left = left_then;
    }

  -- whichever it is
  pub moved_there : (why : Option OpenFault) → (HasCleanDisk new → why ≡ None → IsTrue mid.is_open) → (HasCleanDisk new → (p : Point) → (IsTrue mid.is_open → HoldsPoint p mid.now) → FitsPoint p → IsArrived p why) → MovesOn old new why
  moved_there None opened exact = settles_there (λ clean. opened clean refl) exact
  moved_there (Some why) opened exact = stays_away why

-- the move was stopped
module _ (at_most : ℕ) (old new : State) where
  pub stopped_on_way : (e : MoveFault) (why : OpenFault) → why ≡ moved_fault_from e → Settles at_most old new (Err e) → MovesOn old new (Some why)
  stopped_on_way e why is_why s = record {
    clean = s.clean;
    kept = λ at book rests is. absurd cc;
    same = λ at book rests fault is other. (let it = s.same at book rests (not_store e fault (ap Some (sym is_why) ∙ is) other) in (it.0, it.2));
    crash = λ at book rests clean db may. (let it = s.crash at book rests clean db may in (it.0, it.2));
    placed = λ at placed is. absurd cc;
    made = λ at placed other clean is_open. as_moved_on at_most at old new.now.trees (s.made at placed (λ is. other (ap Some (is_why ∙ stopped_store e (Err e) refl is))) clean is_open);
    left = λ at placed clean db may. as_left_on at_most at old db (s.left at placed clean db may);
  }

  -- of a book, memory or the store alone stop it
  pub whole_on_way : (e : MoveFault) (why : OpenFault) → why ≡ moved_fault_from e → Settles at_most old new (Err e) → (at : Point) (book : List Entry) → IsOfFile at → RestsAt at old book → HasCleanDisk new → IsStop why
  whole_on_way e why is_why s at book file rests clean = subst IsStop (sym is_why) (moved_stop e (s.whole at book file rests clean))

-- ── a file that is no older one ──

off_way : is_on_way office_point ≡ false
off_way = refl

-- where `office` has the row of its point nothing changed
pub nothing_changes : {S : Type 0} (g : Ghosts S) (was : Held S) (now : State) → ChangesOnWay g was now → HasCleanDisk now → (IsTrue (state g was).is_open → HoldsPoint office_point (state g was).now) → ChangesNothing (state g was) now
nothing_changes g was now (inl nothing) clean holds = nothing
nothing_changes g was now (inr moved) clean holds =
    let it = moved clean in
    let there = it.exact office_point holds (omega arith, omega arith, omega arith) in
    let both : true ≡ false = sym it.way ∙ ap is_on_way there ∙ off_way in
    absurd cc
