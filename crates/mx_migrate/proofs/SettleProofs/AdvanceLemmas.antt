-- One commit of a file, behind the calls that read its point and chose the step.
use Rattle.std.proofs.Common.{◌≡◌, ◌⊎◌, inl, inr, List, Option, None, Some, Ok, Err, Result, IsTrue, refl, sym, ap, subst, ◌∙◌, arith}
use Rattle.std.specs.Prelude.{IfOk}
use Rattle.sqlite.specs.Effect.{Database}
use Rattle.sqlite.specs.Schema.{Schema}
use Rattle.sqlite.specs.State.{State, HasCleanDisk}
use Rattle.sqlite.specs.Tree.{Trees}
use Rattle.sqlite.proofs.StateLemmas.{survives_then}
use Rattle.mx_book.specs.commands.Act.{Entry}
use Rattle.mx_base.specs.declared.point.Point.{Point}
use Rattle.mx_registers.specs.declared.points.points.TheConstants.{NEWEST_LAYOUT}
use Rattle.mx_base.specs.Settled.{settled}
use Rattle.mx_registers.specs.points.Points.{next_point}
use Rattle.mx_layout.specs.TableName.{TableName}
use Rattle.mx_layout.specs.declared.fault.TableFault.{TableFault}
use Rattle.mx_layout.specs.Crash.{ChangesNothing, RestsAs}
use Rattle.mx_layout.proofs.CrashLemmas.{rests_kept, rests_same}
use Rattle.mx_book_tables.specs.stands.Schemas.{IsOfFile, schema_at}
use Rattle.mx_book_tables.specs.stands.Stands.{LiesAt, RestsAt, StandsAt}
use Rattle.mx_faults.specs.Moving.{fault_from}
use Rattle.mx_tables.proofs.InsertsProofs.SetLemmas.{on_weaker}
use Rattle.mx_moves.specs.steps.Next.{next_in_move}
use Rattle.mx_migrate.specs.Steps.{CommitsStep, LeavesOneBook}
use Rattle.mx_faults.specs.declared.moving.MoveFault.{MoveFault}
use Rattle.mx_faults.specs.declared.moving.MoveFault.TheVariants as stop
use Rattle.mx_verify.specs.declared.derived.kept.KeptRows.{KeptRows}
use Rattle.mx_migrate.specs.settle.Advances.{Advances, AdvancesBook, AdvancesRows, IsStepOf}
use Rattle.mx_migrate.specs.settle.Choices.{Chooses, GoesOn, IsUnfit, LiesIn, StandsIn}
use Rattle.mx_migrate.specs.settle.Due.{IsCalledFor, IsDueAt, IsFor, IsOffFor, MakesBy}
use Rattle.mx_migrate.specs.settle.DueLaws.{due_next}
use Rattle.mx_migrate.specs.settle.Found.{KnowsIn, KnowsNow}
use Rattle.mx_migrate.specs.settle.Items.{Knows}
use Rattle.mx_migrate.specs.settle.Place.{IsBehind, IsMoveStop, IsPlacedAt, SaysAt, TellsPlace}
use Rattle.mx_migrate.specs.declared.settle.due.Due.{Due}
use Rattle.mx_migrate.proofs.CommitLemmas.{damage_from}
use Rattle.mx_migrate.proofs.SettleProofs.DueLemmas.{due_says}
use Rattle.mx_migrate.proofs.SettleProofs.FoundLemmas.{knows_on}
use Rattle.mx_migrate.proofs.SettleProofs.PlaceLemmas.{bounds, file_fits, move_stop, place_is, place_stops, rests_placed}

-- ── calls that change nothing ──

pub nothing_then : (a b c : State) → ChangesNothing a b → ChangesNothing b c → ChangesNothing a c
nothing_then a b c one two =
    let mid : HasCleanDisk c → HasCleanDisk b = λ clean. omega (arith, two.survives.clean) in
    record {
      survives = survives_then a b c (λ _. ⊥) (λ _. ⊥) (λ _. ⊥) (λ _ _ none. none) (λ _ _ none. none) one.survives two.survives;
      was_open = λ clean is_open. one.was_open (mid clean) (two.was_open clean is_open);
      now_is = λ clean is_open. two.now_is clean is_open ∙ one.committed_is (mid clean) (two.was_open clean is_open);
      committed_is = λ clean is_open. two.committed_is clean is_open ∙ one.committed_is (mid clean) (two.was_open clean is_open);
    }

pub still : (at : Point) (book : List Entry) (old new : State) → ChangesNothing old new → RestsAt at old book → RestsAt at new book
still at book old new nothing rests = rests_kept (schema_at at) (λ trees. StandsAt at trees book) old new nothing rests

pub placed_still : (at : Point) (old new : State) → ChangesNothing old new → IsPlacedAt at old → IsPlacedAt at new
placed_still at old new nothing placed = rests_kept (schema_at at) (SaysAt at) old new nothing placed

-- a file that rests at a point rests at the same by another name
pub rests_point : (s : State) (p q : Point) (book : List Entry) → (HasCleanDisk s → p ≡ q) → RestsAt p s book → RestsAt q s book
rests_point s p q book same r = record {
  schema = λ clean is_open. r.schema clean is_open ∙ ap schema_at (same clean);
  tables = λ clean is_open. subst (λ x. StandsAt x s.now.trees book) (same clean) (r.tables clean is_open);
  settled = r.settled;
  crash = λ clean db may. subst (λ x. StandsAt x db book) (same clean) (r.crash clean db may);
}

pub placed_point : (s : State) (p q : Point) → (HasCleanDisk s → p ≡ q) → IsPlacedAt p s → IsPlacedAt q s
placed_point s p q same r = record {
  schema = λ clean is_open. r.schema clean is_open ∙ ap schema_at (same clean);
  tables = λ clean is_open. subst (λ x. SaysAt x s.now.trees) (same clean) (r.tables clean is_open);
  settled = r.settled;
  crash = λ clean db may. subst (λ x. SaysAt x db) (same clean) (r.crash clean db may);
}

-- the tables are those from before a call that changed nothing
pub same_now : (of : Schema) (P : Trees → Type 0) (old new : State) → ChangesNothing old new → RestsAs old of P → HasCleanDisk new → IsTrue new.is_open → new.now ≡ old.now
same_now of P old new nothing rests clean is_open =
    let early : HasCleanDisk old = omega (arith, nothing.survives.clean) in
    nothing.now_is clean is_open ∙ sym (rests.settled early (nothing.was_open clean is_open))

-- at the newest layout the point stays
pub newest_stays : (book : List Entry) → next_point (settled NEWEST_LAYOUT) book ≡ settled NEWEST_LAYOUT
newest_stays book = refl

-- ── the point was not answered ──

-- a stop is no damage
pub no_damage : (e : MoveFault) (name : TableName) → IsMoveStop e → e ≡ stop.Damaged name → ⊥
no_damage e name (inl memory) is = absurd cc
no_damage e name (inr store) is = absurd cc

module _ (old new : State) (e : MoveFault) (tells : TellsPlace old new (Err e)) where
  nothing_told : ChangesNothing old new
  nothing_told = tells.unchanged

  told_early : HasCleanDisk new → HasCleanDisk old
  told_early clean = let nothing = tells.unchanged in omega (arith, nothing.survives.clean)

  pub stops_first : Advances old new (Err e)
  stops_first = record {
    clean = nothing_told.survives.clean;
    untouched = λ _. nothing_told;
    placed = λ _ _. tt;
    later = λ _ _ _. tt;
    opened = λ _ _ _ _. tt;
    ended = λ _ _. tt;
  }

  pub rows_stop_first : (at : Point) → IsPlacedAt at old → AdvancesRows at old new (Err e)
  rows_stop_first at placed = record {
    made = λ _ _. tt;
    left = λ clean db may. elim (nothing_told.survives.crash clean db may) [ inl before ↦ inl before | inr none ↦ absurd none ];
    damaged = λ file clean name is. absurd (no_damage e name (place_stops old new at placed told_early file e tells clean) is);
  }

  pub book_stops_first : (book : List Entry) → AdvancesBook book old new (Err e)
  book_stops_first book = record {
    moved = λ _ _ _. tt;
    kept = λ _ _. tt;
    same = λ at rests _. still at book old new nothing_told rests;
    whole = λ at file rests clean. place_stops old new at (rests_placed old at book rests) told_early file e tells clean;
    crash = λ at rests clean db may. inl ((still at book old new nothing_told rests).crash clean db may);
  }

-- ── the point was answered ──

module _ (old mid ready : State) (from : Point) (tells : TellsPlace old mid (Ok from)) (nothing : ChangesNothing mid ready) (known after : Option KeptRows) where
  mid_old : HasCleanDisk mid → HasCleanDisk old
  mid_old clean = let first = tells.unchanged in omega (arith, first.survives.clean)

  ready_mid : HasCleanDisk ready → HasCleanDisk mid
  ready_mid clean = omega (arith, nothing.survives.clean)

  both : ChangesNothing old ready
  both = nothing_then old mid ready tells.unchanged nothing

  from_file : IsOfFile from
  from_file = tells.of_file

  placed_from : (at : Point) → IsPlacedAt at old → HasCleanDisk mid → from ≡ at
  placed_from at placed clean = place_is old mid at placed mid_old from tells clean

  rests_from : (at : Point) (book : List Entry) → RestsAt at old book → HasCleanDisk mid → from ≡ at
  rests_from at book rests = placed_from at (rests_placed old at book rests)

  stands_in : (at : Point) (book : List Entry) → RestsAt at old book → HasCleanDisk mid → IsTrue mid.is_open → StandsIn from book mid.now
  stands_in at book rests clean is_open =
      let now = still at book old mid tells.unchanged rests in
      subst (λ p. StandsIn p book mid.now) (sym (rests_from at book rests clean)) (now.schema clean is_open, now.tables clean is_open)

  lies_in : (at : Point) → IsPlacedAt at old → HasCleanDisk mid → IsTrue mid.is_open → LiesIn from mid.now
  lies_in at placed clean is_open =
      let now = placed_still at old mid tells.unchanged placed in
      let says = now.tables clean is_open in
      subst (λ p. LiesIn p mid.now) (sym (placed_from at placed clean)) (now.schema clean is_open, says.lies)

  left_before : HasCleanDisk ready → (db : Trees) → ready.may_leave db → old.may_leave db
  left_before clean db may = elim (both.survives.crash clean db may) [ inl before ↦ before | inr none ↦ absurd none ]

  -- what is then known is so of the book that the tables stood for
  pub knows_then : (result : Result (Option Due) TableFault) → Chooses from known after mid ready result → (at : Point) (book : List Entry) → RestsAt at old book → HasCleanDisk ready → Knows known book → Knows after book
  knows_then result c at book rests clean knows = c.knows book from_file clean (λ is_open. stands_in at book rests (ready_mid clean) is_open) knows

  -- so over any rows: what is known is of the registers that stand there, and then it still is
  knows_mid : (at : Point) → IsPlacedAt at old → KnowsNow at known old → HasCleanDisk mid → IsTrue mid.is_open → KnowsIn from known mid.now.trees
  knows_mid at placed knows clean is_open =
      let same : mid.now ≡ old.now = same_now (schema_at at) (SaysAt at) old mid tells.unchanged placed clean is_open in
      subst (λ (d : Database). KnowsIn from known d.trees) (sym same) (subst (λ p. KnowsIn p known old.now.trees) (sym (placed_from at placed clean)) (knows (mid_old clean) (tells.unchanged.was_open clean is_open)))

  -- the tables from which a step is chosen are those that stand where it is made
  mid_ready : (at : Point) → IsPlacedAt at old → HasCleanDisk ready → IsTrue ready.is_open → ready.now ≡ mid.now
  mid_ready at placed clean is_open = same_now (schema_at at) (SaysAt at) mid ready nothing (placed_still at old mid tells.unchanged placed) clean is_open

  keeps_then : (result : Result (Option Due) TableFault) → Chooses from known after mid ready result → (at : Point) → IsPlacedAt at old → KnowsNow at known old → KnowsNow from after ready
  keeps_then result c at placed knows clean is_open =
      let mid_open = nothing.was_open clean is_open in
      subst (λ (d : Database). KnowsIn from after d.trees) (sym (mid_ready at placed clean is_open))
      (c.keeps from_file clean (λ o. lies_in at placed (ready_mid clean) o) mid_open (knows_mid at placed knows (ready_mid clean) mid_open))

  -- ── the step was not chosen ──

  pub stops_second : (f : TableFault) → Chooses from known after mid ready (Err f) → Advances old ready (Err (fault_from f))
  stops_second f c = record {
    clean = both.survives.clean;
    untouched = λ _. both;
    placed = λ _ _. tt;
    later = λ _ _ _. tt;
    opened = λ _ _ _ _. tt;
    ended = λ _ _. tt;
  }

  pub rows_stop_second : (f : TableFault) → Chooses from known after mid ready (Err f) → (at : Point) → IsPlacedAt at old → AdvancesRows at old ready (Err (fault_from f))
  rows_stop_second f c at placed = record {
    made = λ _ _. tt;
    left = λ clean db may. inl (left_before clean db may);
    damaged = λ file clean name is.
        let unfit = c.damaged from_file clean (λ is_open. lies_in at placed (ready_mid clean) is_open) name (damage_from f name is) in
        let same : mid.now ≡ old.now = same_now (schema_at at) (SaysAt at) old mid tells.unchanged placed (ready_mid clean) unfit.0 in
        (tells.unchanged.was_open (ready_mid clean) unfit.0, inl (subst (λ (d : Database). IsUnfit name d.trees) same unfit.1));
  }

  -- none was due
  pub stays : Chooses from known after mid ready (Ok None) → Advances old ready (Ok from)
  stays c =
      let newest : from ≡ settled NEWEST_LAYOUT = c.fits from_file in
      record {
        clean = both.survives.clean;
        untouched = tt;
        placed = λ at placed. placed_point ready at from (λ clean. sym (placed_from at placed (ready_mid clean))) (placed_still at old ready both placed);
        later = λ at placed clean. (from_file, inl (sym (placed_from at placed (ready_mid clean)) ∙ newest, placed_from at placed (ready_mid clean)));
        opened = λ at placed other clean. absurd (other (sym (placed_from at placed (ready_mid clean)) ∙ newest));
        ended = λ _ _. both;
      }

  pub rows_stay : Chooses from known after mid ready (Ok None) → (at : Point) → IsPlacedAt at old → AdvancesRows at old ready (Ok from)
  rows_stay c at placed =
      let newest : from ≡ settled NEWEST_LAYOUT = c.fits from_file in
      record {
        made = λ other clean. absurd (other (sym (placed_from at placed (ready_mid clean)) ∙ newest));
        left = λ clean db may. inl (left_before clean db may);
        damaged = λ _ _. tt;
      }

  pub keeps_staying : Chooses from known after mid ready (Ok None) → (at : Point) → IsPlacedAt at old → KnowsNow at known old → KnowsNow from after ready
  keeps_staying c = keeps_then (Ok None) c

  module _ (book : List Entry) (knows : HasCleanDisk old → Knows known book) where
    pub book_stops_second : (f : TableFault) → Chooses from known after mid ready (Err f) → AdvancesBook book old ready (Err (fault_from f))
    book_stops_second f c = record {
      moved = λ _ _ _. tt;
      kept = λ _ _. tt;
      same = λ at rests _. still at book old ready both rests;
      whole = λ at file rests clean. move_stop f (c.stops book from_file clean (λ is_open. stands_in at book rests (ready_mid clean) is_open) (knows (mid_old (ready_mid clean))));
      crash = λ at rests clean db may. inl ((still at book old ready both rests).crash clean db may);
    }

    pub book_stays : Chooses from known after mid ready (Ok None) → AdvancesBook book old ready (Ok from)
    book_stays c =
        let newest : from ≡ settled NEWEST_LAYOUT = c.fits from_file in
        let stays_at : (at : Point) → RestsAt at old book → HasCleanDisk ready → at ≡ next_point at book =
        λ at rests clean. (let here : at ≡ settled NEWEST_LAYOUT = sym (rests_from at book rests (ready_mid clean)) ∙ newest in here ∙ ap (λ p. next_point p book) (sym here)) in
        record {
          moved = λ at rests clean. rests_from at book rests (ready_mid clean) ∙ stays_at at rests clean;
          kept = λ at rests. rests_point ready at (next_point at book) book (stays_at at rests) (still at book old ready both rests);
          same = λ _ _. tt;
          whole = λ _ _ _ _. tt;
          crash = λ at rests clean db may. inl ((still at book old ready both rests).crash clean db may);
        }

  -- ── a step was due ──

  module _ (step : Due) (c : Chooses from known after mid ready (Ok (Some step))) (new : State) where
    for_here : (at : Point) → IsPlacedAt at old → HasCleanDisk ready → IsFor step at
    for_here at placed clean = subst (IsFor step) (placed_from at placed (ready_mid clean)) (c.fits from_file)

    lies_ready : (at : Point) → IsPlacedAt at old → RestsAs ready (schema_at at) (LiesAt at)
    lies_ready at placed = rests_same ready (schema_at at) (SaysAt at) (LiesAt at) (λ _ db says. says.lies) (placed_still at old ready both placed)

    -- the tables from which the step was made are those from before
    now_old : (at : Point) → IsPlacedAt at old → HasCleanDisk ready → IsTrue ready.is_open → ready.now ≡ old.now
    now_old at placed clean is_open = same_now (schema_at at) (SaysAt at) old ready both placed clean is_open

    goes_here : (at : Point) → IsPlacedAt at old → HasCleanDisk ready → IsTrue ready.is_open → GoesOn step at ready.now.trees
    goes_here at placed clean is_open =
        let same = mid_ready at placed clean is_open in
        let goes = c.goes from_file clean (λ mid_open. lies_in at placed (ready_mid clean) mid_open) in
        subst (λ (d : Database). GoesOn step at d.trees) (sym same) (subst (λ p. GoesOn step p mid.now.trees) (placed_from at placed (ready_mid clean)) goes)

    -- and over any rows they call for it
    called_old : (at : Point) → IsPlacedAt at old → KnowsNow at known old → HasCleanDisk ready → IsTrue ready.is_open → IsCalledFor step old.now.trees
    called_old at placed knows clean is_open =
        let mid_open = nothing.was_open clean is_open in
        let same : mid.now ≡ old.now = same_now (schema_at at) (SaysAt at) old mid tells.unchanged placed (ready_mid clean) mid_open in
        subst (λ (d : Database). IsCalledFor step d.trees) same (c.called from_file clean (λ o. lies_in at placed (ready_mid clean) o) mid_open (knows_mid at placed knows (ready_mid clean) mid_open))

    -- a connection that is open was open before
    open_old : HasCleanDisk ready → IsTrue ready.is_open → IsTrue old.is_open
    open_old clean is_open = both.was_open clean is_open

    left_then : (at : Point) → IsPlacedAt at old → KnowsNow at known old → (result : Result Point MoveFault) → CommitsStep (IsFor step) (IsDueAt step) (MakesBy step) (IsOffFor step) ready new result
        → HasCleanDisk new → (db : Trees) → new.may_leave db → old.may_leave db ⊎ (IsTrue old.is_open × IsStepOf at old.now.trees db)
    left_then at placed knows result r clean db may =
        let late : HasCleanDisk ready = omega (arith, r.clean) in
        elim (r.left at (lies_ready at placed) (for_here at placed) clean db may) [
          | inl before ↦ inl (left_before late db before)
          | inr made ↦ inr (open_old late made.0, (made.1.0, (step, for_here at placed late, called_old at placed knows late made.0, subst (λ (d : Database). MakesBy step at made.1.0 d.trees db) (now_old at placed late made.0) made.1.1)))
        ]

    goes_on : (to : Point) → CommitsStep (IsFor step) (IsDueAt step) (MakesBy step) (IsOffFor step) ready new (Ok to) → Advances old new (Ok to)
    goes_on to r =
        let late : HasCleanDisk new → HasCleanDisk ready = λ clean. omega (arith, r.clean) in
        let made = λ (at : Point) (placed : IsPlacedAt at old). r.made at (lies_ready at placed) (for_here at placed) in
        let later : (at : Point) → IsPlacedAt at old → HasCleanDisk new → IsOfFile to × IsBehind at to =
        λ at placed clean. goes_here at placed (late clean) (r.opened clean).0 to new.now.trees ((made at placed).tables clean (r.opened clean).1) in
        record {
          clean = omega (arith, both.survives.clean, r.clean);
          untouched = tt;
          placed = λ at placed.
              rests_same new (schema_at to) (MakesBy step at to ready.now.trees) (SaysAt to)
              (λ clean db makes. due_says step at to ready.now.trees db (file_fits to (later at placed clean).0) ((placed_still at old ready both placed).tables (late clean) (r.opened clean).0) makes) (made at placed);
          later = λ at placed clean. (let far = later at placed clean in (far.0, inr far.1));
          opened = λ at placed _ clean. (let opened = r.opened clean in (open_old (late clean) opened.0, opened.1));
          ended = λ placed clean. (let far = later (settled NEWEST_LAYOUT) placed clean in absurd (none_behind to far.0 far.1));
        }
      where
        -- no point that a file can be at is behind the newest layout
        none_behind : (to : Point) → IsOfFile to → IsBehind (settled NEWEST_LAYOUT) to → ⊥
        none_behind to file (inl newer) = (let b = bounds to file in absurd (omega (arith, b.layout)))
        none_behind to file (inr (layout, inl further)) = (let b = bounds to file in let zero = b.newest (sym layout) in absurd (omega (arith, zero.0)))
        none_behind to file (inr (layout, inr (step, greater))) = (let b = bounds to file in let zero = b.newest (sym layout) in absurd (omega (arith, zero.1)))

    stops_last : (e : MoveFault) → CommitsStep (IsFor step) (IsDueAt step) (MakesBy step) (IsOffFor step) ready new (Err e) → Advances old new (Err e)
    stops_last e r =
        let late : HasCleanDisk new → HasCleanDisk ready = λ clean. omega (arith, r.clean) in
        record {
          clean = omega (arith, both.survives.clean, r.clean);
          untouched = λ other. nothing_then old ready new both (r.untouched other);
          placed = λ _ _. tt;
          later = λ _ _ _. tt;
          opened = λ _ _ _ _. tt;
          ended = λ _ _. tt;
        }

    pub commits : (result : Result Point MoveFault) → CommitsStep (IsFor step) (IsDueAt step) (MakesBy step) (IsOffFor step) ready new result → Advances old new result
    commits (Ok to) r = goes_on to r
    commits (Err e) r = stops_last e r

    makes_then : (at to : Point) → IsPlacedAt at old → CommitsStep (IsFor step) (IsDueAt step) (MakesBy step) (IsOffFor step) ready new (Ok to) → HasCleanDisk new → MakesBy step at to ready.now.trees new.now.trees
    makes_then at to placed r clean = (r.made at (lies_ready at placed) (for_here at placed)).tables clean (r.opened clean).1

    pub rows_commit : (result : Result Point MoveFault) → CommitsStep (IsFor step) (IsDueAt step) (MakesBy step) (IsOffFor step) ready new result → (at : Point) → IsPlacedAt at old → KnowsNow at known old → AdvancesRows at old new result
    rows_commit (Ok to) r at placed knows =
        let late : HasCleanDisk new → HasCleanDisk ready = λ clean. omega (arith, r.clean) in
        record {
          made = λ _ clean.
              let opened = r.opened clean in
              (step, for_here at placed (late clean), called_old at placed knows (late clean) opened.0, subst (λ (d : Database). MakesBy step at to d.trees new.now.trees) (now_old at placed (late clean) opened.0) (makes_then at to placed r clean));
          left = left_then at placed knows (Ok to) r;
          damaged = λ _ _. tt;
        }
    rows_commit (Err e) r at placed knows =
        let late : HasCleanDisk new → HasCleanDisk ready = λ clean. omega (arith, r.clean) in
        record {
          made = λ _ _. tt;
          left = left_then at placed knows (Err e) r;
          damaged = λ file clean name is.
              let off = r.damaged at (lies_ready at placed) (for_here at placed) clean name is in
              (open_old (late clean) off.0, inr (step, for_here at placed (late clean), called_old at placed knows (late clean) off.0, subst (λ (d : Database). IsOffFor step at name d.trees) (now_old at placed (late clean) off.0) off.1));
        }

    -- what is then known is of the registers that stand behind it
    pub keeps_behind : (result : Result Point MoveFault) → CommitsStep (IsFor step) (IsDueAt step) (MakesBy step) (IsOffFor step) ready new result → (at : Point) → IsPlacedAt at old → KnowsNow at known old → IfOk result (λ to. KnowsNow to after new)
    keeps_behind (Err e) r at placed knows = tt
    keeps_behind (Ok to) r at placed knows = λ clean is_open.
        let late : HasCleanDisk ready = omega (arith, r.clean) in
        let opened = r.opened clean in
        let here = keeps_then (Ok (Some step)) c at placed knows late opened.0 in
        knows_on after step at to ready.now.trees new.now.trees (for_here at placed late) (makes_then at to placed r clean) (subst (λ p. KnowsIn p after ready.now.trees) (placed_from at placed (ready_mid late)) here)

    pub book_commits : (book : List Entry) → (HasCleanDisk old → Knows known book) → (result : Result Point MoveFault) → CommitsStep (IsFor step) (IsDueAt step) (MakesBy step) (IsOffFor step) ready new result → LeavesOneBook (IsFor step) (IsDueAt step) ready new → AdvancesBook book old new result
    book_commits book knows result r left = record {
      moved = λ at rests clean. point_next at (next_here at rests (late clean)) result (r.moved at book (still at book old ready both rests) (due_here at rests) clean);
      kept = λ at rests. on_weaker result (rests_point new (next_in_move at book) (next_point at book) book (λ clean. next_here at rests (late clean))) (r.kept at book (still at book old ready both rests) (due_here at rests));
      same = λ at rests. r.same at book (still at book old ready both rests);
      whole = λ at file rests. r.whole at book (still at book old ready both rests) (due_here at rests);
      crash = λ at rests clean db may. subst (λ p. StandsAt at db book ⊎ StandsAt p db book) (next_here at rests (late clean)) (left at book (still at book old ready both rests) (due_here at rests) clean db may);
    }
      where
        late : HasCleanDisk new → HasCleanDisk ready
        late clean = omega (arith, r.clean)

        due_here : (at : Point) → RestsAt at old book → HasCleanDisk ready → IsFor step at × IsDueAt step at book
        due_here at rests clean =
            let is = rests_from at book rests (ready_mid clean) in
            (subst (IsFor step) is (c.fits from_file), subst (λ p. IsDueAt step p book) is (c.due book from_file clean (λ is_open. stands_in at book rests (ready_mid clean) is_open) (knows (mid_old (ready_mid clean)))))

        -- the move that the file is in leads to the newest layout
        next_here : (at : Point) → RestsAt at old book → HasCleanDisk ready → next_in_move at book ≡ next_point at book
        next_here at rests clean = due_next step at book (due_here at rests clean).0

        point_next : (at : Point) → next_in_move at book ≡ next_point at book → (result : Result Point MoveFault) → IfOk result (λ to. to ≡ next_in_move at book) → IfOk result (λ to. to ≡ next_point at book)
        point_next at next (Ok to) is = is ∙ next
        point_next at next (Err e) is = tt

    pub knows_behind : (result : Result Point MoveFault) → CommitsStep (IsFor step) (IsDueAt step) (MakesBy step) (IsOffFor step) ready new result → (at : Point) (book : List Entry) → RestsAt at old book → HasCleanDisk new → Knows known book → Knows after book
    knows_behind result r at book rests clean = knows_then (Ok (Some step)) c at book rests (omega (arith, r.clean))
