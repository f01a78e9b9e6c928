-- Commits of a file, one after another.
use Rattle.std.proofs.Common.{◌≡◌, ◌≢◌, ◌⊎◌, inl, inr, ℕ, zero, suc, ◌+◌, ◌<◌, ◌≤◌, Bool, true, false, nat_le, List, Option, None, Ok, Err, Result, IsTrue, refl, sym, ap, subst, ◌∙◌, arith}
use Rattle.std.specs.Prelude.{IfOk, IsErrAnd}
use Rattle.std.proofs.lemmas.Bool.Decides.{nat_tests}
use Rattle.sqlite.specs.Effect.{Database}
use Rattle.sqlite.specs.State.{State, HasCleanDisk}
use Rattle.sqlite.specs.Tree.{Trees}
use Rattle.sqlite_trees.specs.View.{doubt}
use Rattle.mx_book.specs.commands.Act.{Entry}
use Rattle.mx_base.specs.declared.point.Point.{Point}
use Rattle.mx_registers.specs.declared.points.points.TheConstants.{NEWEST_LAYOUT}
use Rattle.mx_base.specs.Settled.{settled}
use Rattle.mx_registers.specs.points.Commits.{commits_of_move, point_behind}
use Rattle.mx_registers.specs.points.Points.{is_on_way, next_point}
use Rattle.mx_registers.proofs.PointsProofs.ReachLemmas.{from_first, reach}
use Rattle.mx_book.specs.Book.{IsBook}
use Rattle.mx_layout.specs.Crash.{Leaves}
use Rattle.mx_book_tables.specs.stands.Schemas.{IsOfFile, schema_at}
use Rattle.mx_book_tables.specs.stands.Stands.{RestsAt, StandsAt}
use Rattle.mx_faults.specs.declared.moving.MoveFault.{MoveFault}
use Rattle.mx_faults.specs.declared.moving.MoveFault.TheVariants as stop
use Rattle.mx_layout.specs.TableName.{TableName}
use Rattle.mx_verify.specs.declared.derived.kept.KeptRows.{KeptRows}
use Rattle.mx_migrate.specs.settle.Advances.{Advances, AdvancesBook, AdvancesRows, AreMoved, IsStepOf, IsStepTo, LeadsTo}
use Rattle.mx_migrate.specs.settle.Found.{KnowsNow}
use Rattle.mx_migrate.specs.settle.Items.{Knows}
use Rattle.mx_migrate.specs.settle.Place.{IsBehind, IsPlacedAt, SaysAt, TellsPlace}
use Rattle.mx_migrate.specs.settle.Ranks.{points_before}
use Rattle.mx_migrate.specs.settle.Settles.{Settles}
use Rattle.mx_migrate.proofs.SettleProofs.AdvanceLemmas.{newest_stays, no_damage, placed_point, placed_still, rests_point, same_now, still}
use Rattle.mx_migrate.proofs.SettleProofs.ChoiceLemmas.{settled_at}
use Rattle.mx_migrate.proofs.SettleProofs.PlaceLemmas.{place_is, place_stops, rests_placed}
use Rattle.mx_migrate.proofs.SettleProofs.RankLemmas.{rank_rises, ranked_high, ranked_of_file}

-- ── one commit more ──

behind_more : (n : ℕ) (at : Point) (book : List Entry) → point_behind (suc n) at book ≡ next_point (point_behind n at book) book
behind_more zero at book = refl
behind_more (suc n) at book = behind_more n (next_point at book) book

-- behind the newest layout no commit leads further
stays_behind : (most done : ℕ) (at : Point) (book : List Entry) → done ≤ most → point_behind done at book ≡ settled NEWEST_LAYOUT → point_behind most at book ≡ settled NEWEST_LAYOUT
stays_behind zero done at book low there = let same : done ≡ zero = omega arith in sym (ap (λ n. point_behind n at book) same) ∙ there
stays_behind (suc most) done at book low there = by (nat_le done most) refl (λ under. stays_behind most done at book under there)
  where
    by : (b : Bool) → nat_le done most ≡ b → (done ≤ most → point_behind most at book ≡ settled NEWEST_LAYOUT) → point_behind (suc most) at book ≡ settled NEWEST_LAYOUT
    by true e before =
        let under : done ≤ most = grind (arith, nat_tests) in
        behind_more most at book ∙ ap (λ p. next_point p book) (before under) ∙ newest_stays book
    by false e before =
        let all : done ≡ suc most = grind (arith, nat_tests) in
        sym (ap (λ n. point_behind n at book) all) ∙ there

-- ── what commits make of the tables ──

-- one commit more
leads_on : (done : ℕ) (at p q : Point) (first mid last : Trees) → LeadsTo done at first p mid → IsStepTo p q mid last → LeadsTo (done + 1) at first q last
leads_on done at p q first mid last before step =
    let one : suc done ≡ done + 1 = omega arith in
    subst (λ n. LeadsTo n at first q last) one (p, mid, before, step)

moved_on : (done : ℕ) (at p : Point) (first mid last : Trees) → LeadsTo done at first p mid → IsStepOf p mid last → AreMoved (done + 1) at first last
moved_on done at p first mid last before (to, step) = (done + 1, omega arith, to, leads_on done at p to first mid last before step)

moved_within : (few most : ℕ) (at : Point) (first last : Trees) → few ≤ most → AreMoved few at first last → AreMoved most at first last
moved_within few most at first last low (commits, under, to, leads) = (commits, omega (arith, low, under), to, leads)

-- the trees are among those that a crash left before, or at most so many commits make them of those from before
abbrev IsLeftBy : ℕ → Point → State → Trees → Type 0
IsLeftBy most at old db = old.may_leave db ⊎ (IsTrue old.is_open × AreMoved most at old.now.trees db)

left_within : (few most : ℕ) (at : Point) (old : State) (db : Trees) → few ≤ most → IsLeftBy few at old db → IsLeftBy most at old db
left_within few most at old db low (inl before) = inl before
left_within few most at old db low (inr (is_open, moved)) = inr (is_open, moved_within few most at old.now.trees db low moved)

left_on : (done : ℕ) (at p : Point) (old now : State) (db : Trees) → (IsTrue now.is_open → IsTrue old.is_open × LeadsTo done at old.now.trees p now.now.trees) → (now.may_leave db → IsLeftBy done at old db)
    → now.may_leave db ⊎ (IsTrue now.is_open × IsStepOf p now.now.trees db) → IsLeftBy (done + 1) at old db
left_on done at p old now db made left (inl before) = left_within done (done + 1) at old db (omega arith) (left before)
left_on done at p old now db made left (inr (is_open, step)) = let before = made is_open in inr (before.0, moved_on done at p old.now.trees now.now.trees db before.1 step)

-- so many commits were made, the file is at this point, and what is known of its items is so of the book that the tables stood for
pub record HasGone (done : ℕ) (end : Point) (known : Option KeptRows) (old now : State) : Type 0 where
  pub clean : doubt old.is_clean ≤ doubt now.is_clean
  pub reached : (at : Point) (book : List Entry) → RestsAt at old book → HasCleanDisk now → end ≡ point_behind done at book
  pub kept : (at : Point) (book : List Entry) → RestsAt at old book → RestsAt (point_behind done at book) now book
  pub knows : (at : Point) (book : List Entry) → RestsAt at old book → HasCleanDisk now → Knows known book
  pub placed : (at : Point) → IsPlacedAt at old → IsPlacedAt end now
  pub risen : (at : Point) → IsPlacedAt at old → HasCleanDisk now → IsOfFile end × (done ≤ points_before end)
  pub made : (at : Point) → IsPlacedAt at old → HasCleanDisk now → IsTrue now.is_open → IsTrue old.is_open × LeadsTo done at old.now.trees end now.now.trees
  pub left : (at : Point) → IsPlacedAt at old → Leaves now (IsLeftBy done at old)
  pub keeps : (at : Point) → IsPlacedAt at old → KnowsNow end known now

pub gone_none : (old now : State) (from : Point) → TellsPlace old now (Ok from) → HasGone 0 from None old now
gone_none old now from tells =
    let nothing = tells.unchanged in
    let early : HasCleanDisk now → HasCleanDisk old = λ clean. omega (arith, nothing.survives.clean) in
    let is : (at : Point) → IsPlacedAt at old → HasCleanDisk now → from ≡ at = λ at placed clean. place_is old now at placed early from tells clean in
    record {
      clean = nothing.survives.clean;
      reached = λ at book rests. is at (rests_placed old at book rests);
      kept = λ at book rests. still at book old now nothing rests;
      knows = λ _ _ _ _. tt;
      placed = λ at placed. placed_point now at from (λ clean. sym (is at placed clean)) (placed_still at old now nothing placed);
      risen = λ at placed clean. (tells.of_file, omega arith);
      made = λ at placed clean is_open. (nothing.was_open clean is_open, (is at placed clean, ap (λ (d : Database). d.trees) (same_now (schema_at at) (SaysAt at) old now nothing placed clean is_open)));
      left = λ at placed clean db may. elim (nothing.survives.crash clean db may) [ inl before ↦ inl before | inr none ↦ absurd none ];
      keeps = λ _ _ _ _. tt;
    }

no_store : (name : TableName) → stop.Damaged name ≡ stop.Store → ⊥
no_store name is = absurd cc

module _ (old now : State) where
  -- what a commit is told is known is so of the book that the tables stand for
  abbrev GoesKnowing : Option KeptRows → State → Result Point MoveFault → Type 0
  GoesKnowing known new result = (book : List Entry) → (HasCleanDisk now → Knows known book) → AdvancesBook book now new result

  -- and, over any rows, of the registers that stand there
  abbrev GoesByRows : Option KeptRows → State → Result Point MoveFault → Type 0
  GoesByRows known new result = (at : Point) → IsPlacedAt at now → KnowsNow at known now → AdvancesRows at now new result

  pub gone_more : (done : ℕ) (p q : Point) (known after : Option KeptRows) (new : State) → p.layout < NEWEST_LAYOUT → HasGone done p known old now → Advances now new (Ok q) → GoesByRows known new (Ok q) → GoesKnowing known new (Ok q)
      → ((at : Point) → IsPlacedAt at now → KnowsNow at known now → KnowsNow q after new) → ((at : Point) (book : List Entry) → RestsAt at now book → HasCleanDisk new → Knows known book → Knows after book) → HasGone (done + 1) q after old new
  gone_more done p q known after new older gone more rows goes still_kept still_knows =
      let one : suc done ≡ done + 1 = omega arith in
      let early : HasCleanDisk new → HasCleanDisk now = λ clean. omega (arith, more.clean) in
      record {
        clean = omega (arith, gone.clean, more.clean);
        reached = λ at book rests clean.
            (goes book (gone.knows at book rests)).moved (point_behind done at book) (gone.kept at book rests) clean ∙ sym (behind_more done at book) ∙ ap (λ n. point_behind n at book) one;
        kept = λ at book rests.
            subst (λ q. RestsAt q new book) (sym (behind_more done at book) ∙ ap (λ n. point_behind n at book) one) ((goes book (gone.knows at book rests)).kept (point_behind done at book) (gone.kept at book rests));
        knows = λ at book rests clean. still_knows (point_behind done at book) book (gone.kept at book rests) clean (gone.knows at book rests (early clean));
        placed = λ at placed. more.placed p (gone.placed at placed);
        risen = λ at placed clean. rises (gone.risen at placed (early clean)) (more.later p (gone.placed at placed) clean);
        made = λ at placed clean is_open.
            let opened = more.opened p (gone.placed at placed) not_newest clean in
            let before = gone.made at placed (early clean) opened.0 in
            (before.0, leads_on done at p q old.now.trees now.now.trees new.now.trees before.1 ((rows p (gone.placed at placed) (gone.keeps at placed)).made not_newest clean));
        left = λ at placed clean db may. left_on done at p old now db (gone.made at placed (early clean)) (gone.left at placed (early clean) db) ((rows p (gone.placed at placed) (gone.keeps at placed)).left clean db may);
        keeps = λ at placed. still_kept p (gone.placed at placed) (gone.keeps at placed);
      }
    where
      not_newest : p ≢ settled NEWEST_LAYOUT
      not_newest same = let two : p.layout ≡ NEWEST_LAYOUT = ap (λ (r : Point). r.layout) same in absurd (omega (arith, two, older))

      rises : IsOfFile p × (done ≤ points_before p) → IsOfFile q × (((p ≡ settled NEWEST_LAYOUT) × (q ≡ p)) ⊎ IsBehind p q) → IsOfFile q × (done + 1 ≤ points_before q)
      rises before (far, inl same) = (let two : p.layout ≡ NEWEST_LAYOUT = ap (λ (r : Point). r.layout) same.0 in absurd (omega arith))
      rises before (far, inr behind) = (far, omega (arith, before.1, rank_rises p q (ranked_of_file p before.0) (ranked_of_file q far) behind))

  -- where a file can be at the first point, it can be at the one that was reached
  file_behind : (done : ℕ) (p : Point) (known : Option KeptRows) → HasGone done p known old now → (at : Point) (book : List Entry) → RestsAt at old book → HasCleanDisk now → IsOfFile (point_behind done at book)
  file_behind done p known gone at book rests clean = subst IsOfFile (gone.reached at book rests clean) (gone.risen at (rests_placed old at book rests) clean).0

  pub gone_stops : (most done : ℕ) (p : Point) (known : Option KeptRows) (e : MoveFault) (new : State) → HasGone done p known old now → done < most → Advances now new (Err e) → GoesByRows known new (Err e) → GoesKnowing known new (Err e) → Settles most old new (Err e)
  gone_stops most done p known e new gone low more rows goes =
      let early : HasCleanDisk new → HasCleanDisk now = λ clean. omega (arith, more.clean) in
      record {
        clean = omega (arith, gone.clean, more.clean);
        reached = λ _ _ _ _. tt;
        kept = λ _ _ _. tt;
        same = λ at book rests other. (done, omega (arith, low), (goes book (gone.knows at book rests)).same (point_behind done at book) (gone.kept at book rests) other);
        whole = λ at book file rests clean. (goes book (gone.knows at book rests)).whole (point_behind done at book) (file_behind done p known gone at book rests (early clean)) (gone.kept at book rests) clean;
        crash = λ at book rests clean db may. elim ((goes book (gone.knows at book rests)).crash (point_behind done at book) (gone.kept at book rests) clean db may) [
          | inl stands ↦ (done, omega (arith, low), stands)
          | inr stands ↦ (suc done, omega (arith, low), subst (λ q. StandsAt q db book) (sym (behind_more done at book)) stands)
        ];
        placed = λ _ _. tt;
        made = λ at placed other clean is_open.
            let nothing = more.untouched (λ store. other (ap Err store)) in
            let before = gone.made at placed (early clean) (nothing.was_open clean is_open) in
            let same = same_now (schema_at p) (SaysAt p) now new nothing (gone.placed at placed) clean is_open in
            (before.0, (done, omega (arith, low), p, subst (λ (d : Database). LeadsTo done at old.now.trees p d.trees) (sym same) before.1));
        left = λ at placed clean db may.
            left_within (done + 1) most at old db (omega (arith, low)) (left_on done at p old now db (gone.made at placed (early clean)) (gone.left at placed (early clean) db) ((rows p (gone.placed at placed) (gone.keeps at placed)).left clean db may));
        counted = λ _ _ _ _. tt;
        damaged = λ at file placed clean name is.
            let here = gone.placed at placed in
            let stops = (rows p here (gone.keeps at placed)).damaged (gone.risen at placed (early clean)).0 clean name is in
            let before = gone.made at placed (early clean) stops.0 in
            let nothing = more.untouched (λ store. no_store name (sym is ∙ store)) in
            (before.0, (done, low, p, now.now.trees, before.1, stops.1, λ is_open. ap (λ (d : Database). d.trees) (same_now (schema_at p) (SaysAt p) now new nothing here clean is_open)));
        ends = λ _ _ _ _. tt;
      }

  pub gone_ends : (most : ℕ) (p : Point) (known : Option KeptRows) → HasGone most p known old now → Settles most old now (Ok p)
  gone_ends most p known gone = record {
    clean = gone.clean;
    reached = gone.reached;
    kept = gone.kept;
    same = λ _ _ _. tt;
    whole = λ _ _ _ _ _. tt;
    crash = λ at book rests clean db may. (most, omega arith, (gone.kept at book rests).crash clean db may);
    placed = gone.placed;
    made = λ at placed _ clean is_open. (let it = gone.made at placed clean is_open in (it.0, (most, omega arith, p, it.1)));
    left = gone.left;
    counted = λ at placed clean is_open. (let it = gone.made at placed clean is_open in (it.0, (most, omega arith, it.1, inl refl)));
    damaged = λ _ _ _ _. tt;
    ends = λ at placed clean enough. (let far = gone.risen at placed clean in absurd (omega (arith, far.1, ranked_high p (ranked_of_file p far.0), enough)));
  }

  pub gone_newest : (most done : ℕ) (p : Point) (known : Option KeptRows) → HasGone done p known old now → done ≤ most → NEWEST_LAYOUT ≤ p.layout → Settles most old now (Ok p)
  gone_newest most done p known gone low newest =
      let there : (at : Point) → IsPlacedAt at old → HasCleanDisk now → p ≡ settled NEWEST_LAYOUT = λ at placed clean. settled_at p (gone.risen at placed clean).0 newest in
      let behind : (at : Point) (book : List Entry) → RestsAt at old book → HasCleanDisk now → point_behind done at book ≡ settled NEWEST_LAYOUT =
      λ at book rests clean. sym (gone.reached at book rests clean) ∙ there at (rests_placed old at book rests) clean in
      let stay : (at : Point) (book : List Entry) → RestsAt at old book → HasCleanDisk now → point_behind done at book ≡ point_behind most at book =
      λ at book rests clean. behind at book rests clean ∙ sym (stays_behind most done at book low (behind at book rests clean)) in
      record {
        clean = gone.clean;
        reached = λ at book rests clean. gone.reached at book rests clean ∙ stay at book rests clean;
        kept = λ at book rests. rests_point now (point_behind done at book) (point_behind most at book) book (stay at book rests) (gone.kept at book rests);
        same = λ _ _ _. tt;
        whole = λ _ _ _ _ _. tt;
        crash = λ at book rests clean db may. (done, low, (gone.kept at book rests).crash clean db may);
        placed = gone.placed;
        made = λ at placed _ clean is_open. (let it = gone.made at placed clean is_open in (it.0, (done, low, p, it.1)));
        left = λ at placed clean db may. left_within done most at old db low (gone.left at placed clean db may);
        counted = λ at placed clean is_open. (let it = gone.made at placed clean is_open in (it.0, (done, low, it.1, inr (there at placed clean))));
        damaged = λ _ _ _ _. tt;
        ends = λ at placed clean _. there at placed clean;
      }

-- the point was not answered
pub settles_none : (most : ℕ) (old new : State) (e : MoveFault) → TellsPlace old new (Err e) → Settles most old new (Err e)
settles_none most old new e tells =
    let nothing = tells.unchanged in
    let early : HasCleanDisk new → HasCleanDisk old = λ clean. omega (arith, nothing.survives.clean) in
    record {
      clean = nothing.survives.clean;
      reached = λ _ _ _ _. tt;
      kept = λ _ _ _. tt;
      same = λ at book rests _. (0, omega arith, still at book old new nothing rests);
      whole = λ at book file rests clean. place_stops old new at (rests_placed old at book rests) early file e tells clean;
      crash = λ at book rests clean db may. (0, omega arith, (still at book old new nothing rests).crash clean db may);
      placed = λ _ _. tt;
      made = λ at placed _ clean is_open. (nothing.was_open clean is_open, (0, omega arith, at, (refl, ap (λ (d : Database). d.trees) (same_now (schema_at at) (SaysAt at) old new nothing placed clean is_open))));
      left = λ at placed clean db may. elim (nothing.survives.crash clean db may) [ inl before ↦ inl before | inr none ↦ absurd none ];
      counted = λ _ _ _ _. tt;
      damaged = λ at file placed clean name is. absurd (no_damage e name (place_stops old new at placed early file e tells clean) is);
      ends = λ _ _ _ _. tt;
    }

-- a call that stopped with this fault
pub stopped_by : (most : ℕ) (old new : State) (e : MoveFault) (result : Result Point MoveFault) → IsErrAnd result (λ f. f ≡ e) → Settles most old new (Err e) → Settles most old new result
stopped_by most old new e (Ok p) is settles = absurd is
stopped_by most old new e (Err f) is settles = subst (λ x. Settles most old new (Err x)) (sym is) settles

-- ── how many commits a move takes ──

if_ok : {A E : Type 0} (P Q : A → Type 0) (result : Result A E) → ((a : A) → P a → Q a) → IfOk result P → IfOk result Q
if_ok P Q (Ok a) more h = more a h
if_ok P Q (Err e) more h = tt

module _ (book : List Entry) (at_most : ℕ) (old new : State) (result : Result Point MoveFault) (b : IsBook book) (settles : Settles at_most old new result) (rests : RestsAt (settled 1) old book) (clean : HasCleanDisk new) where
  way : (point_behind (commits_of_move book) (settled 1) book ≡ settled NEWEST_LAYOUT) × ((k : ℕ) → k < commits_of_move book → is_on_way (point_behind k (settled 1) book) ≡ true)
  way = reach book b (commits_of_move book) (settled 1) refl (from_first book b)

  pub enough : commits_of_move book ≤ at_most → IfOk result (λ to. to ≡ settled NEWEST_LAYOUT)
  enough more =
      let all = stays_behind at_most (commits_of_move book) (settled 1) book more way.0 in
      if_ok (λ to. to ≡ point_behind at_most (settled 1) book) (λ to. to ≡ settled NEWEST_LAYOUT) result (λ to is. is ∙ all) (settles.reached (settled 1) book rests clean)

  pub fewer : at_most < commits_of_move book → IfOk result (λ to. is_on_way to ≡ true)
  fewer less =
      if_ok (λ to. to ≡ point_behind at_most (settled 1) book) (λ to. is_on_way to ≡ true) result (λ to is. ap is_on_way is ∙ way.1 at_most less) (settles.reached (settled 1) book rests clean)
