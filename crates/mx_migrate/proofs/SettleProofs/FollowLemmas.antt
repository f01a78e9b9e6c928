-- What `office` says of a database decides whether it is moved.
use Rattle.std.proofs.Common.{◌≡◌, ◌⊎◌, inl, inr, ◌<◌, true, Ok, Err, Result, refl, sym, ap, subst, arith}
use Rattle.std.specs.Prelude.{IfErr, IsErrAnd}
use Rattle.sqlite.specs.Held.{Held, state}
use Rattle.sqlite.specs.State.{State, HasCleanDisk}
use Rattle.sqlite.specs.Store.{Ghosts}
use Rattle.mx_base.specs.declared.point.Point.{Point}
use Rattle.mx_registers.specs.declared.points.points.TheConstants.{NEWEST_LAYOUT}
use Rattle.mx_registers.specs.points.Points.{is_on_way}
use Rattle.mx_layout.specs.declared.fault.TableFault.{TableFault}
use Rattle.mx_layout.specs.Crash.{ChangesNothing}
use Rattle.mx_layout.specs.Point.{TellsPoint}
use Rattle.mx_book_tables.specs.stands.Schemas.{IsOfFile}
use Rattle.mx_faults.specs.declared.moving.MoveFault.{MoveFault}
use Rattle.mx_faults.specs.declared.moving.MoveFault.TheVariants as stop
use Rattle.mx_migrate.specs.settle.Due.{IsFor}
use Rattle.mx_migrate.specs.settle.Place.{AnswersAs, FollowsPoint, IsOnWay, TellsPlace, TellsRead, checked, place_of}
use Rattle.mx_migrate.specs.declared.settle.due.Due.{Due}
use Rattle.mx_migrate.specs.declared.settle.due.Due.TheVariants as due
use Rattle.mx_migrate.proofs.SettleProofs.PlaceLemmas.{checked_same}

-- ── points on the way ──

-- below the newest layout each point of a file is
pub way_below : (at : Point) → IsOfFile at → at.layout < NEWEST_LAYOUT → is_on_way at ≡ true
way_below at (inl way) older = way
way_below at (inr is) older = let two : at.layout ≡ NEWEST_LAYOUT = ap (λ (p : Point). p.layout) is in absurd (omega (arith, two, older))

layout_of : (step : Due) (at : Point) → IsFor step at → at.layout ≡ 1
layout_of (due.SectorTable step) at here = ap (λ (p : Point). p.layout) here
layout_of (due.Sectors step) at here = ap (λ (p : Point). p.layout) here
layout_of (due.SpanTable step) at here = ap (λ (p : Point). p.layout) here.0
layout_of (due.Component step) at here = ap (λ (p : Point). p.layout) here
layout_of (due.TotalTable step) at here = ap (λ (p : Point). p.layout) here.0
layout_of (due.Total step) at here = ap (λ (p : Point). p.layout) here
layout_of (due.BaseTable step) at here = ap (λ (p : Point). p.layout) here.0
layout_of (due.Bases step) at here = ap (λ (p : Point). p.layout) here
layout_of (due.End step) at here = ap (λ (p : Point). p.layout) here.0

-- and so is one that a step is for
pub way_for : (step : Due) (at : Point) → IsOfFile at → IsFor step at → is_on_way at ≡ true
way_for step at file here = let one = layout_of step at here in way_below at file (omega (arith, one))

-- ── what was told ──

module _ {S : Type 0} (g : Ghosts S) (was : Held S) (mid : State) where
  -- the point was not answered
  pub follows_none : (e : MoveFault) → TellsPlace (state g was) mid (Err e) → (HasCleanDisk mid → TellsRead g was (Err e)) → FollowsPoint g was mid (Err e)
  follows_none e tells read = record {
    told = λ clean. (let x = read clean in (x.0, x.1, subst (λ r. IfErr r (λ f. (◌≡◌ {A = Result Point MoveFault} (Err e) (Err f)) × ChangesNothing (state g was) mid)) x.2 (refl, tells.unchanged)));
    exact = λ at clean holds fits. as_error (checked at) (tells.exact at clean holds fits);
    absent = λ clean lacks. (tells.absent clean lacks, tells.unchanged);
    moves = inl tells.unchanged;
  }
    where
      as_error : (c : Result Point MoveFault) → AnswersAs c (Err e) → IfErr c (λ f. AnswersAs (Err f) (Err e) × ChangesNothing (state g was) mid)
      as_error (Ok p) answers = tt
      as_error (Err f) answers = (answers, tells.unchanged)

  module _ (from : Point) (tells : TellsPlace (state g was) mid (Ok from)) (read : HasCleanDisk mid → TellsRead g was (Ok from)) where
    as_read : (x : Result Point TableFault) → ◌≡◌ {A = Result Point MoveFault} (Ok from) (place_of x) → TellsPoint g was x → TellsPoint g was (Ok from)
    as_read (Ok at) is told = let same : at ≡ from = sym (checked_same at from (sym is)) in subst (λ p. TellsPoint g was (Ok p)) same told
    as_read (Err f) is told = absurd cc

    is_point : (p : Point) → AnswersAs (checked p) (Ok from) → from ≡ p
    is_point p (inl is) = checked_same p from (sym is)
    is_point p (inr stops) = (let is = stops.1 in absurd cc)

    on_way : is_on_way from ≡ true → HasCleanDisk mid → IsOnWay g was
    on_way way clean = record {
      at = from;
      way = way;
      told = (let x = read clean in as_read x.0 x.2 x.1);
      exact = λ p holds fits. is_point p (tells.exact p clean holds fits);
    }

    -- no other was
    none_other : (f : MoveFault) → AnswersAs (Err f) (Ok from) → ⊥
    none_other f (inl is) = absurd cc
    none_other f (inr stops) = (let is = stops.1 in absurd cc)

    -- the point was answered, and then nothing changed, or it is one on the way
    pub follows_on : (new : State) (result : Result Point MoveFault) → (HasCleanDisk new → HasCleanDisk mid) → ChangesNothing (state g was) new ⊎ (is_on_way from ≡ true) → FollowsPoint g was new result
    follows_on new result early moves = record {
      told = λ clean. (let x = read (early clean) in (x.0, x.1, subst (λ r. IfErr r (λ f. (result ≡ Err f) × ChangesNothing (state g was) new)) x.2 tt));
      exact = λ at clean holds fits. no_error (checked at) (tells.exact at (early clean) holds fits);
      absent = λ clean lacks. absurd (none_other stop.NotOurs (tells.absent (early clean) lacks));
      moves = elim moves [ inl nothing ↦ inl nothing | inr way ↦ inr (λ clean. on_way way (early clean)) ];
    }
      where
        no_error : (c : Result Point MoveFault) → AnswersAs c (Ok from) → IfErr c (λ f. AnswersAs (Err f) result × ChangesNothing (state g was) new)
        no_error (Ok p) answers = tt
        no_error (Err f) answers = absurd (none_other f answers)

-- ── while a file is moved ──

-- the point that was answered first, and what was done since: nothing, or it is one below the newest layout
pub record HasFollowed {S : Type 0} (g : Ghosts S) (was : Held S) (now : State) (end : Point) : Type 0 where
  pub from : Point
  pub mid : Held S
  pub tells : TellsPlace (state g was) (state g mid) (Ok from)
  pub read : HasCleanDisk (state g mid) → TellsRead g was (Ok from)
  pub early : HasCleanDisk now → HasCleanDisk (state g mid)
  pub moved : ((end ≡ from) × ChangesNothing (state g was) now) ⊎ (from.layout < NEWEST_LAYOUT)

pub followed_none : {S : Type 0} (g : Ghosts S) (was mid : Held S) (from : Point) → TellsPlace (state g was) (state g mid) (Ok from) → (HasCleanDisk (state g mid) → TellsRead g was (Ok from)) → HasFollowed g was (state g mid) from
followed_none g was mid from tells read = record { from = from; mid = mid; tells = tells; read = read; early = λ clean. clean; moved = inl (refl, tells.unchanged) }

module _ {S : Type 0} (g : Ghosts S) (was : Held S) (now : State) where
  pub followed_more : (end : Point) → HasFollowed g was now end → end.layout < NEWEST_LAYOUT → (new : State) → (HasCleanDisk new → HasCleanDisk now) → (next : Point) → HasFollowed g was new next
  followed_more end f older new clean next = record {
    from = f.from;
    mid = f.mid;
    tells = f.tells;
    read = f.read;
    early = λ late. f.early (clean late);
    moved = elim f.moved [ inl still ↦ inr (subst (λ (p : Point). p.layout < NEWEST_LAYOUT) still.0 older) | inr below ↦ inr below ];
  }

  pub follows : (end : Point) → HasFollowed g was now end → (result : Result Point MoveFault) → FollowsPoint g was now result
  follows end f result =
      follows_on g was (state g f.mid) f.from f.tells f.read now result f.early (elim f.moved [ inl still ↦ inl still.1 | inr below ↦ inr (way_below f.from f.tells.of_file below) ])

  -- so with a call that stopped
  pub follows_stop : (e : MoveFault) (result : Result Point MoveFault) → IsErrAnd result (λ f. f ≡ e) → FollowsPoint g was now (Err e) → FollowsPoint g was now result
  follows_stop e (Ok p) is stops = absurd is
  follows_stop e (Err f) is stops = subst (λ x. FollowsPoint g was now (Err x)) (sym is) stops
