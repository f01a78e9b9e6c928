-- Why an office is opened, or is not: by the point that was read, and by the fault that stopped the reading or the move.
use Rattle.std.proofs.Common.{◌≡◌, ◌≢◌, ◌⊎◌, inl, inr, ℕ, Bool, true, false, cond, IsTrue, ◌&&◌, ◌||◌, List, [], ◌∷◌, length, Option, Some, None, Ok, Err, refl, sym, ap, subst, ◌∙◌, arith}
use Rattle.std.specs.Prelude.{nat_eq, nat_lt}
use Rattle.std.proofs.lemmas.Bool.{eqb-true}
use Rattle.std.proofs.lemmas.Bool.Decides.{nat_tests}
use Rattle.sqlite.specs.Store.{Ghosts}
use Rattle.sqlite.specs.Held.{Held, state}
use Rattle.sqlite.specs.State.{State, HasCleanDisk}
use Rattle.mx_book.proofs.JudgeLemmas.{both_true}
use Rattle.mx_book.specs.commands.Act.{Entry}
use Rattle.mx_layout.specs.Contents.{rows_in}
use Rattle.mx_layout.specs.Listed.{LacksOffice}
use Rattle.mx_layout.specs.Tables.{office, HasOffice}
use Rattle.mx_faults.specs.Moving.{fault_from as move_fault_from}
use Rattle.mx_faults.specs.declared.moving.MoveFault.{MoveFault}
use Rattle.mx_faults.specs.declared.moving.MoveFault.TheVariants as move
use Rattle.mx_base.specs.declared.point.Point.{Point}
use Rattle.mx_registers.specs.points.Points.{is_on_way}
use Rattle.sqlite.specs.Order.{Row}
use Rattle.mx_layout.specs.Point.{point_cells, FitsPoint, HoldsPoint, IsNoPoint, TellsPoint, IsStop as IsTableStop}
use Rattle.mx_layout.specs.declared.fault.TableFault.{TableFault}
use Rattle.mx_layout.specs.declared.fault.TableFault.TheVariants as table
use Rattle.mx_layout.specs.declared.fault.Table.TheVariants.{Office}
use Rattle.mx_book_tables.specs.stands.Schemas.{IsOfFile}
use Rattle.mx_book_tables.specs.stands.Stands.{RestsAt}
use Rattle.mx_migrate.specs.settle.Place.{IsMoveStop}
use Rattle.mx_migrate.proofs.SettleProofs.PlaceLemmas.{Bounds, bounds}
use Rattle.mx_office.specs.Faults.{is_office_point, moved_fault_from, open_answer, open_fault_from, IsReason, IsStop, IsStopped, IsUnopened, SaysWhy}
use Rattle.mx_office.specs.Layout.{office_point}
use Rattle.mx_office.specs.Opening.{HasReason, SaysPoint, WasOurs}
use Rattle.mx_faults.specs.declared.fault.OpenFault.{OpenFault}
use Rattle.mx_faults.specs.declared.fault.OpenFault.TheVariants as unopened

-- ── the point was not read ──

-- want of memory or the store stopped the opening
pub open_stops : (f : TableFault) (answered : OpenFault) → answered ≡ open_fault_from f → IsTableStop f → IsStop answered
open_stops f answered is why = elim why [ inl memory ↦ inl (is ∙ ap open_fault_from memory) | inr store ↦ inr (is ∙ ap open_fault_from store) ]

-- why the point could not be read is why no office was opened
pub open_reason : (rows : List Row) (f : TableFault) (answered : OpenFault) → answered ≡ open_fault_from f → IsTableStop f ⊎ IsNoPoint rows f → IsReason rows answered
open_reason rows f answered is (inl stop) = inl (open_stops f answered is stop)
open_reason rows f answered is (inr (inl none)) = inr (inl (is ∙ ap open_fault_from none.0, none.1))
open_reason rows f answered is (inr (inr bad)) = inr (inr (inl (is ∙ ap open_fault_from bad.0, bad.1, bad.2)))

-- a store without our tables is not ours
pub open_absent : (f : TableFault) (answered : OpenFault) → answered ≡ open_fault_from f → IsTableStop f ⊎ (f ≡ table.NotOurs) → IsUnopened (Some unopened.NotOurs) answered
open_absent f answered is (inl stop) = inr (open_stops f answered is stop)
open_absent f answered is (inr none) = inl (ap Some (sym (is ∙ ap open_fault_from none)))

-- not ours only where there is not one row
pub open_not_ours : (rows : List Row) (f : TableFault) (answered : OpenFault) → answered ≡ open_fault_from f → IsTableStop f ⊎ IsNoPoint rows f → answered ≡ unopened.NotOurs → length rows ≢ 1
open_not_ours rows f answered is (inl (inl memory)) same = let both : unopened.NotOurs ≡ unopened.Memory = sym same ∙ is ∙ ap open_fault_from memory in absurd cc
open_not_ours rows f answered is (inl (inr store)) same = let both : unopened.NotOurs ≡ unopened.Store = sym same ∙ is ∙ ap open_fault_from store in absurd cc
open_not_ours rows f answered is (inr (inl none)) same = none.1
open_not_ours rows f answered is (inr (inr bad)) same = let both : unopened.NotOurs ≡ unopened.Damaged Office = sym same ∙ is ∙ ap open_fault_from bad.0 in absurd cc

pub fault_not_older : (f : TableFault) (layout : ℕ) → open_fault_from f ≢ unopened.OlderLayout layout
fault_not_older table.Memory layout same = cc
fault_not_older table.Store layout same = cc
fault_not_older table.NotOurs layout same = cc
fault_not_older table.Exists layout same = cc
fault_not_older (table.Damaged name) layout same = cc

-- ── the move was stopped ──

pub moved_stopped : (e : MoveFault) → IsStopped (moved_fault_from e)
moved_stopped move.Memory = inl (inl refl)
moved_stopped move.Store = inl (inr refl)
moved_stopped move.NotOurs = inr (Office, refl)
moved_stopped (move.NewerLayout layout) = inr (Office, refl)
moved_stopped (move.Damaged name) = inr (name, refl)

pub moved_stop : (e : MoveFault) → IsMoveStop e → IsStop (moved_fault_from e)
moved_stop e (inl memory) = inl (ap moved_fault_from memory)
moved_stop e (inr store) = inr (ap moved_fault_from store)

pub move_stops : (f : TableFault) (e : MoveFault) → e ≡ move_fault_from f → IsTableStop f → IsMoveStop e
move_stops f e is (inl memory) = inl (is ∙ ap move_fault_from memory)
move_stops f e is (inr store) = inr (is ∙ ap move_fault_from store)

stopped_is : (why : OpenFault) → IsStopped why → ((layout : ℕ) → why ≢ unopened.OlderLayout layout) × (why ≢ unopened.NotOurs)
stopped_is why (inl (inl memory)) = (λ layout same. cc, λ same. cc)
stopped_is why (inl (inr store)) = (λ layout same. cc, λ same. cc)
stopped_is why (inr damaged) = let is : why ≡ unopened.Damaged damaged.0 = damaged.1 in (λ layout same. cc, λ same. cc)

-- ── the point was read ──

abbrev answers : Bool → Bool → Point → Option OpenFault
answers newer file p = cond newer (Some (unopened.NewerLayout p.layout)) (cond file None (Some (unopened.Damaged Office)))

pub point_of_office : (p : Point) → is_office_point p ≡ true → p ≡ office_point
point_of_office p is =
    let first = both_true (nat_eq p.layout office_point.layout && nat_eq p.step office_point.step) (nat_eq p.mark office_point.mark) is in
    let rest = both_true (nat_eq p.layout office_point.layout) (nat_eq p.step office_point.step) first.0 in
    let layout = eqb-true p.layout office_point.layout rest.0 in
    let step = eqb-true p.step office_point.step rest.1 in
    let mark = eqb-true p.mark office_point.mark first.1 in
    λ i. record { layout = layout i; step = step i; mark = mark i }

file_of : (p : Point) (own way : Bool) → is_office_point p ≡ own → is_on_way p ≡ way → own || way ≡ true → IsOfFile p
file_of p own true is_own is_way there = inl is_way
file_of p true false is_own is_way there = inr (point_of_office p is_own)
file_of p false false is_own is_way there = absurd cc

opened : (newer file : Bool) (p : Point) → answers newer file p ≡ None → file ≡ true
opened true file p is = absurd cc
opened false true p is = refl
opened false false p is = absurd cc

-- an office is opened at points alone that a file can be at
pub answers_file : (p : Point) → open_answer p ≡ None → IsOfFile p
answers_file p is = file_of p (is_office_point p) (is_on_way p) refl refl (opened (nat_lt office_point.layout p.layout) (is_office_point p || is_on_way p) p is)

-- off the way, at the point of the office alone
pub answers_office : (p : Point) → open_answer p ≡ None → is_on_way p ≡ false → p ≡ office_point
answers_office p is off = elim (answers_file p is) [
  | inl way ↦ let both : true ≡ false = sym way ∙ off in absurd cc
  | inr there ↦ there
]

-- and at each of them
pub file_answers : (p : Point) → IsOfFile p → open_answer p ≡ None
file_answers p file =
    let b : Bounds p = bounds p file in
    let older : nat_lt office_point.layout p.layout ≡ false = (let low = b.layout in grind (arith, nat_tests)) in
    ap (λ newer. answers newer (is_office_point p || is_on_way p) p) older ∙ ap (λ known. answers false known p) (known file)
  where
    either_true : (own : Bool) → own || true ≡ true
    either_true true = refl
    either_true false = refl

    known : IsOfFile p → is_office_point p || is_on_way p ≡ true
    known (inl way) = ap (λ b. is_office_point p || b) way ∙ either_true (is_office_point p)
    known (inr there) = ap (λ q. is_office_point q || is_on_way q) there

answer_is : (newer file : Bool) (p : Point) (why : OpenFault) → answers newer file p ≡ Some why → ((layout : ℕ) → why ≢ unopened.OlderLayout layout) × (why ≢ unopened.NotOurs)
answer_is true file p why is = (λ layout same. cc, λ same. cc)
answer_is false true p why is = absurd cc
answer_is false false p why is = (λ layout same. cc, λ same. cc)

module _ (was : State) (p : Point) (reads : (IsTrue was.is_open → HasOffice was.now.schema) → rows_in office was.now.trees ≡ point_cells p ∷ []) (exact : (q : Point) → (IsTrue was.is_open → HoldsPoint q was.now) → FitsPoint q → p ≡ q)
    (absent : (IsTrue was.is_open → LacksOffice was.now.schema) → ⊥) where
  -- the point says that one is opened
  pub point_ours : open_answer p ≡ None → WasOurs was
  point_ours is = record { file = λ has. (p, answers_file p is, reads has); exact = λ q holds fits. ap open_answer (sym (exact q holds fits)) ∙ is; found = absent }

  -- the point says why none is
  pub point_reason : (why : OpenFault) → open_answer p ≡ Some why → ((at : Point) (book : List Entry) → RestsAt at was book → p ≡ at) → HasReason was why
  point_reason why is rests_at = record {
    exact = λ q holds fits. inl (inl (ap open_answer (sym (exact q holds fits)) ∙ is));
    reason = λ has. inr (inr (inr (p, reads has, inl is)));
    not_ours = λ has same. absurd ((answer_is (nat_lt office_point.layout p.layout) (is_office_point p || is_on_way p) p why is).1 same);
    absent = λ none. absurd (absent none);
    whole = λ at book file rests. (let none : None ≡ Some why = sym (file_answers at file) ∙ ap open_answer (sym (rests_at at book rests)) ∙ is in absurd cc);
  }

  -- the move from there was stopped
  pub way_reason : (why : OpenFault) → is_on_way p ≡ true → IsStopped why → ((at : Point) (book : List Entry) → IsOfFile at → RestsAt at was book → IsStop why) → HasReason was why
  way_reason why way stopped whole = record {
    exact = λ q holds fits. by q stopped (subst (λ (x : Point). is_on_way x ≡ true) (exact q holds fits) way);
    reason = λ has. by_rows stopped (reads has);
    not_ours = λ has same. absurd ((stopped_is why stopped).1 same);
    absent = λ none. absurd (absent none);
    whole = whole;
  }
    where
      by : (q : Point) → IsStopped why → is_on_way q ≡ true → SaysWhy q why ⊎ IsStop why
      by q (inl stop) there = inr stop
      by q (inr damaged) there = inl (inr (there, damaged.0, damaged.1))

      by_rows : IsStopped why → rows_in office was.now.trees ≡ point_cells p ∷ [] → IsReason (rows_in office was.now.trees) why
      by_rows (inl stop) rows = inl stop
      by_rows (inr damaged) rows = inr (inr (inr (p, rows, inr (way, damaged.0, damaged.1))))

-- what the query of `office` says, by the point that it told
module _ {S : Type 0} (g : Ghosts S) (was : Held S) (p : Point) (told : TellsPoint g was (Ok p)) where
  pub point_says : (why : Option OpenFault) → open_answer p ≡ why → SaysPoint g was why
  point_says None is = (p, told, answers_file p is)
  point_says (Some why) is = (Ok p, told, inl is)

  pub way_says : is_on_way p ≡ true → (why : Option OpenFault) → ((fault : OpenFault) → why ≡ Some fault → IsStopped fault) → SaysPoint g was why
  way_says way None stops = (p, told, inl way)
  way_says way (Some why) stops = (Ok p, told, inr (way, stops why refl))
