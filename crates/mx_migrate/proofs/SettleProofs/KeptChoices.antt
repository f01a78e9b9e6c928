-- Which step is due where what is kept of items is written, by the kept rows of all of them.
use Rattle.std.proofs.Common.{◌≡◌, inl, inr, ℕ, List, Option, None, Some, Ok, Err, IsTrue, refl, sym, subst, arith}
use Rattle.sqlite.specs.State.{State, HasCleanDisk}
use Rattle.mx_book.specs.commands.Act.{Entry}
use Rattle.mx_base.specs.declared.point.Point.{Point}
use Rattle.mx_registers.specs.points.Points.{moving}
use Rattle.mx_layout.specs.declared.fault.TableFault.{TableFault}
use Rattle.mx_layout.specs.declared.fault.TableFault.TheVariants.{Memory}
use Rattle.mx_verify.specs.declared.derived.kept.KeptRows.{KeptRows}
use Rattle.mx_migrate.specs.declared.settle.due.Due.{Due}
use Rattle.mx_migrate.specs.settle.Choices.{Chooses, FindsKept, IsKeeping, LiesIn, StandsIn}
use Rattle.mx_migrate.specs.settle.Found.{AreKeptIn, KnowsIn, MayBeRead}
use Rattle.mx_migrate.specs.settle.Items.{AreItemsOf, IsBasesBy, Knows, next_total, total_by}
use Rattle.mx_migrate.proofs.SettleProofs.ItemLemmas.{bases_called, bases_due, bases_for, bases_goes, total_called, total_due, total_for, total_goes}

module _ (known after : Option KeptRows) (old new : State) where
  -- the kept rows were not found
  pub kept_unfound : (at : Point) (e : TableFault) → IsKeeping at → after ≡ None → FindsKept known old new (Err e) → Chooses at known after old new (Err e)
  kept_unfound at e keeping is r = record {
    fits = λ _. tt;
    due = λ _ _ _ _ _. tt;
    stops = λ book file clean stands knows. r.whole at book keeping clean stands knows;
    knows = λ book _ _ _ _. subst (λ k. Knows k book) (sym is) tt;
    goes = λ _ _ _. tt;
    cause = r.cause;
    damaged = λ file clean lies. r.damaged at keeping clean lies;
    called = λ _ _ _ _ _. tt;
    keeps = λ _ _ _ _ _. subst (λ k. KnowsIn at k old.now.trees) (sym is) tt;
  }

  module _ (kept : KeptRows) (is : after ≡ Some kept) (r : FindsKept known old new (Ok kept)) where
    items_are : (at : Point) (book : List Entry) → IsKeeping at → HasCleanDisk new → (IsTrue old.is_open → StandsIn at book old.now) → Knows known book → AreItemsOf kept book
    items_are at book keeping clean stands knows = r.whole at book keeping clean stands knows

    known_after : (at : Point) (book : List Entry) → IsKeeping at → HasCleanDisk new → (IsTrue old.is_open → StandsIn at book old.now) → Knows known book → Knows after book
    known_after at book keeping clean stands knows = subst (λ k. Knows k book) (sym is) (items_are at book keeping clean stands knows)

    -- over any rows
    kept_in : (at : Point) → IsKeeping at → HasCleanDisk new → (IsTrue old.is_open → LiesIn at old.now) → IsTrue old.is_open → KnowsIn at known old.now.trees → AreKeptIn kept old.now.trees
    kept_in at keeping clean lies is_open knows = r.given at keeping clean lies is_open knows

    known_in : (at : Point) → MayBeRead at → IsKeeping at → HasCleanDisk new → (IsTrue old.is_open → LiesIn at old.now) → IsTrue old.is_open → KnowsIn at known old.now.trees → KnowsIn at after old.now.trees
    known_in at may keeping clean lies is_open knows = subst (λ k. KnowsIn at k old.now.trees) (sym is) (may, kept_in at keeping clean lies is_open knows)

    pub total_chosen : (mark : ℕ) → Chooses (moving 3 mark) known after old new (Ok (Some (total_by mark (next_total mark kept.totals.items))))
    total_chosen mark =
        let next = next_total mark kept.totals.items in
        record {
          fits = λ file. total_for mark next file;
          due = λ book file clean stands knows. total_due mark kept book (items_are (moving 3 mark) book (mark, inl refl) clean stands knows) next refl;
          stops = λ _ _ _ _ _. tt;
          knows = λ book file clean stands knows. known_after (moving 3 mark) book (mark, inl refl) clean stands knows;
          goes = λ _ _ _. total_goes mark kept.totals.items next refl old.now.trees;
          cause = tt;
          damaged = λ _ _ _. tt;
          called = λ file clean lies is_open knows. total_called mark kept old.now.trees (kept_in (moving 3 mark) (mark, inl refl) clean lies is_open knows) next refl;
          keeps = λ file clean lies is_open knows. known_in (moving 3 mark) (inl (omega arith)) (mark, inl refl) clean lies is_open knows;
        }

    pub bases_chosen : (mark : ℕ) (step : Due) → IsBasesBy mark kept.bases.items (next_total mark kept.totals.items) step → Chooses (moving 4 mark) known after old new (Ok (Some step))
    bases_chosen mark step by =
        let next = next_total mark kept.totals.items in
        record {
          fits = λ file. bases_for mark kept.bases.items next step by file;
          due = λ book file clean stands knows. bases_due mark kept book (items_are (moving 4 mark) book (mark, inr refl) clean stands knows) next refl step by;
          stops = λ _ _ _ _ _. tt;
          knows = λ book file clean stands knows. known_after (moving 4 mark) book (mark, inr refl) clean stands knows;
          goes = λ _ _ _. bases_goes mark kept.totals.items kept.bases.items next step refl by old.now.trees;
          cause = tt;
          damaged = λ _ _ _. tt;
          called = λ file clean lies is_open knows. bases_called mark kept old.now.trees (kept_in (moving 4 mark) (mark, inr refl) clean lies is_open knows) next refl step by;
          keeps = λ file clean lies is_open knows. known_in (moving 4 mark) (inl (omega arith)) (mark, inr refl) clean lies is_open knows;
        }

    -- memory ran out for the last bases of the item
    pub bases_stop : (mark : ℕ) → Chooses (moving 4 mark) known after old new (Err Memory)
    bases_stop mark = record {
      fits = λ _. tt;
      due = λ _ _ _ _ _. tt;
      stops = λ _ _ _ _ _. inl refl;
      knows = λ book file clean stands knows. known_after (moving 4 mark) book (mark, inr refl) clean stands knows;
      goes = λ _ _ _. tt;
      cause = inl refl;
      damaged = λ _ _ _ name never. absurd cc;
      called = λ _ _ _ _ _. tt;
      keeps = λ file clean lies is_open knows. known_in (moving 4 mark) (inl (omega arith)) (mark, inr refl) clean lies is_open knows;
    }
