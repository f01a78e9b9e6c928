-- Totals that are written, and then accomplishments.
use Rattle.std.proofs.Common.{◌≡◌, ◌≢◌, ◌⊎◌, inl, inr, List, [], ◌∷◌, map, Ok, Err, Result, OnOk, IfErr, IsTrue, IsPermutation, sym, subst, ◌∙◌, arith}
use Rattle.std.specs.Prelude.{IsErrAnd, Contains}
use Rattle.std.specs.List.{AllByRecursion}
use Rattle.std.proofs.lemmas.List.Elements.{All-contains, All-from_recursion}
use Rattle.sqlite.specs.Order.{Row}
use Rattle.sqlite.specs.Table.{Table}
use Rattle.sqlite.specs.Schema.{Schema}
use Rattle.sqlite.specs.Tree.{Trees, rowid, IsTable}
use Rattle.sqlite_trees.specs.View.{is_int}
use Rattle.sqlite.specs.Effect.{Database}
use Rattle.sqlite.specs.State.{State, HasCleanDisk}
use Rattle.mx_layout.specs.declared.fault.TableFault.{TableFault}
use Rattle.mx_layout.specs.declared.fault.TableFault.TheVariants.{Memory, Store}
use Rattle.mx_layout.specs.Crash.{StaysInside, IsWithin}
use Rattle.mx_tables.specs.inserts.Sets.{IsInside}
use Rattle.mx_layout.specs.Contents.{cells, rows_in, HasNoReferences, Rises}
use Rattle.mx_layout.specs.Tables.{total2, done3}
use Rattle.mx_layout.specs.kept.Cells.{kept_total2, kept_done3}
use Rattle.mx_layout.specs.kept.Schemas.{HasDone, HasTotals, HasPermanent}
use Rattle.mx_layout.proofs.CrashLemmas.{within_then, stays_then}
use Rattle.mx_layout.proofs.KeptProofs.MovedLawful.{total2_lawful, done3_lawful}
use Rattle.mx_layout.proofs.KeptProofs.SchemaLemmas.{own_3_stayed, all_3_stayed}
use Rattle.mx_tables.proofs.InsertsProofs.SetLemmas.{on_weaker}
use Rattle.mx_table_rows.specs.totals.Calls.{Becomes}
use Rattle.mx_table_rows.specs.totals.Puts.{WritesRows}
use Rattle.mx_table_rows.specs.totals.Late.{BecomeBoth}
use Rattle.mx_table_rows.proofs.TotalsProofs.ReadLemmas.{stopped_is}

-- ── the schemas that have accomplishments ──

pub done_totals : (schema : Schema) → HasDone schema → HasTotals schema
done_totals schema (inl coming) = inr (all_3_stayed schema coming)
done_totals schema (inr there) = inr (own_3_stayed schema there)

pub done_permanent : (schema : Schema) → HasDone schema → HasPermanent schema
done_permanent schema (inl coming) = record { rest = _; more = coming.more; is = coming.is }
done_permanent schema (inr there) = record { rest = _; more = there.more; is = there.is }

-- ── totals, and then accomplishments ──

-- totals and accomplishments became what is made of each, and nothing else changed; or the call stopped
pub record WritesBoth {V : Type 0} (totals_made done_made : List Row → List Row) (old new : State) (result : Result V TableFault) : Type 0 where
  pub becomes : HasCleanDisk new → IsTrue old.in_transaction → kept_done3.IsIn old.now.schema → HasNoReferences old.now.schema → Rises total2 old.now.trees → Rises done3 old.now.trees → OnOk result (BecomeBoth totals_made done_made old.now new.now)
  pub cause : IfErr result (λ e. (e ≡ Memory) ⊎ (e ≡ Store))
  pub mode : HasCleanDisk new → IsTrue old.in_transaction → OnOk result (IsTrue new.in_transaction)
  pub inside : HasCleanDisk new → IsInside old → OnOk result (StaysInside old new)
  pub within : IsWithin old new

table_at : (P : Table → Type 0) (tables : List Table) (t : Table) → AllByRecursion P tables → Contains tables t → P t
table_at P tables t all there = All-contains P tables t (All-from_recursion P tables all) there

still_rises : (t : Table) (old new : Trees) → new t.tree ≡ old t.tree → Rises t old → Rises t new
still_rises t old new same up = record { up = subst IsTable (sym same) up.up; numbers = subst (AllByRecursion (λ r. IsTrue (is_int (rowid r)))) (sym same) up.numbers }

others_both : (a b c : Trees) (tables : List Table) → AllByRecursion (λ t. t.tree ≢ total2.tree → b t.tree ≡ a t.tree) tables → AllByRecursion (λ t. t.tree ≢ done3.tree → c t.tree ≡ b t.tree) tables
    → AllByRecursion (λ t. t.tree ≢ total2.tree → t.tree ≢ done3.tree → c t.tree ≡ a t.tree) tables
others_both a b c [] one two = tt
others_both a b c (t ∷ tables) one two = ((λ no_total no_done. two.0 no_done ∙ one.0 no_total), others_both a b c tables one.1 two.1)

module _ (one two : List Row → List Row) where
  module _ (a b : Database) (has : HasDone a.schema) (x : Becomes total2 one a b) where
    -- accomplishments are as they were once totals are written
    done_kept : b.trees done3.tree ≡ a.trees done3.tree
    done_kept =
        let other : done3.tree ≢ total2.tree = λ same. (absurd (omega (arith, same))) in
        table_at (λ t. t.tree ≢ total2.tree → b.trees t.tree ≡ a.trees t.tree) a.schema.tables done3 x.others (done3_lawful.there a.schema has) other

    become_both : (c : Database) → Becomes done3 two b c → BecomeBoth one two a c
    become_both c y =
        let turned : total2.tree ≢ done3.tree = λ same. (absurd (omega (arith, same))) in
        let others = subst (λ (s : Schema). AllByRecursion (λ t. t.tree ≢ done3.tree → c.trees t.tree ≡ b.trees t.tree) s.tables) x.schema y.others in
        let stays : c.trees total2.tree ≡ b.trees total2.tree =
        table_at (λ t. t.tree ≢ done3.tree → c.trees t.tree ≡ b.trees t.tree) a.schema.tables total2 others (total2_lawful.there a.schema (done_totals a.schema has)) turned in
        record {
          schema = y.schema ∙ x.schema;
          totals = subst (λ rows. IsPermutation (one (rows_in total2 a.trees)) (map (cells total2) rows)) (sym stays) x.rows;
          done = subst (λ rows. IsPermutation (two (map (cells done3) rows)) (rows_in done3 c.trees)) done_kept y.rows;
          others = others_both a.trees b.trees c.trees a.schema.tables x.others others;
          totals_rise = still_rises total2 b.trees c.trees stays x.rises;
          done_rise = y.rises;
          sound = λ sound. y.sound (x.sound sound);
        }

  pub both_then : {V W : Type 0} (a b c : State) (v : V) (r : Result W TableFault) → WritesRows kept_total2 one a b (Ok v) → WritesRows kept_done3 two b c r → WritesBoth one two a c r
  both_then a b c v r x y =
      let early : HasCleanDisk c → HasCleanDisk b = λ clean. omega (arith, y.within.survives.clean) in
      record {
        becomes = λ clean begun has free up done_up. (let first = x.becomes (early clean) begun (done_totals a.now.schema has) free up in
            let still = still_rises done3 a.now.trees b.now.trees (done_kept a.now b.now has first) done_up in
            on_weaker r (become_both a.now b.now has first c.now)
            (y.becomes clean (x.mode (early clean) begun) (subst HasDone (sym first.schema) has) (subst HasNoReferences (sym first.schema) free) still));
        cause = y.cause;
        mode = λ clean begun. y.mode clean (x.mode (early clean) begun);
        inside = λ clean begun. (let stays = x.inside (early clean) begun in on_weaker r (stays_then a b c stays) (y.inside clean (stays.mode, stays.is_open)));
        within = within_then a b c x.within x.mode y.within;
      }

  -- the totals were not written
  pub both_stopped : {V W : Type 0} (old new : State) (e : TableFault) (result : Result W TableFault) → IsErrAnd result (λ f. f ≡ e) → WritesRows {V = V} kept_total2 one old new (Err e) → WritesBoth one two old new result
  both_stopped {V} {W} old new e result is w =
      subst (λ (s : Result W TableFault). WritesBoth one two old new s) (sym (stopped_is e result is))
      (record { becomes = λ _ _ _ _ _ _. tt; cause = w.cause; mode = λ _ _. tt; inside = λ _ _. tt; within = w.within })
