-- Rows that are changed: they are read, and then each comes in place of what it was.
use Rattle.std.proofs.Common.{◌≡◌, Bool, List, [], ◌∷◌, filter, not, Ok, Err, Result, OnOk, IsTrue, IsPermutation, sym, ap, subst, ◌∙◌, arith}
use Rattle.std.specs.Prelude.{IsErrAnd, ⊤}
use Rattle.std.proofs.lemmas.List.Sorted.{IsPermutation-trans}
use Rattle.sqlite.specs.Order.{Row}
use Rattle.sqlite.specs.Table.{Table}
use Rattle.sqlite.specs.Effect.{Database}
use Rattle.sqlite.specs.State.{State, HasCleanDisk}
use Rattle.mx_layout.specs.declared.fault.TableFault.{TableFault}
use Rattle.mx_layout.specs.Contents.{rows_in, HasNoReferences, Rises}
use Rattle.mx_layout.specs.Crash.{IsWithin}
use Rattle.mx_layout.specs.Names.{table_named}
use Rattle.mx_layout.proofs.CrashLemmas.{within_then, stays_then}
use Rattle.mx_layout.specs.kept.Kept.{Kept}
use Rattle.mx_tables.specs.Calls.{OnRead}
use Rattle.mx_tables.specs.inserts.Calls.{InsertsRow}
use Rattle.mx_table_rows.specs.totals.InPlace.{Replaces, ReplacesRows}
use Rattle.mx_table_rows.specs.totals.Calls.{change_where, Becomes, ReadsFrom, ChangesTable, ChangesRows}
use Rattle.mx_table_rows.specs.totals.Single.{IsOnly, HasOne}
use Rattle.mx_table_rows.proofs.TotalsProofs.RowLemmas.{where_one}
use Rattle.mx_table_rows.proofs.TotalsProofs.ReadLemmas.{stopped_is}
use Rattle.mx_layout.proofs.ReadLemmas.{on_ok}
use Rattle.mx_tables.proofs.InsertsProofs.SetLemmas.{on_weaker, on_read_weaker}
use Rattle.mx_table_rows.proofs.TotalsProofs.KeepLemmas.{Stopped, on_read, not_damaged, caused, at_damage}

-- the one row that passes a test is replaced, by way of another test that leaves the same rows
pub replaced_where : (table : Table) (test by : Row → Bool) (change : Row → Row) (row new_row : Row) (old new : Database) → filter test (rows_in table old.trees) ≡ row ∷ [] → new_row ≡ change row
    → filter (λ r. not (by r)) (rows_in table old.trees) ≡ filter (λ r. not (test r)) (rows_in table old.trees) → Replaces table by new_row old new → Becomes table (change_where test change) old new
replaced_where table test by change row new_row old new only made left r =
    let rest = filter (λ x. not (test x)) (rows_in table old.trees) in
    record {
      schema = r.schema;
      rows = IsPermutation-trans _ (change row ∷ rest) _ (where_one test change (rows_in table old.trees) row only)
          (subst (λ l. IsPermutation l (rows_in table new.trees)) (ap (λ l. new_row ∷ l) left ∙ ap (λ x. x ∷ rest) made) r.replaced);
      others = r.others;
      rises = r.rises;
      sound = λ _. r.sound;
    }

-- the one row that passes the test is read, and replaced by what it is changed to
pub read_then_replaced : {X V : Type 0} (k : Kept X) (test by : Row → Bool) (change : Row → Row) (x y : X) (old mid new : State) (result : Result V TableFault)
    → ReadsFrom k (IsOnly k test) (λ rows. ¬ HasOne k test rows) old mid (Ok x) → ReplacesRows k by y mid new result → k.as_cells y ≡ change (k.as_cells x)
    → (Rises (table_named k.name) old.now.trees → IsOnly k test (rows_in (table_named k.name) old.now.trees) x → filter (λ r. not (by r)) (rows_in (table_named k.name) old.now.trees) ≡ filter (λ r. not (test r)) (rows_in (table_named k.name) old.now.trees))
    → ChangesRows k (change_where test change) (HasOne k test) (λ rows. ¬ HasOne k test rows) old new result
read_then_replaced {X} {V} k test by change x y old mid new result one two made left =
    let table = table_named k.name in
    let early : HasCleanDisk new → HasCleanDisk mid = λ clean. omega (arith, two.within.survives.clean) in
    record {
      becomes = λ clean begun has free rises. (let same = (one.unchanged (early clean) has).0.now_is in
          let stays = one.inside (early clean) begun in
          let only = one.value (early clean) has in
          let replaces = two.replaces clean stays.mode (subst (λ (d : Database). k.IsIn d.schema) (sym same) has) (subst (λ (d : Database). HasNoReferences d.schema) (sym same) free) (subst (λ (d : Database). Rises table d.trees) (sym same) rises) in
          on_weaker result (replaced_where table test by change (k.as_cells x) (k.as_cells y) old.now new.now only.only made (left rises only))
          (subst (λ (d : Database). OnOk result (Replaces table by (k.as_cells y) d new.now)) same replaces));
      good = λ clean has. on_ok result (x, one.value (early clean) has);
      cause = caused result k.name two.cause;
      damaged = λ _ _ is. absurd (not_damaged result k.name two.cause is);
      unchanged = λ _ _ is. absurd (not_damaged result k.name two.cause is);
      mode = λ clean begun. on_read _ result two.cause (on_weaker result (λ stays. stays.mode) (two.inside clean (one.inside (early clean) begun).mode));
      inside = λ clean begun. (let first = one.inside (early clean) begun.0 in on_read _ result two.cause (on_weaker result (stays_then old mid new first) (two.inside clean first.mode)));
      within = within_then old mid new one.within (λ clean begun. (one.inside clean begun).mode) two.within;
    }

-- nothing was read
pub stops_before : {X V W : Type 0} (k : Kept X) (Changes : Database → Database → Type 0) (Is : List Row → V → Type 0) (AreGood AreBad : List Row → Type 0) (old new : State) (e : TableFault) (result : Result W TableFault)
    → IsErrAnd result (λ f. f ≡ e) → ReadsFrom k Is AreBad old new (Err e) → ChangesTable k Changes AreGood AreBad old new result
stops_before {X} {V} {W} k Changes Is AreGood AreBad old new e result is r =
    subst (λ (s : Result W TableFault). ChangesTable k Changes AreGood AreBad old new s) (sym (stopped_is e result is))
    (record {
      becomes = λ _ _ _ _ _. tt;
      good = λ _ _. tt;
      cause = r.cause;
      damaged = λ clean has same. r.damaged clean has (cc);
      unchanged = λ clean has same. at_damage {T = V} (Err e) k.name (cc) (r.unchanged clean has);
      mode = λ clean begun. on_read_weaker {T = W} (Err e) (λ stays. stays.mode) (r.inside clean begun);
      inside = λ clean begun. r.inside clean begun.0;
      within = r.within;
    })

pub stops_changing : {X V W : Type 0} (k : Kept X) (made : List Row → List Row) (Is : List Row → V → Type 0) (AreGood AreBad : List Row → Type 0) (old new : State) (e : TableFault) (result : Result W TableFault)
    → IsErrAnd result (λ f. f ≡ e) → ReadsFrom k Is AreBad old new (Err e) → ChangesRows k made AreGood AreBad old new result
stops_changing k made Is AreGood AreBad old new e result is r = stops_before k (Becomes (table_named k.name) made) Is AreGood AreBad old new e result is r

-- a row is added
pub inserts_is : {X V : Type 0} (k : Kept X) (x : X) (old new : State) (result : Result V TableFault) → InsertsRow k x old new result → ChangesRows k (λ rows. k.as_cells x ∷ rows) (λ _. ⊤) (λ _. ⊥) old new result
inserts_is k x old new result r = record {
  becomes = λ clean begun has free rises. on_weaker result (λ gains. record { schema = gains.schema; rows = gains.adds.gained; others = gains.adds.others; rises = gains.adds.rises rises; sound = λ _. gains.sound }) (r.gains clean begun has);
  good = λ _ _. on_ok result tt;
  cause = caused result k.name r.cause;
  damaged = λ _ _ is. not_damaged result k.name r.cause is;
  unchanged = λ _ _ is. absurd (not_damaged result k.name r.cause is);
  mode = λ clean begun. on_read _ result r.cause (on_weaker result (λ stays. stays.mode) (r.inside clean begun));
  inside = λ clean begun. on_read _ result r.cause (r.inside clean begun.0);
  within = r.within;
}

-- ── the connection was open ──

pub opens_then : {X V W : Type 0} (k : Kept X) (Is : List Row → V → Type 0) (AreBad : List Row → Type 0) (old mid new : State) (v : V) (result : Result W TableFault) → ReadsFrom k Is AreBad old mid (Ok v) → IsWithin mid new → Stopped result
    → HasCleanDisk new → IsTrue old.in_transaction → OnRead result (IsTrue old.is_open)
opens_then k Is AreBad old mid new v result one within why clean begun =
    let early : HasCleanDisk mid = omega (arith, within.survives.clean) in
    on_read _ result why (on_ok result (one.inside early begun).was_open)

pub opens_stopped : {X V W : Type 0} (k : Kept X) (Is : List Row → V → Type 0) (AreBad : List Row → Type 0) (old new : State) (e : TableFault) (result : Result W TableFault) → IsErrAnd result (λ f. f ≡ e) → ReadsFrom k Is AreBad old new (Err e)
    → HasCleanDisk new → IsTrue old.in_transaction → OnRead result (IsTrue old.is_open)
opens_stopped {X} {V} {W} k Is AreBad old new e result is r clean begun =
    subst (λ (s : Result W TableFault). OnRead s (IsTrue old.is_open)) (sym (stopped_is e result is)) (on_read_weaker {T = W} (Err e) (λ stays. stays.was_open) (r.inside clean begun))
