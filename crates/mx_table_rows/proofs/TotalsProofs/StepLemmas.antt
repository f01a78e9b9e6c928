-- Totals that are read one after another, and then written one after another.
use Rattle.std.proofs.Common.{◌≡◌, inl, ℕ, ◌<◌, List, [], ◌∷◌, ◌++◌, length, get_or, All, Any, Ok, Err, Result, OnOk, refl, sym, subst, arith}
use Rattle.std.specs.Prelude.{IsErrAnd, nat_eq}
use Rattle.std.specs.List.{IsDistinct}
use Rattle.std.proofs.lemmas.List.Elements.{All-nil, All-cons}
use Rattle.std.proofs.lemmas.List.Sorted.{IsPermutation-trans}
use Rattle.sqlite.specs.Order.{Row}
use Rattle.sqlite.specs.Effect.{Database}
use Rattle.sqlite.specs.State.{State, HasCleanDisk}
use Rattle.mx_base.specs.declared.amounts.Use.{Use}
use Rattle.mx_base.specs.declared.rows.rows.TotalRow.{TotalRow}
use Rattle.mx_layout.specs.declared.fault.TableFault.{TableFault}
use Rattle.mx_layout.specs.declared.fault.TableFault.TheVariants.{Memory}
use Rattle.mx_layout.specs.declared.fault.Table.TheVariants.{Total2}
use Rattle.mx_layout.specs.Contents.{rows_in, HasNoReferences, Rises}
use Rattle.mx_layout.specs.Crash.{IsWithin}
use Rattle.mx_layout.specs.Tables.{total2}
use Rattle.mx_layout.proofs.CrashLemmas.{within_then, within_itself, stays_then}
use Rattle.mx_layout.specs.kept.Cells.{kept_total2}
use Rattle.mx_table_rows.specs.totals.Calls.{change_where, Becomes, ReadsFrom, ChangesRows}
use Rattle.mx_table_rows.specs.totals.Totals.{is_of_any, credited, CanCredit, IsCredited, AreCredited, is_own_total, totals_put}
use Rattle.mx_table_rows.specs.totals.Steps.{ReadsTotals}
use Rattle.mx_table_rows.specs.totals.Puts.{PutsRows}
use Rattle.mx_table_rows.proofs.TotalsProofs.ReadLemmas.{stopped_is}
use Rattle.mx_layout.proofs.ReadLemmas.{on_ok}
use Rattle.mx_tables.proofs.InsertsProofs.SetLemmas.{on_weaker, on_read_weaker, stays_open}
use Rattle.mx_table_rows.proofs.TotalsProofs.KeepLemmas.{keeps_itself, keeps_then, unchanged_after, on_read, not_damaged, caused, at_damage}
use Rattle.mx_table_rows.proofs.TotalsProofs.CreditLemmas.{credited_put, credited_more}

-- ── read ──

module _ (added : Use) where
  pub none_read : (s : State) → ReadsTotals added [] (λ (xs : List TotalRow). xs) s s (Ok [])
  none_read s = record {
    rows = λ _ _. tt;
    cause = tt;
    damaged = λ _ _ is. (absurd cc);
    unchanged = λ _ _ is. (absurd cc);
    keeps = λ _ _. keeps_itself s;
    mode = λ _ begun. begun;
    inside = λ _ begun. stays_open s begun;
    within = within_itself s;
  }

  module _ (items : List ℕ) (xs : List TotalRow) (item : ℕ) (first old new : State) (so_far : ReadsTotals added items (λ (ys : List TotalRow). ys) first old (Ok xs)) where
    pub one_read : (x : TotalRow) → ReadsFrom kept_total2 (λ rows. IsCredited added rows item) (λ rows. ¬ CanCredit added rows item) old new (Ok x)
        → ReadsTotals added (items ++ item ∷ []) (λ (ys : List TotalRow). ys) first new (Ok (xs ++ x ∷ []))
    one_read x one =
        let early : HasCleanDisk new → HasCleanDisk old = λ clean. omega (arith, one.within.survives.clean) in
        let kept = λ (clean : HasCleanDisk new) (has : kept_total2.IsIn first.now.schema). so_far.keeps (early clean) has in
        let there = λ (clean : HasCleanDisk new) (has : kept_total2.IsIn first.now.schema). subst (λ (d : Database). kept_total2.IsIn d.schema) (sym (kept clean has).now_is) has in
        record {
          rows = λ clean has. credited_more added (rows_in total2 first.now.trees) items xs item x (so_far.rows (early clean) has)
              (subst (λ (d : Database). IsCredited added (rows_in total2 d.trees) item x) (kept clean has).now_is (one.value clean (there clean has)));
          cause = tt;
          damaged = λ _ _ is. (absurd cc);
          unchanged = λ _ _ is. (absurd cc);
          keeps = λ clean has. keeps_then first old new (kept clean has) (one.unchanged clean (there clean has));
          mode = λ clean begun. (one.inside clean (so_far.mode (early clean) begun)).mode;
          inside = λ clean begun. stays_then first old new (so_far.inside (early clean) begun) (one.inside clean (so_far.mode (early clean) begun.0));
          within = within_then first old new so_far.within so_far.mode one.within;
        }

    -- one of the items is damaged, or the call stopped
    pub one_unread : {V W : Type 0} (Is : List Row → V → Type 0) (all : List ℕ) (rows_of : W → List TotalRow) (i : ℕ) → i < length all → get_or all i item ≡ item → (e : TableFault) (result : Result W TableFault) → IsErrAnd result (λ f. f ≡ e)
        → ReadsFrom kept_total2 Is (λ rows. ¬ CanCredit added rows item) old new (Err e) → ReadsTotals added all rows_of first new result
    one_unread {V} {W} Is all rows_of i low here e result is one =
        let early : HasCleanDisk new → HasCleanDisk old = λ clean. omega (arith, one.within.survives.clean) in
        let kept = λ (clean : HasCleanDisk new) (has : kept_total2.IsIn first.now.schema). so_far.keeps (early clean) has in
        let there = λ (clean : HasCleanDisk new) (has : kept_total2.IsIn first.now.schema). subst (λ (d : Database). kept_total2.IsIn d.schema) (sym (kept clean has).now_is) has in
        subst (λ (r : Result W TableFault). ReadsTotals added all rows_of first new r) (sym (stopped_is e result is))
        (record {
          rows = λ _ _. tt;
          cause = one.cause;
          damaged = λ clean has same. (i, item, low, here, subst (λ (d : Database). ¬ CanCredit added (rows_in total2 d.trees) item) (kept clean has).now_is (one.damaged clean (there clean has) (cc)));
          unchanged = λ clean has same. unchanged_after first old new (kept clean has) (at_damage {T = V} (Err e) Total2 (cc) (one.unchanged clean (there clean has)));
          keeps = λ _ _. tt;
          mode = λ clean begun. on_read_weaker {T = W} (Err e) (λ stays. stays.mode) (one.inside clean (so_far.mode (early clean) begun));
          inside = λ clean begun. on_read_weaker {T = W} (Err e) (stays_then first old new (so_far.inside (early clean) begun)) (one.inside clean (so_far.mode (early clean) begun.0));
          within = within_then first old new so_far.within so_far.mode one.within;
        })

-- want of memory
pub memory_stops : {W : Type 0} (added : Use) (all : List ℕ) (rows_of : W → List TotalRow) (old new : State) (result : Result W TableFault) → result ≡ Err Memory → IsWithin old new → ReadsTotals added all rows_of old new result
memory_stops {W} added all rows_of old new result is within =
    subst (λ (r : Result W TableFault). ReadsTotals added all rows_of old new r) (sym is)
    (record { rows = λ _ _. tt; cause = inl refl; damaged = λ _ _ same. (absurd cc); unchanged = λ _ _ same. (absurd cc); keeps = λ _ _. tt; mode = λ _ _. tt; inside = λ _ _. tt; within = within })

-- ── read, and then written ──

all_can : (added : Use) (rows : List Row) (items : List ℕ) (xs : List TotalRow) → AreCredited added rows items xs → All (CanCredit added rows) items
all_can added rows [] [] all = All-nil (CanCredit added rows)
all_can added rows [] (x ∷ xs) all = absurd all
all_can added rows (item ∷ items) [] all = absurd all
all_can added rows (item ∷ items) (x ∷ xs) all = All-cons (CanCredit added rows) item items (all.0.was, all.0.can) (all_can added rows items xs all.1)

pub read_then_put : {V W : Type 0} (added : Use) (items : List ℕ) (rows_of : V → List TotalRow) (v : V) (old mid new : State) (result : Result W TableFault) → IsDistinct nat_eq items
    → ReadsTotals added items rows_of old mid (Ok v) → PutsRows kept_total2 is_own_total (rows_of v) mid new result
    → ChangesRows kept_total2 (change_where (is_of_any items) (credited added)) (λ rows. All (CanCredit added rows) items) (λ rows. Any (λ item. ¬ CanCredit added rows item) items) old new result
read_then_put {V} {W} added items rows_of v old mid new result distinct one two =
    let early : HasCleanDisk new → HasCleanDisk mid = λ clean. omega (arith, two.within.survives.clean) in
    record {
      becomes = λ clean begun has free rises. (let same = (one.keeps (early clean) has).now_is in
          let puts = two.becomes clean (one.mode (early clean) begun) (subst (λ (d : Database). kept_total2.IsIn d.schema) (sym same) has) (subst (λ (d : Database). HasNoReferences d.schema) (sym same) free) (subst (λ (d : Database). Rises total2 d.trees) (sym same) rises) in
          let before : OnOk result (Becomes total2 (totals_put (rows_of v)) old.now new.now) = subst (λ (d : Database). OnOk result (Becomes total2 (totals_put (rows_of v)) d new.now)) same puts in
          on_weaker result (λ b. record { schema = b.schema; rows = IsPermutation-trans _ _ _ (credited_put added items (rows_of v) (rows_in total2 old.now.trees) distinct (one.rows (early clean) has)) b.rows; others = b.others; rises = b.rises; sound = b.sound }) before);
      good = λ clean has. on_ok result (all_can added (rows_in total2 old.now.trees) items (rows_of v) (one.rows (early clean) has));
      cause = caused result Total2 two.cause;
      damaged = λ _ _ is. absurd (not_damaged result Total2 two.cause is);
      unchanged = λ _ _ is. absurd (not_damaged result Total2 two.cause is);
      mode = λ clean begun. on_read _ result two.cause (two.mode clean (one.mode (early clean) begun));
      inside = λ clean begun. (let stays = one.inside (early clean) begun in on_read _ result two.cause (on_weaker result (stays_then old mid new stays) (two.inside clean (stays.mode, stays.is_open))));
      within = within_then old mid new one.within one.mode two.within;
    }

pub totals_unread : {V W : Type 0} (added : Use) (items : List ℕ) (rows_of : V → List TotalRow) (old new : State) (e : TableFault) (result : Result W TableFault) → IsErrAnd result (λ f. f ≡ e) → ReadsTotals added items rows_of old new (Err e)
    → ChangesRows kept_total2 (change_where (is_of_any items) (credited added)) (λ rows. All (CanCredit added rows) items) (λ rows. Any (λ item. ¬ CanCredit added rows item) items) old new result
totals_unread {V} {W} added items rows_of old new e result is one =
    subst (λ (r : Result W TableFault). ChangesRows kept_total2 (change_where (is_of_any items) (credited added)) (λ rows. All (CanCredit added rows) items) (λ rows. Any (λ item. ¬ CanCredit added rows item) items) old new r) (sym (stopped_is e result is))
    (record {
      becomes = λ _ _ _ _ _. tt;
      good = λ _ _. tt;
      cause = one.cause;
      damaged = λ clean has same. one.damaged clean has (cc);
      unchanged = λ clean has same. one.unchanged clean has (cc);
      mode = one.mode;
      inside = one.inside;
      within = one.within;
    })
