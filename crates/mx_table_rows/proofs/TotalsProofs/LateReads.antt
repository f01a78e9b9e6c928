-- Calls one after another that read some tables.
use Rattle.std.proofs.Common.{◌≡◌, ◌⊎◌, inl, inr, List, Ok, Err, Result, IfOk, refl, sym, subst, ◌∙◌, arith}
use Rattle.std.specs.Prelude.{IsErrAnd}
use Rattle.sqlite.specs.Order.{Row}
use Rattle.sqlite.specs.Schema.{Schema}
use Rattle.sqlite.specs.Tree.{Trees}
use Rattle.sqlite.specs.Effect.{Database}
use Rattle.sqlite.specs.State.{State, HasCleanDisk, IsUnchanged}
use Rattle.mx_layout.specs.TableName.{TableName}
use Rattle.mx_layout.specs.declared.fault.TableFault.{TableFault}
use Rattle.mx_layout.specs.declared.fault.TableFault.TheVariants.{Memory, Store, NotOurs, Exists, Damaged}
use Rattle.mx_layout.specs.Contents.{rows_in}
use Rattle.mx_layout.specs.Crash.{IsWithin}
use Rattle.mx_layout.specs.Names.{table_named}
use Rattle.mx_layout.specs.kept.Cells.{kept_done3}
use Rattle.mx_layout.specs.kept.Kept.{Kept}
use Rattle.mx_layout.proofs.CrashLemmas.{within_then, within_itself, stays_then}
use Rattle.mx_tables.proofs.InsertsProofs.SetLemmas.{on_weaker, on_read_weaker, stays_open}
use Rattle.mx_table_rows.specs.totals.Calls.{ReadsFrom}
use Rattle.mx_table_rows.specs.totals.Late.{IsLateFault}
use Rattle.mx_table_rows.specs.totals.LateSteps.{OfDamaged, ReadsLate}
use Rattle.mx_table_rows.specs.totals.Steps.{Keeps}
use Rattle.mx_table_rows.proofs.TotalsProofs.KeepLemmas.{keeps_itself, keeps_then, unchanged_after}
use Rattle.mx_table_rows.proofs.TotalsProofs.ReadLemmas.{stopped_is}

-- ── what a call answered ──

pub if_ok_weaker : {T E : Type 0} (r : Result T E) (P Q : T → Type 0) → ((v : T) → P v → Q v) → IfOk r P → IfOk r Q
if_ok_weaker (Ok v) P Q f h = f v h
if_ok_weaker (Err e) P Q f h = tt

pub damaged_weaker : {T : Type 0} (r : Result T TableFault) (P Q : TableName → Type 0) → ((t : TableName) → P t → Q t) → OfDamaged r P → OfDamaged r Q
damaged_weaker (Ok v) P Q f h = tt
damaged_weaker (Err Memory) P Q f h = tt
damaged_weaker (Err Store) P Q f h = tt
damaged_weaker (Err NotOurs) P Q f h = tt
damaged_weaker (Err Exists) P Q f h = tt
damaged_weaker (Err (Damaged t)) P Q f h = f t h

-- what holds of the table that a call told damaged
pub told : {T : Type 0} (r : Result T TableFault) (t : TableName) (P : TableName → Type 0) → r ≡ Err (Damaged t) → OfDamaged r P → P t
told {T} r t P is h = let Of = λ (s : Result T TableFault). OfDamaged s P in subst Of is h

keeps_both : (a b c : State) → Keeps a b → Keeps b c → Keeps a c
keeps_both a b c one two = record {
  was_open = λ is_open. one.was_open (two.was_open is_open);
  now_is = two.now_is ∙ one.now_is;
  committed_is = two.committed_is ∙ one.committed_is;
  mode = two.mode ∙ one.mode;
  counts = record { changes = two.counts.changes ∙ one.counts.changes; last_rowid = two.counts.last_rowid ∙ one.counts.last_rowid };
  marks = two.marks ∙ one.marks;
}

-- ── one call ──

-- nothing was read
pub reads_nothing : {V : Type 0} (Is : Trees → V → Type 0) (IsBad : Trees → TableName → Type 0) (s : State) (v : V) → Is s.now.trees v → ReadsLate Is IsBad s s (Ok v)
reads_nothing Is IsBad s v is = record {
  value = λ _ _. is;
  cause = tt;
  damaged = λ _ _. tt;
  unchanged = λ _ _. tt;
  keeps = λ _ _. keeps_itself s;
  mode = λ _ begun. begun;
  inside = λ _ begun. stays_open s begun;
  within = within_itself s;
}

-- something else is made of what was read
pub read_as : {V W : Type 0} (Is : Trees → V → Type 0) (As : Trees → W → Type 0) (IsBad IsWorse : Trees → TableName → Type 0) (old new : State) (v : V) (w : W)
    → ((trees : Trees) → Is trees v → As trees w) → ReadsLate Is IsBad old new (Ok v) → ReadsLate As IsWorse old new (Ok w)
read_as Is As IsBad IsWorse old new v w turned r = record {
  value = λ clean has. turned old.now.trees (r.value clean has);
  cause = tt;
  damaged = λ _ _. tt;
  unchanged = λ _ _. tt;
  keeps = r.keeps;
  mode = r.mode;
  inside = r.inside;
  within = r.within;
}

-- the call stopped
pub stops_late : {V W : Type 0} (Is : Trees → V → Type 0) (As : Trees → W → Type 0) (IsBad IsWorse : Trees → TableName → Type 0) (old new : State) (e : TableFault) (result : Result W TableFault) → IsErrAnd result (λ f. f ≡ e)
    → ((trees : Trees) (t : TableName) → IsBad trees t → IsWorse trees t) → ReadsLate Is IsBad old new (Err e) → ReadsLate As IsWorse old new result
stops_late {V} {W} Is As IsBad IsWorse old new e result is worse r =
    subst (λ (s : Result W TableFault). ReadsLate As IsWorse old new s) (sym (stopped_is e result is))
    (record {
      value = λ _ _. tt;
      cause = r.cause;
      damaged = λ clean has. damaged_weaker {T = W} (Err e) (IsBad old.now.trees) (IsWorse old.now.trees) (worse old.now.trees) (r.damaged clean has);
      unchanged = r.unchanged;
      keeps = λ _ _. tt;
      mode = r.mode;
      inside = r.inside;
      within = r.within;
    })

-- want of memory
pub late_memory : {V W : Type 0} (Is : Trees → V → Type 0) (As : Trees → W → Type 0) (IsBad IsWorse : Trees → TableName → Type 0) (old new : State) (v : V) (result : Result W TableFault) → result ≡ Err Memory → ReadsLate Is IsBad old new (Ok v) → ReadsLate As IsWorse old new result
late_memory {V} {W} Is As IsBad IsWorse old new v result is r =
    subst (λ (s : Result W TableFault). ReadsLate As IsWorse old new s) (sym is)
    (record { value = λ _ _. tt; cause = inl refl; damaged = λ _ _. tt; unchanged = λ _ _. tt; keeps = λ _ _. tt; mode = λ _ _. tt; inside = λ _ _. tt; within = r.within })

-- ── a read of one table ──

module _ {X V : Type 0} (k : Kept X) (Is : List Row → V → Type 0) (AreBad : List Row → Type 0) (IsBad : Trees → TableName → Type 0) (here : (s : Schema) → kept_done3.IsIn s → k.IsIn s) (may : IsLateFault (Damaged k.name))
    (bad : (trees : Trees) → AreBad (rows_in (table_named k.name) trees) → IsBad trees k.name) (old new : State) where
  abbrev Made : Trees → V → Type 0
  Made trees v = Is (rows_in (table_named k.name) trees) v

  pub of_table_ok : (v : V) → ReadsFrom k Is AreBad old new (Ok v) → ReadsLate Made IsBad old new (Ok v)
  of_table_ok v r = record {
    value = λ clean has. r.value clean (here old.now.schema has);
    cause = tt;
    damaged = λ _ _. tt;
    unchanged = λ _ _. tt;
    keeps = λ clean has. keeps_then old old new (keeps_itself old) (r.unchanged clean (here old.now.schema has));
    mode = λ clean begun. (r.inside clean begun).mode;
    inside = λ clean begun. r.inside clean begun.0;
    within = r.within;
  }

  stopped : (e : TableFault) → (e ≡ Memory) ⊎ (e ≡ Store) → IsWithin old new → ReadsLate Made IsBad old new (Err e)
  stopped e (inl memory) within = subst (λ f. ReadsLate Made IsBad old new (Err f)) (sym memory)
      (record { value = λ _ _. tt; cause = inl refl; damaged = λ _ _. tt; unchanged = λ _ _. tt; keeps = λ _ _. tt; mode = λ _ _. tt; inside = λ _ _. tt; within = within })
  stopped e (inr store) within = subst (λ f. ReadsLate Made IsBad old new (Err f)) (sym store)
      (record { value = λ _ _. tt; cause = inr (inl refl); damaged = λ _ _. tt; unchanged = λ _ _. tt; keeps = λ _ _. tt; mode = λ _ _. tt; inside = λ _ _. tt; within = within })

  told_bad : ReadsFrom k Is AreBad old new (Err (Damaged k.name)) → ReadsLate Made IsBad old new (Err (Damaged k.name))
  told_bad r = record {
    value = λ _ _. tt;
    cause = may;
    damaged = λ clean has. bad old.now.trees (r.damaged clean (here old.now.schema has) refl);
    unchanged = λ clean has. r.unchanged clean (here old.now.schema has);
    keeps = λ _ _. tt;
    mode = λ clean begun. (r.inside clean begun).mode;
    inside = λ clean begun. r.inside clean begun.0;
    within = r.within;
  }

  of_table_caused : (e : TableFault) → (e ≡ Memory) ⊎ ((e ≡ Store) ⊎ (e ≡ Damaged k.name)) → ReadsFrom k Is AreBad old new (Err e) → ReadsLate Made IsBad old new (Err e)
  of_table_caused e (inl memory) r = stopped e (inl memory) r.within
  of_table_caused e (inr (inl store)) r = stopped e (inr store) r.within
  of_table_caused e (inr (inr damaged)) r =
      subst (λ f. ReadsLate Made IsBad old new (Err f)) (sym damaged) (told_bad (subst (λ f. ReadsFrom k Is AreBad old new (Err f)) damaged r))

  pub of_table_err : (e : TableFault) → ReadsFrom k Is AreBad old new (Err e) → ReadsLate Made IsBad old new (Err e)
  of_table_err e r = of_table_caused e r.cause r

-- what was read is found to be bad
pub late_worse : {X V W : Type 0} (k : Kept X) (Is : List Row → V → Type 0) (AreBad : List Row → Type 0) (As : Trees → W → Type 0) (IsBad : Trees → TableName → Type 0) (here : (s : Schema) → kept_done3.IsIn s → k.IsIn s) (old new : State) (v : V) (t : TableName) → IsLateFault (Damaged t)
    → ((trees : Trees) → Is (rows_in (table_named k.name) trees) v → IsBad trees t) → ReadsFrom k Is AreBad old new (Ok v) → ReadsLate As IsBad old new (Err (Damaged t))
late_worse k Is AreBad As IsBad here old new v t may worse r = record {
  value = λ _ _. tt;
  cause = may;
  damaged = λ clean has. worse old.now.trees (r.value clean (here old.now.schema has));
  unchanged = λ clean has. r.unchanged clean (here old.now.schema has);
  keeps = λ _ _. tt;
  mode = λ clean begun. (r.inside clean begun).mode;
  inside = λ clean begun. r.inside clean begun.0;
  within = r.within;
}

-- ── one call after another ──

pub reads_then : {V W : Type 0} (Is : Trees → V → Type 0) (As Made : Trees → W → Type 0) (IsBad AreBad IsWorse : Trees → TableName → Type 0) (a b c : State) (v : V) (r : Result W TableFault)
    → ((trees : Trees) (w : W) → Is trees v → As trees w → Made trees w) → ((trees : Trees) (t : TableName) → Is trees v → AreBad trees t → IsWorse trees t)
    → ReadsLate Is IsBad a b (Ok v) → ReadsLate As AreBad b c r → ReadsLate Made IsWorse a c r
reads_then {V} {W} Is As Made IsBad AreBad IsWorse a b c v r made worse one two =
    let early : HasCleanDisk c → HasCleanDisk b = λ clean. omega (arith, two.within.survives.clean) in
    let kept = λ (clean : HasCleanDisk c) (has : kept_done3.IsIn a.now.schema). one.keeps (early clean) has in
    let there = λ (clean : HasCleanDisk c) (has : kept_done3.IsIn a.now.schema). subst (λ (d : Database). kept_done3.IsIn d.schema) (sym (kept clean has).now_is) has in
    record {
      value = λ clean has. if_ok_weaker r (As a.now.trees) (Made a.now.trees) (λ w. made a.now.trees w (one.value (early clean) has))
          (subst (λ (d : Database). IfOk r (As d.trees)) (kept clean has).now_is (two.value clean (there clean has)));
      cause = two.cause;
      damaged = λ clean has. damaged_weaker r (AreBad a.now.trees) (IsWorse a.now.trees) (λ t. worse a.now.trees t (one.value (early clean) has))
          (subst (λ (d : Database). OfDamaged r (AreBad d.trees)) (kept clean has).now_is (two.damaged clean (there clean has)));
      unchanged = λ clean has. damaged_weaker r (λ _. IsUnchanged b c) (λ _. IsUnchanged a c) (λ _. unchanged_after a b c (kept clean has)) (two.unchanged clean (there clean has));
      keeps = λ clean has. on_weaker r (keeps_both a b c (kept clean has)) (two.keeps clean (there clean has));
      mode = λ clean begun. two.mode clean (one.mode (early clean) begun);
      inside = λ clean begun. (let stays = one.inside (early clean) begun in on_read_weaker r (stays_then a b c stays) (two.inside clean (stays.mode, stays.is_open)));
      within = within_then a b c one.within one.mode two.within;
    }
