-- What is looked at inside a transaction, one thing after another.
use Rattle.std.proofs.Common.{◌≡◌, inl, Ok, Err, Result, refl, sym, ap, subst, arith}
use Rattle.std.specs.Prelude.{IsErrAnd, IfOk}
use Rattle.std.proofs.lemmas.Result.{IfOk-weaker}
use Rattle.sqlite.specs.Effect.{Database}
use Rattle.sqlite.specs.State.{State, HasCleanDisk, IsUnchanged}
use Rattle.sqlite.specs.Tree.{Trees}
use Rattle.sqlite.proofs.Callers.{unchanged_then}
use Rattle.mx_layout.specs.declared.fault.TableFault.{TableFault}
use Rattle.mx_layout.specs.declared.fault.TableFault.TheVariants as fault
use Rattle.mx_layout.proofs.CrashLemmas.{stays_then, within_then}
use Rattle.mx_tables.proofs.InsertsProofs.SetLemmas.{on_read_weaker}
use Rattle.mx_book_tables.specs.reading.Layout.{HasTables}
use Rattle.mx_book_tables.specs.reading.Damage.{HasBadRow}
use Rattle.mx_book_tables.specs.reading.Looks.{Looks}

-- what was not answered is not answered to anything
stops : {V W : Type 0} (P : Trees → V → Type 0) (Q : Trees → W → Type 0) (old new : State) (e : TableFault) → Looks P old new (Err e) → Looks Q old new (Err e)
stops P Q old new e r = record {
  found = λ _ _. tt;
  cause = r.cause;
  damaged = λ clean has name is. r.damaged clean has name (let same : e ≡ fault.Damaged name = cc in ap Err same);
  unchanged = r.unchanged;
  inside = r.inside;
  within = r.within;
}

-- the fault is handed on
pub stopped : {V W : Type 0} (P : Trees → V → Type 0) (Q : Trees → W → Type 0) (old new : State) (e : TableFault) (result : Result W TableFault) → IsErrAnd result (λ f. f ≡ e) → Looks P old new (Err e) → Looks Q old new result
stopped P Q old new e (Ok w) is r = absurd is
stopped P Q old new e (Err f) is r = stops P Q old new f (subst (λ x. Looks P old new (Err x)) (sym is) r)

-- what follows from what is answered
pub told : {V W : Type 0} (P : Trees → V → Type 0) (Q : Trees → W → Type 0) (old new : State) (v : V) (w : W) → ((trees : Trees) → P trees v → Q trees w) → Looks P old new (Ok v) → Looks Q old new (Ok w)
told P Q old new v w so r = record {
  found = λ clean has. so old.now.trees (r.found clean has);
  cause = λ clean. tt;
  damaged = λ clean has name is. absurd cc;
  unchanged = r.unchanged;
  inside = r.inside;
  within = r.within;
}

-- memory ran out behind what was answered
pub no_memory : {V W : Type 0} (P : Trees → V → Type 0) (Q : Trees → W → Type 0) (old new : State) (v : V) (result : Result W TableFault) → IsErrAnd result (λ f. f ≡ fault.Memory) → Looks P old new (Ok v) → Looks Q old new result
no_memory P Q old new v (Ok w) is r = absurd is
no_memory {V} {W} P Q old new v (Err e) is r =
    subst (λ (f : TableFault). Looks Q old new (Err f)) (sym is)
    (record {
      found = λ _ _. tt;
      cause = λ clean. inl (inl refl);
      damaged = λ clean has name same. absurd cc;
      unchanged = λ _ _. tt;
      inside = λ _ _. tt;
      within = r.within;
    })

-- one thing behind another
pub looks_then : {V W : Type 0} (P : Trees → V → Type 0) (Q : Trees → W → Type 0) (a b c : State) (v : V) (result : Result W TableFault) → Looks P a b (Ok v) → Looks Q b c result → Looks (λ trees w. P trees v × Q trees w) a c result
looks_then P Q a b c v result one two =
    let early : HasCleanDisk c → HasCleanDisk b = λ clean. omega (arith, two.within.survives.clean) in
    let same : HasCleanDisk c → HasTables a.now.schema → IsUnchanged a b = λ clean has. one.unchanged (early clean) has in
    let has_too : HasCleanDisk c → HasTables a.now.schema → HasTables b.now.schema = λ clean has. subst (λ (d : Database). HasTables d.schema) (sym (same clean has).0.now_is) has in
    record {
      found = λ clean has. IfOk-weaker result (Q a.now.trees) _ (λ w q. (one.found (early clean) has, q)) (subst (λ (d : Database). IfOk result (Q d.trees)) (same clean has).0.now_is (two.found clean (has_too clean has)));
      cause = two.cause;
      damaged = λ clean has name is. subst (λ (d : Database). HasBadRow d.trees name) (same clean has).0.now_is (two.damaged clean (has_too clean has) name is);
      unchanged = λ clean has. on_read_weaker result (unchanged_then a b c (same clean has)) (two.unchanged clean (has_too clean has));
      inside = λ clean begun. (let stays = one.inside (early clean) begun in on_read_weaker result (stays_then a b c stays) (two.inside clean stays.mode));
      within = within_then a b c one.within (λ clean begun. (one.inside clean begun).mode) two.within;
    }
