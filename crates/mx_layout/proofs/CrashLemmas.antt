-- From one commit to the states that a crash may leave.
use Rattle.std.proofs.Common.{◌≡◌, ◌⊎◌, inl, inr, false, true, IsTrue, refl, sym, ap, subst, ◌∙◌, arith}
use Rattle.sqlite.specs.Schema.{Schema}
use Rattle.sqlite.specs.Store.{Ghosts}
use Rattle.sqlite.specs.Tree.{Trees}
use Rattle.sqlite.specs.Effect.{Database}
use Rattle.sqlite.specs.State.{State, HasCleanDisk, Shows, Survives, KeepsCommit, IsRolledBack}
use Rattle.sqlite.specs.Held.{Held, state}
use Rattle.sqlite.proofs.StateLemmas.{survives_then}
use Rattle.sqlite.proofs.InsideLemmas.{keeps_then}
use Rattle.mx_layout.specs.Crash.{Leaves, RestsAs, StaysInside, IsWithin, ChangesNothing}

-- the law of a store that while it is open a crash leaves the last commit
abbrev pub IsSettled : {S : Type 0} → Ghosts S → Type 0
IsSettled {S} g = (s : S) (db : Trees) → IsTrue (g.view s).is_open → g.recovers s db → db ≡ (g.view s).committed

module _ {S : Type 0} (g : Ghosts S) (from to : Schema) (P Q : Trees → Type 0) (old tx last : Held S) (begun : tx ≡ record old { in_transaction = true }) (rests : RestsAs (state g old) from P)
    (run : IsWithin (state g tx) (state g last)) where
  begins : RestsAs (state g tx) from P
  begins = let it : RestsAs (state g (record old { in_transaction = true })) from P = record { schema = rests.schema; tables = rests.tables; settled = rests.settled; crash = rests.crash } in
      subst (λ h. RestsAs (state g h) from P) (sym begun) it

  tx_open : IsTrue (state g tx).in_transaction
  tx_open = rw begun refl

  -- a transaction that is dropped, or rolled back by a failure, leaves all as it was
  pub dropped : (end : Held S) → Survives (state g last) (state g end) (λ _. ⊥) → (HasCleanDisk (state g end) → IsRolledBack (state g last) (state g end)) → RestsAs (state g end) from P
  dropped end drop back =
      let mid : HasCleanDisk (state g end) → HasCleanDisk (state g last) = λ clean. omega (arith, drop.clean) in
      let early : HasCleanDisk (state g end) → HasCleanDisk (state g tx) = λ clean. omega (arith, drop.clean, run.survives.clean) in
      let still : HasCleanDisk (state g end) → IsTrue (state g end).is_open → IsTrue (state g tx).is_open = λ clean is_open. (run.kept (mid clean) tx_open).was_open ((back clean).was_open is_open) in
      let same : (clean : HasCleanDisk (state g end)) → IsTrue (state g end).is_open → (state g end).now ≡ (state g tx).now =
      λ clean is_open. ((back clean).undone is_open).0 ∙ (run.kept (mid clean) tx_open).committed ((back clean).was_open is_open) ∙ sym (begins.settled (early clean) (still clean is_open)) in
      record {
        schema = λ clean is_open. ap (λ (d : Database). d.schema) (same clean is_open) ∙ begins.schema (early clean) (still clean is_open);
        tables = λ clean is_open. subst (λ (d : Database). P d.trees) (sym (same clean is_open)) (begins.tables (early clean) (still clean is_open));
        settled = λ clean is_open. ((back clean).undone is_open).0 ∙ sym ((back clean).undone is_open).1;
        crash = λ clean db may. elim (drop.crash clean db may) [
          | inl before ↦ elim (run.survives.crash (mid clean) db before) [ inl first ↦ begins.crash (early clean) db first | inr none ↦ absurd none ]
          | inr none ↦ absurd none
        ];
      }

  module _ (inside : HasCleanDisk (state g last) → IsTrue (state g tx).in_transaction → StaysInside (state g tx) (state g last))
      (makes : HasCleanDisk (state g last) → IsTrue (state g tx).in_transaction → (state g tx).now.schema ≡ from → P (state g tx).now.trees → ((state g last).now.schema ≡ to) × Q (state g last).now.trees) where
    -- the transaction, before its commit
    made : HasCleanDisk (state g last) → ((state g last).now.schema ≡ to) × Q (state g last).now.trees
    made clean =
        let within : IsTrue (state g tx).in_transaction = rw begun refl in
        let was_open = (inside clean within).was_open in
        let early : HasCleanDisk (state g tx) = omega (arith, run.survives.clean) in
        makes clean within (begins.schema early was_open) (begins.tables early was_open)

    module _ (end : Held S) (commit : Survives (state g last) (state g end) (λ db. db ≡ (state g last).now.trees)) where
      -- whatever the commit answers
      pub commits_either : Leaves (state g end) (λ db. P db ⊎ Q db)
      commits_either clean db may =
          let mid : HasCleanDisk (state g last) = omega (arith, commit.clean) in
          elim (commit.crash clean db may) [
            | inl before ↦ elim (run.survives.crash mid db before) [ inl first ↦ inl (begins.crash (omega (arith, run.survives.clean)) db first) | inr none ↦ absurd none ]
            | inr new ↦ inr (subst Q (sym new) (made mid).1)
          ]

      -- where it answers Ok
      pub commits_ok : IsSettled g → (HasCleanDisk (state g end) → Shows (state g last) (state g end) (state g last).now (state g last).now false) → RestsAs (state g end) to Q
      commits_ok settled shown =
          let mid : HasCleanDisk (state g end) → HasCleanDisk (state g last) = λ clean. omega (arith, commit.clean) in
          record {
            schema = λ clean _. ap (λ (d : Database). d.schema) (shown clean).now_is ∙ (made (mid clean)).0;
            tables = λ clean _. subst (λ (d : Database). Q d.trees) (sym (shown clean).now_is) (made (mid clean)).1;
            settled = λ clean _. (shown clean).now_is ∙ sym (shown clean).committed_is;
            crash = λ clean db may.
                let at = settled end.store db (shown clean).is_open may ∙ ap (λ (d : Database). d.trees) (shown clean).committed_is in
                subst Q (sym at) (made (mid clean)).1;
          }

pub within_then : (a b c : State) → IsWithin a b → (HasCleanDisk b → IsTrue a.in_transaction → IsTrue b.in_transaction) → IsWithin b c → IsWithin a c
within_then a b c one stays two = record {
  survives = survives_then a b c _ _ _ (λ _ db none. none) (λ _ db none. none) one.survives two.survives;
  kept = λ clean inside.
      let early : HasCleanDisk b = omega (arith, two.survives.clean) in
      keeps_then a b c (one.kept early inside) (two.kept clean (stays early inside));
}

pub stays_then : (a b c : State) → StaysInside a b → StaysInside b c → StaysInside a c
stays_then a b c one two = record { was_open = one.was_open; is_open = two.is_open; now_is = refl; committed_is = two.committed_is ∙ one.committed_is; mode = two.mode }

-- what holds of the tables alike where the disk is clean
pub rests_same : (s : State) (of : Schema) (P Q : Trees → Type 0) → (HasCleanDisk s → (db : Trees) → P db → Q db) → RestsAs s of P → RestsAs s of Q
rests_same s of P Q same r = record { schema = r.schema; tables = λ clean is_open. same clean s.now.trees (r.tables clean is_open); settled = r.settled; crash = λ clean db may. same clean db (r.crash clean db may) }

pub leaves_same : (s : State) (P Q : Trees → Type 0) → (HasCleanDisk s → (db : Trees) → P db → Q db) → Leaves s P → Leaves s Q
leaves_same s P Q same h clean db may = same clean db (h clean db may)

-- what rested before a call that changed nothing rests after it
pub rests_kept : (of : Schema) (P : Trees → Type 0) (old new : State) → ChangesNothing old new → RestsAs old of P → RestsAs new of P
rests_kept of P old new nothing rests =
    let early : HasCleanDisk new → HasCleanDisk old = λ clean. omega (arith, nothing.survives.clean) in
    let same : (clean : HasCleanDisk new) → IsTrue new.is_open → new.now ≡ old.now =
    λ clean is_open. nothing.now_is clean is_open ∙ sym (rests.settled (early clean) (nothing.was_open clean is_open)) in
    record {
      schema = λ clean is_open. ap (λ (d : Database). d.schema) (same clean is_open) ∙ rests.schema (early clean) (nothing.was_open clean is_open);
      tables = λ clean is_open. subst (λ (d : Database). P d.trees) (sym (same clean is_open)) (rests.tables (early clean) (nothing.was_open clean is_open));
      settled = λ clean is_open. nothing.now_is clean is_open ∙ sym (nothing.committed_is clean is_open);
      crash = λ clean db may. elim (nothing.survives.crash clean db may) [ inl before ↦ rests.crash (early clean) db before | inr none ↦ absurd none ];
    }

pub within_itself : (s : State) → IsWithin s s
within_itself s = record {
  survives = record { clean = omega arith; shield = λ h. h; counts = omega arith; limit = refl; closes = λ _ is_open. inl is_open; crash = λ _ db may. inl may };
  kept = λ _ _. record { was_open = λ is_open. is_open; committed = λ _. refl };
}

-- calls that kept the last commit, and then one that answered inside the transaction
pub stays_after : (a b c : State) → (HasCleanDisk b → KeepsCommit a b) → HasCleanDisk b → StaysInside b c → StaysInside a c
stays_after a b c kept clean stays = record {
  was_open = (kept clean).was_open stays.was_open;
  is_open = stays.is_open;
  now_is = refl;
  committed_is = stays.committed_is ∙ (kept clean).committed stays.was_open;
  mode = stays.mode;
}
