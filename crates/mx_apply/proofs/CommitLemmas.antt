-- From what becomes of a command inside a transaction to its commit.
use Rattle.std.proofs.Common.{◌≡◌, ◌≢◌, inl, inr, true, false, ℕ, List, [], ◌∷◌, ◌++◌, Ok, Err, Result, IsTrue, refl, sym, subst, ◌∙◌, arith}
use Rattle.std.specs.Prelude.{IfErr, IfOk, MatchResult}
use Rattle.sqlite.specs.Store.{Ghosts}
use Rattle.sqlite.specs.Schema.{Schema}
use Rattle.sqlite.specs.Tree.{Trees}
use Rattle.sqlite.specs.Effect.{Database}
use Rattle.sqlite.specs.State.{State, HasCleanDisk, Shows, Survives, IsRolledBack}
use Rattle.sqlite.specs.Held.{Held, state}
use Rattle.sqlite.proofs.Callers.{survives_begin}
use Rattle.sqlite.proofs.StateLemmas.{survives_then}
use Rattle.mx_book.specs.commands.Act.{Entry}
use Rattle.mx_book.specs.Run.{reply}
use Rattle.mx_book.specs.declared.verdict.Reply.{Reply}
use Rattle.mx_book.specs.declared.verdict.Reply.TheVariants as answers
use Rattle.mx_layout.specs.declared.fault.TableFault.{TableFault}
use Rattle.mx_layout.specs.declared.fault.TableFault.TheVariants as fault
use Rattle.mx_layout.specs.Crash.{ChangesNothing, Leaves, StaysInside}
use Rattle.mx_layout.proofs.CrashLemmas.{IsSettled as StoreSettles, commits_either, commits_ok, dropped}
use Rattle.mx_tables.specs.Calls.{OnDamaged, OnRead}
use Rattle.mx_tables.specs.inserts.Sets.{GainsRows}
use Rattle.mx_lookups.specs.numbers.Told.{Damage, TellsDamage}
use Rattle.mx_apply.specs.writing.Written.{IsSettled, with_rows}
use Rattle.mx_apply.specs.Applies.{Applies, HasOneCommit, IsEitherIn, IsNoDamage, ReplyOf, RestsIn, Runs, StandsIn, behind}
use Rattle.mx_apply.proofs.WritingProofs.ThereLemmas.{in_settled}

-- a reply that is no acceptance leaves the book
left : (book : List Entry) (command : Entry) (a : Reply) → ((seq : ℕ) → a ≢ answers.Accepted seq) → behind book command a ≡ book
left book command (answers.Accepted seq) never = absurd (never seq refl)
left book command (answers.Already seq) never = refl
left book command (answers.Refused refusal) never = refl

-- a call that answered inside a transaction found the connection open
open_of : {V : Type 0} (old new : State) (result : Result V TableFault) → OnRead result (StaysInside old new) → OnRead result (IsTrue old.is_open)
open_of old new (Ok v) stays = stays.was_open
open_of old new (Err fault.Memory) stays = tt
open_of old new (Err fault.Store) stays = tt
open_of old new (Err fault.NotOurs) stays = tt
open_of old new (Err fault.Exists) stays = tt
open_of old new (Err (fault.Damaged name)) stays = stays.was_open

module _ {S : Type 0} (g : Ghosts S) (old last : Held S) (command : Entry) where
  abbrev begun : Held S
  begun = record old { in_transaction = true }

  -- the tables with the rows of the command, which a crash may leave
  abbrev Leftover : Trees → Type 0
  Leftover = HasOneCommit command (state g old)

  abbrev stands : Schema → List Entry → Trees → Type 0
  stands schema book = λ trees. StandsIn schema trees book

  module _ (end : Held S) where
    -- ── the transaction was dropped ──

    module _ (drop : Survives (state g last) (state g end) (λ _. ⊥)) (back : HasCleanDisk (state g end) → IsRolledBack (state g last) (state g end)) where
      mid : HasCleanDisk (state g end) → HasCleanDisk (state g last)
      mid clean = omega (arith, drop.clean)

      module _ (result : Result Reply TableFault) (runs : Runs command (state g begun) (state g last) result) where
        early : HasCleanDisk (state g end) → HasCleanDisk (state g old)
        early clean = omega (arith, drop.clean, runs.within.survives.clean)

        nothing : ChangesNothing (state g old) (state g end)
        nothing = record {
          survives = survives_begin g old (state g end) (λ _. ⊥) (survives_then (state g begun) (state g last) (state g end) (λ _. ⊥) (λ _. ⊥) (λ _. ⊥) (λ _ _ none. none) (λ _ _ none. none) runs.within.survives drop);
          was_open = λ clean is_open. (runs.within.kept (mid clean) refl).was_open ((back clean).was_open is_open);
          now_is = λ clean is_open. ((back clean).undone is_open).0 ∙ (runs.within.kept (mid clean) refl).committed ((back clean).was_open is_open);
          committed_is = λ clean is_open. ((back clean).undone is_open).1 ∙ (runs.within.kept (mid clean) refl).committed ((back clean).was_open is_open);
        }

        rest : (schema : Schema) (book : List Entry) → RestsIn schema (state g old) book → RestsIn schema (state g end) book
        rest schema book rests = dropped g schema schema (stands schema book) (stands schema book) old begun last refl rests runs.within end drop back

        pub dropped_tells : {Of : Damage} → TellsDamage Of (state g begun) (state g last) result → TellsDamage Of (state g old) (state g end) result
        dropped_tells tells = record { told = λ clean has. tells.told (mid clean) has }

        pub dropped_survives : Survives (state g old) (state g end) Leftover
        dropped_survives = survives_begin g old (state g end) _ (survives_then (state g begun) (state g last) (state g end) _ _ _ (λ _ trees none. absurd none) (λ _ trees none. absurd none) runs.within.survives drop)

        -- what was said inside the transaction, where it found the connection open
        ran : (schema : Schema) → IsSettled schema → (book : List Entry) → RestsIn schema (state g old) book → HasCleanDisk (state g end) → IsTrue (state g begun).is_open
            → MatchResult result (λ a. (a ≡ reply book command) × ((state g last).now.schema ≡ schema) × StandsIn schema (state g last).now.trees (behind book command a)) IsNoDamage
        ran schema settled book rests clean opened = runs.ran (mid clean) refl schema settled book (rests.schema (early clean) opened) (rests.tables (early clean) opened)

        drops : ((seq : ℕ) → result ≢ Ok (answers.Accepted seq)) → ((schema : Schema) → IsSettled schema → (book : List Entry) → RestsIn schema (state g old) book → HasCleanDisk (state g end) → MatchResult result (λ a. a ≡ reply book command) IsNoDamage)
            → ((schema : Schema) → IsSettled schema → (book : List Entry) → RestsIn schema (state g old) book → IfOk result (λ a. RestsIn schema (state g end) (behind book command a)))
            → ((schema : Schema) → IsSettled schema → (book : List Entry) → RestsIn schema (state g old) book → IfErr result (λ e. e ≢ fault.Store → RestsIn schema (state g end) book)) → Applies command (state g old) (state g end) result
        drops never said kept same = record {
          clean = omega (arith, drop.clean, runs.within.survives.clean);
          cause = runs.cause;
          judged = λ clean has. runs.judged (mid clean) has;
          untouched = λ _. nothing;
          was_open = λ clean. open_of (state g begun) (state g last) result (runs.inside (mid clean) refl);
          damaged = λ clean has. runs.damaged (mid clean) has;
          written = λ _ seq is. absurd (never seq is);
          said = said;
          kept = kept;
          same = same;
          crash = λ schema settled book rests clean db may. inl ((rest schema book rests).crash clean db may);
        }

      -- a reply that is no acceptance
      pub tells : (a : Reply) → ((seq : ℕ) → a ≢ answers.Accepted seq) → Runs command (state g begun) (state g last) (Ok a) → Applies command (state g old) (state g end) (Ok a)
      tells a never runs =
          drops (Ok a) runs (λ seq is. never seq (let same : a ≡ answers.Accepted seq = cc in same)) (λ schema settled book rests clean. (ran (Ok a) runs schema settled book rests clean (runs.inside (mid clean) refl).was_open).0)
          (λ schema _ book rests. subst (λ b. RestsIn schema (state g end) b) (sym (left book command a never)) (rest (Ok a) runs schema book rests)) (λ _ _ _ _. tt)

      -- a fault
      pub stops : (e : TableFault) → Runs command (state g begun) (state g last) (Err e) → Applies command (state g old) (state g end) (Err e)
      stops e runs =
          drops (Err e) runs (λ seq is. absurd cc) (λ schema settled book rests clean. elim runs.cause [
            | inl memory ↦ inl memory
            | inr other ↦ elim other [
              | inl store ↦ inr store
              | inr damaged ↦ ran (Err e) runs schema settled book rests clean (subst (λ f. OnDamaged f (StaysInside (state g begun) (state g last))) damaged.1 (runs.inside (mid clean) refl)).was_open
            ]
          ]) (λ _ _ _ _. tt) (λ schema _ book rests _. rest (Err e) runs schema book rests)

    -- ── the commit was asked for ──

    module _ (seq : ℕ) (runs : Runs command (state g begun) (state g last) (Ok (answers.Accepted seq))) (commit : Survives (state g last) (state g end) (λ db. db ≡ (state g last).now.trees)) where
      late : HasCleanDisk (state g end) → HasCleanDisk (state g last)
      late clean = omega (arith, commit.clean)

      first : HasCleanDisk (state g end) → HasCleanDisk (state g old)
      first clean = omega (arith, commit.clean, runs.within.survives.clean)

      opened : HasCleanDisk (state g last) → IsTrue (state g old).is_open
      opened clean = (runs.inside clean refl).was_open

      made : (schema : Schema) → IsSettled schema → (book : List Entry) → HasCleanDisk (state g last) → IsTrue (state g begun).in_transaction → (state g begun).now.schema ≡ schema → StandsIn schema (state g begun).now.trees book
          → ((state g last).now.schema ≡ schema) × StandsIn schema (state g last).now.trees (book ++ command ∷ [])
      made schema settled book clean within has stood = (let it = runs.ran clean within schema settled book has stood in (it.1, it.2))

      either : (schema : Schema) → IsSettled schema → (book : List Entry) → RestsIn schema (state g old) book → Leaves (state g end) (IsEitherIn schema book (book ++ command ∷ []))
      either schema settled book rests = commits_either g schema schema (stands schema book) (stands schema (book ++ command ∷ [])) old begun last refl rests runs.within runs.inside (made schema settled book) end commit

      -- what a crash may leave of it
      may : HasCleanDisk (state g last) → Leftover (state g last).now.trees
      may clean = (let it = runs.wrote clean refl in (it.0, it.1, record { was_open = opened clean; tables = λ is rise name there. (it.3 is rise).tables name (in_settled (state g old).now.schema is name there) }, λ is. subst (λ n. ReplyOf command (state g old).now.trees (answers.Accepted n)) (sym it.2) (runs.judged clean is)))

      pub commit_survives : Survives (state g old) (state g end) Leftover
      commit_survives = survives_begin g old (state g end) _ (survives_then (state g begun) (state g last) (state g end) _ _ _ (λ _ trees none. absurd none)
          (λ sure trees is. (let clean : HasCleanDisk (state g last) = omega (arith, commit.clean) in subst Leftover (sym is) (may clean))) runs.within.survives commit)

      -- whether it was kept is not known
      pub in_doubt : Applies command (state g old) (state g end) (Err fault.Store)
      in_doubt = record {
        clean = omega (arith, commit.clean, runs.within.survives.clean);
        cause = inr (inl refl);
        judged = λ _ _. tt;
        untouched = λ idle. absurd (idle.store refl);
        was_open = λ _. tt;
        damaged = λ _ _ name is. cc;
        written = λ _ _ is. absurd cc;
        said = λ _ _ _ _ _. inr refl;
        kept = λ _ _ _ _. tt;
        same = λ _ _ _ _ other. absurd (other refl);
        crash = either;
      }

      pub commits : StoreSettles g → (HasCleanDisk (state g end) → Shows (state g last) (state g end) (state g last).now (state g last).now false) → Applies command (state g old) (state g end) (Ok (answers.Accepted seq))
      commits settled shown = record {
        clean = omega (arith, commit.clean, runs.within.survives.clean);
        cause = tt;
        judged = λ clean has. runs.judged (late clean) has;
        untouched = λ idle. absurd (idle.accepted seq refl);
        was_open = λ clean. opened (late clean);
        damaged = λ _ _ name is. cc;
        written = λ clean n is.
            let it = runs.wrote (late clean) refl in
            let same : seq ≡ n = cc in (
              it.0,
              it.1,
              it.2 ∙ same,
              record {
                was_open = opened (late clean);
                settled = (shown clean).now_is ∙ sym (shown clean).committed_is;
                gains = λ has rise. subst (λ (d : Database). GainsRows (with_rows it.0) (state g old).now d) (sym (shown clean).now_is) (it.3 has rise);
              },
            );
        said = λ schema settled book rests clean. (runs.ran (late clean) refl schema settled book (rests.schema (first clean) (opened (late clean))) (rests.tables (first clean) (opened (late clean)))).0;
        kept = λ schema is book rests. commits_ok g schema schema (stands schema book) (stands schema (book ++ command ∷ [])) old begun last refl rests runs.within runs.inside (made schema is book) end commit settled shown;
        same = λ _ _ _ _. tt;
        crash = either;
      }
