-- What is found where a database is opened again.
use Rattle.std.proofs.Common.{◌≡◌, inl, inr, refl, sym, ap, subst, ◌∙◌}
use Rattle.std.proofs.Math.Logic.{∥∥₁_map}
use Rattle.sqlite_disk.specs.declared.Disk.{Ghosts}
use Rattle.sqlite_wal.specs.Recovery.{Image}
use Rattle.sqlite_wal.proofs.LogLemmas.{SeenMayStay}
use Rattle.sqlite_trees.specs.Tree.{Trees}
use Rattle.sqlite_catalog.specs.Listing.{IsSound}
use Rattle.sqlite_catalog.proofs.ReadLemmas.{lists_once}
use Rattle.sqlite_store.specs.declared.store.FileStore.{FileStore}
use Rattle.sqlite_store.specs.Laws.{settled_at}
use Rattle.sqlite.specs.Schema.{Schema}
use Rattle.sqlite.specs.Effect.{Database}
use Rattle.sqlite.specs.State.{State, HasCleanDisk}
use Rattle.sqlite.specs.Held.{Held}
use Rattle.sqlite.specs.Files.{file_state, HoldsDatabase, IsOpened}
use Rattle.sqlite.specs.Start.{FindsIn}
use Rattle.mx_layout.specs.Crash.{RestsAs, ChangesNothing}
use Rattle.mx_layout.proofs.CrashLemmas.{rests_kept}
use Rattle.mx_database.specs.power.Found.{IsFound}

-- what the files held as they were opened again, by whatever disk, and the tables that were found
pub finds : {D : Type 0} {g : Ghosts D} (stays : SeenMayStay g) (again : Held (FileStore D g)) → IsOpened again → (among : Trees → Type 0) (image : Image)
    → ∥ ((db : Trees) × among db × HoldsDatabase image db) ∥₁ → FindsIn image (file_state again) → ∥ IsFound among (file_state again) ∥₁
finds stays again opened among image holds found = ∥∥₁_map holds (λ one.
    let now = file_state again in
    let is_open = opened.0.is_open in
    let trees = ap (λ (d : Database). d.trees) opened.0.clean in
    let r : IsFound among now = record {
      schema = now.now.schema;
      tables = now.now.trees;
      left = subst among (sym (trees ∙ found.holds one.0 one.2)) one.1;
      sound = (opened.1 is_open).0;
      rests = record {
        schema = λ _ _. refl;
        tables = λ _ _. refl;
        settled = λ _ _. opened.0.clean;
        crash = λ _ db may. settled_at again.store stays db is_open may ∙ sym trees;
      };
    } in r)

-- what was found rests as whatever the tables that were found have
pub rests_found : (may_leave : Trees → Type 0) (now : State) (of : Schema) (P : Trees → Type 0) (found : IsFound may_leave now) → IsSound of found.tables → P found.tables → RestsAs now of P
rests_found may_leave now of P found sound has =
    let same = lists_once _ _ _ found.sound.lists sound.lists in
    record {
      schema = λ clean is_open. found.rests.schema clean is_open ∙ same;
      tables = λ clean is_open. subst P (sym (found.rests.tables clean is_open)) has;
      settled = found.rests.settled;
      crash = λ clean db may. subst P (sym (found.rests.crash clean db may)) has;
    }

-- a call that changed nothing, behind the opening
unfoldable pub found_kept : (may_leave : Trees → Type 0) (mid now : State) → ChangesNothing mid now → IsFound may_leave mid → IsFound may_leave now
found_kept may_leave mid now nothing found = record {
  schema = found.schema;
  tables = found.tables;
  left = found.left;
  sound = found.sound;
  rests = rests_kept found.schema (λ db. db ≡ found.tables) mid now nothing found.rests;
}

-- a call that changed nothing, before the power was lost
pub found_before : (old end now : State) → HasCleanDisk end → ChangesNothing old end → IsFound end.may_leave now → IsFound old.may_leave now
found_before old end now clean nothing found = record {
  schema = found.schema;
  tables = found.tables;
  left = elim (nothing.survives.crash clean found.tables found.left) [ inl before ↦ before | inr none ↦ absurd none ];
  sound = found.sound;
  rests = found.rests;
}
