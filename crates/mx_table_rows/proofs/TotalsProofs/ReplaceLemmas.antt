-- A row that comes in place of others: these are deleted, and then it is inserted.
use Rattle.std.proofs.Common.{◌≡◌, ◌⊎◌, Bool, List, [], ◌∷◌, IsTrue, Ok, Err, Result, OnOk, IsPermutation, sym, subst, ◌∙◌, arith}
use Rattle.std.specs.Prelude.{IsErrAnd}
use Rattle.std.specs.List.{AllByRecursion}
use Rattle.sqlite.specs.Order.{Row}
use Rattle.sqlite.specs.Table.{Table}
use Rattle.sqlite.specs.Schema.{Schema}
use Rattle.sqlite.specs.Tree.{Trees}
use Rattle.sqlite.specs.Effect.{Database}
use Rattle.sqlite.specs.State.{State, HasCleanDisk}
use Rattle.mx_layout.specs.declared.fault.TableFault.{TableFault}
use Rattle.mx_layout.specs.declared.fault.TableFault.TheVariants.{Memory, Store}
use Rattle.mx_layout.specs.Contents.{rows_in}
use Rattle.mx_layout.specs.Crash.{IsWithin}
use Rattle.mx_layout.specs.Names.{table_named}
use Rattle.mx_layout.specs.Writing.{Gains}
use Rattle.mx_layout.proofs.CrashLemmas.{within_then, stays_then}
use Rattle.mx_layout.specs.kept.Kept.{Kept}
use Rattle.mx_tables.specs.inserts.Calls.{InsertsRow}
use Rattle.mx_table_rows.specs.chosen.Choices.{Loses}
use Rattle.mx_table_rows.specs.totals.InPlace.{Replaces, ReplacesRows}
use Rattle.mx_table_rows.specs.chosen.Calls.{DeletesRows}

-- each other table, over two changes
others_then : (table : Table) (old mid new : Trees) (tables : List Table) → AllByRecursion (λ t. (t.tree ≡ table.tree → ⊥) → mid t.tree ≡ old t.tree) tables → AllByRecursion (λ t. (t.tree ≡ table.tree → ⊥) → new t.tree ≡ mid t.tree) tables
    → AllByRecursion (λ t. (t.tree ≡ table.tree → ⊥) → new t.tree ≡ old t.tree) tables
others_then table old mid new [] a b = tt
others_then table old mid new (t ∷ tables) a b = ((λ other. b.0 other ∙ a.0 other), others_then table old mid new tables a.1 b.1)

pub loses_then_gains : (table : Table) (chosen : Row → Bool) (row : Row) (old mid new : Database) → Loses table chosen old mid → Gains table row mid new → Replaces table chosen row old new
loses_then_gains table chosen row old mid new a b = record {
  schema = b.schema ∙ a.schema;
  replaced = subst (λ rows. IsPermutation (row ∷ rows) (rows_in table new.trees)) a.left b.adds.gained;
  others = others_then table old.trees mid.trees new.trees old.schema.tables a.others (subst (λ (s : Schema). AllByRecursion (λ t. (t.tree ≡ table.tree → ⊥) → new.trees t.tree ≡ mid.trees t.tree) s.tables) a.schema b.adds.others);
  rises = b.adds.rises a.rises;
  sound = b.sound;
}

on_weaker : {T E P Q : Type 0} (r : Result T E) → (P → Q) → OnOk r P → OnOk r Q
on_weaker (Ok x) f h = f h
on_weaker (Err e) f h = tt

-- what was chosen is deleted, and then the row is inserted
pub replaces_then : {X T U : Type 0} (k : Kept X) (chosen : Row → Bool) (x : X) (old mid new : State) (t : T) (second : Result U TableFault) → DeletesRows {V = T} k chosen old mid (Ok t) → InsertsRow k x mid new second → ReplacesRows k chosen x old new second
replaces_then k chosen x old mid new t second a b =
    let early : HasCleanDisk new → HasCleanDisk mid = λ clean. omega (arith, b.within.survives.clean) in
    let mode = λ (clean : HasCleanDisk mid) (begun : IsTrue old.in_transaction). (a.inside clean begun).mode in
    record {
      replaces = λ clean begun has free rises. (let loses = a.loses (early clean) begun has free rises in
          on_weaker second (loses_then_gains (table_named k.name) chosen (k.as_cells x) old.now mid.now new.now loses) (b.gains clean (mode (early clean) begun) (subst k.IsIn (sym loses.schema) has)));
      cause = b.cause;
      inside = λ clean begun. (let first = a.inside (early clean) begun in on_weaker second (stays_then old mid new first) (b.inside clean first.mode));
      within = within_then old mid new a.within mode b.within;
    }

-- a call that stopped
pub stops_replacing : {X U : Type 0} (k : Kept X) (chosen : Row → Bool) (x : X) (old new : State) (e : TableFault) (result : Result U TableFault) → IsErrAnd result (λ f. f ≡ e) → (e ≡ Memory) ⊎ (e ≡ Store) → IsWithin old new → ReplacesRows k chosen x old new result
stops_replacing k chosen x old new e (Ok v) is why within = absurd is
stops_replacing k chosen x old new e (Err f) is why within = record { replaces = λ _ _ _ _ _. tt; cause = subst (λ g. (g ≡ Memory) ⊎ (g ≡ Store)) (sym is) why; inside = λ _ _. tt; within = within }
