-- For which rows a table is told damaged, of look-ups one after another.
use Rattle.std.proofs.Common.{◌≡◌, ◌<◌, ◌^◌, ℕ, inl, inr, Bool, false, List, [], ◌∷◌, Option, None, Some, Ok, Err, Result, refl, sym, ap, subst, arith}
use Rattle.std.specs.Prelude.{IsErrAnd, slice_get}
use Rattle.std.specs.List.{list_all}
use Rattle.std.specs.Option.{option_map}
use Rattle.std.specs.declared.cmp.Ordering.{Ordering}
use Rattle.sqlite.specs.Effect.{Database}
use Rattle.sqlite.specs.Order.{Row}
use Rattle.sqlite.specs.State.{State, HasCleanDisk}
use Rattle.sqlite.specs.Tree.{Trees}
use Rattle.sqlite_rules.specs.Lists.{Has}
use Rattle.sqlite_rules.proofs.ListLemmas.{contains_had, fails_has}
use Rattle.mx_base.specs.declared.point.Point.{Point}
use Rattle.mx_book.specs.commands.Act.{Entry}
use Rattle.mx_book.specs.commands.Programme.{task_shape}
use Rattle.mx_registers.specs.Merge.{task_said}
use Rattle.mx_base.specs.declared.rows.rows.TaskRow.{TaskRow}
use Rattle.mx_layout.specs.TableName.{TableName}
use Rattle.mx_layout.specs.Crash.{IsWithin}
use Rattle.mx_layout.specs.declared.fault.TableFault.{TableFault}
use Rattle.mx_layout.specs.declared.fault.TableFault.TheVariants.{Damaged}
use Rattle.mx_layout.specs.kept.Cells.{kept_task}
use Rattle.mx_layout.specs.kept.Kept.{Kept}
use Rattle.mx_table_rows.specs.chosen.Calls.{ReadsFirst}
use Rattle.mx_table_rows.specs.chosen.Counts.{CountsRows}
use Rattle.mx_lookups.specs.numbers.AnyRows.{AreChosen, Gives, ReadsAnyAt}
use Rattle.mx_lookups.specs.numbers.Reads.{HasTablesOfRowsAt, ReadsAt}
use Rattle.mx_lookups.specs.numbers.Told.{CountDamage, Damage, DamageBy, HasNone, IsChosen, TellsDamageAt, UnreadFirst}
use Rattle.mx_lookups.proofs.NumbersProofs.AnyLemmas.{found_some, none_chosen}
use Rattle.mx_lookups.proofs.NumbersProofs.LookupLemmas.{damage_of}
use Rattle.mx_lookups.proofs.NumbersProofs.TableLemmas.{IsInEachAt, IsTableAt}

-- the fault is handed on
pub handed : {at : Point} {V W : Type 0} {One : Damage} {Of : Damage} {old new : State} {e : TableFault} {result : Result W TableFault} → ((name : TableName) (trees : Trees) → One name trees → Of name trees) → IsErrAnd result (λ f. f ≡ e) → TellsDamageAt {V = V} at One old new (Err e) → TellsDamageAt at Of old new result
handed {result = Ok w} so is one = absurd is
handed {old = old} {e = e} {result = Err f} so is one = record { told = λ clean has name same. so name old.now.trees (one.told clean has name (let it : e ≡ Damaged name = cc in ap Err it)) }

-- the reason is one of those
pub told_as : {at : Point} {V : Type 0} {One : Damage} {Of : Damage} {old new : State} {result : Result V TableFault} → ((name : TableName) (trees : Trees) → One name trees → Of name trees) → TellsDamageAt at One old new result → TellsDamageAt at Of old new result
told_as {old = old} so one = record { told = λ clean has name is. so name old.now.trees (one.told clean has name is) }

-- the table is told for what is so here
pub told_here : {at : Point} {V : Type 0} {Of : Damage} {old new : State} (name : TableName) → (HasCleanDisk new → HasTablesOfRowsAt at old.now.schema → Of name old.now.trees) → TellsDamageAt {V = V} at Of old new (Err (Damaged name))
told_here {Of = Of} {old = old} name so = record { told = λ clean has other is. (let same : name ≡ other = cc in subst (λ it. Of it old.now.trees) same (so clean has)) }

-- ── one table ──

-- one of the rows that are chosen is none of its type
pub unread_in : {at : Point} {X V W : Type 0} {k : Kept X} (is_in : IsInEachAt at k) {most : Option ℕ} {order : Row → Row → Ordering} {chosen : Row → Bool} {items : V → List X} {old new : State} {e : TableFault} {result : Result W TableFault}
    → IsErrAnd result (λ f. f ≡ e) → ReadsFirst k most order chosen items old new (Err e) → TellsDamageAt at (UnreadFirst k most order chosen) old new result
unread_in {k = k} is_in {old = old} {e = e} {result = Ok w} is r = absurd is
unread_in {V = V} {k = k} is_in {old = old} {e = e} {result = Err f} is r = record {
  told = λ clean has name same.
      let it : e ≡ Damaged name = cc in
      let mine : ◌≡◌ {A = Result V TableFault} (Err e) (Err (Damaged k.name)) = damage_of k.name name (Err e) r.cause (ap Err it) in
      let table : name ≡ k.name = cc in
      (table, r.damaged clean (is_in _ has) mine);
}

-- so of a table of which it is known what it keeps
pub unread : {at : Point} {X V W : Type 0} {k : Kept X} {book_rows : List Entry → List X} (it : IsTableAt at k book_rows) {most : Option ℕ} {order : Row → Row → Ordering} {chosen : Row → Bool} {items : V → List X} {old new : State} {e : TableFault} {result : Result W TableFault}
    → IsErrAnd result (λ f. f ≡ e) → ReadsFirst k most order chosen items old new (Err e) → TellsDamageAt at (UnreadFirst k most order chosen) old new result
unread it = unread_in it.is_in

-- there are more rows than are counted
pub uncounted : {at : Point} {X W : Type 0} {k : Kept X} {book_rows : List Entry → List X} (it : IsTableAt at k book_rows) {old new : State} {e : TableFault} {result : Result W TableFault} → IsErrAnd result (λ f. f ≡ e) → CountsRows k old new (Err e) → TellsDamageAt at (CountDamage k.name) old new result
uncounted {k = k} it {e = e} {result = Ok w} is r = absurd is
uncounted {k = k} it {old = old} {e = e} {result = Err f} is r = record {
  told = λ clean has name same.
      let fault : e ≡ Damaged name = cc in
      let mine : ◌≡◌ {A = Result ℕ TableFault} (Err e) (Err (Damaged k.name)) = damage_of k.name name (Err e) r.cause (ap Err fault) in
      let table : name ≡ k.name = cc in
      (table, r.damaged clean (it.is_in _ has) mine);
}

-- nothing was found, so that no row is chosen
none_of : {X W : Type 0} (k : Kept X) (chosen : Row → Bool) (trees : Trees) (of : X → W) (rows : List X) → AreChosen k None k.order chosen trees rows → None ≡ option_map of (slice_get rows 0) → HasNone k chosen trees
none_of k chosen trees of [] chose none = none_chosen k chose
none_of k chosen trees of (row ∷ rows) chose none = absurd cc

pub has_none : {X W : Type 0} {k : Kept X} {chosen : Row → Bool} {trees : Trees} (of : X → W) → Gives k chosen (λ rows. option_map of (slice_get rows 0)) trees None → HasNone k chosen trees
has_none {k = k} {chosen = chosen} {trees = trees} of gave = none_of k chosen trees of gave.0 gave.1 gave.2

-- ── one look-up behind another ──

-- what was looked up second, over the rows that there were before the first
pub told_later : {at : Point} {V W : Type 0} {P : List Entry → V → Type 0} {Of : Damage} {a b c : State} {v : V} {result : Result W TableFault} → ReadsAt at P a b (Ok v) → IsWithin b c → TellsDamageAt at Of b c result → TellsDamageAt at Of a c result
told_later {at = at} {Of = Of} {a = a} {b = b} one within two = record {
  told = λ clean has name is.
      let early : HasCleanDisk b = omega (arith, within.survives.clean) in
      let same : b.now ≡ a.now = one.unchanged early has in
      subst (λ (d : Database). Of name d.trees) same (two.told clean (subst (λ (d : Database). HasTablesOfRowsAt at d.schema) (sym same) has) name is);
}

-- what was looked up by what was found
pub told_by : {at : Point} {A V W : Type 0} {P : List Entry → V → Type 0} {One : Damage} {First : Trees → Option A → Type 0} {Then : A → Damage} {a b c : State} {v : V} {found : Option A} {n : A} {result : Result W TableFault} → found ≡ Some n
    → ReadsAt at P a b (Ok v) → ReadsAnyAt at First a b (Ok found) → IsWithin b c → TellsDamageAt at (Then n) b c result → TellsDamageAt at (DamageBy One First Then) a c result
told_by {First = First} {Then = Then} {n = n} is one first within two = record { told = λ clean has name same. inr (n, found_some First is first within clean has, (told_later {Of = Then n} one within two).told clean has name same) }

-- one of the tasks lacks its shape
pub unshaped : {chosen : Row → Bool} {trees : Trees} {rows : List TaskRow} → list_all (λ (row : TaskRow). task_shape (task_said row)) rows ≡ false → Gives kept_task chosen (λ found. found) trees rows → (row : TaskRow) × IsChosen kept_task chosen trees row × (task_shape (task_said row) ≡ false)
unshaped {rows = rows} lacks gave =
    let one = fails_has (λ (row : TaskRow). task_shape (task_said row)) rows lacks in
    (one.0, (gave.0, gave.1, contains_had gave.0 one.0 (subst (λ l. Has l one.0) gave.2 one.1)), one.2)
