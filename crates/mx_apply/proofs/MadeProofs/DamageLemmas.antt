-- For which rows a table is told damaged, of the look-ups of a command one behind another.
use Rattle.std.proofs.Common.{◌≡◌, arith, inl, inr, ℕ, pos, Bool, true, List, [], ◌∷◌, Option, None, Some, Result, Ok, Err, refl, subst}
use Rattle.std.specs.Prelude.{◌↔◌, Contains, IsErrAnd, IsTrue, slice_get}
use Rattle.sqlite.specs.declared.types.Value.TheVariants.{Int}
use Rattle.sqlite.specs.State.{State}
use Rattle.sqlite.specs.Tree.{Trees}
use Rattle.mx_base.specs.declared.rows.rows.TotalRow.{TotalRow}
use Rattle.mx_book.specs.commands.Act.{Act, Entry}
use Rattle.mx_book.specs.declared.commands.item.Item.{Item}
use Rattle.mx_book.specs.declared.commands.release.Line.{Line}
use Rattle.mx_book.specs.declared.commands.release.Place.{Place}
use Rattle.mx_row_rules.specs.declared.changes.releases.Certified.{Certified}
use Rattle.mx_layout.specs.TableName.{TableName}
use Rattle.mx_layout.specs.Crash.{IsWithin}
use Rattle.mx_layout.specs.declared.fault.Table.TheVariants as table
use Rattle.mx_layout.specs.declared.fault.TableFault.{TableFault}
use Rattle.mx_layout.specs.declared.fault.TableFault.TheVariants.{Damaged}
use Rattle.mx_layout.specs.kept.Cells.{kept_total2}
use Rattle.mx_table_rows.specs.chosen.Choices.{has_value}
use Rattle.mx_lookups.specs.numbers.AnyRows.{AreChosen, Gives, ReadsAny}
use Rattle.mx_lookups.specs.numbers.Reads.{Reads}
use Rattle.mx_lookups.specs.numbers.Told.{BaseDamage, Damage, HasNone, TellsDamage}
use Rattle.mx_lookups.proofs.NumbersProofs.AnyLemmas.{any_later, none_chosen}
use Rattle.mx_lookups.proofs.NumbersProofs.ToldLemmas.{handed, told_as, told_here, told_later}
use Rattle.mx_apply.specs.made.Damage.{ActDamage, DueDamage, LineKnownDamage, MadeDamage, ReleaseKnownDamage, TotalAtDamage}
use Rattle.mx_apply.specs.made.Totals.{HasItem}
use Rattle.mx_apply.proofs.MadeProofs.AnyMadeLemmas.{AnyWalk}

-- ── one look-up behind another ──

-- what was looked up second, with what the first answered
pub told_with : {U V W : Type 0} {P : List Entry → V → Type 0} {First : Trees → U → Type 0} {Of Why : Damage} {a b c : State} {v : V} {u : U} {result : Result W TableFault}
    → ((name : TableName) (trees : Trees) → First trees u → Of name trees → Why name trees) → Reads P a b (Ok v) → ReadsAny First a b (Ok u) → IsWithin b c → TellsDamage Of b c result → TellsDamage Why a c result
told_with {Of = Of} {a = a} so one first within two = record { told = λ clean has name is. so name a.now.trees (first.found (omega (arith, within.survives.clean)) has) ((told_later {Of = Of} one within two).told clean has name is) }

-- its fault is handed on
pub handed_with : {T U V W : Type 0} {P : List Entry → V → Type 0} {First : Trees → U → Type 0} {Of Why : Damage} {a b c : State} {v : V} {u : U} {e : TableFault} {result : Result W TableFault}
    → ((name : TableName) (trees : Trees) → First trees u → Of name trees → Why name trees) → IsErrAnd result (λ f. f ≡ e) → Reads P a b (Ok v) → ReadsAny First a b (Ok u) → IsWithin b c → TellsDamage {V = T} Of b c (Err e) → TellsDamage Why a c result
handed_with {Why = Why} so is one first within two = handed {One = Why} (λ name trees it. it) is (told_with so one first within two)

-- so whatever the first answered
pub handed_later : {T V W : Type 0} {P : List Entry → V → Type 0} {Of Why : Damage} {a b c : State} {v : V} {e : TableFault} {result : Result W TableFault}
    → ((name : TableName) (trees : Trees) → Of name trees → Why name trees) → IsErrAnd result (λ f. f ≡ e) → Reads P a b (Ok v) → IsWithin b c → TellsDamage {V = T} Of b c (Err e) → TellsDamage Why a c result
handed_later {Of = Of} so is one within two = handed {One = Of} so is (told_later {Of = Of} one within two)

-- ── totals ──

-- nothing was found, so that no total has the number
pub total_none : (n : ℕ) {trees : Trees} → Gives kept_total2 (has_value 0 (Int (pos n))) (λ rows. slice_get rows 0) trees None → HasNone kept_total2 (has_value 0 (Int (pos n))) trees
total_none n {trees} gave = at gave.0 gave.1 gave.2
  where
    at : (rows : List TotalRow) → AreChosen kept_total2 None kept_total2.order (has_value 0 (Int (pos n))) trees rows → None ≡ slice_get rows 0 → HasNone kept_total2 (has_value 0 (Int (pos n))) trees
    at [] chose none = none_chosen kept_total2 chose
    at (row ∷ rows) chose none = absurd cc

-- an item was found behind no total
pub told_missing : {V W : Type 0} (n : ℕ) (P : List Entry → V → Type 0) (a b c : State) (v : V) (there : Bool) → Reads P a b (Ok v) → IsWithin b c → ReadsAny (Gives kept_total2 (has_value 0 (Int (pos n))) (λ rows. slice_get rows 0)) a b (Ok None)
    → ReadsAny (λ trees it. IsTrue it ↔ HasItem n trees) b c (Ok there) → there ≡ true → TellsDamage {V = W} (TotalAtDamage n) a c (Err (Damaged table.Total2))
told_missing n P a b c v there one within total item found =
    told_here table.Total2 (λ clean has. inr (inr (total_none n (total.found (omega (arith, clean, within.survives.clean)) has), inr (refl, ((any_later P _ a b c v there one within item).found clean has).0 found))))

-- ── lines of a release ──

-- of the last base, whether there is a kind or none
pub due_based : (kind : Option (List ℕ)) (item : Item) (id : List ℕ) (name : TableName) (trees : Trees) → BaseDamage item id name trees → DueDamage kind item id name trees
due_based None item id name trees it = it
due_based (Some kind) item id name trees it = inl it

-- of a line, behind those before it
pub line_told : {T W : Type 0} (place : Place) (lines : List Line) (number : ℕ) (kind : Option (List ℕ)) (a b c : State) (done : List Certified) (left : List Line) (line : Line) {P : List Entry → ℕ → Type 0} {e : TableFault} {result : Result W TableFault}
    → IsErrAnd result (λ f. f ≡ e) → Reads P a b (Ok 0) → AnyWalk place lines number kind a b done left → IsWithin b c → Contains lines line → TellsDamage {V = T} (LineKnownDamage kind line) b c (Err e) → TellsDamage (ReleaseKnownDamage place lines) a c result
line_told place lines number kind a b c done left line is one walk within there two = handed_with (λ name trees walked it. inr (kind, walked.0.1, (line, there, it))) is one walk within two

-- ── commands ──

-- of what a command says, behind the last entry
pub command_told : {V W : Type 0} (command : Entry) (act : Act) {P : List Entry → V → Type 0} {a b c : State} {v : V} {result : Result W TableFault} → act ≡ command.act → Reads P a b (Ok v) → IsWithin b c → TellsDamage (ActDamage act) b c result → TellsDamage (MadeDamage command) a c result
command_told command act says one within two = told_as {One = ActDamage act} (λ name trees it. inr (subst (λ x. ActDamage x name trees) says it)) (told_later {Of = ActDamage act} one within two)
