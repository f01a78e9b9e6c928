-- What look-ups inside a transaction answer over any rows: what the rows that are chosen give.
use Rattle.std.specs.Prelude.{◌≡◌, ℕ, Bool, List, [], ◌∷◌, map, All, Option, None, Result, IfOk, MatchOption}
use Rattle.std.specs.List.{cons_option}
use Rattle.std.specs.declared.cmp.Ordering.{Ordering}
use Rattle.sqlite.specs.Order.{Row}
use Rattle.sqlite.specs.State.{State, HasCleanDisk}
use Rattle.sqlite.specs.Tree.{Trees}
use Rattle.mx_base.specs.declared.point.Point.{Point}
use Rattle.mx_layout.specs.declared.fault.TableFault.{TableFault}
use Rattle.mx_layout.specs.Names.{table_named}
use Rattle.mx_layout.specs.kept.Kept.{Kept}
use Rattle.mx_table_rows.specs.chosen.Choices.{AreFirst}
use Rattle.mx_lookups.specs.numbers.Reads.{HasTablesOfRowsAt, rows_point}

-- at the point what is answered is so of the rows that the tables have, whatever these are
pub record ReadsAnyAt {V : Type 0} (at : Point) (Is : Trees → V → Type 0) (old new : State) (result : Result V TableFault) : Type 0 where
  pub found : HasCleanDisk new → HasTablesOfRowsAt at old.now.schema → IfOk result (Is old.now.trees)

-- so at the point at which rows are looked up
abbrev pub ReadsAny : {V : Type 0} → (Trees → V → Type 0) → State → State → Result V TableFault → Type 0
ReadsAny = ReadsAnyAt rows_point

-- these rows of the table are chosen, the first so many in this order, and each fits its columns
pub record AreChosen {X : Type 0} (k : Kept X) (most : Option ℕ) (order : Row → Row → Ordering) (chosen : Row → Bool) (trees : Trees) (rows : List X) : Type 0 where
  pub are : AreFirst most order (table_named k.name) chosen trees (map k.as_cells rows)
  pub fit : All k.Fits rows

-- the answer is what the rows give that are chosen, the first so many in this order
abbrev pub GivesFirst : {X V : Type 0} → Kept X → Option ℕ → (Row → Row → Ordering) → (Row → Bool) → (List X → V) → Trees → V → Type 0
GivesFirst {X} k most order chosen gives trees answer = (rows : List X) × AreChosen k most order chosen trees rows × (answer ≡ gives rows)

-- the answer is what all rows give that are chosen from one table, in its order
abbrev pub Gives : {X V : Type 0} → Kept X → (Row → Bool) → (List X → V) → Trees → V → Type 0
Gives k = GivesFirst k None k.order

-- something is looked up first: the answer is what is looked up by it, or this one where it is not there
pub record GivesBy {A V : Type 0} (First : Trees → Option A → Type 0) (none : V) (Then : A → Trees → V → Type 0) (trees : Trees) (answer : V) : Type 0 where
  pub found : Option A
  pub first : First trees found
  pub then : MatchOption found (answer ≡ none) (λ a. Then a trees answer)

-- these are what the rows say, in their order, each of which says one thing or nothing
abbrev pub AreSaid : {X V : Type 0} → (X → Option V → Type 0) → List X → List V → Type 0
AreSaid Says [] answer = answer ≡ []
AreSaid {V = V} Says (row ∷ rows) answer = (said : Option V) × (later : List V) × Says row said × AreSaid Says rows later × (answer ≡ cons_option said later)

-- the answer is what all rows say, each with what is looked up for it, that are chosen from one table, in its order
abbrev pub GivesEach : {X V : Type 0} → Kept X → (Row → Bool) → (Trees → X → Option V → Type 0) → Trees → List V → Type 0
GivesEach {X} k chosen Says trees answer = (rows : List X) × AreChosen k None k.order chosen trees rows × AreSaid (Says trees) rows answer
