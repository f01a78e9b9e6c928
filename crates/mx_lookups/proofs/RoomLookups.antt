-- How many aircraft and components there are, where the tables stand for a book.
use Rattle.std.proofs.Common.{arith, ◌≡◌, ◌∙◌, ℕ, ◌+◌, ◌<◌, ◌≤◌, ◌^◌, List, [], ◌∷◌, length, inr, Err, Result, sym, subst}
use Rattle.std.proofs.lemmas.List.{length-map}
use Rattle.std.proofs.lemmas.List.Sorted.{length_permutation}
use Rattle.sqlite.specs.State.{State, IsUnchanged}
use Rattle.sqlite.specs.Tree.{Trees}
use Rattle.mx_base.specs.declared.point.Point.{Point}
use Rattle.mx_book.specs.commands.Act.{Entry}
use Rattle.mx_book.specs.Book.{IsBook}
use Rattle.mx_base.specs.rows.Rising.{IsRising}
use Rattle.mx_base.specs.declared.rows.rows.AircraftRow.{AircraftRow}
use Rattle.mx_base.specs.declared.rows.rows.ComponentRow.{ComponentRow}
use Rattle.mx_registers.specs.Registers.{aircraft_rows, component_rows}
use Rattle.mx_registers.proofs.RegisterLemmas.{aircraft_rows-rising, component_rows-rising}
use Rattle.mx_layout.specs.Contents.{rows_in}
use Rattle.mx_layout.specs.Names.{table_named}
use Rattle.mx_layout.specs.TableName.{TableName}
use Rattle.mx_layout.specs.declared.fault.TableFault.{TableFault}
use Rattle.mx_layout.specs.declared.fault.TableFault.TheVariants as fault
use Rattle.mx_layout.specs.kept.Cells.{kept_aircraft, kept_component}
use Rattle.mx_layout.specs.kept.Kept.{Kept}
use Rattle.mx_table_rows.specs.chosen.Counts.{CountsRows}
use Rattle.mx_book_tables.specs.stands.Stands.{HasRowsAt}
use Rattle.mx_lookups.specs.numbers.Damage.{IsDamaged, IsUncounted}
use Rattle.mx_lookups.specs.numbers.Reads.{HasTablesOfRowsAt, Reads, ReadsAt}
use Rattle.mx_lookups.proofs.NumbersProofs.LookupLemmas.{damage_of, stop_of}
use Rattle.mx_lookups.proofs.NumbersProofs.ReadLemmas.{map_ok, map_read}
use Rattle.mx_lookups.proofs.NumbersProofs.TableLemmas.{IsTableAt, aircraft, components}

-- a list that rises has no more than the numbers from the one bound to the other
rising_few : {X : Type 0} (key : X → ℕ) (low high : ℕ) (xs : List X) → IsRising key low xs high → low + length xs ≤ high
rising_few key low high [] up = omega (arith, up)
rising_few key low high (x ∷ xs) up = let more = rising_few key (key x + 1) high xs up.1 in omega (arith, up.0, more)

-- more rows than 32 bits count are what is told
uncounted : (name other : TableName) (trees : Trees) {V : Type 0} (r : Result V TableFault) → (IsUncounted name trees → IsDamaged name trees) → r ≡ Err (fault.Damaged name) → r ≡ Err (fault.Damaged other) → IsUncounted name trees → IsDamaged other trees
uncounted name other trees r past mine is many =
    let one : Err (fault.Damaged name) ≡ Err (fault.Damaged other) = sym mine ∙ is in
    let same : name ≡ other = cc in
    subst (λ n. IsDamaged n trees) same (past many)

module _ {at : Point} {X : Type 0} (k : Kept X) (rows : List Entry → List X) (it : IsTableAt at k rows) (few : (book : List Entry) → IsBook book → length (rows book) < 2 ^ 32) (past : (trees : Trees) → IsUncounted k.name trees → IsDamaged k.name trees) where
  -- the table has as many rows as the book gives it
  as_many : (trees : Trees) (book : List Entry) → HasRowsAt at trees book → length (rows_in (table_named k.name) trees) ≡ length (rows book)
  as_many trees book has = length_permutation _ _ (it.keeps trees book has).given ∙ length-map (rows book) k.as_cells

  -- what was counted is how many rows the book gives
  pub rows_counted : (old new : State) (result : Result ℕ TableFault) → CountsRows k old new result → ReadsAt at (λ book n. n ≡ length (rows book)) old new result
  rows_counted old new result r =
      let has_it : HasTablesOfRowsAt at old.now.schema → k.IsIn old.now.schema = λ has. it.is_in _ has in
      record {
        read = λ clean book stands. map_ok (λ n. n ≡ length (rows_in (table_named k.name) old.now.trees)) (λ n. n ≡ length (rows book)) result (λ n is. is ∙ as_many old.now.trees book stands.rows) (r.rows clean (has_it stands.schema));
        cause = stop_of k.name result r.cause;
        no_book = λ clean name is book stands.
            let many = r.damaged clean (has_it stands.schema) (damage_of k.name name result r.cause is) in
            let low = few book stands.rows.is_book in
            let same = as_many old.now.trees book stands.rows in
            omega (arith, many, low, same);
        damaged = λ clean has name is. (let mine = damage_of k.name name result r.cause is in uncounted k.name name old.now.trees result (past old.now.trees) mine is (r.damaged clean (has_it has) mine));
        unchanged = λ clean has. map_read (IsUnchanged old new) (new.now ≡ old.now) result (λ still. still.0.now_is) (r.unchanged clean (has_it has));
        inside = r.inside;
        within = r.within;
      }

few_aircraft : (book : List Entry) → IsBook book → length (aircraft_rows book) < 2 ^ 32
few_aircraft book b = let few = rising_few (λ (row : AircraftRow). row.seq) 1 (length book + 1) (aircraft_rows book) (aircraft_rows-rising book b.shaped) in omega (arith, few, b.few)

few_components : (book : List Entry) → IsBook book → length (component_rows book) < 2 ^ 32
few_components book b = let few = rising_few (λ (row : ComponentRow). row.seq) 1 (length book + 1) (component_rows book) (component_rows-rising book b.shaped) in omega (arith, few, b.few)

past_aircraft : (trees : Trees) → IsUncounted kept_aircraft.name trees → IsDamaged kept_aircraft.name trees
unfolding IsDamaged
past_aircraft trees many = inr (inr many)

past_components : (trees : Trees) → IsUncounted kept_component.name trees → IsDamaged kept_component.name trees
unfolding IsDamaged
past_components trees many = inr (inr many)

pub aircraft_counted : (old new : State) (result : Result ℕ TableFault) → CountsRows kept_aircraft old new result → Reads (λ book n. n ≡ length (aircraft_rows book)) old new result
aircraft_counted = rows_counted kept_aircraft aircraft_rows aircraft few_aircraft past_aircraft

pub components_counted : (old new : State) (result : Result ℕ TableFault) → CountsRows kept_component old new result → Reads (λ book n. n ≡ length (component_rows book)) old new result
components_counted = rows_counted kept_component component_rows components few_components past_components
