-- Items by their numbers, and their totals: over a book, and what is damaged over any rows.
use Rattle.std.proofs.Common.{◌≡◌, ◌↔◌, ◌∙◌, arith, inl, inr, ℕ, pos, Bool, true, false, cond, List, [], ◌∷◌, filter, map, nat_eq, Option, None, Some, Ok, refl, sym, ap, subst}
use Rattle.std.specs.Prelude.{Contains, IsTrue, is_some, slice_get}
use Rattle.std.specs.List.{AllByRecursion}
use Rattle.std.specs.List.Sorted.{IsPermutation}
use Rattle.std.specs.Option.{option_map}
use Rattle.std.proofs.lemmas.Bool.Decides.{Decides-eqb}
use Rattle.std.proofs.lemmas.List.Sorted.{Contains-permutation, IsPermutation-sym, length_permutation}
use Rattle.sqlite_rules.specs.Lists.{Has}
use Rattle.sqlite_rules.proofs.ListLemmas.{contains_had, has_contained, has_filtered, has_kept}
use Rattle.sqlite_schema.specs.Rules.{equal}
use Rattle.sqlite.specs.Collation.TheVariants.{Binary}
use Rattle.sqlite.specs.declared.types.Value.TheVariants.{Int}
use Rattle.sqlite.specs.Order.{Row, column}
use Rattle.sqlite.specs.State.{State, HasCleanDisk}
use Rattle.sqlite.specs.Tree.{Trees}
use Rattle.mx_book.specs.commands.Act.{Entry}
use Rattle.mx_book.specs.declared.commands.item.Item.{Item}
use Rattle.mx_book.specs.Book.{IsBook}
use Rattle.mx_book.proofs.LifeLemmas.{life_bounded}
use Rattle.mx_registers.specs.Names.{item_at, serial_at, tail_at}
use Rattle.mx_registers.specs.Registers.{aircraft_rows, component_rows}
use Rattle.mx_base.specs.declared.rows.rows.AircraftRow.{AircraftRow}
use Rattle.mx_base.specs.declared.rows.rows.ComponentRow.{ComponentRow}
use Rattle.mx_base.specs.declared.rows.rows.TotalRow.{TotalRow}
use Rattle.mx_registers.specs.kept.Items.{items}
use Rattle.mx_registers.specs.kept.Totals.{total_in, total_row, total_rows}
use Rattle.mx_registers.proofs.KeptProofs.OneTotal.{total_found}
use Rattle.mx_row_rules.specs.changes.Kept.{HasLife}
use Rattle.mx_layout.specs.declared.fault.Table.TheVariants as table
use Rattle.mx_layout.specs.Contents.{rows_in}
use Rattle.mx_layout.specs.Crash.{IsWithin}
use Rattle.mx_layout.specs.Names.{table_named}
use Rattle.mx_layout.specs.kept.Cells.{kept_aircraft, kept_component, kept_total2}
use Rattle.mx_layout.specs.kept.Kept.{Kept}
use Rattle.mx_table_rows.specs.chosen.Choices.{has_value, is_any}
use Rattle.mx_row_rules.specs.found.Names.{aircraft_number, component_number}
use Rattle.mx_row_rules.proofs.FoundProofs.FoundLemmas.{serial_numbered, tail_numbered}
use Rattle.mx_row_rules.proofs.FoundProofs.ListLemmas.{all_left, first_left}
use Rattle.mx_row_rules.proofs.FoundProofs.StatedLemmas.{airframe_numbered, component_numbered, no_item_numbered}
use Rattle.mx_lookups.specs.numbers.AnyRows.{AreChosen, Gives, ReadsAny}
use Rattle.mx_lookups.specs.numbers.Damage.{HasRow, IsDamaged}
use Rattle.mx_lookups.specs.numbers.Reads.{HasTablesOfRows, Reads}
use Rattle.mx_lookups.proofs.NumbersProofs.AnyLemmas.{any_later, empty_is, first_kept, kept_unmet}
use Rattle.mx_lookups.proofs.NumbersProofs.LookupLemmas.{number_is}
use Rattle.mx_apply.specs.made.Totals.{HasItem, TotalOf}

-- ── rows with a number ──

module _ {X W : Type 0} (seq : X → ℕ) (of : X → W) (n : ℕ) where
  abbrev has : X → Bool
  has x = nat_eq (seq x) n

  first_has : (xs : List X) (x : X) → slice_get (filter has xs) 0 ≡ Some x → seq x ≡ n
  first_has [] x h = absurd cc
  first_has (y ∷ ys) x h = at (has y) refl h (first_has ys x)
    where
      at : (b : Bool) → has y ≡ b → slice_get (cond b (y ∷ filter has ys) (filter has ys)) 0 ≡ Some x → (slice_get (filter has ys) 0 ≡ Some x → seq x ≡ n) → seq x ≡ n
      at true e g rest = let same : y ≡ x = cc in subst (λ z. seq z ≡ n) same ((Decides-eqb (seq y) n).0 e)
      at false e g rest = rest g

  some_of : (o : Option X) → option_map seq o ≡ Some n → is_some (option_map of o) ≡ true
  some_of None h = absurd cc
  some_of (Some x) h = refl

  none_of : (o : Option X) → ((x : X) → o ≡ Some x → seq x ≡ n) → (option_map seq o ≡ Some n → ⊥) → option_map of o ≡ None
  none_of None all none = refl
  none_of (Some x) all none = absurd (none (ap (λ m. Some m) (all x refl)))

  -- the first has the number where there is one
  with_number : (xs : List X) → option_map seq (slice_get (filter has xs) 0) ≡ Some n → is_some (option_map of (slice_get (filter has xs) 0)) ≡ true
  with_number xs h = some_of (slice_get (filter has xs) 0) h

  without_number : (xs : List X) → (option_map seq (slice_get (filter has xs) 0) ≡ Some n → ⊥) → option_map of (slice_get (filter has xs) 0) ≡ None
  without_number xs none = none_of (slice_get (filter has xs) 0) (first_has xs) none

-- ── items ──

by_tail : (book : List Entry) (n : ℕ) (o : Option (List ℕ)) → tail_at book n ≡ o → is_some o ≡ true → is_some (item_at book n) ≡ true
by_tail book n None is h = absurd cc
by_tail book n (Some tail) is h = ap is_some (airframe_numbered book n tail is)

by_serial : (book : List Entry) (n : ℕ) (o : Option (List ℕ)) → serial_at book n ≡ o → is_some o ≡ true → is_some (item_at book n) ≡ true
by_serial book n None is h = absurd cc
by_serial book n (Some serial) is h = ap is_some (component_numbered book n serial is)

-- an aircraft has the number
pub aircraft_there : (book : List Entry) (n : ℕ) (rows : List AircraftRow) → rows ≡ filter (λ (row : AircraftRow). nat_eq row.seq n) (aircraft_rows book) → aircraft_number rows ≡ Some n → is_some (item_at book n) ≡ true
aircraft_there book n rows is h =
    by_tail book n (tail_at book n) refl (ap is_some (sym (tail_numbered book n)) ∙ with_number (λ (row : AircraftRow). row.seq) (λ (row : AircraftRow). row.tail) n (aircraft_rows book) (ap aircraft_number (sym is) ∙ h))

pub no_aircraft : (book : List Entry) (n : ℕ) (rows : List AircraftRow) → rows ≡ filter (λ (row : AircraftRow). nat_eq row.seq n) (aircraft_rows book) → (aircraft_number rows ≡ Some n → ⊥) → tail_at book n ≡ None
no_aircraft book n rows is none =
    sym (tail_numbered book n) ∙ without_number (λ (row : AircraftRow). row.seq) (λ (row : AircraftRow). row.tail) n (aircraft_rows book) (λ h. none (ap aircraft_number is ∙ h))

-- where no aircraft has the number, an item has it exactly where a component has
pub component_there : (book : List Entry) (n : ℕ) (rows : List ComponentRow) (there : Bool) → tail_at book n ≡ None → rows ≡ filter (λ (row : ComponentRow). nat_eq row.seq n) (component_rows book) → (IsTrue there ↔ (component_number rows ≡ Some n))
    → there ≡ is_some (item_at book n)
component_there book n rows true none is test =
    sym (by_serial book n (serial_at book n) refl (ap is_some (sym (serial_numbered book n)) ∙ with_number (λ (row : ComponentRow). row.seq) (λ (row : ComponentRow). row.serial) n (component_rows book) (ap component_number (sym is) ∙ test.0 refl)))
component_there book n rows false none is test =
    let no : serial_at book n ≡ None = sym (serial_numbered book n) ∙ without_number (λ (row : ComponentRow). row.seq) (λ (row : ComponentRow). row.serial) n (component_rows book) (λ h. (let e = test.1 (ap component_number is ∙ h) in absurd cc)) in
    sym (ap is_some (no_item_numbered book n none no))

-- ── totals ──

lives_of : (book : List Entry) (b : IsBook book) (xs : List (ℕ × Item)) → AllByRecursion HasLife (map (total_row book) xs)
lives_of book b [] = tt
lives_of book b (x ∷ xs) = (life_bounded book x.1 None b.few b.shaped, lives_of book b xs)

first_all : {X : Type 0} (P : X → Type 0) (xs : List X) (x : X) → Some x ≡ slice_get xs 0 → AllByRecursion P xs → P x
first_all P [] x h all = absurd cc
first_all P (y ∷ ys) x h all = let same : x ≡ y = cc in subst P (sym same) all.0

-- a total of a book has a life that an item may have
pub total_lives : (book : List Entry) → IsBook book → (n : ℕ) (rows : List TotalRow) (row : TotalRow) → rows ≡ filter (λ (x : TotalRow). nat_eq x.item n) (total_rows book) → Some row ≡ slice_get rows 0 → HasLife row
total_lives book b n rows row is h =
    first_all HasLife rows row h (subst (AllByRecursion HasLife) (sym is) (all_left HasLife (λ (x : TotalRow). nat_eq x.item n) (total_rows book) (lives_of book b (items book))))

-- the first of those with a number is its total
pub total_first : (book : List Entry) (n : ℕ) (rows : List TotalRow) (found : Option TotalRow) → rows ≡ filter (λ (x : TotalRow). nat_eq x.item n) (total_rows book) → found ≡ slice_get rows 0 → found ≡ total_in (total_rows book) n
total_first book n rows found is h = h ∙ ap (λ l. slice_get l 0) is ∙ first_left (λ (x : TotalRow). nat_eq x.item n) (total_rows book)

-- an item has a total
pub total_there : (book : List Entry) → IsBook book → (n : ℕ) → true ≡ is_some (item_at book n) → None ≡ total_in (total_rows book) n → ⊥
total_there book b n there none = at (item_at book n) refl there
  where
    at : (o : Option Item) → item_at book n ≡ o → true ≡ is_some o → ⊥
    at None is h = absurd cc
    at (Some item) is h = let found = none ∙ total_found book n item b is in absurd cc

-- ── numbers, over any rows ──

module _ {X : Type 0} (k : Kept X) (seq : X → ℕ) (cells : (x : X) → column (k.as_cells x) 0 ≡ Int (pos (seq x))) (n : ℕ) (trees : Trees) where
  abbrev chosen : Row → Bool
  chosen = has_value 0 (Int (pos n))

  abbrev all : List Row
  all = rows_in (table_named k.name) trees

  -- the rows that the table has and that are chosen
  shown : (xs : List X) → AreChosen k None k.order chosen trees xs → IsPermutation (filter chosen all) (map k.as_cells xs)
  shown xs chose = subst (IsPermutation (filter chosen all)) (sym chose.are.first) chose.are.are.all

  passes : (x : X) → chosen (k.as_cells x) ≡ nat_eq (seq x) n
  passes x = ap (λ cell. equal Binary cell (Int (pos n))) (cells x) ∙ number_is (seq x) n

  -- one that is chosen has the number
  pub chosen_has : (x : X) (xs : List X) → AreChosen k None k.order chosen trees (x ∷ xs) → seq x ≡ n
  chosen_has x xs chose =
      let rows = map k.as_cells (x ∷ xs) in
      let one : Contains (filter chosen all) (k.as_cells x) = Contains-permutation rows (filter chosen all) (k.as_cells x) (IsPermutation-sym _ _ (shown (x ∷ xs) chose)) (contains_had rows (k.as_cells x) (inl refl)) in
      (Decides-eqb (seq x) n).0 (sym (passes x) ∙ (has_filtered chosen all (k.as_cells x) (has_contained (filter chosen all) (k.as_cells x) one)).1)

  -- where none is chosen, the table has none with the number
  none_has : AreChosen k None k.order chosen trees [] → HasRow k (λ x. n ≡ seq x) trees → ⊥
  none_has chose row =
      let none : filter chosen all ≡ [] = empty_is (filter chosen all) (sym (length_permutation (filter chosen all) [] (shown [] chose))) in
      let test : chosen (k.as_cells row.0) ≡ true = passes row.0 ∙ (Decides-eqb (seq row.0) n).1 (sym row.2) in
      let there = has_kept chosen all (k.as_cells row.0) (has_contained all (k.as_cells row.0) row.1.there) test in
      subst (λ l. Has l (k.as_cells row.0)) none there

  -- the first that is chosen has the number, where the table has a row with it
  pub number_there : (found : Option ℕ) → Gives k chosen (λ rows. option_map seq (slice_get rows 0)) trees found → HasRow k (λ x. n ≡ seq x) trees → found ≡ Some n
  number_there found gave row = at gave.0 gave.1 gave.2
    where
      at : (xs : List X) → AreChosen k None k.order chosen trees xs → found ≡ option_map seq (slice_get xs 0) → found ≡ Some n
      at [] chose is = absurd (none_has chose row)
      at (x ∷ xs) chose is = is ∙ ap (λ m. Some m) (chosen_has x xs chose)

-- an item has the number where the second of two look-ups found it, and the first did not
pub item_or_none : {V : Type 0} (n : ℕ) (P : List Entry → V → Type 0) (a b c : State) (v : V) (first second : Option ℕ) (there : Bool) → (first ≡ Some n → ⊥) → (IsTrue there ↔ (second ≡ Some n)) → Reads P a b (Ok v) → IsWithin b c
    → ReadsAny (Gives kept_aircraft (has_value 0 (Int (pos n))) aircraft_number) a b (Ok first) → ReadsAny (Gives kept_component (has_value 0 (Int (pos n))) component_number) b c (Ok second)
    → ReadsAny (λ trees it. IsTrue it ↔ HasItem n trees) a c (Ok there)
item_or_none n P a b c v first second there none test one within found later = record {
  found = λ clean has.
      let aircraft = found.found (omega (arith, within.survives.clean)) has in
      let components = (any_later P _ a b c v second one within later).found clean has in (
        λ yes. inr (first_kept kept_component (λ (row : ComponentRow). row.seq) n (subst (Gives kept_component (has_value 0 (Int (pos n))) component_number a.now.trees) (test.0 yes) components)),
        λ it. either it aircraft components,
      );
}
  where
    either : HasItem n a.now.trees → Gives kept_aircraft (has_value 0 (Int (pos n))) aircraft_number a.now.trees first → Gives kept_component (has_value 0 (Int (pos n))) component_number a.now.trees second → IsTrue there
    either (inl row) aircraft components = absurd (none (number_there kept_aircraft (λ (x : AircraftRow). x.seq) (λ x. refl) n a.now.trees first aircraft row))
    either (inr row) aircraft components = test.1 (number_there kept_component (λ (x : ComponentRow). x.seq) (λ x. refl) n a.now.trees second components row)

-- ── what is damaged ──

as_it_is : {X : Type 0} (o : Option X) → o ≡ option_map (λ x. x) o
as_it_is None = refl
as_it_is (Some x) = refl

by_itself : {chosen : Row → Bool} {trees : Trees} (found : Option TotalRow) → Gives kept_total2 chosen (λ rows. slice_get rows 0) trees found → Gives kept_total2 chosen (λ rows. option_map (λ (x : TotalRow). x) (slice_get rows 0)) trees found
by_itself found gave = (gave.0, gave.1, gave.2 ∙ as_it_is (slice_get gave.0 0))

-- a total is past a life
pub total_past : {chosen : Row → Bool} (trees : Trees) (row : TotalRow) → ¬ HasLife row → Gives kept_total2 chosen (λ rows. slice_get rows 0) trees (Some row) → IsDamaged table.Total2 trees
unfolding IsDamaged
total_past trees row past gave = let one = first_kept kept_total2 (λ (x : TotalRow). x) row (by_itself _ gave) in inr (inr (one.0, one.1, λ low. past (subst HasLife (sym one.2) low)))

-- an item has no total
pub item_unmet : (trees : Trees) (n : ℕ) → HasItem n trees → Gives kept_total2 (has_value 0 (Int (pos n))) (λ rows. slice_get rows 0) trees None → IsDamaged table.Total2 trees
unfolding IsDamaged
item_unmet trees n (inl it) none = inr (inl (_, (2, omega arith, refl), refl, kept_unmet kept_aircraft kept_total2 0 (λ r. r.seq) (λ r. refl) is_any table.Total2 (λ (x : TotalRow). x) it.0 it.1 refl it.2 (by_itself None none)))
item_unmet trees n (inr it) none = inr (inl (_, (3, omega arith, refl), refl, kept_unmet kept_component kept_total2 0 (λ r. r.seq) (λ r. refl) is_any table.Total2 (λ (x : TotalRow). x) it.0 it.1 refl it.2 (by_itself None none)))

-- an item was found behind no total
module _ {V : Type 0} (n : ℕ) (P : List Entry → V → Type 0) (a b c : State) (v : V) (there : Bool) (one : Reads P a b (Ok v)) (within : IsWithin b c) (total : ReadsAny (Gives kept_total2 (has_value 0 (Int (pos n))) (λ rows. slice_get rows 0)) a b (Ok None))
    (item : ReadsAny (λ trees it. IsTrue it ↔ HasItem n trees) b c (Ok there)) where
  pub missing_total : there ≡ true → HasCleanDisk c → HasTablesOfRows a.now.schema → IsDamaged table.Total2 a.now.trees
  missing_total found clean has = item_unmet a.now.trees n (((any_later P _ a b c v there one within item).found clean has).0 found) (total.found (omega (arith, clean, within.survives.clean)) has)

  -- or none was
  pub no_total : there ≡ false → ReadsAny (TotalOf n) a c (Ok None)
  no_total none = record {
    found = λ clean has. (
      total.found (omega (arith, clean, within.survives.clean)) has,
      λ it. (let yes = sym none ∙ ((any_later P _ a b c v there one within item).found clean has).1 it in absurd cc),
    );
  }
