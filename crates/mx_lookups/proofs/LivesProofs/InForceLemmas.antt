-- What the rows of the tasks in force say: the task with a name, and whether one of them retires an item.
use Rattle.std.proofs.Common.{◌≡◌, ◌∙◌, ℕ, Bool, true, false, cond, List, [], ◌∷◌, map, Option, Some, None, refl, sym, ap, ap₂}
use Rattle.std.specs.Prelude.{IfSome, find}
use Rattle.std.specs.List.{list_all}
use Rattle.std.specs.Option.{option_map, option_map_or}
use Rattle.mx_base.specs.declared.amounts.Use.{Use}
use Rattle.mx_book.specs.commands.Act.{Entry}
use Rattle.mx_book.specs.commands.Programme.{task_shape}
use Rattle.mx_book.specs.commands.Same.{same_text}
use Rattle.mx_book.specs.declared.commands.aircraft.Aircraft.{Aircraft}
use Rattle.mx_book.specs.declared.commands.component.Component.{Component}
use Rattle.mx_book.specs.declared.commands.item.Item.{Item}
use Rattle.mx_book.specs.declared.commands.item.Item.TheVariants.{Airframe, Component as OfSerial}
use Rattle.mx_book.specs.Asking.{task_of}
use Rattle.mx_book.specs.Book.{IsBook}
use Rattle.mx_book.specs.Life.{life_now}
use Rattle.mx_book.specs.Programme.{life_ended, tasks_or_none}
use Rattle.mx_book.specs.Register.{aircraft, component, found_of}
use Rattle.mx_book.proofs.JudgeLemmas.{both_true}
use Rattle.mx_registers.specs.Merge.{task_said}
use Rattle.mx_base.specs.declared.rows.rows.TaskRow.{TaskRow}
use Rattle.mx_row_rules.specs.found.Programmes.{is_retired_in, programme_number, programmes_of, task_in, tasks_with}
use Rattle.mx_row_rules.proofs.FoundProofs.ProgrammeLemmas.{airframe_ended, component_ended, task_is, tasks_are}
use Rattle.mx_lookups.specs.numbers.InForce.{born_as, rows_in_force}

map_twice : {X Y Z : Type 0} (f : X → Y) (g : Y → Z) (o : Option X) → option_map g (option_map f o) ≡ option_map (λ x. g (f x)) o
map_twice f g None = refl
map_twice f g (Some x) = refl

or_twice : {X Y Z : Type 0} (f : X → Y) (g : Y → Z) (z : Z) (o : Option X) → option_map_or g (option_map f o) z ≡ option_map_or (λ x. g (f x)) o z
or_twice f g z None = refl
or_twice f g z (Some x) = refl

-- the rows in force say the task with a name
pub task_found : (book : List Entry) (kind id : List ℕ) (found : Option (List TaskRow)) → IsBook book → found ≡ rows_in_force kind book → option_map (λ rows. task_in rows id) found ≡ task_of book kind id
task_found book kind id found b e =
    ap (option_map (λ rows. task_in rows id)) e ∙ map_twice (λ n. tasks_with n book) (λ rows. task_in rows id) (programme_number (programmes_of kind book)) ∙ task_is kind book id b

-- they say the tasks, and none without a programme
pub tasks_found : (book : List Entry) (kind : List ℕ) (found : Option (List TaskRow)) → IsBook book → found ≡ rows_in_force kind book → option_map_or (map task_said) found [] ≡ tasks_or_none book kind
tasks_found book kind found b e =
    let number = programme_number (programmes_of kind book) in
    ap (λ o. option_map_or (map task_said) o []) e ∙ or_twice (λ n. tasks_with n book) (map task_said) [] number ∙ sym (or_twice (λ n. map task_said (tasks_with n book)) (λ tasks. tasks) [] number)
    ∙ ap (λ o. option_map_or (λ tasks. tasks) o []) (tasks_are kind book b)

-- a task that is found among rows of tasks of their shape has its shape
pub task_shaped : (rows : List TaskRow) (id : List ℕ) → list_all (λ (row : TaskRow). task_shape (task_said row)) rows ≡ true → IfSome (task_in rows id) (λ t. task_shape t ≡ true)
task_shaped [] id h = tt
task_shaped (row ∷ rows) id h = let both = both_true _ _ h in at (same_text row.id id) both.0 (task_shaped rows id both.1)
  where
    at : (c : Bool) → task_shape (task_said row) ≡ true → IfSome (task_in rows id) (λ t. task_shape t ≡ true)
        → IfSome (option_map task_said (cond c (Some row) (find (λ (r : TaskRow). same_text r.id id) rows))) (λ t. task_shape t ≡ true)
    at true here later = here
    at false here later = later

-- ── what retires an item ──

same_pair : {P : Type 0} (p q : P) (m n : ℕ) → ◌≡◌ {A = Option (P × ℕ)} (Some (p, m)) (Some (q, n)) → (p ≡ q) × (m ≡ n)
same_pair {P} p q m n h = (ap (λ (o : Option (P × ℕ)). option_map_or (λ (x : P × ℕ). x.0) o p) h, ap (λ (o : Option (P × ℕ)). option_map_or (λ (x : P × ℕ). x.1) o m) h)

module _ (book : List Entry) (b : IsBook book) (kind : List ℕ) (day : ℕ) (life : Use) where
  abbrev is_ended : Option (List ℕ) → ℕ → Bool
  is_ended part birth = option_map_or (λ n. is_retired_in part birth life day (tasks_with n book)) (programme_number (programmes_of kind book)) false

  of_aircraft : (tail : List ℕ) (part : Option (List ℕ)) (birth : ℕ) (o : Option Aircraft) → aircraft book tail ≡ o → option_map {U = Option (List ℕ) × ℕ} (λ (a : Aircraft). (None, a.birth)) o ≡ Some (part, birth) → life_now book (Airframe tail) ≡ Some life
      → is_ended part birth ≡ life_ended book kind (Airframe tail) day
  of_aircraft tail part birth None i h lives = absurd cc
  of_aircraft tail part birth (Some a) i h lives =
      let same = same_pair None part a.birth birth h in
      ap₂ is_ended (sym same.0) (sym same.1) ∙ airframe_ended kind book tail a life day b i lives

  of_component : (serial : List ℕ) (part : Option (List ℕ)) (birth : ℕ) (o : Option Component) → component book serial ≡ o → option_map {U = Option (List ℕ) × ℕ} (λ (c : Component). (Some c.part, c.birth)) o ≡ Some (part, birth) → life_now book (OfSerial serial) ≡ Some life
      → is_ended part birth ≡ life_ended book kind (OfSerial serial) day
  of_component serial part birth None i h lives = absurd cc
  of_component serial part birth (Some c) i h lives =
      let same = same_pair (Some c.part) part c.birth birth h in
      ap₂ is_ended (sym same.0) (sym same.1) ∙ component_ended kind book serial c life day b i lives

  of_item : (item : Item) (part : Option (List ℕ)) (birth : ℕ) → born_as (found_of book item) ≡ Some (part, birth) → life_now book item ≡ Some life → is_ended part birth ≡ life_ended book kind item day
  of_item (Airframe tail) part birth h lives = of_aircraft tail part birth (aircraft book tail) refl h lives
  of_item (OfSerial serial) part birth h lives = of_component serial part birth (component book serial) refl h lives

  -- with the part, the birth and the life of an item the rows in force say whether it is retired
  pub retired_is : (item : Item) (part : Option (List ℕ)) (birth : ℕ) (found : Option (List TaskRow)) → born_as (found_of book item) ≡ Some (part, birth) → life_now book item ≡ Some life → found ≡ rows_in_force kind book
      → option_map_or (is_retired_in part birth life day) found false ≡ life_ended book kind item day
  retired_is item part birth found born lives e =
      ap (λ o. option_map_or (is_retired_in part birth life day) o false) e
      ∙ or_twice (λ n. tasks_with n book) (is_retired_in part birth life day) false (programme_number (programmes_of kind book)) ∙ of_item item part birth born lives
