-- The total and the last bases of an item, by the rows that have its number.
use Rattle.std.proofs.Common.{◌≡◌, ℕ, List, ◌∷◌, [], filter, nat_eq, true, false, Option, Some, None, refl, ap, ◌∙◌}
use Rattle.std.specs.Prelude.{is_some, slice_get}
use Rattle.std.specs.Option.{option_map}
use Rattle.mx_base.specs.declared.amounts.Use.{Use}
use Rattle.mx_book.specs.commands.Act.{Entry}
use Rattle.mx_book.specs.declared.commands.item.Item.{Item}
use Rattle.mx_book.specs.Base.{base}
use Rattle.mx_book.specs.Book.{IsBook}
use Rattle.mx_book.specs.Life.{clock, credited, has_landed_by, life_now, opening_of, use_after, use_or_none}
use Rattle.mx_registers.specs.Names.{has_item, seq_of_item}
use Rattle.mx_base.specs.rows.Rows.{base_in_row}
use Rattle.mx_base.specs.declared.rows.rows.TotalRow.{TotalRow}
use Rattle.mx_registers.specs.kept.Bases.{base_rows, is_keyed}
use Rattle.mx_registers.specs.kept.Totals.{total_row, total_rows}
use Rattle.mx_registers.proofs.KeptProofs.BaseRows.{base_in_rows}
use Rattle.mx_registers.proofs.KeptProofs.Induction.{of_each_book}
use Rattle.mx_registers.proofs.KeptProofs.LifeGrowth.{opening_known}
use Rattle.mx_registers.proofs.KeptProofs.NumberLemmas.{unknown_unbased}
use Rattle.mx_registers.proofs.KeptProofs.OneTotal.{total_found}
use Rattle.mx_registers.proofs.KeptProofs.TotalRows.{still_absent, unknown_clock}
use Rattle.mx_row_rules.specs.found.Lives.{base_found, clock_in, life_in}
use Rattle.mx_row_rules.proofs.FoundProofs.ListLemmas.{first_left, none_is, some_map}
use Rattle.mx_row_rules.proofs.FoundProofs.ThereLemmas.{item_numbered, item_there, no_item}

-- ── totals ──

-- the first total with the number of an item is that of the item
first_total : (book : List Entry) (item : Item) (n : ℕ) → IsBook book → seq_of_item book item ≡ Some n → slice_get (filter (λ (row : TotalRow). nat_eq row.item n) (total_rows book)) 0 ≡ Some (total_row book (n, item))
first_total book item n b h = first_left (λ (row : TotalRow). nat_eq row.item n) (total_rows book) ∙ total_found book n item b (item_numbered book item n h)

pub clock_found : (book : List Entry) (item : Item) (n : ℕ) → IsBook book → seq_of_item book item ≡ Some n → clock_in (filter (λ (row : TotalRow). nat_eq row.item n) (total_rows book)) ≡ Some (clock book item)
clock_found book item n b h = ap (option_map (λ (row : TotalRow). row.clock)) (first_total book item n b h)

life_known : (book : List Entry) (item : Item) → is_some (life_now book item) ≡ has_item book item
life_known book item = some_map (use_after (filter (has_landed_by None) (credited book item))) (opening_of book item) ∙ opening_known book item

pub alive : (book : List Entry) (item : Item) (n : ℕ) → seq_of_item book item ≡ Some n → is_some (life_now book item) ≡ true
alive book item n h = life_known book item ∙ item_there book item n h

or_none_some : (o : Option Use) → is_some o ≡ true → Some (use_or_none o) ≡ o
or_none_some None h = absurd cc
or_none_some (Some u) h = refl

pub life_found : (book : List Entry) (item : Item) (n : ℕ) → IsBook book → seq_of_item book item ≡ Some n → life_in (filter (λ (row : TotalRow). nat_eq row.item n) (total_rows book)) ≡ life_now book item
life_found book item n b h = ap (option_map (λ (row : TotalRow). row.life)) (first_total book item n b h) ∙ or_none_some (life_now book item) (alive book item n h)

pub no_clock : (book : List Entry) (item : Item) → IsBook book → seq_of_item book item ≡ None → clock book item ≡ 0
no_clock book item b h = unknown_clock book b item (no_item book item h)

pub no_life : (book : List Entry) (item : Item) → seq_of_item book item ≡ None → life_now book item ≡ None
no_life book item h = none_is (life_now book item) (life_known book item ∙ no_item book item h)

-- ── last bases ──

pub base_is : (book : List Entry) (item : Item) (id : List ℕ) (n : ℕ) → IsBook book → seq_of_item book item ≡ Some n → base_found (filter (is_keyed n id) (base_rows book)) ≡ base book item id
base_is book item id n b h = ap (option_map base_in_row) (first_left (is_keyed n id) (base_rows book)) ∙ base_in_rows book n item id b (item_numbered book item n h)

-- an item that is not there has no base
abbrev HasNone : List Entry → Type 0
HasNone book = (item : Item) (id : List ℕ) → has_item book item ≡ false → base book item id ≡ None

unbased : (book : List Entry) → IsBook book → HasNone book
unbased = of_each_book HasNone (λ book e b shape new none item id h. unknown_unbased book e item id b new (still_absent book (e ∷ []) item h)) (λ item id h. refl)

pub no_base : (book : List Entry) (item : Item) (id : List ℕ) → IsBook book → seq_of_item book item ≡ None → base book item id ≡ None
no_base book item id b h = unbased book b item id (no_item book item h)
