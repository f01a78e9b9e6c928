-- Totals, and what becomes of the rows of `total2`.
use Rattle.std.specs.Prelude.{◌≡◌, ℕ, ◌+◌, pos, Bool, List, [], ◌∷◌}
use Rattle.std.specs.List.{list_any}
use Rattle.sqlite.specs.declared.types.Value.{Value}
use Rattle.sqlite.specs.declared.types.Value.TheVariants.{Int}
use Rattle.sqlite.specs.Order.{Row}
use Rattle.mx_base.specs.declared.amounts.Use.{Use}
use Rattle.mx_book.specs.due.Due.{IsLife}
use Rattle.mx_base.specs.declared.rows.rows.TotalRow.{TotalRow}
use Rattle.mx_layout.specs.kept.Cells.{kept_total2}
use Rattle.mx_table_rows.specs.chosen.Choices.{has_value}
use Rattle.mx_table_rows.specs.declared.totals.lives.Total.{Total}
use Rattle.mx_table_rows.specs.totals.Single.{IsOnly}
use Rattle.mx_table_rows.specs.totals.Puts.{rows_put}

-- a life with a use added
abbrev pub life_with : Use → Use → Use
life_with life added = record { minutes = life.minutes + added.minutes; cycles = life.cycles + added.cycles }

-- the row of the total of an item
abbrev pub total_row : ℕ → Total → TotalRow
total_row item total = record { item = item; life = total.life; clock = total.clock }

-- the row is that of this item
abbrev pub is_of_item : ℕ → Row → Bool
is_of_item item row = has_value 0 (Int (pos item)) row

-- the row is that of one of these items
abbrev pub is_of_any : List ℕ → Row → Bool
is_of_any items row = list_any (λ item. is_of_item item row) items

-- the number in a column, with more added
abbrev pub number_with : ℕ → Value → Value
number_with more (Int (pos n)) = Int (pos (n + more))
number_with more value = value

-- the row of a total with a use added to its minutes and cycles
abbrev pub credited : Use → Row → Row
credited added (item ∷ minutes ∷ cycles ∷ rest) = item ∷ number_with added.minutes minutes ∷ number_with added.cycles cycles ∷ rest
credited added row = row

-- the row of a total with this clock
abbrev pub clocked : ℕ → Row → Row
clocked clock (item ∷ minutes ∷ cycles ∷ was ∷ rest) = item ∷ minutes ∷ cycles ∷ Int (pos clock) ∷ rest
clocked clock row = row

-- x is the one total of the item among the rows, and its life with the use added is one that an item may have
pub record IsCreditable (added : Use) (rows : List Row) (item : ℕ) (x : TotalRow) : Type 0 where
  pub only : IsOnly kept_total2 (is_of_item item) rows x
  pub life : IsLife (life_with x.life added)

-- the item has one readable total among the rows, to whose life the use can be added
abbrev pub CanCredit : Use → List Row → ℕ → Type 0
CanCredit added rows item = (x : TotalRow) × IsCreditable added rows item x

-- the total with a use added to its life
abbrev pub total_with : Use → TotalRow → TotalRow
total_with added x = record x { life = life_with x.life added }

-- the total of the item among the rows, with the use added
pub record IsCredited (added : Use) (rows : List Row) (item : ℕ) (x : TotalRow) : Type 0 where
  pub was : TotalRow
  pub can : IsCreditable added rows item was
  pub is : x ≡ total_with added was

-- the totals of the items, one for each, with the use added
abbrev pub AreCredited : Use → List Row → List ℕ → List TotalRow → Type 0
AreCredited added rows [] [] = Unit {0}
AreCredited added rows (item ∷ items) (x ∷ xs) = IsCredited added rows item x × AreCredited added rows items xs
AreCredited added rows _ _ = ⊥

-- the total is that of the item of the row
abbrev pub is_own_total : TotalRow → Row → Bool
is_own_total x row = is_of_item x.item row

-- the rows, with totals one after another in place of those that their items had
abbrev pub totals_put : List TotalRow → List Row → List Row
totals_put = rows_put kept_total2 is_own_total
