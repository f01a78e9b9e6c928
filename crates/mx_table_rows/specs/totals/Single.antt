-- One row of a table, or none.
use Rattle.std.specs.Prelude.{◌≡◌, Bool, List, [], ◌∷◌, filter, Option, Some, None, Result, Ok, Err, Vec, IfSome}
use Rattle.std.specs.Option.{option_map, option_to_list}
use Rattle.sqlite.specs.Order.{Row}
use Rattle.mx_layout.specs.TableName.{TableName}
use Rattle.mx_layout.specs.declared.fault.TableFault.{TableFault}
use Rattle.mx_layout.specs.declared.fault.TableFault.TheVariants.{Damaged}
use Rattle.mx_layout.specs.kept.Kept.{Kept}

-- the one element of a list; with none or more, the table is damaged
abbrev pub one_in : {X : Type 0} → TableName → List X → Result X TableFault
one_in table (x ∷ []) = Ok x
one_in table _ = Err (Damaged table)

-- the one row that was read
abbrev pub only_of : {X A : Type 0} → TableName → Result (Vec X A) TableFault → Result X TableFault
only_of table (Ok rows) = one_in table rows.items
only_of table (Err fault) = Err fault

-- the one element of a list, or none; with more, the table is damaged
abbrev pub one_or_none_in : {X : Type 0} → TableName → List X → Result (Option X) TableFault
one_or_none_in table [] = Ok None
one_or_none_in table (x ∷ []) = Ok (Some x)
one_or_none_in table _ = Err (Damaged table)

-- the one row that was read, or none
abbrev pub one_or_none_of : {X A : Type 0} → TableName → Result (Vec X A) TableFault → Result (Option X) TableFault
one_or_none_of table (Ok rows) = one_or_none_in table rows.items
one_or_none_of table (Err fault) = Err fault

-- exactly one of the rows passes the test, and it is that of x, which fits
pub record IsOnly {X : Type 0} (k : Kept X) (test : Row → Bool) (rows : List Row) (x : X) : Type 0 where
  pub only : filter test rows ≡ k.as_cells x ∷ []
  pub fits : k.Fits x

-- exactly one of the rows passes the test, and it is of the type
abbrev pub HasOne : {X : Type 0} → Kept X → (Row → Bool) → List Row → Type 0
HasOne {X} k test rows = (x : X) × IsOnly k test rows x

-- the row that passes the test is that of x, which fits, or none passes where there is no x
pub record IsOneOrNone {X : Type 0} (k : Kept X) (test : Row → Bool) (rows : List Row) (found : Option X) : Type 0 where
  pub those : filter test rows ≡ option_to_list (option_map k.as_cells found)
  pub fits : IfSome found k.Fits

-- at most one of the rows passes the test, and it is of the type
abbrev pub HasOneOrNone : {X : Type 0} → Kept X → (Row → Bool) → List Row → Type 0
HasOneOrNone {X} k test rows = (found : Option X) × IsOneOrNone k test rows found
