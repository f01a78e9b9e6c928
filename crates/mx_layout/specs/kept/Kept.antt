-- A table as rows of one type: where it stands, its two texts, and how a row is kept.
use Rattle.std.specs.Prelude.{ℕ, List}
use Rattle.std.specs.declared.cmp.Ordering.{Ordering}
use Rattle.sqlite.specs.Order.{Row}
use Rattle.sqlite.specs.Schema.{Schema}
use Rattle.mx_layout.specs.Names.{table_named}
use Rattle.mx_layout.specs.Reading.{by_first, by_two}
use Rattle.mx_layout.specs.TableName.{TableName}
use Rattle.mx_layout.specs.kept.Keys.{one_key, two_key}
use Rattle.mx_layout.specs.kept.Texts.{select_text, insert_text}

-- how things of a type are kept as the rows of a table: its name; the schemas that have it; the text that shows all rows, and the one that adds a row; the order in which all are shown; the values of a row, in the order of the columns; what can be kept in the columns; and its key, by the thing and by its values
pub record Kept (X : Type 0) : Type 1 where
  pub name : TableName
  pub IsIn : Schema → Type 0
  pub select : List ℕ
  pub insert : List ℕ
  pub order : Row → Row → Ordering
  pub as_cells : X → Row
  pub Fits : X → Type 0
  pub key : X → ℕ
  pub cells_key : Row → ℕ

-- how the rows of a table are kept whose first column is its key: its name, the schemas that have it, what fits its columns, and the values of a row
abbrev pub numbered : {X : Type 0} → TableName → (Schema → Type 0) → (X → Type 0) → (X → Row) → Kept X
numbered name IsIn Fits as_cells = record {
  name = name;
  IsIn = IsIn;
  select = select_text (table_named name);
  insert = insert_text (table_named name);
  order = by_first;
  as_cells = as_cells;
  Fits = Fits;
  key = λ x. one_key (as_cells x);
  cells_key = one_key;
}

-- the same of a table whose first two columns are its key
abbrev pub lined : {X : Type 0} → TableName → (Schema → Type 0) → (X → Type 0) → (X → Row) → Kept X
lined name IsIn Fits as_cells = record (numbered name IsIn Fits as_cells) { order = by_two; key = λ x. two_key (as_cells x); cells_key = two_key }

-- the same table, in these schemas
abbrev pub over : {X : Type 0} → Kept X → (Schema → Type 0) → Kept X
over k IsIn = record k { IsIn = IsIn }

-- the same table, of things that hold what stands in it
abbrev pub held : {X Y : Type 0} → Kept X → (Y → X) → Kept Y
held k inner = record {
  name = k.name;
  IsIn = k.IsIn;
  select = k.select;
  insert = k.insert;
  order = k.order;
  as_cells = λ y. k.as_cells (inner y);
  Fits = λ y. k.Fits (inner y);
  key = λ y. k.key (inner y);
  cells_key = k.cells_key;
}
