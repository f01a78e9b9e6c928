-- What the two texts of a table mean over a schema, and what makes them those of the table.
use Rattle.std.specs.Prelude.{⊤, ◌≡◌, ℕ, List, [], ◌∷◌, Some, false, slice_get, map, All, Contains, IsSorted}
use Rattle.std.specs.declared.cmp.Ordering.{Ordering}
use Rattle.sqlite.specs.Order.{Row}
use Rattle.sqlite.specs.Table.{Table}
use Rattle.sqlite.specs.Schema.{Schema}
use Rattle.sqlite.specs.Term.{Term, eval_all}
use Rattle.sqlite.specs.Tree.{Trees}
use Rattle.sqlite.specs.Source.TheVariants.{Values}
use Rattle.sqlite.specs.Command.TheVariants.{Insert, Select}
use Rattle.sqlite.specs.Listing.{understood, reads_listing}
use Rattle.sqlite.specs.Program.{overlay}
use Rattle.sqlite.proofs.Callers.{IsPlain, command_of}
use Rattle.sqlite_value.specs.declared.keys.Key.{Key}
use Rattle.mx_base.specs.rows.Rising.{IsFrom}
use Rattle.mx_layout.specs.Contents.{cells}
use Rattle.mx_layout.specs.Names.{table_named}
use Rattle.mx_layout.specs.TableName.{TableName}
use Rattle.mx_layout.specs.Plans.{scan_by, Sorts, added, uncounted}
use Rattle.mx_layout.specs.kept.Kept.{Kept}
use Rattle.mx_layout.specs.kept.Family.{of_kept, IsReadable, IsReadableAs}

-- over this schema the text is understood as the plan that shows all rows of the table in this order, and nothing else
pub record MeansAll (schema : Schema) (text : List ℕ) (table : Table) (order : Row → Row → Ordering) : Type 0 where
  pub keys : List (Term × Key)
  pub project : List Term
  pub names : List (List ℕ)
  pub is : command_of (understood schema text) ≡ Select (record { lets = []; body = scan_by keys table.tree project }) names
  pub unlisted : reads_listing schema text ≡ false
  pub plain : IsPlain (understood schema text)
  pub shows : (λ (r : Row). eval_all project ([] ∷ r ∷ [])) ≡ cells table
  pub sorts : Sorts keys project order
  pub low : (db : Trees) → overlay db [] table.tree ≡ db table.tree

-- over this schema the text is understood as the statement that adds the row of its values to the table, and nothing else
pub record MeansAdded (schema : Schema) (text : List ℕ) (table : Table) (row : Row) : Type 0 where
  pub at : ℕ
  pub terms : List Term
  pub width : ℕ
  pub stored : Trees → Row
  pub same : uncounted table ≡ table
  pub there : slice_get schema.tables at ≡ Some table
  pub is : command_of (understood schema text) ≡ Insert at (Values terms width)
  pub plain : IsPlain (understood schema text)
  pub news : (db : Trees) → (added db table terms width row).news ≡ stored db ∷ []
  pub shown : (db : Trees) → cells table (stored db) ≡ row

-- The law of a table: each schema that has it has the table of its name, and there the texts show all of its rows, and add one; rows that fit and have the same values are one; a row of the table's type in the family is one of this; the key is seen in the values, and rows in the order of the table ascend by it.
pub record IsLawful {X : Type 0} (k : Kept X) : Type 0 where
  pub there : (schema : Schema) → k.IsIn schema → Contains schema.tables (table_named k.name)
  pub shows : (schema : Schema) → k.IsIn schema → MeansAll schema k.select (table_named k.name) k.order
  pub adds : (schema : Schema) → k.IsIn schema → (x : X) → MeansAdded schema k.insert (table_named k.name) (k.as_cells x)
  pub once : (a b : X) → k.Fits a → k.Fits b → k.as_cells a ≡ k.as_cells b → a ≡ b
  pub tells : (row : Row) → IsReadable k.name row → IsReadableAs k row
  pub keyed : (x : X) → k.key x ≡ k.cells_key (k.as_cells x)
  pub in_order : (xs : List X) → All k.Fits xs → IsSorted k.order (map k.as_cells xs) → IsFrom k.key 0 xs

-- the rows of the table with this name are kept by its law; of a table whose rows have no type nothing is said
abbrev pub IsLawfulAt : TableName → Type 0
IsLawfulAt = of_kept (Type 0) (λ _ k. IsLawful k) ⊤
