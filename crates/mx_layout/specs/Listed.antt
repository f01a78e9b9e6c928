-- What a database lists: whether it has a table of a name, and when it is refused to one that makes tables.
use Rattle.std.specs.Prelude.{◌≡◌, ◌≢◌, ◌⊎◌, Bool, false, List, ℕ, codes, is_some, IsTrue}
use Rattle.sqlite.specs.Schema.{Schema}
use Rattle.sqlite_schema.specs.Names.{table_named, view_named}
use Rattle.mx_layout.specs.declared.fault.TableFault.{TableFault}
use Rattle.mx_layout.specs.declared.fault.TableFault.TheVariants.{NotOurs, Exists}
use Rattle.mx_layout.specs.Tables.{no_schema}

-- whether a table has this name, as `sqlite` looks it up: the case of ASCII letters does not count
abbrev pub has_table : Schema → List ℕ → Bool
has_table schema name = is_some (table_named schema name)

-- no table is named `office`
abbrev pub LacksOffice : Schema → Type 0
LacksOffice schema = has_table schema (codes "office") ≡ false

-- whether a view has this name, or an object that `sqlite` keeps without reading it
abbrev pub has_view : Schema → List ℕ → Bool
has_view schema name = is_some (view_named schema name)

-- neither a table nor a view is named `office`, so that a text finds none
abbrev pub FindsNoOffice : Schema → Type 0
FindsNoOffice schema = LacksOffice schema × (has_view schema (codes "office") ≡ false)

-- why no table is made beside what there is: a table is named `office`, or none is and the database is not empty
abbrev pub IsRefusal : Schema → TableFault → Type 0
IsRefusal schema fault = ((fault ≡ Exists) × IsTrue (has_table schema (codes "office"))) ⊎ ((fault ≡ NotOurs) × LacksOffice schema × (schema ≢ no_schema))
