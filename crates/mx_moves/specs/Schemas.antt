-- The schemas in which statements of moves run.
use Rattle.sqlite.specs.Schema.{Schema}
use Rattle.mx_layout.specs.Contents.{HasNoReferences}
use Rattle.mx_layout.specs.kept.Kept.{Kept}

-- the schema has the table, and no table of it refers to another: rows can be deleted
abbrev pub IsFree : {X : Type 0} → Kept X → Schema → Type 0
IsFree k schema = k.IsIn schema × HasNoReferences schema
