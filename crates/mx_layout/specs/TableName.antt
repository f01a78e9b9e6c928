-- The tables of a file as names: a table of SQL is its columns, and these are who they are.
use Rattle.mx_layout.specs.declared.fault.Table.{Table}

-- a table by its name
abbrev pub TableName : Type 0
TableName = Table
