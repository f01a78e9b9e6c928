-- Which tables a schema has.
use Rattle.std.proofs.Common.{◌≡◌, ◌∙◌, ℕ, Bool, true, false, ◌||◌, ◌==◌, List, [], ◌∷◌, ◌++◌, length, refl, sym, ap, arith, suc, zero}
use Rattle.std.specs.Prelude.{Contains, not}
use Rattle.std.specs.List.{list_any}
use Rattle.std.specs.Bool.{Decides}
use Rattle.std.proofs.lemmas.Bool.Decides.{nat_tests}
use Rattle.sqlite.specs.Schema.{Schema}
use Rattle.sqlite.specs.Table.{Table}
use Rattle.mx_layout.specs.Listed.{has_table}
use Rattle.mx_layout.specs.Names.{table_name}
use Rattle.mx_layout.specs.TableName.{TableName}
use Rattle.mx_layout.specs.declared.fault.Table.TheVariants as table
use Rattle.mx_book_tables.specs.stands.Family.{is_at}
use Rattle.mx_book_tables.specs.stands.Schemas.{schema_at}
use Rattle.mx_book_tables.proofs.StandsProofs.FamilyLemmas.{never}
use Rattle.mx_book_tables.specs.reading.Layout.{HasTables, verified_point}
use Rattle.mx_verify.specs.Listed.{lacks, lacks_any, verified_names}

-- ── no others ──

-- the tables of the layout
abbrev tables : List Table
tables = (schema_at verified_point).tables

alone_is : (rest : List Table) → length (tables ++ rest) ≡ 16 → rest ≡ []
alone_is [] is = refl
alone_is (t ∷ rest) is = absurd (omega (arith, is))

is_count : (n : ℕ) → Decides (n == 16) (n ≡ 16)
is_count n = (λ yes. grind (arith, nat_tests), λ same. grind (arith, nat_tests))

-- a schema with the tables of the layout has no others exactly where it has so many
pub no_other : (schema : Schema) → HasTables schema → (n : ℕ) → n ≡ length schema.tables → Decides (n == 16) (schema.tables ≡ (schema_at verified_point).tables)
no_other schema has n count = (
  λ yes. (let all : length (tables ++ has.rest) ≡ 16 = sym (ap (λ (s : Schema). length s.tables) has.is) ∙ sym count ∙ (is_count n).0 yes in
      ap (λ (s : Schema). s.tables) has.is ∙ ap (λ rest. tables ++ rest) (alone_is has.rest all)),
  λ same. (is_count n).1 (count ∙ ap length same),
)

-- ── one that is missing ──

any_at : (p : TableName → Bool) (names : List TableName) (name : TableName) → Contains names name → p name ≡ true → list_any p names ≡ true
any_at p [] name (k, low, e) is = absurd (omega arith)
any_at p (first ∷ names) name (zero, low, e) is = rw (ap p e ∙ is) refl
any_at p (first ∷ names) name (suc k, low, e) is = later (p first) (any_at p names name (k, omega arith, e) is)
  where
    later : (b : Bool) → list_any p names ≡ true → b || list_any p names ≡ true
    later true rest = refl
    later false rest = rest

name_there : (name : TableName) → is_at verified_point name ≡ true → Contains verified_names name
name_there table.Office there = (0, omega arith, refl)
name_there table.Entry there = (1, omega arith, refl)
name_there table.Aircraft there = (2, omega arith, refl)
name_there table.Place there = (3, omega arith, refl)
name_there table.Component there = (4, omega arith, refl)
name_there table.Programme there = (5, omega arith, refl)
name_there table.Task there = (6, omega arith, refl)
name_there table.Opening there = (7, omega arith, refl)
name_there table.Crs there = (8, omega arith, refl)
name_there table.CrsLine there = (9, omega arith, refl)
name_there table.Extension there = (10, omega arith, refl)
name_there table.Defect there = (11, omega arith, refl)
name_there table.Sector2 there = (12, omega arith, refl)
name_there table.Span2 there = (13, omega arith, refl)
name_there table.Total2 there = (14, omega arith, refl)
name_there table.Base2 there = (15, omega arith, refl)
name_there table.Sector1 there = never there
name_there table.Fit1 there = never there
name_there table.Removal1 there = never there
name_there table.Defect3 there = never there
name_there table.Done3 there = never there

-- a schema without a table of the layout lacks one
pub missing : (schema : Schema) (name : TableName) → is_at verified_point name ≡ true → has_table schema (table_name name) ≡ false → lacks_any schema ≡ true
missing schema name there none = any_at (lacks schema) verified_names name (name_there name there) (ap not none)
