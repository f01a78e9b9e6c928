-- Texts that count the rows of a table, what a call that counts does, and what the last entry says of how many there are.
use Rattle.std.specs.Prelude.{◌≡◌, ◌⊎◌, ◌≤◌, ◌^◌, ℕ, pos, negsuc, false, List, [], ◌∷◌, map, length, codes, Some, Result, Err, IfOk, IfErr, IsTrue}
use Rattle.std.specs.List.{range_with_len}
use Rattle.sqlite.specs.declared.types.Value.TheVariants.{Null, Int}
use Rattle.sqlite.specs.Collation.TheVariants.{Binary}
use Rattle.sqlite.specs.Table.{Table}
use Rattle.sqlite.specs.Schema.{Schema}
use Rattle.sqlite.specs.Tree.{Trees}
use Rattle.sqlite.specs.State.{State, HasCleanDisk, IsUnchanged}
use Rattle.sqlite.specs.Term.{lit, col}
use Rattle.sqlite.specs.Query.{Query, inner, end}
use Rattle.sqlite.specs.Command.TheVariants.{Select}
use Rattle.sqlite.specs.Listing.{understood, reads_listing}
use Rattle.sqlite.specs.Program.{overlay}
use Rattle.sqlite.proofs.Callers.{IsPlain, command_of}
use Rattle.sqlite_sql.specs.Group.{Aggregate}
use Rattle.sqlite_sql.specs.declared.aggregate.AggregateOp.TheVariants.{CountRows}
use Rattle.mx_layout.specs.declared.fault.TableFault.{TableFault}
use Rattle.mx_layout.specs.declared.fault.TableFault.TheVariants.{Memory, Store, Damaged}
use Rattle.mx_layout.specs.Contents.{rows_in}
use Rattle.mx_layout.specs.Crash.{StaysInside, IsWithin}
use Rattle.mx_layout.specs.Names.{table_named}
use Rattle.mx_base.specs.declared.rows.rows.EntryRow.{EntryRow}
use Rattle.mx_layout.specs.kept.Kept.{Kept}
use Rattle.mx_tables.specs.Calls.{OnRead}

-- how many rows there are, whatever they are
abbrev pub row_count : Aggregate
row_count = record { op = CountRows; distinct = false; collation = Binary; argument = lit Null }

-- how many rows the table has
abbrev pub tally : ℕ → Query
tally tree = record {
  from = inner tree end;
  filter = [];
  group = Some (record { keys = []; collations = []; aggregates = row_count ∷ []; having = [] });
  project = col 1 0 ∷ [];
  distinct = false;
  collations = [];
  order = [];
  limit = lit (Int (negsuc 0));
  offset = lit (Int (pos 0));
}

-- over this schema the text is understood as the plan that tells how many rows the table has, and nothing else
pub record MeansCount (schema : Schema) (text : List ℕ) (table : Table) : Type 0 where
  pub names : List (List ℕ)
  pub is : command_of (understood schema text) ≡ Select (record { lets = []; body = tally table.tree }) names
  pub unlisted : reads_listing schema text ≡ false
  pub plain : IsPlain (understood schema text)
  pub low : (db : Trees) → overlay db [] table.tree ≡ db table.tree

-- in each schema that has the table the text tells how many rows it has
abbrev pub Counts : {X : Type 0} → Kept X → List ℕ → Type 0
Counts k text = (schema : Schema) → k.IsIn schema → MeansCount schema text (table_named k.name)

-- all rows of a table were counted, or there are more than 32 bits hold, and nothing changed; or want of memory or the store stopped the call
pub record CountsRows {X : Type 0} (k : Kept X) (old new : State) (result : Result ℕ TableFault) : Type 0 where
  pub rows : HasCleanDisk new → k.IsIn old.now.schema → IfOk result (λ n. n ≡ length (rows_in (table_named k.name) old.now.trees))
  pub cause : IfErr result (λ e. (e ≡ Memory) ⊎ ((e ≡ Store) ⊎ (e ≡ Damaged k.name)))
  pub damaged : HasCleanDisk new → k.IsIn old.now.schema → result ≡ Err (Damaged k.name) → 2 ^ 32 ≤ length (rows_in (table_named k.name) old.now.trees)
  pub unchanged : HasCleanDisk new → k.IsIn old.now.schema → OnRead result (IsUnchanged old new)
  pub inside : HasCleanDisk new → IsTrue old.in_transaction → OnRead result (StaysInside old new)
  pub within : IsWithin old new

-- ── the texts ──

abbrev pub count_aircraft : List ℕ
count_aircraft = codes "SELECT count(*) FROM aircraft"

abbrev pub count_component : List ℕ
count_component = codes "SELECT count(*) FROM component"

-- ── the last entry ──

-- the numbers of these entries are 1, 2, 3 and so on, in this order
abbrev pub AreNumbered : List EntryRow → Type 0
AreNumbered entries = map (λ e. e.seq) entries ≡ range_with_len 1 (length entries)

-- the number of the last entry that was found, or 0 where none was
abbrev pub last_number : List EntryRow → ℕ
last_number [] = 0
last_number (entry ∷ _) = entry.seq
