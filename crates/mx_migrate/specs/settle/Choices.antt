-- What is asked of a file to know which step is due: what is left at the front of a step, what is kept of all items, and what the answer says.
use Rattle.std.specs.Prelude.{◌≡◌, ◌≢◌, ◌⊎◌, ◌<◌, ℕ, Bool, true, false, List, [], Contains, Option, None, Some, IsTrue, Result, Ok, Err, IfOk, IfErr, IfSome, MatchOption, MatchResult, if◌then◌else◌}
use Rattle.sqlite.specs.Effect.{Database}
use Rattle.sqlite.specs.State.{State, HasCleanDisk}
use Rattle.sqlite.specs.Tree.{Trees}
use Rattle.mx_book.specs.declared.limits.TheConstants.{MOST_ENTRIES}
use Rattle.mx_book.specs.commands.Act.{Entry}
use Rattle.mx_base.specs.declared.rows.rows.EntryKind.{EntryKind}
use Rattle.mx_base.specs.declared.point.Point.{Point}
use Rattle.mx_base.specs.Settled.{settled}
use Rattle.mx_registers.specs.points.Points.{moving}
use Rattle.mx_layout.specs.TableName.{TableName}
use Rattle.mx_layout.specs.declared.fault.Table.TheVariants as table
use Rattle.mx_layout.specs.declared.fault.TableFault.{TableFault}
use Rattle.mx_layout.specs.declared.fault.TableFault.TheVariants.{Memory, Store, Damaged}
use Rattle.mx_layout.specs.Contents.{rows_in}
use Rattle.mx_layout.specs.Crash.{IsWithin, StaysInside}
use Rattle.mx_layout.specs.Names.{table_named}
use Rattle.mx_layout.specs.Point.{IsStop}
use Rattle.mx_layout.specs.Tables.{sector1}
use Rattle.mx_layout.specs.kept.Cells.{kept_component, kept_sector1}
use Rattle.mx_layout.specs.kept.Kept.{Kept}
use Rattle.mx_book_tables.specs.stands.Schemas.{IsOfFile, schema_at}
use Rattle.mx_book_tables.specs.stands.Stands.{LiesAt, StandsAt}
use Rattle.mx_tables.specs.Calls.{OnRead}
use Rattle.mx_tables.specs.inserts.Sets.{IsDamaged}
use Rattle.mx_verify.specs.declared.derived.kept.KeptRows.{KeptRows}
use Rattle.mx_verify.specs.declared.derived.kept.Unkept.{Unkept}
use Rattle.mx_verify.specs.declared.derived.kept.Unkept.TheVariants as why
use Rattle.mx_registers.specs.declared.file.file_rows.FileRows.{FileRows}
use Rattle.mx_book_tables.specs.reading.Damage.{table_of}
use Rattle.mx_book_tables.specs.reading.Stored.{AreRegisters}
use Rattle.mx_verify.specs.declared.merged.merged.NoBook.TheVariants as no_book
use Rattle.mx_migrate.specs.settle.Due.{IsCalledFor, IsDueAt, IsFor, MakesBy}
use Rattle.mx_migrate.specs.settle.Found.{AreKeptIn, HasNoBook, IsNextIn, KnowsIn}
use Rattle.mx_migrate.specs.settle.Items.{AreItemsOf, Knows, is_next}
use Rattle.mx_migrate.specs.settle.Numbers.{late_table}
use Rattle.mx_migrate.specs.settle.Place.{IsBehind}
use Rattle.mx_migrate.specs.declared.settle.due.Due.{Due}
use Rattle.mx_registers.specs.declared.points.points.TheConstants.{NEWEST_LAYOUT}

-- ── the next number of a table ──

-- the next number, if there is one that an entry can have; another makes the table with this name damaged
abbrev pub next_checked : TableName → ℕ → Option ℕ → Result (Option ℕ) TableFault
next_checked name mark None = Ok None
next_checked name mark (Some number) = if is_next mark number then Ok (Some number) else Err (Damaged name)

-- some row of the table is of its type, and has a number that no entry can have
abbrev pub HasLateNumber : {X : Type 0} → Kept X → Trees → Type 0
HasLateNumber {X} k trees = (row : X) × Contains (rows_in (table_named k.name) trees) (k.as_cells row) × (MOST_ENTRIES < k.key row)

-- the number of the next row of a table behind a mark was looked for, and nothing changed; or a row is damaged, by its type or by its number; or the call stopped
pub record FindsNext {X : Type 0} (k : Kept X) (mark : ℕ) (old new : State) (result : Result (Option ℕ) TableFault) : Type 0 where
  pub rows : HasCleanDisk new → k.IsIn old.now.schema → IfOk result (λ next. IsNextIn k mark old.now.trees next)
  pub next : IfOk result (λ next. IfSome next (λ number. is_next mark number ≡ true))
  pub cause : IfErr result (λ e. (e ≡ Memory) ⊎ ((e ≡ Store) ⊎ (e ≡ Damaged k.name)))
  pub damaged : HasCleanDisk new → k.IsIn old.now.schema → result ≡ Err (Damaged k.name) → IsDamaged old.now.trees k.name ⊎ HasLateNumber k old.now.trees
  pub inside : HasCleanDisk new → IsTrue old.in_transaction → OnRead result (StaysInside old new)
  pub within : IsWithin old new

-- ── the old table of sectors ──

-- whether a sector is left in the old table was looked for, and nothing changed; or a row is damaged; or the call stopped
pub record FindsLeft (old new : State) (result : Result Bool TableFault) : Type 0 where
  pub some : HasCleanDisk new → kept_sector1.IsIn old.now.schema → IfOk result (λ left. left ≡ true → rows_in sector1 old.now.trees ≢ [])
  pub none : HasCleanDisk new → kept_sector1.IsIn old.now.schema → IfOk result (λ left. left ≡ false → rows_in sector1 old.now.trees ≡ [])
  pub cause : IfErr result (λ e. (e ≡ Memory) ⊎ ((e ≡ Store) ⊎ (e ≡ Damaged table.Sector1)))
  pub damaged : HasCleanDisk new → kept_sector1.IsIn old.now.schema → result ≡ Err (Damaged table.Sector1) → IsDamaged old.now.trees table.Sector1
  pub inside : HasCleanDisk new → IsTrue old.in_transaction → OnRead result (StaysInside old new)
  pub within : IsWithin old new

-- ── which step is due ──

-- the database is one of a file at this point, whatever rows its tables have
abbrev pub LiesIn : Point → Database → Type 0
LiesIn at db = (db.schema ≡ schema_at at) × LiesAt at db.trees

-- the database is one of a file at this point, and its tables stand for this book
abbrev pub StandsIn : Point → List Entry → Database → Type 0
StandsIn at book db = (db.schema ≡ schema_at at) × StandsAt at db.trees book

-- what the step makes of these tables, it makes at a later point, at which a file can be
abbrev pub GoesOn : Due → Point → Trees → Type 0
GoesOn step at old = (to : Point) (new : Trees) → MakesBy step at to old new → IsOfFile to × IsBehind at to

-- this is the first of the registers that has a row whose number no entry can have
pub record IsFirstLate (name : TableName) (trees : Trees) : Type 0 where
  pub rows : FileRows
  pub are : AreRegisters trees rows
  pub late : late_table rows ≡ Some name

-- the registers are those of no book, and the rows of the table with this name are to blame; where none are, it is that of the entries
abbrev pub IsToBlame : TableName → Trees → Type 0
IsToBlame name trees = ((kind : EntryKind) × (name ≡ table_of kind) × HasNoBook trees (no_book.Damaged kind)) ⊎ ((name ≡ table.Entry) × HasNoBook trees no_book.Differs)

-- why a table is damaged that was looked at: a row is none of its type, or has a number that no entry can have, or the registers are those of no book, for the rows of the table
abbrev pub IsUnfit : TableName → Trees → Type 0
IsUnfit name trees = IsDamaged trees name ⊎ (((name ≡ table.Component) × HasLateNumber kept_component trees) ⊎ (IsFirstLate name trees ⊎ IsToBlame name trees))

-- ── the kept rows of all items ──

-- the point is in a step that writes what is kept of items, where all registers stand in the tables of layout 2
abbrev pub IsKeeping : Point → Type 0
IsKeeping at = (mark : ℕ) × ((at ≡ moving 3 mark) ⊎ (at ≡ moving 4 mark))

-- why the registers give no kept rows, as the fault of a table: that of the entries, where no row is to blame
abbrev pub fault_by : Unkept → TableFault
fault_by why.Memory = Memory
fault_by (why.Damaged kind) = Damaged (table_of kind)
fault_by why.Differs = Damaged table.Entry

-- the kept rows of all items were looked for: those that are known, or where none are, those that the registers give; or a table is damaged; or the call stopped
pub record FindsKept (known : Option KeptRows) (old new : State) (result : Result KeptRows TableFault) : Type 0 where
  pub whole : (at : Point) (book : List Entry) → IsKeeping at → HasCleanDisk new → (IsTrue old.is_open → StandsIn at book old.now) → Knows known book → MatchResult result (λ kept. AreItemsOf kept book) IsStop
  pub cause : IfErr result (λ e. (e ≡ Memory) ⊎ ((e ≡ Store) ⊎ ((name : TableName) × (e ≡ Damaged name))))
  pub damaged : (at : Point) → IsKeeping at → HasCleanDisk new → (IsTrue old.is_open → LiesIn at old.now) → IfErr result (λ e. (name : TableName) → e ≡ Damaged name → IsTrue old.is_open × IsUnfit name old.now.trees)
  -- over any rows they are what the registers give
  pub given : (at : Point) → IsKeeping at → HasCleanDisk new → (IsTrue old.is_open → LiesIn at old.now) → IsTrue old.is_open → KnowsIn at known old.now.trees → IfOk result (λ kept. AreKeptIn kept old.now.trees)

-- ── the choice ──

-- which step is due at this point was looked for, by what was known of the items: one that is for it and due, whose commit leads to a later point; none where the file is settled at the newest layout; or a table is damaged; or the call stopped; and what is then known is so of the same book; over any rows it is one that they call for, and what is then known is what the registers give
pub record Chooses (at : Point) (known after : Option KeptRows) (old new : State) (result : Result (Option Due) TableFault) : Type 0 where
  pub fits : IsOfFile at → IfOk result (λ next. MatchOption next (at ≡ settled NEWEST_LAYOUT) (λ step. IsFor step at))
  pub due : (book : List Entry) → IsOfFile at → HasCleanDisk new → (IsTrue old.is_open → StandsIn at book old.now) → Knows known book → IfOk result (λ next. IfSome next (λ step. IsDueAt step at book))
  pub stops : (book : List Entry) → IsOfFile at → HasCleanDisk new → (IsTrue old.is_open → StandsIn at book old.now) → Knows known book → IfErr result IsStop
  pub knows : (book : List Entry) → IsOfFile at → HasCleanDisk new → (IsTrue old.is_open → StandsIn at book old.now) → Knows known book → Knows after book
  pub goes : IsOfFile at → HasCleanDisk new → (IsTrue old.is_open → LiesIn at old.now) → IfOk result (λ next. IfSome next (λ step. GoesOn step at old.now.trees))
  pub cause : IfErr result (λ e. (e ≡ Memory) ⊎ ((e ≡ Store) ⊎ ((name : TableName) × (e ≡ Damaged name))))
  pub damaged : IsOfFile at → HasCleanDisk new → (IsTrue old.is_open → LiesIn at old.now) → IfErr result (λ e. (name : TableName) → e ≡ Damaged name → IsTrue old.is_open × IsUnfit name old.now.trees)
  pub called : IsOfFile at → HasCleanDisk new → (IsTrue old.is_open → LiesIn at old.now) → IsTrue old.is_open → KnowsIn at known old.now.trees → IfOk result (λ next. IfSome next (λ step. IsCalledFor step old.now.trees))
  pub keeps : IsOfFile at → HasCleanDisk new → (IsTrue old.is_open → LiesIn at old.now) → IsTrue old.is_open → KnowsIn at known old.now.trees → KnowsIn at after old.now.trees
