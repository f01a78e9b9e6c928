-- For which of the rows that it chose each look-up tells which table damaged.
-- A look-up says it in a clause beside what it reads, and one that only hands on the fault of another needs no answer
-- for it. That `IsDamaged` follows from each such relation is proved of none: both are proved of the look-up.
use Rattle.std.specs.Prelude.{◌≡◌, ◌⊎◌, ◌≤◌, ◌^◌, ℕ, pos, false, Bool, List, [], filter, Option, Some, None, Result, Err, Contains}
use Rattle.std.specs.declared.cmp.Ordering.{Ordering}
use Rattle.sqlite.specs.declared.types.Value.TheVariants.{Int, Text}
use Rattle.sqlite.specs.Order.{Row}
use Rattle.sqlite.specs.State.{State, HasCleanDisk}
use Rattle.sqlite.specs.Tree.{Trees}
use Rattle.mx_base.specs.declared.amounts.Base.{Base}
use Rattle.mx_base.specs.declared.point.Point.{Point}
use Rattle.mx_book.specs.commands.Programme.{task_shape}
use Rattle.mx_book.specs.declared.commands.item.Item.{Item}
use Rattle.mx_book.specs.declared.commands.item.Item.TheVariants.{Airframe, Component}
use Rattle.mx_book.specs.due.Due.{IsLife}
use Rattle.mx_registers.specs.Merge.{task_said}
use Rattle.mx_base.specs.declared.rows.rows.DeferralRow.{DeferralRow}
use Rattle.mx_base.specs.declared.rows.rows.TaskRow.{TaskRow}
use Rattle.mx_layout.specs.TableName.{TableName}
use Rattle.mx_layout.specs.declared.fault.Table.TheVariants as table
use Rattle.mx_layout.specs.declared.fault.TableFault.{TableFault}
use Rattle.mx_layout.specs.declared.fault.TableFault.TheVariants.{Damaged}
use Rattle.mx_layout.specs.Contents.{rows_in}
use Rattle.mx_layout.specs.Names.{table_named}
use Rattle.mx_layout.specs.Reading.{HasOther}
use Rattle.mx_layout.specs.kept.Cells.{kept_aircraft, kept_base2, kept_component, kept_crs_line, kept_defect, kept_entry, kept_extension, kept_place, kept_programme, kept_span2, kept_task, kept_total2}
use Rattle.mx_layout.specs.kept.Family.{IsReadableAs}
use Rattle.mx_layout.specs.kept.Kept.{Kept}
use Rattle.mx_table_rows.specs.chosen.Choices.{AreFirst, backward, has_value, is_any, is_open}
use Rattle.mx_row_rules.specs.found.Defects.{deferral_aircraft}
use Rattle.mx_row_rules.specs.found.Lives.{base_found, life_in_base}
use Rattle.mx_lookups.specs.numbers.AnyRows.{AreChosen, Gives}
use Rattle.mx_lookups.specs.numbers.Damage.{IsUncounted}
use Rattle.mx_lookups.specs.numbers.Given.{AircraftNumber, BornOf, ComponentNumber, DefectNumber, DocIfOpen, DocOfNumber, IsRectifiedAt, ItemNumber, LifeOf, NextRevision, NumberFitted, ProgrammeNumber, is_of}
use Rattle.mx_lookups.specs.numbers.Reads.{HasTablesOfRowsAt, rows_point}

-- ── the forms ──

-- which table is told damaged, for which rows
abbrev pub Damage : Type 1
Damage = TableName → Trees → Type 0

-- at the point a table is told damaged only where this is so of the rows
pub record TellsDamageAt {V : Type 0} (at : Point) (Of : Damage) (old new : State) (result : Result V TableFault) : Type 0 where
  pub told : HasCleanDisk new → HasTablesOfRowsAt at old.now.schema → (name : TableName) → result ≡ Err (Damaged name) → Of name old.now.trees

-- so at the point at which rows are looked up
abbrev pub TellsDamage : {V : Type 0} → Damage → State → State → Result V TableFault → Type 0
TellsDamage = TellsDamageAt rows_point

-- one of the rows that are chosen from the table, the first so many in this order, is none of its type
abbrev pub UnreadFirst : {X : Type 0} → Kept X → Option ℕ → (Row → Row → Ordering) → (Row → Bool) → Damage
UnreadFirst k most order chosen name trees = (name ≡ k.name) × ((rows : List Row) × AreFirst most order (table_named k.name) chosen trees rows × HasOther (IsReadableAs k) rows)

-- one of all rows that are chosen from the table is none of its type
abbrev pub Unread : {X : Type 0} → Kept X → (Row → Bool) → Damage
Unread k = UnreadFirst k None k.order

-- this table, where this is so
abbrev pub Of : TableName → (Trees → Type 0) → Damage
Of table Is name trees = (name ≡ table) × Is trees

-- the one or the other
abbrev pub Either : Damage → Damage → Damage
Either One Two name trees = One name trees ⊎ Two name trees

-- something is looked up first: that is damaged, or what is looked up by what was found
abbrev pub DamageBy : {A : Type 0} → Damage → (Trees → Option A → Type 0) → (A → Damage) → Damage
DamageBy {A} One First Then name trees = One name trees ⊎ ((a : A) × First trees (Some a) × Then a name trees)

-- no row of the table is chosen
abbrev pub HasNone : {X : Type 0} → Kept X → (Row → Bool) → Trees → Type 0
HasNone k chosen trees = filter chosen (rows_in (table_named k.name) trees) ≡ []

-- this row is one of those that are chosen from the table, each of which fits its columns
abbrev pub IsChosen : {X : Type 0} → Kept X → (Row → Bool) → Trees → X → Type 0
IsChosen {X} k chosen trees x = (rows : List X) × AreChosen k None k.order chosen trees rows × Contains rows x

-- one of the rows that are chosen is none of its type, or what is looked up for one is damaged
abbrev pub DamageEach : {X : Type 0} → Kept X → (Row → Bool) → (X → Damage) → Damage
DamageEach {X} k chosen Then name trees = Unread k chosen name trees ⊎ ((x : X) × IsChosen k chosen trees x × Then x name trees)

-- ── by a name or a number ──

-- of the aircraft with this registration
abbrev pub AircraftDamage : List ℕ → Damage
AircraftDamage tail = Unread kept_aircraft (has_value 1 (Text tail))

-- of the component with this serial number
abbrev pub ComponentDamage : List ℕ → Damage
ComponentDamage serial = Unread kept_component (has_value 1 (Text serial))

-- of the item
abbrev pub ItemDamage : Item → Damage
ItemDamage (Airframe tail) = AircraftDamage tail
ItemDamage (Component serial) = ComponentDamage serial

-- of the entry with this document
abbrev pub EntryDamage : List ℕ → Damage
EntryDamage doc = Unread kept_entry (has_value 1 (Text doc))

-- of the last entry
abbrev pub LastDamage : Damage
LastDamage = UnreadFirst kept_entry (Some 1) (backward kept_entry.order) is_any

-- of the entry with this number
abbrev pub DocDamage : ℕ → Damage
DocDamage n = Unread kept_entry (has_value 0 (Int (pos n)))

-- of the component with this number
abbrev pub SerialDamage : ℕ → Damage
SerialDamage n = Unread kept_component (has_value 0 (Int (pos n)))

-- of the aircraft with this number
abbrev pub TailDamage : ℕ → Damage
TailDamage n = Unread kept_aircraft (has_value 0 (Int (pos n)))

-- of the aircraft with the number that a row of this table names, or the table, where it is not there
abbrev pub TailNamedDamage : TableName → ℕ → Damage
TailNamedDamage named n = Either (TailDamage n) (Of named (HasNone kept_aircraft (has_value 0 (Int (pos n)))))

-- ── what is fitted where ──

-- of the positions of an aircraft
abbrev pub PartDamage : List ℕ → Damage
PartDamage tail = DamageBy (AircraftDamage tail) (AircraftNumber tail) (λ n. Unread kept_place (has_value 0 (Int (pos n))))

-- of the open spans of an aircraft
abbrev pub TakenDamage : List ℕ → Damage
TakenDamage tail = DamageBy (AircraftDamage tail) (AircraftNumber tail) (λ n. Unread kept_span2 (is_open 2 (Int (pos n))))

-- of the open span of a component
abbrev pub NumberFittedDamage : List ℕ → Damage
NumberFittedDamage serial = DamageBy (ComponentDamage serial) (ComponentNumber serial) (λ n. Unread kept_span2 (is_open 1 (Int (pos n))))

-- of that, or of the aircraft that it names: the span where that is not there
abbrev pub TailFittedDamage : List ℕ → Damage
TailFittedDamage serial = DamageBy (NumberFittedDamage serial) (NumberFitted serial) (TailNamedDamage table.Span2)

-- the same of the place that a component is fitted to
abbrev pub PlaceFittedDamage : List ℕ → Damage
PlaceFittedDamage = TailFittedDamage

-- of an open span, the component that it names: the span where that is not there
abbrev pub PlaceDamage : ℕ → Damage
PlaceDamage n = Either (SerialDamage n) (Of table.Span2 (HasNone kept_component (has_value 0 (Int (pos n)))))

-- of the open spans with the number of an aircraft, and of the component of each
abbrev pub PlacesDamage : ℕ → Damage
PlacesDamage n = DamageEach kept_span2 (is_open 2 (Int (pos n))) (λ row. PlaceDamage row.component)

-- of those of the aircraft with this registration
abbrev pub FittedDamage : List ℕ → Damage
FittedDamage tail = DamageBy (AircraftDamage tail) (AircraftNumber tail) PlacesDamage

-- ── totals and last bases ──

-- of the total of an item, also where that is not there
abbrev pub TotalDamage : Item → Damage
TotalDamage item = DamageBy (ItemDamage item) (ItemNumber item) (λ n. Either (Unread kept_total2 (has_value 0 (Int (pos n)))) (Of table.Total2 (HasNone kept_total2 (has_value 0 (Int (pos n))))))

-- of the last base of a task of an item
abbrev pub DoneDamage : Item → List ℕ → Damage
DoneDamage item id = DamageBy (ItemDamage item) (ItemNumber item) (λ n. Unread kept_base2 (is_of n id))

-- a last base is found with that number, and is past a life
abbrev pub HasPastBase : ℕ → List ℕ → Trees → Type 0
HasPastBase n id trees = (base : Base) × Gives kept_base2 (is_of n id) base_found trees (Some base) × ¬ IsLife (life_in_base base)

-- of that base, also where it is past a life
abbrev pub BaseDamage : Item → List ℕ → Damage
BaseDamage item id = DamageBy (ItemDamage item) (ItemNumber item) (λ n. Either (Unread kept_base2 (is_of n id)) (Of table.Base2 (HasPastBase n id)))

-- ── programmes ──

-- of the programmes of a kind
abbrev pub ProgrammeDamage : List ℕ → Damage
ProgrammeDamage kind = Unread kept_programme (has_value 1 (Text kind))

-- of those, also where the next revision has more than 32 bits
abbrev pub RevisionDamage : List ℕ → Damage
RevisionDamage kind = Either (ProgrammeDamage kind) (Of table.Programme (λ trees. (revision : ℕ) × NextRevision kind trees revision × (2 ^ 32 ≤ revision)))

-- one of the tasks with the number of a programme lacks its shape
abbrev pub HasUnshaped : ℕ → Trees → Type 0
HasUnshaped n trees = (row : TaskRow) × IsChosen kept_task (has_value 0 (Int (pos n))) trees row × (task_shape (task_said row) ≡ false)

-- of the last programme of a kind, and of its tasks, also where one lacks its shape
abbrev pub InForceDamage : List ℕ → Damage
InForceDamage kind = DamageBy (ProgrammeDamage kind) (ProgrammeNumber kind) (λ n. Either (Unread kept_task (has_value 0 (Int (pos n)))) (Of table.Task (HasUnshaped n)))

-- of the item, of its total, and of the tasks in force
abbrev pub RetiredDamage : List ℕ → Item → Damage
RetiredDamage kind item = DamageBy (ItemDamage item) (BornOf item) (λ born. DamageBy (TotalDamage item) (LifeOf item) (λ life. InForceDamage kind))

-- ── defects ──

-- the aircraft that the deferral with this number names
abbrev pub AircraftDeferred : ℕ → Trees → Option ℕ → Type 0
AircraftDeferred n = Gives kept_defect (has_value 0 (Int (pos n))) deferral_aircraft

-- of the deferral with this number, also where it is not there, and of the aircraft that it names: the deferral where that is not there
abbrev pub DeferralDamage : ℕ → Damage
DeferralDamage n = Either (DamageBy (Unread kept_defect (has_value 0 (Int (pos n)))) (AircraftDeferred n) (TailNamedDamage table.Defect)) (Of table.Defect (HasNone kept_defect (has_value 0 (Int (pos n)))))

-- of the entry with this document, and of its deferral
abbrev pub DefectDamage : List ℕ → Damage
DefectDamage doc = DamageBy (EntryDamage doc) (DefectNumber doc) DeferralDamage

-- of the lines that rectify the defect with this number
abbrev pub RectifiedAtDamage : ℕ → Damage
RectifiedAtDamage n = Unread kept_crs_line (has_value 4 (Int (pos n)))

-- of the entry with this document, and of the lines that rectify its defect
abbrev pub RectifiedDamage : List ℕ → Damage
RectifiedDamage doc = DamageBy (EntryDamage doc) (DefectNumber doc) RectifiedAtDamage

-- of the entry with this document, and of the extensions of its defect
abbrev pub ExtensionDamage : List ℕ → Damage
ExtensionDamage doc = DamageBy (EntryDamage doc) (DefectNumber doc) (λ n. Unread kept_extension (has_value 1 (Int (pos n))))

-- of the entry with the number of a defect that no line rectifies
abbrev pub OpenDocDamage : ℕ → Damage
OpenDocDamage n name trees = IsRectifiedAt n trees false × DocDamage n name trees

-- of the lines that rectify the defect with this number, and of its entry where there is none
abbrev pub DocIfOpenDamage : ℕ → Damage
DocIfOpenDamage n = Either (RectifiedAtDamage n) (OpenDocDamage n)

-- no line rectifies the defect with this number, and its entry is not there
abbrev pub HasNoEntry : ℕ → Trees → Type 0
HasNoEntry n trees = IsRectifiedAt n trees false × HasNone kept_entry (has_value 0 (Int (pos n))) trees

-- of the deferrals with the number of an aircraft, and of the entry of each that is open: the deferral where that is not there
abbrev pub DefectsDamage : ℕ → Damage
DefectsDamage n = DamageEach kept_defect (has_value 1 (Int (pos n))) (λ row. Either (DocIfOpenDamage row.seq) (Of table.Defect (HasNoEntry row.seq)))

-- of those of the aircraft with this registration
abbrev pub OpenDamage : List ℕ → Damage
OpenDamage tail = DamageBy (AircraftDamage tail) (AircraftNumber tail) DefectsDamage

-- no line rectifies the defect of a deferral, its entry is there, and this is so of the rows
abbrev pub WhereOpen : DeferralRow → (Trees → Type 0) → Trees → Type 0
WhereOpen row Is trees = (doc : List ℕ) × DocIfOpen row.seq trees (Some (Some doc)) × Is trees

-- of the lines that rectify the defect of a deferral, of its entry where there is none, and of the aircraft that it names where that is there
abbrev pub DefectIfOpenDamage : DeferralRow → Damage
DefectIfOpenDamage row = Either (DocIfOpenDamage row.seq) (λ name. WhereOpen row (TailDamage row.aircraft name))

-- no line rectifies the defect of a deferral, and its entry is not there, or its aircraft
abbrev pub LacksOne : DeferralRow → Trees → Type 0
LacksOne row trees = HasNoEntry row.seq trees ⊎ WhereOpen row (HasNone kept_aircraft (has_value 0 (Int (pos row.aircraft)))) trees

-- of the entry of a deferral, and of the aircraft that it names where that entry is there
abbrev pub DefectOfRowDamage : DeferralRow → Damage
DefectOfRowDamage row = Either (DocDamage row.seq) (λ name trees. (doc : List ℕ) × DocOfNumber row.seq trees (Some doc) × TailDamage row.aircraft name trees)

-- of all deferrals, and of the entry and the aircraft of each that is open: the deferral where one of these is not there
abbrev pub DefectsButDamage : Damage
DefectsButDamage = DamageEach kept_defect is_any (λ row. Either (DefectIfOpenDamage row) (Of table.Defect (LacksOne row)))

-- of all lines of releases, and so
abbrev pub AllOpenDamage : Damage
AllOpenDamage = Either (Unread kept_crs_line is_any) DefectsButDamage

-- ── all of them ──

-- of all aircraft
abbrev pub TailsDamage : Damage
TailsDamage = Unread kept_aircraft is_any

-- of all components
abbrev pub SerialsDamage : Damage
SerialsDamage = Unread kept_component is_any

-- ── how many there are ──

-- of a table that has more rows than 32 bits count
abbrev pub CountDamage : TableName → Damage
CountDamage name = Of name (IsUncounted name)
