-- For which of the rows that are looked up for the rows of a command which table is told damaged.
use Rattle.std.specs.Prelude.{◌≡◌, ◌⊎◌, ℕ, pos, List, [], ◌∷◌, Bool, Contains, Option, Some, None, slice_get}
use Rattle.sqlite.specs.declared.types.Value.TheVariants.{Int}
use Rattle.sqlite.specs.Order.{Row}
use Rattle.sqlite.specs.Tree.{Trees}
use Rattle.mx_base.specs.declared.amounts.Use.{Use}
use Rattle.mx_book.specs.commands.Act.{Act, Entry, Opened, Flown, Fitted, Removed, Released, Deferred, Extended}
use Rattle.mx_book.specs.declared.commands.item.Item.{Item}
use Rattle.mx_book.specs.declared.commands.release.Line.{Line}
use Rattle.mx_book.specs.declared.commands.release.Line.TheVariants as lines
use Rattle.mx_book.specs.declared.commands.release.Place.{Place}
use Rattle.mx_book.specs.due.Due.{IsLife}
use Rattle.mx_book.specs.Judge.{item_at}
use Rattle.mx_base.specs.declared.rows.rows.TotalRow.{TotalRow}
use Rattle.mx_layout.specs.declared.fault.Table.TheVariants as table
use Rattle.mx_layout.specs.kept.Cells.{kept_aircraft, kept_span2, kept_total2}
use Rattle.mx_layout.specs.kept.Kept.{Kept}
use Rattle.mx_table_rows.specs.chosen.Choices.{has_value, is_open}
use Rattle.mx_row_rules.specs.changes.Kept.{HasLife}
use Rattle.mx_lookups.specs.numbers.AnyRows.{AreChosen, Gives}
use Rattle.mx_lookups.specs.numbers.Damage.{HasRow}
use Rattle.mx_lookups.specs.numbers.Given.{AircraftNumber, ComponentNumber, ItemNumber, LifeOf}
use Rattle.mx_lookups.specs.numbers.Told.{AircraftDamage, BaseDamage, ComponentDamage, Damage, Either, EntryDamage, HasNone, InForceDamage, ItemDamage, LastDamage, Of, SerialDamage, TailDamage, TotalDamage, Unread}
use Rattle.mx_apply.specs.made.Found.{KindAt, NumberBy, numbers_flown, numbers_removed}
use Rattle.mx_apply.specs.made.Totals.{HasItem}

-- ── the forms ──

-- a number is looked up first: that is damaged, or what is looked up by it, by 0 where there was none
abbrev pub DamageByNumber : Damage → (Trees → Option ℕ → Type 0) → (ℕ → Damage) → Damage
DamageByNumber One First Then name trees = One name trees ⊎ ((n : ℕ) × NumberBy First trees n × Then n name trees)

-- rows of a table are chosen first: one of them is none of its type, or what is looked up by them is damaged
abbrev pub DamageByRows : {X : Type 0} → Kept X → (Row → Bool) → (List X → Damage) → Damage
DamageByRows {X} k chosen Then name trees = Unread k chosen name trees ⊎ ((rows : List X) × AreChosen k None k.order chosen trees rows × Then rows name trees)

-- ── totals ──

-- of the aircraft with this number, and of the component with it where no aircraft has it
abbrev pub ItemAtDamage : ℕ → Damage
ItemAtDamage n = Either (TailDamage n) (λ name trees. ¬ HasRow kept_aircraft (λ row. n ≡ row.seq) trees × SerialDamage n name trees)

-- the first of the totals with this number is past a life
abbrev pub HasPastTotal : ℕ → Trees → Type 0
HasPastTotal n trees = (row : TotalRow) × Gives kept_total2 (has_value 0 (Int (pos n))) (λ rows. slice_get rows 0) trees (Some row) × ¬ HasLife row

-- no total has this number: of the item with it, or the total where that is there
abbrev pub NoTotalDamage : ℕ → Damage
NoTotalDamage n name trees = HasNone kept_total2 (has_value 0 (Int (pos n))) trees × Either (ItemAtDamage n) (Of table.Total2 (HasItem n)) name trees

-- of the totals with this number, also where the first is past a life, or where there is none
abbrev pub TotalAtDamage : ℕ → Damage
TotalAtDamage n = Either (Unread kept_total2 (has_value 0 (Int (pos n)))) (Either (Of table.Total2 (HasPastTotal n)) (NoTotalDamage n))

-- of the totals with one of these numbers
abbrev pub TotalsDamage : List ℕ → Damage
TotalsDamage numbers name trees = (n : ℕ) × Contains numbers n × TotalAtDamage n name trees

-- ── lines of a release ──

-- the total of the item is past a life
abbrev pub HasPastLife : Item → Trees → Type 0
HasPastLife item trees = (reached : Use) × LifeOf item trees (Some reached) × ¬ IsLife reached

-- of the total of the item, also where it is past a life
abbrev pub LifeDamage : Item → Damage
LifeDamage item = Either (TotalDamage item) (Of table.Total2 (HasPastLife item))

-- of the item, of the last base of its task, and of the tasks in force of the kind, where there is one
abbrev pub DueDamage : Option (List ℕ) → Item → List ℕ → Damage
DueDamage None item id = BaseDamage item id
DueDamage (Some kind) item id = Either (BaseDamage item id) (InForceDamage kind)

-- of what a line names, its tasks by this kind
abbrev pub LineKnownDamage : Option (List ℕ) → Line → Damage
LineKnownDamage kind (lines.Done item id) = Either (LifeDamage item) (DueDamage kind item id)
LineKnownDamage kind (lines.Rectified doc) = EntryDamage doc

-- of what one of the lines names, by the kind at the place
abbrev pub LinesAtDamage : Place → List Line → Damage
LinesAtDamage place lines name trees = (kind : Option (List ℕ)) × KindAt place trees kind × ((line : Line) × Contains lines line × LineKnownDamage kind line name trees)

-- of the item at the place, and of what one of the lines names
abbrev pub ReleaseKnownDamage : Place → List Line → Damage
ReleaseKnownDamage place lines = Either (ItemDamage (item_at place)) (LinesAtDamage place lines)

-- ── commands ──

-- of what a command names, and of what is looked up by that: of no row where it names nothing, as one that adds an aircraft
abbrev pub ActDamage : Act → Damage
ActDamage (Opened opening) = ItemDamage opening.item
ActDamage (Flown sector) = DamageByNumber (AircraftDamage sector.tail) (AircraftNumber sector.tail) (λ n. DamageByRows kept_span2 (has_value 2 (Int (pos n))) (λ spans. TotalsDamage (numbers_flown n sector spans)))
ActDamage (Fitted fitting) = DamageByNumber (ComponentDamage fitting.serial) (ComponentNumber fitting.serial) (λ component. DamageByNumber (AircraftDamage fitting.tail) (AircraftNumber fitting.tail) (λ aircraft. TotalsDamage (aircraft ∷ component ∷ [])))
ActDamage (Removed removal) = DamageByNumber (ComponentDamage removal.serial) (ComponentNumber removal.serial) (λ n. DamageByRows kept_span2 (is_open 1 (Int (pos n))) (λ spans. TotalsDamage (numbers_removed n spans)))
ActDamage (Released release lines) = Either (LinesAtDamage release.place lines) (DamageByNumber (ItemDamage (item_at release.place)) (ItemNumber (item_at release.place)) (λ n. TotalsDamage (n ∷ [])))
ActDamage (Deferred deferral) = DamageByNumber (AircraftDamage deferral.tail) (AircraftNumber deferral.tail) (λ n. TotalsDamage (n ∷ []))
ActDamage (Extended extension) = EntryDamage extension.defect
ActDamage _ = λ name trees. ⊥

-- of the last entry, and of what the command names
abbrev pub MadeDamage : Entry → Damage
MadeDamage command = Either LastDamage (ActDamage command.act)
