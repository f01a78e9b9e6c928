-- What the look-ups of layout 3 answer over any rows, and for which of these they tell which table damaged.
use Rattle.std.specs.Prelude.{◌≡◌, ℕ, pos, List, [], filter, map, slice_get, IsPermutation, Option, None, Some}
use Rattle.std.specs.Option.{option_map_or}
use Rattle.sqlite.specs.Tree.{Trees}
use Rattle.sqlite.specs.declared.types.Value.TheVariants.{Int}
use Rattle.mx_base.specs.declared.amounts.Base.{Base}
use Rattle.mx_base.specs.declared.rows.rows.Deferral3Row.{Deferral3Row}
use Rattle.mx_base.specs.declared.rows.rows.DoneRow.{DoneRow}
use Rattle.mx_book.specs.commands.Act.{Entry}
use Rattle.mx_book.specs.declared.commands.item.Item.{Item}
use Rattle.mx_book.specs.declared.defects.Defect.{Defect}
use Rattle.mx_book.specs.due.Due.{IsLife}
use Rattle.mx_registers.specs.Names.{seq_of_item}
use Rattle.mx_registers.specs.late.Done.{done_rows_of, last_base}
use Rattle.mx_layout.specs.Contents.{rows_in}
use Rattle.mx_layout.specs.Tables.{done3}
use Rattle.mx_layout.specs.declared.fault.Table.TheVariants as table
use Rattle.mx_layout.specs.kept.Cells.{kept_crs_line, kept_defect3, kept_done3}
use Rattle.mx_table_rows.specs.chosen.Choices.{has_value, is_any}
use Rattle.mx_row_rules.specs.found.Defects.{defect_said}
use Rattle.mx_row_rules.specs.found.Lives.{life_in_base}
use Rattle.mx_lookups.specs.numbers.AnyRows.{Gives, GivesBy, GivesEach}
use Rattle.mx_lookups.specs.numbers.Given.{AircraftNumber, DefectNumber, ItemNumber, LeftSaid, OpenSaid, TailOfNumber, is_of}
use Rattle.mx_lookups.specs.numbers.Told.{AircraftDamage, Damage, DamageBy, DamageEach, DefectIfOpenDamage, DocIfOpenDamage, Either, EntryDamage, HasNoEntry, HasNone, ItemDamage, LacksOne, Of, TailNamedDamage, Unread}

-- ── accomplishments ──

-- of a book, the rows of the accomplishments of a task of an item, none where the item is not there
abbrev pub rows_accomplished : List Entry → Item → List ℕ → List DoneRow
rows_accomplished book item id = option_map_or (λ n. done_rows_of book n item id) (seq_of_item book item) []

-- the accomplishments of the task with the number of the item
abbrev pub Accomplishments : Item → List ℕ → Trees → List DoneRow → Type 0
Accomplishments item id = GivesBy (ItemNumber item) [] (λ n. Gives kept_done3 (is_of n id) (λ rows. rows))

-- exactly these are the accomplishments of the task of the item with the number, in whatever order they are stored
abbrev pub AreDoneRows : ℕ → List ℕ → Trees → List DoneRow → Type 0
AreDoneRows n id trees rows = IsPermutation (map kept_done3.as_cells rows) (filter (is_of n id) (rows_in done3 trees))

-- the base that the last of them leaves
abbrev pub LastBaseOf : Item → List ℕ → Trees → Option Base → Type 0
LastBaseOf item id = GivesBy (ItemNumber item) None (λ n. Gives kept_done3 (is_of n id) last_base)

-- of the item, and of the accomplishments of its task
abbrev pub AccomplishmentsDamage : Item → List ℕ → Damage
AccomplishmentsDamage item id = DamageBy (ItemDamage item) (ItemNumber item) (λ n. Unread kept_done3 (is_of n id))

-- the last of those with that number leaves a base past a life
abbrev pub HasPastDone : ℕ → List ℕ → Trees → Type 0
HasPastDone n id trees = (base : Base) × Gives kept_done3 (is_of n id) last_base trees (Some base) × ¬ IsLife (life_in_base base)

-- of those, also where the last leaves a base past a life
abbrev pub LastBaseDamage : Item → List ℕ → Damage
LastBaseDamage item id = DamageBy (ItemDamage item) (ItemNumber item) (λ n. Either (Unread kept_done3 (is_of n id)) (Of table.Done3 (HasPastDone n id)))

-- ── defects ──

-- the deferral with this number
abbrev pub DeferralFound : ℕ → Trees → Option Deferral3Row → Type 0
DeferralFound n = Gives kept_defect3 (has_value 0 (Int (pos n))) (λ rows. slice_get rows 0)

-- the defect that the deferral with its number says, and the aircraft with the number that this names, which are there
abbrev pub DefectFound : List ℕ → Trees → Option Defect → Type 0
DefectFound doc = GivesBy (DefectNumber doc) None (λ n trees found. (row : Deferral3Row) × (tail : List ℕ) × DeferralFound n trees (Some row) × TailOfNumber row.deferral.aircraft trees (Some tail) × (found ≡ Some (defect_said doc tail row.deferral)))

-- the open defects of the aircraft with this number: what each deferral with that number says
abbrev pub DefectsFoundAt : List ℕ → ℕ → Trees → List Defect → Type 0
DefectsFoundAt tail n = GivesEach kept_defect3 (has_value 1 (Int (pos n))) (λ trees row. OpenSaid tail trees row.deferral)

-- the open defects of the aircraft with this registration, none where it is not there
abbrev pub OpenDefectsFound : List ℕ → Trees → List Defect → Type 0
OpenDefectsFound tail = GivesBy (AircraftNumber tail) [] (DefectsFoundAt tail)

-- the open defects of all aircraft: what each deferral says
abbrev pub AllOpenDefectsFound : Trees → List Defect → Type 0
AllOpenDefectsFound = GivesEach kept_defect3 is_any (λ trees row. LeftSaid trees row.deferral)

-- of the deferral with this number, also where it is not there, and of the aircraft that it names: the deferral where that is not there
abbrev pub DeferralFoundDamage : ℕ → Damage
DeferralFoundDamage n = Either (DamageBy (Unread kept_defect3 (has_value 0 (Int (pos n)))) (DeferralFound n) (λ row. TailNamedDamage table.Defect3 row.deferral.aircraft)) (Of table.Defect3 (HasNone kept_defect3 (has_value 0 (Int (pos n)))))

-- of the entry with this document, and of its deferral
abbrev pub DefectFoundDamage : List ℕ → Damage
DefectFoundDamage doc = DamageBy (EntryDamage doc) (DefectNumber doc) DeferralFoundDamage

-- of the deferrals with the number of an aircraft, and of the entry of each that is open: the deferral where that is not there
abbrev pub DefectsFoundDamage : ℕ → Damage
DefectsFoundDamage n = DamageEach kept_defect3 (has_value 1 (Int (pos n))) (λ row. Either (DocIfOpenDamage row.deferral.seq) (Of table.Defect3 (HasNoEntry row.deferral.seq)))

-- of those of the aircraft with this registration
abbrev pub OpenFoundDamage : List ℕ → Damage
OpenFoundDamage tail = DamageBy (AircraftDamage tail) (AircraftNumber tail) DefectsFoundDamage

-- of all deferrals, and of the entry and the aircraft of each that is open: the deferral where one of these is not there
abbrev pub DefectsFoundButDamage : Damage
DefectsFoundButDamage = DamageEach kept_defect3 is_any (λ row. Either (DefectIfOpenDamage row.deferral) (Of table.Defect3 (LacksOne row.deferral)))

-- of all lines of releases, and so
abbrev pub AllOpenFoundDamage : Damage
AllOpenFoundDamage = Either (Unread kept_crs_line is_any) DefectsFoundButDamage
