-- Which table is told damaged, and by which question of the judge or of a list.
use Rattle.std.specs.Prelude.{ℕ, List}
use Rattle.sqlite.specs.Tree.{Trees}
use Rattle.mx_book.specs.commands.Act.{Entry}
use Rattle.mx_book.specs.declared.commands.item.Item.{Item}
use Rattle.mx_layout.specs.TableName.{TableName}
use Rattle.mx_layout.specs.declared.fault.Table.TheVariants as table
use Rattle.mx_lookups.specs.numbers.Told.{AircraftDamage, AllOpenDamage, BaseDamage, ComponentDamage, CountDamage, DefectDamage, DoneDamage, ExtensionDamage, FittedDamage, InForceDamage, LastDamage, OpenDamage, PartDamage, PlaceFittedDamage, RectifiedDamage, RetiredDamage, RevisionDamage, SerialsDamage, TailFittedDamage, TailsDamage, TakenDamage, TotalDamage}
use Rattle.mx_row_judge.specs.known.Known.{KnownDamage}

-- one question of the judge tells it, of the rows that its look-up chooses
pub data JudgeDamage (name : TableName) (trees : Trees) : Type 0 where
  by_entry_count : LastDamage name trees → JudgeDamage name trees
  by_room_for_aircraft : CountDamage table.Aircraft name trees → JudgeDamage name trees
  by_room_for_component : CountDamage table.Component name trees → JudgeDamage name trees
  by_known : (command : Entry) → KnownDamage command name trees → JudgeDamage name trees
  by_aircraft : (tail : List ℕ) → AircraftDamage tail name trees → JudgeDamage name trees
  by_component : (serial : List ℕ) → ComponentDamage serial name trees → JudgeDamage name trees
  by_part_at : (tail : List ℕ) → PartDamage tail name trees → JudgeDamage name trees
  by_is_taken : (tail : List ℕ) → TakenDamage tail name trees → JudgeDamage name trees
  by_tail_fitted : (serial : List ℕ) → TailFittedDamage serial name trees → JudgeDamage name trees
  by_is_retired : (kind : List ℕ) (item : Item) → RetiredDamage kind item name trees → JudgeDamage name trees
  by_clock : (item : Item) → TotalDamage item name trees → JudgeDamage name trees
  by_next_revision : (kind : List ℕ) → RevisionDamage kind name trees → JudgeDamage name trees
  by_task : (kind : List ℕ) → InForceDamage kind name trees → JudgeDamage name trees
  by_is_accomplished : (item : Item) (id : List ℕ) → DoneDamage item id name trees → JudgeDamage name trees
  by_defect : (doc : List ℕ) → DefectDamage doc name trees → JudgeDamage name trees
  by_is_rectified : (doc : List ℕ) → RectifiedDamage doc name trees → JudgeDamage name trees
  by_extension : (doc : List ℕ) → ExtensionDamage doc name trees → JudgeDamage name trees

-- one question of the judge or of a list tells it
pub data ListDamage (name : TableName) (trees : Trees) : Type 0 where
  by_judge : JudgeDamage name trees → ListDamage name trees
  by_life : (item : Item) → TotalDamage item name trees → ListDamage name trees
  by_base : (item : Item) (id : List ℕ) → BaseDamage item id name trees → ListDamage name trees
  by_tasks : (kind : List ℕ) → InForceDamage kind name trees → ListDamage name trees
  by_fitted : (tail : List ℕ) → FittedDamage tail name trees → ListDamage name trees
  by_open_defects : (tail : List ℕ) → OpenDamage tail name trees → ListDamage name trees
  by_tails : TailsDamage name trees → ListDamage name trees
  by_serials : SerialsDamage name trees → ListDamage name trees
  by_place : (serial : List ℕ) → PlaceFittedDamage serial name trees → ListDamage name trees
  by_all_open_defects : AllOpenDamage name trees → ListDamage name trees
