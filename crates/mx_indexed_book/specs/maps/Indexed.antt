-- A book beside its maps.
use Rattle.std.specs.Prelude.{◌≡◌, List, [], ◌∷◌, ◌++◌}
use Rattle.std.specs.Ordering.{nat_cmp}
use Rattle.std.specs.Cmp.Lexicographic.{slice_cmp}
use Rattle.mx_book.specs.commands.Act.{Entry}
use Rattle.mx_indexed_book.specs.maps.Clocks.{AreClocks, ClocksHaveRoom, clocks_changed}
use Rattle.mx_indexed_book.specs.maps.Counts.{counts_of}
use Rattle.mx_indexed_book.specs.maps.Lives.{AreLives, AreLivesChanged, LivesHaveRoom}
use Rattle.mx_indexed_book.specs.maps.Maps.{HasRoom, HasRoomForAll}
use Rattle.mx_indexed_book.specs.maps.Movements.{AreMovements, MovementsHaveRoom, movements_changed}
use Rattle.mx_indexed_book.specs.maps.Places.{ArePlaces, PlacesHaveRoom, names_cmp, places_changed}
use Rattle.mx_indexed_book.specs.maps.Positions.{ArePositions, parts_given}
use Rattle.mx_indexed_book.specs.maps.Programmes.{AreProgrammes, programme_changed}
use Rattle.mx_indexed_book.specs.maps.Registers.{AreRegisters, RegistersHaveRoom, registers_changed}
use Rattle.mx_indexed_book.specs.maps.Work.{IsWork, IsWorkChanged, WorkHasRoom}
use Rattle.mx_indexed_book.specs.declared.maps.indexes.Changes.{Changes}
use Rattle.mx_indexed_book.specs.declared.maps.indexes.Indexes.{Indexes}

-- what an entry changes of all maps
pub record AreChanges (book : List Entry) (entry : Entry) (changes : Changes) : Type 0 where
  pub registers_are : changes.registers ≡ registers_changed book entry
  pub places_are : changes.places ≡ places_changed book entry
  pub movements_are : changes.movements ≡ movements_changed book entry
  pub clocks_are : changes.clocks ≡ clocks_changed book entry
  pub parts_are : changes.parts.items ≡ parts_given entry.act
  pub programme_is : changes.programme ≡ programme_changed book entry
  pub work_is : IsWorkChanged entry changes.work
  pub lives_are : AreLivesChanged book entry changes.lives
  pub counts_are : changes.counts ≡ counts_of (book ++ entry ∷ [])

-- the maps have what the book answers
pub record AreIndexes (book : List Entry) (indexes : Indexes) : Type 0 where
  pub registers_are : AreRegisters book indexes.registers
  pub places_are : ArePlaces book indexes.places
  pub movements_are : AreMovements book indexes.movements
  pub clocks_are : AreClocks book indexes.clocks
  pub parts_are : ArePositions book indexes.parts
  pub programmes_are : AreProgrammes book indexes.programmes
  pub work_is : IsWork book indexes.work
  pub lives_are : AreLives book indexes.lives
  pub counts_are : indexes.counts ≡ counts_of book

-- the maps have room for what an entry changes
pub record HaveRoom (changes : Changes) (indexes : Indexes) : Type 0 where
  pub for_registers : RegistersHaveRoom changes.registers indexes.registers
  pub for_places : PlacesHaveRoom changes.places indexes.places
  pub for_movements : MovementsHaveRoom changes.movements indexes.movements
  pub for_clocks : ClocksHaveRoom changes.clocks indexes.clocks
  pub for_parts : HasRoomForAll names_cmp changes.parts.items indexes.parts
  pub for_programme : HasRoom (slice_cmp nat_cmp) changes.programme indexes.programmes
  pub for_work : WorkHasRoom changes.work indexes.work
  pub for_lives : LivesHaveRoom changes.lives indexes.lives
