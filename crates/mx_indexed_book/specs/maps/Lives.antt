-- The lives of the airframes in a map, and by how much the life of each component is ahead of that of the airframe that it is fitted to: what a sector adds to both changes neither, so that it changes those alone that were moved behind its take-off.
use Rattle.std.specs.Prelude.{◌≡◌, ℕ, pos, ◌-ℤ◌, List, [], ◌∷◌, Bool, not, map, Option, Some, None, if◌then◌else◌}
use Rattle.std.specs.List.{cons_option}
use Rattle.std.specs.Option.{option_map, option_map_or}
use Rattle.std.specs.Ordering.{nat_cmp}
use Rattle.std.specs.Cmp.Lexicographic.{slice_cmp}
use Rattle.mx_base.specs.declared.amounts.Use.{Use}
use Rattle.mx_book.specs.commands.Act.{Act, Entry, Added, Listed, Flown, Fitted, Removed}
use Rattle.mx_book.specs.declared.commands.item.Item.TheVariants.{Airframe, Component}
use Rattle.mx_book.specs.declared.commands.sector.Sector.{Sector}
use Rattle.mx_book.specs.Life.{life_now, use_after, use_or_none}
use Rattle.mx_book.specs.Span.{tail_fitted, is_fitted_to}
use Rattle.mx_indexed_book.specs.maps.Maps.{HasRoom, HasRoomForAll, IsIndex}
use Rattle.mx_indexed_book.specs.maps.Movements.{behind, movements}
use Rattle.mx_indexed_book.specs.declared.maps.lives.Lead.{Lead}
use Rattle.mx_indexed_book.specs.declared.maps.lives.LifeChanges.{LifeChanges}
use Rattle.mx_indexed_book.specs.declared.maps.lives.Lives.{Lives}
use Rattle.mx_indexed_book.specs.declared.maps.movements.Movement.{Movement}

-- the life of an airframe, and of a component
abbrev pub airframe_life : List Entry → List ℕ → Option Use
airframe_life book tail = life_now book (Airframe tail)

abbrev pub component_life : List Entry → List ℕ → Option Use
component_life book serial = life_now book (Component serial)

-- the life of the airframe that a component is fitted to, or none where it is fitted nowhere
abbrev pub life_where_fitted : List Entry → List ℕ → Use
life_where_fitted book serial = option_map_or (λ tail. use_or_none (airframe_life book tail)) (tail_fitted book serial) (use_or_none None)

-- by how much a life is ahead of another
abbrev pub lead_over : Use → Use → Lead
lead_over other life = record {
  minutes = pos life.minutes -ℤ pos other.minutes;
  cycles = pos life.cycles -ℤ pos other.cycles;
}

-- by how much the life of a component is ahead of that of the airframe that it is fitted to
abbrev pub lead : List Entry → List ℕ → Option Lead
lead book serial = option_map (lead_over (life_where_fitted book serial)) (component_life book serial)

-- the airframe whose life an entry changes, and its life then
abbrev pub airframe_changed : List Entry → Act → Option (List ℕ × Option Use)
airframe_changed book (Added a positions) = Some (a.tail, Some a.opening)
airframe_changed book (Flown s) = Some (s.tail, option_map (use_after (s ∷ [])) (airframe_life book s.tail))
airframe_changed book _ = None

-- the component whose lead an entry changes, and its lead then: it comes into the records, it is fitted, or it is removed
abbrev pub component_changed : List Entry → Act → Option (List ℕ × Option Lead)
component_changed book (Listed c) = Some (c.serial, Some (lead_over (use_or_none None) c.opening))
component_changed book (Fitted f) = Some (f.serial, option_map (lead_over (use_or_none (airframe_life book f.tail))) (component_life book f.serial))
component_changed book (Removed r) = Some (r.serial, option_map (lead_over (use_or_none None)) (component_life book r.serial))
component_changed book _ = None

-- a life, with a sector where it is credited with it
abbrev pub flown_if : Bool → Sector → Use → Use
flown_if credited s life = if credited then use_after (s ∷ []) life else life

-- by how much the life of a component is ahead behind one more sector, which it is credited with or not
abbrev pub lead_with : List Entry → Sector → Bool → List ℕ → Option Lead
lead_with book s credited serial =
    option_map (λ life. lead_over (flown_if (is_fitted_to book s.tail serial) s (life_where_fitted book serial)) (flown_if credited s life)) (component_life book serial)

-- the leads of components that were moved, from the last one back, behind one more sector that came before: what was removed is credited with it, and what was fitted is not
abbrev pub leads_moved : List Entry → Sector → List Movement → List (List ℕ × Option Lead)
leads_moved book s moved = map (λ m. (m.serial, lead_with book s (not m.is_fitting) m.serial)) moved

-- the components whose leads an entry changes, and the lead of each then, of which the last stands: a sector changes those of components that were moved to its aircraft or from it behind its take-off
abbrev pub components_changed : List Entry → Act → List (List ℕ × Option Lead)
components_changed book (Flown s) = leads_moved book s (behind s.off (movements book s.tail))
components_changed book act = cons_option (component_changed book act) []

-- what an entry changes
pub record AreLivesChanged (book : List Entry) (entry : Entry) (changes : LifeChanges) : Type 0 where
  pub airframe_is : changes.airframe ≡ airframe_changed book entry.act
  pub components_are : changes.components.items ≡ components_changed book entry.act

-- the maps have the life of each airframe, and the lead of each component
pub record AreLives (book : List Entry) (maps : Lives) : Type 0 where
  pub airframes_are : IsIndex (slice_cmp nat_cmp) None (airframe_life book) maps.airframes
  pub components_are : IsIndex (slice_cmp nat_cmp) None (lead book) maps.components

-- each map has room for its changes
pub record LivesHaveRoom (changes : LifeChanges) (maps : Lives) : Type 0 where
  pub for_airframe : HasRoom (slice_cmp nat_cmp) changes.airframe maps.airframes
  pub for_components : HasRoomForAll (slice_cmp nat_cmp) changes.components.items maps.components
