-- What was fitted to each aircraft and removed from it, in maps, and what an entry adds to that. The movements of an aircraft stand from the last one back.
use Rattle.std.specs.Prelude.{ℕ, ◌+◌, ◌-◌, nat_eq, nat_lt, length, List, [], ◌∷◌, ◌++◌, Bool, true, false, not, Option, Some, None, if◌then◌else◌}
use Rattle.std.specs.Option.{option_and_then, option_map}
use Rattle.std.specs.declared.cmp.Ordering.{Ordering}
use Rattle.std.specs.Ordering.{nat_cmp, ordering_then}
use Rattle.std.specs.Cmp.Lexicographic.{slice_cmp}
use Rattle.mx_book.specs.commands.Act.{Act, Entry, Fitted, Removed}
use Rattle.mx_book.specs.commands.Same.{same_text}
use Rattle.mx_book.specs.Span.{tail_fitted}
use Rattle.mx_indexed_book.specs.maps.Maps.{HasRoom, IsIndex}
use Rattle.mx_indexed_book.specs.declared.maps.movements.Movement.{Movement}
use Rattle.mx_indexed_book.specs.declared.maps.movements.MovementChanges.{MovementChanges}
use Rattle.mx_indexed_book.specs.declared.maps.movements.Movements.{Movements}

-- the aircraft to which an entry fits a component, or from which it removes one, and that movement
abbrev pub movement : List Entry → Act → Option (List ℕ × Movement)
movement book (Fitted f) = Some (f.tail, record { serial = f.serial; moment = f.moment; is_fitting = true })
movement book (Removed r) = option_map (λ tail. (tail, record { serial = r.serial; moment = r.moment; is_fitting = false })) (tail_fitted book r.serial)
movement book _ = None

-- the movement before others, where it is of the aircraft
abbrev pub with_movement : List ℕ → Option (List ℕ × Movement) → List Movement → List Movement
with_movement tail None others = others
with_movement tail (Some given) others = if same_text given.0 tail then given.1 ∷ others else others

-- the movements of an aircraft by some entries behind others, from the last one back, before those
abbrev pub movements_from : List ℕ → List Entry → List Entry → List Movement → List Movement
movements_from tail before [] earlier = earlier
movements_from tail before (entry ∷ later) earlier = movements_from tail (before ++ entry ∷ []) later (with_movement tail (movement before entry.act) earlier)

-- the movements of an aircraft, from the last one back
abbrev pub movements : List Entry → List ℕ → List Movement
movements book tail = movements_from tail [] book []

-- of movements from the last one back the last ones that came behind a moment
abbrev pub behind : ℕ → List Movement → List Movement
behind moment [] = []
behind moment (m ∷ earlier) = if nat_lt moment m.moment then m ∷ behind moment earlier else []

-- whether a component was fitted before some movements from the last one back, where it is now or is not
abbrev pub fitted_before : List ℕ → Bool → List Movement → Bool
fitted_before serial now [] = now
fitted_before serial now (m ∷ earlier) = fitted_before serial (if same_text m.serial serial then not m.is_fitting else now) earlier

-- the movement behind so many others
abbrev pub at_place : List Movement → ℕ → Option Movement
at_place [] place = None
at_place (m ∷ earlier) place = if nat_eq (length earlier) place then Some m else at_place earlier place

-- the last of so many movements, where it came behind a moment
abbrev pub last_behind : ℕ → List Movement → ℕ → Option Movement
last_behind moment ms count = option_and_then (λ m. if nat_lt moment m.moment then Some m else None) (if nat_eq count 0 then None else at_place ms (count - 1))

-- ── in maps ──

-- the order of places: by the aircraft, and then by how many there are before
abbrev pub place_cmp : List ℕ × ℕ → List ℕ × ℕ → Ordering
place_cmp a b = ordering_then (slice_cmp nat_cmp a.0 b.0) (nat_cmp a.1 b.1)

-- how many movements of an aircraft there are
abbrev pub movement_count : List Entry → List ℕ → ℕ
movement_count book tail = length (movements book tail)

-- the movement of an aircraft behind so many others
abbrev pub movement_at : List Entry → List ℕ × ℕ → Option Movement
movement_at book place = at_place (movements book place.0) place.1

-- the count that an entry changes, and the movement that it adds
abbrev pub count_changed : List Entry → Option (List ℕ × Movement) → Option (List ℕ × ℕ)
count_changed book given = option_map (λ to. (to.0, movement_count book to.0 + 1)) given

abbrev pub movement_added : List Entry → Option (List ℕ × Movement) → Option ((List ℕ × ℕ) × Option Movement)
movement_added book given = option_map (λ to. ((to.0, movement_count book to.0), Some to.1)) given

-- what an entry changes
abbrev pub movements_changed : List Entry → Entry → MovementChanges
movements_changed book entry = record {
  count = count_changed book (movement book entry.act);
  added = movement_added book (movement book entry.act);
}

-- the maps have how many movements of each aircraft there are, and each at its place
pub record AreMovements (book : List Entry) (maps : Movements) : Type 0 where
  pub counts_are : IsIndex (slice_cmp nat_cmp) 0 (movement_count book) maps.counts
  pub placed_are : IsIndex place_cmp None (movement_at book) maps.placed

-- each map has room for its change
pub record MovementsHaveRoom (changes : MovementChanges) (maps : Movements) : Type 0 where
  pub for_count : HasRoom (slice_cmp nat_cmp) changes.count maps.counts
  pub for_added : HasRoom place_cmp changes.added maps.placed
