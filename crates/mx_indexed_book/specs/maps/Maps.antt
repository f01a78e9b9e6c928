-- Maps of answers: what one has at a key, and what a change of one key makes of it.
use Rattle.std.specs.Prelude.{◌≡◌, List, [], ◌∷◌, Option, Some, None, IsSome, if◌then◌else◌, unwrap_or}
use Rattle.std.specs.Ordering.{is_eq}
use Rattle.std.specs.declared.cmp.Ordering.{Ordering}
use Rattle.std.specs.BTreeMap.{BTreeMap, get}

-- what a map has at a key, or this where it has no row
abbrev pub held : {K V : Type 0} → (K → K → Ordering) → V → BTreeMap K V → K → V
held cmp none map key = unwrap_or (get cmp map key) none

-- what stands at a key behind a change of one key, where there is one
abbrev pub changed : {K V : Type 0} → (K → K → Ordering) → Option (K × V) → K → V → V
changed cmp None key value = value
changed cmp (Some change) key value = if is_eq (cmp change.0 key) then change.1 else value

-- the map has a row for the key of a change, where there is one
abbrev pub HasRoom : {K V : Type 0} → (K → K → Ordering) → Option (K × V) → BTreeMap K V → Type 0
HasRoom cmp None map = Unit {0}
HasRoom cmp (Some change) map = IsSome (get cmp map change.0)

-- a map has the answer to each key
abbrev pub IsIndex : {K V : Type 0} → (K → K → Ordering) → V → (K → V) → BTreeMap K V → Type 0
IsIndex {K = K} cmp none answer map = (key : K) → held cmp none map key ≡ answer key

-- what stands at a key behind some changes, one after the other
abbrev pub changed_all : {K V : Type 0} → (K → K → Ordering) → List (K × V) → K → V → V
changed_all cmp [] key value = value
changed_all cmp (change ∷ changes) key value = changed_all cmp changes key (changed cmp (Some change) key value)

-- the map has a row for the key of each change
abbrev pub HasRoomForAll : {K V : Type 0} → (K → K → Ordering) → List (K × V) → BTreeMap K V → Type 0
HasRoomForAll cmp [] map = Unit {0}
HasRoomForAll cmp (change ∷ changes) map = IsSome (get cmp map change.0) × HasRoomForAll cmp changes map

-- each row of a map is one of the other
abbrev pub KeepsRows : {K V : Type 0} → (K → K → Ordering) → BTreeMap K V → BTreeMap K V → Type 0
KeepsRows {K = K} cmp old new = (key : K) → IsSome (get cmp old key) → IsSome (get cmp new key)
