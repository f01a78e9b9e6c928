-- The keys of a form, a value that may be absent, and the whole numbers that are taken.
use Rattle.std.specs.Prelude.{ℕ, ◌^◌, List, Bool, nat_lt, Option, Some, None, option_map, if◌then◌else◌}
use Rattle.std.specs.List.{list_any}
use Rattle.std.specs.Str.{bytes_eq}

-- the text is one of the keys
abbrev pub is_key : List (List ℕ) → List ℕ → Bool
is_key keys text = list_any (λ key. bytes_eq key text) keys

-- what is read of a value that may be absent: nothing of one that is
abbrev pub if_there : {V A : Type 0} → (V → Option A) → Option V → Option (Option A)
if_there read None = Some None
if_there read (Some v) = option_map (λ a. Some a) (read v)

-- the number, where it is below 2 ^ 32
abbrev pub if_small : ℕ → Option ℕ
if_small n = if nat_lt n (2 ^ 32) then Some n else None
