-- After how many days a due is reached, at a rate a day.
use Rattle.std.specs.Prelude.{◌≡◌, ℕ, zero, suc, ◌+◌, ◌*◌, ◌≤◌, ℤ, pos, int_le, Bool, true, false, ◌||◌, Option, Some, None, if◌then◌else◌}
use Rattle.std.specs.Option.{option_map_or}
use Rattle.mx_base.specs.declared.amounts.Left.{Left}

-- so many days at a rate use up what is left
abbrev pub reaches : ℕ → ℤ → ℕ → Bool
reaches rate left n = int_le left (pos (n * rate))

-- in a dimension that may have no due
abbrev pub reaches_in : ℕ → Option ℤ → ℕ → Bool
reaches_in rate left n = option_map_or (λ z. reaches rate z n) left false

-- so many days at these minutes and cycles a day use up what is left in some dimension
abbrev pub reaches_some : ℕ → ℕ → Left → ℕ → Bool
reaches_some minutes cycles left n =
    reaches_in minutes left.minutes n || (reaches_in cycles left.cycles n || reaches_in 1 left.days n)

-- n is the least number that passes the test
pub record IsLeast (test : ℕ → Bool) (n : ℕ) : Type 0 where
  pub passes : test n ≡ true
  pub least : (m : ℕ) → test m ≡ true → n ≤ m

-- the least number that passes the test, or none where no number does
abbrev pub IsLeastIfAny : (ℕ → Bool) → Option ℕ → Type 0
IsLeastIfAny test None = (n : ℕ) → test n ≡ false
IsLeastIfAny test (Some n) = IsLeast test n

-- the least number from k on that passes the test, among so many
abbrev pub least_from : (ℕ → Bool) → ℕ → ℕ → Option ℕ
least_from test k zero = None
least_from test k (suc more) = if test k then Some k else least_from test (k + 1) more

-- the least number from 0 to the greatest that passes the test
abbrev pub least_up_to : ℕ → (ℕ → Bool) → Option ℕ
least_up_to greatest test = least_from test 0 (greatest + 1)
