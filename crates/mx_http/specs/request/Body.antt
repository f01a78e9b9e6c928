-- The body of a request.
use Rattle.std.specs.Prelude.{ℕ, ◌-◌, List, length, take, nat_le, Option, Some, None, if◌then◌else◌}

-- how many bytes of a body of so many are not there yet, where it begins so
abbrev pub missing : ℕ → List ℕ → ℕ
missing n begun = n - length begun

-- the first so many bytes, where there are as many
abbrev pub whole_body : ℕ → List ℕ → Option (List ℕ)
whole_body n bytes = if nat_le n (length bytes) then Some (take n bytes) else None
