-- What is printed where connections were served.
use Rattle.std.specs.Prelude.{ℕ, List, [], ◌∷◌, ◌++◌, codes}
use Rattle.std.specs.Fmt.{decimal}

-- served COUNT
abbrev pub served_line : ℕ → List ℕ
served_line count = codes "served " ++ (decimal count ++ 10 ∷ [])
