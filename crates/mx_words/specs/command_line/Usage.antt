-- What the words ask for where they give no job.
use Rattle.std.specs.Prelude.{◌≡◌, ◌⊎◌}
use Rattle.clap.specs.Values.{kind_of}
use Rattle.clap.specs.declared.error.Error.{Error}
use Rattle.clap.specs.declared.error.kind.ErrorKind.TheVariants.{DisplayHelp, DisplayVersion}

-- the words ask for help or for the version
abbrev pub IsRequest : Error → Type 0
IsRequest error = (kind_of error ≡ DisplayHelp) ⊎ (kind_of error ≡ DisplayVersion)
