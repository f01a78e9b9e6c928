-- What a command says, as the code has it in one value.
use Rattle.mx_book.specs.commands.Act.{Act, Added, Listed, Loaded, Opened, Flown, Fitted, Removed, Released, Deferred, Extended}
use Rattle.mx_book.specs.declared.commands.said.Said.{Said}
use Rattle.mx_book.specs.declared.commands.said.Said.TheVariants as said

-- what is said by the value
abbrev pub act_said : Said → Act
act_said (said.Aircraft aircraft positions) = Added aircraft positions.now
act_said (said.Component component) = Listed component
act_said (said.Programme programme tasks) = Loaded programme tasks.now
act_said (said.Opening opening) = Opened opening
act_said (said.Sector sector) = Flown sector
act_said (said.Fitting fitting) = Fitted fitting
act_said (said.Removal removal) = Removed removal
act_said (said.Release release lines) = Released release lines.now
act_said (said.Deferral deferral) = Deferred deferral
act_said (said.Extension extension) = Extended extension
