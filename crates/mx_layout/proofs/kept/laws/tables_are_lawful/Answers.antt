use Rattle.mx_layout.proofs.KeptProofs.EachLawful.{each_lawful}
use Rattle.mx_layout.proofs.kept.laws.tables_are_lawful.Goals as goal

pub returns : goal.returns
returns c = each_lawful
