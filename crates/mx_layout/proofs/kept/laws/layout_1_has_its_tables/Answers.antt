use Rattle.mx_layout.proofs.KeptProofs.SchemaLemmas.{layout_1_has, own_1_defects}
use Rattle.mx_layout.proofs.kept.laws.layout_1_has_its_tables.Goals as goal

pub returns : goal.returns
returns c = record { own = layout_1_has; deferrals = own_1_defects _ layout_1_has }
