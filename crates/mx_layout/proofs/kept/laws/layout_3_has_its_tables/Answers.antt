use Rattle.std.proofs.Common.{inr}
use Rattle.mx_layout.proofs.KeptProofs.SchemaLemmas.{layout_3_has, own_3_defects, own_3_stayed, stayed_sectors, stayed_spans}
use Rattle.mx_layout.proofs.kept.laws.layout_3_has_its_tables.Goals as goal

pub returns : goal.returns
returns c =
    let stayed = own_3_stayed _ layout_3_has in
    record { own = layout_3_has; sectors = stayed_sectors _ stayed; spans = stayed_spans _ stayed; totals = inr stayed; deferrals = own_3_defects _ layout_3_has; accomplishments = inr layout_3_has }
