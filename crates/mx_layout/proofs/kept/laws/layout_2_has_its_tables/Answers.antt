use Rattle.std.proofs.Common.{inl}
use Rattle.mx_layout.proofs.KeptProofs.SchemaLemmas.{layout_2_has, own_2_moved, moved_defects, moved_sectors, moved_spans}
use Rattle.mx_layout.proofs.kept.laws.layout_2_has_its_tables.Goals as goal

pub returns : goal.returns
returns c =
    let moved = own_2_moved _ layout_2_has in
    record { own = layout_2_has; deferrals = moved_defects _ moved; sectors = moved_sectors _ moved; spans = moved_spans _ moved; totals = inl moved; bases = inl layout_2_has }
