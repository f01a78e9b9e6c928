use Rattle.std.proofs.Common.{inl, inr}
use Rattle.mx_layout.proofs.KeptProofs.SchemaLemmas.{own_2_moved, moved_defects, moved_sectors, moved_spans, stayed_sectors, stayed_spans, coming_own_2, all_3_stayed, all_3_bases, all_3_defects, deferrals_come, accomplishments_come}
use Rattle.mx_layout.proofs.kept.laws.later_points_have_their_tables.Goals as goal

pub returns : goal.returns
returns c =
    let own = coming_own_2 _ deferrals_come in
    let moved = own_2_moved _ own in
    let stayed = all_3_stayed _ accomplishments_come in
    record {
      own_with_deferrals = own;
      old_deferrals = moved_defects _ moved;
      sectors_with_deferrals = moved_sectors _ moved;
      spans_with_deferrals = moved_spans _ moved;
      totals_with_deferrals = inl moved;
      bases_with_deferrals = inl own;
      deferrals = inl deferrals_come;
      sectors_with_accomplishments = stayed_sectors _ stayed;
      spans_with_accomplishments = stayed_spans _ stayed;
      totals_with_accomplishments = inr stayed;
      bases_with_accomplishments = all_3_bases _ accomplishments_come;
      deferrals_with_accomplishments = all_3_defects _ accomplishments_come;
      accomplishments = inl accomplishments_come;
    }
