use Rattle.std.proofs.Common.{inl, inr}
use Rattle.mx_layout.proofs.KeptProofs.SchemaLemmas.{moving_defects, own_1_defects, own_2_moved, moved_defects, moved_sectors, moved_spans, first_stay, sectors_come, spans_come, totals_come, bases_come}
use Rattle.mx_layout.proofs.kept.laws.points_have_their_tables.Goals as goal

pub returns : goal.returns
returns c = record {
  own_with_sectors = first_stay;
  deferrals_with_sectors = own_1_defects _ first_stay;
  fittings_with_sectors = inl first_stay;
  sectors = inl sectors_come;
  fittings_with_spans = inr spans_come;
  deferrals_with_spans = moving_defects _ spans_come;
  sectors_with_spans = inr (inl spans_come);
  spans = inl spans_come;
  sectors_with_totals = moved_sectors _ totals_come;
  spans_with_totals = moved_spans _ totals_come;
  totals = inl totals_come;
  deferrals_with_totals = moved_defects _ totals_come;
  bases = bases_come;
  deferrals_with_bases = moved_defects _ (own_2_moved _ bases_come);
  last_bases = inl bases_come;
}
