use Rattle.mx_row_rules.proofs.FoundProofs.DeferralLemmas.{extension_is, no_extension, not_rectified, rectified_is}
use Rattle.mx_row_rules.proofs.found.defects.extensions_and_rectifications_are_found.Goals as goal

pub returns : goal.returns
returns c = record {
  extension = λ book doc n b h. extension_is book b doc n h;
  rectified = λ book doc n b h. rectified_is book b doc n h;
  no_extension = λ book doc b h. no_extension book b doc h;
  not_rectified = λ book doc b h. not_rectified book b doc h;
}
