use Rattle.std.proofs.Common.{◌∙◌}
use Rattle.mx_row_rules.proofs.FoundProofs.CrossingLemmas.{found_held}
use Rattle.mx_row_rules.proofs.found.crossings.overlapped_in.Goals as goal

pub returns : goal.returns
returns c = c.first_under_way.ensures ∙ found_held c.args.sector.now c.args.rows.now
