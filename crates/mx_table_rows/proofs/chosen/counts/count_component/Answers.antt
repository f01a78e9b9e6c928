use Rattle.mx_table_rows.proofs.ChosenProofs.CountTexts.{count_component_counts}
use Rattle.mx_table_rows.proofs.chosen.counts.count_component.Goals as goal

pub returns-clause-counts : goal.returns-clause-counts
returns-clause-counts g c = c.count_rows.ensures.counts count_component_counts
