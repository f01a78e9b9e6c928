use Rattle.mx_table_rows.proofs.ChosenProofs.LastLemmas.{last_tells}
use Rattle.mx_table_rows.proofs.chosen.counts.last_entry_tells_the_count.Goals as goal

pub returns : goal.returns
returns c = last_tells
