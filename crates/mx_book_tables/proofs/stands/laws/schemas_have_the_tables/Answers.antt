use Rattle.mx_book_tables.proofs.StandsProofs.SchemaLemmas.{has_tables}
use Rattle.mx_book_tables.proofs.stands.laws.schemas_have_the_tables.Goals as goal

pub returns : goal.returns
returns c = has_tables
