use Rattle.mx_book_tables.proofs.StandsProofs.SchemaLemmas.{settled_schema}
use Rattle.mx_book_tables.proofs.stands.laws.settled_schemas.Goals as goal

pub returns : goal.returns
returns c = settled_schema
