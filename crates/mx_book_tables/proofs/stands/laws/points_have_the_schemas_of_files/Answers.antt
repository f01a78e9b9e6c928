use Rattle.mx_book_tables.proofs.StandsProofs.SchemaLemmas.{file_schema, point_schema}
use Rattle.mx_book_tables.proofs.stands.laws.points_have_the_schemas_of_files.Goals as goal

pub returns : goal.returns
returns c = record { files = file_schema; later = point_schema }
