use Rattle.mx_book_tables.proofs.StandsProofs.RowLemmas.{readable_stored}
use Rattle.mx_book_tables.proofs.stands.laws.rows_are_readable.Goals as goal

pub returns : goal.returns
returns c at trees book name has there = readable_stored at trees book has name there
