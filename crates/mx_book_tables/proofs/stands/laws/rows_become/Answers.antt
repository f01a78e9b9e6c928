use Rattle.mx_book_tables.proofs.StandsProofs.ChangeLemmas.{become, become_at, brings}
use Rattle.mx_book_tables.proofs.stands.laws.rows_become.Goals as goal

pub returns-clause-rows : goal.returns-clause-rows
returns-clause-rows c = become

pub returns-clause-registers : goal.returns-clause-registers
returns-clause-registers c layout name is register there = brings layout is name register there

pub returns-clause-tables : goal.returns-clause-tables
returns-clause-tables c layout name is there = become_at layout is name there
