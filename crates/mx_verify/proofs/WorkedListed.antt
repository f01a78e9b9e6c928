-- Worked rows: the tables that a file which is verified has.
use Rattle.std.proofs.Common.{refl, ◌≡◌, true, length}
use Rattle.std.specs.List.{list_all}
use Rattle.mx_layout.specs.Tables.{no_schema}
use Rattle.mx_book_tables.specs.reading.Layout.{verified_point}
use Rattle.mx_book_tables.specs.stands.Family.{is_at}
use Rattle.mx_verify.specs.Listed.{lacks, verified_names}

-- sixteen tables, each of which a file at the newest layout has
how_many : length verified_names ≡ 16
how_many = refl

each_is_there : list_all (is_at verified_point) verified_names ≡ true
each_is_there = refl

in_an_empty_database_each_is : list_all (lacks no_schema) verified_names ≡ true
in_an_empty_database_each_is = refl
