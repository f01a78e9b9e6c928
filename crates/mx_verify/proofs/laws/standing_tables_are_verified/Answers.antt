use Rattle.std.proofs.Common.{[], ap}
use Rattle.sqlite.specs.Schema.{Schema}
use Rattle.mx_book_tables.specs.stands.Schemas.{indexes_at}
use Rattle.mx_book_tables.specs.reading.Layout.{verified_point}
use Rattle.mx_verify.proofs.laws.standing_tables_are_verified.Goals as goal

pub returns : goal.returns
returns c = λ db book is stands. (record { rest = []; more = indexes_at verified_point; is = is }, (ap (λ (s : Schema). s.tables) is, (book, stands.rows)))
