use Rattle.std.proofs.Common.{◌≡◌, length}
use Rattle.mx_tables.proofs.ColumnLemmas.{columns_are}
use Rattle.mx_tables.proofs.column.has_columns.Goals as goal

pub returns-then-column_count-count : goal.returns-then-column_count-count
returns-then-column_count-count c =
    let count : length c.args.row.now ≡ c.args.count = cc in
    (count, columns_are c.args.count c.args.row.now count)
