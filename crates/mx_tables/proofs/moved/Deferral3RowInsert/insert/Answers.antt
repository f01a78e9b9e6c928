use Rattle.std.proofs.Common.{rules}
use Rattle.mx_tables.proofs.InsertsProofs.BoundLemmas.{one_by_one, bound-number_or_null}
use Rattle.mx_tables.proofs.moved.Deferral3RowInsert.insert.Goals as goal

pub insert_values-requires : goal.insert_values-requires
insert_values-requires g c = one_by_one _ _ (search (rules, bound-number_or_null))
