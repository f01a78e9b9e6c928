use Rattle.mx_tables.proofs.ColumnLemmas.{none_weaker, tail_utf8}
use Rattle.mx_tables.proofs.column.tail_at.Goals as goal

pub returns : goal.returns
returns c = none_weaker _ _ _ c.identifier_at.result (λ none t name. none t name (tail_utf8 8 t name)) c.identifier_at.ensures
