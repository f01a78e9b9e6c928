use Rattle.mx_tables.proofs.ColumnLemmas.{none_weaker, graphic_utf8}
use Rattle.mx_tables.proofs.column.graphic_at.Goals as goal

pub returns : goal.returns
returns g c = none_weaker _ _ _ c.identifier_at.result (λ none t name. none t name (graphic_utf8 g.row.N t name)) c.identifier_at.ensures
