use Rattle.std.proofs.Common.{◌≡◌, ◌∷◌, filter, map, take}
use Rattle.mx_base.specs.declared.rows.rows.SpanRow.{SpanRow}
use Rattle.mx_base.specs.rows.Spans.{has_between}
use Rattle.mx_apply.proofs.made.commands.numbers_flown.Given as goal

-- the numbers so far
abbrev pub invariant-spans : goal.invariant-spans
invariant-spans l = l.numbers.items ≡ l.aircraft ∷ map (λ (row : SpanRow). row.component) (filter (λ (row : SpanRow). has_between l.sector.off l.sector.on row.from row.to) (take l.span-index l.spans))
