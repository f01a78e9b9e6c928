use Rattle.std.proofs.Common.{◌≡◌, ◌∷◌, map, take}
use Rattle.mx_base.specs.declared.rows.rows.SpanRow.{SpanRow}
use Rattle.mx_apply.proofs.made.commands.numbers_removed.Given as goal

-- the numbers so far
abbrev pub invariant-spans : goal.invariant-spans
invariant-spans l = l.numbers.items ≡ l.component ∷ map (λ (row : SpanRow). row.aircraft) (take l.span-index l.spans)
