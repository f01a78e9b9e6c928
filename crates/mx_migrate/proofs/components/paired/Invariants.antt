use Rattle.std.proofs.Common.{◌≡◌, List, ◌++◌, Result, Ok, Err, length}
use Rattle.mx_base.specs.declared.rows.rows.SpanRow.{SpanRow}
use Rattle.mx_layout.specs.TableName.{TableName}
use Rattle.mx_moves.specs.steps.Pairing.{paired}
use Rattle.mx_migrate.proofs.components.paired.Given as goal

-- spans in front of others, where there are any
abbrev behind : List SpanRow → Result (List SpanRow) TableName → Result (List SpanRow) TableName
behind spans (Err name) = Err name
behind spans (Ok more) = Ok (spans ++ more)

-- the spans so far, and then those of what is left
abbrev pub invariant-loop-fitting : goal.invariant-loop-fitting
invariant-loop-fitting l = paired l.fittings l.removals ≡ behind l.spans.items (paired l.rest l.left)

abbrev pub decreases-loop-fitting : goal.decreases-loop-fitting
decreases-loop-fitting l = length l.rest
