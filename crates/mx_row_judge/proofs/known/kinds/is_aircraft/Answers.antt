use Rattle.std.proofs.Common.{◌&&◌, ◌∙◌, ap, inr, sym}
use Rattle.mx_book.specs.commands.Act.{Added}
use Rattle.mx_lookups.proofs.NumbersProofs.Composed.{behind, hands}
use Rattle.mx_row_judge.proofs.KnownProofs.KnownLemmas.{both_tell, said}
use Rattle.mx_row_judge.proofs.known.kinds.is_aircraft.Goals as goal

pub returns-then-same : goal.returns-then-same
returns-then-same g c = record { looks_up = said c.args.seq (Added c.args.aircraft c.args.positions.now) (both_tell c.in_ok-same.ensures.looks_up c.in_ok-on_lines.ensures.looks_up (ap (λ one. one && c.in_ok-on_lines.on_lines) (sym c.if-same.true))) }

pub returns-else-same : goal.returns-else-same
returns-else-same g c = record { looks_up = said c.args.seq (Added c.args.aircraft c.args.positions.now) (both_tell c.in_ok-same.ensures.looks_up c.in_ok-on_lines.ensures.looks_up (c.if-same.false ∙ ap (λ one. one && c.in_ok-on_lines.on_lines) (sym c.if-same.false))) }

pub returns-in_err-on_lines : goal.returns-in_err-on_lines
returns-in_err-on_lines g c = record { looks_up = hands c.from_residual-in_err-on_lines.ensures.1 (λ _ _ it. inr it.1) (behind c.in_ok-same.ensures.looks_up c.in_err-on_lines.ensures.looks_up) }
