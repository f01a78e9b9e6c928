use Rattle.std.proofs.Common.{sym, ◌∙◌}
use Rattle.mx_book.proofs.JudgeLemmas.{refused_new}
use Rattle.mx_book.proofs.Chaining.{first, then, done}
use Rattle.mx_book.proofs.judging.judging.verdict_on.Goals as goal

pub returns-in-Some : goal.returns-in-Some
returns-in-Some g c =
    done _ _ (then (first c.in_ok-seq.ensures) c.in_ok-why-in-None.ensures)
    (λ book is. refused_new book c.args.command.now c.in-Some.why (sym c.in-None.is ∙ is.0) (sym c.in-Some.is ∙ is.1))
