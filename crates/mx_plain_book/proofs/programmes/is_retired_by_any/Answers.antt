use Rattle.std.proofs.Common.{rules}
use Rattle.std.proofs.lemmas.Iterator.{YieldsList-from_slice}
use Rattle.std.proofs.lemmas.Iterator.Adapters.{serves_from_places}
use Rattle.mx_book.proofs.ListLemmas.{passes_at}
use Rattle.mx_book.specs.commands.Programme.{task_shape}
use Rattle.mx_plain_book.proofs.programmes.is_retired_by_any.Goals as goal

pub any-requires-clause-callable : goal.any-requires-clause-callable
any-requires-clause-callable c =
    serves_from_places (YieldsList-from_slice c.args.tasks.now cc) (λ x q r. search rules)
    (λ x k low is. let shaped = passes_at task_shape c.args.tasks.now c.requires x.now k low is in search rules)
