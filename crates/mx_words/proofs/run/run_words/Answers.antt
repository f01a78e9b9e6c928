use Rattle.std.proofs.Common.{inl}
use Rattle.mx_words.proofs.run.run_words.Goals as goal

pub returns-in-Err-2-clause-done : goal.returns-in-Err-2-clause-done
returns-in-Err-2-clause-done g c = λ none. inl (c.in-Err.error, c.print_usage.ensures.help none)
