use Rattle.mx_promise.proofs.again.printed_from.Goals as goal

pub returns-clause-goes_on : goal.returns-clause-goes_on
returns-clause-goes_on g c ready = record { ready = c.print_due-printed.ensures.goes_on ready; stopped = c.print_due-printed.ensures.stopped }
