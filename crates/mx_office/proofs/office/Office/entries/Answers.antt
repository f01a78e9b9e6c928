use Rattle.std.proofs.Common.{◌≡◌, sym, ◌∙◌}
use Rattle.mx_book.specs.Book.{entries_from}
use Rattle.mx_office.proofs.LookLemmas.{call_damaged, call_of_book}
use Rattle.mx_office.proofs.office.Office.entries.Goals as goal

pub returns-clause-damaged : goal.returns-clause-damaged
returns-clause-damaged g c clean has table same = c.entries_found.ensures.looks.damaged clean has table (call_damaged c.entries_found.result table (sym c.call_answer-answer.ensures ∙ same))

pub returns-clause-exact : goal.returns-clause-exact
returns-clause-exact g c schema settled book ready rests clean =
    rw c.call_answer-answer.ensures (call_of_book (λ v. v.items ≡ entries_from c.args.from c.args.at_most book) c.entries_found.result (c.entries_found.ensures.looks.of_book schema settled book rests clean))
