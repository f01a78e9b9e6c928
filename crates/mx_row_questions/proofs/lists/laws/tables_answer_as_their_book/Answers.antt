use Rattle.mx_row_questions.proofs.ListsProofs.ListStanding.{answer_lists_as}
use Rattle.mx_row_questions.proofs.lists.laws.tables_answer_as_their_book.Goals as goal

pub returns : goal.returns
returns c = answer_lists_as
