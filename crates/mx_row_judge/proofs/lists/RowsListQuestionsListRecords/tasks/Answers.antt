use Rattle.std.proofs.Common.{Vec, refl}
use Rattle.std.specs.declared.alloc.Global.{Global}
use Rattle.mx_book.specs.declared.commands.programme.Task.{Task}
use Rattle.mx_book.specs.Programme.{tasks_or_none}
use Rattle.mx_row_judge.specs.Answering.{AnswerListsAs}
use Rattle.mx_row_judge.proofs.ListLemmas.{gives_list, gives_none}
use Rattle.mx_lookups.proofs.NumbersProofs.ToldLemmas.{told_as}
use Rattle.mx_row_judge.specs.Damage.{ListDamage, by_tasks}
use Rattle.mx_row_judge.proofs.lists.RowsListQuestionsListRecords.tasks.Goals as goal

pub returns-in-Ok-clause-answers : goal.returns-in-Ok-clause-answers
returns-in-Ok-clause-answers g c =
    gives_list g.S.Store AnswerListsAs ListDamage (λ (it : Vec Task Global). it.items) (λ book. tasks_or_none book c.args.kind.now) _ _ _ (λ trees book answers. answers.tasks c.args.kind.now) (record { tx = refl; conn = c.tasks.ensures.looks_up.same_reference }) _
    c.in-Ok.ensures.looks_up.reads c.in-Ok.ensures.looks_up.any_rows

pub returns-in-Err-clause-answers : goal.returns-in-Err-clause-answers
returns-in-Err-clause-answers g c =
    gives_none g.S.Store AnswerListsAs ListDamage (λ (it : Vec Task Global). it.items) (λ book. tasks_or_none book c.args.kind.now) _ _ _ (λ trees book answers. answers.tasks c.args.kind.now) (record { tx = refl; conn = c.tasks.ensures.looks_up.same_reference }) _
    c.in-Err.ensures.looks_up.reads (told_as (λ name trees it. by_tasks c.args.kind.now it) c.in-Err.ensures.looks_up.damage)
