use Rattle.std.proofs.Common.{Vec, refl}
use Rattle.std.specs.declared.alloc.Global.{Global}
use Rattle.mx_book.specs.declared.defects.Defect.{Defect}
use Rattle.mx_lists.specs.Fleet.{all_open}
use Rattle.mx_row_judge.specs.Answering.{AnswerListsAs}
use Rattle.mx_row_judge.proofs.ListLemmas.{gives_list, gives_none}
use Rattle.mx_lookups.proofs.NumbersProofs.ToldLemmas.{told_as}
use Rattle.mx_row_judge.specs.Damage.{ListDamage, by_all_open_defects}
use Rattle.mx_row_judge.proofs.lists.RowsListQuestionsListRecords.all_open_defects.Goals as goal

pub returns-in-Ok : goal.returns-in-Ok
returns-in-Ok g c =
    gives_list g.S.Store AnswerListsAs ListDamage (λ (it : Vec Defect Global). it.items) (λ book. all_open book) _ _ _ (λ trees book answers. answers.all_open_defects) (record { tx = refl; conn = c.all_open_defects.ensures.looks_up.same_reference }) _
    c.in-Ok.ensures.looks_up.reads c.in-Ok.ensures.looks_up.any_rows

pub returns-in-Err : goal.returns-in-Err
returns-in-Err g c =
    gives_none g.S.Store AnswerListsAs ListDamage (λ (it : Vec Defect Global). it.items) (λ book. all_open book) _ _ _ (λ trees book answers. answers.all_open_defects) (record { tx = refl; conn = c.all_open_defects.ensures.looks_up.same_reference }) _
    c.in-Err.ensures.looks_up.reads (told_as (λ name trees it. by_all_open_defects it) c.in-Err.ensures.looks_up.damage)
