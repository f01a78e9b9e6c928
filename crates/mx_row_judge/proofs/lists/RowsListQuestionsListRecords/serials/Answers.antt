use Rattle.std.proofs.Common.{ℕ, List, Vec, refl}
use Rattle.std.specs.declared.alloc.Global.{Global}
use Rattle.mx_lists.specs.Inventory.{serials}
use Rattle.mx_row_judge.specs.Answering.{AnswerListsAs}
use Rattle.mx_row_judge.proofs.ListLemmas.{gives_list, gives_none}
use Rattle.mx_lookups.proofs.NumbersProofs.ToldLemmas.{told_as}
use Rattle.mx_row_judge.specs.Damage.{ListDamage, by_serials}
use Rattle.mx_row_judge.proofs.lists.RowsListQuestionsListRecords.serials.Goals as goal

pub returns-in-Ok : goal.returns-in-Ok
returns-in-Ok g c =
    gives_list g.S.Store AnswerListsAs ListDamage (λ (it : Vec (List ℕ) Global). it.items) (λ book. serials book) _ _ _ (λ trees book answers. answers.serials) (record { tx = refl; conn = c.serials.ensures.looks_up.same_reference }) _
    c.in-Ok.ensures.looks_up.reads c.in-Ok.ensures.looks_up.any_rows

pub returns-in-Err : goal.returns-in-Err
returns-in-Err g c =
    gives_none g.S.Store AnswerListsAs ListDamage (λ (it : Vec (List ℕ) Global). it.items) (λ book. serials book) _ _ _ (λ trees book answers. answers.serials) (record { tx = refl; conn = c.serials.ensures.looks_up.same_reference }) _
    c.in-Err.ensures.looks_up.reads (told_as (λ name trees it. by_serials it) c.in-Err.ensures.looks_up.damage)
