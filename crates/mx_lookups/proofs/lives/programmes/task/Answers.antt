use Rattle.std.proofs.Common.{◌∙◌, ◌≡◌, None, Some, Vec, ap, subst, sym, true}
use Rattle.std.specs.List.{list_all}
use Rattle.std.specs.Option.{option_map}
use Rattle.std.specs.Prelude.{IfSome}
use Rattle.std.specs.declared.alloc.Global.{Global}
use Rattle.mx_book.specs.commands.Programme.{task_shape}
use Rattle.mx_registers.specs.Merge.{task_said}
use Rattle.mx_base.specs.declared.rows.rows.TaskRow.{TaskRow}
use Rattle.mx_row_rules.specs.found.Programmes.{task_in}
use Rattle.mx_lookups.proofs.LivesProofs.InForceLemmas.{task_found, task_shaped}
use Rattle.mx_lookups.proofs.NumbersProofs.Composed.{answers, hands}
use Rattle.mx_lookups.proofs.lives.programmes.task.Goals as goal

pub returns-in-Some-clause-looks_up : goal.returns-in-Some-clause-looks_up
returns-in-Some-clause-looks_up g c =
    let id = c.args.id.now in
    let those = ap (option_map (λ (rows : Vec TaskRow Global). rows.items)) c.in-Some.is in
    let made = ap Some (c.task_in.ensures ∙ ap (λ rows. task_in rows id) c.deref.ensures.value) in
    answers c.in_ok-found.ensures.looks_up (λ book b found. made ∙ task_found book c.args.kind.now id _ b (sym those ∙ found)) (λ _ found. (_, found, made ∙ sym (ap (option_map (λ rows. task_in rows id)) those)))

pub returns-in-Some-clause-shape : goal.returns-in-Some-clause-shape
returns-in-Some-clause-shape g c =
    let id = c.args.id.now in
    let shaped = subst (λ o. IfSome o (λ (rows : Vec TaskRow Global). list_all (λ (row : TaskRow). task_shape (task_said row)) rows.items ≡ true)) c.in-Some.is c.in_ok-found.ensures.shape in
    subst (λ o. IfSome o (λ t. task_shape t ≡ true)) (sym (c.task_in.ensures ∙ ap (λ rows. task_in rows id) c.deref.ensures.value)) (task_shaped _ id shaped)

pub returns-in-None-clause-looks_up : goal.returns-in-None-clause-looks_up
returns-in-None-clause-looks_up g c =
    let id = c.args.id.now in
    let those = ap (option_map (λ (rows : Vec TaskRow Global). rows.items)) c.in-None.is in
    answers c.in_ok-found.ensures.looks_up (λ book b found. task_found book c.args.kind.now id None b (sym those ∙ found)) (λ _ found. (_, found, sym (ap (option_map (λ rows. task_in rows id)) those)))

pub returns-in_err-found-clause-looks_up : goal.returns-in_err-found-clause-looks_up
returns-in_err-found-clause-looks_up g c = hands c.from_residual.ensures.1 (λ _ _ it. it) c.in_err-found.ensures.looks_up
