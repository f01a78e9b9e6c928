use Rattle.std.proofs.Common.{◌∙◌, ◌≡◌, None, Vec, [], ap, map, subst, sym, true}
use Rattle.std.specs.List.{list_all}
use Rattle.std.specs.Option.{option_map, option_map_or}
use Rattle.std.specs.Prelude.{IfSome}
use Rattle.std.specs.declared.alloc.Global.{Global}
use Rattle.mx_book.specs.commands.Programme.{task_shape}
use Rattle.mx_registers.specs.Merge.{task_said}
use Rattle.mx_base.specs.declared.rows.rows.TaskRow.{TaskRow}
use Rattle.mx_row_rules.proofs.FoundProofs.ProgrammeLemmas.{all_said}
use Rattle.mx_lookups.proofs.LivesProofs.InForceLemmas.{tasks_found}
use Rattle.mx_lookups.proofs.NumbersProofs.Composed.{answers, hands}
use Rattle.mx_lookups.proofs.lives.programmes.tasks.Goals as goal

pub returns-in_ok-tasks_said-in-Some-clause-looks_up : goal.returns-in_ok-tasks_said-in-Some-clause-looks_up
returns-in_ok-tasks_said-in-Some-clause-looks_up g c =
    let those = ap (option_map (λ (rows : Vec TaskRow Global). rows.items)) c.in-Some.is in
    let made = c.in_ok-tasks_said-in-Some.ensures ∙ ap (map task_said) c.deref.ensures.value in
    answers c.in_ok-found.ensures.looks_up (λ book b found. made ∙ tasks_found book c.args.kind.now _ b (sym those ∙ found)) (λ _ found. (_, found, made ∙ sym (ap (λ o. option_map_or (map task_said) o []) those)))

pub returns-in_ok-tasks_said-in-Some-clause-shape : goal.returns-in_ok-tasks_said-in-Some-clause-shape
returns-in_ok-tasks_said-in-Some-clause-shape g c =
    let shaped = subst (λ o. IfSome o (λ (rows : Vec TaskRow Global). list_all (λ (row : TaskRow). task_shape (task_said row)) rows.items ≡ true)) c.in-Some.is c.in_ok-found.ensures.shape in
    ap (list_all task_shape) (c.in_ok-tasks_said-in-Some.ensures ∙ ap (map task_said) c.deref.ensures.value) ∙ sym (all_said c.in-Some.rows.items) ∙ shaped

pub returns-in-None-clause-looks_up : goal.returns-in-None-clause-looks_up
returns-in-None-clause-looks_up g c =
    let those = ap (option_map (λ (rows : Vec TaskRow Global). rows.items)) c.in-None.is in
    answers c.in_ok-found.ensures.looks_up (λ book b found. c.new.ensures.items ∙ tasks_found book c.args.kind.now None b (sym those ∙ found)) (λ _ found. (_, found, c.new.ensures.items ∙ sym (ap (λ o. option_map_or (map task_said) o []) those)))

pub returns-in_err-found-clause-looks_up : goal.returns-in_err-found-clause-looks_up
returns-in_err-found-clause-looks_up g c = hands c.from_residual.ensures.1 (λ _ _ it. it) c.in_err-found.ensures.looks_up
