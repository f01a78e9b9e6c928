use Rattle.std.proofs.Common.{◌∙◌, ◌≡◌, None, Some, ap, inl, inr, refl, sym}
use Rattle.std.specs.List.{list_all}
use Rattle.std.specs.Option.{option_map}
use Rattle.mx_book.specs.commands.Programme.{task_shape}
use Rattle.mx_registers.specs.Merge.{task_said}
use Rattle.mx_base.specs.declared.rows.rows.TaskRow.{TaskRow}
use Rattle.mx_layout.specs.declared.fault.Table.TheVariants as table
use Rattle.mx_row_rules.proofs.FoundProofs.ProgrammeLemmas.{tasks_shaped}
use Rattle.mx_row_rules.specs.found.Programmes.{programme_number, programmes_of, tasks_with}
use Rattle.mx_lookups.proofs.LivesProofs.DamageLemmas.{task_past}
use Rattle.mx_lookups.proofs.NumbersProofs.BookRows.{programmes_of_kind, tasks_of}
use Rattle.mx_lookups.proofs.NumbersProofs.Composed.{answers, behind, chosen, by_first, hands, none_given, refuses, some_given}
use Rattle.mx_lookups.proofs.NumbersProofs.TableLemmas.{programmes, tasks}
use Rattle.mx_lookups.proofs.NumbersProofs.ToldLemmas.{unshaped}
use Rattle.mx_lookups.specs.numbers.Given.{ProgrammeNumber}
use Rattle.mx_lookups.proofs.lives.programmes.rows_in_force.Goals as goal

pub returns-in_err-programmes-clause-looks_up : goal.returns-in_err-programmes-clause-looks_up
returns-in_err-programmes-clause-looks_up g c = hands c.from_residual.ensures.1 (λ _ _. inl) (chosen programmes c.in_err-programmes.ensures.same_reference (programmes_of_kind _ c.in_err-programmes.ensures.reads) c.in_err-programmes.ensures.reads)

pub returns-in_err-rows-in-Some-clause-looks_up : goal.returns-in_err-rows-in-Some-clause-looks_up
returns-in_err-rows-in-Some-clause-looks_up g c = hands c.from_residual-in_err-rows-in-Some.ensures.1 (λ _ _ it. inr (_, by_first (ProgrammeNumber _) c.in-Some.is (_, it.0, c.programme_number.ensures ∙ ap programme_number c.deref.ensures.value), (inl it.1))) (behind (chosen programmes {new = c.programme_by_kind.new.tx} c.in_ok-programmes.ensures.same_reference (programmes_of_kind _ c.in_ok-programmes.ensures.reads) c.in_ok-programmes.ensures.reads) (chosen tasks c.in_err-rows-in-Some.ensures.same_reference (tasks_of _ c.in_err-rows-in-Some.ensures.reads) c.in_err-rows-in-Some.ensures.reads))

pub returns-then-have_task_shapes-clause-looks_up : goal.returns-then-have_task_shapes-clause-looks_up
returns-then-have_task_shapes-clause-looks_up g c =
    answers (behind (chosen programmes {new = c.programme_by_kind.new.tx} c.in_ok-programmes.ensures.same_reference (programmes_of_kind _ c.in_ok-programmes.ensures.reads) c.in_ok-programmes.ensures.reads) (chosen tasks c.in_ok-rows-in-Some.ensures.same_reference (tasks_of _ c.in_ok-rows-in-Some.ensures.reads) c.in_ok-rows-in-Some.ensures.reads))
    (λ book b both.
    let number : programme_number (programmes_of c.args.kind.now book) ≡ Some c.in-Some.number = sym (c.programme_number.ensures ∙ ap programme_number (c.deref.ensures.value ∙ both.0)) ∙ c.in-Some.is in
    ap Some both.1 ∙ sym (ap (option_map (λ n. tasks_with n book)) number))
    (λ _ both. some_given c.in-Some.is (_, both.0, c.programme_number.ensures ∙ ap programme_number c.deref.ensures.value) (_, both.1, refl))

pub returns-in-Some-clause-looks_up : goal.returns-in-Some-clause-looks_up
returns-in-Some-clause-looks_up g c =
    let lacks = sym (c.have_task_shapes.ensures ∙ ap (list_all (λ (row : TaskRow). task_shape (task_said row))) c.deref-in-Some.ensures.value) ∙ c.if-have_task_shapes.false in
    refuses table.Task (behind (chosen programmes {new = c.programme_by_kind.new.tx} c.in_ok-programmes.ensures.same_reference (programmes_of_kind _ c.in_ok-programmes.ensures.reads) c.in_ok-programmes.ensures.reads) (chosen tasks c.in_ok-rows-in-Some.ensures.same_reference (tasks_of _ c.in_ok-rows-in-Some.ensures.reads) c.in_ok-rows-in-Some.ensures.reads))
    (λ book b both.
    let shaped = ap (list_all (λ (row : TaskRow). task_shape (task_said row))) (c.deref-in-Some.ensures.value ∙ both.1) ∙ tasks_shaped book c.in-Some.number b in
    let e = sym c.if-have_task_shapes.false ∙ c.have_task_shapes.ensures ∙ shaped in
    absurd cc)
    (λ trees both. task_past _ _ lacks (_, both.1, refl))
    (λ trees both. inr (_, by_first (ProgrammeNumber _) c.in-Some.is (_, both.0, c.programme_number.ensures ∙ ap programme_number c.deref.ensures.value), (inr (refl, unshaped lacks (_, both.1, refl)))))

pub returns-clause-looks_up : goal.returns-clause-looks_up
returns-clause-looks_up g c =
    answers (chosen programmes c.in_ok-programmes.ensures.same_reference (programmes_of_kind _ c.in_ok-programmes.ensures.reads) c.in_ok-programmes.ensures.reads)
    (λ book b found.
    let none : programme_number (programmes_of c.args.kind.now book) ≡ None = sym (c.programme_number.ensures ∙ ap programme_number (c.deref.ensures.value ∙ found)) ∙ c.in-None.is in
    sym (ap (option_map (λ n. tasks_with n book)) none))
    (λ _ are. none_given c.in-None.is (_, are, c.programme_number.ensures ∙ ap programme_number c.deref.ensures.value) refl)
