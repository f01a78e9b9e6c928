use Rattle.std.proofs.Common.{◌≡◌, ◌∙◌, List, ap, subst}
use Rattle.mx_book.specs.commands.Act.{Entry}
use Rattle.mx_office.specs.Calls.{IsRun}
use Rattle.mx_output.specs.sector_log.Rows.{good_rows, told}
use Rattle.mx_jobs.proofs.logs.importing.import_text.Goals as goal

pub returns-clause-imported : goal.returns-clause-imported
returns-clause-imported g c =
    let rows = c.in_ok-rows.rows.items in
    let run = c.run-outcomes in
    let said = run.result.replies.items in
    let same : c.deref-2.result.now ≡ good_rows rows = c.deref-2.ensures.value ∙ c.in_ok-commands.ensures ∙ ap good_rows c.deref.ensures.value in (
      rows,
      said,
      c.in_ok-rows.ensures.ok,
      c.tell_rows.ensures ∙ ap (λ r. told r c.deref-4.result.now) c.deref-3.ensures.value ∙ ap (told rows) c.deref-4.ensures.value,
      subst (λ (commands : List Entry). IsRun commands said run.result.stopped c.args.office.now run.new.self) same run.ensures,
    )
