use Rattle.std.proofs.Common.{rules, ap, [], ◌∷◌, ◌∙◌}
use Rattle.mx_book.specs.commands.Act.{Loaded}
use Rattle.mx_base.specs.rows.Rows.{FitsProgramme, FitsTask}
use Rattle.mx_base.specs.declared.rows.rows.EntryRow.{EntryRow}
use Rattle.mx_registers.specs.Registers.{programmes_by, tasks_by, programme_row, task_row}
use Rattle.mx_registers.specs.Lines.{lines_from}
use Rattle.mx_registers.specs.kept.Changes.{entry_of}
use Rattle.mx_row_rules.proofs.ChangesProofs.AddedLemmas.{none_fit, one, these}
use Rattle.mx_row_rules.proofs.ChangesProofs.TouchLemmas.{none_pass}
use Rattle.mx_row_rules.proofs.changes.programmes.programme_rows.Goals as goal

pub returns-clause-of_book : goal.returns-clause-of_book
returns-clause-of_book c book doc own =
    let e = entry_of doc (Loaded c.args.programme c.args.tasks.now) in
    let programmes = one FitsProgramme programmes_by book e c.in_ok-push.ensures.items c.entry_alone-rows.ensures.added.programmes (ap (λ row. row ∷ []) (c.programme_row-row.ensures.row ∙ ap (λ (row : EntryRow). programme_row row.seq c.args.programme) own)) c.programme_row-row.ensures.fits in
    let tasks = these FitsTask tasks_by book e (c.in_ok-lines.ensures.rows ∙ ap (λ (row : EntryRow). lines_from task_row row.seq 1 c.args.tasks.now) own) c.in_ok-lines.ensures.fits in
    search (rules, none_fit, none_pass)
