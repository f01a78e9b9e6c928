use Rattle.std.proofs.Common.{inl, ap, sym, ◌∙◌}
use Rattle.std.specs.Prelude.{slice_get}
use Rattle.mx_lookups.proofs.NumbersProofs.BookRows.{entries_of_number}
use Rattle.mx_lookups.proofs.NumbersProofs.ReadLemmas.{stopped}
use Rattle.mx_row_questions.proofs.EntriesProofs.EntryLemmas.{entry_is, entry_is-any, entry_none, entry_none-any, entry_refused, entry_stopped}
use Rattle.mx_row_questions.proofs.entries.entries.entry.Goals as goal

pub returns-in_err-rows-clause-reads : goal.returns-in_err-rows-clause-reads
returns-in_err-rows-clause-reads g c = inl (stopped _ _ _ _ _ _ c.from_residual.ensures.1 (entries_of_number c.args.seq c.in_err-rows.ensures.reads))

pub returns-in_default-clause-reads : goal.returns-in_default-clause-reads
returns-in_default-clause-reads g c = entry_none c.args.seq c.in_ok-rows.ensures.reads (ap (λ l. slice_get l 0) (sym c.deref.ensures.value) ∙ sym c.in_default.ensures.value)

pub returns-in_default-clause-any_rows : goal.returns-in_default-clause-any_rows
returns-in_default-clause-any_rows g c = entry_none-any c.args.seq c.in_ok-rows.ensures.reads (ap (λ l. slice_get l 0) (sym c.deref.ensures.value) ∙ sym c.in_default.ensures.value)

pub returns-in_err-said-clause-reads : goal.returns-in_err-said-clause-reads
returns-in_err-said-clause-reads g c =
    entry_stopped c.args.seq c.in_ok-rows.ensures.reads c.in-Some.row.now (ap (λ l. slice_get l 0) (sym c.deref.ensures.value) ∙ sym c.in-Some.ensures.value) c.from_residual-in_err-said.ensures.1 c.in_err-said.ensures.reads

pub returns-in_err-command-clause-reads : goal.returns-in_err-command-clause-reads
returns-in_err-command-clause-reads g c =
    entry_refused c.args.seq c.in_ok-rows.ensures.reads c.in-Some.row.now (ap (λ l. slice_get l 0) (sym c.deref.ensures.value) ∙ sym c.in-Some.ensures.value) c.in_ok-said.ensures.reads c.in_ok-said.ensures.any_rows _ _ c.from_residual-in_err-command.ensures.1 c.in_err-command.ensures

pub returns-clause-reads : goal.returns-clause-reads
returns-clause-reads g c =
    entry_is c.args.seq c.in_ok-rows.ensures.reads c.in-Some.row.now (ap (λ l. slice_get l 0) (sym c.deref.ensures.value) ∙ sym c.in-Some.ensures.value) c.in_ok-said.ensures.reads c.in_ok-said.ensures.any_rows _ c.in_ok-command.ensures

pub returns-clause-any_rows : goal.returns-clause-any_rows
returns-clause-any_rows g c =
    entry_is-any c.args.seq c.in_ok-rows.ensures.reads c.in-Some.row.now (ap (λ l. slice_get l 0) (sym c.deref.ensures.value) ∙ sym c.in-Some.ensures.value) c.in_ok-said.ensures.reads c.in_ok-said.ensures.any_rows _ c.in_ok-command.ensures
