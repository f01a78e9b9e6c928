use Rattle.std.proofs.Common.{ap, sym, ◌∙◌}
use Rattle.std.specs.Option.{option_map}
use Rattle.mx_book.specs.declared.commands.release.Line.TheVariants as lines
use Rattle.mx_row_rules.specs.found.Stated.{certified_said}
use Rattle.mx_lookups.proofs.NumbersProofs.ReadLemmas.{told}
use Rattle.mx_row_questions.specs.entries.Names.{DocOfDefect, ItemOfNumber}
use Rattle.mx_row_questions.specs.entries.Releases.{LineNamed}
use Rattle.mx_row_questions.proofs.EntriesProofs.StatedLemmas.{any_as, any_named}
use Rattle.mx_row_questions.proofs.entries.releases.line_named.Goals as goal

pub returns-in-Some-clause-reads : goal.returns-in-Some-clause-reads
returns-in-Some-clause-reads g c = told _ _ _ _ _ _ (λ book b named. ap (option_map (λ i. lines.Done i c.in-Done.task)) (sym c.in-Some.is ∙ named) ∙ sym (ap (certified_said book) c.in-Done.is)) c.in_ok-named-in-Done.ensures.reads

pub returns-in-Some-clause-any_rows : goal.returns-in-Some-clause-any_rows
returns-in-Some-clause-any_rows g c = any_as LineNamed c.in-Done.is (any_named ItemOfNumber c.in-Done.number (λ i. lines.Done i c.in-Done.task) (ap (option_map (λ i. lines.Done i c.in-Done.task)) (sym c.in-Some.is)) c.in_ok-named-in-Done.ensures.any_rows)

pub returns-in-None-clause-reads : goal.returns-in-None-clause-reads
returns-in-None-clause-reads g c = told _ _ _ _ _ _ (λ book b named. ap (option_map (λ i. lines.Done i c.in-Done.task)) (sym c.in-None.is ∙ named) ∙ sym (ap (certified_said book) c.in-Done.is)) c.in_ok-named-in-Done.ensures.reads

pub returns-in-None-clause-any_rows : goal.returns-in-None-clause-any_rows
returns-in-None-clause-any_rows g c = any_as LineNamed c.in-Done.is (any_named ItemOfNumber c.in-Done.number (λ i. lines.Done i c.in-Done.task) (ap (option_map (λ i. lines.Done i c.in-Done.task)) (sym c.in-None.is)) c.in_ok-named-in-Done.ensures.any_rows)

pub returns-in-Some-named-clause-reads : goal.returns-in-Some-named-clause-reads
returns-in-Some-named-clause-reads g c = told _ _ _ _ _ _ (λ book b named. ap (option_map lines.Rectified) (sym c.in-Some-named.is ∙ named) ∙ sym (ap (certified_said book) c.in-Rectified.is)) c.in_ok-named-in-Rectified.ensures.reads

pub returns-in-Some-named-clause-any_rows : goal.returns-in-Some-named-clause-any_rows
returns-in-Some-named-clause-any_rows g c = any_as LineNamed c.in-Rectified.is (any_named DocOfDefect c.in-Rectified.number lines.Rectified (ap (option_map lines.Rectified) (sym c.in-Some-named.is)) c.in_ok-named-in-Rectified.ensures.any_rows)

pub returns-in-None-named-clause-reads : goal.returns-in-None-named-clause-reads
returns-in-None-named-clause-reads g c = told _ _ _ _ _ _ (λ book b named. ap (option_map lines.Rectified) (sym c.in-None-named.is ∙ named) ∙ sym (ap (certified_said book) c.in-Rectified.is)) c.in_ok-named-in-Rectified.ensures.reads

pub returns-in-None-named-clause-any_rows : goal.returns-in-None-named-clause-any_rows
returns-in-None-named-clause-any_rows g c = any_as LineNamed c.in-Rectified.is (any_named DocOfDefect c.in-Rectified.number lines.Rectified (ap (option_map lines.Rectified) (sym c.in-None-named.is)) c.in_ok-named-in-Rectified.ensures.any_rows)
