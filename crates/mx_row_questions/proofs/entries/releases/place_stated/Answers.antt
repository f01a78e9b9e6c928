use Rattle.std.proofs.Common.{ap, sym, ◌∙◌}
use Rattle.std.specs.Option.{option_and_then}
use Rattle.mx_registers.specs.Merge.{place_of}
use Rattle.mx_lookups.proofs.NumbersProofs.ReadLemmas.{told}
use Rattle.mx_row_questions.proofs.entries.releases.place_stated.Goals as goal

pub returns-in-Some-clause-reads : goal.returns-in-Some-clause-reads
returns-in-Some-clause-reads g c = told _ _ _ _ _ _ (λ book b named. c.place_of.ensures ∙ ap (option_and_then (place_of c.args.row.now.kind)) (sym c.in-Some.is ∙ named)) c.in_ok-named.ensures.reads

pub returns-in-None-clause-reads : goal.returns-in-None-clause-reads
returns-in-None-clause-reads g c = told _ _ _ _ _ _ (λ book b named. ap (option_and_then (place_of c.args.row.now.kind)) (sym c.in-None.is ∙ named)) c.in_ok-named.ensures.reads

pub returns-in-Some-clause-any_rows : goal.returns-in-Some-clause-any_rows
returns-in-Some-clause-any_rows g c =
    record { found = λ clean has. (_, c.in_ok-named.ensures.any_rows.found clean has, c.place_of.ensures ∙ ap (option_and_then (place_of c.args.row.now.kind)) (sym c.in-Some.is)) }

pub returns-in-None-clause-any_rows : goal.returns-in-None-clause-any_rows
returns-in-None-clause-any_rows g c = record { found = λ clean has. (_, c.in_ok-named.ensures.any_rows.found clean has, ap (option_and_then (place_of c.args.row.now.kind)) (sym c.in-None.is)) }
