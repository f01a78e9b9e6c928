use Rattle.std.proofs.Common.{subst, sym, ◌∙◌}
use Rattle.mx_row_rules.proofs.FoundProofs.StatedLemmas.{airframe_numbered, component_numbered, no_item_numbered}
use Rattle.mx_lookups.specs.numbers.Given.{SerialOfNumber, TailOfNumber}
use Rattle.mx_lookups.proofs.NumbersProofs.ReadLemmas.{reads_then, stopped, told}
use Rattle.mx_row_questions.proofs.EntriesProofs.StatedLemmas.{any_both}
use Rattle.mx_row_questions.proofs.entries.names.item_of_number.Goals as goal

pub returns-in-Some-clause-reads : goal.returns-in-Some-clause-reads
returns-in-Some-clause-reads g c = told _ _ _ _ _ _ (λ book b tail. sym (airframe_numbered book c.args.number c.in-Some.tail (sym tail ∙ c.in-Some.is))) c.in_ok-tail.ensures.looks_up.now.reads

pub returns-in-Some-clause-any_rows : goal.returns-in-Some-clause-any_rows
returns-in-Some-clause-any_rows g c = record { found = λ clean has. subst (TailOfNumber c.args.number _) c.in-Some.is (c.in_ok-tail.ensures.looks_up.now.any_rows.found clean has) }

pub returns-in_err-listed-in-None-clause-reads : goal.returns-in_err-listed-in-None-clause-reads
returns-in_err-listed-in-None-clause-reads g c = stopped _ _ _ _ _ _ c.from_residual-in_err-listed-in-None.ensures.1 (reads_then _ _ _ _ _ _ _ c.in_ok-tail.ensures.looks_up.now.reads c.in_err-listed-in-None.ensures.looks_up.reads)

pub returns-in-Some-listed-clause-reads : goal.returns-in-Some-listed-clause-reads
returns-in-Some-listed-clause-reads g c =
    told _ _ _ _ _ _ (λ book b both. sym (component_numbered book c.args.number c.in-Some-listed.serial (sym both.1 ∙ c.in-Some-listed.is))) (reads_then _ _ _ _ _ _ _ c.in_ok-tail.ensures.looks_up.now.reads c.in_ok-listed-in-None.ensures.looks_up.reads)

pub returns-in-None-listed-clause-reads : goal.returns-in-None-listed-clause-reads
returns-in-None-listed-clause-reads g c =
    told _ _ _ _ _ _ (λ book b both. sym (no_item_numbered book c.args.number (sym both.0 ∙ c.in-None.is) (sym both.1 ∙ c.in-None-listed.is))) (reads_then _ _ _ _ _ _ _ c.in_ok-tail.ensures.looks_up.now.reads c.in_ok-listed-in-None.ensures.looks_up.reads)

pub returns-in-Some-listed-clause-any_rows : goal.returns-in-Some-listed-clause-any_rows
returns-in-Some-listed-clause-any_rows g c =
    let both = any_both _ (TailOfNumber c.args.number) (SerialOfNumber c.args.number) _ _ _ _ _ c.in_ok-tail.ensures.looks_up.now.reads c.in_ok-tail.ensures.looks_up.now.any_rows c.in_ok-listed-in-None.ensures.looks_up.reads.within c.in_ok-listed-in-None.ensures.looks_up.any_rows in
    record { found = λ clean has. (subst (TailOfNumber c.args.number _) c.in-None.is (both.found clean has).0, subst (SerialOfNumber c.args.number _) c.in-Some-listed.is (both.found clean has).1) }

pub returns-in-None-listed-clause-any_rows : goal.returns-in-None-listed-clause-any_rows
returns-in-None-listed-clause-any_rows g c =
    let both = any_both _ (TailOfNumber c.args.number) (SerialOfNumber c.args.number) _ _ _ _ _ c.in_ok-tail.ensures.looks_up.now.reads c.in_ok-tail.ensures.looks_up.now.any_rows c.in_ok-listed-in-None.ensures.looks_up.reads.within c.in_ok-listed-in-None.ensures.looks_up.any_rows in
    record { found = λ clean has. (subst (TailOfNumber c.args.number _) c.in-None.is (both.found clean has).0, subst (SerialOfNumber c.args.number _) c.in-None-listed.is (both.found clean has).1) }
