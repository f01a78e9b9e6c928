use Rattle.std.proofs.Common.{◌∙◌, inl, inr, sym}
use Rattle.mx_lookups.proofs.NumbersProofs.AnyLemmas.{any_so}
use Rattle.mx_lookups.proofs.NumbersProofs.ReadLemmas.{reads_then, told}
use Rattle.mx_apply.proofs.MadeProofs.AnyMadeLemmas.{any_then}
use Rattle.mx_lookups.proofs.NumbersProofs.ToldLemmas.{handed}
use Rattle.mx_apply.proofs.MadeProofs.DamageLemmas.{handed_later}
use Rattle.mx_apply.proofs.judged.verdict_and_rows.Goals as goal

pub returns-in_ok-rows-in-New-clause-reads : goal.returns-in_ok-rows-in-New-clause-reads
returns-in_ok-rows-in-New-clause-reads g c =
    told _ _ _ _ _ _ (λ book b both. (sym both.0 ∙ c.in-New.is, both.1)) (reads_then _ _ _ _ _ _ _ c.in_ok-verdict.ensures.looks_up.reads c.in_ok-rows-in-New.ensures.reads)

pub returns-in_ok-rows-in-New-clause-any_rows : goal.returns-in_ok-rows-in-New-clause-any_rows
returns-in_ok-rows-in-New-clause-any_rows g c =
    any_so _ _ _ _ _ _ (λ trees both. record { by = λ book answers. sym (both.0 book answers) ∙ c.in-New.is; rows = both.1 })
    (any_then _ _ _ _ _ _ _ _ c.in_ok-verdict.ensures.looks_up.reads c.in_ok-verdict.ensures.looks_up.any_rows c.in_ok-rows-in-New.ensures.reads.within c.in_ok-rows-in-New.ensures.any_rows)

pub returns-in-Already-clause-any_rows : goal.returns-in-Already-clause-any_rows
returns-in-Already-clause-any_rows g c = any_so _ _ _ _ _ _ (λ trees of. record { by = λ book answers. sym (of book answers) ∙ c.in-Already.is; rows = tt }) c.in_ok-verdict.ensures.looks_up.any_rows

pub returns-in-Refused-clause-any_rows : goal.returns-in-Refused-clause-any_rows
returns-in-Refused-clause-any_rows g c = any_so _ _ _ _ _ _ (λ trees of. record { by = λ book answers. sym (of book answers) ∙ c.in-Refused.is; rows = tt }) c.in_ok-verdict.ensures.looks_up.any_rows

pub returns-in_err-verdict-clause-damage : goal.returns-in_err-verdict-clause-damage
returns-in_err-verdict-clause-damage g c = handed (λ _ _. inl) c.from_residual.ensures.1 c.in_err-verdict.ensures.looks_up.damage

pub returns-in_err-rows-in-New-clause-damage : goal.returns-in_err-rows-in-New-clause-damage
returns-in_err-rows-in-New-clause-damage g c =
    handed_later (λ _ _. inr) c.from_residual-in_err-rows-in-New.ensures.1 c.in_ok-verdict.ensures.looks_up.reads c.in_err-rows-in-New.ensures.reads.within c.in_err-rows-in-New.ensures.damage
