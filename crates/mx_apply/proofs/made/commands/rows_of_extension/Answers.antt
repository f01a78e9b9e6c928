use Rattle.std.proofs.Common.{[], refl}
use Rattle.mx_lookups.proofs.NumbersProofs.ReadLemmas.{told}
use Rattle.mx_lookups.proofs.NumbersProofs.AnyLemmas.{any_so}
use Rattle.mx_apply.proofs.MadeProofs.AnyTotalLemmas.{none_of}
use Rattle.mx_row_rules.specs.changes.Made.{nothing_found}
use Rattle.mx_apply.proofs.made.commands.rows_of_extension.Goals as goal

pub returns-clause-reads : goal.returns-clause-reads
returns-clause-reads g c = told _ _ _ _ _ _ (λ book b is doc own. c.in_ok-extension_rows.ensures.of_book book doc own is) c.in_ok-defect.ensures.reads

pub returns-clause-any_rows : goal.returns-clause-any_rows
returns-clause-any_rows g c =
    any_so _ _ _ _ _ _ (λ trees by. record { found = record nothing_found { number = c.in_ok-defect.defect }; looked_up = record { numbers = by; spans = tt; totals = none_of trees [] refl; lines = tt }; made = c.in_ok-extension_rows.ensures.made }) c.in_ok-defect.ensures.any_rows
