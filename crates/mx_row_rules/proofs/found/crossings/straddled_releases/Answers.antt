use Rattle.std.proofs.Common.{rules, ◌∙◌, ℕ, Option, None}
use Rattle.std.proofs.lemmas.Iterator.{YieldsList-from_slice}
use Rattle.std.proofs.lemmas.Iterator.Consumers.{fold_from_yields_List}
use Rattle.mx_base.specs.declared.rows.rows.ReleaseRow.{ReleaseRow}
use Rattle.mx_registers.specs.late.Crossings.{sooner}
use Rattle.mx_row_rules.specs.found.Crossings.{number_during}
use Rattle.mx_row_rules.proofs.FoundProofs.CrossingLemmas.{soonest_by_fold}
use Rattle.mx_row_rules.proofs.found.crossings.straddled_releases.Goals as goal

pub returns : goal.returns
returns c =
    fold_from_yields_List _ (λ (least : Option ℕ) (row : ReleaseRow). sooner least (number_during c.args.sector.now row.moment row.seq)) None _ c.fold.ensures.ran (YieldsList-from_slice c.args.rows.now cc) (λ a x b q k. search rules)
    ∙ soonest_by_fold (λ (row : ReleaseRow). number_during c.args.sector.now row.moment row.seq) c.args.rows.now None
