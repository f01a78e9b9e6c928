use Rattle.std.proofs.Common.{rules, ◌∙◌, ℕ, max}
use Rattle.std.proofs.lemmas.Iterator.{YieldsList-from_slice}
use Rattle.std.proofs.lemmas.Iterator.Consumers.{fold_from_yields_List}
use Rattle.mx_book.specs.commands.Act.{Entry}
use Rattle.mx_book.specs.Life.{component_moments, latest}
use Rattle.mx_plain_book.proofs.MomentLemmas.{latest_by_fold}
use Rattle.mx_plain_book.proofs.lives.clock_of_component.Goals as goal

pub returns : goal.returns
returns c =
    fold_from_yields_List _ (λ (m : ℕ) (entry : Entry). max m (latest (component_moments c.args.serial.now entry.act))) 0 _ c.fold.ensures.ran (YieldsList-from_slice c.args.entries.now cc) (λ a x b q k. search rules)
    ∙ latest_by_fold (λ (entry : Entry). component_moments c.args.serial.now entry.act) c.args.entries.now
