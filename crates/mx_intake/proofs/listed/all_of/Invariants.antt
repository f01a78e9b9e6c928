use Rattle.std.proofs.Common.{◌≡◌, ◌++◌, drop, option_map}
use Rattle.serde_json.specs.View.{items_view}
use Rattle.mx_intake.specs.Object.{stated_all}
use Rattle.mx_intake.proofs.listed.all_of.Given as goal

abbrev pub invariant-loop-value : goal.invariant-loop-value
invariant-loop-value g l =
    stated_all g.T.Listed.stated (items_view l.values)
    ≡ option_map (λ more. l.all.items ++ more) (stated_all g.T.Listed.stated (items_view (drop l.value-index l.values)))
