use Rattle.std.proofs.Common.{◌||◌, ℕ}
use Rattle.mx_book.specs.due.Reach.{reaches_in}
use Rattle.mx_book.proofs.due.reach.days_to_reach_some.Goals as goal

pub returns : goal.returns
returns c =
    c.sooner_of-by_any.ensures (reaches_in c.args.minutes c.args.left.now.minutes) (λ (n : ℕ). reaches_in c.args.cycles c.args.left.now.cycles n || reaches_in 1 c.args.left.now.days n)
    c.days_to_reach_in-by_minutes.ensures
    (c.sooner_of-by_either.ensures (reaches_in c.args.cycles c.args.left.now.cycles) (reaches_in 1 c.args.left.now.days) c.days_to_reach_in-by_cycles.ensures c.days_to_reach_in-by_days.ensures)
