use Rattle.std.proofs.Common.{rules}
use Rattle.std.proofs.lemmas.List.Sorted.{answers_always}
use Rattle.mx_lists.proofs.OrderLaws.{sorted_stable_is}
use Rattle.mx_lists.proofs.order.sorted.Goals as goal

pub returns-clause-order : goal.returns-clause-order
returns-clause-order g c =
    sorted_stable_is g.T.Placed.before g.met.T.Placed.ranks c.args.rows.items c.sort_by.new.self.items
    (c.in_ok-sort_by.ensures.sorted g.T.Placed.before g.met.T.Placed.ranks (answers_always _ _ _ (λ f a r f' k. search rules)))
    (c.in_ok-sort_by.ensures.stable g.T.Placed.before g.met.T.Placed.ranks (answers_always _ _ _ (λ f a r f' k. search rules)))

pub returns-clause-ascending : goal.returns-clause-ascending
returns-clause-ascending g c = c.in_ok-sort_by.ensures.sorted g.T.Placed.before g.met.T.Placed.ranks (answers_always _ _ _ (λ f a r f' k. search rules))

pub returns-clause-stable : goal.returns-clause-stable
returns-clause-stable g c = c.in_ok-sort_by.ensures.stable g.T.Placed.before g.met.T.Placed.ranks (answers_always _ _ _ (λ f a r f' k. search rules))
