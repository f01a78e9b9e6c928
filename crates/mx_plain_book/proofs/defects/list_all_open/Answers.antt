use Rattle.std.proofs.Common.{rules}
use Rattle.std.proofs.lemmas.Iterator.{YieldsList-from_slice, items_from_collect}
use Rattle.std.proofs.lemmas.Iterator.Consumers.{YieldsList-at, YieldsList-from_filter, YieldsList-from_filter_map}
use Rattle.mx_plain_book.proofs.defects.list_all_open.Goals as goal

pub returns : goal.returns
returns c =
    items_from_collect _ c.collect.ensures.ran
    (YieldsList-from_filter _ _ (YieldsList-at c.filter.ensures.source (YieldsList-from_filter_map _ _ (YieldsList-from_slice c.args.entries.now cc) c.filter_map.ensures.closure (λ x r q k. search rules))) c.filter.ensures.closure
    (λ x b q k. search rules))
