use Rattle.std.proofs.Common.{rules}
use Rattle.std.proofs.lemmas.Iterator.{YieldsList-from_slice}
use Rattle.std.proofs.lemmas.Iterator.Consumers.{YieldsList-from_filter_map, count_from_yields_List}
use Rattle.mx_book.specs.commands.Act.{Entry, component_of}
use Rattle.mx_plain_book.proofs.register.component_count.Goals as goal

pub returns : goal.returns
returns c = count_from_yields_List c.filter_map.result _ c.count.ensures.ran (YieldsList-from_filter_map _ (λ (entry : Entry). component_of entry.act) (YieldsList-from_slice c.args.entries.now cc) c.filter_map.ensures.closure (λ x r q k. search rules))
