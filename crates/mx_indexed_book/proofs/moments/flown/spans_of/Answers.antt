use Rattle.std.proofs.Common.{rules, sym, subst}
use Rattle.std.proofs.lemmas.List.Sorted.{IsPartitionPoint-from_clause, IsPartitionedBy-leb, IsPartitionedBy-ltb}
use Rattle.std.specs.List.Sorted.{IsNonDecreasingBy}
use Rattle.mx_indexed_book.specs.moments.Flown.{component_of}
use Rattle.mx_indexed_book.proofs.MomentsProofs.FlownLemmas.{before, behind_in_order, own_split, up_to}
use Rattle.mx_indexed_book.proofs.moments.flown.spans_of.Goals as goal

pub returns : goal.returns
returns c =
    let number = c.args.number in
    let spans = c.args.spans.now in
    let first = c.partition_point-first.result in
    let rest = c.split_at.result.1.now in
    let low = IsPartitionPoint-from_clause (before number) spans first c.partition_point-first.ensures.partitioned (IsPartitionedBy-ltb component_of spans number c.requires) (λ a r f' k. search rules) in
    let high = IsPartitionPoint-from_clause (up_to number) rest c.partition_point-count.result c.partition_point-count.ensures.partitioned
    (IsPartitionedBy-leb component_of rest number (subst (IsNonDecreasingBy component_of) (sym c.split_at.ensures.back) (behind_in_order first spans c.requires))) (λ a r f' k. search rules) in
    own_split number spans rest c.split_at-2.result.0.now first c.partition_point-count.result c.split_at.ensures.back c.split_at-2.ensures.front low.0 low.1 high.0 high.1 c.partition_point-first.ensures.bound c.partition_point-count.ensures.bound
