use Rattle.std.proofs.Common.{rules}
use Rattle.std.proofs.lemmas.List.Sorted.{IsPartitionPoint-from_clause, IsPartitionedBy-leb}
use Rattle.mx_indexed_book.specs.moments.Landings.{landing_key}
use Rattle.mx_indexed_book.proofs.MomentsProofs.LandingLemmas.{passed_before, up_to_place}
use Rattle.mx_indexed_book.proofs.moments.landings.count_up_to.Goals as goal

pub returns-clause-these : goal.returns-clause-these
returns-clause-these c up =
    let parts = IsPartitionPoint-from_clause (up_to_place c.args.place) c.args.rows.now c.partition_point.result c.partition_point.ensures.partitioned (IsPartitionedBy-leb landing_key c.args.rows.now c.args.place up) (λ a r f' k. search rules) in
    passed_before (up_to_place c.args.place) c.args.rows.now c.partition_point.result parts.0 parts.1 c.partition_point.ensures.bound
