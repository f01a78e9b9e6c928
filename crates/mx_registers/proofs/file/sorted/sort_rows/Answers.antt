use Rattle.std.proofs.Common.{rules}
use Rattle.std.proofs.lemmas.List.Sorted.{IsNonDecreasingBy-from_sort_by_key}
use Rattle.mx_registers.proofs.FileProofs.SortLemmas.{from_sorted}
use Rattle.mx_registers.proofs.file.sorted.sort_rows.Goals as goal

pub returns-in-Ok : goal.returns-in-Ok
returns-in-Ok g c = record {
  same = c.sort_by_cached_key.ensures.permutation;
  order = from_sorted g.R.Keyed.key c.sort_by_cached_key.new.self.items (IsNonDecreasingBy-from_sort_by_key g.R.Keyed.key _ c.in-Ok.ensures.sorted (λ a r q k. search rules));
}
