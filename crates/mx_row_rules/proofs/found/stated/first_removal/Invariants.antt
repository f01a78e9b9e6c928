use Rattle.std.proofs.Common.{◌≡◌, drop}
use Rattle.std.specs.Prelude.{slice_get}
use Rattle.std.specs.List.{filter_map}
use Rattle.mx_registers.specs.kept.Spans.{removal_in}
use Rattle.mx_row_rules.proofs.found.stated.first_removal.Given as goal

-- none of those before has one
abbrev pub invariant-loop-span : goal.invariant-loop-span
invariant-loop-span l = slice_get (filter_map removal_in l.spans) 0 ≡ slice_get (filter_map removal_in (drop l.span-index l.spans)) 0
