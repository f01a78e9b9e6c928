use Rattle.std.proofs.Common.{◌≡◌, not, map, string_bytes}
use Rattle.std.specs.List.{list_any}
use Rattle.serde_json.specs.View.{view}
use Rattle.mx_intake.specs.Keys.{is_key}
use Rattle.mx_intake.specs.Object.{has_other_key}
use Rattle.mx_intake.proofs.object.has_other.Given as goal

abbrev pub invariant-loop-key : goal.invariant-loop-key
invariant-loop-key l =
    has_other_key (map (λ k. k.now) l.keys) (view l.object)
    ≡ list_any (λ k. not (is_key (map (λ k. k.now) l.keys) (string_bytes k))) l.key-iterator
