use Rattle.std.proofs.Common.{◌≡◌, Bool, drop}
use Rattle.std.specs.Fn.{FnReturnsAt}
use Rattle.serde_json.specs.Data.{Data}
use Rattle.serde_json.specs.View.{view, items_view}
use Rattle.serde_json.specs.declared.value.Value.{Value}
use Rattle.mx_intake.specs.Object.{any_item}
use Rattle.mx_intake.proofs.listed.one_at.Given as goal

abbrev pub invariant-loop-value : goal.invariant-loop-value
invariant-loop-value g l =
    (passes : Data → Bool) → ((v : Value) (b : Bool) → FnReturnsAt g.F.Fn l.test v b → b ≡ passes (view v))
    → any_item passes (items_view l.values) ≡ any_item passes (items_view (drop l.value-index l.values))
