use Rattle.std.proofs.Common.{subst, sym}
use Rattle.std.specs.Prelude.{IsUtf8}
use Rattle.mx_base.proofs.AsciiLemmas.{moment_text-IsUtf8}
use Rattle.mx_base.proofs.moments.Moment.text.Goals as goal

pub invariant_of-result : goal.invariant_of-result
invariant_of-result c = ∣ subst IsUtf8 (sym c.moment_bytes.ensures.text) (moment_text-IsUtf8 c.args.self c.moment_bytes.ensures.bound) ∣₁
