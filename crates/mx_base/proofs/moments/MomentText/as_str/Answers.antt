use Rattle.std.proofs.lemmas.Str.{IsUtf8-had}
use Rattle.mx_base.proofs.IdentifierLemmas.{IsOk-from_no_err}
use Rattle.mx_base.proofs.moments.MomentText.as_str.Goals as goal

pub unwrap-requires : goal.unwrap-requires
unwrap-requires c = IsOk-from_no_err c.from_utf8.result _ _ c.from_utf8.ensures.cases (λ e no. no.0 (IsUtf8-had _ c.self.invariant))
