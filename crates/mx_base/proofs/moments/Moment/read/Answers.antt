use Rattle.std.proofs.Common.{sym, ◌∙◌}
use Rattle.mx_base.proofs.RoundTrips.{moment_text_injective}
use Rattle.mx_base.proofs.moments.Moment.read.Goals as goal

pub returns-in-Some-clause-only : goal.returns-in-Some-clause-only
returns-in-Some-clause-only c e h same =
    let read = c.in-Some.ensures.some in
    moment_text_injective _ _ h read.0 (same ∙ sym c.as_bytes.ensures.value ∙ sym read.1)
