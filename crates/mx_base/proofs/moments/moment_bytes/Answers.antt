use Rattle.std.proofs.Common.{refl}
use Rattle.mx_base.specs.Texts.{day_text, moment_text}
use Rattle.mx_base.proofs.moments.moment_bytes.Goals as goal

pub returns-clause-text : goal.returns-clause-text
unfolding day_text moment_text
returns-clause-text c = rw (c.copy_from_slice-2.ensures.after, c.clock_bytes.ensures, c.copy_from_slice.ensures.after, c.day_bytes.ensures, c.day_of.ensures, c.number.ensures.value) refl
