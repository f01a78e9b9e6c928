use Rattle.std.proofs.Common.{rules}
use Rattle.std.specs.Str.{bytes_eq}
use Rattle.mx_intake.proofs.keys.is_one_of.Goals as goal

pub returns : goal.returns
returns c = c.one_key.ensures (λ known. bytes_eq known c.args.key.now) (λ known b is. search rules)
