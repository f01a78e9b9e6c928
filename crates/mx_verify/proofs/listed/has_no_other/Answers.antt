use Rattle.std.proofs.Common.{length, ap, ◌∙◌}
use Rattle.sqlite.specs.Schema.{Schema}
use Rattle.mx_verify.proofs.ListedLemmas.{no_other}
use Rattle.mx_verify.proofs.listed.has_no_other.Goals as goal

pub returns : goal.returns
returns g c has = no_other c.args.conn.now.schema has c.len.result (c.len.ensures ∙ ap (λ (s : Schema). length s.tables) c.schema.ensures.value)
