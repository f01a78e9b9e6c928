use Rattle.std.proofs.Common.{sym, ◌∙◌}
use Rattle.mx_verify.proofs.VerifiedProofs.KeyLemmas.{ends, goes_on, repeats, starts}
use Rattle.mx_verify.proofs.verified.bases.keys_of.Goals as goal

pub loop-row-init : goal.loop-row-init
loop-row-init c = starts c.args.rows.now c.new-keys.result c.new-keys.ensures.empty

pub loop-row-preserved : goal.loop-row-preserved
loop-row-preserved c =
    goes_on c.args.rows.now c.loop-row.rest.now c.in-Some.later.now c.in-Some.row.now c.loop-row.keys c.insert.new.self c.in-Some.ensures.cases.0 (sym c.held.ensures ∙ c.if-held.false) c.in-Ok.ensures.updates c.loop-row.invariant

pub returns-then-held : goal.returns-then-held
returns-then-held c = λ once. repeats c.args.rows.now c.loop-row.rest.now c.in-Some.later.now c.in-Some.row.now c.loop-row.keys c.in-Some.ensures.cases.0 (sym c.held.ensures ∙ c.if-held.true) c.loop-row.invariant once

pub returns : goal.returns
returns c = ends c.args.rows.now c.loop-row.rest.now c.loop-row.keys c.in_default.ensures.cases c.loop-row.invariant
