use Rattle.std.proofs.Common.{[], ◌∷◌, ◌++◌, ap, ◌∙◌}
use Rattle.mx_base.specs.declared.rows.rows.SpanRow.{SpanRow}
use Rattle.mx_registers.specs.file.Spans.{span_by}
use Rattle.mx_registers.proofs.FileProofs.WalkLemmas.{makes, starts, takes, walked}
use Rattle.mx_registers.proofs.file.spans.spans_made.Goals as goal

pub loop-fitting-init : goal.loop-fitting-init
loop-fitting-init c = λ high up late. starts c.args.fittings.now c.args.removals.now c.new-ends.result c.new-made.result.items high c.new-made.ensures.items c.new-ends.ensures.empty up late

pub loop-fitting-preserved-in-Some-last_behind : goal.loop-fitting-preserved-in-Some-last_behind
loop-fitting-preserved-in-Some-last_behind c = λ high up late.
    let split = c.in-Some.ensures.cases in
    let last = c.in-Some-last_behind.ensures in
    takes c.args.fittings.now c.args.removals.now c.loop-fitting.rest.now c.in-Some.earlier.now c.in-Some.fitting.now c.loop-fitting.left.now c.in-Some-last_behind.before.now c.in-Some-last_behind.removal.now c.loop-fitting.ends c.put.new.ends c.loop-fitting.made.items
    split.0 last.0 last.1 c.in_ok-put-in-Some-last_behind.ensures (c.loop-fitting.invariant high up late)

pub loop-fitting-preserved : goal.loop-fitting-preserved
loop-fitting-preserved c = λ high up late.
    makes c.args.fittings.now c.args.removals.now c.loop-fitting.rest.now c.in-Some.earlier.now c.in-Some.fitting.now c.loop-fitting.left.now c.loop-fitting.ends c.loop-fitting.made.items c.push.new.self.items
    c.in-Some.ensures.cases.0 c.in-None.ensures
    (c.in-Ok.ensures.items ∙ ap (λ (row : SpanRow). c.loop-fitting.made.items ++ row ∷ []) (c.span_by.ensures ∙ ap (span_by c.in-Some.fitting.now) c.get.ensures.value))
    (c.loop-fitting.invariant high up late)

pub returns : goal.returns
returns c = λ high up late. c.reverse.ensures.items ∙ walked c.args.fittings.now c.args.removals.now c.loop-fitting.rest.now c.loop-fitting.left.now c.loop-fitting.ends c.loop-fitting.made.items c.in_default.ensures.cases (c.loop-fitting.invariant high up late)
