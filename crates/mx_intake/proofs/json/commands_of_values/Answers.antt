use Rattle.std.proofs.Common.{refl, ◌≡◌, ◌∙◌, [], ◌∷◌, ◌++◌, Err, arith, sym, ap, rules}
use Rattle.mx_intake.specs.Fault.{fault}
use Rattle.mx_intake.specs.Entries.{entries_from}
use Rattle.mx_intake.specs.Forms.{entry_by_json}
use Rattle.serde_json.specs.View.{view, items_view}
use Rattle.mx_intake.proofs.SequenceLemmas.{given_next, given_faulty}
use Rattle.mx_intake.proofs.json.commands_of_values.Goals as goal

pub returns-in_err-command-clause-err : goal.returns-in_err-command-clause-err
returns-in_err-command-clause-err c =
    let passed : c.from_residual.result ≡ Err c.in_err-command.field-0.0 = search rules in
    rw passed (λ other.
    let bad = c.in_err-command.ensures.err other in
    given_faulty (λ place vs. entries_from place (items_view vs)) (λ v. entry_by_json (view v)) (λ place v vs. refl)
    c.args.values.now c.loop-i.commands.items c.loop-i.i c.index-values-i.result c.in_err-command.field-0.0.number
    (omega arith) c.index-values-i.is bad.0 c.loop-i.invariant
    ∙ ap (λ n. Err (fault c.in_err-command.field-0.0.number n)) (sym bad.1))

pub loop-i-preserved : goal.loop-i-preserved
loop-i-preserved c =
    let appended : c.push.new.self.items ≡ c.loop-i.commands.items ++ c.in_ok-command.command ∷ [] = search rules in
    rw appended (given_next (λ place vs. entries_from place (items_view vs)) (λ v. entry_by_json (view v)) (λ place v vs. refl)
    c.args.values.now c.loop-i.commands.items c.loop-i.i c.index-values-i.result c.in_ok-command.command
    (omega arith) c.index-values-i.is c.in_ok-command.ensures.ok c.loop-i.invariant)
