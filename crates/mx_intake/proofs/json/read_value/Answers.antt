use Rattle.std.proofs.Common.{◌∙◌, ap, sym, Err, ◌≡◌, rules}
use Rattle.std.proofs.lemmas.Bool.{false≢true}
use Rattle.serde_json.specs.Errors.{IsMemory}
use Rattle.mx_intake.proofs.EntriesLemmas.{value_of_text-fault, value_of_text-read, value_of_text-refused}
use Rattle.mx_intake.proofs.json.read_value.Goals as goal

pub returns-in_err-text-clause-err : goal.returns-in_err-text-clause-err
returns-in_err-text-clause-err c =
    let passed : c.from_residual.result ≡ Err c.in_err-text.field-0.0 = search rules in
    rw passed (λ _. value_of_text-fault _ _ c.in_err-text.ensures.err)

pub returns-in-Ok-clause-ok : goal.returns-in-Ok-clause-ok
returns-in-Ok-clause-ok c = value_of_text-read _ _ _ c.in_ok-text.ensures.ok c.in-Ok.ensures.ok

pub returns-else-is_memory-clause-err : goal.returns-else-is_memory-clause-err
returns-else-is_memory-clause-err c _ =
    let other : IsMemory c.in-Err.error → ⊥ = λ m. false≢true (sym c.if-is_memory.false ∙ c.is_memory.ensures.1 m) in
    value_of_text-refused _ _ c.in_ok-text.ensures.ok (c.in-Err.ensures.err other) ∙ ap Err (sym c.of_whole-in-Err.ensures)
