use Rattle.std.proofs.Common.{◌∙◌, ap, sym, Err, ◌≡◌, rules}
use Rattle.std.proofs.lemmas.Bool.{false≢true}
use Rattle.toml.specs.Errors.{IsMemory}
use Rattle.mx_intake.proofs.ProgrammeLemmas.{table_of_text-fault, table_of_text-read, table_of_text-refused}
use Rattle.mx_intake.proofs.programme.read_table.Goals as goal

pub returns-in_err-text-clause-err : goal.returns-in_err-text-clause-err
returns-in_err-text-clause-err c =
    let passed : c.from_residual.result ≡ Err c.in_err-text.field-0.0 = search rules in
    rw passed (λ _. table_of_text-fault _ _ c.in_err-text.ensures.err)

pub returns-in-Ok-clause-ok : goal.returns-in-Ok-clause-ok
returns-in-Ok-clause-ok c = table_of_text-read _ _ c.in-Ok.table c.in_ok-text.ensures.ok c.in-Ok.ensures.ok

pub returns-else-is_memory-clause-err : goal.returns-else-is_memory-clause-err
returns-else-is_memory-clause-err c _ =
    let other : IsMemory c.in-Err.error → ⊥ = λ m. false≢true (sym c.if-is_memory.false ∙ c.is_memory.ensures.1 m) in
    table_of_text-refused _ _ c.in_ok-text.ensures.ok (c.in-Err.ensures.refused other) ∙ ap Err (sym c.of_whole-in-Err.ensures)
