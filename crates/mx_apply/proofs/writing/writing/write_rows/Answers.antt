use Rattle.mx_apply.proofs.writing.writing.write_rows.Goals as goal

pub returns-in-Err-clause-writes : goal.returns-in-Err-clause-writes
returns-in-Err-clause-writes g c = record { gains = λ _ _ _ _. tt; mode = λ _ _. tt; inside = λ _ _. tt; within = c.in-Err.ensures.writes.within }
