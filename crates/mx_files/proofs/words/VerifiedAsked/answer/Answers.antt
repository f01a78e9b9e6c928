use Rattle.mx_files.proofs.words.VerifiedAsked.answer.Goals as goal

pub returns-clause-kept : goal.returns-clause-kept
returns-clause-kept g c = record { asked = c.print_verified.ensures.asked; told = c.print_verified.ensures.told }
