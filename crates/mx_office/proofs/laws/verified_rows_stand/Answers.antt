use Rattle.mx_office.proofs.laws.verified_rows_stand.Goals as goal

pub returns : goal.returns
returns c db settled sound rise has = (has.0, record { lies = record { sound = sound; rises = rise }; rows = has.1 })
