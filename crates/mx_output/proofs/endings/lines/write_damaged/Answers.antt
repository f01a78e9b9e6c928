use Rattle.mx_output.proofs.endings.lines.write_damaged.Goals as goal

pub returns : goal.returns
returns g c = rw c.name-name.ensures at c.writeln.ensures.bytes
