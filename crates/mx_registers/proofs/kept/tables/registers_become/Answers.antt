use Rattle.std.proofs.Common.{rules}
use Rattle.mx_registers.proofs.KeptProofs.TableLemmas.{register_becomes}
use Rattle.mx_registers.proofs.kept.tables.registers_become.Goals as goal

pub returns : goal.returns
returns c = search (rules, register_becomes)
