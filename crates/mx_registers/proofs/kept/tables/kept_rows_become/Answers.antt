use Rattle.mx_book.proofs.JudgeLemmas.{both_true}
use Rattle.mx_registers.proofs.KeptProofs.ItemNumbers.{total_rows-changed}
use Rattle.mx_registers.proofs.KeptProofs.PutBases.{command_bases}
use Rattle.mx_registers.proofs.KeptProofs.SpanRows.{span_rows-more}
use Rattle.mx_registers.proofs.kept.tables.kept_rows_become.Goals as goal

pub returns : goal.returns
returns c = record {
  spans = λ book command b new shape. span_rows-more book command b new;
  totals = λ book command b new shape. total_rows-changed book command.doc command.act b new (both_true _ _ shape).0;
  bases = λ book command b new shape. command_bases book command.doc command.act b new shape;
}
