use Rattle.std.proofs.Common.{◌∙◌, sym}
use Rattle.mx_words.proofs.CommandLineProofs.NumberLemmas.{number_read}
use Rattle.mx_words.proofs.command_line.words.number.Goals as goal

pub returns : goal.returns
returns c = c.ok.ensures.value ∙ number_read c.args.text.now c.parse.result (sym c.has_digits_alone.ensures ∙ c.if-not-has_digits_alone.false) c.parse.ensures.value.0
