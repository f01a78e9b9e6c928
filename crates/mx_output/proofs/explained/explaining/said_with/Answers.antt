use Rattle.std.proofs.Common.{ap, ◌∙◌}
use Rattle.std.specs.Option.{option_map}
use Rattle.std.specs.Str.{bytes_eq}
use Rattle.mx_output.specs.explained.Explained.{first_word}
use Rattle.mx_output.proofs.ExplainedProofs.TableLemmas.{found_by}
use Rattle.mx_output.proofs.explained.explaining.said_with.Goals as goal

pub returns : goal.returns
returns c = ap (option_map (λ text. text.now)) c.first_with.ensures ∙ found_by (λ text. text.now) (λ text. bytes_eq (first_word text) c.args.word.now) c.args.texts.now
