use Rattle.std.proofs.Common.{◌≡◌}
use Rattle.std.specs.Option.{option_map}
use Rattle.mx_output.specs.explained.Explained.{explanation_of, explanations}
use Rattle.mx_output.proofs.ExplainedProofs.TableLemmas.{form_by, known_by}
use Rattle.mx_output.proofs.explained.explaining.explanation.Goals as goal

pub returns : goal.returns
unfolding explanations
returns c =
    let its : option_map (λ text. text.now) c.said_with.result ≡ explanation_of c.args.what.now = c.said_with.ensures in
    record { its = its; known = known_by c.args.what.now c.said_with.result its; form = form_by c.args.what.now c.said_with.result its }
