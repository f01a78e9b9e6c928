use Rattle.std.proofs.Common.{◌<◌, inr, length, refl, sym, ap, ◌∙◌, arith, [], ◌∷◌}
use Rattle.mx_layout.proofs.PointLemmas.{alone}
use Rattle.mx_layout.proofs.reading.only_point.Goals as goal

pub returns-in-Some : goal.returns-in-Some
returns-in-Some c = alone c.args.found.now c.index-found-0.result c.if-found-ne1.false c.index-found-0.is ∙ ap (λ r. r ∷ []) c.in-Some.ensures

pub returns-in-None : goal.returns-in-None
returns-in-None c =
    let low : 0 < length c.args.found.now = omega (arith, c.if-found-ne1.false) in
    inr (refl, c.if-found-ne1.false, (c.index-found-0.result, (0, low, sym c.index-found-0.is), c.in-None.ensures))
