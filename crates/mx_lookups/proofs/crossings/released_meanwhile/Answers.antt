use Rattle.std.proofs.Common.{◌∙◌, ap}
use Rattle.mx_row_rules.specs.found.Crossings.{straddled_releases}
use Rattle.mx_lookups.proofs.NumbersProofs.Composed.{at_points, chosen, hands, rows_give}
use Rattle.mx_lookups.proofs.NumbersProofs.CrossingRows.{releases_near_at}
use Rattle.mx_lookups.proofs.NumbersProofs.TableLemmas.{releases_at}
use Rattle.mx_lookups.proofs.crossings.released_meanwhile.Goals as goal

pub returns : goal.returns
returns g c = record {
  looks_up =
      let made = ap (straddled_releases c.args.sector.now) c.deref.ensures.value in
      at_points (λ at is. rows_give (releases_at is) (straddled_releases c.args.sector.now) c.in_ok-rows.ensures.same_reference (releases_near_at is c.args.number c.args.sector.now c.in_ok-rows.ensures.reads) c.in_ok-rows.ensures.reads (c.straddled_releases.ensures ∙ made) (λ book b found. ap (straddled_releases c.args.sector.now) found));
}

pub returns-in_err-rows : goal.returns-in_err-rows
returns-in_err-rows g c = record { looks_up = at_points (λ at is. hands c.from_residual.ensures.1 (λ _ _ it. it) (chosen (releases_at is) c.in_err-rows.ensures.same_reference (releases_near_at is c.args.number c.args.sector.now c.in_err-rows.ensures.reads) c.in_err-rows.ensures.reads)) }
