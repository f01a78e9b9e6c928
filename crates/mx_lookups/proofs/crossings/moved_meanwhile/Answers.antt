use Rattle.std.proofs.Common.{◌∙◌, ap}
use Rattle.mx_row_rules.specs.found.Crossings.{straddled_moves}
use Rattle.mx_lookups.proofs.NumbersProofs.Composed.{at_points, chosen, hands, rows_give}
use Rattle.mx_lookups.proofs.NumbersProofs.CrossingRows.{spans_of_aircraft_at}
use Rattle.mx_lookups.proofs.NumbersProofs.TableLemmas.{spans_at}
use Rattle.mx_lookups.proofs.crossings.moved_meanwhile.Goals as goal

pub returns : goal.returns
returns g c = record {
  looks_up =
      let made = ap (straddled_moves c.args.sector.now) c.deref.ensures.value in
      at_points (λ at is. rows_give (spans_at is) (straddled_moves c.args.sector.now) c.in_ok-rows.ensures.same_reference (spans_of_aircraft_at is _ c.in_ok-rows.ensures.reads) c.in_ok-rows.ensures.reads (c.straddled_moves.ensures ∙ made) (λ book b found. ap (straddled_moves c.args.sector.now) found));
}

pub returns-in_err-rows : goal.returns-in_err-rows
returns-in_err-rows g c = record { looks_up = at_points (λ at is. hands c.from_residual.ensures.1 (λ _ _ it. it) (chosen (spans_at is) c.in_err-rows.ensures.same_reference (spans_of_aircraft_at is _ c.in_err-rows.ensures.reads) c.in_err-rows.ensures.reads)) }
