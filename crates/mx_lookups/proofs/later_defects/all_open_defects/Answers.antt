use Rattle.std.proofs.Common.{inl, inr}
use Rattle.mx_lookups.proofs.NumbersProofs.Composed.{behind, hands, implies}
use Rattle.mx_lookups.proofs.later_defects.all_open_defects.Goals as goal

pub returns-in_err-rectified : goal.returns-in_err-rectified
returns-in_err-rectified g c = record { looks_up = hands c.from_residual.ensures.1 (λ _ _. inl) c.in_err-rectified.ensures.looks_up.later }

pub returns : goal.returns
returns g c = record {
  looks_up =
      implies c.defects_but.result (λ book found b both. both.1 both.0) (λ trees found both. both.1 both.0) (λ name trees both. inr (both.1 both.0))
      (behind c.in_ok-rectified.ensures.looks_up.later c.defects_but.ensures.looks_up);
}
