use Rattle.std.proofs.Common.{◌≡◌, ◌⊎◌, true, sym, subst, arith}
use Rattle.std.specs.Prelude.{MatchResult}
use Rattle.sqlite.specs.Held.{state}
use Rattle.sqlite.specs.State.{HasCleanDisk}
use Rattle.mx_faults.specs.declared.fault.Fault.TheVariants.{Memory, Store}
use Rattle.mx_office.proofs.VerifiedLemmas.{verified_of_book}
use Rattle.mx_office.proofs.office.Office.verify.Goals as goal

pub returns-clause-exact : goal.returns-clause-exact
returns-clause-exact g c book ready rests clean is_open =
    let old = state g.S.Store c.args.self.now.conn in
    let early : HasCleanDisk old = omega (arith, c.verify.ensures.unchanged.survives.clean) in
    subst (λ r. MatchResult r (λ same. same ≡ true) (λ fault. (fault ≡ Memory) ⊎ (fault ≡ Store))) (sym c.call_answer-answer.ensures)
    (verified_of_book old book rests early is_open c.verify.result (c.verify.ensures.tells clean))
