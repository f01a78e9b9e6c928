use Rattle.std.proofs.Common.{◌∙◌, ap, subst}
use Rattle.std.specs.List.Sorted.{IsPermutation}
use Rattle.mx_lookups.proofs.NumbersProofs.ReadLemmas.{follows}
use Rattle.mx_apply.proofs.MadeProofs.AmongLemmas.{among, in_another_order}
use Rattle.mx_apply.proofs.MadeProofs.MadeLemmas.{unasked}
use Rattle.mx_apply.specs.made.Found.{AreTotalsOf}
use Rattle.mx_apply.proofs.MadeProofs.AnyMadeLemmas.{any_follows}
use Rattle.mx_apply.proofs.MadeProofs.AnyTotalLemmas.{of_permuted}
use Rattle.std.specs.Prelude.{Contains}
use Rattle.std.proofs.lemmas.List.Sorted.{Contains-permutation, IsPermutation-sym}
use Rattle.mx_lookups.proofs.NumbersProofs.ToldLemmas.{told_as}
use Rattle.mx_apply.proofs.made.totals.totals_of.Goals as goal

pub returns-in_err-sorted-clause-reads : goal.returns-in_err-sorted-clause-reads
returns-in_err-sorted-clause-reads g c = unasked _ _ _ c.from_residual.ensures.1

pub returns-clause-reads : goal.returns-clause-reads
returns-clause-reads g c =
    follows _ _ _ _ c.totals_in_order.result
    (λ book v b is. is ∙ ap (λ ns. among ns book) c.deref.ensures.value ∙ in_another_order book c.args.numbers.now c.sort_unstable.new.self.items (subst (λ ns. IsPermutation ns c.sort_unstable.new.self.items) c.in_ok-sorted.ensures.items c.sort_unstable.ensures.permutation)) c.totals_in_order.ensures.reads

pub returns-clause-any_rows : goal.returns-clause-any_rows
returns-clause-any_rows g c =
    let permuted = subst (λ ns. IsPermutation ns c.sort_unstable.new.self.items) c.in_ok-sorted.ensures.items c.sort_unstable.ensures.permutation in
    any_follows _ _ _ _ c.totals_in_order.result
    (λ trees v of. of_permuted trees c.args.numbers.now c.sort_unstable.new.self.items v.items permuted (subst (λ ns. AreTotalsOf ns trees v.items) c.deref.ensures.value of)) c.totals_in_order.ensures.any_rows

pub returns-clause-damage : goal.returns-clause-damage
returns-clause-damage g c =
    let numbers = c.args.numbers.now in
    let sorted = c.sort_unstable.new.self.items in
    let permuted = subst (λ ns. IsPermutation ns sorted) c.in_ok-sorted.ensures.items c.sort_unstable.ensures.permutation in
    told_as (λ name trees it. (it.0, Contains-permutation sorted numbers it.0 (IsPermutation-sym numbers sorted permuted) (subst (λ ns. Contains ns it.0) c.deref.ensures.value it.1), it.2)) c.totals_in_order.ensures.damage
