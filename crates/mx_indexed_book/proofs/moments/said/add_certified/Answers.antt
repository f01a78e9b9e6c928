use Rattle.std.proofs.Common.{arith, sym, ap, ◌∙◌, ◌+◌, ◌∷◌, ◌++◌, [], length, append_assoc}
use Rattle.mx_indexed_book.specs.moments.Done.{certified}
use Rattle.mx_indexed_book.proofs.MomentsProofs.SaidLemmas.{certified-step}
use Rattle.mx_indexed_book.proofs.moments.said.add_certified.Goals as goal

pub loop-line-preserved : goal.loop-line-preserved
loop-line-preserved c =
    let book = c.args.book.now in
    let release = c.args.release.now in
    let number = c.loop-line.number in
    let line = c.in-Some.line.now in
    let later = c.in-Some.later.now in
    let rest = c.in-Some.ensures.cases.0 in
    record {
      all =
          ap (λ xs. xs ++ certified book release (number + 1) later) c.in_ok-add_line.ensures.items
          ∙ append_assoc c.loop-line.said.items (certified book release number (line ∷ [])) (certified book release (number + 1) later)
          ∙ ap (λ xs. c.loop-line.said.items ++ xs) (sym (certified-step book release number line later))
          ∙ ap (λ ls. c.loop-line.said.items ++ certified book release number ls) (sym rest)
          ∙ c.loop-line.invariant.all;
      number = let one = ap length rest in let all = c.loop-line.invariant.number in omega arith;
      sayable = λ h. c.in_ok-add_line.ensures.sayable (c.loop-line.invariant.sayable h);
    }
