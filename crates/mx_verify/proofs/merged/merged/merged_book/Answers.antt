use Rattle.std.proofs.Common.{rules, sym, ap, ◌∙◌, [], ◌++◌}
use Rattle.mx_indexed_book.specs.moments.Done.{accomplished, accomplished_by}
use Rattle.mx_registers.specs.Left.{rest_of}
use Rattle.mx_verify.specs.merged.Merging.{merging}
use Rattle.mx_verify.proofs.MergedProofs.MergingOn.{given_on}
use Rattle.mx_verify.proofs.MergedProofs.SaidLemmas.{said_more}
use Rattle.mx_verify.proofs.merged.merged.merged_book.Goals as goal

pub loop-entry-preserved : goal.loop-entry-preserved
loop-entry-preserved c =
    let book = c.loop-entry.book in
    let command = c.in-Some-2.command in
    record {
      given =
          given_on book c.enter.new.self c.loop-entry.coming.now c.in-Some.later.now c.in-Some.entry.now (rest_of c.loop-entry.rows) (rest_of c.in-Some-2.rest) command (merging [] c.args.entries.now (rest_of c.args.all)) c.in-Some.ensures.cases.0
          (search rules) (search rules) (search rules) c.in-Ok.ensures.entered c.loop-entry.invariant.given;
      said =
          c.in_ok-add_accomplished.ensures.items
          ∙ ap (λ xs. xs ++ accomplished_by book command.act) c.loop-entry.invariant.said
          ∙ sym (said_more book command)
          ∙ ap accomplished (sym c.in-Ok.ensures.entered);
      sayable = c.in_ok-add_accomplished.ensures.sayable c.loop-entry.invariant.sayable;
    }
