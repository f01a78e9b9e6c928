use Rattle.std.proofs.Common.{◌∙◌, sym}
use Rattle.mx_lookups.proofs.NumbersProofs.AnyLemmas.{empty_is}
use Rattle.mx_lookups.proofs.NumbersProofs.BookRows.{lines_of}
use Rattle.mx_lookups.proofs.NumbersProofs.ReadLemmas.{reads_then, stopped}
use Rattle.mx_lookups.proofs.NumbersProofs.TableLemmas.{release_lines}
use Rattle.mx_row_questions.proofs.EntriesProofs.LineLemmas.{lines_begun, lines_ended, lines_ended-any, lines_more, lines_none, lines_none-any, lines_starved, nothing_certified, nothing_certified-any}
use Rattle.mx_row_questions.proofs.EntriesProofs.StatedLemmas.{all_chosen}
use Rattle.mx_row_questions.proofs.entries.releases.lines_stated.Goals as goal

pub returns-in_err-rows-clause-reads : goal.returns-in_err-rows-clause-reads
returns-in_err-rows-clause-reads g c = stopped _ _ _ _ _ _ c.from_residual.ensures.1 (lines_of c.args.seq c.in_err-rows.ensures.reads)

pub loop-row-init : goal.loop-row-init
loop-row-init g c = record {
  same_reference = c.in_ok-rows.ensures.same_reference;
  walk = lines_begun c.args.seq _ _ _ _ _ c.new-lines.ensures.items c.as_slice-rest.ensures.value (lines_of c.args.seq c.in_ok-rows.ensures.reads) (all_chosen release_lines.is_in c.in_ok-rows.ensures.reads);
}

pub loop-row-preserved : goal.loop-row-preserved
loop-row-preserved g c = record {
  same_reference = c.in_ok-said.ensures.same_reference ∙ c.loop-row.invariant.same_reference;
  walk = lines_more c.args.seq _ _ _ _ c.in-Some.later.now c.in-Some.row.now c.loop-row.invariant.walk c.in-Some.ensures.cases.0 _ _ (sym c.in-Some-certified_in.ensures) _ c.in_ok-said.ensures.reads c.in_ok-said.ensures.any_rows c.in-Some-said.line _ c.in-Some-said.is
      c.in_ok-push-in-Some-said.ensures.items;
}

pub returns-in_default-certified_in-clause-reads : goal.returns-in_default-certified_in-clause-reads
returns-in_default-certified_in-clause-reads g c =
    nothing_certified c.args.seq _ _ _ _ c.in-Some.later.now c.in-Some.row.now c.loop-row.invariant.walk c.in-Some.ensures.cases.0 (sym c.in_default-certified_in.ensures)

pub returns-in_default-certified_in-clause-any_rows : goal.returns-in_default-certified_in-clause-any_rows
returns-in_default-certified_in-clause-any_rows g c =
    nothing_certified-any c.args.seq _ _ _ _ c.in-Some.later.now c.in-Some.row.now c.loop-row.invariant.walk c.in-Some.ensures.cases.0 (sym c.in_default-certified_in.ensures)

pub returns-in-None-clause-reads : goal.returns-in-None-clause-reads
returns-in-None-clause-reads g c =
    lines_none c.args.seq _ _ _ _ c.in-Some.later.now c.in-Some.row.now c.loop-row.invariant.walk c.in-Some.ensures.cases.0 _ _ (sym c.in-Some-certified_in.ensures) _ c.in_ok-said.ensures.reads c.in_ok-said.ensures.any_rows c.in-None.is

pub returns-in-None-clause-any_rows : goal.returns-in-None-clause-any_rows
returns-in-None-clause-any_rows g c =
    lines_none-any c.args.seq _ _ _ _ c.in-Some.later.now c.in-Some.row.now c.loop-row.invariant.walk c.in-Some.ensures.cases.0 _ _ (sym c.in-Some-certified_in.ensures) _ c.in_ok-said.ensures.reads c.in_ok-said.ensures.any_rows c.in-None.is

pub returns-in_err-said-clause-reads : goal.returns-in_err-said-clause-reads
returns-in_err-said-clause-reads g c = stopped _ _ _ _ _ _ c.from_residual-in_err-said.ensures.1 (reads_then _ _ _ _ _ _ _ c.loop-row.invariant.walk.reads c.in_err-said.ensures.reads)

pub returns-in_err-push-in-Some-said-clause-reads : goal.returns-in_err-push-in-Some-said-clause-reads
returns-in_err-push-in-Some-said-clause-reads g c =
    lines_starved c.args.seq _ _ _ _ c.in-Some.later.now c.in-Some.row.now c.loop-row.invariant.walk c.in-Some.ensures.cases.0 _ _ (sym c.in-Some-certified_in.ensures) _ c.in_ok-said.ensures.reads c.in_ok-said.ensures.any_rows _ _
    c.from_residual-in_err-push-in-Some-said.ensures.1

pub returns-clause-reads : goal.returns-clause-reads
returns-clause-reads g c = lines_ended c.args.seq _ _ _ _ (empty_is _ c.in_default.ensures.cases) c.loop-row.invariant.walk

pub returns-clause-any_rows : goal.returns-clause-any_rows
returns-clause-any_rows g c = lines_ended-any c.args.seq _ _ _ _ (empty_is _ c.in_default.ensures.cases) c.loop-row.invariant.walk
