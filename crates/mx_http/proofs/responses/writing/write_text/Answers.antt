use Rattle.std.proofs.Common.{sym, subst}
use Rattle.mx_http.proofs.ResponsesProofs.WritingLemmas.{IsPartWritten, all_behind, begun_written, more_written, some_written}
use Rattle.mx_http.proofs.responses.writing.write_text.Goals as goal

pub loop-rest-preserved : goal.loop-rest-preserved
loop-rest-preserved g c =
    subst (IsPartWritten _ _ _) (sym (all_behind c.in-Ok.count c.loop-rest.rest.now))
    (more_written _ _ _ _ _ c.in-Ok.count c.loop-rest.invariant c.in-Ok.ensures.bytes)

pub returns-in_default-clause-cut : goal.returns-in_default-clause-cut
returns-in_default-clause-cut g c = begun_written _ _ _ _ (more_written _ _ _ _ _ c.in-Ok.count c.loop-rest.invariant c.in-Ok.ensures.bytes)

pub returns-in_default-2-clause-cut : goal.returns-in_default-2-clause-cut
returns-in_default-2-clause-cut g c = some_written _ _ _ _ _ c.loop-rest.invariant c.in_default.ensures.bytes
