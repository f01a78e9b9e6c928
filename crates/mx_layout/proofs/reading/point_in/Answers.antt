use Rattle.std.proofs.Common.{[]}
use Rattle.sqlite.specs.Held.{state}
use Rattle.sqlite.specs.State.{HasCleanDisk}
use Rattle.mx_layout.specs.Point.{point_text}
use Rattle.mx_layout.proofs.AnswerLemmas.{answers_point, point_of_answer, point_inside, point_unchanged, point_reads, point_exact, point_open, point_absent}
use Rattle.mx_layout.proofs.QueryLemmas.{query_within}
use Rattle.mx_layout.proofs.reading.point_in.Goals as goal

pub returns : goal.returns
returns g c =
    let old = state g.S.Store c.args.tx.now.conn.now in
    let new = state g.S.Store c.query_all-answer.new.self.conn.now in
    let r = c.point_found.result in
    let ran = c.query_all-answer.ensures in
    let it = λ (clean : HasCleanDisk new). point_of_answer (λ v. v.items) old new c.query_all-answer.result r c.point_found.ensures.found c.point_found.ensures.stopped (ran.ok clean) (ran.err clean) in
    record {
      stays = record {
        same_reference = ran.same_reference;
        inside = λ clean. point_inside (λ v. v.items) old new r (it clean);
        within = query_within (λ v. v.items) old new point_text [] c.query_all-answer.result ran.survives ran.ok ran.err;
      };
      unchanged = λ clean. point_unchanged (λ v. v.items) old new r (it clean);
      answered = λ clean. answers_point (λ v. v.items) old new r (it clean);
      reads = λ clean. point_reads (λ v. v.items) old new r (it clean);
      exact = λ p clean holds fits. point_exact (λ v. v.items) old new r (it clean) p holds fits;
      absent = λ clean. point_absent (λ v. v.items) old new r (it clean);
      «open» = λ clean. point_open (λ v. v.items) old new r (it clean);
    }
