use Rattle.std.proofs.Common.{rules, take}
use Rattle.std.specs.List.{flat_map}
use Rattle.mx_reports.specs.Words.{StartsWith}
use Rattle.mx_reports.proofs.StartsLemmas.{starts_further}
use Rattle.mx_reports.proofs.text.append_rows.Goals as goal

pub returns-in_err-append-clause-kept : goal.returns-in_err-append-clause-kept
returns-in_err-append-clause-kept g c =
    let kept : StartsWith c.args.out.now.items c.append.new.out.items =
    starts_further c.args.out.now.items (flat_map g.T.Text.text (take c.loop-row.row-index c.args.rows.now)) c.loop-row.out.items c.append.new.out.items c.loop-row.invariant c.in_err-append.ensures.kept in
    search rules
