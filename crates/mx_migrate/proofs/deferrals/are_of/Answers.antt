use Rattle.std.proofs.Common.{◌≡◌, ◌∙◌, length, rules, tests}
use Rattle.std.proofs.lemmas.Iterator.{YieldsList-from_slice, YieldsList-from_zip, same_from_all}
use Rattle.std.proofs.lemmas.List.{length-map}
use Rattle.mx_base.specs.declared.rows.rows.Deferral3Row.{Deferral3Row}
use Rattle.mx_migrate.proofs.BatchLemmas.{deferral_same, read_through}
use Rattle.mx_migrate.proofs.deferrals.are_of.Goals as goal

pub returns-then-rows-read : goal.returns-then-rows-read
returns-then-rows-read c =
    let alike : length c.args.rows.now ≡ length c.args.read.now = search rules in
    same_from_all c.all.new.self _ _ _ _ c.all.ensures.ran (YieldsList-from_zip (read_through (λ (row : Deferral3Row). row.deferral) (YieldsList-from_slice c.args.rows.now cc)) (YieldsList-from_slice c.args.read.now cc))
    (length-map c.args.rows.now (λ (row : Deferral3Row). row.deferral) ∙ alike) (λ x q k. search (rules, tests, deferral_same)) (λ x q k. search (rules, tests, deferral_same))
