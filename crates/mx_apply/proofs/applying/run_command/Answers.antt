use Rattle.std.proofs.Common.{Ok, subst}
use Rattle.sqlite.specs.Held.{state}
use Rattle.mx_lookups.specs.numbers.AnyRows.{ReadsAny}
use Rattle.mx_lookups.specs.numbers.Reads.{Reads}
use Rattle.mx_lookups.proofs.NumbersProofs.ToldLemmas.{handed}
use Rattle.mx_apply.specs.Judged.{IsJudged, JudgedOf}
use Rattle.mx_apply.proofs.ApplyLemmas.{already, refused, written}
use Rattle.mx_apply.proofs.applying.run_command.Goals as goal

pub returns-in_ok-write_rows-in-New-clause-runs : goal.returns-in_ok-write_rows-in-New-clause-runs
returns-in_ok-write_rows-in-New-clause-runs g c =
    let command = c.args.command.now in
    let old = state g.S.Store c.args.tx.now.conn.now in
    let mid = state g.S.Store c.verdict_and_rows.new.tx.conn.now in
    let new = state g.S.Store c.write_rows.new.tx.conn.now in
    let r = subst (λ j. Reads (IsJudged command) old mid (Ok j)) c.in-New.is c.in_ok-rows.ensures.reads in
    let any = subst (λ j. ReadsAny (JudgedOf command) old mid (Ok j)) c.in-New.is c.in_ok-rows.ensures.any_rows in
    let wrote = c.in_ok-write_rows-in-New in
    written command old mid c.in-New.rows r any new wrote.field-0 c.doc.ensures.shape wrote.ensures.writes wrote.ensures.opens

pub returns-in-Already-clause-runs : goal.returns-in-Already-clause-runs
returns-in-Already-clause-runs g c =
    let command = c.args.command.now in
    let old = state g.S.Store c.args.tx.now.conn.now in
    let mid = state g.S.Store c.verdict_and_rows.new.tx.conn.now in
    let r = subst (λ j. Reads (IsJudged command) old mid (Ok j)) c.in-Already.is c.in_ok-rows.ensures.reads in
    let any = subst (λ j. ReadsAny (JudgedOf command) old mid (Ok j)) c.in-Already.is c.in_ok-rows.ensures.any_rows in
    already command old mid c.in-Already.seq r any

pub returns-in-Refused-clause-runs : goal.returns-in-Refused-clause-runs
returns-in-Refused-clause-runs g c =
    let command = c.args.command.now in
    let old = state g.S.Store c.args.tx.now.conn.now in
    let mid = state g.S.Store c.verdict_and_rows.new.tx.conn.now in
    let r = subst (λ j. Reads (IsJudged command) old mid (Ok j)) c.in-Refused.is c.in_ok-rows.ensures.reads in
    let any = subst (λ j. ReadsAny (JudgedOf command) old mid (Ok j)) c.in-Refused.is c.in_ok-rows.ensures.any_rows in
    refused command old mid c.in-Refused.refusal r any

pub returns-in_err-rows-clause-damage : goal.returns-in_err-rows-clause-damage
returns-in_err-rows-clause-damage g c = handed (λ name trees it. it) c.from_residual.ensures.1 c.in_err-rows.ensures.damage
