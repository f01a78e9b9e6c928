use Rattle.std.proofs.Common.{◌≡◌, true, ◌∙◌, ap, subst, sym}
use Rattle.std.specs.Prelude.{IfErr}
use Rattle.sqlite.specs.Held.{state}
use Rattle.mx_book_tables.specs.stands.Schemas.{schema_at}
use Rattle.mx_book_tables.specs.reading.Damage.{IsCause}
use Rattle.mx_book_tables.specs.reading.Layout.{verified_point}
use Rattle.mx_verify.specs.Verifies.{HasBook, IsVerified, Tells, told_file}
use Rattle.mx_verify.proofs.ListedLemmas.{missing}
use Rattle.mx_verify.proofs.TellLemmas.{cause_beside, tells_beside}
use Rattle.mx_verify.proofs.verifying.verify.Goals as goal

pub returns-clause-tells : goal.returns-clause-tells
returns-clause-tells g c clean has =
    let old = (state g.S.Store c.args.conn.now).now in
    subst (Tells (IsVerified old) old.trees) (sym c.told_file.ensures)
    (tells_beside (HasBook old.trees) (old.schema.tables ≡ (schema_at verified_point).tables) old.trees c.has_no_other-alone.result (c.has_no_other-alone.ensures has) c.verify_rows.result (c.verify_rows.ensures.tells clean has))

pub returns-clause-missing : goal.returns-clause-missing
returns-clause-missing g c name there none =
    let lacks : c.lacks_any-is_missing.result ≡ true = c.lacks_any-is_missing.ensures ∙ missing c.args.conn.now.schema name there none in
    c.told_file.ensures ∙ ap (told_file c.has_no_other-alone.result) (c.verify_rows.ensures.missing lacks)

pub returns-clause-cause : goal.returns-clause-cause
returns-clause-cause g c clean =
    subst (λ r. IfErr r IsCause) (sym c.told_file.ensures) (cause_beside c.has_no_other-alone.result c.verify_rows.result (c.verify_rows.ensures.cause clean))
