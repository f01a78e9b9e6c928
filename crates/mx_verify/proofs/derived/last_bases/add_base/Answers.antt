use Rattle.std.proofs.Common.{List, [], ◌∷◌, ◌++◌, sym, subst, ◌∙◌}
use Rattle.mx_base.specs.declared.rows.rows.BaseRow.{BaseRow}
use Rattle.mx_verify.specs.merged.Keys.{AreKeys}
use Rattle.mx_verify.specs.derived.Kept.{AreBasesAt}
use Rattle.mx_verify.proofs.DerivedProofs.KeptLemmas.{has_none, met_before, one_base}
use Rattle.mx_verify.proofs.derived.last_bases.add_base.Goals as goal

pub returns-then-held : goal.returns-then-held
returns-then-held c = λ keys b are. met_before c.args.book.now keys c.args.key.now c.args.rows.now.items c.args.met.now (sym c.held.ensures ∙ c.if-held.true) b are

pub returns-in_default : goal.returns-in_default
returns-in_default c = λ keys b are. has_none c.args.book.now keys c.args.key.now c.args.rows.now.items c.args.met.now (sym c.base_row_at.ensures ∙ c.in_default.is) b are

pub returns-in-Ok-push : goal.returns-in-Ok-push
returns-in-Ok-push c = λ keys b are.
    subst (λ (rows : List BaseRow). AreBasesAt c.args.book.now (keys ++ c.args.key.now ∷ []) rows × AreKeys rows c.insert.new.self) (sym c.in-Ok-push.ensures.items)
    (one_base c.args.book.now keys c.args.key.now c.in-Some.row c.args.rows.now.items c.args.met.now c.insert.new.self (sym c.held.ensures ∙ c.if-held.false) (sym c.base_row_at.ensures ∙ c.in-Some.is) c.in-Ok.ensures.updates b are)
