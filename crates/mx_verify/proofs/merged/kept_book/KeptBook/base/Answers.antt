use Rattle.std.proofs.Common.{sym, subst, ap, ◌∙◌}
use Rattle.std.specs.Prelude.{IfSome}
use Rattle.mx_book.specs.due.Due.{IsBase}
use Rattle.mx_book.specs.Base.{base}
use Rattle.mx_registers.specs.Names.{item_at}
use Rattle.mx_verify.proofs.merged.kept_book.KeptBook.base.Goals as goal

pub returns-clause-base : goal.returns-clause-base
returns-clause-base c =
    c.copied.ensures ∙ c.get.ensures.value
    ∙ c.self.invariant.bases_are c.args.number c.args.item.now c.args.task.now (ap (λ b. item_at b c.args.number) c.self.view_is ∙ c.requires)
    ∙ ap (λ b. base b c.args.item.now c.args.task.now) c.self.view_is

pub returns-clause-bounded : goal.returns-clause-bounded
returns-clause-bounded c = subst (λ o. IfSome o IsBase) (sym (c.copied.ensures ∙ c.get.ensures.value)) (c.self.invariant.bounded c.args.number c.args.task.now)
