use Rattle.std.proofs.Common.{sym, subst, ◌≡◌, List}
use Rattle.std.specs.Prelude.{is_ok}
use Rattle.mx_book.specs.commands.Act.{Entry}
use Rattle.mx_book.specs.declared.verdict.Verdict.TheVariants.{New}
use Rattle.mx_book.specs.Judge.{judge}
use Rattle.mx_book.specs.Book.{IsBook}
use Rattle.mx_book.proofs.JudgeLemmas.{IsBook-entered_if}
use Rattle.mx_book.proofs.entry_list.book.Book.enter.Goals as goal

pub invariant_of-self : goal.invariant_of-self
invariant_of-self c =
    subst IsBook (sym c.push.ensures.items)
    (IsBook-entered_if (is_ok c.push.result) c.self.inside.entries.items c.args.command c.self.invariant c.doc.ensures.shape
    (subst (λ (es : List Entry). judge es c.args.command ≡ New) (sym c.self.view_is) c.requires))
