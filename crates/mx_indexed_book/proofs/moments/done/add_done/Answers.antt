use Rattle.std.proofs.Common.{sym, subst, ap, ◌∙◌, ◌≡◌, List}
use Rattle.std.specs.Prelude.{IfSome}
use Rattle.std.specs.BTreeMap.{get}
use Rattle.mx_book.specs.commands.Act.{Entry}
use Rattle.mx_book.specs.due.Due.{IsBase}
use Rattle.mx_registers.specs.Names.{item_at}
use Rattle.mx_indexed_book.specs.moments.Done.{task_cmp}
use Rattle.mx_indexed_book.proofs.MomentsProofs.WalkLemmas.{adds}
use Rattle.mx_indexed_book.proofs.moments.done.add_done.Goals as goal

pub done_row-row-requires-clause-before : goal.done_row-row-requires-clause-before
done_row-row-requires-clause-before c =
    let is : c.copied-before.result ≡ get task_cmp c.args.bases.now (c.args.a.now.item, c.args.a.now.task) = c.copied-before.ensures ∙ c.get.ensures.value in
    subst (λ o. IfSome o IsBase) (sym is) (c.requires.bounded c.args.a.now.item c.args.a.now.task)

pub returns-in-Ok-push : goal.returns-in-Ok-push
returns-in-Ok-push c = λ said are.
    adds c.args.book.now said c.args.rows.now.items c.push.new.self.items c.args.bases.now c.insert.new.self c.args.a.now c.in-Some.item c.copied-before.result c.done_row-row.result are
    (sym (c.item_of_entry.ensures ∙ ap (λ (b : List Entry). item_at b c.args.a.now.item) c.plain.ensures) ∙ c.in-Some.is) (c.copied-before.ensures ∙ c.get.ensures.value) c.done_row-row.ensures.row c.in-Ok.ensures.updates c.done_row-row.ensures.bounded c.in-Ok-push.ensures.items
