use Rattle.std.proofs.Common.{sym, ap, ◌∙◌}
use Rattle.mx_book.specs.Programme.{is_accomplished}
use Rattle.mx_indexed_book.proofs.maps.work.Work.is_accomplished.Goals as goal

pub returns-in-Airframe : goal.returns-in-Airframe
returns-in-Airframe c book is =
    c.held.ensures ∙ is.airframes_are (c.in-Airframe.tail, c.args.id.now) ∙ ap (λ item. is_accomplished book item c.args.id.now) (sym c.in-Airframe.is)

pub returns-in-Component : goal.returns-in-Component
returns-in-Component c book is =
    c.held-in-Component.ensures ∙ is.components_are (c.in-Component.serial, c.args.id.now) ∙ ap (λ item. is_accomplished book item c.args.id.now) (sym c.in-Component.is)
