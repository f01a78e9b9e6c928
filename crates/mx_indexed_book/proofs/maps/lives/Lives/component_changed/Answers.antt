use Rattle.std.proofs.Common.{sym, ap, ◌∙◌, Option, Some}
use Rattle.std.specs.Option.{option_map}
use Rattle.mx_base.specs.declared.amounts.Use.{Use}
use Rattle.mx_book.specs.commands.Act.{act_of}
use Rattle.mx_indexed_book.specs.maps.Lives.{component_changed, component_life, lead_over}
use Rattle.mx_indexed_book.specs.declared.maps.lives.Lead.{Lead}
use Rattle.mx_indexed_book.proofs.maps.lives.Lives.component_changed.Goals as goal

pub returns-in-Fit : goal.returns-in-Fit
returns-in-Fit c book is_book places are =
    let serial = c.in-Fit.serial in
    ap (λ (v : Option Lead). Some (serial, v)) (c.lead_over-in-Fit.ensures book is_book places are
    ∙ ap (λ (o : Use). option_map (lead_over o) (component_life book serial)) (c.airframe_or_none-other.ensures book are))
    ∙ ap (component_changed book) (ap act_of (sym c.in-Fit.is) ∙ c.body.ensures)

pub returns-in-Remove : goal.returns-in-Remove
returns-in-Remove c book is_book places are =
    let serial = c.in-Remove.serial in
    ap (λ (v : Option Lead). Some (serial, v)) (c.lead_over-in-Remove.ensures book is_book places are
    ∙ ap (λ (o : Use). option_map (lead_over o) (component_life book serial)) c.no_life-in-Remove.ensures)
    ∙ ap (component_changed book) (ap act_of (sym c.in-Remove.is) ∙ c.body.ensures)
