use Rattle.std.proofs.Common.{sym, ap, subst, ◌∙◌, ◌≡◌, ℕ, List, Option, Some, map}
use Rattle.std.specs.Prelude.{IfOk}
use Rattle.mx_indexed_book.proofs.MapsProofs.PositionLemmas.{given_is}
use Rattle.mx_indexed_book.proofs.maps.positions.parts_given.Goals as goal

pub returns-in-Some : goal.returns-in-Some
returns-in-Some c =
    let a = c.in-Some.aircraft in
    subst (λ (l : List ((List ℕ × List ℕ) × Option (List ℕ))). IfOk c.parts_of.result (λ parts. parts.items ≡ l))
    (ap (map (λ (p : List ℕ × List ℕ). ((a.tail, p.0), Some p.1))) c.positions.ensures ∙ sym (given_is c.args.entry.now.act a (sym c.added_aircraft.ensures ∙ c.in-Some.is)))
    c.parts_of.ensures
