use Rattle.std.proofs.Common.{◌≡◌, ◌∙◌, inl, inr, Some, refl, sym, ap}
use Rattle.mx_base.specs.declared.rows.rows.AircraftRow.{AircraftRow}
use Rattle.mx_row_rules.specs.found.Names.{aircraft_number, component_number}
use Rattle.mx_layout.specs.kept.Cells.{kept_aircraft}
use Rattle.mx_lookups.proofs.NumbersProofs.AnyLemmas.{any_so, first_kept, gives}
use Rattle.mx_lookups.proofs.NumbersProofs.BookRows.{aircraft_of_number, components_of_number}
use Rattle.mx_lookups.proofs.NumbersProofs.ReadLemmas.{reads_then, stopped, told}
use Rattle.mx_lookups.proofs.NumbersProofs.TableLemmas.{aircraft, components}
use Rattle.mx_apply.proofs.MadeProofs.TotalLemmas.{aircraft_there, component_there, item_or_none, no_aircraft, number_there}
use Rattle.mx_lookups.proofs.NumbersProofs.ToldLemmas.{told_as, unread}
use Rattle.mx_apply.proofs.MadeProofs.DamageLemmas.{told_with}
use Rattle.mx_apply.proofs.made.totals.is_item.Goals as goal

pub returns-in_err-aircraft-clause-reads : goal.returns-in_err-aircraft-clause-reads
returns-in_err-aircraft-clause-reads g c = stopped _ _ _ _ _ _ c.from_residual.ensures.1 (aircraft_of_number c.args.number c.in_err-aircraft.ensures.reads)

pub returns-then-is_number-clause-reads : goal.returns-then-is_number-clause-reads
returns-then-is_number-clause-reads g c =
    told _ _ _ _ _ _
    (λ book b is. sym (aircraft_there book c.args.number _ (c.deref.ensures.value ∙ is) (sym c.aircraft_number.ensures ∙ c.is_number.ensures.0 c.if-is_number.true)))
    (aircraft_of_number c.args.number c.in_ok-aircraft.ensures.reads)

pub returns-then-is_number-clause-any_rows : goal.returns-then-is_number-clause-any_rows
returns-then-is_number-clause-any_rows g c =
    any_so _ _ _ _ _ _ (λ trees gave. (λ there. inl (first_kept kept_aircraft (λ row. row.seq) c.args.number gave), λ has. refl))
    (gives aircraft aircraft_number (sym (c.is_number.ensures.0 c.if-is_number.true) ∙ c.aircraft_number.ensures ∙ ap aircraft_number c.deref.ensures.value) c.in_ok-aircraft.ensures.reads)

pub returns-in_err-components-clause-reads : goal.returns-in_err-components-clause-reads
returns-in_err-components-clause-reads g c =
    stopped _ _ _ _ _ _ c.from_residual-in_err-components.ensures.1
    (reads_then _ _ _ _ _ _ _ (aircraft_of_number c.args.number c.in_ok-aircraft.ensures.reads) (components_of_number c.args.number c.in_err-components.ensures.reads))

pub returns-clause-reads : goal.returns-clause-reads
returns-clause-reads g c =
    told _ _ _ _ _ _
    (λ book b both.
    let none = no_aircraft book c.args.number _ (c.deref.ensures.value ∙ both.0) (λ h. (let e = sym c.if-is_number.false ∙ c.is_number.ensures.1 (c.aircraft_number.ensures ∙ h) in absurd cc)) in
    component_there book c.args.number _ c.is_number-2.result none (c.deref-2.ensures.value ∙ both.1) (λ yes. sym c.component_number.ensures ∙ c.is_number-2.ensures.0 yes, λ h. c.is_number-2.ensures.1 (c.component_number.ensures ∙ h)))
    (reads_then _ _ _ _ _ _ _ (aircraft_of_number c.args.number c.in_ok-aircraft.ensures.reads) (components_of_number c.args.number c.in_ok-components.ensures.reads))

pub returns-clause-any_rows : goal.returns-clause-any_rows
returns-clause-any_rows g c =
    item_or_none c.args.number _ _ _ _ _ _ _ _ (λ h. (let e = sym c.if-is_number.false ∙ c.is_number.ensures.1 h in absurd cc)) c.is_number-2.ensures (aircraft_of_number c.args.number c.in_ok-aircraft.ensures.reads) c.in_ok-components.ensures.reads.within
    (gives aircraft aircraft_number (c.aircraft_number.ensures ∙ ap aircraft_number c.deref.ensures.value) c.in_ok-aircraft.ensures.reads)
    (gives components component_number (c.component_number.ensures ∙ ap component_number c.deref-2.ensures.value) c.in_ok-components.ensures.reads)

pub returns-in_err-aircraft-clause-damage : goal.returns-in_err-aircraft-clause-damage
returns-in_err-aircraft-clause-damage g c = told_as (λ _ _. inl) (unread aircraft c.from_residual.ensures.1 c.in_err-aircraft.ensures.reads)

pub returns-in_err-components-clause-damage : goal.returns-in_err-components-clause-damage
returns-in_err-components-clause-damage g c =
    let n = c.args.number in
    let none : c.aircraft_number.result ≡ Some n → ⊥ = λ h. (let e = sym c.if-is_number.false ∙ c.is_number.ensures.1 h in absurd cc) in
    told_with (λ name trees gave it. inr (λ row. none (number_there kept_aircraft (λ (x : AircraftRow). x.seq) (λ x. refl) n trees _ gave row), it)) (aircraft_of_number n c.in_ok-aircraft.ensures.reads)
    (gives aircraft aircraft_number (c.aircraft_number.ensures ∙ ap aircraft_number c.deref.ensures.value) c.in_ok-aircraft.ensures.reads) c.in_err-components.ensures.reads.within (unread components c.from_residual-in_err-components.ensures.1 c.in_err-components.ensures.reads)
