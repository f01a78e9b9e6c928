use Rattle.mx_book.proofs.JudgingProofs.AnswerLemmas.{refuses_as}
use Rattle.mx_book.proofs.judging.judging.refusal.Goals as goal

pub returns-in-Aircraft : goal.returns-in-Aircraft
returns-in-Aircraft g c = refuses_as _ _ _ _ _ _ c.in-Aircraft.ensures (c.refusal_of_aircraft.ensures c.in-Aircraft.field-1.now)

pub returns-in-Component : goal.returns-in-Component
returns-in-Component g c = refuses_as _ _ _ _ _ _ c.in-Component.ensures c.refusal_of_component.ensures

pub returns-in-Programme : goal.returns-in-Programme
returns-in-Programme g c = refuses_as _ _ _ _ _ _ c.in-Programme.ensures (c.refusal_of_programme.ensures c.in-Programme.field-1.now)

pub returns-in-Opening : goal.returns-in-Opening
returns-in-Opening g c = refuses_as _ _ _ _ _ _ c.in-Opening.ensures c.refusal_of_opening.ensures

pub returns-in-Sector : goal.returns-in-Sector
returns-in-Sector g c = refuses_as _ _ _ _ _ _ c.in-Sector.ensures c.refusal_of_sector.ensures

pub returns-in-Fitting : goal.returns-in-Fitting
returns-in-Fitting g c = refuses_as _ _ _ _ _ _ c.in-Fitting.ensures c.refusal_of_fitting.ensures

pub returns-in-Removal : goal.returns-in-Removal
returns-in-Removal g c = refuses_as _ _ _ _ _ _ c.in-Removal.ensures c.refusal_of_removal.ensures

pub returns-in-Release : goal.returns-in-Release
returns-in-Release g c = refuses_as _ _ _ _ _ _ c.in-Release.ensures c.refusal_of_release.ensures

pub returns-in-Deferral : goal.returns-in-Deferral
returns-in-Deferral g c = refuses_as _ _ _ _ _ _ c.in-Deferral.ensures c.refusal_of_deferral.ensures

pub returns-in-Extension : goal.returns-in-Extension
returns-in-Extension g c = refuses_as _ _ _ _ _ _ c.in-Extension.ensures c.refusal_of_extension.ensures
