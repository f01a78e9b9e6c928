use Rattle.std.proofs.Common.{◌∙◌, inl, [], ap, refl, sym}
use Rattle.mx_book.specs.commands.Act.{Added, Deferred, Extended, Fitted, Flown, Listed, Loaded, Opened, Released, Removed}
use Rattle.mx_book.specs.commands.Said.{act_said}
use Rattle.mx_row_rules.specs.changes.Made.{nothing_found}
use Rattle.mx_apply.proofs.MadeProofs.AnyMadeLemmas.{command_by, command_by_entry}
use Rattle.mx_apply.proofs.MadeProofs.AnyTotalLemmas.{none_of}
use Rattle.mx_apply.proofs.MadeProofs.MadeLemmas.{command_made, command_made_alone}
use Rattle.mx_lookups.proofs.NumbersProofs.ToldLemmas.{handed}
use Rattle.mx_apply.proofs.MadeProofs.DamageLemmas.{command_told}
use Rattle.mx_apply.proofs.made.commands.rows_of_command.Goals as goal

pub returns-in_ok-aircraft_rows-in-Aircraft-clause-reads : goal.returns-in_ok-aircraft_rows-in-Aircraft-clause-reads
returns-in_ok-aircraft_rows-in-Aircraft-clause-reads g c =
    command_made_alone c.args.command.now (Added c.in-Aircraft.aircraft c.in-Aircraft.positions.now) _ _ _ _ (sym (ap act_said c.in-Aircraft.is) ∙ c.said.ensures) (λ book. c.in_ok-aircraft_rows-in-Aircraft.ensures.of_book book) c.in_ok-entry.ensures.reads

pub returns-in_ok-component_rows-in-Component-clause-reads : goal.returns-in_ok-component_rows-in-Component-clause-reads
returns-in_ok-component_rows-in-Component-clause-reads g c =
    command_made_alone c.args.command.now (Listed c.in-Component.component) _ _ _ _ (sym (ap act_said c.in-Component.is) ∙ c.said.ensures) (λ book. c.in_ok-component_rows-in-Component.ensures.of_book book) c.in_ok-entry.ensures.reads

pub returns-in_ok-programme_rows-in-Programme-clause-reads : goal.returns-in_ok-programme_rows-in-Programme-clause-reads
returns-in_ok-programme_rows-in-Programme-clause-reads g c =
    command_made_alone c.args.command.now (Loaded c.in-Programme.programme c.in-Programme.tasks.now) _ _ _ _ (sym (ap act_said c.in-Programme.is) ∙ c.said.ensures) (λ book. c.in_ok-programme_rows-in-Programme.ensures.of_book book) c.in_ok-entry.ensures.reads

pub returns-in-Opening-clause-reads : goal.returns-in-Opening-clause-reads
returns-in-Opening-clause-reads g c =
    command_made c.args.command.now (Opened c.in-Opening.opening) _ _ _ _ c.rows_of_opening.result (sym (ap act_said c.in-Opening.is) ∙ c.said.ensures) c.in_ok-entry.ensures.reads c.rows_of_opening.ensures.reads

pub returns-in-Sector-clause-reads : goal.returns-in-Sector-clause-reads
returns-in-Sector-clause-reads g c =
    command_made c.args.command.now (Flown c.in-Sector.sector) _ _ _ _ c.rows_of_sector.result (sym (ap act_said c.in-Sector.is) ∙ c.said.ensures) c.in_ok-entry.ensures.reads c.rows_of_sector.ensures.reads

pub returns-in-Fitting-clause-reads : goal.returns-in-Fitting-clause-reads
returns-in-Fitting-clause-reads g c =
    command_made c.args.command.now (Fitted c.in-Fitting.fitting) _ _ _ _ c.rows_of_fitting.result (sym (ap act_said c.in-Fitting.is) ∙ c.said.ensures) c.in_ok-entry.ensures.reads c.rows_of_fitting.ensures.reads

pub returns-in-Removal-clause-reads : goal.returns-in-Removal-clause-reads
returns-in-Removal-clause-reads g c =
    command_made c.args.command.now (Removed c.in-Removal.removal) _ _ _ _ c.rows_of_removal.result (sym (ap act_said c.in-Removal.is) ∙ c.said.ensures) c.in_ok-entry.ensures.reads c.rows_of_removal.ensures.reads

pub returns-in-Release-clause-reads : goal.returns-in-Release-clause-reads
returns-in-Release-clause-reads g c =
    command_made c.args.command.now (Released c.in-Release.release c.in-Release.lines.now) _ _ _ _ c.rows_of_release.result (sym (ap act_said c.in-Release.is) ∙ c.said.ensures) c.in_ok-entry.ensures.reads c.rows_of_release.ensures.reads

pub returns-in-Deferral-clause-reads : goal.returns-in-Deferral-clause-reads
returns-in-Deferral-clause-reads g c =
    command_made c.args.command.now (Deferred c.in-Deferral.deferral) _ _ _ _ c.rows_of_deferral.result (sym (ap act_said c.in-Deferral.is) ∙ c.said.ensures) c.in_ok-entry.ensures.reads c.rows_of_deferral.ensures.reads

pub returns-in-Extension-clause-reads : goal.returns-in-Extension-clause-reads
returns-in-Extension-clause-reads g c =
    command_made c.args.command.now (Extended c.in-Extension.extension) _ _ _ _ c.rows_of_extension.result (sym (ap act_said c.in-Extension.is) ∙ c.said.ensures) c.in_ok-entry.ensures.reads c.rows_of_extension.ensures.reads

pub returns-in_ok-aircraft_rows-in-Aircraft-clause-any_rows : goal.returns-in_ok-aircraft_rows-in-Aircraft-clause-any_rows
returns-in_ok-aircraft_rows-in-Aircraft-clause-any_rows g c =
    command_by_entry c.args.command.now (Added c.in-Aircraft.aircraft c.in-Aircraft.positions.now) _ _ _ _ (sym (ap act_said c.in-Aircraft.is) ∙ c.said.ensures) (λ trees. record { found = nothing_found; looked_up = record { numbers = tt; spans = tt; totals = none_of trees [] refl; lines = tt }; made = c.in_ok-aircraft_rows-in-Aircraft.ensures.made }) c.in_ok-entry.ensures.any_rows

pub returns-in_ok-component_rows-in-Component-clause-any_rows : goal.returns-in_ok-component_rows-in-Component-clause-any_rows
returns-in_ok-component_rows-in-Component-clause-any_rows g c =
    command_by_entry c.args.command.now (Listed c.in-Component.component) _ _ _ _ (sym (ap act_said c.in-Component.is) ∙ c.said.ensures) (λ trees. record { found = nothing_found; looked_up = record { numbers = tt; spans = tt; totals = none_of trees [] refl; lines = tt }; made = c.in_ok-component_rows-in-Component.ensures.made }) c.in_ok-entry.ensures.any_rows

pub returns-in_ok-programme_rows-in-Programme-clause-any_rows : goal.returns-in_ok-programme_rows-in-Programme-clause-any_rows
returns-in_ok-programme_rows-in-Programme-clause-any_rows g c =
    command_by_entry c.args.command.now (Loaded c.in-Programme.programme c.in-Programme.tasks.now) _ _ _ _ (sym (ap act_said c.in-Programme.is) ∙ c.said.ensures) (λ trees. record { found = nothing_found; looked_up = record { numbers = tt; spans = tt; totals = none_of trees [] refl; lines = tt }; made = c.in_ok-programme_rows-in-Programme.ensures.made }) c.in_ok-entry.ensures.any_rows

pub returns-in-Opening-clause-any_rows : goal.returns-in-Opening-clause-any_rows
returns-in-Opening-clause-any_rows g c =
    command_by c.args.command.now (Opened c.in-Opening.opening) _ _ _ _ _ c.rows_of_opening.result (sym (ap act_said c.in-Opening.is) ∙ c.said.ensures) c.in_ok-entry.ensures.reads c.in_ok-entry.ensures.any_rows c.rows_of_opening.ensures.reads.within c.rows_of_opening.ensures.any_rows

pub returns-in-Sector-clause-any_rows : goal.returns-in-Sector-clause-any_rows
returns-in-Sector-clause-any_rows g c =
    command_by c.args.command.now (Flown c.in-Sector.sector) _ _ _ _ _ c.rows_of_sector.result (sym (ap act_said c.in-Sector.is) ∙ c.said.ensures) c.in_ok-entry.ensures.reads c.in_ok-entry.ensures.any_rows c.rows_of_sector.ensures.reads.within c.rows_of_sector.ensures.any_rows

pub returns-in-Fitting-clause-any_rows : goal.returns-in-Fitting-clause-any_rows
returns-in-Fitting-clause-any_rows g c =
    command_by c.args.command.now (Fitted c.in-Fitting.fitting) _ _ _ _ _ c.rows_of_fitting.result (sym (ap act_said c.in-Fitting.is) ∙ c.said.ensures) c.in_ok-entry.ensures.reads c.in_ok-entry.ensures.any_rows c.rows_of_fitting.ensures.reads.within c.rows_of_fitting.ensures.any_rows

pub returns-in-Removal-clause-any_rows : goal.returns-in-Removal-clause-any_rows
returns-in-Removal-clause-any_rows g c =
    command_by c.args.command.now (Removed c.in-Removal.removal) _ _ _ _ _ c.rows_of_removal.result (sym (ap act_said c.in-Removal.is) ∙ c.said.ensures) c.in_ok-entry.ensures.reads c.in_ok-entry.ensures.any_rows c.rows_of_removal.ensures.reads.within c.rows_of_removal.ensures.any_rows

pub returns-in-Release-clause-any_rows : goal.returns-in-Release-clause-any_rows
returns-in-Release-clause-any_rows g c =
    command_by c.args.command.now (Released c.in-Release.release c.in-Release.lines.now) _ _ _ _ _ c.rows_of_release.result (sym (ap act_said c.in-Release.is) ∙ c.said.ensures) c.in_ok-entry.ensures.reads c.in_ok-entry.ensures.any_rows c.rows_of_release.ensures.reads.within c.rows_of_release.ensures.any_rows

pub returns-in-Deferral-clause-any_rows : goal.returns-in-Deferral-clause-any_rows
returns-in-Deferral-clause-any_rows g c =
    command_by c.args.command.now (Deferred c.in-Deferral.deferral) _ _ _ _ _ c.rows_of_deferral.result (sym (ap act_said c.in-Deferral.is) ∙ c.said.ensures) c.in_ok-entry.ensures.reads c.in_ok-entry.ensures.any_rows c.rows_of_deferral.ensures.reads.within c.rows_of_deferral.ensures.any_rows

pub returns-in-Extension-clause-any_rows : goal.returns-in-Extension-clause-any_rows
returns-in-Extension-clause-any_rows g c =
    command_by c.args.command.now (Extended c.in-Extension.extension) _ _ _ _ _ c.rows_of_extension.result (sym (ap act_said c.in-Extension.is) ∙ c.said.ensures) c.in_ok-entry.ensures.reads c.in_ok-entry.ensures.any_rows c.rows_of_extension.ensures.reads.within c.rows_of_extension.ensures.any_rows

pub returns-in_err-entry-clause-damage : goal.returns-in_err-entry-clause-damage
returns-in_err-entry-clause-damage g c = handed (λ _ _. inl) c.from_residual.ensures.1 c.in_err-entry.ensures.damage

pub returns-in-Opening-clause-damage : goal.returns-in-Opening-clause-damage
returns-in-Opening-clause-damage g c = command_told c.args.command.now (Opened c.in-Opening.opening) (sym (ap act_said c.in-Opening.is) ∙ c.said.ensures) c.in_ok-entry.ensures.reads c.rows_of_opening.ensures.reads.within c.rows_of_opening.ensures.damage

pub returns-in-Sector-clause-damage : goal.returns-in-Sector-clause-damage
returns-in-Sector-clause-damage g c = command_told c.args.command.now (Flown c.in-Sector.sector) (sym (ap act_said c.in-Sector.is) ∙ c.said.ensures) c.in_ok-entry.ensures.reads c.rows_of_sector.ensures.reads.within c.rows_of_sector.ensures.damage

pub returns-in-Fitting-clause-damage : goal.returns-in-Fitting-clause-damage
returns-in-Fitting-clause-damage g c = command_told c.args.command.now (Fitted c.in-Fitting.fitting) (sym (ap act_said c.in-Fitting.is) ∙ c.said.ensures) c.in_ok-entry.ensures.reads c.rows_of_fitting.ensures.reads.within c.rows_of_fitting.ensures.damage

pub returns-in-Removal-clause-damage : goal.returns-in-Removal-clause-damage
returns-in-Removal-clause-damage g c = command_told c.args.command.now (Removed c.in-Removal.removal) (sym (ap act_said c.in-Removal.is) ∙ c.said.ensures) c.in_ok-entry.ensures.reads c.rows_of_removal.ensures.reads.within c.rows_of_removal.ensures.damage

pub returns-in-Release-clause-damage : goal.returns-in-Release-clause-damage
returns-in-Release-clause-damage g c = command_told c.args.command.now (Released c.in-Release.release c.in-Release.lines.now) (sym (ap act_said c.in-Release.is) ∙ c.said.ensures) c.in_ok-entry.ensures.reads c.rows_of_release.ensures.reads.within c.rows_of_release.ensures.damage

pub returns-in-Deferral-clause-damage : goal.returns-in-Deferral-clause-damage
returns-in-Deferral-clause-damage g c = command_told c.args.command.now (Deferred c.in-Deferral.deferral) (sym (ap act_said c.in-Deferral.is) ∙ c.said.ensures) c.in_ok-entry.ensures.reads c.rows_of_deferral.ensures.reads.within c.rows_of_deferral.ensures.damage

pub returns-in-Extension-clause-damage : goal.returns-in-Extension-clause-damage
returns-in-Extension-clause-damage g c = command_told c.args.command.now (Extended c.in-Extension.extension) (sym (ap act_said c.in-Extension.is) ∙ c.said.ensures) c.in_ok-entry.ensures.reads c.rows_of_extension.ensures.reads.within c.rows_of_extension.ensures.damage
