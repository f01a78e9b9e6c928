use Rattle.std.proofs.Common.{Some, None, map, ap, ◌∙◌}
use Rattle.std.specs.Prelude.{slice_get}
use Rattle.std.specs.Option.{option_map}
use Rattle.mx_registers.specs.Merge.{aircraft_said}
use Rattle.mx_row_rules.specs.found.Stated.{position_said, aircraft_stated}
use Rattle.mx_lookups.proofs.NumbersProofs.BookRows.{places_of, aircraft_of_number}
use Rattle.mx_lookups.proofs.NumbersProofs.ReadLemmas.{reads_then, stopped}
use Rattle.mx_lookups.proofs.NumbersProofs.TableLemmas.{places, aircraft}
use Rattle.mx_row_questions.proofs.EntriesProofs.StatedLemmas.{both_said, both_said-any, starved}
use Rattle.mx_row_questions.proofs.entries.kinds.aircraft_stated.Goals as goal

pub returns-in_err-on_lines-clause-reads : goal.returns-in_err-on_lines-clause-reads
returns-in_err-on_lines-clause-reads g c = stopped _ _ _ _ _ _ c.from_residual.ensures.1 (places_of c.args.seq c.in_err-on_lines.ensures.reads)

pub returns-in_err-positions-clause-reads : goal.returns-in_err-positions-clause-reads
returns-in_err-positions-clause-reads g c = starved _ _ _ _ _ _ c.from_residual-in_err-positions.ensures.1 (places_of c.args.seq c.in_ok-on_lines.ensures.reads)

pub returns-in_err-rows-clause-reads : goal.returns-in_err-rows-clause-reads
returns-in_err-rows-clause-reads g c =
    stopped _ _ _ _ _ _ c.from_residual-in_err-rows.ensures.1 (reads_then _ _ _ _ _ _ _ (places_of c.args.seq c.in_ok-on_lines.ensures.reads) (aircraft_of_number c.args.seq c.in_err-rows.ensures.reads))

pub returns-in-Some-clause-reads : goal.returns-in-Some-clause-reads
returns-in-Some-clause-reads g c =
    both_said aircraft_stated _
    (ap Some (c.body_of_aircraft.ensures ∙ ap (aircraft_said c.in-Some.row.now) (c.in_ok-positions.ensures ∙ ap (map position_said) c.deref.ensures.value)) ∙ ap (option_map (λ row. aircraft_said row (map position_said c.in_ok-on_lines.on_lines.items))) (c.in-Some.ensures.value ∙ ap (λ l. slice_get l 0) c.deref-2.ensures.value))
    (places_of c.args.seq c.in_ok-on_lines.ensures.reads) (aircraft_of_number c.args.seq c.in_ok-rows.ensures.reads)

pub returns-clause-reads : goal.returns-clause-reads
returns-clause-reads g c =
    both_said aircraft_stated None (ap (option_map (λ row. aircraft_said row (map position_said c.in_ok-on_lines.on_lines.items))) (c.in-None.ensures.value ∙ ap (λ l. slice_get l 0) c.deref-2.ensures.value))
    (places_of c.args.seq c.in_ok-on_lines.ensures.reads) (aircraft_of_number c.args.seq c.in_ok-rows.ensures.reads)

pub returns-in-Some-clause-any_rows : goal.returns-in-Some-clause-any_rows
returns-in-Some-clause-any_rows g c =
    both_said-any places.is_in aircraft.is_in aircraft_stated _
    (ap Some (c.body_of_aircraft.ensures ∙ ap (aircraft_said c.in-Some.row.now) (c.in_ok-positions.ensures ∙ ap (map position_said) c.deref.ensures.value)) ∙ ap (option_map (λ row. aircraft_said row (map position_said c.in_ok-on_lines.on_lines.items))) (c.in-Some.ensures.value ∙ ap (λ l. slice_get l 0) c.deref-2.ensures.value))
    (places_of c.args.seq c.in_ok-on_lines.ensures.reads) c.in_ok-on_lines.ensures.reads c.in_ok-rows.ensures.reads

pub returns-clause-any_rows : goal.returns-clause-any_rows
returns-clause-any_rows g c =
    both_said-any places.is_in aircraft.is_in aircraft_stated None (ap (option_map (λ row. aircraft_said row (map position_said c.in_ok-on_lines.on_lines.items))) (c.in-None.ensures.value ∙ ap (λ l. slice_get l 0) c.deref-2.ensures.value))
    (places_of c.args.seq c.in_ok-on_lines.ensures.reads) c.in_ok-on_lines.ensures.reads c.in_ok-rows.ensures.reads
