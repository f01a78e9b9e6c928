use Rattle.std.proofs.Common.{◌∷◌, [], ap, inr, map}
use Rattle.mx_book.specs.commands.Act.{Flown}
use Rattle.mx_registers.specs.Registers.{sector_row}
use Rattle.mx_base.specs.declared.rows.rows.Sector2Row.{Sector2Row}
use Rattle.mx_row_rules.specs.found.Given as registers
use Rattle.mx_lookups.specs.numbers.Given.{AircraftNumber}
use Rattle.mx_lookups.proofs.NumbersProofs.Composed.{behind, chosen, hands}
use Rattle.mx_lookups.proofs.NumbersProofs.SectorRows.{sectors_held, sectors_read}
use Rattle.mx_lookups.proofs.NumbersProofs.TableLemmas.{sectors}
use Rattle.mx_row_judge.proofs.KnownProofs.KnownLemmas.{rows_tell_by, said}
use Rattle.mx_row_judge.proofs.known.kinds.is_sector.Goals as goal

pub returns-in_err-rows : goal.returns-in_err-rows
returns-in_err-rows g c = let n = c.args.seq in record { looks_up = hands c.from_residual-in_err-rows.ensures.1 (λ _ _ it. inr it.1) (behind c.in_ok-aircraft.ensures.looks_up.now (chosen sectors c.in_err-rows.ensures.same_reference (sectors_read n _ _ _ c.in_err-rows.ensures.reads) (sectors_held n _ _ _ c.in_err-rows.ensures.reads))) }

pub returns : goal.returns
returns g c = let n = c.args.seq in let x = c.args.sector in record { looks_up = said n (Flown x) (rows_tell_by sectors registers.sectors n (AircraftNumber x.tail) (λ i. sector_row n i x ∷ []) c.in_ok-aircraft.ensures.looks_up.now c.in_ok-rows.ensures.same_reference (sectors_read n _ _ _ c.in_ok-rows.ensures.reads) (sectors_held n _ _ _ c.in_ok-rows.ensures.reads) (ap (map (λ (row : Sector2Row). row.sector)) c.deref.ensures.value) c.or_zero.ensures (ap (λ row. row ∷ []) c.sector_row-row.ensures.row) c.is_sector_row.ensures) }
