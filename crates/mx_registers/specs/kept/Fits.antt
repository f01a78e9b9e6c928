-- Kept rows that fit their columns.
use Rattle.std.specs.Prelude.{List, All}
use Rattle.mx_book.specs.commands.Act.{Entry}
use Rattle.mx_base.specs.rows.Rows.{FitsAircraft, FitsComponent, FitsOpening, FitsSector, FitsFitting, FitsRemoval, FitsRelease, FitsReleaseLine, FitsDeferral}
use Rattle.mx_registers.specs.Registers.{aircraft_rows, component_rows, opening_rows, sector_rows, fitting_rows, removal_rows, release_rows, release_line_rows, deferral_rows}

-- the rows of the registers that kept rows are computed from fit their columns
pub record FitRegisters (book : List Entry) : Type 0 where
  pub aircraft : All FitsAircraft (aircraft_rows book)
  pub components : All FitsComponent (component_rows book)
  pub openings : All FitsOpening (opening_rows book)
  pub sectors : All FitsSector (sector_rows book)
  pub fittings : All FitsFitting (fitting_rows book)
  pub removals : All FitsRemoval (removal_rows book)
  pub releases : All FitsRelease (release_rows book)
  pub release_lines : All FitsReleaseLine (release_line_rows book)
  pub deferrals : All FitsDeferral (deferral_rows book)
