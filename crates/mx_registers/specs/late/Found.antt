-- The deferrals with the cycles that the airframe had reached when the defect was found, as rows.
use Rattle.std.specs.Prelude.{ℕ, ◌+◌, nat_eq, nat_le, Bool, false, List, [], ◌++◌, ◌&&◌, map, if◌then◌else◌}
use Rattle.mx_book.specs.commands.Act.{Act, Entry, Flown, deferral_of}
use Rattle.mx_book.specs.declared.commands.item.Item.TheVariants.{Airframe}
use Rattle.mx_book.specs.Life.{life_at, life_now, use_or_none}
use Rattle.mx_registers.specs.Registers.{deferral_row, gives_by, if_any, next}
use Rattle.mx_registers.specs.kept.Becomes.{Change}
use Rattle.mx_registers.specs.kept.Items.{number_of_tail}
use Rattle.mx_base.specs.declared.rows.rows.Deferral3Row.{Deferral3Row}

-- the cycles that an airframe had reached at a moment
abbrev pub cycles_at : List Entry → List ℕ → ℕ → ℕ
cycles_at book tail moment = (use_or_none (life_at book (Airframe tail) moment)).cycles

-- the row of the defect that an entry of a book defers, behind the entries before it
abbrev pub found_by : List Entry → List Entry → Act → List Deferral3Row
found_by book before act = if_any (λ d. record { deferral = deferral_row (next before) (number_of_tail before d.tail) d; found_cycles = cycles_at book d.tail d.moment }) (deferral_of act)

-- the rows of a book, in the order of the deferrals
abbrev pub found_rows : List Entry → List Deferral3Row
found_rows book = gives_by (found_by book) [] book

-- ── one command ──

-- a command adds cycles to the row: a sector of the aircraft, where the defect was found when the sector had landed
abbrev pub is_found_touched : List Entry → Act → Deferral3Row → Bool
is_found_touched book (Flown s) row = nat_eq row.deferral.aircraft (number_of_tail book s.tail) && nat_le s.on row.deferral.moment
is_found_touched book _ row = false

-- the row with a number of cycles more
abbrev pub with_cycles : ℕ → Deferral3Row → Deferral3Row
with_cycles cycles row = record row { found_cycles = row.found_cycles + cycles }

-- a row with a new command: a sector may add its cycles, and a command of another kind adds none
abbrev pub found_moved : List Entry → Act → Deferral3Row → Deferral3Row
found_moved book (Flown s) row = if is_found_touched book (Flown s) row then with_cycles s.cycles row else row
found_moved book _ row = row

-- the row of the defect that a new command defers: the cycles that the airframe has reached
abbrev pub found_added : List Entry → Act → List Deferral3Row
found_added book act = if_any (λ d. record { deferral = deferral_row (next book) (number_of_tail book d.tail) d; found_cycles = (use_or_none (life_now book (Airframe d.tail))).cycles }) (deferral_of act)

-- the deferrals with these cycles, with a command
abbrev pub found_become : Change Deferral3Row
found_become before command rows = map (found_moved before command.act) rows ++ found_added before command.act
