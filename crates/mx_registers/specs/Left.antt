-- The rows that the code has left, as lists.
use Rattle.mx_book.specs.commands.Act.{Act, Entry, act_of}
use Rattle.mx_book.specs.declared.commands.body.Body.{Body}
use Rattle.mx_registers.specs.declared.merge.Left.{Left}
use Rattle.mx_registers.specs.declared.merge.Registers.{Registers}
use Rattle.mx_registers.specs.Merge.{Rest}

-- the rows that are left
abbrev pub rest_of : Left → Rest
rest_of rows = record { aircraft = rows.aircraft.now; places = rows.places.now; components = rows.components.now; programmes = rows.programmes.now; tasks = rows.tasks.now; openings = rows.openings.now; releases = rows.releases.now; release_lines = rows.release_lines.now; deferrals = rows.deferrals.now; extensions = rows.extensions.now; sectors = rows.sectors.now; fittings = rows.fittings.now; removals = rows.removals.now }

-- the rows of all registers but that of the entries
abbrev pub all_rows : Registers → Rest
all_rows r = record { aircraft = r.rows.aircraft.items; places = r.rows.places.items; components = r.rows.components.items; programmes = r.rows.programmes.items; tasks = r.rows.tasks.items; openings = r.rows.openings.items; releases = r.rows.releases.items; release_lines = r.rows.release_lines.items; deferrals = r.rows.deferrals.items; extensions = r.rows.extensions.items; sectors = r.rows.sectors.items; fittings = r.rows.fittings.items; removals = r.rows.removals.items }

-- what was said, and the rows that are left
abbrev pub said : Body × Left → Act × Rest
said next = (act_of next.0, rest_of next.1)

-- a command and the rows that are left
abbrev pub taken : Entry × Left → Entry × Rest
taken next = (next.0, rest_of next.1)
