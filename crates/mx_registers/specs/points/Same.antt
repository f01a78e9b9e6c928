-- Two books that give the same rows to the tables at a point.
use Rattle.std.specs.Prelude.{◌≡◌, List, true, IsPermutation}
use Rattle.mx_book.specs.commands.Act.{Entry}
use Rattle.mx_base.specs.declared.point.Point.{Point}
use Rattle.mx_registers.specs.points.Tables.{Line, aircraft_all, components_all, deferrals_2, deferrals_3, entries_all, extensions_all, fittings_1, is_table_at, openings_all, places_all, programmes_all, release_lines_all, releases_all, removals_1, rows_at, sectors_1, sectors_2, spans_2, tasks_all}

-- both books give the table the same rows, where there is such a table at the point
abbrev pub GiveSame : {Row : Type 0} → Line Row → Point → List Entry → List Entry → Type 0
GiveSame line at one other = is_table_at line at ≡ true → IsPermutation (rows_at line at one) (rows_at line at other)

-- both books give the same rows to each register at the point, and to the spans
pub record GiveSameRegisters (at : Point) (one other : List Entry) : Type 0 where
  pub entries : GiveSame entries_all at one other
  pub aircraft : GiveSame aircraft_all at one other
  pub places : GiveSame places_all at one other
  pub components : GiveSame components_all at one other
  pub programmes : GiveSame programmes_all at one other
  pub tasks : GiveSame tasks_all at one other
  pub openings : GiveSame openings_all at one other
  pub releases : GiveSame releases_all at one other
  pub release_lines : GiveSame release_lines_all at one other
  pub deferrals_old : GiveSame deferrals_2 at one other
  pub deferrals_new : GiveSame deferrals_3 at one other
  pub extensions : GiveSame extensions_all at one other
  pub sectors_old : GiveSame sectors_1 at one other
  pub sectors_new : GiveSame sectors_2 at one other
  pub fittings : GiveSame fittings_1 at one other
  pub removals : GiveSame removals_1 at one other
  pub spans : GiveSame spans_2 at one other
