-- What the rows of a release state, over any rows.
use Rattle.std.specs.Prelude.{◌≡◌, ℕ, List, [], ◌∷◌, Option, Some, None, MatchOption}
use Rattle.std.specs.Option.{option_and_then, option_map}
use Rattle.sqlite.specs.Tree.{Trees}
use Rattle.mx_book.specs.commands.Act.{Act}
use Rattle.mx_book.specs.declared.commands.item.Item.{Item}
use Rattle.mx_book.specs.declared.commands.release.Line.{Line}
use Rattle.mx_book.specs.declared.commands.release.Line.TheVariants as lines
use Rattle.mx_book.specs.declared.commands.release.Place.{Place}
use Rattle.mx_registers.specs.Merge.{place_of, release_said}
use Rattle.mx_base.specs.declared.rows.rows.ReleaseLineRow.{ReleaseLineRow}
use Rattle.mx_base.specs.declared.rows.rows.ReleaseRow.{ReleaseRow}
use Rattle.mx_layout.specs.kept.Cells.{kept_crs, kept_crs_line}
use Rattle.mx_row_rules.specs.declared.found.stated.Certified.{Certified}
use Rattle.mx_row_rules.specs.declared.found.stated.Certified.TheVariants.{Done, Rectified}
use Rattle.mx_row_rules.specs.found.Stated.{certified_in}
use Rattle.mx_row_questions.specs.entries.Names.{ByRow, DocOfDefect, ItemOfNumber, WithName}
use Rattle.mx_row_questions.specs.entries.Stated.{AllOf, FirstOf}

-- the line that certifies this, of the item or the defect whose number it has
abbrev pub LineNamed : Certified → Trees → Option Line → Type 0
LineNamed (Done item task) = WithName ItemOfNumber item (λ i. lines.Done i task)
LineNamed (Rectified defect) = WithName DocOfDefect defect lines.Rectified

-- the line that certifies what a row does, if anything
abbrev pub LineCertified : Option Certified → Trees → Option Line → Type 0
LineCertified None trees line = line ≡ None
LineCertified (Some certified) trees line = LineNamed certified trees line

-- the line that its row says
abbrev pub LineStated : ReleaseLineRow → Trees → Option Line → Type 0
LineStated row = LineCertified (certified_in row)

-- the lines that their rows say, or nothing where one of them says none
abbrev pub LinesSaid : List ReleaseLineRow → Trees → Option (List Line) → Type 0
LinesSaid [] trees said = said ≡ Some []
LinesSaid (row ∷ rows) trees said = (line : Option Line) × LineStated row trees line × MatchOption line (said ≡ None) (λ l. (more : Option (List Line)) × LinesSaid rows trees more × (said ≡ option_map (λ ls. l ∷ ls) more))

-- the lines that the rows with this number say
abbrev pub LinesStated : ℕ → Trees → Option (List Line) → Type 0
LinesStated n trees said = (rows : List ReleaseLineRow) × AllOf kept_crs_line n trees rows × LinesSaid rows trees said

-- the place that the row of a release says, of the item whose number it has
abbrev pub PlaceStated : ReleaseRow → Trees → Option Place → Type 0
PlaceStated row trees place = (item : Option Item) × ItemOfNumber row.item trees item × (place ≡ option_and_then (place_of row.kind) item)

-- a release at its place, with its lines
abbrev pub ReleaseStated : ℕ → Trees → Option Act → Type 0
ReleaseStated n = ByRow (FirstOf kept_crs n) (λ row trees said.
    (place : Option Place) × PlaceStated row trees place × ((certified : Option (List Line)) × LinesStated n trees certified × (said ≡ option_and_then (λ p. option_map (release_said row p) certified) place)))
