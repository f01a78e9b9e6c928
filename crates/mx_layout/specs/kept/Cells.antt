-- How the rows of each table are kept.
use Rattle.std.specs.Prelude.{pos, [], ◌∷◌}
use Rattle.sqlite.specs.declared.types.Value.TheVariants.{Null, Int, Text}
use Rattle.mx_base.specs.Texts.{moment_text}
use Rattle.mx_layout.specs.Reading.{by_two, by_four}
use Rattle.mx_layout.specs.declared.fault.Table.TheVariants as table
use Rattle.mx_base.specs.declared.rows.rows.EntryRow.{EntryRow}
use Rattle.mx_base.specs.declared.rows.rows.AircraftRow.{AircraftRow}
use Rattle.mx_base.specs.declared.rows.rows.PlaceRow.{PlaceRow}
use Rattle.mx_base.specs.declared.rows.rows.RemovalRow.{RemovalRow}
use Rattle.mx_base.specs.declared.rows.rows.ComponentRow.{ComponentRow}
use Rattle.mx_base.specs.declared.rows.rows.SectorRow.{SectorRow}
use Rattle.mx_base.specs.declared.rows.rows.Sector2Row.{Sector2Row}
use Rattle.mx_base.specs.declared.rows.rows.FittingRow.{FittingRow}
use Rattle.mx_base.specs.declared.rows.rows.ProgrammeRow.{ProgrammeRow}
use Rattle.mx_base.specs.declared.rows.rows.TaskRow.{TaskRow}
use Rattle.mx_base.specs.declared.rows.rows.OpeningRow.{OpeningRow}
use Rattle.mx_base.specs.declared.rows.rows.ReleaseRow.{ReleaseRow}
use Rattle.mx_base.specs.declared.rows.rows.ReleaseLineRow.{ReleaseLineRow}
use Rattle.mx_base.specs.declared.rows.rows.DeferralRow.{DeferralRow}
use Rattle.mx_base.specs.declared.rows.rows.Deferral3Row.{Deferral3Row}
use Rattle.mx_base.specs.declared.rows.rows.ExtensionRow.{ExtensionRow}
use Rattle.mx_base.specs.declared.rows.rows.SpanRow.{SpanRow}
use Rattle.mx_base.specs.declared.rows.rows.TotalRow.{TotalRow}
use Rattle.mx_base.specs.declared.rows.rows.BaseRow.{BaseRow}
use Rattle.mx_base.specs.declared.rows.rows.DoneRow.{DoneRow}
use Rattle.mx_base.specs.rows.Rows
use Rattle.mx_base.specs.rows.Rows.{kind_number, category_number, days_stated}
use Rattle.mx_layout.specs.kept.Values.{number_or_null, text_or_null, flag}
use Rattle.mx_layout.specs.kept.Kept.{Kept, held, numbered, lined}
use Rattle.mx_layout.specs.kept.Schemas.{HasPermanent, HasDefects, HasDefects3, HasDone, HasOwn1, HasSpans, HasTotals, HasBases, HasFittings, HasSectors2}

-- entries, as the rows of `entry`
abbrev pub kept_entry : Kept EntryRow
kept_entry = numbered table.Entry HasPermanent Rows.FitsEntry
    (λ r. Int (pos r.seq) ∷ Text r.doc ∷ Int (pos (kind_number r.kind)) ∷ [])

-- aircraft, as the rows of `aircraft`
abbrev pub kept_aircraft : Kept AircraftRow
kept_aircraft = numbered table.Aircraft HasPermanent Rows.FitsAircraft
    (λ r. Int (pos r.seq) ∷ Text r.tail ∷ Text r.kind ∷ Int (pos r.birth) ∷ Int (pos r.minutes) ∷ Int (pos r.cycles) ∷ Int (pos r.as_of) ∷ [])

-- positions of aircraft, as the rows of `place`
abbrev pub kept_place : Kept PlaceRow
kept_place = lined table.Place HasPermanent Rows.FitsPlace
    (λ r. Int (pos r.seq) ∷ Int (pos r.line) ∷ Text r.position ∷ Text r.part ∷ [])

-- components, as the rows of `component`
abbrev pub kept_component : Kept ComponentRow
kept_component = numbered table.Component HasPermanent Rows.FitsComponent
    (λ r. Int (pos r.seq) ∷ Text r.serial ∷ Text r.part ∷ Int (pos r.birth) ∷ Int (pos r.minutes) ∷ Int (pos r.cycles) ∷ Int (pos r.as_of) ∷ [])

-- revisions of programmes, as the rows of `programme`
abbrev pub kept_programme : Kept ProgrammeRow
kept_programme = numbered table.Programme HasPermanent Rows.FitsProgramme
    (λ r. Int (pos r.seq) ∷ Text r.kind ∷ Int (pos r.revision) ∷ [])

-- tasks of programmes, as the rows of `task`
abbrev pub kept_task : Kept TaskRow
kept_task = lined table.Task HasPermanent Rows.FitsTask
    (λ r. Int (pos r.seq) ∷ Int (pos r.line) ∷ Text r.id ∷ text_or_null r.part ∷ flag r.retire
    ∷ number_or_null r.first.minutes ∷ number_or_null r.first.cycles ∷ number_or_null r.first.days
    ∷ number_or_null r.repeat.minutes ∷ number_or_null r.repeat.cycles ∷ number_or_null r.repeat.days
    ∷ Int (pos r.tolerance.minutes) ∷ Int (pos r.tolerance.cycles) ∷ Int (pos r.tolerance.days) ∷ [])

-- openings of tasks, as the rows of `opening`
abbrev pub kept_opening : Kept OpeningRow
kept_opening = numbered table.Opening HasPermanent Rows.FitsOpening
    (λ r. Int (pos r.seq) ∷ Int (pos r.item) ∷ Text r.kind ∷ Text r.task ∷ Int (pos r.minutes) ∷ Int (pos r.cycles) ∷ Int (pos r.day) ∷ [])

-- releases, as the rows of `crs`
abbrev pub kept_crs : Kept ReleaseRow
kept_crs = numbered table.Crs HasPermanent Rows.FitsRelease
    (λ r. Int (pos r.seq) ∷ Int (pos r.item) ∷ text_or_null r.kind ∷ Int (pos r.moment) ∷ [])

-- lines of releases, as the rows of `crs_line`
abbrev pub kept_crs_line : Kept ReleaseLineRow
kept_crs_line = lined table.CrsLine HasPermanent Rows.FitsReleaseLine
    (λ r. Int (pos r.seq) ∷ Int (pos r.line) ∷ number_or_null r.item ∷ text_or_null r.task ∷ number_or_null r.defect ∷ [])

-- deferrals of defects, as the rows of `defect`: the category by its number, and the days that it states
abbrev pub kept_defect : Kept DeferralRow
kept_defect = numbered table.Defect HasDefects Rows.FitsDeferral
    (λ r. Int (pos r.seq) ∷ Int (pos r.aircraft) ∷ Int (pos r.moment) ∷ Text r.reference ∷ Int (pos (category_number r.category)) ∷ number_or_null (days_stated r.category) ∷ [])

-- extensions of intervals, as the rows of `extension`
abbrev pub kept_extension : Kept ExtensionRow
kept_extension = numbered table.Extension HasPermanent Rows.FitsExtension
    (λ r. Int (pos r.seq) ∷ Int (pos r.defect) ∷ Int (pos r.day) ∷ Int (pos r.days) ∷ [])

-- sectors, as the rows of `sector1`
abbrev pub kept_sector1 : Kept SectorRow
kept_sector1 = numbered table.Sector1 HasOwn1 Rows.FitsSector
    (λ r. Int (pos r.seq) ∷ Int (pos r.aircraft) ∷ Int (pos r.page) ∷ Int (pos r.line) ∷ Text (moment_text r.took_off) ∷ Text (moment_text r.landed) ∷ Int (pos r.cycles) ∷ [])

-- fittings, as the rows of `fit1`
abbrev pub kept_fit1 : Kept FittingRow
kept_fit1 = numbered table.Fit1 HasFittings Rows.FitsFitting
    (λ r. Int (pos r.seq) ∷ Int (pos r.component) ∷ Int (pos r.aircraft) ∷ Text r.position ∷ Text (moment_text r.moment) ∷ [])

-- removals, as the rows of `removal1`
abbrev pub kept_removal1 : Kept RemovalRow
kept_removal1 = numbered table.Removal1 HasFittings Rows.FitsRemoval
    (λ r. Int (pos r.seq) ∷ Int (pos r.component) ∷ Text (moment_text r.moment) ∷ [])

-- sectors, as the rows of `sector2`
abbrev pub kept_sector2 : Kept SectorRow
kept_sector2 = numbered table.Sector2 HasSectors2 Rows.FitsSector
    (λ r. Int (pos r.seq) ∷ Int (pos r.aircraft) ∷ Int (pos r.page) ∷ Int (pos r.line) ∷ Int (pos r.took_off) ∷ Int (pos r.landed) ∷ Int (pos r.cycles) ∷ [])

-- the same, by the type of its rows
abbrev pub kept_sector2_rows : Kept Sector2Row
kept_sector2_rows = held kept_sector2 (λ r. r.sector)

-- where components are fitted, as the rows of `span2`
abbrev pub kept_span2 : Kept SpanRow
kept_span2 = numbered table.Span2 HasSpans Rows.FitsSpan
    (λ r. Int (pos r.fit_seq) ∷ Int (pos r.component) ∷ Int (pos r.aircraft) ∷ Text r.position ∷ Int (pos r.from) ∷ number_or_null r.remove_seq ∷ number_or_null r.to ∷ [])

-- lives now, as the rows of `total2`
abbrev pub kept_total2 : Kept TotalRow
kept_total2 = numbered table.Total2 HasTotals Rows.FitsTotal
    (λ r. Int (pos r.item) ∷ Int (pos r.life.minutes) ∷ Int (pos r.life.cycles) ∷ Int (pos r.clock) ∷ [])

-- last bases, as the rows of `base2`
abbrev pub kept_base2 : Kept BaseRow
kept_base2 = record (numbered table.Base2 HasBases Rows.FitsBase
    (λ r. Int (pos r.item) ∷ Text r.task ∷ Int (pos r.life.minutes) ∷ Int (pos r.life.cycles) ∷ Int (pos r.day) ∷ [])) { order = by_two }

-- deferrals of defects, as the rows of `defect3`: those of `defect`, with no cycles within which they are rectified, and the cycles at which they were found
abbrev pub kept_defect3 : Kept Deferral3Row
kept_defect3 = numbered table.Defect3 HasDefects3 Rows.FitsDeferral3
    (λ r. Int (pos r.deferral.seq) ∷ Int (pos r.deferral.aircraft) ∷ Int (pos r.deferral.moment) ∷ Text r.deferral.reference
    ∷ Int (pos (category_number r.deferral.category)) ∷ number_or_null (days_stated r.deferral.category) ∷ Null ∷ Int (pos r.found_cycles) ∷ [])

-- accomplishments, as the rows of `done3`
abbrev pub kept_done3 : Kept DoneRow
kept_done3 = record (numbered table.Done3 HasDone Rows.FitsDone
    (λ r. Int (pos r.item) ∷ Text r.task ∷ Int (pos r.seq) ∷ Int (pos r.line)
    ∷ Int (pos r.value.minutes) ∷ Int (pos r.value.cycles) ∷ Int (pos r.value.day)
    ∷ number_or_null r.due.minutes ∷ number_or_null r.due.cycles ∷ number_or_null r.due.days
    ∷ Int (pos r.base.minutes) ∷ Int (pos r.base.cycles) ∷ Int (pos r.base.day) ∷ [])) { order = by_four }
