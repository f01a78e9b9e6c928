-- What entries say fits columns, where the rows of their registers do.
use Rattle.std.proofs.Common.{ℕ, ◌≤◌, ◌<◌, ◌^◌, List, [], ◌∷◌, ◌++◌, ◌+◌}
use Rattle.std.specs.List.{AllByRecursion}
use Rattle.std.proofs.lemmas.List.Elements.{recursion_from_All}
use Rattle.mx_base.specs.Calendar.{last_day, last_moment}
use Rattle.mx_base.specs.Identifier.{IsIdentifier, is_graphic}
use Rattle.mx_book.specs.commands.Act.{Act, Entry, Added, Listed, Loaded, Opened, Flown, Fitted, Removed, Released, Deferred, Extended}
use Rattle.mx_book.specs.declared.commands.release.Line.{Line}
use Rattle.mx_book.specs.declared.commands.release.Line.TheVariants.{Done, Rectified}
use Rattle.mx_base.specs.rows.Rows.{FitsAircraft, FitsComponent, FitsOpening, FitsSector, FitsFitting, FitsRemoval, FitsRelease, FitsReleaseLine, FitsDeferral}
use Rattle.mx_registers.specs.Lines.{lines_from}
use Rattle.mx_registers.specs.Registers.{gives_by, next, release_line_row, aircraft_by, components_by, openings_by, sectors_by, fittings_by, removals_by, releases_by, release_lines_by, deferrals_by}
use Rattle.mx_registers.specs.kept.Fits.{FitRegisters}

-- ── what an entry says ──

abbrev pub LineFits : Line → Type 0
LineFits (Done item task) = IsIdentifier is_graphic 16 task
LineFits (Rectified doc) = Unit {0}

-- its moments are in the calendar, its tasks and positions are identifiers, and the use that an opening states has 32 bits
abbrev pub SaysFit : Act → Type 0
SaysFit (Added a positions) = a.as_of ≤ last_moment
SaysFit (Listed c) = c.as_of ≤ last_moment
SaysFit (Loaded p tasks) = Unit {0}
SaysFit (Opened o) = IsIdentifier is_graphic 16 o.task × (o.use_then.minutes < 2 ^ 32) × (o.use_then.cycles < 2 ^ 32) × (o.day ≤ last_day)
SaysFit (Flown s) = s.on ≤ last_moment
SaysFit (Fitted f) = IsIdentifier is_graphic 16 f.position × (f.moment ≤ last_moment)
SaysFit (Removed r) = r.moment ≤ last_moment
SaysFit (Released r lines) = (r.moment ≤ last_moment) × AllByRecursion LineFits lines
SaysFit (Deferred d) = d.moment ≤ last_moment
SaysFit (Extended x) = Unit {0}

abbrev pub SayFit : List Entry → Type 0
SayFit book = AllByRecursion (λ (e : Entry). SaysFit e.act) book

-- ── from the rows of the registers ──

pub all_left : {X : Type 0} (P : X → Type 0) (xs ys : List X) → AllByRecursion P (xs ++ ys) → AllByRecursion P xs
all_left P [] ys h = tt
all_left P (x ∷ xs) ys h = (h.0, all_left P xs ys h.1)

pub all_right : {X : Type 0} (P : X → Type 0) (xs ys : List X) → AllByRecursion P (xs ++ ys) → AllByRecursion P ys
all_right P [] ys h = h
all_right P (x ∷ xs) ys h = all_right P xs ys h.1

record FitFrom (before later : List Entry) : Type 0 where
  pub aircraft : AllByRecursion FitsAircraft (gives_by aircraft_by before later)
  pub components : AllByRecursion FitsComponent (gives_by components_by before later)
  pub openings : AllByRecursion FitsOpening (gives_by openings_by before later)
  pub sectors : AllByRecursion FitsSector (gives_by sectors_by before later)
  pub fittings : AllByRecursion FitsFitting (gives_by fittings_by before later)
  pub removals : AllByRecursion FitsRemoval (gives_by removals_by before later)
  pub releases : AllByRecursion FitsRelease (gives_by releases_by before later)
  pub release_lines : AllByRecursion FitsReleaseLine (gives_by release_lines_by before later)
  pub deferrals : AllByRecursion FitsDeferral (gives_by deferrals_by before later)

lines_said : (before : List Entry) (seq line : ℕ) (lines : List Line) → AllByRecursion FitsReleaseLine (lines_from (release_line_row before) seq line lines) → AllByRecursion LineFits lines
lines_said before seq line [] h = tt
lines_said before seq line (Done item task ∷ lines) h = (h.0.task, lines_said before seq (line + 1) lines h.1)
lines_said before seq line (Rectified doc ∷ lines) h = (tt, lines_said before seq (line + 1) lines h.1)

module _ (before : List Entry) (x : Entry) (later : List Entry) where
  abbrev behind : List Entry
  behind = before ++ x ∷ []

  later_fit : FitFrom before (x ∷ later) → FitFrom behind later
  later_fit h = record {
    aircraft = all_right FitsAircraft (aircraft_by before x.act) (gives_by aircraft_by behind later) h.aircraft;
    components = all_right FitsComponent (components_by before x.act) (gives_by components_by behind later) h.components;
    openings = all_right FitsOpening (openings_by before x.act) (gives_by openings_by behind later) h.openings;
    sectors = all_right FitsSector (sectors_by before x.act) (gives_by sectors_by behind later) h.sectors;
    fittings = all_right FitsFitting (fittings_by before x.act) (gives_by fittings_by behind later) h.fittings;
    removals = all_right FitsRemoval (removals_by before x.act) (gives_by removals_by behind later) h.removals;
    releases = all_right FitsRelease (releases_by before x.act) (gives_by releases_by behind later) h.releases;
    release_lines = all_right FitsReleaseLine (release_lines_by before x.act) (gives_by release_lines_by behind later) h.release_lines;
    deferrals = all_right FitsDeferral (deferrals_by before x.act) (gives_by deferrals_by behind later) h.deferrals;
  }

said : (before : List Entry) (doc : List ℕ) (act : Act) (later : List Entry) → FitFrom before (record { doc = doc; act = act } ∷ later) → SaysFit act
said before doc (Added a positions) later h = h.aircraft.0.as_of
said before doc (Listed c) later h = h.components.0.as_of
said before doc (Loaded p tasks) later h = tt
said before doc (Opened o) later h = let row = h.openings.0 in (row.task, row.minutes, row.cycles, row.day)
said before doc (Flown s) later h = h.sectors.0.landed
said before doc (Fitted f) later h = let row = h.fittings.0 in (row.position, row.moment)
said before doc (Removed r) later h = h.removals.0.moment
said before doc (Released r lines) later h =
    (h.releases.0.moment, lines_said before (next before) 1 lines (all_left FitsReleaseLine (release_lines_by before (Released r lines)) (gives_by release_lines_by (before ++ record { doc = doc; act = Released r lines } ∷ []) later) h.release_lines))
said before doc (Deferred d) later h = h.deferrals.0.moment
said before doc (Extended y) later h = tt

said_from : (before later : List Entry) → FitFrom before later → SayFit later
said_from before [] h = tt
said_from before (x ∷ later) h = (said before x.doc x.act later h, said_from (before ++ x ∷ []) later (later_fit before x later h))

-- where the rows of the registers fit, what each entry says does
pub all_said : (book : List Entry) → FitRegisters book → SayFit book
all_said book h = said_from [] book (record {
  aircraft = recursion_from_All FitsAircraft _ h.aircraft;
  components = recursion_from_All FitsComponent _ h.components;
  openings = recursion_from_All FitsOpening _ h.openings;
  sectors = recursion_from_All FitsSector _ h.sectors;
  fittings = recursion_from_All FitsFitting _ h.fittings;
  removals = recursion_from_All FitsRemoval _ h.removals;
  releases = recursion_from_All FitsRelease _ h.releases;
  release_lines = recursion_from_All FitsReleaseLine _ h.release_lines;
  deferrals = recursion_from_All FitsDeferral _ h.deferrals;
})
