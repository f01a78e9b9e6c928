-- The rows from which a merge gives a book are the registers of that book.
use Rattle.std.proofs.Common.{◌≡◌, ℕ, ◌+◌, ◌==◌, Bool, cond, ◌&&◌, true, false, List, [], ◌∷◌, ◌++◌, length, Option, Some, None, refl, sym, ap, subst, ◌∙◌, arith, append_assoc, append-nil}
use Rattle.std.specs.Option.{option_and_then, option_map}
use Rattle.std.proofs.lemmas.Bool.{eqb-true}
use Rattle.std.proofs.lemmas.Option.{option_and_then_some}
use Rattle.mx_book.specs.commands.Act.{Act, Entry}
use Rattle.mx_book.specs.commands.Shape.{has_shape}
use Rattle.mx_book.specs.declared.commands.item.Item.{Item}
use Rattle.mx_book.specs.declared.commands.release.Place.{Place}
use Rattle.mx_book.specs.Judge.{judge, item_at as item_of_place}
use Rattle.mx_book.specs.Book.{is_new, IsBook}
use Rattle.mx_book.proofs.JudgeLemmas.{both_true, is_new-New, IsBook-entered}
use Rattle.mx_base.specs.declared.rows.rows.EntryKind.{EntryKind}
use Rattle.mx_base.specs.declared.rows.rows.EntryKind.TheVariants as kind
use Rattle.mx_base.specs.declared.rows.rows.EntryRow.{EntryRow}
use Rattle.mx_base.specs.declared.rows.rows.AircraftRow.{AircraftRow}
use Rattle.mx_base.specs.declared.rows.rows.PlaceRow.{PlaceRow}
use Rattle.mx_base.specs.declared.rows.rows.ComponentRow.{ComponentRow}
use Rattle.mx_base.specs.declared.rows.rows.ProgrammeRow.{ProgrammeRow}
use Rattle.mx_base.specs.declared.rows.rows.TaskRow.{TaskRow}
use Rattle.mx_base.specs.declared.rows.rows.OpeningRow.{OpeningRow}
use Rattle.mx_base.specs.declared.rows.rows.SectorRow.{SectorRow}
use Rattle.mx_base.specs.declared.rows.rows.FittingRow.{FittingRow}
use Rattle.mx_base.specs.declared.rows.rows.RemovalRow.{RemovalRow}
use Rattle.mx_base.specs.declared.rows.rows.ReleaseRow.{ReleaseRow}
use Rattle.mx_base.specs.declared.rows.rows.ReleaseLineRow.{ReleaseLineRow}
use Rattle.mx_base.specs.declared.rows.rows.DeferralRow.{DeferralRow}
use Rattle.mx_base.specs.declared.rows.rows.ExtensionRow.{ExtensionRow}
use Rattle.mx_registers.specs.declared.merge.Registers.{Registers}
use Rattle.mx_registers.specs.Names.{tail_at, serial_at, defect_at, item_at, seq_of_serial, seq_of_item, or_zero}
use Rattle.mx_registers.specs.Registers.{gives, next, kind_of, entry_row, place_row, task_row, release_row, release_line_row, entry_added, AreRegistersOf}
use Rattle.mx_registers.specs.Merge.{Rest, aircraft_said, component_said, programme_said, opening_said, sector_said, fitting_said, removal_said, place_said, release_said, deferral_said, extension_said, place_lines, task_lines, lines_of_release, command_of, first_of_entry, take_places, take_tasks, take_release_lines, take_by, take_command, is_next, is_empty, are_items_taken, are_programmes_taken, are_moves_taken, are_releases_taken, are_defects_taken, are_taken, merged}
use Rattle.mx_registers.specs.Left.{all_rows}
use Rattle.mx_registers.proofs.MergeLemmas.{in_front, all_later}
use Rattle.mx_registers.proofs.NameLemmas.{tail_number, serial_number, defect_number, item_number}
use Rattle.mx_registers.proofs.TakeLemmas.{same_some, rows_taken, places_of_rows}
use Rattle.mx_registers.proofs.TaskLemmas.{tasks_of_rows}
use Rattle.mx_registers.proofs.ReleaseLemmas.{place_number, lines_of_rows}

when_some : {X : Type 0} (b : Bool) (o : Option X) (x : X) → cond b o None ≡ Some x → (b ≡ true) × (o ≡ Some x)
when_some true o x h = (refl, h)
when_some false o x h = (cc)

option_map_some : {X Y Z : Type 0} (f : X → Y) (o : Option X) (y : Y) → option_map f o ≡ Some y → ((x : X) → o ≡ Some x → f x ≡ y → Z) → Z
option_map_some f None y h goal = absurd cc
option_map_some f (Some x) y h goal = goal x refl (same_some h)

first_is : {Row : Type 0} (seq_of : Row → ℕ) (seq : ℕ) (rows : List Row) (row : Row) (more : List Row) → first_of_entry seq_of seq rows ≡ Some (row, more) → (seq_of row ≡ seq) × (rows ≡ row ∷ more)
first_is seq_of seq [] row more h = (cc)
first_is seq_of seq (r ∷ rows) row more h =
    let one = when_some (seq_of r == seq) (Some (r, rows)) (row, more) h in
    let both : (r, rows) ≡ (row, more) = same_some one.1 in
    let here : r ≡ row = ap (λ p. p.0) both in
    let there : rows ≡ more = ap (λ p. p.1) both in
    (sym (ap seq_of here) ∙ eqb-true (seq_of r) seq one.0, ap (λ x. x ∷ rows) here ∙ ap (λ xs. row ∷ xs) there)

-- the rows of an entry of this kind stand in front of those that are left
record Takes (before : List Entry) (k : EntryKind) (rest : Rest) (act : Act) (left : Rest) : Type 0 where
  kind_is : k ≡ kind_of act
  rows : rest ≡ in_front before act left

-- the same where other names stand for what is said and for what is left
takes_as : (before : List Entry) (k : EntryKind) (rest : Rest) (said taken : Act × Rest) → said ≡ taken → Takes before k rest said.0 said.1 → Takes before k rest taken.0 taken.1
takes_as before k rest said taken same h = subst (λ (t : Act × Rest). Takes before k rest t.0 t.1) same h

took_aircraft : (before : List Entry) (rest : Rest) (row : AircraftRow) (more : List AircraftRow) → row.seq ≡ next before → rest.aircraft ≡ row ∷ more
    → Takes before kind.AddAircraft rest (aircraft_said row (take_places (next before) rest.places).0) (record rest { aircraft = more; places = (take_places (next before) rest.places).1 })
took_aircraft before rest row more same is = record {
  kind_is = refl;
  rows = ap (λ (rows : List AircraftRow). record rest { aircraft = rows }) (is ∙ ap (λ (n : ℕ). record { seq = n; tail = row.tail; kind = row.kind; birth = row.birth; minutes = row.minutes; cycles = row.cycles; as_of = row.as_of } ∷ more) same)
      ∙ ap (λ (rows : List PlaceRow). record rest { aircraft = record { seq = next before; tail = row.tail; kind = row.kind; birth = row.birth; minutes = row.minutes; cycles = row.cycles; as_of = row.as_of } ∷ more; places = rows }) (rows_taken place_lines place_row places_of_rows (next before) 1 rest.places);
}

took_component : (before : List Entry) (rest : Rest) (row : ComponentRow) (more : List ComponentRow) → row.seq ≡ next before → rest.components ≡ row ∷ more
    → Takes before kind.AddComponent rest (component_said row) (record rest { components = more })
took_component before rest row more same is = record {
  kind_is = refl;
  rows = ap (λ (rows : List ComponentRow). record rest { components = rows })
      (is ∙ ap (λ (n : ℕ). record { seq = n; serial = row.serial; part = row.part; birth = row.birth; minutes = row.minutes; cycles = row.cycles; as_of = row.as_of } ∷ more) same);
}

took_programme : (before : List Entry) (rest : Rest) (row : ProgrammeRow) (more : List ProgrammeRow) → row.seq ≡ next before → rest.programmes ≡ row ∷ more
    → Takes before kind.LoadProgramme rest (programme_said row (take_tasks (next before) rest.tasks).0) (record rest { programmes = more; tasks = (take_tasks (next before) rest.tasks).1 })
took_programme before rest row more same is = record {
  kind_is = refl;
  rows = ap (λ (rows : List ProgrammeRow). record rest { programmes = rows }) (is ∙ ap (λ (n : ℕ). record { seq = n; kind = row.kind; revision = row.revision } ∷ more) same)
      ∙ ap (λ (rows : List TaskRow). record rest { programmes = record { seq = next before; kind = row.kind; revision = row.revision } ∷ more; tasks = rows }) (rows_taken task_lines task_row tasks_of_rows (next before) 1 rest.tasks);
}

took_opening : (before : List Entry) (rest : Rest) (row : OpeningRow) (more : List OpeningRow) (item : Item) → IsBook before → row.seq ≡ next before → rest.openings ≡ row ∷ more → item_at before row.item ≡ Some item
    → Takes before kind.Opening rest (opening_said row item) (record rest { openings = more })
took_opening before rest row more item book same is found = record {
  kind_is = refl;
  rows = ap (λ (rows : List OpeningRow). record rest { openings = rows })
      (is ∙ ap (λ (n : ℕ). record { seq = n; item = row.item; kind = row.kind; task = row.task; minutes = row.minutes; cycles = row.cycles; day = row.day } ∷ more) same
      ∙ ap (λ (n : ℕ). record { seq = next before; item = n; kind = row.kind; task = row.task; minutes = row.minutes; cycles = row.cycles; day = row.day } ∷ more) (item_number before item row.item book.judged found));
}

took_sector : (before : List Entry) (rest : Rest) (row : SectorRow) (more : List SectorRow) (tail : List ℕ) → IsBook before → row.seq ≡ next before → rest.sectors ≡ row ∷ more → tail_at before row.aircraft ≡ Some tail
    → Takes before kind.Sector rest (sector_said row tail) (record rest { sectors = more })
took_sector before rest row more tail book same is found = record {
  kind_is = refl;
  rows = ap (λ (rows : List SectorRow). record rest { sectors = rows })
      (is ∙ ap (λ (n : ℕ). record { seq = n; aircraft = row.aircraft; page = row.page; line = row.line; took_off = row.took_off; landed = row.landed; cycles = row.cycles } ∷ more) same
      ∙ ap (λ (n : ℕ). record { seq = next before; aircraft = n; page = row.page; line = row.line; took_off = row.took_off; landed = row.landed; cycles = row.cycles } ∷ more) (tail_number before tail row.aircraft book.judged found));
}

took_fitting : (before : List Entry) (rest : Rest) (row : FittingRow) (more : List FittingRow) (serial tail : List ℕ) → IsBook before → row.seq ≡ next before → rest.fittings ≡ row ∷ more
    → serial_at before row.component ≡ Some serial → tail_at before row.aircraft ≡ Some tail → Takes before kind.Fit rest (fitting_said row serial tail) (record rest { fittings = more })
took_fitting before rest row more serial tail book same is component found = record {
  kind_is = refl;
  rows = ap (λ (rows : List FittingRow). record rest { fittings = rows })
      (is ∙ ap (λ (n : ℕ). record { seq = n; component = row.component; aircraft = row.aircraft; position = row.position; moment = row.moment } ∷ more) same
      ∙ ap (λ (n : ℕ). record { seq = next before; component = n; aircraft = row.aircraft; position = row.position; moment = row.moment } ∷ more) (serial_number before serial row.component book.judged component)
      ∙ ap (λ (n : ℕ). record { seq = next before; component = or_zero (seq_of_serial before serial); aircraft = n; position = row.position; moment = row.moment } ∷ more) (tail_number before tail row.aircraft book.judged found));
}

took_removal : (before : List Entry) (rest : Rest) (row : RemovalRow) (more : List RemovalRow) (serial : List ℕ) → IsBook before → row.seq ≡ next before → rest.removals ≡ row ∷ more
    → serial_at before row.component ≡ Some serial → Takes before kind.Remove rest (removal_said row serial) (record rest { removals = more })
took_removal before rest row more serial book same is component = record {
  kind_is = refl;
  rows = ap (λ (rows : List RemovalRow). record rest { removals = rows })
      (is ∙ ap (λ (n : ℕ). record { seq = n; component = row.component; moment = row.moment } ∷ more) same
      ∙ ap (λ (n : ℕ). record { seq = next before; component = n; moment = row.moment } ∷ more) (serial_number before serial row.component book.judged component));
}

took_release : (before : List Entry) (rest : Rest) (row : ReleaseRow) (more : List ReleaseRow) (place : Place) → IsBook before → row.seq ≡ next before → rest.releases ≡ row ∷ more → place_said before row ≡ Some place
    → Takes before kind.Release rest (release_said row place (take_release_lines before (next before) rest.release_lines).0) (record rest { releases = more; release_lines = (take_release_lines before (next before) rest.release_lines).1 })
took_release before rest row more place book same is said =
    let number = place_number before row place book.judged said in
    let item = or_zero (seq_of_item before (item_of_place place)) in
    record {
      kind_is = refl;
      rows = ap (λ (rows : List ReleaseRow). record rest { releases = rows })
          (is ∙ ap (λ (n : ℕ). record { seq = n; item = row.item; kind = row.kind; moment = row.moment } ∷ more) same
          ∙ ap (λ (n : ℕ). record { seq = next before; item = n; kind = row.kind; moment = row.moment } ∷ more) number.1
          ∙ ap (λ (shop : Option (List ℕ)). record { seq = next before; item = item; kind = shop; moment = row.moment } ∷ more) number.0)
          ∙ ap (λ (rows : List ReleaseLineRow). record rest { releases = release_row (next before) item (record { place = place; moment = row.moment }) ∷ more; release_lines = rows })
          (rows_taken (lines_of_release before) (release_line_row before) (lines_of_rows before book.judged) (next before) 1 rest.release_lines);
    }

took_deferral : (before : List Entry) (rest : Rest) (row : DeferralRow) (more : List DeferralRow) (tail : List ℕ) → IsBook before → row.seq ≡ next before → rest.deferrals ≡ row ∷ more
    → tail_at before row.aircraft ≡ Some tail → Takes before kind.Defer rest (deferral_said row tail) (record rest { deferrals = more })
took_deferral before rest row more tail book same is found = record {
  kind_is = refl;
  rows = ap (λ (rows : List DeferralRow). record rest { deferrals = rows })
      (is ∙ ap (λ (n : ℕ). record { seq = n; aircraft = row.aircraft; moment = row.moment; reference = row.reference; category = row.category } ∷ more) same
      ∙ ap (λ (n : ℕ). record { seq = next before; aircraft = n; moment = row.moment; reference = row.reference; category = row.category } ∷ more) (tail_number before tail row.aircraft book.judged found));
}

took_extension : (before : List Entry) (rest : Rest) (row : ExtensionRow) (more : List ExtensionRow) (doc : List ℕ) → IsBook before → row.seq ≡ next before → rest.extensions ≡ row ∷ more
    → defect_at before row.defect ≡ Some doc → Takes before kind.Extend rest (extension_said row doc) (record rest { extensions = more })
took_extension before rest row more doc book same is found = record {
  kind_is = refl;
  rows = ap (λ (rows : List ExtensionRow). record rest { extensions = rows })
      (is ∙ ap (λ (n : ℕ). record { seq = n; defect = row.defect; day = row.day; days = row.days } ∷ more) same
      ∙ ap (λ (n : ℕ). record { seq = next before; defect = n; day = row.day; days = row.days } ∷ more) (defect_number before doc row.defect book.judged found));
}

takes_by : (before : List Entry) (rest : Rest) (k : EntryKind) (taken : Act × Rest) → IsBook before → take_by before (next before) rest k ≡ Some taken → Takes before k rest taken.0 taken.1
takes_by before rest kind.AddAircraft taken book h =
    option_map_some (λ (t : AircraftRow × List AircraftRow). (aircraft_said t.0 (take_places (next before) rest.places).0, record rest { aircraft = t.1; places = (take_places (next before) rest.places).1 })) (first_of_entry (λ (r : AircraftRow). r.seq) (next before) rest.aircraft) taken h
    (λ t found said. let first = first_is (λ (r : AircraftRow). r.seq) (next before) rest.aircraft t.0 t.1 found in takes_as before kind.AddAircraft rest _ taken said (took_aircraft before rest t.0 t.1 first.0 first.1))
takes_by before rest kind.AddComponent taken book h =
    option_map_some (λ (t : ComponentRow × List ComponentRow). (component_said t.0, record rest { components = t.1 })) (first_of_entry (λ (r : ComponentRow). r.seq) (next before) rest.components) taken h
    (λ t found said. let first = first_is (λ (r : ComponentRow). r.seq) (next before) rest.components t.0 t.1 found in takes_as before kind.AddComponent rest _ taken said (took_component before rest t.0 t.1 first.0 first.1))
takes_by before rest kind.LoadProgramme taken book h =
    option_map_some (λ (t : ProgrammeRow × List ProgrammeRow). (programme_said t.0 (take_tasks (next before) rest.tasks).0, record rest { programmes = t.1; tasks = (take_tasks (next before) rest.tasks).1 })) (first_of_entry (λ (r : ProgrammeRow). r.seq) (next before) rest.programmes) taken h
    (λ t found said. let first = first_is (λ (r : ProgrammeRow). r.seq) (next before) rest.programmes t.0 t.1 found in takes_as before kind.LoadProgramme rest _ taken said (took_programme before rest t.0 t.1 first.0 first.1))
takes_by before rest kind.Opening taken book h =
    option_and_then_some (λ (t : OpeningRow × List OpeningRow). option_map (λ item. (opening_said t.0 item, record rest { openings = t.1 })) (item_at before t.0.item)) (first_of_entry (λ (r : OpeningRow). r.seq) (next before) rest.openings) taken h
    (λ t found more. option_map_some (λ item. (opening_said t.0 item, record rest { openings = t.1 })) (item_at before t.0.item) taken more
    (λ item at said. let first = first_is (λ (r : OpeningRow). r.seq) (next before) rest.openings t.0 t.1 found in takes_as before kind.Opening rest _ taken said (took_opening before rest t.0 t.1 item book first.0 first.1 at)))
takes_by before rest kind.Sector taken book h =
    option_and_then_some (λ (t : SectorRow × List SectorRow). option_map (λ tail. (sector_said t.0 tail, record rest { sectors = t.1 })) (tail_at before t.0.aircraft)) (first_of_entry (λ (r : SectorRow). r.seq) (next before) rest.sectors) taken h
    (λ t found more. option_map_some (λ tail. (sector_said t.0 tail, record rest { sectors = t.1 })) (tail_at before t.0.aircraft) taken more
    (λ tail at said. let first = first_is (λ (r : SectorRow). r.seq) (next before) rest.sectors t.0 t.1 found in takes_as before kind.Sector rest _ taken said (took_sector before rest t.0 t.1 tail book first.0 first.1 at)))
takes_by before rest kind.Fit taken book h =
    option_and_then_some (λ (t : FittingRow × List FittingRow). option_and_then (λ serial. option_map (λ tail. (fitting_said t.0 serial tail, record rest { fittings = t.1 })) (tail_at before t.0.aircraft)) (serial_at before t.0.component)) (first_of_entry (λ (r : FittingRow). r.seq) (next before) rest.fittings) taken h
    (λ t found more. option_and_then_some (λ serial. option_map (λ tail. (fitting_said t.0 serial tail, record rest { fittings = t.1 })) (tail_at before t.0.aircraft)) (serial_at before t.0.component) taken more
    (λ serial component last. option_map_some (λ tail. (fitting_said t.0 serial tail, record rest { fittings = t.1 })) (tail_at before t.0.aircraft) taken last
    (λ tail at said. let first = first_is (λ (r : FittingRow). r.seq) (next before) rest.fittings t.0 t.1 found in takes_as before kind.Fit rest _ taken said (took_fitting before rest t.0 t.1 serial tail book first.0 first.1 component at))))
takes_by before rest kind.Remove taken book h =
    option_and_then_some (λ (t : RemovalRow × List RemovalRow). option_map (λ serial. (removal_said t.0 serial, record rest { removals = t.1 })) (serial_at before t.0.component)) (first_of_entry (λ (r : RemovalRow). r.seq) (next before) rest.removals) taken h
    (λ t found more. option_map_some (λ serial. (removal_said t.0 serial, record rest { removals = t.1 })) (serial_at before t.0.component) taken more
    (λ serial component said. let first = first_is (λ (r : RemovalRow). r.seq) (next before) rest.removals t.0 t.1 found in takes_as before kind.Remove rest _ taken said (took_removal before rest t.0 t.1 serial book first.0 first.1 component)))
takes_by before rest kind.Release taken book h =
    option_and_then_some (λ (t : ReleaseRow × List ReleaseRow). option_map (λ place. (release_said t.0 place (take_release_lines before (next before) rest.release_lines).0, record rest { releases = t.1; release_lines = (take_release_lines before (next before) rest.release_lines).1 })) (place_said before t.0)) (first_of_entry (λ (r : ReleaseRow). r.seq) (next before) rest.releases) taken h
    (λ t found more. option_map_some (λ place. (release_said t.0 place (take_release_lines before (next before) rest.release_lines).0, record rest { releases = t.1; release_lines = (take_release_lines before (next before) rest.release_lines).1 })) (place_said before t.0) taken more
    (λ place at said. let first = first_is (λ (r : ReleaseRow). r.seq) (next before) rest.releases t.0 t.1 found in takes_as before kind.Release rest _ taken said (took_release before rest t.0 t.1 place book first.0 first.1 at)))
takes_by before rest kind.Defer taken book h =
    option_and_then_some (λ (t : DeferralRow × List DeferralRow). option_map (λ tail. (deferral_said t.0 tail, record rest { deferrals = t.1 })) (tail_at before t.0.aircraft)) (first_of_entry (λ (r : DeferralRow). r.seq) (next before) rest.deferrals) taken h
    (λ t found more. option_map_some (λ tail. (deferral_said t.0 tail, record rest { deferrals = t.1 })) (tail_at before t.0.aircraft) taken more
    (λ tail at said. let first = first_is (λ (r : DeferralRow). r.seq) (next before) rest.deferrals t.0 t.1 found in takes_as before kind.Defer rest _ taken said (took_deferral before rest t.0 t.1 tail book first.0 first.1 at)))
takes_by before rest kind.Extend taken book h =
    option_and_then_some (λ (t : ExtensionRow × List ExtensionRow). option_map (λ doc. (extension_said t.0 doc, record rest { extensions = t.1 })) (defect_at before t.0.defect)) (first_of_entry (λ (r : ExtensionRow). r.seq) (next before) rest.extensions) taken h
    (λ t found more. option_map_some (λ doc. (extension_said t.0 doc, record rest { extensions = t.1 })) (defect_at before t.0.defect) taken more
    (λ doc at said. let first = first_is (λ (r : ExtensionRow). r.seq) (next before) rest.extensions t.0 t.1 found in takes_as before kind.Extend rest _ taken said (took_extension before rest t.0 t.1 doc book first.0 first.1 at)))

-- ── the command of an entry ──

-- the command has the document, kind and number of the entry, and its shape, and its rows stand in front of those that are left
record Gives (before : List Entry) (entry : EntryRow) (rest : Rest) (command : Entry) (left : Rest) : Type 0 where
  row : entry ≡ entry_row (next before) command
  shape : has_shape command ≡ true
  rows : Takes before entry.kind rest command.act left

gives_as : (before : List Entry) (entry : EntryRow) (rest : Rest) (said next : Entry × Rest) → said ≡ next → Gives before entry rest said.0 said.1 → Gives before entry rest next.0 next.1
gives_as before entry rest said next same h = subst (λ (t : Entry × Rest). Gives before entry rest t.0 t.1) same h

made : (before : List Entry) (entry : EntryRow) (rest left : Rest) (act : Act) → entry.seq ≡ next before → Takes before entry.kind rest act left → has_shape (record { doc = entry.doc; act = act }) ≡ true
    → Gives before entry rest (record { doc = entry.doc; act = act }) left
made before entry rest left act seq takes shape = record {
  row = ap (λ (n : ℕ). record { seq = n; doc = entry.doc; kind = entry.kind }) seq ∙ ap (λ (x : EntryKind). record { seq = next before; doc = entry.doc; kind = x }) takes.kind_is;
  shape = shape;
  rows = takes;
}

takes_command : (before : List Entry) (entry : EntryRow) (rest : Rest) (next_one : Entry × Rest) → IsBook before → entry.seq ≡ next before → take_command before entry rest ≡ Some next_one → Gives before entry rest next_one.0 next_one.1
takes_command before entry rest next_one book seq h =
    option_and_then_some (λ (taken : Act × Rest). option_map (λ (command : Entry). (command, taken.1)) (command_of entry.doc taken.0)) (take_by before entry.seq rest entry.kind) next_one h
    (λ taken by more. option_map_some (λ (command : Entry). (command, taken.1)) (command_of entry.doc taken.0) next_one more
    (λ command is said.
    let shaped = when_some (has_shape (record { doc = entry.doc; act = taken.0 })) (Some (record { doc = entry.doc; act = taken.0 })) command is in
    let takes = takes_by before rest entry.kind taken book (sym (ap (λ (n : ℕ). take_by before n rest entry.kind) seq) ∙ by) in
    gives_as before entry rest (record { doc = entry.doc; act = taken.0 }, taken.1) next_one (ap (λ (c : Entry). (c, taken.1)) (same_some shaped.1) ∙ said) (made before entry rest taken.1 taken.0 seq takes shaped.0)))

-- ── the book ──

-- a book goes on behind its first entries, and the rows are those of what follows
record GoesOn (before : List Entry) (entries : List EntryRow) (rest : Rest) (book : List Entry) : Type 0 where
  later : List Entry
  whole : book ≡ before ++ later
  entries_are : entries ≡ gives entry_added before later
  rows : rest ≡ all_later before later

no_rows : {Row : Type 0} (rows : List Row) → is_empty rows ≡ true → rows ≡ []
no_rows [] h = refl
no_rows (row ∷ rows) h = (cc)

three_empty : {A B C : Type 0} (xs : List A) (ys : List B) (zs : List C) → is_empty xs && (is_empty ys && is_empty zs) ≡ true → (xs ≡ []) × (ys ≡ []) × (zs ≡ [])
three_empty xs ys zs h =
    let one = both_true (is_empty xs) _ h in
    let two = both_true (is_empty ys) (is_empty zs) one.1 in
    (no_rows xs one.0, no_rows ys two.0, no_rows zs two.1)

ends : (before : List Entry) (rest : Rest) (book : List Entry) → are_taken rest ≡ true → before ≡ book → GoesOn before [] rest book
ends before rest book h same =
    let one = both_true (are_items_taken rest) _ h in
    let two = both_true (are_programmes_taken rest) _ one.1 in
    let three = both_true (are_moves_taken rest) _ two.1 in
    let four = both_true (are_releases_taken rest) (are_defects_taken rest) three.1 in
    let items = three_empty rest.aircraft rest.places rest.components one.0 in
    let programmes = three_empty rest.programmes rest.tasks rest.openings two.0 in
    let moves = three_empty rest.sectors rest.fittings rest.removals three.0 in
    let releases = both_true (is_empty rest.releases) (is_empty rest.release_lines) four.0 in
    let defects = both_true (is_empty rest.deferrals) (is_empty rest.extensions) four.1 in
    record {
      later = [];
      whole = sym same ∙ sym (append-nil before);
      entries_are = refl;
      rows = λ i. record {
        aircraft = items.0 i;
        places = items.1 i;
        components = items.2 i;
        programmes = programmes.0 i;
        tasks = programmes.1 i;
        openings = programmes.2 i;
        releases = no_rows rest.releases releases.0 i;
        release_lines = no_rows rest.release_lines releases.1 i;
        deferrals = no_rows rest.deferrals defects.0 i;
        extensions = no_rows rest.extensions defects.1 i;
        sectors = moves.0 i;
        fittings = moves.1 i;
        removals = moves.2 i;
      };
    }

goes_further : (before : List Entry) (entry : EntryRow) (entries : List EntryRow) (rest left : Rest) (command : Entry) (book : List Entry) → Gives before entry rest command left → GoesOn (before ++ command ∷ []) entries left book → GoesOn before (entry ∷ entries) rest book
goes_further before entry entries rest left command book gave goes = record {
  later = command ∷ goes.later;
  whole = goes.whole ∙ append_assoc before (command ∷ []) goes.later;
  entries_are = ap (λ (e : EntryRow). e ∷ entries) gave.row ∙ ap (λ (es : List EntryRow). entry_row (next before) command ∷ es) goes.entries_are;
  rows = gave.rows.rows ∙ ap (in_front before command.act) goes.rows;
}

merged_goes_on : (before : List Entry) (entries : List EntryRow) (rest : Rest) (book : List Entry) → IsBook before → merged before entries rest ≡ Some book → GoesOn before entries rest book
merged_goes_on before [] rest book is h = let one = when_some (are_taken rest) (Some before) book h in ends before rest book one.0 (same_some one.1)
merged_goes_on before (entry ∷ entries) rest book is h =
    option_and_then_some (λ (next : Entry × Rest). cond (is_next before entry next.0) (merged (before ++ next.0 ∷ []) entries next.1) None) (take_command before entry rest) book h
    (λ taken by more.
    let one = when_some (is_next before entry taken.0) (merged (before ++ taken.0 ∷ []) entries taken.1) book more in
    let both = both_true (entry.seq == length before + 1) (is_new (judge before taken.0)) one.0 in
    let gave = takes_command before entry rest taken is (eqb-true entry.seq (length before + 1) both.0) by in
    goes_further before entry entries rest taken.1 taken.0 book gave (merged_goes_on (before ++ taken.0 ∷ []) entries taken.1 book (IsBook-entered before taken.0 is gave.shape (is_new-New (judge before taken.0) both.1)) one.1))

empty_book : IsBook []
empty_book = record { few = omega arith; shaped = refl; judged = refl }

-- the rows from which the merge gives a book are its registers
pub merged_sound : (registers : Registers) (book : List Entry) → merged [] registers.entries.items (all_rows registers) ≡ Some book → AreRegistersOf registers book
merged_sound registers book h =
    let goes = merged_goes_on [] registers.entries.items (all_rows registers) book empty_book h in
    let same = sym goes.whole in
    let rows = goes.rows ∙ ap (all_later []) same in
    record {
      entries = goes.entries_are ∙ ap (gives entry_added []) same;
      aircraft = ap (λ (r : Rest). r.aircraft) rows;
      places = ap (λ (r : Rest). r.places) rows;
      components = ap (λ (r : Rest). r.components) rows;
      programmes = ap (λ (r : Rest). r.programmes) rows;
      tasks = ap (λ (r : Rest). r.tasks) rows;
      openings = ap (λ (r : Rest). r.openings) rows;
      releases = ap (λ (r : Rest). r.releases) rows;
      release_lines = ap (λ (r : Rest). r.release_lines) rows;
      deferrals = ap (λ (r : Rest). r.deferrals) rows;
      extensions = ap (λ (r : Rest). r.extensions) rows;
      sectors = ap (λ (r : Rest). r.sectors) rows;
      fittings = ap (λ (r : Rest). r.fittings) rows;
      removals = ap (λ (r : Rest). r.removals) rows;
    }
