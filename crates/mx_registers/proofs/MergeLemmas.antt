-- The merge gives a book exactly from its registers.
use Rattle.std.proofs.Common.{◌≡◌, ℕ, ◌+◌, ◌≤◌, ◌==◌, cond, true, false, List, [], ◌∷◌, ◌++◌, length, Some, None, sym, ap, ◌∙◌, arith, append_assoc, append-nil, length-append}
use Rattle.std.specs.List.{list_all}
use Rattle.std.specs.Option.{option_and_then, option_map}
use Rattle.std.proofs.lemmas.Bool.Decides.{nat_tests}
use Rattle.mx_book.specs.commands.Act.{Act, Entry, Added, Listed, Loaded, Opened, Flown, Fitted, Removed, Released, Deferred, Extended, positions_of, tasks_of, lines_of}
use Rattle.mx_book.specs.commands.Shape.{has_shape}
use Rattle.mx_book.specs.declared.commands.programme.Task.{Task}
use Rattle.mx_book.specs.declared.commands.release.Line.{Line}
use Rattle.mx_book.specs.declared.commands.release.Place.{Place}
use Rattle.mx_book.specs.Judge.{judge, item_at as item_of_place}
use Rattle.mx_book.specs.Book.{is_new, is_book_from, IsBook}
use Rattle.mx_book.proofs.JudgeLemmas.{both_true}
use Rattle.mx_base.specs.declared.rows.rows.EntryRow.{EntryRow}
use Rattle.mx_base.specs.declared.rows.rows.AircraftRow.{AircraftRow}
use Rattle.mx_base.specs.declared.rows.rows.PlaceRow.{PlaceRow}
use Rattle.mx_base.specs.declared.rows.rows.ComponentRow.{ComponentRow}
use Rattle.mx_base.specs.declared.rows.rows.ProgrammeRow.{ProgrammeRow}
use Rattle.mx_base.specs.declared.rows.rows.TaskRow.{TaskRow}
use Rattle.mx_base.specs.declared.rows.rows.OpeningRow.{OpeningRow}
use Rattle.mx_base.specs.declared.rows.rows.SectorRow.{SectorRow}
use Rattle.mx_base.specs.declared.rows.rows.FittingRow.{FittingRow}
use Rattle.mx_base.specs.declared.rows.rows.RemovalRow.{RemovalRow}
use Rattle.mx_base.specs.declared.rows.rows.ReleaseRow.{ReleaseRow}
use Rattle.mx_base.specs.declared.rows.rows.ReleaseLineRow.{ReleaseLineRow}
use Rattle.mx_base.specs.declared.rows.rows.DeferralRow.{DeferralRow}
use Rattle.mx_base.specs.declared.rows.rows.ExtensionRow.{ExtensionRow}
use Rattle.mx_registers.specs.declared.merge.Registers.{Registers}
use Rattle.mx_registers.specs.Names.{tail_at, serial_at, defect_at, item_at, seq_of_tail, seq_of_serial, seq_of_defect, seq_of_item, or_zero}
use Rattle.mx_registers.specs.Lines.{Lines, lines_from}
use Rattle.mx_registers.specs.Registers.{gives, gives_by, next, kind_of, entry_row, aircraft_row, place_row, component_row, programme_row, task_row, opening_row, sector_row, fitting_row, removal_row, release_row, release_line_row, deferral_row, extension_row, entry_added, aircraft_by, places_by, components_by, programmes_by, tasks_by, openings_by, sectors_by, fittings_by, removals_by, releases_by, release_lines_by, deferrals_by, extensions_by, entry_rows, aircraft_rows, place_rows, component_rows, programme_rows, task_rows, opening_rows, sector_rows, fitting_rows, removal_rows, release_rows, release_line_rows, deferral_rows, extension_rows, AreRegistersOf}
use Rattle.mx_registers.specs.Merge.{Rest, aircraft_said, component_said, programme_said, opening_said, sector_said, fitting_said, removal_said, place_said, release_said, deferral_said, extension_said, place_lines, task_lines, lines_of_release, command_of, first_of_entry, take_places, take_tasks, take_release_lines, take_by, take_command, merged}
use Rattle.mx_registers.specs.Left.{all_rows}
use Rattle.mx_registers.proofs.NewLemmas.{opened_is_known, flown_is_known, fitted_is_known, removed_is_known, released_is_known, deferred_is_known, extended_is_known}
use Rattle.mx_registers.proofs.NameLemmas.{tail_known, serial_known, defect_known, item_known}
use Rattle.mx_registers.proofs.TakeLemmas.{same-eq, same_some, IsBehind, takes_lines, places_on_lines, places_said}
use Rattle.mx_registers.proofs.TaskLemmas.{tasks_on_lines, tasks_said}
use Rattle.mx_registers.proofs.ReleaseLemmas.{place_known, entry_of_line, lines_on_lines, lines_said}

-- ── the rows of one entry say it ──

-- the rows of an entry, in front of others
abbrev pub in_front : List Entry → Act → Rest → Rest
in_front before act rest = record {
  aircraft = aircraft_by before act ++ rest.aircraft;
  places = places_by before act ++ rest.places;
  components = components_by before act ++ rest.components;
  programmes = programmes_by before act ++ rest.programmes;
  tasks = tasks_by before act ++ rest.tasks;
  openings = openings_by before act ++ rest.openings;
  releases = releases_by before act ++ rest.releases;
  release_lines = release_lines_by before act ++ rest.release_lines;
  deferrals = deferrals_by before act ++ rest.deferrals;
  extensions = extensions_by before act ++ rest.extensions;
  sectors = sectors_by before act ++ rest.sectors;
  fittings = fittings_by before act ++ rest.fittings;
  removals = removals_by before act ++ rest.removals;
}

first_found : {Row : Type 0} (seq_of : Row → ℕ) (row : Row) (rows : List Row) → first_of_entry seq_of (seq_of row) (row ∷ rows) ≡ Some (row, rows)
first_found seq_of row rows = ap (λ b. cond b (Some (row, rows)) None) (same-eq (seq_of row))

-- no position, no task and no line of a release that comes first is of the entry behind these
pub record AreBehind (before : List Entry) (rest : Rest) : Type 0 where
  pub places : IsBehind place_lines (next before) rest.places
  pub tasks : IsBehind task_lines (next before) rest.tasks
  pub release_lines : IsBehind (lines_of_release before) (next before) rest.release_lines

-- a command of its shape that is new is said by its rows
says_again : (before : List Entry) (doc : List ℕ) (act : Act) (rest : Rest) → has_shape (record { doc = doc; act = act }) ≡ true → is_new (judge before (record { doc = doc; act = act })) ≡ true → AreBehind before rest
    → take_by before (next before) (in_front before act rest) (kind_of act) ≡ Some (act, rest)
says_again before doc (Added a positions) rest shape new behind =
    let seq = next before in
    let all = lines_from place_row seq 1 positions ++ rest.places in
    let row = aircraft_row seq a in
    ap (option_map (λ (taken : AircraftRow × List AircraftRow). (aircraft_said taken.0 (take_places seq all).0, record rest { aircraft = taken.1; places = (take_places seq all).1 }))) (first_found (λ (r : AircraftRow). r.seq) row rest.aircraft)
    ∙ ap (λ (t : List (List ℕ × List ℕ) × List PlaceRow). Some (aircraft_said row t.0, record rest { places = t.1 })) (takes_lines place_lines place_row places_on_lines seq 1 positions rest.places (places_said positions) behind.places)
says_again before doc (Listed c) rest shape new behind =
    ap (option_map (λ (taken : ComponentRow × List ComponentRow). (component_said taken.0, record rest { components = taken.1 }))) (first_found (λ (r : ComponentRow). r.seq) (component_row (next before) c) rest.components)
says_again before doc (Loaded p tasks) rest shape new behind =
    let seq = next before in
    let all = lines_from task_row seq 1 tasks ++ rest.tasks in
    let row = programme_row seq p in
    ap (option_map (λ (taken : ProgrammeRow × List ProgrammeRow). (programme_said taken.0 (take_tasks seq all).0, record rest { programmes = taken.1; tasks = (take_tasks seq all).1 }))) (first_found (λ (r : ProgrammeRow). r.seq) row rest.programmes)
    ∙ ap (λ (t : List Task × List TaskRow). Some (programme_said row t.0, record rest { tasks = t.1 })) (takes_lines task_lines task_row tasks_on_lines seq 1 tasks rest.tasks (tasks_said doc p tasks shape) behind.tasks)
says_again before doc (Opened o) rest shape new behind =
    let row = opening_row (next before) (or_zero (seq_of_item before o.item)) o in
    ap (option_and_then (λ (taken : OpeningRow × List OpeningRow). option_map (λ item. (opening_said taken.0 item, record rest { openings = taken.1 })) (item_at before taken.0.item))) (first_found (λ (r : OpeningRow). r.seq) row rest.openings)
    ∙ ap (option_map (λ item. (opening_said row item, rest))) (item_known before o.item (opened_is_known before doc o new))
says_again before doc (Flown s) rest shape new behind =
    let row = sector_row (next before) (or_zero (seq_of_tail before s.tail)) s in
    ap (option_and_then (λ (taken : SectorRow × List SectorRow). option_map (λ tail. (sector_said taken.0 tail, record rest { sectors = taken.1 })) (tail_at before taken.0.aircraft))) (first_found (λ (r : SectorRow). r.seq) row rest.sectors)
    ∙ ap (option_map (λ tail. (sector_said row tail, rest))) (tail_known before s.tail (flown_is_known before doc s new))
says_again before doc (Fitted f) rest shape new behind =
    let row = fitting_row (next before) (or_zero (seq_of_serial before f.serial)) (or_zero (seq_of_tail before f.tail)) f in
    let known = fitted_is_known before doc f new in
    ap (option_and_then (λ (taken : FittingRow × List FittingRow). option_and_then (λ serial. option_map (λ tail. (fitting_said taken.0 serial tail, record rest { fittings = taken.1 })) (tail_at before taken.0.aircraft)) (serial_at before taken.0.component))) (first_found (λ (r : FittingRow). r.seq) row rest.fittings)
    ∙ ap (option_and_then (λ serial. option_map (λ tail. (fitting_said row serial tail, rest)) (tail_at before row.aircraft))) (serial_known before f.serial known.1)
    ∙ ap (option_map (λ tail. (fitting_said row f.serial tail, rest))) (tail_known before f.tail known.0)
says_again before doc (Removed r) rest shape new behind =
    let row = removal_row (next before) (or_zero (seq_of_serial before r.serial)) r in
    ap (option_and_then (λ (taken : RemovalRow × List RemovalRow). option_map (λ serial. (removal_said taken.0 serial, record rest { removals = taken.1 })) (serial_at before taken.0.component))) (first_found (λ (x : RemovalRow). x.seq) row rest.removals)
    ∙ ap (option_map (λ serial. (removal_said row serial, rest))) (serial_known before r.serial (removed_is_known before doc r new))
says_again before doc (Released r lines) rest shape new behind =
    let seq = next before in
    let all = lines_from (release_line_row before) seq 1 lines ++ rest.release_lines in
    let row = release_row seq (or_zero (seq_of_item before (item_of_place r.place))) r in
    let known = released_is_known before doc r lines new in
    ap (option_and_then (λ (taken : ReleaseRow × List ReleaseRow). option_map (λ place. (release_said taken.0 place (take_release_lines before seq all).0, record rest { releases = taken.1; release_lines = (take_release_lines before seq all).1 })) (place_said before taken.0))) (first_found (λ (x : ReleaseRow). x.seq) row rest.releases)
    ∙ ap (option_map (λ (place : Place). (release_said row place (take_release_lines before seq all).0, record rest { release_lines = (take_release_lines before seq all).1 }))) (place_known before r.place known.0)
    ∙ ap (λ (t : List Line × List ReleaseLineRow). Some (release_said row r.place t.0, record rest { release_lines = t.1 }))
    (takes_lines (lines_of_release before) (release_line_row before) (lines_on_lines before) seq 1 lines rest.release_lines (lines_said before lines known.1) behind.release_lines)
says_again before doc (Deferred d) rest shape new behind =
    let row = deferral_row (next before) (or_zero (seq_of_tail before d.tail)) d in
    ap (option_and_then (λ (taken : DeferralRow × List DeferralRow). option_map (λ tail. (deferral_said taken.0 tail, record rest { deferrals = taken.1 })) (tail_at before taken.0.aircraft))) (first_found (λ (r : DeferralRow). r.seq) row rest.deferrals)
    ∙ ap (option_map (λ tail. (deferral_said row tail, rest))) (tail_known before d.tail (deferred_is_known before doc d new))
says_again before doc (Extended x) rest shape new behind =
    let row = extension_row (next before) (or_zero (seq_of_defect before x.defect)) x in
    ap (option_and_then (λ (taken : ExtensionRow × List ExtensionRow). option_map (λ defect. (extension_said taken.0 defect, record rest { extensions = taken.1 })) (defect_at before taken.0.defect))) (first_found (λ (r : ExtensionRow). r.seq) row rest.extensions)
    ∙ ap (option_map (λ defect. (extension_said row defect, rest))) (defect_known before x.defect (extended_is_known before doc x new))

-- the rows of a command of its shape that is new give it
take_gives : (before : List Entry) (doc : List ℕ) (act : Act) (rest : Rest) → has_shape (record { doc = doc; act = act }) ≡ true → is_new (judge before (record { doc = doc; act = act })) ≡ true → AreBehind before rest
    → take_command before (entry_row (next before) (record { doc = doc; act = act })) (in_front before act rest) ≡ Some (record { doc = doc; act = act }, rest)
take_gives before doc act rest shape new behind =
    ap (option_and_then (λ (taken : Act × Rest). option_map (λ (command : Entry). (command, taken.1)) (command_of doc taken.0))) (says_again before doc act rest shape new behind)
    ∙ ap (λ b. option_map (λ (command : Entry). (command, rest)) (cond b (Some (record { doc = doc; act = act })) None)) shape

-- ── the rows of a book give it ──

-- what entries give to the registers, behind the entries before them
abbrev pub all_later : List Entry → List Entry → Rest
all_later before later = record {
  aircraft = gives_by aircraft_by before later;
  places = gives_by places_by before later;
  components = gives_by components_by before later;
  programmes = gives_by programmes_by before later;
  tasks = gives_by tasks_by before later;
  openings = gives_by openings_by before later;
  releases = gives_by releases_by before later;
  release_lines = gives_by release_lines_by before later;
  deferrals = gives_by deferrals_by before later;
  extensions = gives_by extensions_by before later;
  sectors = gives_by sectors_by before later;
  fittings = gives_by fittings_by before later;
  removals = gives_by removals_by before later;
}

other_number : (n m : ℕ) → n ≤ m → (m + 1 == n) ≡ false
other_number n m h = grind (arith, nat_tests)

module _ {X Row : Type 0} (lines : Lines X Row) (row_of : List Entry → ℕ → ℕ → X → Row) (entry_is : (earlier : List Entry) (seq line : ℕ) (x : X) → lines.seq (row_of earlier seq line x) ≡ seq) (things : Act → List X) where
  behind_if : (seq : ℕ) (earlier : List Entry) (xs : List X) (rows : List Row) → seq ≤ length earlier → IsBehind lines seq rows → IsBehind lines seq (lines_from (row_of earlier) (next earlier) 1 xs ++ rows)
  behind_if seq earlier [] rows h rest = rest
  behind_if seq earlier (x ∷ xs) rows h rest = ap (λ (m : ℕ). m == seq) (entry_is earlier (next earlier) 1 x) ∙ other_number seq (length earlier) h

  -- the rows of later entries are of other numbers
  later_behind : (seq : ℕ) (before later : List Entry) → seq ≤ length before → IsBehind lines seq (gives_by (λ earlier act. lines_from (row_of earlier) (next earlier) 1 (things act)) before later)
  later_behind seq before [] h = tt
  later_behind seq before (entry ∷ later) h =
      behind_if seq before (things entry.act) (gives_by (λ earlier act. lines_from (row_of earlier) (next earlier) 1 (things act)) (before ++ entry ∷ []) later) h
      (later_behind seq (before ++ entry ∷ []) later (omega (arith, length-append before (entry ∷ []))))

-- the positions, the tasks and the lines of releases of later entries are of other numbers
are_behind : (first before later : List Entry) → next first ≤ length before → AreBehind first (all_later before later)
are_behind first before later h = record {
  places = later_behind place_lines (λ _. place_row) (λ _. places_on_lines.entry_is) positions_of (next first) before later h;
  tasks = later_behind task_lines (λ _. task_row) (λ _. tasks_on_lines.entry_is) tasks_of (next first) before later h;
  release_lines = later_behind (lines_of_release first) release_line_row entry_of_line lines_of (next first) before later h;
}

-- over what later entries give to the registers the merge gives those entries behind the others
merged_gives : (before later : List Entry) → is_book_from before later ≡ true → list_all has_shape later ≡ true → merged before (gives entry_added before later) (all_later before later) ≡ Some (before ++ later)
merged_gives before [] judged shaped = ap (λ (book : List Entry). Some book) (sym (append-nil before))
merged_gives before (entry ∷ later) judged shaped =
    let new = both_true (is_new (judge before entry)) (is_book_from (before ++ entry ∷ []) later) judged in
    let shape = both_true (has_shape entry) (list_all has_shape later) shaped in
    let behind = are_behind before (before ++ entry ∷ []) later (omega (arith, length-append before (entry ∷ []))) in
    rw (take_gives before entry.doc entry.act (all_later (before ++ entry ∷ []) later) shape.0 new.0 behind, same-eq (length before + 1), new.0)
    (merged_gives (before ++ entry ∷ []) later new.1 shape.1 ∙ ap (λ (book : List Entry). Some book) (append_assoc before (entry ∷ []) later))

registers_rest : (registers : Registers) (book : List Entry) → AreRegistersOf registers book → all_rows registers ≡ all_later [] book
registers_rest registers book are i = record { aircraft = are.aircraft i; places = are.places i; components = are.components i; programmes = are.programmes i; tasks = are.tasks i; openings = are.openings i; releases = are.releases i; release_lines = are.release_lines i; deferrals = are.deferrals i; extensions = are.extensions i; sectors = are.sectors i; fittings = are.fittings i; removals = are.removals i }

-- from the registers of a book the merge gives the book
pub merged_from : (registers : Registers) (book : List Entry) → IsBook book → AreRegistersOf registers book → merged [] registers.entries.items (all_rows registers) ≡ Some book
merged_from registers book is are =
    ap (λ (rows : List EntryRow). merged [] rows (all_rows registers)) are.entries ∙ ap (merged [] (entry_rows book)) (registers_rest registers book are) ∙ merged_gives [] book is.judged is.shaped

-- two books have the same registers
pub record HaveSameRegisters (one other : List Entry) : Type 0 where
  pub entries : entry_rows one ≡ entry_rows other
  pub aircraft : aircraft_rows one ≡ aircraft_rows other
  pub places : place_rows one ≡ place_rows other
  pub components : component_rows one ≡ component_rows other
  pub programmes : programme_rows one ≡ programme_rows other
  pub tasks : task_rows one ≡ task_rows other
  pub openings : opening_rows one ≡ opening_rows other
  pub releases : release_rows one ≡ release_rows other
  pub release_lines : release_line_rows one ≡ release_line_rows other
  pub deferrals : deferral_rows one ≡ deferral_rows other
  pub extensions : extension_rows one ≡ extension_rows other
  pub sectors : sector_rows one ≡ sector_rows other
  pub fittings : fitting_rows one ≡ fitting_rows other
  pub removals : removal_rows one ≡ removal_rows other

same_later : (one other : List Entry) → HaveSameRegisters one other → all_later [] one ≡ all_later [] other
same_later one other same i = record { aircraft = same.aircraft i; places = same.places i; components = same.components i; programmes = same.programmes i; tasks = same.tasks i; openings = same.openings i; releases = same.releases i; release_lines = same.release_lines i; deferrals = same.deferrals i; extensions = same.extensions i; sectors = same.sectors i; fittings = same.fittings i; removals = same.removals i }

-- books with the same registers are one
pub book_once : (one other : List Entry) → HaveSameRegisters one other → IsBook one → IsBook other → one ≡ other
book_once one other same is was =
    same_some (sym (merged_gives [] one is.judged is.shaped) ∙ ap (λ (rows : List EntryRow). merged [] rows (all_later [] one)) same.entries ∙ ap (merged [] (entry_rows other)) (same_later one other same) ∙ merged_gives [] other was.judged was.shaped)

-- registers are those of at most one book
pub one_book : (registers : Registers) (one other : List Entry) → AreRegistersOf registers one → AreRegistersOf registers other → IsBook one → IsBook other → one ≡ other
one_book registers one other are were is was = same_some (sym (merged_from registers one is are) ∙ merged_from registers other was were)
