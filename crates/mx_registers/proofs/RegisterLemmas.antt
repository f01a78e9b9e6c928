-- Registers as a book grows by a command, and the order of their rows.
use Rattle.std.proofs.Common.{◌≡◌, ℕ, ◌+◌, ◌*◌, ◌^◌, ◌≤◌, List, [], ◌∷◌, ◌++◌, length, true, Option, Some, None, refl, sym, ap, subst, ◌∙◌, arith, append_assoc, append-nil, length-append}
use Rattle.std.specs.Prelude.{nat_le}
use Rattle.std.specs.List.{list_all}
use Rattle.std.proofs.lemmas.Bool.Decides.{nat_tests}
use Rattle.mx_book.specs.commands.Act.{Act, Entry, Added, positions_of, tasks_of, lines_of, aircraft_of, component_of, programme_of, opening_of, sector_of, fitting_of, removal_of, release_of, deferral_of, extension_of}
use Rattle.mx_book.specs.commands.Shape.{has_shape, act_shape, doc_shape, opening_shape, positions_shape}
use Rattle.mx_book.specs.declared.commands.opening.Opening.{Opening}
use Rattle.mx_book.specs.declared.commands.sector.Sector.{Sector}
use Rattle.mx_book.specs.declared.commands.fitting.Fitting.{Fitting}
use Rattle.mx_book.specs.declared.commands.fitting.Removal.{Removal}
use Rattle.mx_book.specs.declared.commands.release.Release.{Release}
use Rattle.mx_book.specs.declared.commands.deferral.Deferral.{Deferral}
use Rattle.mx_book.specs.declared.commands.deferral.Extension.{Extension}
use Rattle.mx_book.specs.Judge.{item_at as item_of_place}
use Rattle.mx_book.proofs.JudgeLemmas.{both_true}
use Rattle.mx_base.specs.declared.rows.rows.EntryRow.{EntryRow}
use Rattle.mx_base.specs.declared.rows.rows.AircraftRow.{AircraftRow}
use Rattle.mx_base.specs.declared.rows.rows.ComponentRow.{ComponentRow}
use Rattle.mx_base.specs.declared.rows.rows.ProgrammeRow.{ProgrammeRow}
use Rattle.mx_base.specs.declared.rows.rows.OpeningRow.{OpeningRow}
use Rattle.mx_base.specs.declared.rows.rows.SectorRow.{SectorRow}
use Rattle.mx_base.specs.declared.rows.rows.FittingRow.{FittingRow}
use Rattle.mx_base.specs.declared.rows.rows.RemovalRow.{RemovalRow}
use Rattle.mx_base.specs.declared.rows.rows.ReleaseRow.{ReleaseRow}
use Rattle.mx_base.specs.declared.rows.rows.DeferralRow.{DeferralRow}
use Rattle.mx_base.specs.declared.rows.rows.ExtensionRow.{ExtensionRow}
use Rattle.mx_base.specs.rows.Rows.{line_key, place_key, task_key, release_line_key}
use Rattle.mx_base.specs.rows.Rising.{IsRising}
use Rattle.mx_registers.specs.Names.{seq_of_tail, seq_of_serial, seq_of_defect, seq_of_item, or_zero}
use Rattle.mx_registers.specs.Lines.{lines_from}
use Rattle.mx_registers.specs.Registers.{gives, gives_by, next, if_any, aircraft_row, place_row, component_row, programme_row, task_row, opening_row, sector_row, fitting_row, removal_row, release_row, release_line_row, deferral_row, extension_row, entry_added, aircraft_by, components_by, programmes_by, openings_by, sectors_by, fittings_by, removals_by, releases_by, deferrals_by, extensions_by, entry_rows, aircraft_rows, place_rows, component_rows, programme_rows, task_rows, opening_rows, sector_rows, fitting_rows, removal_rows, release_rows, release_line_rows, deferral_rows, extension_rows}
use Rattle.mx_registers.proofs.TaskLemmas.{tasks_few}
use Rattle.mx_registers.proofs.ReleaseLemmas.{key_of_line, lines_few_enough}

-- ── one command more ──

-- a register of entries with one more: the rows that this adds come last
pub gives-more : {Row : Type 0} (added : List Entry → Entry → List Row) (before book : List Entry) (command : Entry)
    → gives added before (book ++ command ∷ []) ≡ gives added before book ++ added (before ++ book) command
gives-more added before [] command = append-nil (added before command) ∙ ap (λ b. added b command) (sym (append-nil before))
gives-more added before (entry ∷ book) command =
    let rest = gives added (before ++ entry ∷ []) book in
    let later = gives-more added (before ++ entry ∷ []) book command in
    let place = ap (λ b. rest ++ added b command) (append_assoc before (entry ∷ []) book) in
    ap (λ rows. added before entry ++ rows) (later ∙ place) ∙ sym (append_assoc (added before entry) rest (added (before ++ entry ∷ book) command))

-- ── the order of the rows ──

rising-append : {Row : Type 0} (key : Row → ℕ) (xs ys : List Row) (low mid high : ℕ) → IsRising key low xs mid → IsRising key mid ys high → IsRising key low (xs ++ ys) high
rising-append key [] [] low mid high a b = omega arith
rising-append key [] (y ∷ ys) low mid high a b = (omega arith, b.1)
rising-append key (x ∷ xs) ys low mid high a b = (a.0, rising-append key xs ys (key x + 1) mid high a.1 b)

-- the rows of a register rise, where those of each entry are between the bound of its number and that of the next
gives-rising : {Row : Type 0} (key : Row → ℕ) (bound : ℕ → ℕ) (added : List Entry → Entry → List Row)
    → ((before : List Entry) (entry : Entry) → has_shape entry ≡ true → IsRising key (bound (length before + 1)) (added before entry) (bound (length before + 1 + 1)))
    → (before book : List Entry) → list_all has_shape book ≡ true → IsRising key (bound (length before + 1)) (gives added before book) (bound (length before + length book + 1))
gives-rising key bound added each before [] shaped = let same : length before + 0 + 1 ≡ length before + 1 = omega arith in let e = ap bound same in omega arith
gives-rising key bound added each before (entry ∷ book) shaped =
    let shape = both_true (has_shape entry) (list_all has_shape book) shaped in
    let one : length (before ++ entry ∷ []) ≡ length before + 1 = length-append before (entry ∷ []) in
    let sum : length before + 1 + length book + 1 ≡ length before + length (entry ∷ book) + 1 = omega arith in
    let later = gives-rising key bound added each (before ++ entry ∷ []) book shape.1 in
    rising-append key (added before entry) (gives added (before ++ entry ∷ []) book) _ (bound (length before + 1 + 1)) _ (each before entry shape.0)
    (subst (λ n. IsRising key (bound (length before + 1 + 1)) (gives added (before ++ entry ∷ []) book) (bound n)) sum (subst (λ n. IsRising key (bound (n + 1)) (gives added (before ++ entry ∷ []) book) (bound (n + length book + 1))) one later))

from_one : {Row : Type 0} (key : Row → ℕ) (bound : ℕ → ℕ) (added : List Entry → Entry → List Row)
    → ((before : List Entry) (entry : Entry) → has_shape entry ≡ true → IsRising key (bound (length before + 1)) (added before entry) (bound (length before + 1 + 1)))
    → (book : List Entry) → list_all has_shape book ≡ true → IsRising key (bound 1) (gives added [] book) (bound (length book + 1))
from_one key bound added each book shaped = let e : 0 + length book + 1 ≡ length book + 1 = omega arith in subst (λ n. IsRising key (bound 1) (gives added [] book) (bound n)) e (gives-rising key bound added each [] book shaped)

-- a row with the number of its entry, where there is one
one_rises : {X Row : Type 0} (key : Row → ℕ) (n : ℕ) (row : X → Row) → ((x : X) → key (row x) ≡ n) → (o : Option X) → IsRising key n (if_any row o) (n + 1)
one_rises key n row same None = omega arith
one_rises key n row same (Some x) = let e = same x in (omega arith, omega arith)

by_number : ℕ → ℕ
by_number n = n

-- the numbers of the entries rise from 1 to the length of the book
pub entry_rows-rising : (book : List Entry) → list_all has_shape book ≡ true → IsRising (λ (row : EntryRow). row.seq) 1 (entry_rows book) (length book + 1)
unfolding by_number
entry_rows-rising = from_one (λ (row : EntryRow). row.seq) by_number entry_added (λ before entry _. (omega arith, omega arith))

-- the numbers of the aircraft rise, none above the length of the book
pub aircraft_rows-rising : (book : List Entry) → list_all has_shape book ≡ true → IsRising (λ (row : AircraftRow). row.seq) 1 (aircraft_rows book) (length book + 1)
unfolding by_number
aircraft_rows-rising = from_one (λ (row : AircraftRow). row.seq) by_number (λ before entry. aircraft_by before entry.act) (λ before entry _. one_rises (λ (row : AircraftRow). row.seq) (next before) (aircraft_row (next before)) (λ a. refl) (aircraft_of entry.act))

-- the numbers of the components rise, none above the length of the book
pub component_rows-rising : (book : List Entry) → list_all has_shape book ≡ true → IsRising (λ (row : ComponentRow). row.seq) 1 (component_rows book) (length book + 1)
unfolding by_number
component_rows-rising = from_one (λ (row : ComponentRow). row.seq) by_number (λ before entry. components_by before entry.act) (λ before entry _. one_rises (λ (row : ComponentRow). row.seq) (next before) (component_row (next before)) (λ c. refl) (component_of entry.act))

-- the numbers of the programmes rise, none above the length of the book
pub programme_rows-rising : (book : List Entry) → list_all has_shape book ≡ true → IsRising (λ (row : ProgrammeRow). row.seq) 1 (programme_rows book) (length book + 1)
unfolding by_number
programme_rows-rising = from_one (λ (row : ProgrammeRow). row.seq) by_number (λ before entry. programmes_by before entry.act) (λ before entry _. one_rises (λ (row : ProgrammeRow). row.seq) (next before) (programme_row (next before)) (λ p. refl) (programme_of entry.act))

-- the numbers of the openings rise, none above the length of the book
pub opening_rows-rising : (book : List Entry) → list_all has_shape book ≡ true → IsRising (λ (row : OpeningRow). row.seq) 1 (opening_rows book) (length book + 1)
unfolding by_number
opening_rows-rising = from_one (λ (row : OpeningRow). row.seq) by_number (λ before entry. openings_by before entry.act)
    (λ before entry _. one_rises (λ (row : OpeningRow). row.seq) (next before) (λ (o : Opening). opening_row (next before) (or_zero (seq_of_item before o.item)) o) (λ o. refl) (opening_of entry.act))

-- the numbers of the sectors rise, none above the length of the book
pub sector_rows-rising : (book : List Entry) → list_all has_shape book ≡ true → IsRising (λ (row : SectorRow). row.seq) 1 (sector_rows book) (length book + 1)
unfolding by_number
sector_rows-rising = from_one (λ (row : SectorRow). row.seq) by_number (λ before entry. sectors_by before entry.act)
    (λ before entry _. one_rises (λ (row : SectorRow). row.seq) (next before) (λ (s : Sector). sector_row (next before) (or_zero (seq_of_tail before s.tail)) s) (λ s. refl) (sector_of entry.act))

-- the numbers of the fittings rise, none above the length of the book
pub fitting_rows-rising : (book : List Entry) → list_all has_shape book ≡ true → IsRising (λ (row : FittingRow). row.seq) 1 (fitting_rows book) (length book + 1)
unfolding by_number
fitting_rows-rising = from_one (λ (row : FittingRow). row.seq) by_number (λ before entry. fittings_by before entry.act)
    (λ before entry _. one_rises (λ (row : FittingRow). row.seq) (next before) (λ (f : Fitting). fitting_row (next before) (or_zero (seq_of_serial before f.serial)) (or_zero (seq_of_tail before f.tail)) f) (λ f. refl) (fitting_of entry.act))

-- the numbers of the removals rise, none above the length of the book
pub removal_rows-rising : (book : List Entry) → list_all has_shape book ≡ true → IsRising (λ (row : RemovalRow). row.seq) 1 (removal_rows book) (length book + 1)
unfolding by_number
removal_rows-rising = from_one (λ (row : RemovalRow). row.seq) by_number (λ before entry. removals_by before entry.act)
    (λ before entry _. one_rises (λ (row : RemovalRow). row.seq) (next before) (λ (r : Removal). removal_row (next before) (or_zero (seq_of_serial before r.serial)) r) (λ r. refl) (removal_of entry.act))

-- the numbers of the releases rise, none above the length of the book
pub release_rows-rising : (book : List Entry) → list_all has_shape book ≡ true → IsRising (λ (row : ReleaseRow). row.seq) 1 (release_rows book) (length book + 1)
unfolding by_number
release_rows-rising = from_one (λ (row : ReleaseRow). row.seq) by_number (λ before entry. releases_by before entry.act)
    (λ before entry _. one_rises (λ (row : ReleaseRow). row.seq) (next before) (λ (r : Release). release_row (next before) (or_zero (seq_of_item before (item_of_place r.place))) r) (λ r. refl) (release_of entry.act))

-- the numbers of the deferrals rise, none above the length of the book
pub deferral_rows-rising : (book : List Entry) → list_all has_shape book ≡ true → IsRising (λ (row : DeferralRow). row.seq) 1 (deferral_rows book) (length book + 1)
unfolding by_number
deferral_rows-rising = from_one (λ (row : DeferralRow). row.seq) by_number (λ before entry. deferrals_by before entry.act)
    (λ before entry _. one_rises (λ (row : DeferralRow). row.seq) (next before) (λ (d : Deferral). deferral_row (next before) (or_zero (seq_of_tail before d.tail)) d) (λ d. refl) (deferral_of entry.act))

-- the numbers of the extensions rise, none above the length of the book
pub extension_rows-rising : (book : List Entry) → list_all has_shape book ≡ true → IsRising (λ (row : ExtensionRow). row.seq) 1 (extension_rows book) (length book + 1)
unfolding by_number
extension_rows-rising = from_one (λ (row : ExtensionRow). row.seq) by_number (λ before entry. extensions_by before entry.act)
    (λ before entry _. one_rises (λ (row : ExtensionRow). row.seq) (next before) (λ (x : Extension). extension_row (next before) (or_zero (seq_of_defect before x.defect)) x) (λ x. refl) (extension_of entry.act))

by_line : ℕ → ℕ
by_line n = n * 2 ^ 32

rising-lower : {Row : Type 0} (key : Row → ℕ) (low more high : ℕ) (xs : List Row) → low ≤ more → IsRising key more xs high → IsRising key low xs high
rising-lower key low more high [] h up = omega arith
rising-lower key low more high (x ∷ xs) h up = (omega arith, up.1)

module _ {X Row : Type 0} (key : Row → ℕ) (row_of : List Entry → ℕ → ℕ → X → Row) (same : (before : List Entry) (seq line : ℕ) (x : X) → key (row_of before seq line x) ≡ line_key seq line) where
  -- the rows of one entry rise by their lines
  lines_rise : (before : List Entry) (seq line : ℕ) (xs : List X) → line + length xs ≤ 2 ^ 32 → IsRising key (seq * 2 ^ 32 + line) (lines_from (row_of before) seq line xs) ((seq + 1) * 2 ^ 32)
  lines_rise before seq line [] h = omega arith
  lines_rise before seq line (x ∷ xs) h =
      let here : key (row_of before seq line x) ≡ seq * 2 ^ 32 + line = same before seq line x in
      let next_line : seq * 2 ^ 32 + (line + 1) ≡ key (row_of before seq line x) + 1 = omega arith in
      (omega arith, subst (λ n. IsRising key n (lines_from (row_of before) seq (line + 1) xs) ((seq + 1) * 2 ^ 32)) next_line (lines_rise before seq (line + 1) xs (omega arith)))

  -- the rows of all entries rise by the numbers of the entries and then by their lines
  lines-rising : (things : Act → List X) → ((doc : List ℕ) (act : Act) → has_shape (record { doc = doc; act = act }) ≡ true → length (things act) ≤ 500)
      → (book : List Entry) → list_all has_shape book ≡ true → IsRising key (1 * 2 ^ 32) (gives_by (λ before act. lines_from (row_of before) (next before) 1 (things act)) [] book) ((length book + 1) * 2 ^ 32)
  unfolding by_line
  lines-rising things few = from_one key by_line (λ before entry. lines_from (row_of before) (next before) 1 (things entry.act))
      (λ before entry shape. let most = few entry.doc entry.act shape in
      rising-lower key (next before * 2 ^ 32) (next before * 2 ^ 32 + 1) ((next before + 1) * 2 ^ 32) (lines_from (row_of before) (next before) 1 (things entry.act)) (omega arith)
      (lines_rise before (next before) 1 (things entry.act) (omega arith)))

few_positions : (positions : List (List ℕ × List ℕ)) → positions_shape positions ≡ true → length positions ≤ 500
few_positions positions h = let few = (both_true (nat_le (length positions) 40) _ h).0 in grind (arith, nat_tests)

positions_few : (doc : List ℕ) (act : Act) → has_shape (record { doc = doc; act = act }) ≡ true → length (positions_of act) ≤ 500
positions_few doc (Added a positions) h =
    let shape = both_true (act_shape (Added a positions)) (doc_shape doc (Added a positions)) h in
    few_positions positions (both_true (opening_shape a.birth a.opening a.as_of) (positions_shape positions) shape.0).1
positions_few doc _ h = omega arith

-- the positions of all aircraft rise by the numbers of their entries and then by their lines
pub place_rows-rising : (book : List Entry) → list_all has_shape book ≡ true → IsRising place_key (1 * 2 ^ 32) (place_rows book) ((length book + 1) * 2 ^ 32)
place_rows-rising = lines-rising place_key (λ _. place_row) (λ _ seq line p. refl) positions_of positions_few

-- the tasks of all programmes rise by the numbers of their entries and then by their lines
pub task_rows-rising : (book : List Entry) → list_all has_shape book ≡ true → IsRising task_key (1 * 2 ^ 32) (task_rows book) ((length book + 1) * 2 ^ 32)
task_rows-rising = lines-rising task_key (λ _. task_row) (λ _ seq line t. refl) tasks_of tasks_few

-- the lines of all releases rise by the numbers of their entries and then by their lines
pub release_line_rows-rising : (book : List Entry) → list_all has_shape book ≡ true → IsRising release_line_key (1 * 2 ^ 32) (release_line_rows book) ((length book + 1) * 2 ^ 32)
release_line_rows-rising = lines-rising release_line_key release_line_row key_of_line lines_of lines_few_enough
