-- What the rows of a command are: all with one number, the same in a longer book, and those of no other command of the kind.
use Rattle.std.proofs.Common.{◌≡◌, ℕ, ◌+◌, List, [], ◌∷◌, ◌++◌, true, Option, Some, None, refl, ap, ap₂, ◌∙◌}
use Rattle.std.specs.Prelude.{is_some, ⊤}
use Rattle.std.specs.List.{AllByRecursion}
use Rattle.mx_book.specs.commands.Act.{Act, Entry, Opened, Flown, Fitted, Removed, Released, Deferred, Extended, aircraft_of, positions_of, component_of, programme_of, tasks_of, opening_of, sector_of, fitting_of, removal_of, release_of, lines_of, deferral_of, extension_of}
use Rattle.mx_book.specs.declared.commands.opening.Opening.{Opening}
use Rattle.mx_book.specs.declared.commands.sector.Sector.{Sector}
use Rattle.mx_book.specs.declared.commands.fitting.Fitting.{Fitting}
use Rattle.mx_book.specs.declared.commands.fitting.Removal.{Removal}
use Rattle.mx_book.specs.declared.commands.release.Release.{Release}
use Rattle.mx_book.specs.declared.commands.release.Line.{Line}
use Rattle.mx_book.specs.declared.commands.release.Line.TheVariants.{Done, Rectified}
use Rattle.mx_book.specs.declared.commands.deferral.Deferral.{Deferral}
use Rattle.mx_book.specs.declared.commands.deferral.Extension.{Extension}
use Rattle.mx_book.specs.Book.{is_new}
use Rattle.mx_book.specs.Judge.{judge, item_at}
use Rattle.mx_registers.specs.Lines.{lines_from}
use Rattle.mx_registers.specs.Names.{or_zero, seq_of_tail, seq_of_serial, seq_of_defect, seq_of_item, tail_added, serial_added, defect_deferred}
use Rattle.mx_registers.specs.Registers.{if_any, aircraft_row, place_row, component_row, programme_row, task_row, opening_row, sector_row, fitting_row, removal_row, release_row, release_line_row, deferral_row, extension_row}
use Rattle.mx_base.specs.declared.rows.rows.ReleaseLineRow.{ReleaseLineRow}
use Rattle.mx_registers.proofs.NewLemmas.{flown_is_known, fitted_is_known, removed_is_known, deferred_is_known, extended_is_known, opened_is_known, released_is_known, HasLines}
use Rattle.mx_registers.proofs.ReleaseLemmas.{entry_of_line}
use Rattle.mx_row_rules.specs.found.Given.{seq_of_line, Register, aircraft, places, components, programmes, tasks, openings, sectors, fittings, removals, releases, release_lines, deferrals, extensions}
use Rattle.mx_row_rules.proofs.FoundProofs.NumberLemmas.{stays, tail_there, serial_there, defect_there, item_there, item_stays}

-- ── the things that a command names have numbers ──

abbrev pub HaveNumbers : List Entry → List Line → Type 0
HaveNumbers book lines = AllByRecursion (λ line. is_some (seq_of_line book line) ≡ true) lines

abbrev pub Named : List Entry → Act → Type 0
Named book (Opened o) = is_some (seq_of_item book o.item) ≡ true
Named book (Flown s) = is_some (seq_of_tail book s.tail) ≡ true
Named book (Fitted f) = (is_some (seq_of_serial book f.serial) ≡ true) × (is_some (seq_of_tail book f.tail) ≡ true)
Named book (Removed r) = is_some (seq_of_serial book r.serial) ≡ true
Named book (Released r lines) = (is_some (seq_of_item book (item_at r.place)) ≡ true) × HaveNumbers book lines
Named book (Deferred d) = is_some (seq_of_tail book d.tail) ≡ true
Named book (Extended x) = is_some (seq_of_defect book x.defect) ≡ true
Named book _ = ⊤

lines_there : (book : List Entry) (lines : List Line) → HasLines book lines → HaveNumbers book lines
lines_there book [] h = tt
lines_there book (Done item task ∷ lines) h = (item_there book item h.0, lines_there book lines h.1)
lines_there book (Rectified doc ∷ lines) h = (defect_there book doc h.0, lines_there book lines h.1)

-- those of a command that is new
pub named : (book : List Entry) (doc : List ℕ) (act : Act) → is_new (judge book (record { doc = doc; act = act })) ≡ true → Named book act
named book doc (Opened o) new = item_there book o.item (opened_is_known book doc o new)
named book doc (Flown s) new = tail_there book s.tail (flown_is_known book doc s new)
named book doc (Fitted f) new = let known = fitted_is_known book doc f new in (serial_there book f.serial known.1, tail_there book f.tail known.0)
named book doc (Removed r) new = serial_there book r.serial (removed_is_known book doc r new)
named book doc (Released r lines) new = let known = released_is_known book doc r lines new in (item_there book (item_at r.place) known.0, lines_there book lines known.1)
named book doc (Deferred d) new = tail_there book d.tail (deferred_is_known book doc d new)
named book doc (Extended x) new = defect_there book x.defect (extended_is_known book doc x new)
named book doc _ new = tt

line_stays : (before more : List Entry) (line : Line) → is_some (seq_of_line before line) ≡ true → seq_of_line (before ++ more) line ≡ seq_of_line before line
line_stays before more (Done item task) h = item_stays before more item h
line_stays before more (Rectified doc) h = stays defect_deferred before more doc h

lines_stay : (before more : List Entry) (lines : List Line) → HaveNumbers before lines → HaveNumbers (before ++ more) lines
lines_stay before more [] h = tt
lines_stay before more (line ∷ lines) h = (ap is_some (line_stays before more line h.0) ∙ h.0, lines_stay before more lines h.1)

-- they have them in a longer book
pub named_stays : (before more : List Entry) (act : Act) → Named before act → Named (before ++ more) act
named_stays before more (Opened o) h = ap is_some (item_stays before more o.item h) ∙ h
named_stays before more (Flown s) h = ap is_some (stays tail_added before more s.tail h) ∙ h
named_stays before more (Fitted f) h = (ap is_some (stays serial_added before more f.serial h.0) ∙ h.0, ap is_some (stays tail_added before more f.tail h.1) ∙ h.1)
named_stays before more (Removed r) h = ap is_some (stays serial_added before more r.serial h) ∙ h
named_stays before more (Released r lines) h = (ap is_some (item_stays before more (item_at r.place) h.0) ∙ h.0, lines_stay before more lines h.1)
named_stays before more (Deferred d) h = ap is_some (stays tail_added before more d.tail h) ∙ h
named_stays before more (Extended x) h = ap is_some (stays defect_deferred before more x.defect h) ∙ h
named_stays before more _ h = tt

-- ── each register ──

-- the rows of a command all have its number, and are the same in a longer book
pub record IsRegister {Row : Type 0} (register : Register Row) : Type 0 where
  pub numbered : (n : ℕ) (book : List Entry) (act : Act) → AllByRecursion (λ row. register.seq row ≡ n) (register.given n book act)
  pub kept : (n : ℕ) (before more : List Entry) (act : Act) → Named before act → register.given n (before ++ more) act ≡ register.given n before act

one_numbered : {X Row : Type 0} (seq : Row → ℕ) (n : ℕ) (row : X → Row) → ((x : X) → seq (row x) ≡ n) → (o : Option X) → AllByRecursion (λ r. seq r ≡ n) (if_any row o)
one_numbered seq n row same None = tt
one_numbered seq n row same (Some x) = (same x, tt)

lines_numbered : {X Row : Type 0} (seq : Row → ℕ) (n : ℕ) (row : ℕ → ℕ → X → Row) → ((line : ℕ) (x : X) → seq (row n line x) ≡ n) → (line : ℕ) (xs : List X) → AllByRecursion (λ r. seq r ≡ n) (lines_from row n line xs)
lines_numbered seq n row same line [] = tt
lines_numbered seq n row same line (x ∷ xs) = (same line x, lines_numbered seq n row same (line + 1) xs)

pub aircraft_law : IsRegister aircraft
aircraft_law = record { numbered = λ n book act. one_numbered aircraft.seq n (aircraft_row n) (λ _. refl) (aircraft_of act); kept = λ n before more act h. refl }

pub places_law : IsRegister places
places_law = record { numbered = λ n book act. lines_numbered places.seq n place_row (λ _ _. refl) 1 (positions_of act); kept = λ n before more act h. refl }

pub components_law : IsRegister components
components_law = record { numbered = λ n book act. one_numbered components.seq n (component_row n) (λ _. refl) (component_of act); kept = λ n before more act h. refl }

pub programmes_law : IsRegister programmes
programmes_law = record { numbered = λ n book act. one_numbered programmes.seq n (programme_row n) (λ _. refl) (programme_of act); kept = λ n before more act h. refl }

pub tasks_law : IsRegister tasks
tasks_law = record { numbered = λ n book act. lines_numbered tasks.seq n task_row (λ _ _. refl) 1 (tasks_of act); kept = λ n before more act h. refl }

openings_kept : (n : ℕ) (before more : List Entry) (act : Act) → Named before act → openings.given n (before ++ more) act ≡ openings.given n before act
openings_kept n before more (Opened o) h = ap (λ m. opening_row n (or_zero m) o ∷ []) (item_stays before more o.item h)
openings_kept n before more _ h = refl

pub openings_law : IsRegister openings
openings_law = record { numbered = λ n book act. one_numbered openings.seq n (λ (o : Opening). opening_row n (or_zero (seq_of_item book o.item)) o) (λ _. refl) (opening_of act); kept = openings_kept }

sectors_kept : (n : ℕ) (before more : List Entry) (act : Act) → Named before act → sectors.given n (before ++ more) act ≡ sectors.given n before act
sectors_kept n before more (Flown s) h = ap (λ m. sector_row n (or_zero m) s ∷ []) (stays tail_added before more s.tail h)
sectors_kept n before more _ h = refl

pub sectors_law : IsRegister sectors
sectors_law = record { numbered = λ n book act. one_numbered sectors.seq n (λ (s : Sector). sector_row n (or_zero (seq_of_tail book s.tail)) s) (λ _. refl) (sector_of act); kept = sectors_kept }

fittings_kept : (n : ℕ) (before more : List Entry) (act : Act) → Named before act → fittings.given n (before ++ more) act ≡ fittings.given n before act
fittings_kept n before more (Fitted f) h = ap₂ (λ m k. fitting_row n (or_zero m) (or_zero k) f ∷ []) (stays serial_added before more f.serial h.0) (stays tail_added before more f.tail h.1)
fittings_kept n before more _ h = refl

pub fittings_law : IsRegister fittings
fittings_law = record { numbered = λ n book act. one_numbered fittings.seq n (λ (f : Fitting). fitting_row n (or_zero (seq_of_serial book f.serial)) (or_zero (seq_of_tail book f.tail)) f) (λ _. refl) (fitting_of act); kept = fittings_kept }

removals_kept : (n : ℕ) (before more : List Entry) (act : Act) → Named before act → removals.given n (before ++ more) act ≡ removals.given n before act
removals_kept n before more (Removed r) h = ap (λ m. removal_row n (or_zero m) r ∷ []) (stays serial_added before more r.serial h)
removals_kept n before more _ h = refl

pub removals_law : IsRegister removals
removals_law = record { numbered = λ n book act. one_numbered removals.seq n (λ (r : Removal). removal_row n (or_zero (seq_of_serial book r.serial)) r) (λ _. refl) (removal_of act); kept = removals_kept }

releases_kept : (n : ℕ) (before more : List Entry) (act : Act) → Named before act → releases.given n (before ++ more) act ≡ releases.given n before act
releases_kept n before more (Released r lines) h = ap (λ m. release_row n (or_zero m) r ∷ []) (item_stays before more (item_at r.place) h.0)
releases_kept n before more _ h = refl

pub releases_law : IsRegister releases
releases_law = record { numbered = λ n book act. one_numbered releases.seq n (λ (r : Release). release_row n (or_zero (seq_of_item book (item_at r.place))) r) (λ _. refl) (release_of act); kept = releases_kept }

abbrev row_with : ℕ → ℕ → Option ℕ → Option (List ℕ) → Option ℕ → ReleaseLineRow
row_with seq line item task defect = record { seq = seq; line = line; item = item; task = task; defect = defect }

line_kept : (before more : List Entry) (n line : ℕ) (x : Line) → is_some (seq_of_line before x) ≡ true → release_line_row (before ++ more) n line x ≡ release_line_row before n line x
line_kept before more n line (Done item task) h = ap (λ m. row_with n line (Some (or_zero m)) (Some task) None) (item_stays before more item h)
line_kept before more n line (Rectified doc) h = ap (λ m. row_with n line None None (Some (or_zero m))) (stays defect_deferred before more doc h)

lines_kept : (before more : List Entry) (n line : ℕ) (xs : List Line) → HaveNumbers before xs → lines_from (release_line_row (before ++ more)) n line xs ≡ lines_from (release_line_row before) n line xs
lines_kept before more n line [] h = refl
lines_kept before more n line (x ∷ xs) h = ap₂ ◌∷◌ (line_kept before more n line x h.0) (lines_kept before more n (line + 1) xs h.1)

release_lines_kept : (n : ℕ) (before more : List Entry) (act : Act) → Named before act → release_lines.given n (before ++ more) act ≡ release_lines.given n before act
release_lines_kept n before more (Released r lines) h = lines_kept before more n 1 lines h.1
release_lines_kept n before more _ h = refl

pub release_lines_law : IsRegister release_lines
release_lines_law = record { numbered = λ n book act. lines_numbered release_lines.seq n (release_line_row book) (λ line x. entry_of_line book n line x) 1 (lines_of act); kept = release_lines_kept }

deferrals_kept : (n : ℕ) (before more : List Entry) (act : Act) → Named before act → deferrals.given n (before ++ more) act ≡ deferrals.given n before act
deferrals_kept n before more (Deferred d) h = ap (λ m. deferral_row n (or_zero m) d ∷ []) (stays tail_added before more d.tail h)
deferrals_kept n before more _ h = refl

pub deferrals_law : IsRegister deferrals
deferrals_law = record { numbered = λ n book act. one_numbered deferrals.seq n (λ (d : Deferral). deferral_row n (or_zero (seq_of_tail book d.tail)) d) (λ _. refl) (deferral_of act); kept = deferrals_kept }

extensions_kept : (n : ℕ) (before more : List Entry) (act : Act) → Named before act → extensions.given n (before ++ more) act ≡ extensions.given n before act
extensions_kept n before more (Extended x) h = ap (λ m. extension_row n (or_zero m) x ∷ []) (stays defect_deferred before more x.defect h)
extensions_kept n before more _ h = refl

pub extensions_law : IsRegister extensions
extensions_law = record { numbered = λ n book act. one_numbered extensions.seq n (λ (x : Extension). extension_row n (or_zero (seq_of_defect book x.defect)) x) (λ _. refl) (extension_of act); kept = extensions_kept }
