-- What the rows of an entry say of a command, and for which of them which table is told damaged.
use Rattle.std.specs.Prelude.{◌≡◌, ◌↔◌, ◌+◌, ◌&&◌, ℕ, pos, Bool, IsTrue, List, [], ◌∷◌, Option, true, None, Some, Contains}
use Rattle.std.specs.List.{list_any}
use Rattle.std.specs.Option.{option_map}
use Rattle.sqlite.specs.declared.types.Value.TheVariants.{Int, Text}
use Rattle.sqlite.specs.Tree.{Trees}
use Rattle.mx_book.specs.commands.Act.{Act, Entry, Added, Listed, Loaded, Opened, Flown, Fitted, Removed, Released, Deferred, Extended}
use Rattle.mx_book.specs.commands.Shape.{has_shape}
use Rattle.mx_book.specs.declared.commands.fitting.Fitting.{Fitting}
use Rattle.mx_book.specs.declared.commands.fitting.Removal.{Removal}
use Rattle.mx_book.specs.declared.commands.release.Line.{Line}
use Rattle.mx_book.specs.declared.commands.release.Line.TheVariants.{Done, Rectified}
use Rattle.mx_book.specs.declared.commands.sector.Sector.{Sector}
use Rattle.mx_book.specs.Asking.{known_same}
use Rattle.mx_book.specs.Judge.{item_at, known_from}
use Rattle.mx_registers.specs.Lines.{lines_from}
use Rattle.mx_registers.specs.Names.{or_zero}
use Rattle.mx_registers.specs.Registers.{aircraft_row, component_row, deferral_row, extension_row, opening_row, place_row, programme_row, release_row, sector_row, task_row}
use Rattle.mx_base.specs.declared.rows.rows.ReleaseLineRow.{ReleaseLineRow}
use Rattle.mx_registers.specs.kept.Changes.{entry_of}
use Rattle.mx_layout.specs.kept.Cells.{kept_aircraft, kept_component, kept_crs, kept_crs_line, kept_defect, kept_entry, kept_extension, kept_opening, kept_place, kept_programme, kept_sector2, kept_span2, kept_task}
use Rattle.mx_layout.specs.kept.Kept.{Kept}
use Rattle.mx_table_rows.specs.chosen.Choices.{has_value}
use Rattle.mx_row_rules.specs.found.Given.{Register, found, line_row}
use Rattle.mx_row_rules.specs.found.Names.{entry_number}
use Rattle.mx_row_rules.specs.found.Spans.{begins_with, ends_with}
use Rattle.mx_lookups.specs.numbers.AnyRows.{AreChosen, Gives, GivesBy}
use Rattle.mx_lookups.specs.numbers.Given.{AircraftNumber, ComponentNumber, DefectNumber, ItemNumber}
use Rattle.mx_lookups.specs.numbers.Told.{AircraftDamage, ComponentDamage, Damage, DamageBy, Either, EntryDamage, ItemDamage, Unread}

-- ── of a book ──

-- the answer tells whether the rows of the entry with this number, in one register, are these
abbrev pub TellsRows : {Row : Type 0} → Register Row → ℕ → (List Entry → List Row) → List Entry → Bool → Type 0
TellsRows register n rows book same = IsTrue same ↔ (found register book n ≡ rows book)

-- the answer tells whether the entry with this number says this: a command that says it, of whatever document, is known with this answer where it is known by this number
abbrev pub Tells : ℕ → Act → List Entry → Bool → Type 0
Tells n act book same = (doc : List ℕ) → has_shape (entry_of doc act) ≡ true → option_map (λ (known : ℕ × Entry). known.0) (known_from doc 1 book) ≡ Some n → option_map (known_same (entry_of doc act)) (known_from doc 1 book) ≡ Some (n, same)

-- ── over any rows ──

-- the answer tells whether the rows of a table with this number, in its order, are these
abbrev pub AreRows : {X : Type 0} → Kept X → ℕ → List X → Trees → Bool → Type 0
AreRows {X} k n given trees same = (rows : List X) × AreChosen k None k.order (has_value 0 (Int (pos n))) trees rows × (IsTrue same ↔ (rows ≡ given))

-- the answer is so by the number of what is named, 0 where that is not there
abbrev pub ByNumber : (Trees → Option ℕ → Type 0) → (ℕ → Trees → Bool → Type 0) → Trees → Bool → Type 0
ByNumber Number Is trees same = (number : Option ℕ) × Number trees number × Is (or_zero number) trees same

-- the answer tells whether both are so
abbrev pub InBoth : (Trees → Bool → Type 0) → (Trees → Bool → Type 0) → Trees → Bool → Type 0
InBoth One Two trees same = (one : Bool) × (two : Bool) × One trees one × Two trees two × (same ≡ (one && two))

-- the number of what a line is of: of the item that a task was done on, or of the defect that was rectified
abbrev pub LineNumber : Line → Trees → Option ℕ → Type 0
LineNumber (Done item id) = ItemNumber item
LineNumber (Rectified doc) = DefectNumber doc

-- the row that a line would have, on this line of the release with this number, by the number of what it is of
abbrev pub LineRow : ℕ → ℕ → Line → Trees → ReleaseLineRow → Type 0
LineRow n line certified trees row = (number : Option ℕ) × LineNumber certified trees number × (row ≡ line_row n line (or_zero number) certified)

-- the rows that these lines would have, from this line on
abbrev pub LineRows : ℕ → ℕ → List Line → Trees → List ReleaseLineRow → Type 0
LineRows n line [] trees rows = rows ≡ []
LineRows n line (certified ∷ lines) trees rows = (row : ReleaseLineRow) × (later : List ReleaseLineRow) × LineRow n line certified trees row × LineRows n (line + 1) lines trees later × (rows ≡ row ∷ later)

-- the answer tells whether the rows of lines with this number are those
abbrev pub AreLines : ℕ → List Line → Trees → Bool → Type 0
AreLines n lines trees same = (rows : List ReleaseLineRow) × LineRows n 1 lines trees rows × AreRows kept_crs_line n rows trees same

-- the answer tells whether this is the row of the sector with this number, of the aircraft with another
abbrev pub IsSector : ℕ → Sector → ℕ → Trees → Bool → Type 0
IsSector n sector aircraft = AreRows kept_sector2 n (sector_row n aircraft sector ∷ [])

-- the answer tells whether a span that the entry with this number began has the fitting, of the component and the aircraft with these
abbrev pub Began : ℕ → Fitting → ℕ → ℕ → Trees → Bool → Type 0
Began n fitting component aircraft = Gives kept_span2 (has_value 0 (Int (pos n))) (list_any (begins_with n component aircraft fitting))

-- the answer tells whether a span that the entry with this number ended has the removal, of the component with another
abbrev pub Ended : ℕ → Removal → ℕ → Trees → Bool → Type 0
Ended n removal component = Gives kept_span2 (has_value 5 (Int (pos n))) (list_any (ends_with n component removal))

-- the answer tells whether the rows with this number, in each table of what is said, are those that it would have with it: of a fitting or a removal, whether a span that it began or ended has it
abbrev pub Says : ℕ → Act → Trees → Bool → Type 0
Says n (Added aircraft positions) = InBoth (AreRows kept_aircraft n (aircraft_row n aircraft ∷ [])) (AreRows kept_place n (lines_from place_row n 1 positions))
Says n (Listed component) = AreRows kept_component n (component_row n component ∷ [])
Says n (Loaded programme tasks) = InBoth (AreRows kept_programme n (programme_row n programme ∷ [])) (AreRows kept_task n (lines_from task_row n 1 tasks))
Says n (Opened opening) = ByNumber (ItemNumber opening.item) (λ item. AreRows kept_opening n (opening_row n item opening ∷ []))
Says n (Flown sector) = ByNumber (AircraftNumber sector.tail) (IsSector n sector)
Says n (Fitted fitting) = ByNumber (ComponentNumber fitting.serial) (λ component. ByNumber (AircraftNumber fitting.tail) (Began n fitting component))
Says n (Removed removal) = ByNumber (ComponentNumber removal.serial) (Ended n removal)
Says n (Released release lines) = InBoth (ByNumber (ItemNumber (item_at release.place)) (λ item. AreRows kept_crs n (release_row n item release ∷ []))) (AreLines n lines)
Says n (Deferred deferral) = ByNumber (AircraftNumber deferral.tail) (λ aircraft. AreRows kept_defect n (deferral_row n aircraft deferral ∷ []))
Says n (Extended extension) = ByNumber (DefectNumber extension.defect) (λ defect. AreRows kept_extension n (extension_row n defect extension ∷ []))

-- the number of the entry with the document of a command, and whether its rows say the same; none where no row has the document
abbrev pub KnownAs : Entry → Trees → Option (ℕ × Bool) → Type 0
KnownAs command = GivesBy (Gives kept_entry (has_value 1 (Text command.doc)) entry_number) None (λ n trees known. (same : Bool) × Says n command.act trees same × (known ≡ Some (n, same)))

-- ── what is damaged ──

-- of the rows of the table with this number
abbrev pub RowsDamage : {X : Type 0} → Kept X → ℕ → Damage
RowsDamage k n = Unread k (has_value 0 (Int (pos n)))

-- of what a line is of
abbrev pub LineDamage : Line → Damage
LineDamage (Done item id) = ItemDamage item
LineDamage (Rectified doc) = EntryDamage doc

-- of what one of these lines is of
abbrev pub LinesDamage : List Line → Damage
LinesDamage lines name trees = (line : Line) × Contains lines line × LineDamage line name trees

-- of what is named, and of the rows with this number in each table of what is said
abbrev pub SaysDamage : ℕ → Act → Damage
SaysDamage n (Added aircraft positions) = Either (RowsDamage kept_aircraft n) (RowsDamage kept_place n)
SaysDamage n (Listed component) = RowsDamage kept_component n
SaysDamage n (Loaded programme tasks) = Either (RowsDamage kept_programme n) (RowsDamage kept_task n)
SaysDamage n (Opened opening) = Either (ItemDamage opening.item) (RowsDamage kept_opening n)
SaysDamage n (Flown sector) = Either (AircraftDamage sector.tail) (RowsDamage kept_sector2 n)
SaysDamage n (Fitted fitting) = Either (ComponentDamage fitting.serial) (Either (AircraftDamage fitting.tail) (RowsDamage kept_span2 n))
SaysDamage n (Removed removal) = Either (ComponentDamage removal.serial) (Unread kept_span2 (has_value 5 (Int (pos n))))
SaysDamage n (Released release lines) = Either (Either (ItemDamage (item_at release.place)) (RowsDamage kept_crs n)) (Either (RowsDamage kept_crs_line n) (LinesDamage lines))
SaysDamage n (Deferred deferral) = Either (AircraftDamage deferral.tail) (RowsDamage kept_defect n)
SaysDamage n (Extended extension) = Either (EntryDamage extension.defect) (RowsDamage kept_extension n)

-- of the entry with the document of a command, and of its rows
abbrev pub KnownDamage : Entry → Damage
KnownDamage command = DamageBy (EntryDamage command.doc) (Gives kept_entry (has_value 1 (Text command.doc)) entry_number) (λ n. SaysDamage n command.act)
