-- A release, its lines and their rows: each says the other, behind the entries that added the items and deferred the defects.
use Rattle.std.proofs.Common.{◌≡◌, ℕ, ◌≤◌, List, [], ◌∷◌, length, true, Option, Some, None, refl, ap, ◌∙◌, arith}
use Rattle.std.specs.List.{AllByRecursion}
use Rattle.std.specs.Option.{option_and_then, option_map}
use Rattle.mx_book.specs.commands.Act.{Act, Entry, lines_of}
use Rattle.mx_book.specs.commands.Shape.{has_shape}
use Rattle.mx_book.specs.declared.commands.item.Item.{Item}
use Rattle.mx_book.specs.declared.commands.item.Item.TheVariants as items
use Rattle.mx_book.specs.declared.commands.release.Line.{Line}
use Rattle.mx_book.specs.declared.commands.release.Line.TheVariants.{Done, Rectified}
use Rattle.mx_book.specs.declared.commands.release.Place.{Place}
use Rattle.mx_book.specs.declared.commands.release.Place.TheVariants.{Aircraft, Shop}
use Rattle.mx_book.proofs.CommandsProofs.ShapeLemmas.{lines_few}
use Rattle.mx_book.specs.Book.{is_book_from}
use Rattle.mx_book.specs.Judge.{item_at as item_of_place}
use Rattle.mx_base.specs.declared.rows.rows.ReleaseRow.{ReleaseRow}
use Rattle.mx_base.specs.declared.rows.rows.ReleaseLineRow.{ReleaseLineRow}
use Rattle.mx_base.specs.rows.Rows.{line_key, release_line_key}
use Rattle.mx_registers.specs.Names.{item_at, defect_at, seq_of_item, or_zero, has_item}
use Rattle.mx_registers.specs.Registers.{kind_in_shop, release_line_row}
use Rattle.mx_registers.specs.Merge.{place_of, place_said, line_of, lines_of_release}
use Rattle.mx_registers.proofs.NameLemmas.{item_known, item_number, defect_known, defect_number}
use Rattle.mx_registers.proofs.NewLemmas.{has_line, HasLines}
use Rattle.mx_registers.proofs.TakeLemmas.{AreOnLines, AreOfLines, IsSaid, same_some}

-- ── places ──

-- the place that a release's kind and item say is its own
pub place_again : (place : Place) → place_of (kind_in_shop place) (item_of_place place) ≡ Some place
place_again (Aircraft tail) = refl
place_again (Shop serial kind) = refl

-- a place whose item the book has is said by its kind and the entry that added the item
pub place_known : (book : List Entry) (place : Place) → has_item book (item_of_place place) ≡ true
    → option_and_then (place_of (kind_in_shop place)) (item_at book (or_zero (seq_of_item book (item_of_place place)))) ≡ Some place
place_known book place h = ap (option_and_then (place_of (kind_in_shop place))) (item_known book (item_of_place place) h) ∙ place_again place

-- the kind and the item that say a place are its own
place_has : (kind : Option (List ℕ)) (item : Item) (place : Place) → place_of kind item ≡ Some place → (kind ≡ kind_in_shop place) × (item ≡ item_of_place place)
place_has None (items.Airframe tail) place h = let same : Aircraft tail ≡ place = same_some h in (ap kind_in_shop same, ap item_of_place same)
place_has None (items.Component serial) place h = (cc)
place_has (Some kind) (items.Airframe tail) place h = (cc)
place_has (Some kind) (items.Component serial) place h = let same : Shop serial kind ≡ place = same_some h in (ap kind_in_shop same, ap item_of_place same)

number_if : (book : List Entry) (kind : Option (List ℕ)) (seq : ℕ) (o : Option Item) (place : Place) → is_book_from [] book ≡ true → item_at book seq ≡ o → option_and_then (place_of kind) o ≡ Some place
    → (kind ≡ kind_in_shop place) × (seq ≡ or_zero (seq_of_item book (item_of_place place)))
number_if book kind seq None place judged is h = (cc)
number_if book kind seq (Some item) place judged is h =
    let has = place_has kind item place h in
    (has.0, item_number book item seq judged is ∙ ap (λ (i : Item). or_zero (seq_of_item book i)) has.1)

-- in a book the row that says a place has its kind, and the number of the entry that added its item
pub place_number : (book : List Entry) (row : ReleaseRow) (place : Place) → is_book_from [] book ≡ true → place_said book row ≡ Some place
    → (row.kind ≡ kind_in_shop place) × (row.item ≡ or_zero (seq_of_item book (item_of_place place)))
place_number book row place judged h = number_if book row.kind row.item (item_at book row.item) place judged refl h

-- ── lines ──

pub entry_of_line : (book : List Entry) (seq line : ℕ) (x : Line) → (release_line_row book seq line x).seq ≡ seq
entry_of_line book seq line (Done item task) = refl
entry_of_line book seq line (Rectified doc) = refl

line_of_line : (book : List Entry) (seq line : ℕ) (x : Line) → (release_line_row book seq line x).line ≡ line
line_of_line book seq line (Done item task) = refl
line_of_line book seq line (Rectified doc) = refl

pub lines_on_lines : (book : List Entry) → AreOnLines (lines_of_release book) (release_line_row book)
lines_on_lines book = record { entry_is = entry_of_line book; line_is = line_of_line book }

-- the place of a line's row among all is that of its entry and its line
pub key_of_line : (book : List Entry) (seq line : ℕ) (x : Line) → release_line_key (release_line_row book seq line x) ≡ line_key seq line
key_of_line book seq line (Done item task) = refl
key_of_line book seq line (Rectified doc) = refl

-- the row with these columns
abbrev row_with : ℕ → ℕ → Option ℕ → Option (List ℕ) → Option ℕ → ReleaseLineRow
row_with seq line item task defect = record { seq = seq; line = line; item = item; task = task; defect = defect }

done_if : (book : List Entry) (seq line item : ℕ) (task : List ℕ) (o : Option Item) (x : Line) → is_book_from [] book ≡ true → item_at book item ≡ o → option_map (λ i. Done i task) o ≡ Some x
    → row_with seq line (Some item) (Some task) None ≡ release_line_row book seq line x
done_if book seq line item task None x judged is h = (cc)
done_if book seq line item task (Some i) x judged is h =
    let same : Done i task ≡ x = same_some h in
    ap (λ (n : ℕ). row_with seq line (Some n) (Some task) None) (item_number book i item judged is) ∙ ap (release_line_row book seq line) same

rectified_if : (book : List Entry) (seq line defect : ℕ) (o : Option (List ℕ)) (x : Line) → is_book_from [] book ≡ true → defect_at book defect ≡ o → option_map Rectified o ≡ Some x
    → row_with seq line None None (Some defect) ≡ release_line_row book seq line x
rectified_if book seq line defect None x judged is h = (cc)
rectified_if book seq line defect (Some doc) x judged is h =
    let same : Rectified doc ≡ x = same_some h in
    ap (λ (n : ℕ). row_with seq line None None (Some n)) (defect_number book doc defect judged is) ∙ ap (release_line_row book seq line) same

row_of_line : (book : List Entry) (seq line : ℕ) (item : Option ℕ) (task : Option (List ℕ)) (defect : Option ℕ) (x : Line) → is_book_from [] book ≡ true → line_of book item task defect ≡ Some x
    → row_with seq line item task defect ≡ release_line_row book seq line x
row_of_line book seq line (Some item) (Some task) None x judged h = done_if book seq line item task (item_at book item) x judged refl h
row_of_line book seq line None None (Some defect) x judged h = rectified_if book seq line defect (defect_at book defect) x judged refl h
row_of_line book seq line _ _ _ x judged h = (cc)

pub lines_of_rows : (book : List Entry) → is_book_from [] book ≡ true → AreOfLines (lines_of_release book) (release_line_row book)
lines_of_rows book judged = record { row_is = λ row x said. row_of_line book row.seq row.line row.item row.task row.defect x judged said }

line_again : (book : List Entry) (x : Line) → has_line book x ≡ true → IsSaid (lines_of_release book) (release_line_row book) x
line_again book (Done item task) h seq line = ap (option_map (λ (i : Item). Done i task)) (item_known book item h)
line_again book (Rectified doc) h seq line = ap (option_map (λ (d : List ℕ). Rectified d)) (defect_known book doc h)

-- the rows of lines whose items and defects the book has say them
pub lines_said : (book : List Entry) (lines : List Line) → HasLines book lines → AllByRecursion (IsSaid (lines_of_release book) (release_line_row book)) lines
lines_said book [] h = tt
lines_said book (x ∷ lines) h = (line_again book x h.0, lines_said book lines h.1)

-- an entry has at most 500 lines
pub lines_few_enough : (doc : List ℕ) (act : Act) → has_shape (record { doc = doc; act = act }) ≡ true → length (lines_of act) ≤ 500
lines_few_enough doc act h = let few = lines_few doc act h in omega arith
