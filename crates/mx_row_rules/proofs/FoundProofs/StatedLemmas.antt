-- The rows of an entry of a book state it.
use Rattle.std.proofs.Common.{◌≡◌, ℕ, ◌+◌, zero, suc, List, [], ◌∷◌, map, true, nat_eq, filter, Option, Some, None, refl, ap, ap₂, ◌∙◌}
use Rattle.std.specs.Prelude.{is_some, slice_get, take}
use Rattle.std.specs.List.{AllByRecursion}
use Rattle.std.specs.Option.{option_and_then, option_map, option_map_or}
use Rattle.mx_book.specs.commands.Act.{Act, Entry, Added, Listed, Loaded, Opened, Flown, Fitted, Removed, Released, Deferred, Extended}
use Rattle.mx_book.specs.commands.Shape.{has_shape}
use Rattle.mx_book.specs.declared.commands.item.Item.{Item}
use Rattle.mx_book.specs.declared.commands.item.Item.TheVariants.{Airframe, Component}
use Rattle.mx_book.specs.declared.commands.release.Line.{Line}
use Rattle.mx_book.specs.declared.commands.release.Line.TheVariants.{Done, Rectified}
use Rattle.mx_book.specs.Book.{IsBook, entry_at}
use Rattle.mx_book.specs.Judge.{item_at as item_of_place}
use Rattle.mx_registers.specs.Lines.{lines_from}
use Rattle.mx_registers.specs.Merge.{line_of, line_said, opening_said, sector_said, fitting_said, removal_said, place_of, release_said, deferral_said, extension_said}
use Rattle.mx_registers.specs.Names.{item_added, number_from, said_at, or_zero, tail_added, serial_added, defect_deferred, seq_of_tail, seq_of_serial, seq_of_defect, seq_of_item, item_at, tail_at, serial_at, defect_at}
use Rattle.mx_registers.specs.Registers.{entry_rows, entry_added, entry_row, kind_of, kind_in_shop, next, place_row, task_row, opening_row, sector_row, fitting_row, removal_row, release_row, release_line_row, deferral_row, extension_row}
use Rattle.mx_base.specs.declared.rows.rows.EntryRow.{EntryRow}
use Rattle.mx_base.specs.declared.rows.rows.ReleaseLineRow.{ReleaseLineRow}
use Rattle.mx_registers.proofs.NameLemmas.{said_at-number, airframe_at, component_at}
use Rattle.mx_registers.proofs.ReleaseLemmas.{place_again}
use Rattle.mx_registers.proofs.TakeLemmas.{same_some}
use Rattle.mx_registers.proofs.TaskLemmas.{tasks_said}
use Rattle.mx_row_rules.specs.found.Given.{aircraft, places, components, programmes, tasks, openings, sectors, fittings, removals, releases, release_lines, deferrals, extensions}
use Rattle.mx_row_rules.specs.found.Names.{deferred_doc}
use Rattle.mx_row_rules.specs.found.Stated.{certified_by, certified_in, certified_said, position_said, stated, aircraft_stated, component_stated, programme_stated, opening_stated, sector_stated, fitting_stated, removal_stated, lines_stated, release_stated, deferral_stated, extension_stated}
use Rattle.mx_row_rules.proofs.FoundProofs.RowLemmas.{HaveNumbers, Named, aircraft_law, places_law, components_law, programmes_law, tasks_law, openings_law, sectors_law, fittings_law, removals_law, releases_law, release_lines_law, deferrals_law, extensions_law}
use Rattle.mx_row_rules.proofs.FoundProofs.EntryLemmas.{IsAt, entry_is_at, named_in, rows_found, rows_numbered, shape_at}

-- ── a number that a name has, has the name ──

name_there : (name_of : Entry → Option (List ℕ)) (book : List Entry) (name : List ℕ) (o : Option ℕ) → number_from name_of name 1 book ≡ o → is_some o ≡ true → said_at name_of book (or_zero o) ≡ Some name
name_there name_of book name None is h = absurd cc
name_there name_of book name (Some n) is h = said_at-number name_of book name n is

item_there : (book : List Entry) (item : Item) → is_some (seq_of_item book item) ≡ true → item_at book (or_zero (seq_of_item book item)) ≡ Some item
item_there book (Airframe tail) h = airframe_at (entry_at book (or_zero (seq_of_tail book tail))) tail (name_there tail_added book tail (seq_of_tail book tail) refl h)
item_there book (Component serial) h = component_at (entry_at book (or_zero (seq_of_serial book serial))) serial (name_there serial_added book serial (seq_of_serial book serial) refl h)

-- ── lists ──

-- the rows of things on lines say the things
on_lines : {X Row : Type 0} (row_of : ℕ → ℕ → X → Row) (said : Row → X) (n k : ℕ) (xs : List X) → AllByRecursion (λ x. (seq line : ℕ) → ◌≡◌ {A = Option X} (Some (said (row_of seq line x))) (Some x)) xs → map said (lines_from row_of n k xs) ≡ xs
on_lines row_of said n k [] h = refl
on_lines row_of said n k (x ∷ xs) h = ap₂ ◌∷◌ (same_some (h.0 n k)) (on_lines row_of said n (k + 1) xs h.1)

positions_again : (n k : ℕ) (ps : List (List ℕ × List ℕ)) → map position_said (lines_from place_row n k ps) ≡ ps
positions_again n k [] = refl
positions_again n k (p ∷ ps) = ap (λ l. p ∷ l) (positions_again n (k + 1) ps)

-- a row says the line that certifies what it certifies by number
line_by : (book : List Entry) (item : Option ℕ) (task : Option (List ℕ)) (defect : Option ℕ) → line_of book item task defect ≡ option_and_then (certified_said book) (certified_by item task defect)
line_by book (Some item) (Some task) None = refl
line_by book (Some item) (Some task) (Some defect) = refl
line_by book (Some item) None None = refl
line_by book (Some item) None (Some defect) = refl
line_by book None None (Some defect) = refl
line_by book None None None = refl
line_by book None (Some task) None = refl
line_by book None (Some task) (Some defect) = refl

pub line_certified : (book : List Entry) (row : ReleaseLineRow) → line_said book row ≡ option_and_then (certified_said book) (certified_in row)
line_certified book row = line_by book row.item row.task row.defect

-- rows of lines, in front of what the others say
with_line : (o : Option Line) (p : Option (List Line)) (x : Line) (xs : List Line) → o ≡ Some x → p ≡ Some xs → option_and_then (λ line. option_map (λ lines. line ∷ lines) p) o ≡ Some (x ∷ xs)
with_line o p x xs h k = rw (h, k) refl

lines_again : (book : List Entry) (n k : ℕ) (lines : List Line) → HaveNumbers book lines → lines_stated book (lines_from (release_line_row book) n k lines) ≡ Some lines
lines_again book n k [] h = refl
lines_again book n k (Done item task ∷ lines) h = with_line _ _ (Done item task) lines (ap (option_map (λ i. Done i task)) (item_there book item h.0)) (lines_again book n (k + 1) lines h.1)
lines_again book n k (Rectified doc ∷ lines) h = with_line _ _ (Rectified doc) lines (ap (option_map Rectified) (name_there defect_deferred book doc (seq_of_defect book doc) refl h.0)) (lines_again book n (k + 1) lines h.1)

-- ── an entry ──

-- what is made of two things that are there
both_there : {A B C : Type 0} (f : A → B → C) (o : Option A) (p : Option B) (a : A) (b : B) → o ≡ Some a → p ≡ Some b → option_and_then (λ x. option_map (f x) p) o ≡ Some (f a b)
both_there f o p a b h k = rw (h, k) refl

act_stated : (book : List Entry) (n : ℕ) (doc : List ℕ) (act : Act) → IsAt book n (record { doc = doc; act = act }) → Named book act → has_shape (record { doc = doc; act = act }) ≡ true → stated book n (kind_of act) ≡ Some act
act_stated book n doc (Added a ps) it named shape =
    ap₂ aircraft_stated (rows_found places places_law book n _ it) (rows_found aircraft aircraft_law book n _ it) ∙ ap (λ l. Some (Added a l)) (positions_again n 1 ps)
act_stated book n doc (Listed c) it named shape = ap component_stated (rows_found components components_law book n _ it)
act_stated book n doc (Loaded p ts) it named shape =
    ap₂ programme_stated (rows_found tasks tasks_law book n _ it) (rows_found programmes programmes_law book n _ it) ∙ ap (λ l. Some (Loaded p l)) (on_lines task_row _ n 1 ts (tasks_said doc p ts shape))
act_stated book n doc (Opened o) it named shape =
    let m = or_zero (seq_of_item book o.item) in
    ap (opening_stated book) (rows_found openings openings_law book n _ it) ∙ ap (option_map (opening_said (opening_row n m o))) (item_there book o.item named)
act_stated book n doc (Flown s) it named shape =
    let m = or_zero (seq_of_tail book s.tail) in
    ap (sector_stated book) (rows_found sectors sectors_law book n _ it) ∙ ap (option_map (sector_said (sector_row n m s))) (name_there tail_added book s.tail (seq_of_tail book s.tail) refl named)
act_stated book n doc (Fitted f) it named shape =
    let c = or_zero (seq_of_serial book f.serial) in
    let a = or_zero (seq_of_tail book f.tail) in
    ap (fitting_stated book) (rows_found fittings fittings_law book n _ it)
    ∙ both_there (fitting_said (fitting_row n c a f)) (serial_at book c) (tail_at book a) f.serial f.tail (name_there serial_added book f.serial (seq_of_serial book f.serial) refl named.0) (name_there tail_added book f.tail (seq_of_tail book f.tail) refl named.1)
act_stated book n doc (Removed r) it named shape =
    let c = or_zero (seq_of_serial book r.serial) in
    ap (removal_stated book) (rows_found removals removals_law book n _ it) ∙ ap (option_map (removal_said (removal_row n c r))) (name_there serial_added book r.serial (seq_of_serial book r.serial) refl named)
act_stated book n doc (Released r lines) it named shape =
    let item = item_of_place r.place in
    let m = or_zero (seq_of_item book item) in
    ap₂ (release_stated book) (rows_found release_lines release_lines_law book n _ it) (rows_found releases releases_law book n _ it)
    ∙ both_there (release_said (release_row n m r)) (option_and_then (place_of (kind_in_shop r.place)) (item_at book m)) (lines_stated book (lines_from (release_line_row book) n 1 lines)) r.place lines
    (ap (option_and_then (place_of (kind_in_shop r.place))) (item_there book item named.0) ∙ place_again r.place) (lines_again book n 1 lines named.1)
act_stated book n doc (Deferred d) it named shape =
    let m = or_zero (seq_of_tail book d.tail) in
    ap (deferral_stated book) (rows_found deferrals deferrals_law book n _ it) ∙ ap (option_map (deferral_said (deferral_row n m d))) (name_there tail_added book d.tail (seq_of_tail book d.tail) refl named)
act_stated book n doc (Extended x) it named shape =
    let m = or_zero (seq_of_defect book x.defect) in
    ap (extension_stated book) (rows_found extensions extensions_law book n _ it) ∙ ap (option_map (extension_said (extension_row n m x))) (name_there defect_deferred book x.defect (seq_of_defect book x.defect) refl named)

-- the rows of an entry state what it says
pub entry_stated : (book : List Entry) (n : ℕ) (e : Entry) → IsBook book → entry_at book n ≡ Some e → stated book n (kind_of e.act) ≡ Some e.act
entry_stated book n e b at = let it = entry_is_at book b n e at in act_stated book n e.doc e.act it (named_in book n e it) (shape_at book n e b it)

-- ── entries by number ──

-- what is made of the first row with a number, by the entry with that number
module _ {V : Type 0} (of : EntryRow → Option V) (in_entry : Entry → Option V) (same : (n : ℕ) (doc : List ℕ) (act : Act) → option_and_then of (Some (entry_row n (record { doc = doc; act = act }))) ≡ in_entry (record { doc = doc; act = act })) where
  first_at : (before : List Entry) (o : Option Entry) → option_and_then of (slice_get (option_map_or (λ e. entry_added before e) o []) 0) ≡ option_and_then in_entry o
  first_at before None = refl
  first_at before (Some e) = same (next before) e.doc e.act

  pub first_numbered : (book : List Entry) (n : ℕ) → option_and_then of (slice_get (filter (λ (r : EntryRow). nat_eq r.seq n) (entry_rows book)) 0) ≡ option_and_then in_entry (entry_at book n)
  first_numbered book zero = ap (λ l. option_and_then of (slice_get l 0)) (rows_numbered (λ (r : EntryRow). r.seq) entry_added (λ before e. (refl, tt)) book 0)
  first_numbered book (suc k) = ap (λ l. option_and_then of (slice_get l 0)) (rows_numbered (λ (r : EntryRow). r.seq) entry_added (λ before e. (refl, tt)) book (suc k)) ∙ first_at (take k book) (slice_get book k)

-- its document and its kind
pub doc_numbered : (book : List Entry) (n : ℕ) → option_and_then (λ (r : EntryRow). Some r.doc) (slice_get (filter (λ (r : EntryRow). nat_eq r.seq n) (entry_rows book)) 0) ≡ option_and_then (λ (e : Entry). Some e.doc) (entry_at book n)
doc_numbered = first_numbered (λ r. Some r.doc) (λ e. Some e.doc) (λ n doc act. refl)

pub kind_numbered : (book : List Entry) (n : ℕ) → option_and_then (λ (r : EntryRow). Some r.kind) (slice_get (filter (λ (r : EntryRow). nat_eq r.seq n) (entry_rows book)) 0) ≡ option_and_then (λ (e : Entry). Some (kind_of e.act)) (entry_at book n)
kind_numbered = first_numbered (λ r. Some r.kind) (λ e. Some (kind_of e.act)) (λ n doc act. refl)

deferred_by_act : (n : ℕ) (doc : List ℕ) (act : Act) → deferred_doc (entry_row n (record { doc = doc; act = act }) ∷ []) ≡ defect_deferred (record { doc = doc; act = act })
deferred_by_act n doc (Deferred d) = refl
deferred_by_act n doc _ = refl

deferred_of : (before : List Entry) (o : Option Entry) → deferred_doc (option_map_or (λ e. entry_added before e) o []) ≡ option_and_then defect_deferred o
deferred_of before None = refl
deferred_of before (Some e) = deferred_by_act (next before) e.doc e.act

-- the document of the defect that the entry with a number deferred
pub deferral_numbered : (book : List Entry) (n : ℕ) → deferred_doc (filter (λ (r : EntryRow). nat_eq r.seq n) (entry_rows book)) ≡ defect_at book n
deferral_numbered book zero = ap deferred_doc (rows_numbered (λ (r : EntryRow). r.seq) entry_added (λ before e. (refl, tt)) book 0)
deferral_numbered book (suc k) = ap deferred_doc (rows_numbered (λ (r : EntryRow). r.seq) entry_added (λ before e. (refl, tt)) book (suc k)) ∙ deferred_of (take k book) (slice_get book k)

-- ── items by number ──

neither : (act : Act) (doc : List ℕ) → tail_added (record { doc = doc; act = act }) ≡ None → serial_added (record { doc = doc; act = act }) ≡ None → item_added act ≡ None
neither (Added a ps) doc h k = absurd cc
neither (Listed c) doc h k = absurd cc
neither _ doc h k = refl

neither_at : (o : Option Entry) → option_and_then tail_added o ≡ None → option_and_then serial_added o ≡ None → option_and_then (λ (e : Entry). item_added e.act) o ≡ None
neither_at None h k = refl
neither_at (Some e) h k = neither e.act e.doc h k

pub airframe_numbered : (book : List Entry) (n : ℕ) (tail : List ℕ) → tail_at book n ≡ Some tail → item_at book n ≡ Some (Airframe tail)
airframe_numbered book n tail h = airframe_at (entry_at book n) tail h

pub component_numbered : (book : List Entry) (n : ℕ) (serial : List ℕ) → serial_at book n ≡ Some serial → item_at book n ≡ Some (Component serial)
component_numbered book n serial h = component_at (entry_at book n) serial h

pub no_item_numbered : (book : List Entry) (n : ℕ) → tail_at book n ≡ None → serial_at book n ≡ None → item_at book n ≡ None
no_item_numbered book n h k = neither_at (entry_at book n) h k
