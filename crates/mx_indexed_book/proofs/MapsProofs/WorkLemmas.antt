-- What an entry adds to what was accomplished, and to what was rectified.
use Rattle.std.proofs.Common.{refl, sym, ap, ◌∙◌, ◌≡◌, ℕ, List, [], ◌∷◌, ◌++◌, Bool, true, false, cond, ◌&&◌, ◌||◌, Option, Some, None}
use Rattle.std.specs.List.{cons_option, filter_map, list_any}
use Rattle.std.specs.declared.cmp.Ordering.{Ordering}
use Rattle.std.specs.BTreeMap.{BTreeMap}
use Rattle.std.specs.Ordering.{nat_cmp}
use Rattle.std.specs.Cmp.Lexicographic.{slice_cmp}
use Rattle.std.proofs.lemmas.List.Folds.{list_any-append}
use Rattle.mx_book.specs.commands.Act.{Act, Entry, Opened, Released, lines_of}
use Rattle.mx_book.specs.commands.Same.{same_item, same_text}
use Rattle.mx_book.specs.declared.commands.item.Item.{Item}
use Rattle.mx_book.specs.declared.commands.item.Item.TheVariants.{Airframe, Component}
use Rattle.mx_book.specs.declared.commands.release.Line.{Line}
use Rattle.mx_book.specs.declared.commands.release.Line.TheVariants.{Done, Rectified}
use Rattle.mx_book.specs.Defect.{is_rectified, rectifies}
use Rattle.mx_book.specs.Programme.{accomplishes, is_accomplished, is_done}
use Rattle.mx_indexed_book.specs.maps.Maps.{IsIndex, changed, changed_all, held}
use Rattle.mx_indexed_book.specs.maps.Places.{names_cmp}
use Rattle.mx_indexed_book.specs.maps.Work.{airframe_done, airframe_task, component_done, component_task, keyed, line_defect, line_task, tasks_done}
use Rattle.mx_indexed_book.proofs.MapsProofs.MapLemmas.{tie}
use Rattle.mx_indexed_book.proofs.MapsProofs.PlaceLemmas.{tie_names}

-- where an entry changes the answers of some keys, and the map is changed so, it has the answers behind the entry
pub moves_all : {K V : Type 0} (cmp : K → K → Ordering) (none : V) (answer later : K → V) (old new : BTreeMap K V) (changes said : List (K × V)) → ((key : K) → held cmp none new key ≡ changed_all cmp changes key (held cmp none old key))
    → changes ≡ said → ((key : K) → later key ≡ changed_all cmp said key (answer key)) → IsIndex cmp none answer old → IsIndex cmp none later new
moves_all {K} {V} cmp none answer later old new changes said put is law i key =
    put key ∙ ap (changed_all cmp changes key) (i key) ∙ ap (λ (cs : List (K × V)). changed_all cmp cs key (answer key)) is ∙ sym (law key)

or_swap : (a b c : Bool) → (a || b) || c ≡ b || (a || c)
or_swap true true c = refl
or_swap true false c = refl
or_swap false b c = refl

or_false : (b : Bool) → b || false ≡ b
or_false true = refl
or_false false = refl

if_so : (b v : Bool) → cond b true v ≡ v || b
if_so true true = refl
if_so true false = refl
if_so false true = refl
if_so false false = refl

or_join : (v a b : Bool) → (v || a) || b ≡ v || (a || b)
or_join true a b = refl
or_join false a b = refl

-- of some things, each of which makes one key so or nothing
module _ {X K : Type 0} (cmp : K → K → Ordering) (of_line : X → Option (K × Bool)) (key : K) (is : X → Bool) (one : (line : X) (v : Bool) → changed cmp (of_line line) key v ≡ v || is line) where
  all_lines : (lines : List X) (v : Bool) → changed_all cmp (filter_map of_line lines) key v ≡ v || list_any is lines
  all_lines [] v = sym (or_false v)
  all_lines (line ∷ lines) v = at (of_line line) (one line v) (all_lines lines)
    where
      at : (o : Option (K × Bool)) → changed cmp o key v ≡ v || is line → ((w : Bool) → changed_all cmp (filter_map of_line lines) key w ≡ w || list_any is lines)
          → changed_all cmp (cons_option o (filter_map of_line lines)) key v ≡ v || (is line || list_any is lines)
      at None h rest = rest v ∙ ap (λ b. b || list_any is lines) h ∙ or_join v (is line) (list_any is lines)
      at (Some c) h rest = rest (changed cmp (Some c) key v) ∙ ap (λ b. b || list_any is lines) h ∙ or_join v (is line) (list_any is lines)

-- ── tasks ──

pair_so : (a b : List ℕ × List ℕ) (v : Bool) → changed names_cmp (Some (a, true)) b v ≡ v || (same_text a.0 b.0 && same_text a.1 b.1)
pair_so a b v = ap (λ c. cond c true v) (tie_names a b) ∙ if_so (same_text a.0 b.0 && same_text a.1 b.1) v

airframe_one : (tail id : List ℕ) (done : Item × List ℕ) (v : Bool) → changed names_cmp (keyed airframe_task done) (tail, id) v ≡ v || (same_item done.0 (Airframe tail) && same_text done.1 id)
airframe_one tail id done v = at done.0
  where
    at : (item : Item) → changed names_cmp (keyed airframe_task (item, done.1)) (tail, id) v ≡ v || (same_item item (Airframe tail) && same_text done.1 id)
    at (Airframe t) = pair_so (t, done.1) (tail, id) v
    at (Component s) = sym (or_false v)

component_one : (serial id : List ℕ) (done : Item × List ℕ) (v : Bool) → changed names_cmp (keyed component_task done) (serial, id) v ≡ v || (same_item done.0 (Component serial) && same_text done.1 id)
component_one serial id done v = at done.0
  where
    at : (item : Item) → changed names_cmp (keyed component_task (item, done.1)) (serial, id) v ≡ v || (same_item item (Component serial) && same_text done.1 id)
    at (Airframe t) = sym (or_false v)
    at (Component s) = pair_so (s, done.1) (serial, id) v

-- the tasks that an entry accomplishes are those of its opening and of its lines
done_by : (item : Item) (id : List ℕ) (act : Act) → list_any (λ (done : Item × List ℕ). same_item done.0 item && same_text done.1 id) (tasks_done act) ≡ accomplishes item id act
done_by item id (Opened o) = or_false (same_item o.item item && same_text o.task id)
done_by item id (Released r lines) = of_lines lines
  where
    of_lines : (lines : List Line) → list_any (λ (done : Item × List ℕ). same_item done.0 item && same_text done.1 id) (filter_map line_task lines) ≡ list_any (is_done item id) lines
    of_lines [] = refl
    of_lines (Done done task ∷ lines) = ap (λ b. (same_item done item && same_text task id) || b) (of_lines lines)
    of_lines (Rectified doc ∷ lines) = of_lines lines
done_by item id _ = refl

accomplished-more : (book : List Entry) (entry : Entry) (item : Item) (id : List ℕ) → is_accomplished (book ++ entry ∷ []) item id ≡ is_accomplished book item id || accomplishes item id entry.act
accomplished-more book entry item id =
    list_any-append (λ (e : Entry). accomplishes item id e.act) book (entry ∷ []) ∙ ap (λ b. is_accomplished book item id || b) (or_false (accomplishes item id entry.act))

pub airframe_moves : (book : List Entry) (entry : Entry) (named : List ℕ × List ℕ)
    → airframe_done (book ++ entry ∷ []) named ≡ changed_all names_cmp (filter_map (keyed airframe_task) (tasks_done entry.act)) named (airframe_done book named)
airframe_moves book entry named =
    accomplished-more book entry (Airframe named.0) named.1
    ∙ ap (λ b. airframe_done book named || b) (sym (done_by (Airframe named.0) named.1 entry.act))
    ∙ sym (all_lines names_cmp (keyed airframe_task) named (λ (done : Item × List ℕ). same_item done.0 (Airframe named.0) && same_text done.1 named.1) (airframe_one named.0 named.1) (tasks_done entry.act) (airframe_done book named))

pub component_moves : (book : List Entry) (entry : Entry) (named : List ℕ × List ℕ)
    → component_done (book ++ entry ∷ []) named ≡ changed_all names_cmp (filter_map (keyed component_task) (tasks_done entry.act)) named (component_done book named)
component_moves book entry named =
    accomplished-more book entry (Component named.0) named.1
    ∙ ap (λ b. component_done book named || b) (sym (done_by (Component named.0) named.1 entry.act))
    ∙ sym (all_lines names_cmp (keyed component_task) named (λ (done : Item × List ℕ). same_item done.0 (Component named.0) && same_text done.1 named.1) (component_one named.0 named.1) (tasks_done entry.act) (component_done book named))

-- ── defects ──

defect_one : (doc : List ℕ) (line : Line) (v : Bool) → changed (slice_cmp nat_cmp) (line_defect line) doc v ≡ v || rectifies doc line
defect_one doc (Done item id) v = sym (or_false v)
defect_one doc (Rectified rectified) v = ap (λ c. cond c true v) (tie rectified doc) ∙ if_so (same_text rectified doc) v

pub rectified_moves : (book : List Entry) (entry : Entry) (doc : List ℕ) → is_rectified (book ++ entry ∷ []) doc ≡ changed_all (slice_cmp nat_cmp) (filter_map line_defect (lines_of entry.act)) doc (is_rectified book doc)
rectified_moves book entry doc =
    list_any-append (λ (e : Entry). list_any (rectifies doc) (lines_of e.act)) book (entry ∷ [])
    ∙ ap (λ b. is_rectified book doc || b) (or_false (list_any (rectifies doc) (lines_of entry.act)))
    ∙ sym (all_lines (slice_cmp nat_cmp) line_defect doc (rectifies doc) (defect_one doc) (lines_of entry.act) (is_rectified book doc))
