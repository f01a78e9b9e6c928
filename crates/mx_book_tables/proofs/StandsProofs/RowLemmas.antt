-- The rows of a table as things of its type: rows that fit are one where their cells are, so that the tables at a point stand for at most one book.
use Rattle.std.proofs.Common.{◌≡◌, ◌∙◌, ℕ, true, List, [], ◌∷◌, ◌++◌, length, map, refl, sym, ap, ap₂, subst, arith, slice_index_or}
use Rattle.std.specs.Prelude.{⊤, All, slice_set}
use Rattle.std.specs.List.{swap}
use Rattle.std.specs.List.Sorted.{IsPermutation}
use Rattle.std.proofs.lemmas.List.{length-map}
use Rattle.std.proofs.lemmas.List.Elements.{All-map, All-from_recursion, All-head, All-tail, All-nil, All-weaker}
use Rattle.std.proofs.lemmas.List.Sorted.{IsPermutation-refl, IsPermutation-sym, IsPermutation-trans, IsPermutation-swap, IsPermutation-keeps, All-permutation}
use Rattle.sqlite.specs.Order.{Row}
use Rattle.sqlite.specs.Tree.{Trees}
use Rattle.mx_book.specs.commands.Act.{Entry}
use Rattle.mx_base.specs.declared.point.Point.{Point}
use Rattle.mx_registers.specs.points.Same.{GiveSame}
use Rattle.mx_registers.specs.points.Tables.{rows_at}
use Rattle.mx_registers.proofs.PointsProofs.OneBook.{one_book_at}
use Rattle.mx_layout.specs.Contents.{rows_in}
use Rattle.mx_layout.specs.Names.{table_named}
use Rattle.mx_layout.specs.Point.{point_cells}
use Rattle.mx_layout.specs.TableName.{TableName}
use Rattle.mx_layout.specs.declared.fault.Table.TheVariants as table
use Rattle.mx_layout.specs.kept.Kept.{Kept}
use Rattle.mx_layout.specs.kept.Family.{IsReadable, IsReadableAs}
use Rattle.mx_layout.specs.kept.Meanings.{IsLawful}
use Rattle.mx_book_tables.specs.stands.Family.{Rows, of, none, rows_of, is_there, is_at, given, Fit, first_rows, rows_given}
use Rattle.mx_book_tables.specs.stands.Stands.{HasRowsAt}
use Rattle.mx_book_tables.proofs.StandsProofs.FamilyLemmas.{Facts, facts}
use lib.ListN.{get_or-map}
use lib.Seq.{map-set}

-- ── rows in another order ──

map-swap : {X Y : Type 0} (f : X → Y) (xs : List X) (i j : ℕ) → map f (swap xs i j) ≡ swap (map f xs) i j
map-swap f [] i j = refl
map-swap f (d ∷ ys) i j =
    let xs = d ∷ ys in
    map-set f (slice_set xs i (slice_index_or xs j d)) j (slice_index_or xs i d)
    ∙ ap₂ (λ l y. slice_set l j y) (map-set f xs i (slice_index_or xs j d) ∙ ap (slice_set (map f xs) i) (sym (get_or-map f xs j d))) (sym (get_or-map f xs i d))

-- what has the cells of some rows in another order is those rows in another order, as cells
reordered : {X Y : Type 0} (f : X → Y) (xs : List X) (cells : List Y) → IsPermutation (map f xs) cells → (ys : List X) × IsPermutation xs ys × (map f ys ≡ cells)
reordered {X} f xs cells same =
    IsPermutation-keeps (map f xs) (λ l. (ys : List X) × IsPermutation xs ys × (map f ys ≡ l)) (xs, IsPermutation-refl xs, refl)
    (λ l i j low less so_far.
    let ys = so_far.0 in
    let long : length l ≡ length ys = ap length (sym so_far.2) ∙ length-map ys f in
    (swap ys i j, IsPermutation-trans xs ys (swap ys i j) so_far.1 (IsPermutation-swap ys (swap ys i j) i j (omega (arith, long)) (omega (arith, long)) refl), map-swap f ys i j ∙ ap (λ (m : List _). swap m i j) so_far.2))
    cells same

-- ── rows of one table ──

module _ {X : Type 0} (k : Kept X) (law : IsLawful k) where
  -- lists of rows that fit, with the same cells, are one list
  pub cells_once : (xs ys : List X) → All k.Fits xs → All k.Fits ys → map k.as_cells xs ≡ map k.as_cells ys → xs ≡ ys
  cells_once [] [] fits_x fits_y e = refl
  cells_once [] (y ∷ ys) fits_x fits_y e = absurd cc
  cells_once (x ∷ xs) [] fits_x fits_y e = absurd cc
  cells_once (x ∷ xs) (y ∷ ys) fits_x fits_y e =
      ap₂ ◌∷◌ (law.once x y (All-head k.Fits x xs fits_x) (All-head k.Fits y ys fits_y) (cc)) (cells_once xs ys (All-tail k.Fits x xs fits_x) (All-tail k.Fits y ys fits_y) (cc))

  -- and those with the same cells in another order are one list in another order
  pub rows_once : (xs ys : List X) → All k.Fits xs → All k.Fits ys → IsPermutation (map k.as_cells xs) (map k.as_cells ys) → IsPermutation xs ys
  rows_once xs ys fits_x fits_y same =
      let other = reordered k.as_cells xs (map k.as_cells ys) same in
      subst (IsPermutation xs) (cells_once other.0 ys (All-permutation k.Fits xs other.0 other.1 fits_x) fits_y other.2) other.1

  -- rows that fit are of the type of the table
  pub good_rows : (xs : List X) → All k.Fits xs → All (IsReadableAs k) (map k.as_cells xs)
  good_rows xs fits = All-map (IsReadableAs k) k.as_cells xs (λ i d low. (slice_index_or xs i d, fits i d low, refl))

-- ── the rows of a book ──

pub readable_at : (name : TableName) (f : Rows) → Facts name f → (at : Point) (book : List Entry) → Fit f at book → All (IsReadable name) (given f at book)
readable_at name (of k line change read) fact at book fit = All-weaker (IsReadableAs k) (IsReadable name) fact.readable (map k.as_cells (rows_at line at book)) (good_rows k fact.law (rows_at line at book) fit)
readable_at name none fact at book fit = All-nil (IsReadable name)

-- the rows that a book gives to a table are of its type
pub readable_given : (name : TableName) (at : Point) (book : List Entry) → Fit (rows_of name) at book → All (IsReadable name) (rows_given at book name)
readable_given table.Office at book fit = λ i d low. tt
readable_given name at book fit = readable_at name (rows_of name) (facts name) at book fit

-- and so are those of tables that stand for the book
pub readable_stored : (at : Point) (trees : Trees) (book : List Entry) → HasRowsAt at trees book → (name : TableName) → is_at at name ≡ true → All (IsReadable name) (rows_in (table_named name) trees)
readable_stored at trees book has name there = All-permutation (IsReadable name) (rows_given at book name) (rows_in (table_named name) trees) (has.tables name there) (readable_given name at book (has.fit name there))

-- ── one book ──

-- a table of the family at a point is one of a file there
pub there_at : (at : Point) (name : TableName) → is_there (rows_of name) at ≡ true → is_at at name ≡ true
there_at at table.Office there = refl
there_at at name there = there

-- both books give the table the same rows
abbrev GivesSame : Rows → Point → List Entry → List Entry → Type 0
GivesSame (of k line change read) at one other = GiveSame line at one other
GivesSame none at one other = ⊤

-- the table has the rows of the book, and they fit
abbrev HasRows : TableName → Rows → Point → Trees → List Entry → Type 0
HasRows name f at trees book = is_there f at ≡ true → Fit f at book × IsPermutation (first_rows at name ++ given f at book) (rows_in (table_named name) trees)

same_at : (name : TableName) (f : Rows) → Facts name f → (at : Point) (trees : Trees) (one other : List Entry) → HasRows name f at trees one → HasRows name f at trees other → GivesSame f at one other
same_at name (of k line change read) fact at trees one other has had = λ there.
    let stored = rows_in (table_named name) trees in
    let given_one = subst (λ first. IsPermutation (first ++ map k.as_cells (rows_at line at one)) stored) (fact.no_first at) (has there).1 in
    let given_other = subst (λ first. IsPermutation (first ++ map k.as_cells (rows_at line at other)) stored) (fact.no_first at) (had there).1 in
    rows_once k fact.law (rows_at line at one) (rows_at line at other) (has there).0 (had there).0 (IsPermutation-trans _ stored _ given_one (IsPermutation-sym _ stored given_other))
same_at name none fact at trees one other has had = tt

-- the tables at a point have the rows of at most one book
pub one_book : (at : Point) (trees : Trees) (one other : List Entry) → HasRowsAt at trees one → HasRowsAt at trees other → one ≡ other
one_book at trees one other has had = one_book_at at one other has.is_book had.is_book (record {
  entries = same table.Entry;
  aircraft = same table.Aircraft;
  places = same table.Place;
  components = same table.Component;
  programmes = same table.Programme;
  tasks = same table.Task;
  openings = same table.Opening;
  releases = same table.Crs;
  release_lines = same table.CrsLine;
  deferrals_old = same table.Defect;
  deferrals_new = same table.Defect3;
  extensions = same table.Extension;
  sectors_old = same table.Sector1;
  sectors_new = same table.Sector2;
  fittings = same table.Fit1;
  removals = same table.Removal1;
  spans = same table.Span2;
})
  where
    rows : (book : List Entry) → HasRowsAt at trees book → (name : TableName) → HasRows name (rows_of name) at trees book
    rows book has name there = (has.fit name (there_at at name there), has.tables name (there_at at name there))

    same : (name : TableName) → GivesSame (rows_of name) at one other
    same name = same_at name (rows_of name) (facts name) at trees one other (rows one has name) (rows other had name)

-- ── one point ──

same_point : (at other : Point) → at.layout ≡ other.layout → at.step ≡ other.step → at.mark ≡ other.mark → at ≡ other
same_point at other layout step mark = λ i. record { layout = layout i; step = step i; mark = mark i }

-- and at one point alone: the row of `office` is that of the point
pub one_point : (at other : Point) (trees : Trees) (book another : List Entry) → HasRowsAt at trees book → HasRowsAt other trees another → at ≡ other
one_point at other trees book another has had =
    let stored = rows_in (table_named table.Office) trees in
    let same : IsPermutation (point_cells at ∷ []) (point_cells other ∷ []) = IsPermutation-trans _ stored _ (has.tables table.Office refl) (IsPermutation-sym _ stored (had.tables table.Office refl)) in
    let Is = λ (row : Row). row ≡ point_cells at in
    let cells : point_cells other ≡ point_cells at = All-head Is (point_cells other) [] (All-permutation Is (point_cells at ∷ []) (point_cells other ∷ []) same (All-from_recursion Is (point_cells at ∷ []) (refl, tt))) in
    same_point at other (cc) (cc) (cc)
