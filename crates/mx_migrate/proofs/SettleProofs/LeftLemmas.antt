-- What is left at the front of a step, in tables that stand for a book.
use Rattle.std.proofs.Common.{◌≡◌, ◌≢◌, ℕ, ◌+◌, ◌<◌, ◌≤◌, pos, Bool, true, false, not, ◌&&◌, length, List, [], ◌∷◌, map, filter, take, All, nat_le, slice_get, None, Some, refl, sym, ap, subst, ◌∙◌, arith}
use Rattle.std.specs.Option.{option_map}
use Rattle.std.specs.List.{list_all}
use Rattle.std.specs.List.Sorted.{IsPermutation}
use Rattle.std.proofs.lemmas.List.Elements.{All-contains, All-map}
use Rattle.std.proofs.lemmas.List.Sorted.{All-permutation, IsPermutation-sym}
use Rattle.sqlite_keyed.proofs.ListLemmas.{filter_same}
use Rattle.sqlite.specs.declared.types.Value.TheVariants.{Int}
use Rattle.sqlite.specs.Order.{Row}
use Rattle.sqlite.specs.Tree.{Trees}
use Rattle.mx_book.specs.commands.Act.{Entry}
use Rattle.mx_book.specs.Programme.{last_of}
use Rattle.mx_book.specs.declared.limits.TheConstants.{MOST_ENTRIES}
use Rattle.mx_base.specs.declared.rows.rows.ComponentRow.{ComponentRow}
use Rattle.mx_base.specs.declared.rows.rows.SectorRow.{SectorRow}
use Rattle.mx_base.specs.rows.Rows.{FitsComponent}
use Rattle.mx_base.proofs.RowsProofs.SortedLemmas.{keys_below}
use Rattle.mx_registers.specs.Registers.{component_rows, sector_rows}
use Rattle.mx_registers.proofs.RegisterLemmas.{component_rows-rising}
use Rattle.mx_registers.specs.points.Moves.{last_moved}
use Rattle.mx_registers.specs.points.Points.{moving, next_mark}
use Rattle.mx_registers.specs.points.Tables.{components_all, rows_at, sectors_1}
use Rattle.mx_registers.proofs.PointsProofs.CommitLemmas.{last_self}
use Rattle.mx_registers.proofs.PointsProofs.OneBook.{filter_through}
use Rattle.mx_registers.proofs.PointsProofs.StandingLemmas.{always_whole}
use Rattle.mx_layout.specs.declared.fault.Table.TheVariants as table
use Rattle.mx_layout.specs.Contents.{rows_in}
use Rattle.mx_layout.specs.Names.{table_named}
use Rattle.mx_layout.specs.Tables.{sector1}
use Rattle.mx_layout.specs.kept.Cells.{kept_component, kept_sector1}
use Rattle.mx_layout.specs.kept.Family.{IsReadable}
use Rattle.mx_layout.proofs.KeptProofs.Lawful.{component_lawful}
use Rattle.mx_table_rows.specs.chosen.Choices.{AreFirst, is_above}
use Rattle.mx_book_tables.specs.stands.Stands.{StandsAt}
use Rattle.mx_book_tables.proofs.StandsProofs.RowLemmas.{readable_stored}
use Rattle.mx_tables.specs.inserts.Sets.{IsDamaged}
use Rattle.mx_moves.specs.steps.Sectors.{is_next_from}
use Rattle.mx_moves.proofs.StepsProofs.PageLemmas.{permutation_none}
use Rattle.mx_migrate.specs.settle.Choices.{HasLateNumber}
use Rattle.mx_migrate.proofs.SettleProofs.FrontLemmas.{above_number, first_chosen_are}
use Rattle.mx_migrate.proofs.SettleProofs.ItemLemmas.{between}

-- ── sectors that are left ──

abbrev pub seq_of : SectorRow → ℕ
seq_of row = row.seq

-- the next mark is by the sectors that stand in the old table
left_numbers : (mark : ℕ) (book : List Entry) → next_mark (moving 1 mark) book ≡ last_of (take 64 (map seq_of (rows_at sectors_1 (moving 1 mark) book)))
left_numbers mark book = ap (λ l. last_of (take 64 l)) (filter_through seq_of (λ number. not (nat_le number mark)) (sector_rows book))

some_next : (mark : ℕ) (book : List Entry) → rows_at sectors_1 (moving 1 mark) book ≢ [] → next_mark (moving 1 mark) book ≢ None
some_next mark book some = at (rows_at sectors_1 (moving 1 mark) book) refl
  where
    at : (rows : List SectorRow) → rows_at sectors_1 (moving 1 mark) book ≡ rows → next_mark (moving 1 mark) book ≢ None
    at [] e none = some e
    at (row ∷ rows) e none =
        let is = sym none ∙ left_numbers mark book ∙ ap (λ l. last_of (take 64 (map seq_of l))) e ∙ last_self row.seq (take 63 (map seq_of rows)) in
        absurd cc

none_mapped : {X Y : Type 0} (f : X → Y) (xs : List X) → map f xs ≡ [] → xs ≡ []
none_mapped f [] e = refl
none_mapped f (x ∷ xs) e = absurd cc

module _ (mark : ℕ) (trees : Trees) (book : List Entry) (stands : StandsAt (moving 1 mark) trees book) where
  left : List SectorRow
  left = rows_at sectors_1 (moving 1 mark) book

  pub sector_due : rows_in sector1 trees ≢ [] → next_mark (moving 1 mark) book ≢ None
  sector_due some = some_next mark book (λ none. some (permutation_none (rows_in sector1 trees) (subst (λ rows. IsPermutation (map kept_sector1.as_cells rows) (rows_in sector1 trees)) none (stands.rows.tables table.Sector1 refl))))

  pub no_sector_due : rows_in sector1 trees ≡ [] → next_mark (moving 1 mark) book ≡ None
  no_sector_due none =
      let cells = permutation_none (map kept_sector1.as_cells (rows_at sectors_1 (moving 1 mark) book)) (subst (λ rows. IsPermutation rows (map kept_sector1.as_cells (rows_at sectors_1 (moving 1 mark) book))) none (IsPermutation-sym _ _ (stands.rows.tables table.Sector1 refl))) in
      left_numbers mark book ∙ ap (λ l. last_of (take 64 (map seq_of l))) (none_mapped kept_sector1.as_cells (rows_at sectors_1 (moving 1 mark) book) cells)

-- sectors that have still to move end at a later mark, which an entry can have
pub last_between : (mark n : ℕ) (rows : List SectorRow) → mark < n → n ≤ MOST_ENTRIES → list_all (is_next_from mark) rows ≡ true → (mark < last_moved seq_of n rows) × (last_moved seq_of n rows ≤ MOST_ENTRIES)
last_between mark n [] low high all = (low, high)
last_between mark n (row ∷ rows) low high all = at (is_next_from mark row) refl all (last_between mark row.seq rows)
  where
    at : (b : Bool) → is_next_from mark row ≡ b → b && list_all (is_next_from mark) rows ≡ true
        → (mark < row.seq → row.seq ≤ MOST_ENTRIES → list_all (is_next_from mark) rows ≡ true → (mark < last_moved seq_of row.seq rows) × (last_moved seq_of row.seq rows ≤ MOST_ENTRIES))
        → (mark < last_moved seq_of row.seq rows) × (last_moved seq_of row.seq rows ≤ MOST_ENTRIES)
    at true e more rest = let n = between mark row.seq e in rest n.0 n.1 more
    at false e more rest = absurd cc

pub first_between : (mark : ℕ) (row : SectorRow) (rows : List SectorRow) → list_all (is_next_from mark) (row ∷ rows) ≡ true → (mark < row.seq) × (row.seq ≤ MOST_ENTRIES)
first_between mark row rows all = at (is_next_from mark row) refl all
  where
    at : (b : Bool) → is_next_from mark row ≡ b → b && list_all (is_next_from mark) rows ≡ true → (mark < row.seq) × (row.seq ≤ MOST_ENTRIES)
    at true e more = between mark row.seq e
    at false e more = absurd cc

-- ── the next component ──

-- the next mark is the number of the first component behind the mark
first_of : (xs : List ComponentRow) → last_of (take 1 (map (λ (row : ComponentRow). row.seq) xs)) ≡ option_map kept_component.key (slice_get (take 1 xs) 0)
first_of [] = refl
first_of (x ∷ xs) = refl

-- a row that is kept as a component is has a number that an entry can have
abbrev NumberFew : Row → Type 0
NumberFew cells = (row : ComponentRow) → cells ≡ kept_component.as_cells row → row.seq ≤ MOST_ENTRIES

few_number : (one row : ComponentRow) → one.seq ≤ MOST_ENTRIES → kept_component.as_cells one ≡ kept_component.as_cells row → row.seq ≤ MOST_ENTRIES
few_number one row h e = let same : one.seq ≡ row.seq = cc in subst (λ n. n ≤ MOST_ENTRIES) same h

module _ (mark : ℕ) (trees : Trees) (book : List Entry) (stands : StandsAt (moving 2 mark) trees book) where
  whole : rows_at components_all (moving 2 mark) book ≡ component_rows book
  whole = (always_whole (moving 2 mark) book).components

  stored : IsPermutation (map kept_component.as_cells (component_rows book)) (rows_in (table_named table.Component) trees)
  stored = subst (λ rows. IsPermutation (map kept_component.as_cells rows) (rows_in (table_named table.Component) trees)) whole (stands.rows.tables table.Component refl)

  fit : All FitsComponent (component_rows book)
  fit = subst (All FitsComponent) whole (stands.rows.fit table.Component refl)

  pub component_next : (rows : List ComponentRow) → AreFirst (Some 1) kept_component.order (table_named table.Component) (is_above 0 (Int (pos mark))) trees (map kept_component.as_cells rows) → All FitsComponent rows
      → next_mark (moving 2 mark) book ≡ option_map kept_component.key (slice_get rows 0)
  component_next rows first fits =
      let chosen = λ (row : ComponentRow). is_above 0 (Int (pos mark)) (kept_component.as_cells row) in
      let above = λ (row : ComponentRow). not (nat_le row.seq mark) in
      let are : rows ≡ take 1 (filter chosen (component_rows book)) =
      first_chosen_are kept_component component_lawful 1 1 (length book + 1) (is_above 0 (Int (pos mark))) trees (component_rows book) rows first stored (component_rows-rising book stands.rows.is_book.shaped) fit fits in
      ap (λ l. last_of (take 1 l)) (filter_through (λ (row : ComponentRow). row.seq) (λ number. not (nat_le number mark)) (component_rows book))
      ∙ first_of (filter above (component_rows book))
      ∙ ap (λ l. option_map kept_component.key (slice_get (take 1 l) 0)) (sym (filter_same chosen above (λ row. above_number row.seq mark) (component_rows book)))
      ∙ ap (λ l. option_map kept_component.key (slice_get l 0)) (sym are)

  -- each of them has a number that an entry can have
  pub none_late : HasLateNumber kept_component trees → ⊥
  none_late late =
      let few = stands.rows.is_book.few in
      let below = keys_below (λ (row : ComponentRow). row.seq) 1 (length book + 1) (component_rows book) (component_rows-rising book stands.rows.is_book.shaped) in
      let told : All NumberFew (rows_in (table_named table.Component) trees) =
      All-permutation NumberFew _ _ stored (All-map NumberFew kept_component.as_cells (component_rows book) (λ i d low row e. few_number _ row (let under = below i d low in omega arith) e)) in
      let under = All-contains NumberFew (rows_in (table_named table.Component) trees) (kept_component.as_cells late.0) told late.1 late.0 refl in
      absurd (omega (arith, late.2, under))

  pub none_unfit : IsDamaged trees table.Component → ⊥
  none_unfit damaged = damaged.2 (All-contains (IsReadable table.Component) (rows_in (table_named table.Component) trees) damaged.0 (readable_stored (moving 2 mark) trees book stands.rows table.Component refl) damaged.1)
