-- Rows that are the last bases of a book, in any order.
use Rattle.std.proofs.Common.{refl, sym, ap, ◌∙◌, ◌≡◌, ℕ, ◌+◌, ◌≤◌, List, [], ◌∷◌, ◌++◌, Bool, true, false, cond, not, ◌&&◌, ◌||◌, Option, Some, None, nat_eq, arith}
use Rattle.std.specs.Prelude.{IsPermutation, filter, find, is_some}
use Rattle.std.specs.Bool.{Decides}
use Rattle.std.specs.List.{AllByRecursion, cons_option, filter_map, flat_map, list_all, list_any, sum_by}
use Rattle.std.specs.Option.{option_map, option_map_or}
use Rattle.std.proofs.lemmas.Bool.Decides.{Decides-eqb}
use Rattle.std.proofs.lemmas.List.Elements.{All-from_recursion, recursion_from_All}
use Rattle.std.proofs.lemmas.List.Folds.{list_any-append}
use Rattle.std.proofs.lemmas.List.Sorted.{All-permutation, IsPermutation-middle, IsPermutation-sym, IsPermutation-to_front, list_any-IsPermutation, sum_by-IsPermutation}
use Rattle.std.proofs.lemmas.List.Sums.{sum_by-cons}
use Rattle.mx_base.specs.declared.amounts.Base.{Base}
use Rattle.mx_book.specs.commands.Act.{Act, Entry, Added, Listed, Loaded, Opened, Flown, Fitted, Removed, Released, Deferred, Extended}
use Rattle.mx_book.specs.commands.Same.{same_text}
use Rattle.mx_book.specs.commands.Shape.{has_shape}
use Rattle.mx_book.specs.declared.commands.item.Item.{Item}
use Rattle.mx_book.specs.declared.commands.release.Line.{Line}
use Rattle.mx_book.specs.declared.commands.release.Line.TheVariants.{Done, Rectified}
use Rattle.mx_book.specs.declared.commands.release.Release.{Release}
use Rattle.mx_book.proofs.CommandsProofs.SameLemmas.{text_same}
use Rattle.mx_book.specs.Base.{base}
use Rattle.mx_book.specs.Book.{IsBook}
use Rattle.mx_book.specs.Judge.{judge}
use Rattle.mx_book.specs.declared.verdict.Verdict.TheVariants.{New}
use Rattle.mx_base.specs.declared.rows.rows.BaseRow.{BaseRow}
use Rattle.mx_base.specs.declared.rows.rows.OpeningRow.{OpeningRow}
use Rattle.mx_base.specs.declared.rows.rows.ReleaseLineRow.{ReleaseLineRow}
use Rattle.mx_base.specs.rows.Rows.{base_in_row, base_row_with}
use Rattle.mx_registers.specs.Names.{item_at, or_zero, seq_of_item}
use Rattle.mx_registers.specs.Lines.{lines_from}
use Rattle.mx_registers.specs.Registers.{next, opening_rows, openings_by, release_line_row, release_line_rows, release_lines_by}
use Rattle.mx_registers.proofs.RegisterLemmas.{gives-more}
use Rattle.mx_registers.specs.kept.Bases.{AreKeyedOnce, base_in, base_put, base_reached, base_row, base_rows, base_rows_of, base_set, base_stated, bases_by, bases_put, is_keyed, tasks_accomplished}
use Rattle.mx_registers.specs.kept.Items.{items}
use Rattle.mx_registers.proofs.KeptProofs.BaseRows.{base_in_rows}
use Rattle.mx_registers.proofs.KeptProofs.DoneLemmas.{both}
use Rattle.mx_registers.proofs.KeptProofs.Induction.{of_each_book}
use Rattle.mx_registers.proofs.KeptProofs.ItemNumbers.{items_numbered}
use Rattle.mx_registers.proofs.KeptProofs.KeyedLemmas.{base_rows_once, bases_decided}
use Rattle.mx_registers.proofs.KeptProofs.KnownLemmas.{all_append}
use Rattle.mx_registers.proofs.KeptProofs.PutBases.{command_bases}
use Rattle.mx_registers.specs.file.Bases.{certifies, has_key, is_certified_in, is_last_base, is_stated_in, same_base, states}

-- ── tests ──

or_assoc : (a b c : Bool) → (a || b) || c ≡ a || (b || c)
or_assoc true b c = refl
or_assoc false b c = refl

or_swap : (a b : Bool) → a || b ≡ b || a
or_swap true true = refl
or_swap true false = refl
or_swap false true = refl
or_swap false false = refl

or_false : (b : Bool) → b || false ≡ b
or_false true = refl
or_false false = refl

either_out : (a b : Bool) → a || b ≡ false → (a ≡ false) × (b ≡ false)
either_out true b h = (cc)
either_out false b h = (refl, h)

-- ── keys that are put ──

again : (a b : Bool) → a || b ≡ a || (a || b)
again true b = refl
again false b = refl

beside : (a b c d : Bool) → a || c ≡ a || d → a || (b || c) ≡ a || (b || d)
beside true b c d h = refl
beside false b c d h = ap (λ e. b || e) h

-- the rows without those of the key of one
abbrev left_out : BaseRow → List BaseRow → List BaseRow
left_out row rows = filter (λ other. not (is_keyed row.item row.task other)) rows

-- a row that is left out where it has the key of another leaves the keys beside that
any_left : (number : ℕ) (id : List ℕ) (row : BaseRow) (rows : List BaseRow) → is_keyed number id row || has_key number id (left_out row rows) ≡ is_keyed number id row || has_key number id rows
any_left number id row [] = refl
any_left number id row (x ∷ rows) = at (is_keyed row.item row.task x) refl (any_left number id row rows)
  where
    at : (b : Bool) → is_keyed row.item row.task x ≡ b → is_keyed number id row || has_key number id (left_out row rows) ≡ is_keyed number id row || has_key number id rows
        → is_keyed number id row || has_key number id (cond (not b) (x ∷ left_out row rows) (left_out row rows)) ≡ is_keyed number id row || (is_keyed number id x || has_key number id rows)
    at true e rest =
        let parts = both (nat_eq x.item row.item) (same_text x.task row.task) e in
        let same : is_keyed number id x ≡ is_keyed number id row = ap (λ n. nat_eq n number && same_text x.task id) ((Decides-eqb x.item row.item).0 parts.0) ∙ ap (λ (t : List ℕ). nat_eq row.item number && same_text t id) ((text_same x.task row.task).0 parts.1) in
        rest ∙ again (is_keyed number id row) (has_key number id rows) ∙ ap (λ b. is_keyed number id row || (b || has_key number id rows)) (sym same)
    at false e rest = beside (is_keyed number id row) (is_keyed number id x) (has_key number id (left_out row rows)) (has_key number id rows) rest

any_put : (number : ℕ) (id : List ℕ) (news rows : List BaseRow) → has_key number id (bases_put news rows) ≡ has_key number id rows || has_key number id news
any_put number id [] rows = sym (or_false (has_key number id rows))
any_put number id (row ∷ news) rows =
    any_put number id news (base_put row rows)
    ∙ ap (λ b. b || has_key number id news) (any_left number id row rows ∙ or_swap (is_keyed number id row) (has_key number id rows))
    ∙ or_assoc (has_key number id rows) (is_keyed number id row) (has_key number id news)

-- ── the keys of a book ──

-- the lines of a release certify the tasks whose bases it sets
lines_certify : (book : List Entry) (r : Release) (number : ℕ) (id : List ℕ) (seq line : ℕ) (lines : List Line) → list_any (certifies number id) (lines_from (release_line_row book) seq line lines) ≡ has_key number id (filter_map (base_set book r) lines)
lines_certify book r number id seq line [] = refl
lines_certify book r number id seq line (Done item task ∷ lines) = ap (λ b. is_keyed number id (base_row_with (or_zero (seq_of_item book item)) task (base_reached book r item task)) || b) (lines_certify book r number id seq (line + 1) lines)
lines_certify book r number id seq line (Rectified doc ∷ lines) = lines_certify book r number id seq (line + 1) lines

-- what an entry states and certifies is what it sets
act_says : (book : List Entry) (number : ℕ) (id : List ℕ) (act : Act) → list_any (states number id) (openings_by book act) || list_any (certifies number id) (release_lines_by book act) ≡ has_key number id (bases_by book act)
act_says book number id (Opened o) = or_false (is_keyed number id (base_stated book o) || false)
act_says book number id (Released r lines) = lines_certify book r number id (next book) 1 lines
act_says book number id (Added a positions) = refl
act_says book number id (Listed c) = refl
act_says book number id (Loaded p tasks) = refl
act_says book number id (Flown s) = refl
act_says book number id (Fitted f) = refl
act_says book number id (Removed r) = refl
act_says book number id (Deferred d) = refl
act_says book number id (Extended x) = refl

-- some opening states, or some line certifies, the task of the item with the number
abbrev pub rows_say : ℕ → List ℕ → List OpeningRow → List ReleaseLineRow → Bool
rows_say number id openings lines = list_any (states number id) openings || list_any (certifies number id) lines

abbrev Says : List Entry → Type 0
Says book = (number : ℕ) (id : List ℕ) → rows_say number id (opening_rows book) (release_line_rows book) ≡ has_key number id (base_rows book)

shuffle : (a b c d : Bool) → (a || b) || (c || d) ≡ (a || c) || (b || d)
shuffle true b c d = refl
shuffle false true true d = refl
shuffle false true false d = refl
shuffle false false c d = refl

says_more : (book : List Entry) (e : Entry) → IsBook book → has_shape e ≡ true → judge book e ≡ New → Says book → Says (book ++ e ∷ [])
says_more book e b shape new says number id =
    ap (λ (rows : List OpeningRow). rows_say number id rows (release_line_rows (book ++ e ∷ []))) (gives-more (λ earlier entry. openings_by earlier entry.act) [] book e)
    ∙ ap (rows_say number id (opening_rows book ++ openings_by book e.act)) (gives-more (λ earlier entry. release_lines_by earlier entry.act) [] book e)
    ∙ ap (λ p. p || list_any (certifies number id) (release_line_rows book ++ release_lines_by book e.act)) (list_any-append (states number id) (opening_rows book) (openings_by book e.act))
    ∙ ap (λ p. (list_any (states number id) (opening_rows book) || list_any (states number id) (openings_by book e.act)) || p) (list_any-append (certifies number id) (release_line_rows book) (release_lines_by book e.act))
    ∙ shuffle (list_any (states number id) (opening_rows book)) (list_any (states number id) (openings_by book e.act)) (list_any (certifies number id) (release_line_rows book)) (list_any (certifies number id) (release_lines_by book e.act))
    ∙ ap (λ p. p || (list_any (states number id) (openings_by book e.act) || list_any (certifies number id) (release_lines_by book e.act))) (says number id)
    ∙ ap (λ p. has_key number id (base_rows book) || p) (act_says book number id e.act)
    ∙ sym (any_put number id (bases_by book e.act) (base_rows book))
    ∙ list_any-IsPermutation (is_keyed number id) (bases_put (bases_by book e.act) (base_rows book)) (base_rows (book ++ e ∷ [])) (command_bases book e.doc e.act b new shape)

-- there are bases of the tasks that openings state and lines of releases certify
pub book_says : (book : List Entry) → IsBook book → Says book
book_says book b = of_each_book Says says_more (λ number id. refl) book b

-- ── rows of distinct keys ──

abbrev at_key : ℕ → List ℕ → BaseRow → ℕ
at_key number id row = cond (is_keyed number id row) 1 0

none_at : (number : ℕ) (id : List ℕ) (rows : List BaseRow) → has_key number id rows ≡ false → sum_by (at_key number id) rows ≡ 0
none_at number id [] h = refl
none_at number id (x ∷ rows) h =
    let parts = either_out (is_keyed number id x) (has_key number id rows) h in
    let rest = none_at number id rows parts.1 in
    let one : at_key number id x ≡ 0 = ap (λ b. cond b 1 0) parts.0 in
    let sum = sum_by-cons (at_key number id) x rows in omega arith

at_most_one : (rows : List BaseRow) → AreKeyedOnce rows → (number : ℕ) (id : List ℕ) → sum_by (at_key number id) rows ≤ 1
at_most_one [] once number id = let e : sum_by (at_key number id) [] ≡ 0 = refl in omega arith
at_most_one (x ∷ rows) once number id = at (is_keyed number id x) refl (at_most_one rows once.1 number id)
  where
    at : (b : Bool) → is_keyed number id x ≡ b → sum_by (at_key number id) rows ≤ 1 → sum_by (at_key number id) (x ∷ rows) ≤ 1
    at true e rest =
        let parts = both (nat_eq x.item number) (same_text x.task id) e in
        let alone : has_key number id rows ≡ false = ap (λ n. has_key n id rows) (sym ((Decides-eqb x.item number).0 parts.0)) ∙ ap (λ (t : List ℕ). has_key x.item t rows) (sym ((text_same x.task id).0 parts.1)) ∙ once.0 in
        let none = none_at number id rows alone in
        let one : at_key number id x ≡ 1 = ap (λ b. cond b 1 0) e in
        let sum = sum_by-cons (at_key number id) x rows in omega arith
    at false e rest =
        let one : at_key number id x ≡ 0 = ap (λ b. cond b 1 0) e in
        let sum = sum_by-cons (at_key number id) x rows in omega arith

own_key : (x : BaseRow) → is_keyed x.item x.task x ≡ true
own_key x = ap (λ b. b && same_text x.task x.task) ((Decides-eqb x.item x.item).1 refl) ∙ (text_same x.task x.task).1 refl

some_at : (number : ℕ) (id : List ℕ) (rows : List BaseRow) → sum_by (at_key number id) rows ≡ 0 → has_key number id rows ≡ false
some_at number id [] h = refl
some_at number id (x ∷ rows) h = at (is_keyed number id x) refl (some_at number id rows)
  where
    at : (b : Bool) → is_keyed number id x ≡ b → (sum_by (at_key number id) rows ≡ 0 → has_key number id rows ≡ false) → b || has_key number id rows ≡ false
    at true e rest = let one : at_key number id x ≡ 1 = ap (λ b. cond b 1 0) e in let sum = sum_by-cons (at_key number id) x rows in absurd (omega arith)
    at false e rest = rest (let sum = sum_by-cons (at_key number id) x rows in omega arith)

once_from : (rows : List BaseRow) → ((number : ℕ) (id : List ℕ) → sum_by (at_key number id) rows ≤ 1) → AreKeyedOnce rows
once_from [] h = tt
once_from (x ∷ rows) h = (
  some_at x.item x.task rows (let one : at_key x.item x.task x ≡ 1 = ap (λ b. cond b 1 0) (own_key x) in let sum = sum_by-cons (at_key x.item x.task) x rows in let most = h x.item x.task in omega arith),
  once_from rows (λ number id. let sum = sum_by-cons (at_key number id) x rows in let most = h number id in omega arith),
)

-- rows in another order have distinct keys too
pub once_permuted : (xs ys : List BaseRow) → IsPermutation xs ys → AreKeyedOnce ys → AreKeyedOnce xs
once_permuted xs ys same once = once_from xs (λ number id. let e = sum_by-IsPermutation (at_key number id) xs ys same in let most = at_most_one ys once number id in omega arith)

-- one row more, of a key that none has
pub once_more : (rows : List BaseRow) (row : BaseRow) → AreKeyedOnce rows → has_key row.item row.task rows ≡ false → AreKeyedOnce (rows ++ row ∷ [])
once_more rows row once apart = once_permuted (rows ++ row ∷ []) (row ∷ rows) (IsPermutation-to_front rows row) (apart, once)

-- no row has the key of one behind it
pub once_apart : (rows : List BaseRow) (row : BaseRow) (later : List BaseRow) → AreKeyedOnce (rows ++ row ∷ later) → has_key row.item row.task rows ≡ false
once_apart rows row later once =
    let front = once_permuted (row ∷ (rows ++ later)) (rows ++ row ∷ later) (IsPermutation-sym (rows ++ row ∷ later) (row ∷ (rows ++ later)) (IsPermutation-middle rows row later)) once in
    (either_out (has_key row.item row.task rows) (has_key row.item row.task later) (sym (list_any-append (is_keyed row.item row.task) rows later) ∙ front.0)).0

-- ── rows that are last bases ──

bases_same : (a b : Base) → same_base a b ≡ true → a ≡ b
bases_same a b h =
    let one = both (nat_eq a.minutes b.minutes) (nat_eq a.cycles b.cycles && nat_eq a.day b.day) h in
    let two = both (nat_eq a.cycles b.cycles) (nat_eq a.day b.day) one.1 in
    ap (λ n. record a { minutes = n }) ((Decides-eqb a.minutes b.minutes).0 one.0) ∙ ap (λ n. record { minutes = b.minutes; cycles = n; day = a.day }) ((Decides-eqb a.cycles b.cycles).0 two.0) ∙ ap (λ n. record { minutes = b.minutes; cycles = b.cycles; day = n }) ((Decides-eqb a.day b.day).0 two.1)

pub base_self : (a : Base) → same_base a a ≡ true
base_self a = ap (λ b. b && (nat_eq a.cycles a.cycles && nat_eq a.day a.day)) ((Decides-eqb a.minutes a.minutes).1 refl) ∙ ap (λ b. b && nat_eq a.day a.day) ((Decides-eqb a.cycles a.cycles).1 refl) ∙ (Decides-eqb a.day a.day).1 refl

is_there : (number : ℕ) (id : List ℕ) (rows : List BaseRow) → is_some (base_in rows number id) ≡ has_key number id rows
is_there number id [] = refl
is_there number id (x ∷ rows) = at (is_keyed number id x) (is_there number id rows)
  where
    at : (b : Bool) → is_some (base_in rows number id) ≡ has_key number id rows → is_some (option_map base_in_row (cond b (Some x) (find (is_keyed number id) rows))) ≡ b || has_key number id rows
    at true rest = refl
    at false rest = rest

apart : (c : Bool) → c ≡ true → c ≡ false → ⊥
apart true p q = (cc)
apart false p q = (cc)

no_base : (o : Option Base) → is_some o ≡ false → o ≡ None
no_base None h = refl
no_base (Some b) h = (cc)

pub all_both : {X : Type 0} (p : X → Bool) (x : X) (xs : List X) → list_all p (x ∷ xs) ≡ true → (p x ≡ true) × (list_all p xs ≡ true)
all_both p x xs h = both (p x) (list_all p xs) h

module _ (book : List Entry) (b : IsBook book) where
  -- what a row says that is a last base is the book's word
  right_row : (x : BaseRow) → is_last_base book x ≡ true → base_in (base_rows book) x.item x.task ≡ Some (base_in_row x)
  right_row x h = at (item_at book x.item) refl h
    where
      by : (item : Item) → item_at book x.item ≡ Some item → (o : Option Base) → base book item x.task ≡ o → option_map_or (same_base (base_in_row x)) o false ≡ true → base_in (base_rows book) x.item x.task ≡ Some (base_in_row x)
      by item there None is h = (cc)
      by item there (Some value) is h = base_in_rows book x.item item x.task b there ∙ is ∙ ap (λ v. Some v) (sym (bases_same (base_in_row x) value h))

      at : (o : Option Item) → item_at book x.item ≡ o → option_map_or (λ item. option_map_or (same_base (base_in_row x)) (base book item x.task) false) o false ≡ true → base_in (base_rows book) x.item x.task ≡ Some (base_in_row x)
      at None is h = (cc)
      at (Some item) is h = by item is (base book item x.task) refl h

  right_rows : (rows : List BaseRow) → list_all (is_last_base book) rows ≡ true → (number : ℕ) (id : List ℕ) → has_key number id rows ≡ true → base_in rows number id ≡ base_in (base_rows book) number id
  right_rows [] h number id has = (cc)
  right_rows (x ∷ rows) h number id has =
      let parts = all_both (is_last_base book) x rows h in
      at (is_keyed number id x) refl has parts.0 (right_rows rows parts.1 number id)
    where
      at : (c : Bool) → is_keyed number id x ≡ c → c || has_key number id rows ≡ true → is_last_base book x ≡ true → (has_key number id rows ≡ true → base_in rows number id ≡ base_in (base_rows book) number id)
          → option_map base_in_row (cond c (Some x) (find (is_keyed number id) rows)) ≡ base_in (base_rows book) number id
      at true e has right rest =
          let parts = both (nat_eq x.item number) (same_text x.task id) e in
          sym (right_row x right) ∙ ap (λ n. base_in (base_rows book) n x.task) ((Decides-eqb x.item number).0 parts.0) ∙ ap (base_in (base_rows book) number) ((text_same x.task id).0 parts.1)
      at false e has right rest = rest has

  -- ── all tasks that have a base have a row ──

  stated_covers : (rows : List BaseRow) (number : ℕ) (id : List ℕ) (openings : List OpeningRow) → list_all (is_stated_in rows) openings ≡ true → list_any (states number id) openings ≡ true → has_key number id rows ≡ true
  stated_covers rows number id [] h any = (cc)
  stated_covers rows number id (o ∷ openings) h any =
      let parts = all_both (is_stated_in rows) o openings h in at (states number id o) refl any parts.0 (stated_covers rows number id openings parts.1)
    where
      at : (c : Bool) → states number id o ≡ c → c || list_any (states number id) openings ≡ true → is_stated_in rows o ≡ true → (list_any (states number id) openings ≡ true → has_key number id rows ≡ true) → has_key number id rows ≡ true
      at true e any here rest =
          let parts = both (nat_eq o.item number) (same_text o.task id) e in
          ap (λ n. has_key n id rows) (sym ((Decides-eqb o.item number).0 parts.0)) ∙ ap (λ (t : List ℕ). has_key o.item t rows) (sym ((text_same o.task id).0 parts.1)) ∙ here
      at false e any here rest = rest any

  certified_covers : (rows : List BaseRow) (number : ℕ) (id : List ℕ) (lines : List ReleaseLineRow) → list_all (is_certified_in rows) lines ≡ true → list_any (certifies number id) lines ≡ true → has_key number id rows ≡ true
  certified_covers rows number id [] h any = (cc)
  certified_covers rows number id (l ∷ lines) h any =
      let parts = all_both (is_certified_in rows) l lines h in at (certifies number id l) refl any (of l.item l.task parts.0) (certified_covers rows number id lines parts.1)
    where
      of : (item : Option ℕ) (task : Option (List ℕ)) → option_map_or (λ i. option_map_or (λ t. has_key i t rows) task true) item true ≡ true → option_map_or (λ i. option_map_or (λ t. nat_eq i number && same_text t id) task false) item false ≡ true → has_key number id rows ≡ true
      of None task h is = (cc)
      of (Some i) None h is = (cc)
      of (Some i) (Some t) h is =
          let parts = both (nat_eq i number) (same_text t id) is in
          ap (λ n. has_key n id rows) (sym ((Decides-eqb i number).0 parts.0)) ∙ ap (λ (s : List ℕ). has_key i s rows) (sym ((text_same t id).0 parts.1)) ∙ h

      at : (c : Bool) → certifies number id l ≡ c → c || list_any (certifies number id) lines ≡ true → (certifies number id l ≡ true → has_key number id rows ≡ true) → (list_any (certifies number id) lines ≡ true → has_key number id rows ≡ true) → has_key number id rows ≡ true
      at true e any here rest = here e
      at false e any here rest = rest any

  either_of : (p q : Bool) (P : Type 0) → (p ≡ true → P) → (q ≡ true → P) → p || q ≡ true → P
  either_of true q P f g h = f refl
  either_of false q P f g h = g h

  -- rows that are right, distinct and complete are the last bases
  pub they_are : (rows : List BaseRow) → AreKeyedOnce rows → list_all (is_last_base book) rows ≡ true → list_all (is_stated_in rows) (opening_rows book) ≡ true → list_all (is_certified_in rows) (release_line_rows book) ≡ true → IsPermutation rows (base_rows book)
  they_are rows once right stated certified = bases_decided book rows once (λ number id. at number id (has_key number id rows) refl (has_key number id (base_rows book)) refl)
    where
      at : (number : ℕ) (id : List ℕ) (here : Bool) → has_key number id rows ≡ here → (there : Bool) → has_key number id (base_rows book) ≡ there → base_in rows number id ≡ base_in (base_rows book) number id
      at number id true is there was = right_rows rows right number id is
      at number id false is true was =
          let covered = either_of (list_any (states number id) (opening_rows book)) (list_any (certifies number id) (release_line_rows book)) (has_key number id rows ≡ true)
          (stated_covers rows number id (opening_rows book) stated) (certified_covers rows number id (release_line_rows book) certified) (book_says book b number id ∙ was) in absurd (apart (has_key number id rows) covered is)
      at number id false is false was = no_base (base_in rows number id) (is_there number id rows ∙ is) ∙ sym (no_base (base_in (base_rows book) number id) (is_there number id (base_rows book) ∙ was))

  -- ── the last bases are right, distinct and complete ──

  last_of : (x : ℕ × Item) → item_at book x.0 ≡ Some x.1 → (ids : List (List ℕ)) → AllByRecursion (λ row. is_last_base book row ≡ true) (filter_map (base_row book x) ids)
  last_of x there [] = tt
  last_of x there (id ∷ ids) = at (base book x.1 id) refl (last_of x there ids)
    where
      at : (o : Option Base) → base book x.1 id ≡ o → AllByRecursion (λ row. is_last_base book row ≡ true) (filter_map (base_row book x) ids)
          → AllByRecursion (λ row. is_last_base book row ≡ true) (cons_option (option_map (λ v. base_row_with x.0 id v) o) (filter_map (base_row book x) ids))
      at None is rest = rest
      at (Some value) is rest =
          (ap (λ o. option_map_or (λ item. option_map_or (same_base value) (base book item id) false) o false) there ∙ ap (λ o. option_map_or (same_base value) o false) is ∙ base_self value, rest)

  last_all : (xs : List (ℕ × Item)) → AllByRecursion (λ (x : ℕ × Item). item_at book x.0 ≡ Some x.1) xs → AllByRecursion (λ row. is_last_base book row ≡ true) (flat_map (base_rows_of book) xs)
  last_all [] h = tt
  last_all (x ∷ xs) h = all_append (λ row. is_last_base book row ≡ true) (base_rows_of book x) (flat_map (base_rows_of book) xs) (last_of x h.0 (tasks_accomplished book x.1)) (last_all xs h.1)

  all_true : {X : Type 0} (p : X → Bool) (xs : List X) → AllByRecursion (λ x. p x ≡ true) xs → list_all p xs ≡ true
  all_true p [] h = refl
  all_true p (x ∷ xs) h = ap (λ c. c && list_all p xs) h.0 ∙ all_true p xs h.1

  pub right_of : (rows : List BaseRow) → IsPermutation rows (base_rows book) → list_all (is_last_base book) rows ≡ true
  right_of rows same =
      all_true (is_last_base book) rows (recursion_from_All (λ row. is_last_base book row ≡ true) rows
      (All-permutation (λ row. is_last_base book row ≡ true) (base_rows book) rows (IsPermutation-sym rows (base_rows book) same) (All-from_recursion (λ row. is_last_base book row ≡ true) (base_rows book) (last_all (items book) (items_numbered book b)))))

  pub stated_all : (rows : List BaseRow) (openings : List OpeningRow) → ((number : ℕ) (id : List ℕ) → list_any (states number id) openings ≡ true → has_key number id rows ≡ true) → list_all (is_stated_in rows) openings ≡ true
  stated_all rows [] h = refl
  stated_all rows (o ∷ openings) h =
      ap (λ c. c && list_all (is_stated_in rows) openings) (h o.item o.task (ap (λ c. c || list_any (states o.item o.task) openings) (own o)))
      ∙ stated_all rows openings (λ number id any. h number id (later (states number id o) (list_any (states number id) openings) any))
    where
      own : (o : OpeningRow) → states o.item o.task o ≡ true
      own o = ap (λ c. c && same_text o.task o.task) ((Decides-eqb o.item o.item).1 refl) ∙ (text_same o.task o.task).1 refl

      later : (p q : Bool) → q ≡ true → p || q ≡ true
      later true q h = refl
      later false q h = h

  pub certified_all : (rows : List BaseRow) (lines : List ReleaseLineRow) → ((number : ℕ) (id : List ℕ) → list_any (certifies number id) lines ≡ true → has_key number id rows ≡ true) → list_all (is_certified_in rows) lines ≡ true
  certified_all rows [] h = refl
  certified_all rows (l ∷ lines) h =
      ap (λ c. c && list_all (is_certified_in rows) lines) (here l.item l.task (λ number id is. h number id (first (certifies number id l) (list_any (certifies number id) lines) is)))
      ∙ certified_all rows lines (λ number id any. h number id (later (certifies number id l) (list_any (certifies number id) lines) any))
    where
      first : (p q : Bool) → p ≡ true → p || q ≡ true
      first p q h = ap (λ c. c || q) h

      later : (p q : Bool) → q ≡ true → p || q ≡ true
      later true q h = refl
      later false q h = h

      here : (item : Option ℕ) (task : Option (List ℕ)) → ((number : ℕ) (id : List ℕ) → option_map_or (λ i. option_map_or (λ t. nat_eq i number && same_text t id) task false) item false ≡ true → has_key number id rows ≡ true)
          → option_map_or (λ i. option_map_or (λ t. has_key i t rows) task true) item true ≡ true
      here None task k = refl
      here (Some i) None k = refl
      here (Some i) (Some t) k = k i t (ap (λ c. c && same_text t t) ((Decides-eqb i i).1 refl) ∙ (text_same t t).1 refl)

  -- the keys of rows that are the last bases are those of the book
  key_same : (rows : List BaseRow) → IsPermutation rows (base_rows book) → (number : ℕ) (id : List ℕ) → rows_say number id (opening_rows book) (release_line_rows book) ≡ has_key number id rows
  key_same rows same number id = book_says book b number id ∙ sym (list_any-IsPermutation (is_keyed number id) rows (base_rows book) same)

  -- rows that are right and complete, and have distinct keys, are the last bases
  if_right : (rows : List BaseRow) → AreKeyedOnce rows → list_all (is_last_base book) rows && (list_all (is_stated_in rows) (opening_rows book) && list_all (is_certified_in rows) (release_line_rows book)) ≡ true → IsPermutation rows (base_rows book)
  if_right rows once h =
      let one = both (list_all (is_last_base book) rows) (list_all (is_stated_in rows) (opening_rows book) && list_all (is_certified_in rows) (release_line_rows book)) h in
      let two = both (list_all (is_stated_in rows) (opening_rows book)) (list_all (is_certified_in rows) (release_line_rows book)) one.1 in
      they_are rows once one.0 two.0 two.1

  -- rows that are the last bases are right and complete
  right_if : (rows : List BaseRow) → IsPermutation rows (base_rows book) → list_all (is_last_base book) rows && (list_all (is_stated_in rows) (opening_rows book) && list_all (is_certified_in rows) (release_line_rows book)) ≡ true
  right_if rows same =
      ap (λ c. c && (list_all (is_stated_in rows) (opening_rows book) && list_all (is_certified_in rows) (release_line_rows book))) (right_of rows same)
      ∙ ap (λ c. c && list_all (is_certified_in rows) (release_line_rows book)) (stated_all rows (opening_rows book) (λ number id any. sym (key_same rows same number id) ∙ ap (λ c. c || list_any (certifies number id) (release_line_rows book)) any))
      ∙ certified_all rows (release_line_rows book) (λ number id any. sym (key_same rows same number id) ∙ or_swap (list_any (states number id) (opening_rows book)) (list_any (certifies number id) (release_line_rows book)) ∙ ap (λ c. c || list_any (states number id) (opening_rows book)) any)

  pub decided : (rows : List BaseRow) → AreKeyedOnce rows → Decides (list_all (is_last_base book) rows && (list_all (is_stated_in rows) (opening_rows book) && list_all (is_certified_in rows) (release_line_rows book))) (IsPermutation rows (base_rows book))
  decided rows once = (if_right rows once, right_if rows)

  -- rows that are the last bases have distinct keys
  pub once_if : (rows : List BaseRow) → IsPermutation rows (base_rows book) → AreKeyedOnce rows
  once_if rows same = once_permuted rows (base_rows book) same (base_rows_once book)
