-- The last bases of tasks, gathered one after another: where the tasks are those that a book's openings state and its releases certify, they are its last bases.
use Rattle.std.proofs.Common.{refl, sym, ap, subst, ◌∙◌, ◌≡◌, ℕ, List, [], ◌∷◌, ◌++◌, map, length, Bool, true, false, ◌&&◌, ◌||◌, Option, Some, None, nat_eq, arith, append_assoc, append-nil}
use Rattle.std.specs.Prelude.{IfOk, IsPermutation, Result, Err, Ok, is_some, unwrap_or}
use Rattle.std.specs.BTreeMap.{BTreeMap, Updates}
use Rattle.std.specs.List.{cons_option, filter_map, list_all, list_any}
use Rattle.std.specs.Option.{option_and_then, option_map, option_map_or}
use Rattle.std.proofs.lemmas.Bool.Decides.{Decides-eqb}
use Rattle.std.proofs.lemmas.List.Folds.{list_all-append, list_any-append}
use Rattle.std.proofs.lemmas.List.Sorted.{IsPermutation-refl}
use Rattle.mx_base.specs.declared.amounts.Base.{Base}
use Rattle.mx_book.specs.commands.Act.{Entry}
use Rattle.mx_book.specs.commands.Same.{same_text}
use Rattle.mx_book.specs.declared.commands.item.Item.{Item}
use Rattle.mx_book.proofs.CommandsProofs.SameLemmas.{text_same}
use Rattle.mx_book.specs.Base.{base}
use Rattle.mx_book.specs.Book.{IsBook}
use Rattle.mx_base.specs.rows.Rows.{base_in_row, base_row_with}
use Rattle.mx_base.specs.declared.rows.rows.BaseRow.{BaseRow}
use Rattle.mx_base.specs.declared.rows.rows.OpeningRow.{OpeningRow}
use Rattle.mx_base.specs.declared.rows.rows.ReleaseLineRow.{ReleaseLineRow}
use Rattle.mx_registers.specs.Left.{all_rows}
use Rattle.mx_registers.specs.Names.{item_at}
use Rattle.mx_registers.specs.Registers.{opening_rows, release_line_rows}
use Rattle.mx_indexed_book.specs.maps.Maps.{held}
use Rattle.mx_registers.specs.kept.Bases.{base_row, base_rows, is_keyed}
use Rattle.mx_registers.proofs.KeptProofs.DoneLemmas.{both}
use Rattle.mx_indexed_book.specs.moments.Done.{task_cmp}
use Rattle.mx_verify.specs.merged.Keys.{AreKeys}
use Rattle.mx_registers.specs.file.Bases.{certifies, has_key, is_last_base, same_base, states}
use Rattle.mx_verify.specs.derived.Kept.{AreBasesAt, AreKeptOf, base_row_at, is_key, key_certified, key_stated}
use Rattle.mx_verify.specs.merged.Merging.{merging}
use Rattle.mx_registers.specs.file.Tables.{AreFilePut}
use Rattle.mx_verify.specs.declared.derived.kept.KeptRows.{KeptRows}
use Rattle.mx_verify.specs.declared.derived.kept.Unkept.{Unkept}
use Rattle.mx_registers.specs.declared.file.file_rows.FileRows.{FileRows}
use Rattle.mx_registers.proofs.FileProofs.BaseLemmas.{all_both, base_self, book_says, certified_all, once_more, right_of, rows_say, stated_all, they_are}
use Rattle.mx_verify.proofs.MergedProofs.KeyLemmas.{keys_more}

-- ── the row of one task ──

-- what the row of the last base of a task says
record IsRowAt (book : List Entry) (key : ℕ × List ℕ) (row : BaseRow) : Type 0 where
  item : row.item ≡ key.0
  task : row.task ≡ key.1
  right : is_last_base book row ≡ true

row_at : (book : List Entry) (key : ℕ × List ℕ) (row : BaseRow) → base_row_at book key ≡ Some row → IsRowAt book key row
row_at book key row h = of_item (item_at book key.0) refl h
  where
    of_base : (item : Item) → item_at book key.0 ≡ Some item → (o : Option Base) → base book item key.1 ≡ o → option_map (λ b. base_row_with key.0 key.1 b) o ≡ Some row → IsRowAt book key row
    of_base item there None is h = (cc)
    of_base item there (Some value) is h =
        subst (IsRowAt book key) (ap (λ o. unwrap_or o row) h)
        (record {
          item = refl;
          task = refl;
          right = ap (λ o. option_map_or (λ item. option_map_or (same_base value) (base book item key.1) false) o false) there ∙ ap (λ o. option_map_or (same_base value) o false) is ∙ base_self value;
        })

    of_item : (o : Option Item) → item_at book key.0 ≡ o → option_and_then (λ item. base_row book (key.0, item) key.1) o ≡ Some row → IsRowAt book key row
    of_item None there h = (cc)
    of_item (Some item) there h = of_base item there (base book item key.1) refl h

-- the task of a row that is a last base has one
has_row : (book : List Entry) (row : BaseRow) → is_last_base book row ≡ true → is_some (base_row_at book (row.item, row.task)) ≡ true
has_row book row h = of_item (item_at book row.item) refl h
  where
    of_base : (o : Option Base) → option_map_or (same_base (base_in_row row)) o false ≡ true → is_some (option_map (λ b. base_row_with row.item row.task b) o) ≡ true
    of_base None h = (cc)
    of_base (Some value) h = refl

    of_item : (o : Option Item) → item_at book row.item ≡ o → option_map_or (λ item. option_map_or (same_base (base_in_row row)) (base book item row.task) false) o false ≡ true → is_some (option_and_then (λ item. base_row book (row.item, item) row.task) o) ≡ true
    of_item None is h = (cc)
    of_item (Some item) is h = of_base (base book item row.task) h

has_rows : (book : List Entry) (rows : List BaseRow) → list_all (is_last_base book) rows ≡ true → (number : ℕ) (id : List ℕ) → has_key number id rows ≡ true → is_some (base_row_at book (number, id)) ≡ true
has_rows book [] h number id has = (cc)
has_rows book (x ∷ rows) h number id has =
    let parts = all_both (is_last_base book) x rows h in at (is_keyed number id x) refl has parts.0 (has_rows book rows parts.1 number id)
  where
    at : (c : Bool) → is_keyed number id x ≡ c → c || has_key number id rows ≡ true → is_last_base book x ≡ true → (has_key number id rows ≡ true → is_some (base_row_at book (number, id)) ≡ true) → is_some (base_row_at book (number, id)) ≡ true
    at true e has right rest =
        let parts = both (nat_eq x.item number) (same_text x.task id) e in
        ap (λ n. is_some (base_row_at book (n, id))) (sym ((Decides-eqb x.item number).0 parts.0)) ∙ ap (λ (t : List ℕ). is_some (base_row_at book (x.item, t))) (sym ((text_same x.task id).0 parts.1)) ∙ has_row book x right
    at false e has right rest = rest has

-- ── one task more ──

same_key : (number : ℕ) (id : List ℕ) (key : ℕ × List ℕ) → is_key number id key ≡ true → (key.0 ≡ number) × (key.1 ≡ id)
same_key number id key h =
    let parts = both (nat_eq key.0 number) (same_text key.1 id) h in ((Decides-eqb key.0 number).0 parts.0, (text_same key.1 id).0 parts.1)

before_or_last : (p q : Bool) (P : Type 0) → (p ≡ true → P) → (q ≡ true → P) → p || (q || false) ≡ true → P
before_or_last true q P f g h = f refl
before_or_last false true P f g h = g refl
before_or_last false false P f g h = (cc)

-- rows in which all tasks so far that have a base have a row, and one task more
complete_more : (book : List Entry) (keys : List (ℕ × List ℕ)) (key : ℕ × List ℕ) (rows more : List BaseRow) → AreBasesAt book keys rows → ((number : ℕ) (id : List ℕ) → has_key number id rows ≡ true → has_key number id more ≡ true) → (is_some (base_row_at book key) ≡ true → has_key key.0 key.1 more ≡ true)
    → (number : ℕ) (id : List ℕ) → list_any (is_key number id) (keys ++ key ∷ []) ≡ true → is_some (base_row_at book (number, id)) ≡ true → has_key number id more ≡ true
complete_more book keys key rows more b kept here number id any some =
    before_or_last (list_any (is_key number id) keys) (is_key number id key) (has_key number id more ≡ true)
    (λ p. kept number id (b.complete number id p some))
    (λ q. let same = same_key number id key q in
    ap (λ n. has_key n id more) (sym same.0) ∙ ap (λ (t : List ℕ). has_key key.0 t more) (sym same.1)
    ∙ here (ap (λ n. is_some (base_row_at book (n, key.1))) same.0 ∙ ap (λ (t : List ℕ). is_some (base_row_at book (number, t))) same.1 ∙ some))
    (sym (list_any-append (is_key number id) keys (key ∷ [])) ∙ any)

-- a task that has a row already
pub met_before : (book : List Entry) (keys : List (ℕ × List ℕ)) (key : ℕ × List ℕ) (rows : List BaseRow) (met : BTreeMap (ℕ × List ℕ) Bool) → held task_cmp false met key ≡ true → AreBasesAt book keys rows → AreKeys rows met → AreBasesAt book (keys ++ key ∷ []) rows × AreKeys rows met
met_before book keys key rows met has b are = (
  record {
    once = b.once;
    right = b.right;
    complete = complete_more book keys key rows rows b (λ number id h. h) (λ some. sym (are key.0 key.1) ∙ has);
  },
  are,
)

-- a task that has no base
pub has_none : (book : List Entry) (keys : List (ℕ × List ℕ)) (key : ℕ × List ℕ) (rows : List BaseRow) (met : BTreeMap (ℕ × List ℕ) Bool) → base_row_at book key ≡ None → AreBasesAt book keys rows → AreKeys rows met → AreBasesAt book (keys ++ key ∷ []) rows × AreKeys rows met
has_none book keys key rows met none b are = (
  record {
    once = b.once;
    right = b.right;
    complete = complete_more book keys key rows rows b (λ number id h. h) (λ some. absurd (no (sym (ap is_some none) ∙ some)));
  },
  are,
)
  where
    no : false ≡ true → ⊥
    no e = (cc)

-- a task that has a base and no row yet
pub one_base : (book : List Entry) (keys : List (ℕ × List ℕ)) (key : ℕ × List ℕ) (row : BaseRow) (rows : List BaseRow) (met more : BTreeMap (ℕ × List ℕ) Bool) → held task_cmp false met key ≡ false → base_row_at book key ≡ Some row → Updates task_cmp met more key (Some true) → AreBasesAt book keys rows → AreKeys rows met
    → AreBasesAt book (keys ++ key ∷ []) (rows ++ row ∷ []) × AreKeys (rows ++ row ∷ []) more
one_base book keys key row rows met more apart is updates b are =
    let row_is = row_at book key row is in
    let alone : has_key row.item row.task rows ≡ false = ap (λ n. has_key n row.task rows) row_is.item ∙ ap (λ (t : List ℕ). has_key key.0 t rows) row_is.task ∙ sym (are key.0 key.1) ∙ apart in (
      record {
        once = once_more rows row b.once alone;
        right = list_all-append (is_last_base book) rows (row ∷ []) ∙ ap (λ c. c && (is_last_base book row && true)) b.right ∙ ap (λ c. c && true) row_is.right;
        complete = complete_more book keys key rows (rows ++ row ∷ []) b
            (λ number id h. list_any-append (is_keyed number id) rows (row ∷ []) ∙ ap (λ c. c || (is_keyed number id row || false)) h)
            (λ some. list_any-append (is_keyed key.0 key.1) rows (row ∷ []) ∙ last (has_key key.0 key.1 rows) (is_keyed key.0 key.1 row)
            (ap (λ n. nat_eq n key.0 && same_text row.task key.1) row_is.item ∙ ap (λ c. c && same_text row.task key.1) ((Decides-eqb key.0 key.0).1 refl) ∙ (text_same row.task key.1).1 row_is.task));
      },
      keys_more rows row met more (subst (λ (k : ℕ × List ℕ). Updates task_cmp met more k (Some true)) (sym (ap (λ n. (n, row.task)) row_is.item ∙ ap (λ (t : List ℕ). (key.0, t)) row_is.task)) updates) are,
    )
  where
    last : (p q : Bool) → q ≡ true → p || (q || false) ≡ true
    last true q h = refl
    last false q h = ap (λ c. c || false) h

-- ── all tasks ──

-- no rows are the last bases of no tasks
pub none_yet : (book : List Entry) → AreBasesAt book [] []
none_yet book = record { once = tt; right = refl; complete = λ number id any some. absurd (no any) }
  where
    no : false ≡ true → ⊥
    no e = (cc)

-- the rows are the last bases of the tasks so far, whatever tasks there were before
pub record Gathers (book : List Entry) (keys rest : List (ℕ × List ℕ)) (before : List (ℕ × List ℕ)) (rows : List BaseRow) (met : BTreeMap (ℕ × List ℕ) Bool) : Type 0 where
  pub passed : List (ℕ × List ℕ)
  pub keys_are : keys ≡ passed ++ rest
  pub bases : AreBasesAt book (before ++ passed) rows × AreKeys rows met

pub begins : (book : List Entry) (keys before : List (ℕ × List ℕ)) (rows : List BaseRow) (met : BTreeMap (ℕ × List ℕ) Bool) → AreBasesAt book before rows → AreKeys rows met → Gathers book keys keys before rows met
begins book keys before rows met b are = record { passed = []; keys_are = refl; bases = (subst (λ (all : List (ℕ × List ℕ)). AreBasesAt book all rows) (sym (append-nil before)) b, are) }

pub goes_on : (book : List Entry) (keys rest later : List (ℕ × List ℕ)) (key : ℕ × List ℕ) (before : List (ℕ × List ℕ)) (rows rows_next : List BaseRow) (met met_next : BTreeMap (ℕ × List ℕ) Bool) → rest ≡ key ∷ later
    → ((all : List (ℕ × List ℕ)) → AreBasesAt book all rows → AreKeys rows met → AreBasesAt book (all ++ key ∷ []) rows_next × AreKeys rows_next met_next)
    → Gathers book keys rest before rows met → Gathers book keys later before rows_next met_next
goes_on book keys rest later key before rows rows_next met met_next is adds g =
    let next = adds (before ++ g.passed) g.bases.0 g.bases.1 in record {
      passed = g.passed ++ key ∷ [];
      keys_are = g.keys_are ∙ ap (λ xs. g.passed ++ xs) is ∙ sym (append_assoc g.passed (key ∷ []) later);
      bases = (subst (λ (all : List (ℕ × List ℕ)). AreBasesAt book all rows_next) (append_assoc before g.passed (key ∷ [])) next.0, next.1);
    }

no_keys : (keys : List (ℕ × List ℕ)) → length keys ≡ 0 → keys ≡ []
no_keys [] h = refl
no_keys (key ∷ keys) h = absurd (omega arith)

pub ends : (book : List Entry) (keys rest before : List (ℕ × List ℕ)) (rows : List BaseRow) (met : BTreeMap (ℕ × List ℕ) Bool) → length rest ≡ 0 → Gathers book keys rest before rows met → AreBasesAt book (before ++ keys) rows × AreKeys rows met
ends book keys rest before rows met none g =
    let all : g.passed ≡ keys = sym (g.keys_are ∙ ap (λ xs. g.passed ++ xs) (no_keys rest none) ∙ append-nil g.passed) in
    (subst (λ (xs : List (ℕ × List ℕ)). AreBasesAt book (before ++ xs) rows) all g.bases.0, g.bases.1)

-- ── the tasks of a book ──

stated_keys : (number : ℕ) (id : List ℕ) (openings : List OpeningRow) → list_any (is_key number id) (map key_stated openings) ≡ list_any (states number id) openings
stated_keys number id [] = refl
stated_keys number id (row ∷ openings) = ap (λ c. states number id row || c) (stated_keys number id openings)

certified_keys : (number : ℕ) (id : List ℕ) (lines : List ReleaseLineRow) → list_any (is_key number id) (filter_map key_certified lines) ≡ list_any (certifies number id) lines
certified_keys number id [] = refl
certified_keys number id (row ∷ lines) = at row.item row.task (certified_keys number id lines)
  where
    at : (item : Option ℕ) (task : Option (List ℕ)) → list_any (is_key number id) (filter_map key_certified lines) ≡ list_any (certifies number id) lines
        → list_any (is_key number id) (cons_option (option_and_then (λ i. option_map (λ t. (i, t)) task) item) (filter_map key_certified lines))
        ≡ option_map_or (λ i. option_map_or (λ t. nat_eq i number && same_text t id) task false) item false || list_any (certifies number id) lines
    at None task rest = rest
    at (Some i) None rest = rest
    at (Some i) (Some t) rest = ap (λ c. (nat_eq i number && same_text t id) || c) rest

keys_say : (number : ℕ) (id : List ℕ) (openings : List OpeningRow) (lines : List ReleaseLineRow) → list_any (is_key number id) (map key_stated openings ++ filter_map key_certified lines) ≡ rows_say number id openings lines
keys_say number id openings lines =
    list_any-append (is_key number id) (map key_stated openings) (filter_map key_certified lines)
    ∙ ap (λ c. c || list_any (is_key number id) (filter_map key_certified lines)) (stated_keys number id openings)
    ∙ ap (λ c. list_any (states number id) openings || c) (certified_keys number id lines)

-- the last bases of the tasks that a book's openings state and its releases certify are its last bases
all_gathered : (book : List Entry) → IsBook book → (rows : List BaseRow) → AreBasesAt book (map key_stated (opening_rows book) ++ filter_map key_certified (release_line_rows book)) rows → IsPermutation rows (base_rows book)
all_gathered book is rows b =
    they_are book is rows b.once b.right
    (stated_all book is rows (opening_rows book) (λ number id any. covers number id (ap (λ c. c || list_any (certifies number id) (release_line_rows book)) any)))
    (certified_all book is rows (release_line_rows book) (λ number id any. covers number id (second (list_any (states number id) (opening_rows book)) (list_any (certifies number id) (release_line_rows book)) any)))
  where
    second : (p q : Bool) → q ≡ true → p || q ≡ true
    second true q h = refl
    second false q h = h

    covers : (number : ℕ) (id : List ℕ) → rows_say number id (opening_rows book) (release_line_rows book) ≡ true → has_key number id rows ≡ true
    covers number id h =
        b.complete number id (keys_say number id (opening_rows book) (release_line_rows book) ∙ h)
        (has_rows book (base_rows book) (right_of book is (base_rows book) (IsPermutation-refl (base_rows book))) number id (sym (book_says book is number id) ∙ h))

pub gathered : (book : List Entry) → IsBook book → (openings : List OpeningRow) (lines : List ReleaseLineRow) (stated certified : List (ℕ × List ℕ)) (rows : List BaseRow) → openings ≡ opening_rows book → lines ≡ release_line_rows book → stated ≡ map key_stated openings → certified ≡ filter_map key_certified lines
    → AreBasesAt book (stated ++ certified) rows → IsPermutation rows (base_rows book)
gathered book is openings lines stated certified rows o l s c b =
    all_gathered book is rows
    (subst (λ (keys : List (ℕ × List ℕ)). AreBasesAt book keys rows)
    (ap (λ (keys : List (ℕ × List ℕ)). keys ++ certified) (s ∙ ap (map key_stated) o) ∙ ap (λ (keys : List (ℕ × List ℕ)). map key_stated (opening_rows book) ++ keys) (c ∙ ap (filter_map key_certified) l)) b)

-- ── what is answered ──

-- what is kept of the book that rows give which are put in order
pub of_merged : (rows put : FileRows) (result : Result KeptRows Unkept) → AreFilePut rows put → IfOk result (λ kept. (book : List Entry) × IsBook book × (merging [] put.registers.entries.items (all_rows put.registers) ≡ Ok book) × AreKeptOf kept book)
    → IfOk result (λ kept. (found : FileRows) × (book : List Entry) × AreFilePut rows found × (merging [] found.registers.entries.items (all_rows found.registers) ≡ Ok book) × AreKeptOf kept book)
of_merged rows put (Ok kept) p h = (put, h.0, p, h.2, h.3)
of_merged rows put (Err why) p h = tt
