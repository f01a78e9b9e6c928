-- The rows with the number of an entry of a book.
use Rattle.std.proofs.Common.{arith, ◌≡◌, ℕ, zero, suc, ◌+◌, ◌<◌, Bool, true, false, cond, nat_eq, List, [], ◌∷◌, ◌++◌, filter, length, take, Option, Some, refl, sym, ap, ap₂, subst, ◌∙◌, length-append, append_assoc, append-nil, add-one}
use Rattle.std.specs.Prelude.{slice_get}
use Rattle.std.specs.List.{AllByRecursion, list_all}
use Rattle.std.specs.Option.{option_map_or}
use Rattle.std.proofs.lemmas.Bool.Decides.{nat_tests}
use Rattle.std.proofs.lemmas.List.Elements.{filter-append}
use Rattle.mx_book.specs.commands.Act.{Entry}
use Rattle.mx_book.specs.commands.Same.{same_text}
use Rattle.mx_book.specs.commands.Shape.{has_shape}
use Rattle.mx_book.specs.Book.{IsBook, entry_at, is_book_from, is_new}
use Rattle.mx_book.specs.Judge.{judge, known_from}
use Rattle.mx_book.proofs.JudgeLemmas.{both_true}
use Rattle.mx_registers.specs.Registers.{gives, next}
use Rattle.mx_row_rules.specs.found.Given.{Register, rows_of, found}
use Rattle.mx_row_rules.proofs.FoundProofs.ListLemmas.{filter_all, filter_none}
use Rattle.mx_row_rules.proofs.FoundProofs.RowLemmas.{IsRegister, Named, named, named_stays}

take_seam : (pre later : List Entry) → take (length pre) (pre ++ later) ≡ pre
take_seam [] later = refl
take_seam (x ∷ pre) later = ap (λ (l : List Entry). x ∷ l) (take_seam pre later)

pub get_seam : (pre post : List Entry) (e : Entry) → slice_get (pre ++ e ∷ post) (length pre) ≡ Some e
get_seam [] post e = refl
get_seam (x ∷ pre) post e = get_seam pre post e

-- the entries around the one with a number, which is new behind those before it
pub record IsAt (whole : List Entry) (n : ℕ) (e : Entry) : Type 0 where
  pub pre : List Entry
  pub post : List Entry
  pub is : whole ≡ pre ++ e ∷ post
  pub number : n ≡ length pre + 1
  pub new : is_new (judge pre e) ≡ true

at_from : (e : Entry) (before later : List Entry) (k : ℕ) → is_book_from before later ≡ true → slice_get later k ≡ Some e → IsAt (before ++ later) (length before + 1 + k) e
at_from e before [] k judged h = absurd cc
at_from e before (x ∷ later) zero judged h =
    let same : x ≡ e = cc in
    subst (λ y. IsAt (before ++ x ∷ later) (length before + 1 + 0) y) same (record {
      pre = before;
      post = later;
      is = refl;
      number = omega arith;
      new = (both_true (is_new (judge before x)) (is_book_from (before ++ x ∷ []) later) judged).0;
    })
at_from e before (x ∷ later) (suc k) judged h =
    let one : length (before ++ x ∷ []) ≡ length before + 1 = length-append before (x ∷ []) in
    let n : length (before ++ x ∷ []) + 1 + k ≡ length before + 1 + suc k = omega arith in
    subst (λ w. IsAt w (length before + 1 + suc k) e) (append_assoc before (x ∷ []) later)
    (subst (λ m. IsAt ((before ++ x ∷ []) ++ later) m e) n (at_from e (before ++ x ∷ []) later k (both_true (is_new (judge before x)) (is_book_from (before ++ x ∷ []) later) judged).1 h))

pub entry_is_at : (book : List Entry) → IsBook book → (n : ℕ) (e : Entry) → entry_at book n ≡ Some e → IsAt book n e
entry_is_at book b zero e h = absurd cc
entry_is_at book b (suc k) e h = let n : 0 + 1 + k ≡ suc k = omega arith in subst (λ m. IsAt book m e) n (at_from e [] book k b.judged h)

some_pair : (m n : ℕ) (x e : Entry) → ◌≡◌ {A = Option (ℕ × Entry)} (Some (m, x)) (Some (n, e)) → (m ≡ n) × (x ≡ e)
some_pair m n x e h = let p : ◌≡◌ {A = ℕ × Entry} (m, x) (n, e) = cc in (ap (λ (q : ℕ × Entry). q.0) p, ap (λ (q : ℕ × Entry). q.1) p)

known_entry : (doc : List ℕ) (n : ℕ) (e : Entry) (before later : List Entry) → known_from doc (length before + 1) later ≡ Some (n, e) → (entry_at (before ++ later) n ≡ Some e) × (same_text e.doc doc ≡ true)
known_entry doc n e before [] h = absurd cc
known_entry doc n e before (x ∷ later) h = at (same_text x.doc doc) refl h (known_entry doc n e (before ++ x ∷ []) later)
  where
    at : (b : Bool) → same_text x.doc doc ≡ b → cond b (Some (length before + 1, x)) (known_from doc (length before + 1 + 1) later) ≡ Some (n, e)
        → (known_from doc (length (before ++ x ∷ []) + 1) later ≡ Some (n, e) → (entry_at ((before ++ x ∷ []) ++ later) n ≡ Some e) × (same_text e.doc doc ≡ true))
        → (entry_at (before ++ x ∷ later) n ≡ Some e) × (same_text e.doc doc ≡ true)
    at true same g rest =
        let both = some_pair (length before + 1) n x e g in (
          ap (entry_at (before ++ x ∷ later)) (sym both.0 ∙ add-one (length before)) ∙ get_seam before later x ∙ ap (λ (y : Entry). Some y) both.1,
          subst (λ (y : Entry). same_text y.doc doc ≡ true) both.1 same,
        )
    at false other g rest =
        let one : length (before ++ x ∷ []) ≡ length before + 1 = length-append before (x ∷ []) in
        subst (λ (w : List Entry). (entry_at w n ≡ Some e) × (same_text e.doc doc ≡ true)) (append_assoc before (x ∷ []) later) (rest (ap (λ m. known_from doc (m + 1) later) one ∙ g))

-- the entry that has a document is the one with its number, and has the document
pub known_is_at : (book : List Entry) → IsBook book → (doc : List ℕ) (n : ℕ) (e : Entry) → known_from doc 1 book ≡ Some (n, e) → IsAt book n e
known_is_at book b doc n e h = entry_is_at book b n e (known_entry doc n e [] book h).0

pub known_named : (book : List Entry) (doc : List ℕ) (n : ℕ) (e : Entry) → known_from doc 1 book ≡ Some (n, e) → same_text e.doc doc ≡ true
known_named book doc n e h = (known_entry doc n e [] book h).1

-- ── its shape ──

shape_in : (pre post : List Entry) (e : Entry) → list_all has_shape (pre ++ e ∷ post) ≡ true → has_shape e ≡ true
shape_in [] post e h = (both_true (has_shape e) (list_all has_shape post) h).0
shape_in (x ∷ pre) post e h = shape_in pre post e (both_true (has_shape x) (list_all has_shape (pre ++ e ∷ post)) h).1

-- an entry of a book has its shape
pub shape_at : (book : List Entry) (n : ℕ) (e : Entry) → IsBook book → IsAt book n e → has_shape e ≡ true
shape_at book n e b it = shape_in it.pre it.post e (subst (λ (w : List Entry). list_all has_shape w ≡ true) it.is b.shaped)

-- ── the rows of one entry ──

module _ {Row : Type 0} (seq : Row → ℕ) (added : List Entry → Entry → List Row) (numbered : (before : List Entry) (e : Entry) → AllByRecursion (λ r. seq r ≡ length before + 1) (added before e)) where
  all_here : (n : ℕ) (rows : List Row) → AllByRecursion (λ r. seq r ≡ n) rows → AllByRecursion (λ r. nat_eq (seq r) n ≡ true) rows
  all_here n [] h = tt
  all_here n (r ∷ rows) h = (let e = h.0 in grind (arith, nat_tests), all_here n rows h.1)

  none_here : (m n : ℕ) (rows : List Row) → m < n → AllByRecursion (λ r. seq r ≡ m) rows → AllByRecursion (λ r. nat_eq (seq r) n ≡ false) rows
  none_here m n [] less h = tt
  none_here m n (r ∷ rows) less h = (let e = h.0 in grind (arith, nat_tests), none_here m n rows less h.1)

  none_later : (m n : ℕ) (rows : List Row) → n < m → AllByRecursion (λ r. seq r ≡ m) rows → AllByRecursion (λ r. nat_eq (seq r) n ≡ false) rows
  none_later m n [] less h = tt
  none_later m n (r ∷ rows) less h = (let e = h.0 in grind (arith, nat_tests), none_later m n rows less h.1)

  past : (n : ℕ) (before later : List Entry) → n < length before + 1 → filter (λ r. nat_eq (seq r) n) (gives added before later) ≡ []
  past n before [] less = refl
  past n before (e ∷ later) less =
      let one : length (before ++ e ∷ []) ≡ length before + 1 = length-append before (e ∷ []) in
      filter-append (λ r. nat_eq (seq r) n) (added before e) (gives added (before ++ e ∷ []) later)
      ∙ ap₂ ◌++◌ (filter_none (λ r. nat_eq (seq r) n) (added before e) (none_later (length before + 1) n (added before e) less (numbered before e))) (past n (before ++ e ∷ []) later (omega arith))

  -- the rows that one of the entries gave, where the entries behind these are numbered from the next
  abbrev given_from : List Entry → List Entry → ℕ → List Row
  given_from before later k = option_map_or (λ e. added (before ++ take k later) e) (slice_get later k) []

  rows_from : (before later : List Entry) (k : ℕ) → filter (λ r. nat_eq (seq r) (length before + 1 + k)) (gives added before later) ≡ given_from before later k
  rows_from before [] k = refl
  rows_from before (e ∷ later) zero =
      let n : length before + 1 + 0 ≡ length before + 1 = omega arith in
      let one : length (before ++ e ∷ []) ≡ length before + 1 = length-append before (e ∷ []) in
      ap (λ m. filter (λ r. nat_eq (seq r) m) (added before e ++ gives added (before ++ e ∷ []) later)) n
      ∙ filter-append (λ r. nat_eq (seq r) (length before + 1)) (added before e) (gives added (before ++ e ∷ []) later)
      ∙ ap₂ ◌++◌ (filter_all (λ r. nat_eq (seq r) (length before + 1)) (added before e) (all_here (length before + 1) (added before e) (numbered before e))) (past (length before + 1) (before ++ e ∷ []) later (omega arith))
      ∙ append-nil (added before e) ∙ ap (λ (b : List Entry). added b e) (sym (append-nil before))
  rows_from before (e ∷ later) (suc k) =
      let one : length (before ++ e ∷ []) ≡ length before + 1 = length-append before (e ∷ []) in
      let n : length before + 1 + suc k ≡ length (before ++ e ∷ []) + 1 + k = omega arith in
      ap (λ m. filter (λ r. nat_eq (seq r) m) (added before e ++ gives added (before ++ e ∷ []) later)) n
      ∙ filter-append (λ r. nat_eq (seq r) (length (before ++ e ∷ []) + 1 + k)) (added before e) (gives added (before ++ e ∷ []) later)
      ∙ ap₂ ◌++◌ (filter_none (λ r. nat_eq (seq r) (length (before ++ e ∷ []) + 1 + k)) (added before e) (none_here (length before + 1) (length (before ++ e ∷ []) + 1 + k) (added before e) (omega arith) (numbered before e))) (rows_from (before ++ e ∷ []) later k)
      ∙ ap (λ (b : List Entry). option_map_or (λ f. added b f) (slice_get later k) []) (append_assoc before (e ∷ []) (take k later))

  -- the rows that the entry with a number gave
  abbrev pub given_by : List Entry → ℕ → List Row
  given_by book zero = []
  given_by book (suc k) = option_map_or (λ e. added (take k book) e) (slice_get book k) []

  -- the rows with a number are those that the entry with that number gave
  pub rows_numbered : (book : List Entry) (n : ℕ) → filter (λ r. nat_eq (seq r) n) (gives added [] book) ≡ given_by book n
  rows_numbered book zero = let first : 0 < 0 + 1 = omega arith in past 0 [] book first
  rows_numbered book (suc k) = let n : suc k ≡ 0 + 1 + k = omega arith in ap (λ m. filter (λ r. nat_eq (seq r) m) (gives added [] book)) n ∙ rows_from [] book k

  -- those of an entry behind some others
  pub rows_of_one : (pre post : List Entry) (e : Entry) → filter (λ r. nat_eq (seq r) (length pre + 1)) (gives added [] (pre ++ e ∷ post)) ≡ added pre e
  rows_of_one pre post e =
      ap (λ m. filter (λ r. nat_eq (seq r) m) (gives added [] (pre ++ e ∷ post))) (add-one (length pre))
      ∙ rows_numbered (pre ++ e ∷ post) (suc (length pre))
      ∙ ap₂ (λ (b : List Entry) (o : Option Entry). option_map_or (λ f. added b f) o []) (take_seam pre (e ∷ post)) (get_seam pre post e)

-- ── in a register ──

module _ {Row : Type 0} (register : Register Row) (law : IsRegister register) where
  -- the rows with a number are those that the entry with that number gave, behind the entries before it
  pub rows_at : (book : List Entry) (n : ℕ) → found register book n ≡ given_by register.seq (λ before x. register.given (next before) before x.act) (λ before x. law.numbered (next before) before x.act) book n
  rows_at = rows_numbered register.seq (λ before x. register.given (next before) before x.act) (λ before x. law.numbered (next before) before x.act)

  -- the rows with the number of an entry are those that it has with this number
  pub rows_found : (book : List Entry) (n : ℕ) (e : Entry) → IsAt book n e → found register book n ≡ register.given n book e.act
  rows_found book n e it =
      ap₂ (λ (m : ℕ) (w : List Entry). filter (λ (r : Row). nat_eq (register.seq r) m) (rows_of register w)) it.number it.is
      ∙ rows_of_one register.seq (λ before x. register.given (next before) before x.act) (λ before x. law.numbered (next before) before x.act) it.pre it.post e
      ∙ sym (law.kept (next it.pre) it.pre (e ∷ it.post) e.act (named it.pre e.doc e.act it.new))
      ∙ ap₂ (λ (m : ℕ) (w : List Entry). register.given m w e.act) (sym it.number) (sym it.is)

-- the things that an entry names have numbers in the book
pub named_in : (book : List Entry) (n : ℕ) (e : Entry) → IsAt book n e → Named book e.act
named_in book n e it = subst (λ (w : List Entry). Named w e.act) (sym it.is) (named_stays it.pre (e ∷ it.post) e.act (named it.pre e.doc e.act it.new))
