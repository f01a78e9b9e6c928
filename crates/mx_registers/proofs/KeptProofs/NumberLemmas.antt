-- The numbers of items: what names them, and that a book without an item has no base of it.
use Rattle.std.proofs.Common.{refl, sym, subst, ap, ◌∙◌, ◌≡◌, ℕ, ◌+◌, length, List, [], ◌∷◌, ◌++◌, Bool, true, false, cond, nat_eq, ◌&&◌, ◌||◌, Option, Some, None}
use Rattle.std.specs.Prelude.{filter, find, map}
use Rattle.std.specs.List.{list_any, filter_map, flat_map, cons_option, AllByRecursion}
use Rattle.std.specs.Option.{option_map, option_or}
use Rattle.std.proofs.lemmas.Bool.Decides.{same_from_decides, Decides-eqb}
use Rattle.std.proofs.lemmas.List.Folds.{find-append}
use Rattle.mx_base.specs.declared.amounts.Base.{Base}
use Rattle.mx_book.specs.commands.Act.{Act, Entry, Opened, Released}
use Rattle.mx_book.specs.commands.Same.{same_text, same_item}
use Rattle.mx_book.specs.declared.commands.item.Item.{Item}
use Rattle.mx_book.specs.declared.commands.release.Line.{Line}
use Rattle.mx_book.specs.declared.verdict.Verdict.TheVariants.{New}
use Rattle.mx_book.specs.Base.{Stated, DoneIn, accomplished_by, accomplishments, base, base_from}
use Rattle.mx_book.specs.Book.{IsBook, is_new}
use Rattle.mx_book.specs.Judge.{judge}
use Rattle.mx_book.specs.Programme.{is_done}
use Rattle.mx_registers.specs.Names.{has_item, item_at, or_zero, seq_of_item}
use Rattle.mx_registers.proofs.NameLemmas.{item_known, item_number}
use Rattle.mx_registers.proofs.NewLemmas.{opened_is_known}
use Rattle.mx_base.specs.rows.Rows.{base_in_row, base_row_with}
use Rattle.mx_registers.specs.kept.Bases.{base_in, base_row, base_rows, base_rows_of, is_keyed, tasks_accomplished}
use Rattle.mx_registers.specs.kept.Items.{items}
use Rattle.mx_registers.proofs.KeptProofs.DoneLemmas.{accomplishments-more, done_there, item_same}
use Rattle.mx_registers.proofs.KeptProofs.Induction.{of_each_book}
use Rattle.mx_registers.proofs.KeptProofs.ItemNumbers.{items_numbered}
use Rattle.mx_registers.proofs.KeptProofs.TotalRows.{still_absent}
use Rattle.mx_registers.proofs.KeptProofs.ReleaseBases.{same_item_self}

-- ── numbers ──

-- the number of an item is that of another exactly where they are one item
pub number_same : (book : List Entry) (done item : Item) (n : ℕ) → IsBook book → has_item book done ≡ true → item_at book n ≡ Some item → nat_eq (or_zero (seq_of_item book done)) n ≡ same_item done item
number_same book done item n b known h =
    let m = or_zero (seq_of_item book done) in
    same_from_decides {P = done ≡ item} (nat_eq m n) (same_item done item) (
      (λ e. let p : Some done ≡ Some item = sym (item_known book done known) ∙ ap (item_at book) ((Decides-eqb m n).0 e) ∙ h in cc),
      (λ e. (Decides-eqb m n).1 (ap (λ i. or_zero (seq_of_item book i)) e ∙ sym (item_number book item n b.judged h))),
    )
    ((λ e. item_same done item e), (λ e. subst (λ i. same_item done i ≡ true) e (same_item_self done)))

-- the number of an item is not one that no item has
pub number_other : (book : List Entry) (done : Item) (n : ℕ) → has_item book done ≡ true → item_at book n ≡ None → nat_eq (or_zero (seq_of_item book done)) n ≡ false
number_other book done n known h = at (nat_eq (or_zero (seq_of_item book done)) n) refl
  where
    at : (b : Bool) → nat_eq (or_zero (seq_of_item book done)) n ≡ b → b ≡ false
    at true e =
        let p : Some done ≡ None = sym (item_known book done known) ∙ ap (item_at book) ((Decides-eqb (or_zero (seq_of_item book done)) n).0 e) ∙ h in (cc)
    at false e = refl

-- ── rows of a number that no item has ──

module _ (book : List Entry) (n : ℕ) (id : List ℕ) where
  rows_of_other : (x : ℕ × Item) → nat_eq x.0 n ≡ false → (ids : List (List ℕ)) → find (is_keyed n id) (filter_map (base_row book x) ids) ≡ None
  rows_of_other x e [] = refl
  rows_of_other x e (t ∷ ts) = at (base book x.1 t) (rows_of_other x e ts)
    where
      at : (o : Option Base) → find (is_keyed n id) (filter_map (base_row book x) ts) ≡ None → find (is_keyed n id) (cons_option (option_map (λ b. base_row_with x.0 t b) o) (filter_map (base_row book x) ts)) ≡ None
      at None rest = rest
      at (Some b) rest = ap (λ c. cond (c && same_text t id) (Some (base_row_with x.0 t b)) (find (is_keyed n id) (filter_map (base_row book x) ts))) e ∙ rest

  none_found : (xs : List (ℕ × Item)) → AllByRecursion (λ (x : ℕ × Item). item_at book x.0 ≡ Some x.1) xs → item_at book n ≡ None → find (is_keyed n id) (flat_map (base_rows_of book) xs) ≡ None
  none_found [] h none = refl
  none_found (x ∷ xs) h none =
      find-append (is_keyed n id) (base_rows_of book x) (flat_map (base_rows_of book) xs)
      ∙ ap (λ o. option_or o (find (is_keyed n id) (flat_map (base_rows_of book) xs))) (rows_of_other x (at (nat_eq x.0 n) refl) (tasks_accomplished book x.1))
      ∙ none_found xs h.1 none
    where
      at : (b : Bool) → nat_eq x.0 n ≡ b → b ≡ false
      at true e = let p : Some x.1 ≡ None = sym h.0 ∙ ap (item_at book) ((Decides-eqb x.0 n).0 e) ∙ none in (cc)
      at false e = refl

-- there is no row of a number that no item has
pub no_rows : (book : List Entry) (n : ℕ) (id : List ℕ) → IsBook book → item_at book n ≡ None → base_in (base_rows book) n id ≡ None
no_rows book n id b none = ap (option_map base_in_row) (none_found book n id (items book) (items_numbered book b) none)

-- ── an item that is not in the book has no base there ──

no_lines : (p : Line → Bool) (lines : List Line) → list_any p lines ≡ false → filter p lines ≡ []
no_lines p [] h = refl
no_lines p (line ∷ lines) h = at (p line) h (no_lines p lines)
  where
    at : (b : Bool) → b || list_any p lines ≡ false → (list_any p lines ≡ false → filter p lines ≡ []) → cond b (line ∷ filter p lines) (filter p lines) ≡ []
    at true h rest = (cc)
    at false h rest = rest h

-- a new command accomplishes nothing of an item that the book has not
unknown_unaccomplished : (book : List Entry) (doc : List ℕ) (act : Act) (item : Item) (id : List ℕ) (k : ℕ) → judge book (record { doc = doc; act = act }) ≡ New → has_item book item ≡ false → accomplished_by k item id act ≡ []
unknown_unaccomplished book doc (Opened o) item id k new h =
    ap (λ c. cond c (cond (same_text o.task id) (Stated o ∷ []) []) []) (at (same_item o.item item) refl)
  where
    at : (b : Bool) → same_item o.item item ≡ b → b ≡ false
    at true e = let p : true ≡ false = sym (opened_is_known book doc o (ap is_new new)) ∙ ap (has_item book) (item_same o.item item e) ∙ h in (cc)
    at false e = refl
unknown_unaccomplished book doc (Released r lines) item id k new h =
    ap (map (λ (line : Line). DoneIn k r)) (no_lines (is_done item id) lines (at (list_any (is_done item id) lines) refl))
  where
    at : (b : Bool) → list_any (is_done item id) lines ≡ b → b ≡ false
    at true e = let p : true ≡ false = sym (done_there book doc r lines item id new e).1 ∙ h in (cc)
    at false e = refl
unknown_unaccomplished book doc _ item id k new h = refl

-- nor does the book accomplish anything of it, whatever sectors came late
abbrev HasNone : List Entry → Type 0
HasNone book = (item : Item) (id : List ℕ) → has_item book item ≡ false → accomplishments book item id ≡ []

none_with : (book : List Entry) (e : Entry) (item : Item) (id : List ℕ) → judge book e ≡ New → has_item book item ≡ false → accomplishments book item id ≡ [] → accomplishments (book ++ e ∷ []) item id ≡ []
none_with book e item id new absent none =
    accomplishments-more book e item id
    ∙ ap (λ l. l ++ accomplished_by (length book + 1) item id e.act) none
    ∙ unknown_unaccomplished book e.doc e.act item id (length book + 1) new absent

none_accomplished : (book : List Entry) → IsBook book → (item : Item) (id : List ℕ) → has_item book item ≡ false → accomplishments book item id ≡ []
none_accomplished = of_each_book HasNone (λ book e b shape new none item id h.
    let absent = still_absent book (e ∷ []) item h in none_with book e item id new absent (none item id absent)) (λ item id h. refl)

-- an item that a new command adds has no base
pub unknown_unbased : (book : List Entry) (e : Entry) (item : Item) (id : List ℕ) → IsBook book → judge book e ≡ New → has_item book item ≡ false → base (book ++ e ∷ []) item id ≡ None
unknown_unbased book e item id b new absent =
    ap (base_from (book ++ e ∷ []) item id None) (none_with book e item id new absent (none_accomplished book b item id absent))
