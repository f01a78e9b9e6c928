-- Rows and last bases of what is said, one accomplishment more.
use Rattle.std.proofs.Common.{refl, sym, subst, ap, ◌∙◌, ◌≡◌, ℕ, List, [], ◌∷◌, ◌++◌, Bool, true, false, cond, ◌&&◌, nat_eq, Option, Some, None, append-nil, append_assoc}
use Rattle.std.specs.Prelude.{filter, fold, IfSome}
use Rattle.std.specs.List.{AllByRecursion}
use Rattle.std.specs.BTreeMap.{BTreeMap, get, is_at, IsEmpty, Updates}
use Rattle.std.specs.Map.{lookup}
use Rattle.std.specs.Ordering.{is_eq, nat_cmp}
use Rattle.std.specs.Cmp.Lexicographic.{slice_cmp}
use Rattle.std.proofs.lemmas.Bool.Decides.{Decides-eqb}
use Rattle.std.proofs.lemmas.List.Elements.{filter-append}
use Rattle.std.proofs.lemmas.List.Sums.{fold-append}
use Rattle.mx_base.specs.declared.amounts.Base.{Base}
use Rattle.mx_base.specs.declared.rows.rows.DoneRow.{DoneRow}
use Rattle.mx_book.specs.commands.Act.{Entry}
use Rattle.mx_book.specs.commands.Same.{same_text}
use Rattle.mx_book.specs.declared.commands.item.Item.{Item}
use Rattle.mx_book.specs.due.Due.{IsBase}
use Rattle.mx_book.proofs.CommandsProofs.SameLemmas.{text_same}
use Rattle.mx_book.proofs.JudgeLemmas.{both_true}
use Rattle.mx_registers.specs.Names.{item_at}
use Rattle.mx_registers.specs.late.Done.{is_done_of, last_base}
use Rattle.mx_indexed_book.specs.declared.moments.done.Accomplished.{Accomplished}
use Rattle.mx_indexed_book.specs.moments.Done.{AreDone, IsSayable, base_said, is_said_of, said_chain, said_row, task_cmp}
use Rattle.mx_indexed_book.proofs.MapsProofs.MapLemmas.{tie, tie_number}
use Rattle.mx_indexed_book.proofs.MapsProofs.PlaceLemmas.{then_eq}

-- ── the order of tasks ──

-- the order of tasks tells the same task of the same item
pub tie_task : (n : ℕ) (task : List ℕ) (m : ℕ) (id : List ℕ) → is_eq (task_cmp (n, task) (m, id)) ≡ nat_eq n m && same_text task id
tie_task n task m id = then_eq (nat_cmp n m) (slice_cmp nat_cmp task id) ∙ ap (λ c. c && is_eq (slice_cmp nat_cmp task id)) (tie_number n m) ∙ ap (λ c. nat_eq n m && c) (tie task id)

-- ── one row more ──

if_any : {X : Type 0} → Bool → X → List X
if_any c x = cond c (x ∷ []) []

one_more : {X : Type 0} (p : X → Bool) (xs : List X) (x : X) → filter p (xs ++ x ∷ []) ≡ filter p xs ++ cond (p x) (x ∷ []) []
one_more p xs x = filter-append p xs (x ∷ [])

-- the base of the last of some rows, behind this
abbrev last_behind : Option Base → List DoneRow → Option Base
last_behind before rows = fold (λ o (row : DoneRow). Some row.base) before rows

module _ (book : List Entry) (item : Item) where
  -- the rows of one accomplishment more
  chain-more : (before : Option Base) (xs : List Accomplished) (a : Accomplished) → said_chain book item before (xs ++ a ∷ []) ≡ said_chain book item before xs ++ said_row book item (last_behind before (said_chain book item before xs)) a ∷ []
  chain-more before [] a = refl
  chain-more before (x ∷ xs) a = ap (λ l. said_row book item before x ∷ l) (chain-more (Some (base_said book item before x.said)) xs a)

module _ (book : List Entry) (said : List Accomplished) (rows : List DoneRow) (bases : BTreeMap (ℕ × List ℕ) Base) (a : Accomplished) (are : AreDone book said rows bases) where
  -- ── of an item that the book does not have ──

  pub passed_over : item_at book a.item ≡ None → AreDone book (said ++ a ∷ []) rows bases
  passed_over none = record {
    rows_are = λ number item id there. are.rows_are number item id there ∙ ap (said_chain book item None) (sym (other number item id there (nat_eq a.item number) refl));
    no_others = are.no_others;
    bases_are = are.bases_are;
    bounded = are.bounded;
  }
    where
      other : (number : ℕ) (item : Item) (id : List ℕ) → item_at book number ≡ Some item → (c : Bool) → nat_eq a.item number ≡ c → filter (is_said_of number id) (said ++ a ∷ []) ≡ filter (is_said_of number id) said
      other number item id there true e = let no : Some item ≡ None = sym there ∙ ap (item_at book) (sym ((Decides-eqb a.item number).0 e)) ∙ none in (cc)
      other number item id there false e =
          one_more (is_said_of number id) said a ∙ ap (λ c. filter (is_said_of number id) said ++ cond (c && same_text a.task id) (a ∷ []) []) e ∙ append-nil (filter (is_said_of number id) said)

  -- ── of an item of the book ──

  module _ (item : Item) (own : item_at book a.item ≡ Some item) where
    abbrev before : Option Base
    before = get task_cmp bases (a.item, a.task)

    abbrev row : DoneRow
    row = said_row book item before a

    abbrev mine : ℕ → List ℕ → DoneRow → Bool
    mine number id r = is_done_of number id r

    pub one_done : (more : BTreeMap (ℕ × List ℕ) Base) → Updates task_cmp bases more (a.item, a.task) (Some row.base) → IsBase row.base → AreDone book (said ++ a ∷ []) (rows ++ row ∷ []) more
    one_done more updates bounded = record {
      rows_are = λ number other id there.
          one_more (mine number id) rows row
          ∙ ap (λ l. l ++ cond (mine number id row) (row ∷ []) []) (are.rows_are number other id there)
          ∙ grown number other id there (nat_eq a.item number && same_text a.task id) refl
          ∙ ap (said_chain book other None) (sym (one_more (is_said_of number id) said a));
      no_others = λ number id none. one_more (mine number id) rows row ∙ ap (λ l. l ++ cond (mine number id row) (row ∷ []) []) (are.no_others number id none) ∙ missing number id none (nat_eq a.item number) refl;
      bases_are = λ number id.
          updates.0 (number, id)
          ∙ ap (λ c. cond c (Some row.base) (get task_cmp bases (number, id))) (tie_task a.item a.task number id)
          ∙ ap (λ o. cond (mine number id row) (Some row.base) o) (are.bases_are number id)
          ∙ last_of (mine number id row) (filter (mine number id) rows)
          ∙ ap last_base (sym (one_more (mine number id) rows row));
      bounded = all_more rows are.bounded;
    }
      where
        grown : (number : ℕ) (other : Item) (id : List ℕ) → item_at book number ≡ Some other → (c : Bool) → nat_eq a.item number && same_text a.task id ≡ c
            → said_chain book other None (filter (is_said_of number id) said) ++ cond (nat_eq a.item number && same_text a.task id) (row ∷ []) [] ≡ said_chain book other None (filter (is_said_of number id) said ++ cond (nat_eq a.item number && same_text a.task id) (a ∷ []) [])
        grown number other id there false e =
            ap (λ c. said_chain book other None (filter (is_said_of number id) said) ++ cond c (row ∷ []) []) e
            ∙ append-nil (said_chain book other None (filter (is_said_of number id) said))
            ∙ ap (said_chain book other None) (sym (ap (λ c. filter (is_said_of number id) said ++ cond c (a ∷ []) []) e ∙ append-nil (filter (is_said_of number id) said)))
        grown number other id there true e =
            let parts = both_true (nat_eq a.item number) (same_text a.task id) e in
            let number_is : a.item ≡ number = (Decides-eqb a.item number).0 parts.0 in
            let name_is : a.task ≡ id = (text_same a.task id).0 parts.1 in
            let item_is : item ≡ other = some (sym own ∙ ap (item_at book) number_is ∙ there) in
            let last : before ≡ last_behind None (said_chain book other None (filter (is_said_of number id) said)) =
            ap (λ n. get task_cmp bases (n, a.task)) number_is ∙ ap (λ t. get task_cmp bases (number, t)) name_is ∙ are.bases_are number id ∙ ap last_base (are.rows_are number other id there) in
            ap (λ c. said_chain book other None (filter (is_said_of number id) said) ++ cond c (row ∷ []) []) e
            ∙ ap (λ o. said_chain book other None (filter (is_said_of number id) said) ++ said_row book item o a ∷ []) last
            ∙ ap (λ i. said_chain book other None (filter (is_said_of number id) said) ++ said_row book i (last_behind None (said_chain book other None (filter (is_said_of number id) said))) a ∷ []) item_is
            ∙ sym (chain-more book other None (filter (is_said_of number id) said) a)
            ∙ ap (λ c. said_chain book other None (filter (is_said_of number id) said ++ cond c (a ∷ []) [])) (sym e)
          where
            some : {X : Type 0} {x y : X} → Some x ≡ Some y → x ≡ y
            some h = cc

        missing : (number : ℕ) (id : List ℕ) → item_at book number ≡ None → (c : Bool) → nat_eq a.item number ≡ c → cond (nat_eq a.item number && same_text a.task id) (row ∷ []) [] ≡ []
        missing number id none true e = let no : Some item ≡ None = sym own ∙ ap (item_at book) ((Decides-eqb a.item number).0 e) ∙ none in (cc)
        missing number id none false e = ap (λ c. cond (c && same_text a.task id) (row ∷ []) []) e

        last_of : (c : Bool) (xs : List DoneRow) → cond c (Some row.base) (last_base xs) ≡ last_base (xs ++ cond c (row ∷ []) [])
        last_of true xs = sym (fold-append (λ o (r : DoneRow). Some r.base) None xs (row ∷ []))
        last_of false xs = ap last_base (sym (append-nil xs))

        all_more : (xs : List DoneRow) → AllByRecursion (λ (r : DoneRow). IsBase r.base) xs → AllByRecursion (λ (r : DoneRow). IsBase r.base) (xs ++ row ∷ [])
        all_more [] h = (bounded, tt)
        all_more (x ∷ xs) h = (h.0, all_more xs h.1)

-- ── before the first ──

pub none_done : (book : List Entry) (bases : BTreeMap (ℕ × List ℕ) Base) → IsEmpty bases → AreDone book [] [] bases
none_done book bases empty = record {
  rows_are = λ number item id there. refl;
  no_others = λ number id none. refl;
  bases_are = λ number id. ap (λ entries. lookup (is_at (task_cmp (number, id))) entries) empty;
  bounded = tt;
}

-- ── the base before ──

last_bounded : (o : Option Base) (rows : List DoneRow) → IfSome o IsBase → AllByRecursion (λ (r : DoneRow). IsBase r.base) rows → IfSome (last_behind o rows) IsBase
last_bounded o [] h all = h
last_bounded o (row ∷ rows) h all = last_bounded (Some row.base) rows all.0 all.1

kept_bounded : (p : DoneRow → Bool) (rows : List DoneRow) → AllByRecursion (λ (r : DoneRow). IsBase r.base) rows → AllByRecursion (λ (r : DoneRow). IsBase r.base) (filter p rows)
kept_bounded p [] all = tt
kept_bounded p (row ∷ rows) all = at (p row) (kept_bounded p rows all.1)
  where
    at : (c : Bool) → AllByRecursion (λ (r : DoneRow). IsBase r.base) (filter p rows) → AllByRecursion (λ (r : DoneRow). IsBase r.base) (cond c (row ∷ filter p rows) (filter p rows))
    at true rest = (all.0, rest)
    at false rest = rest

-- a last base is one that an item may have
pub base_bounded : (book : List Entry) (said : List Accomplished) (rows : List DoneRow) (bases : BTreeMap (ℕ × List ℕ) Base) (number : ℕ) (id : List ℕ) → AreDone book said rows bases → IfSome (get task_cmp bases (number, id)) IsBase
base_bounded book said rows bases number id are =
    subst (λ o. IfSome o IsBase) (sym (are.bases_are number id)) (last_bounded None (filter (is_done_of number id) rows) tt (kept_bounded (is_done_of number id) rows are.bounded))

-- ── as far as was walked ──

-- what is said is what was walked and what is left, and the rows and the bases are those of what was walked
pub record IsWalked (book : List Entry) (all rest : List Accomplished) (rows : List DoneRow) (bases : BTreeMap (ℕ × List ℕ) Base) : Type 0 where
  pub walked : List Accomplished
  pub whole : walked ++ rest ≡ all
  pub sayable : AllByRecursion (λ (a : Accomplished). IsSayable a.said) rest
  pub done : AreDone book walked rows bases

pub begins : (book : List Entry) (all : List Accomplished) (bases : BTreeMap (ℕ × List ℕ) Base) → AllByRecursion (λ (a : Accomplished). IsSayable a.said) all → IsEmpty bases → IsWalked book all all [] bases
begins book all bases sayable empty = record { walked = []; whole = refl; sayable = sayable; done = none_done book bases empty }

pub goes_on : (book : List Entry) (all rest later : List Accomplished) (a : Accomplished) (rows new_rows : List DoneRow) (bases new_bases : BTreeMap (ℕ × List ℕ) Base) → rest ≡ a ∷ later → IsWalked book all rest rows bases
    → ((said : List Accomplished) → AreDone book said rows bases → AreDone book (said ++ a ∷ []) new_rows new_bases) → IsWalked book all later new_rows new_bases
goes_on book all rest later a rows new_rows bases new_bases is w step = record {
  walked = w.walked ++ a ∷ [];
  whole = append_assoc w.walked (a ∷ []) later ∙ ap (λ l. w.walked ++ l) (sym is) ∙ w.whole;
  sayable = (subst (AllByRecursion (λ (a : Accomplished). IsSayable a.said)) is w.sayable).1;
  done = step w.walked w.done;
}

pub ends : (book : List Entry) (all rest : List Accomplished) (rows : List DoneRow) (bases : BTreeMap (ℕ × List ℕ) Base) → rest ≡ [] → IsWalked book all rest rows bases → AreDone book all rows bases
ends book all rest rows bases is w = subst (λ xs. AreDone book xs rows bases) (sym (append-nil w.walked) ∙ ap (λ l. w.walked ++ l) (sym is) ∙ w.whole) w.done

-- the same, by the row and the rows that there are
pub adds : (book : List Entry) (said : List Accomplished) (rows new_rows : List DoneRow) (bases more : BTreeMap (ℕ × List ℕ) Base) (a : Accomplished) (item : Item) (last : Option Base) (row : DoneRow) → AreDone book said rows bases → item_at book a.item ≡ Some item
    → last ≡ get task_cmp bases (a.item, a.task) → row ≡ said_row book item last a → Updates task_cmp bases more (a.item, a.task) (Some row.base) → IsBase row.base → new_rows ≡ rows ++ row ∷ [] → AreDone book (said ++ a ∷ []) new_rows more
adds book said rows new_rows bases more a item last row are own last_is row_is updates bounded rows_are =
    let is : row ≡ said_row book item (get task_cmp bases (a.item, a.task)) a = row_is ∙ ap (λ o. said_row book item o a) last_is in
    subst (λ rs. AreDone book (said ++ a ∷ []) rs more) (sym (rows_are ∙ ap (λ r. rows ++ r ∷ []) is))
    (one_done book said rows bases a are item own more (subst (λ (r : DoneRow). Updates task_cmp bases more (a.item, a.task) (Some r.base)) is updates) (subst (λ (r : DoneRow). IsBase r.base) is bounded))
