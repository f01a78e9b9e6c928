-- The open defects of an aircraft, by the rows of its deferrals, and those of all aircraft.
use Rattle.std.proofs.Common.{arith, ◌≡◌, ℕ, zero, suc, ◌+◌, ◌<◌, Bool, true, false, cond, ◌&&◌, nat_eq, List, [], ◌∷◌, ◌++◌, filter, length, take, Option, Some, None, refl, sym, ap, ap₂, ◌∙◌, append_assoc, add-one}
use Rattle.std.specs.Prelude.{is_some, not, slice_get}
use Rattle.std.specs.List.{AllByRecursion, filter_map, cons_option}
use Rattle.std.specs.Option.{option_and_then, option_map, option_map_or}
use Rattle.mx_book.specs.commands.Act.{Act, Entry, Deferred}
use Rattle.mx_book.specs.commands.Same.{same_text}
use Rattle.mx_book.proofs.CommandsProofs.SameLemmas.{text_same}
use Rattle.mx_book.specs.declared.commands.deferral.Deferral.{Deferral}
use Rattle.mx_book.specs.Book.{IsBook, is_book_from, is_new, entry_at}
use Rattle.mx_book.specs.Defect.{deferred_by, defects, is_open, is_rectified, open_defects}
use Rattle.mx_book.specs.Judge.{judge}
use Rattle.mx_book.specs.Register.{aircraft}
use Rattle.mx_book.proofs.JudgeLemmas.{both_true}
use Rattle.mx_registers.specs.Names.{defect_at, defect_deferred, or_zero, seq_of_defect, seq_of_tail, tail_at}
use Rattle.mx_registers.specs.Registers.{deferral_row, deferral_rows, deferrals_by, entry_added, entry_rows, gives_by, next}
use Rattle.mx_registers.proofs.NameLemmas.{defect_number, tail_known}
use Rattle.mx_registers.proofs.NewLemmas.{deferred_is_known}
use Rattle.mx_base.specs.declared.rows.rows.DeferralRow.{DeferralRow}
use Rattle.mx_base.specs.declared.rows.rows.EntryRow.{EntryRow}
use Rattle.mx_registers.proofs.KeptProofs.KnownLemmas.{aircraft_kept, other_name}
use Rattle.mx_registers.proofs.KeptProofs.NumbersThere.{tail_number_kept}
use Rattle.mx_row_rules.specs.found.Defects.{deferred_said, defect_said, left_said, open_said}
use Rattle.mx_row_rules.specs.found.Names.{doc_at, doc_in}
use Rattle.mx_row_rules.proofs.FoundProofs.DeferralLemmas.{rectified_is}
use Rattle.mx_row_rules.proofs.FoundProofs.EntryLemmas.{get_seam, given_by, rows_numbered}
use Rattle.mx_row_rules.proofs.FoundProofs.FittedLemmas.{is_its_number}
use Rattle.mx_row_rules.proofs.FoundProofs.ListLemmas.{all_left}
use Rattle.mx_row_rules.proofs.FoundProofs.ThereLemmas.{no_tail, tail_there}

-- ── the document of an entry ──

one_numbered : (before : List Entry) (e : Entry) → AllByRecursion (λ (row : EntryRow). row.seq ≡ length before + 1) (entry_added before e)
one_numbered before e = (refl, tt)

pub doc_found : (book : List Entry) (n : ℕ) → doc_in (filter (λ (row : EntryRow). nat_eq row.seq n) (entry_rows book)) ≡ doc_at book n
doc_found book n = ap doc_in (rows_numbered (λ (row : EntryRow). row.seq) entry_added one_numbered book n) ∙ at n
  where
    of_entry : (before : List Entry) (o : Option Entry) → doc_in (option_map_or (entry_added before) o []) ≡ option_map (λ (e : Entry). e.doc) o
    of_entry before None = refl
    of_entry before (Some e) = refl

    at : (m : ℕ) → doc_in (given_by (λ (row : EntryRow). row.seq) entry_added one_numbered book m) ≡ doc_at book m
    at zero = refl
    at (suc k) = of_entry (take k book) (slice_get book k)

-- ── each row has its entry ──

module _ (whole : List Entry) where
  here : (before later : List Entry) (e : Entry) → before ++ e ∷ later ≡ whole → entry_at whole (length before + 1) ≡ Some e
  here before later e is = ap (λ (w : List Entry). entry_at w (length before + 1)) (sym is) ∙ ap (entry_at (before ++ e ∷ later)) (add-one (length before)) ∙ get_seam before later e

  rows_there : (before later : List Entry) → before ++ later ≡ whole → AllByRecursion (λ (row : DeferralRow). is_some (doc_at whole row.seq) ≡ true) (gives_by deferrals_by before later)
  rows_there before [] is = tt
  rows_there before (e ∷ later) is = at e.act (rows_there (before ++ e ∷ []) later (append_assoc before (e ∷ []) later ∙ is))
    where
      at : (act : Act) → AllByRecursion (λ (row : DeferralRow). is_some (doc_at whole row.seq) ≡ true) (gives_by deferrals_by (before ++ e ∷ []) later)
          → AllByRecursion (λ (row : DeferralRow). is_some (doc_at whole row.seq) ≡ true) (deferrals_by before act ++ gives_by deferrals_by (before ++ e ∷ []) later)
      at (Deferred d) rest = (ap (λ o. is_some (option_map (λ (x : Entry). x.doc) o)) (here before later e is), rest)
      at _ rest = rest

-- the entry of each deferral of an aircraft is there
pub entries_there : (book : List Entry) (n : ℕ) → AllByRecursion (λ (row : DeferralRow). is_some (doc_at book row.seq) ≡ true) (filter (λ (row : DeferralRow). nat_eq row.aircraft n) (deferral_rows book))
entries_there book n = all_left (λ (row : DeferralRow). is_some (doc_at book row.seq) ≡ true) (λ row. nat_eq row.aircraft n) (deferral_rows book) (rows_there book [] book refl)

-- ── what they say ──

-- one row more is of the aircraft or not, and of a defect that was rectified or not
one_more : {Row X : Type 0} (said : Row → Option X) (test : X → Bool) (b c r : Bool) (row : Row) (rows : List Row) (x : X) (xs : List X) → b ≡ c → (c ≡ true → said row ≡ cond r None (Some x)) → test x ≡ c && not r
    → filter_map said rows ≡ filter test xs → filter_map said (cond b (row ∷ rows) rows) ≡ filter test (x ∷ xs)
one_more said test true true r row rows x xs e is left h = at r (is refl) left
  where
    at : (q : Bool) → said row ≡ cond q None (Some x) → test x ≡ not q → cons_option (said row) (filter_map said rows) ≡ cond (test x) (x ∷ filter test xs) (filter test xs)
    at true i o = ap (λ s. cons_option s (filter_map said rows)) i ∙ h ∙ sym (ap (λ t. cond t (x ∷ filter test xs) (filter test xs)) o)
    at false i o = ap (λ s. cons_option s (filter_map said rows)) i ∙ ap (λ l. x ∷ l) h ∙ sym (ap (λ t. cond t (x ∷ filter test xs) (filter test xs)) o)
one_more said test false false r row rows x xs e is left h = h ∙ sym (ap (λ t. cond t (x ∷ filter test xs) (filter test xs)) left)
one_more said test true false r row rows x xs e is left h = absurd cc
one_more said test false true r row rows x xs e is left h = absurd cc

is_number : (o : Option ℕ) (n : ℕ) → 0 < n → n ≡ or_zero o → o ≡ Some n
is_number None n low e = absurd (omega (arith, low, e))
is_number (Some m) n low e = ap (λ (k : ℕ). Some k) (sym e)

-- the number of a defect is that of the entry that defers it
its_number : (whole : List Entry) → IsBook whole → (before later : List Entry) (e : Entry) (d : Deferral) → before ++ e ∷ later ≡ whole → e.act ≡ Deferred d → seq_of_defect whole e.doc ≡ Some (next before)
its_number whole b before later e d is act =
    let deferred : defect_at whole (next before) ≡ Some e.doc = ap (option_and_then defect_deferred) (here whole before later e is) ∙ ap (λ a. defect_deferred (record { doc = e.doc; act = a })) act in
    let low : 0 < next before = omega arith in
    is_number (seq_of_defect whole e.doc) (next before) low (defect_number whole e.doc (next before) b.judged deferred)

module _ (whole : List Entry) (b : IsBook whole) (tail : List ℕ) (n : ℕ) (there : is_some (aircraft whole tail) ≡ true) (number : n ≡ or_zero (seq_of_tail whole tail)) where
  open_from : (before later : List Entry) → before ++ later ≡ whole → is_book_from before later ≡ true
      → filter_map (open_said whole tail) (filter (λ (row : DeferralRow). nat_eq row.aircraft n) (gives_by deferrals_by before later)) ≡ filter (is_open whole tail) (defects later)
  open_from before [] is h = refl
  open_from before (e ∷ later) is h =
      let both = both_true (is_new (judge before e)) (is_book_from (before ++ e ∷ []) later) h in
      at e.act refl both.0 (open_from (before ++ e ∷ []) later (append_assoc before (e ∷ []) later ∙ is) both.1)
    where
      at : (act : Act) → e.act ≡ act → is_new (judge before (record { doc = e.doc; act = act })) ≡ true
          → filter_map (open_said whole tail) (filter (λ (row : DeferralRow). nat_eq row.aircraft n) (gives_by deferrals_by (before ++ e ∷ []) later)) ≡ filter (is_open whole tail) (defects later)
          → filter_map (open_said whole tail) (filter (λ (row : DeferralRow). nat_eq row.aircraft n) (deferrals_by before act ++ gives_by deferrals_by (before ++ e ∷ []) later))
          ≡ filter (is_open whole tail) (cons_option (deferred_by (record { doc = e.doc; act = act })) (defects later))
      at (Deferred d) act new rest =
          let at_it = here whole before later e is in
          let row = deferral_row (next before) (or_zero (seq_of_tail before d.tail)) d in
          let its = its_number whole b before later e d is act in
          one_more (open_said whole tail) (is_open whole tail) (nat_eq row.aircraft n) (same_text d.tail tail) (is_rectified whole e.doc) row _ (record { doc = e.doc; deferral = d }) _
          (is_its_number whole tail n there number before (e ∷ later) d.tail is (deferred_is_known before e.doc d new))
          (λ same.
          ap₂ (λ r o. cond r None (option_map (λ doc. defect_said doc tail row) o)) (rectified_is whole b e.doc (next before) its) (ap (option_map (λ (x : Entry). x.doc)) at_it)
          ∙ ap (λ t. cond (is_rectified whole e.doc) None (Some (defect_said e.doc t row))) (sym ((text_same d.tail tail).0 same)))
          refl rest
      at _ act new rest = rest

pub open_found : (book : List Entry) (tail : List ℕ) (n : ℕ) → IsBook book → seq_of_tail book tail ≡ Some n
    → filter_map (open_said book tail) (filter (λ (row : DeferralRow). nat_eq row.aircraft n) (deferral_rows book)) ≡ open_defects book tail
open_found book tail n b h = open_from book b tail n (tail_there book tail n h) (sym (ap or_zero h)) [] book refl b.judged

-- ── an aircraft that is not there ──

module _ (whole : List Entry) (tail : List ℕ) (free : is_some (aircraft whole tail) ≡ false) where
  none_from : (before later : List Entry) → before ++ later ≡ whole → is_book_from before later ≡ true → filter (is_open whole tail) (defects later) ≡ []
  none_from before [] is h = refl
  none_from before (e ∷ later) is h =
      let both = both_true (is_new (judge before e)) (is_book_from (before ++ e ∷ []) later) h in
      at e.act both.0 (none_from (before ++ e ∷ []) later (append_assoc before (e ∷ []) later ∙ is) both.1)
    where
      at : (act : Act) → is_new (judge before (record { doc = e.doc; act = act })) ≡ true → filter (is_open whole tail) (defects later) ≡ []
          → filter (is_open whole tail) (cons_option (deferred_by (record { doc = e.doc; act = act })) (defects later)) ≡ []
      at (Deferred d) new rest =
          let known = deferred_is_known before e.doc d new in
          let kept = ap (λ (w : List Entry). is_some (aircraft w d.tail)) (sym is) ∙ ap is_some (aircraft_kept before (e ∷ later) d.tail known) ∙ known in
          ap (λ c. cond (c && not (is_rectified whole e.doc)) (record { doc = e.doc; deferral = d } ∷ filter (is_open whole tail) (defects later)) (filter (is_open whole tail) (defects later)))
          (other_name (λ (t : List ℕ). is_some (aircraft whole t)) d.tail tail kept free)
          ∙ rest
      at _ new rest = rest

-- an aircraft that is not there has no open defects
pub none_open : (book : List Entry) (tail : List ℕ) → IsBook book → seq_of_tail book tail ≡ None → open_defects book tail ≡ []
none_open book tail b none = none_from book tail (ap is_some (no_tail book tail none)) [] book refl b.judged

-- ── those of all aircraft ──

module _ (whole : List Entry) where
  -- the aircraft that some entries have is there behind all of them, by its number
  aircraft_there : (before more : List Entry) (tail : List ℕ) → before ++ more ≡ whole → is_some (aircraft before tail) ≡ true → tail_at whole (or_zero (seq_of_tail before tail)) ≡ Some tail
  aircraft_there before more tail is known =
      ap₂ (λ (w : List Entry) (m : ℕ). tail_at w m) (sym is) (sym (tail_number_kept before more tail known))
      ∙ tail_known (before ++ more) tail (ap is_some (aircraft_kept before more tail known) ∙ known)

  -- a deferral says its defect
  said_here : (before later : List Entry) (e : Entry) (d : Deferral) → before ++ e ∷ later ≡ whole → is_some (aircraft before d.tail) ≡ true
      → deferred_said whole (deferral_row (next before) (or_zero (seq_of_tail before d.tail)) d) ≡ Some (record { doc = e.doc; deferral = d })
  said_here before later e d is known =
      let row = deferral_row (next before) (or_zero (seq_of_tail before d.tail)) d in
      ap₂ (λ (o : Option (List ℕ)) (t : Option (List ℕ)). option_and_then (λ doc. option_map (λ tail. defect_said doc tail row) t) o) (ap (option_map (λ (x : Entry). x.doc)) (here whole before later e is)) (aircraft_there before (e ∷ later) d.tail is known)

  all_there_from : (before later : List Entry) → before ++ later ≡ whole → is_book_from before later ≡ true → AllByRecursion (λ (row : DeferralRow). is_some (deferred_said whole row) ≡ true) (gives_by deferrals_by before later)
  all_there_from before [] is h = tt
  all_there_from before (e ∷ later) is h =
      let both = both_true (is_new (judge before e)) (is_book_from (before ++ e ∷ []) later) h in
      at e.act both.0 (all_there_from (before ++ e ∷ []) later (append_assoc before (e ∷ []) later ∙ is) both.1)
    where
      at : (act : Act) → is_new (judge before (record { doc = e.doc; act = act })) ≡ true → AllByRecursion (λ (row : DeferralRow). is_some (deferred_said whole row) ≡ true) (gives_by deferrals_by (before ++ e ∷ []) later)
          → AllByRecursion (λ (row : DeferralRow). is_some (deferred_said whole row) ≡ true) (deferrals_by before act ++ gives_by deferrals_by (before ++ e ∷ []) later)
      at (Deferred d) new rest = (ap is_some (said_here before later e d is (deferred_is_known before e.doc d new)), rest)
      at _ new rest = rest

  module _ (b : IsBook whole) where
    all_open_from : (before later : List Entry) → before ++ later ≡ whole → is_book_from before later ≡ true
        → filter_map (left_said whole) (gives_by deferrals_by before later) ≡ filter (λ d. not (is_rectified whole d.doc)) (defects later)
    all_open_from before [] is h = refl
    all_open_from before (e ∷ later) is h =
        let both = both_true (is_new (judge before e)) (is_book_from (before ++ e ∷ []) later) h in
        at e.act refl both.0 (all_open_from (before ++ e ∷ []) later (append_assoc before (e ∷ []) later ∙ is) both.1)
      where
        at : (act : Act) → e.act ≡ act → is_new (judge before (record { doc = e.doc; act = act })) ≡ true
            → filter_map (left_said whole) (gives_by deferrals_by (before ++ e ∷ []) later) ≡ filter (λ d. not (is_rectified whole d.doc)) (defects later)
            → filter_map (left_said whole) (deferrals_by before act ++ gives_by deferrals_by (before ++ e ∷ []) later)
            ≡ filter (λ d. not (is_rectified whole d.doc)) (cons_option (deferred_by (record { doc = e.doc; act = act })) (defects later))
        at (Deferred d) act new rest =
            let row = deferral_row (next before) (or_zero (seq_of_tail before d.tail)) d in
            one_more (left_said whole) (λ x. not (is_rectified whole x.doc)) true true (is_rectified whole e.doc) row _ (record { doc = e.doc; deferral = d }) _ refl
            (λ same. ap₂ (λ r o. cond r None o) (rectified_is whole b e.doc (next before) (its_number whole b before later e d is act)) (said_here before later e d is (deferred_is_known before e.doc d new)))
            refl rest
        at _ act new rest = rest

pub all_there : (book : List Entry) → IsBook book → AllByRecursion (λ (row : DeferralRow). is_some (deferred_said book row) ≡ true) (deferral_rows book)
all_there book b = all_there_from book [] book refl b.judged

pub all_open_found : (book : List Entry) → IsBook book → filter_map (left_said book) (deferral_rows book) ≡ filter (λ d. not (is_rectified book d.doc)) (defects book)
all_open_found book b = all_open_from book b [] book refl b.judged
