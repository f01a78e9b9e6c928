-- The fitting and the removal of an entry, by the rows of the spans.
use Rattle.std.proofs.Common.{◌≡◌, ℕ, List, [], ◌∷◌, Bool, true, false, ◌&&◌, ◌||◌, nat_eq, map, filter, Option, Some, None, refl, sym, subst, ap, ◌∙◌}
use Rattle.std.specs.List.{list_any, filter_map, cons_option}
use Rattle.std.specs.Option.{option_eq, option_map_or}
use Rattle.std.specs.Prelude.{Decides, IsPermutation}
use Rattle.std.proofs.lemmas.Bool.Decides.{Decides-eqb, same_from_decides}
use Rattle.std.proofs.lemmas.List.Sorted.{list_any-IsPermutation}
use Rattle.std.proofs.lemmas.Map.Views.{any-filter_same}
use Rattle.mx_book.specs.commands.Act.{Entry, Fitted, Removed, fitting_of, removal_of}
use Rattle.mx_book.specs.commands.Same.{same_text, same_entry}
use Rattle.mx_book.specs.commands.Shape.{has_shape}
use Rattle.mx_book.specs.declared.commands.fitting.Fitting.{Fitting}
use Rattle.mx_book.specs.declared.commands.fitting.Removal.{Removal}
use Rattle.mx_book.proofs.CommandsProofs.SameLemmas.{text_same}
use Rattle.mx_book.specs.Book.{IsBook}
use Rattle.mx_book.specs.Judge.{known_from}
use Rattle.mx_book.proofs.JudgeLemmas.{both_true}
use Rattle.mx_registers.specs.Names.{or_zero, seq_of_tail, seq_of_serial}
use Rattle.mx_registers.specs.Registers.{if_any, fitting_row, removal_row, fitting_rows, removal_rows}
use Rattle.mx_base.specs.declared.rows.rows.FittingRow.{FittingRow}
use Rattle.mx_base.specs.declared.rows.rows.RemovalRow.{RemovalRow}
use Rattle.mx_base.specs.declared.rows.rows.SpanRow.{SpanRow}
use Rattle.mx_registers.specs.kept.Spans.{span_rows, fitting_in, removal_in, removal_by}
use Rattle.mx_registers.proofs.KeptProofs.SpanRegisters.{fittings_in_spans, removals_in_spans}
use Rattle.mx_row_rules.specs.found.Given.{found, fittings, removals}
use Rattle.mx_row_rules.specs.found.Spans.{begins_with, ends_with}
use Rattle.mx_row_rules.proofs.FoundProofs.ListLemmas.{any_same}
use Rattle.mx_row_rules.proofs.FoundProofs.RowLemmas.{fittings_law, removals_law}
use Rattle.mx_row_rules.proofs.FoundProofs.EqualLemmas.{as_one, both}
use Rattle.mx_row_rules.proofs.FoundProofs.EntryLemmas.{known_is_at, rows_found}
use Rattle.mx_row_rules.proofs.FoundProofs.KnownLemmas.{known_rows}

-- ── one row ──

or_none : (b : Bool) → b || false ≡ b
or_none true = refl
or_none false = refl

module _ {X Row : Type 0} (q : Row → Bool) (x : Row) (decides : (r : Row) → Decides (q r) (r ≡ x)) (row : X → Row) where
  -- where there is one row or none, one of them is this one exactly where it is the only one
  pub any_one : (o : Option X) → Decides (list_any q (if_any row o)) (if_any row o ≡ x ∷ [])
  any_one None = (λ h. absurd cc, λ e. absurd cc)
  any_one (Some y) = (
    λ h. ap (λ r. r ∷ []) ((decides (row y)).0 (sym (or_none (q (row y))) ∙ h)),
    λ e. or_none (q (row y)) ∙ (decides (row y)).1 (let same : row y ≡ x = cc in same),
  )

any_map : {X Y : Type 0} (q : Y → Bool) (f : X → Y) (xs : List X) → list_any q (map f xs) ≡ list_any (λ x. q (f x)) xs
any_map q f [] = refl
any_map q f (x ∷ xs) = ap (λ b. q (f x) || b) (any_map q f xs)

any_step : {Y : Type 0} (q : Y → Bool) (o : Option Y) (ys : List Y) (b : Bool) → list_any q ys ≡ b → list_any q (cons_option o ys) ≡ (option_map_or q o false || b)
any_step q None ys b h = h
any_step q (Some y) ys b h = ap (λ c. q y || c) h

any_filter_map : {X Y : Type 0} (q : Y → Bool) (f : X → Option Y) (xs : List X) → list_any q (filter_map f xs) ≡ list_any (λ x. option_map_or q (f x) false) xs
any_filter_map q f [] = refl
any_filter_map q f (x ∷ xs) = any_step q (f x) (filter_map f xs) (list_any (λ y. option_map_or q (f y) false) xs) (any_filter_map q f xs)

every : {X : Type 0} (xs : List X) → filter (λ _. true) xs ≡ xs
every [] = refl
every (x ∷ xs) = ap (λ l. x ∷ l) (every xs)

-- ── fittings ──

module _ (n c a : ℕ) (f : Fitting) where
  abbrev is_fitting : FittingRow → Bool
  is_fitting r = nat_eq r.seq n && (nat_eq r.component c && (nat_eq r.aircraft a && (same_text r.position f.position && nat_eq r.moment f.moment)))

  pub fitting_same : (r : FittingRow) → Decides (is_fitting r) (r ≡ fitting_row n c a f)
  fitting_same r =
      as_one (is_fitting r)
      (both (nat_eq r.seq n) _ (Decides-eqb r.seq n) (both (nat_eq r.component c) _ (Decides-eqb r.component c) (both (nat_eq r.aircraft a) _ (Decides-eqb r.aircraft a) (both (same_text r.position f.position) _ (text_same r.position f.position) (Decides-eqb r.moment f.moment)))))
      (λ e i. record { seq = e.0 i; component = e.1.0 i; aircraft = e.1.1.0 i; position = e.1.1.1.0 i; moment = e.1.1.1.1 i })
      (λ e. (ap (λ (x : FittingRow). x.seq) e, (ap (λ (x : FittingRow). x.component) e, (ap (λ (x : FittingRow). x.aircraft) e, (ap (λ (x : FittingRow). x.position) e, ap (λ (x : FittingRow). x.moment) e)))))

-- an entry says a fitting exactly where a span with its number begins with it
pub fitted_by_spans : (book : List Entry) (doc : List ℕ) (f : Fitting) (n : ℕ) (e : Entry) → IsBook book → has_shape (record { doc = doc; act = Fitted f }) ≡ true → known_from doc 1 book ≡ Some (n, e)
    → list_any (begins_with n (or_zero (seq_of_serial book f.serial)) (or_zero (seq_of_tail book f.tail)) f) (filter (λ (r : SpanRow). nat_eq r.fit_seq n) (span_rows book)) ≡ same_entry e (record { doc = doc; act = Fitted f })
fitted_by_spans book doc f n e b shape known =
    let c = or_zero (seq_of_serial book f.serial) in
    let a = or_zero (seq_of_tail book f.tail) in
    let q = is_fitting n c a f in
    let t = begins_with n c a f in
    let row = λ (x : Fitting). fitting_row n (or_zero (seq_of_serial book x.serial)) (or_zero (seq_of_tail book x.tail)) x in
    let one = any_one q (fitting_row n c a f) (fitting_same n c a f) row (fitting_of e.act) in
    let here : Decides (list_any q (found fittings book n)) (found fittings book n ≡ fitting_row n c a f ∷ []) = subst (λ l. Decides (list_any q l) (l ≡ fitting_row n c a f ∷ [])) (sym (rows_found fittings fittings_law book n e (known_is_at book b doc n e known))) one in
    any-filter_same t (λ (r : SpanRow). nat_eq r.fit_seq n) true (λ r h. (both_true (nat_eq r.fit_seq n) _ h).0) (span_rows book)
    ∙ sym (any_map q fitting_in (span_rows book))
    ∙ ap (list_any q) (sym (fittings_in_spans book))
    ∙ sym (any-filter_same q (λ (r : FittingRow). nat_eq r.seq n) true (λ r h. (both_true (nat_eq r.seq n) _ h).0) (fitting_rows book))
    ∙ same_from_decides {P = found fittings book n ≡ fitting_row n c a f ∷ []} _ _ here (known_rows book (record { doc = doc; act = Fitted f }) n e b shape known)

-- ── removals ──

module _ (n c : ℕ) (r : Removal) where
  abbrev is_removal : RemovalRow → Bool
  is_removal x = nat_eq x.seq n && (nat_eq x.component c && nat_eq x.moment r.moment)

  pub removal_same : (x : RemovalRow) → Decides (is_removal x) (x ≡ removal_row n c r)
  removal_same x =
      as_one (is_removal x)
      (both (nat_eq x.seq n) _ (Decides-eqb x.seq n) (both (nat_eq x.component c) _ (Decides-eqb x.component c) (Decides-eqb x.moment r.moment)))
      (λ e i. record { seq = e.0 i; component = e.1.0 i; moment = e.1.1 i })
      (λ e. (ap (λ (y : RemovalRow). y.seq) e, (ap (λ (y : RemovalRow). y.component) e, ap (λ (y : RemovalRow). y.moment) e)))

  none_ends : (p q : Bool) → p && (q && false) ≡ false
  none_ends true true = refl
  none_ends true false = refl
  none_ends false q = refl

  ends_if : (component : ℕ) (to seq : Option ℕ) → option_eq nat_eq seq (Some n) && (nat_eq component c && option_eq nat_eq to (Some r.moment)) ≡ option_map_or is_removal (removal_by component to seq) false
  ends_if component None seq = none_ends (option_eq nat_eq seq (Some n)) (nat_eq component c)
  ends_if component (Some m) None = refl
  ends_if component (Some m) (Some k) = refl

-- an entry says a removal exactly where a span with its number ends with it
pub removed_by_spans : (book : List Entry) (doc : List ℕ) (r : Removal) (n : ℕ) (e : Entry) → IsBook book → has_shape (record { doc = doc; act = Removed r }) ≡ true → known_from doc 1 book ≡ Some (n, e)
    → list_any (ends_with n (or_zero (seq_of_serial book r.serial)) r) (filter (λ (x : SpanRow). option_eq nat_eq x.remove_seq (Some n)) (span_rows book)) ≡ same_entry e (record { doc = doc; act = Removed r })
removed_by_spans book doc r n e b shape known =
    let c = or_zero (seq_of_serial book r.serial) in
    let q = is_removal n c r in
    let t = ends_with n c r in
    let row = λ (x : Removal). removal_row n (or_zero (seq_of_serial book x.serial)) x in
    let one = any_one q (removal_row n c r) (removal_same n c r) row (removal_of e.act) in
    let here : Decides (list_any q (found removals book n)) (found removals book n ≡ removal_row n c r ∷ []) = subst (λ l. Decides (list_any q l) (l ≡ removal_row n c r ∷ [])) (sym (rows_found removals removals_law book n e (known_is_at book b doc n e known))) one in
    let moved : IsPermutation (removal_rows book) (filter_map removal_in (span_rows book)) =
    subst (λ l. IsPermutation (removal_rows book) (filter_map removal_in l)) (every (span_rows book)) (subst (λ l. IsPermutation l (filter_map removal_in (filter (λ _. true) (span_rows book)))) (every (removal_rows book)) (removals_in_spans (λ _. true) book b)) in
    any-filter_same t (λ (x : SpanRow). option_eq nat_eq x.remove_seq (Some n)) true (λ x h. (both_true (option_eq nat_eq x.remove_seq (Some n)) _ h).0) (span_rows book)
    ∙ any_same t (λ (s : SpanRow). option_map_or q (removal_in s) false) (λ s. ends_if n c r s.component s.to s.remove_seq) (span_rows book)
    ∙ sym (any_filter_map q removal_in (span_rows book))
    ∙ sym (list_any-IsPermutation q (removal_rows book) (filter_map removal_in (span_rows book)) moved)
    ∙ sym (any-filter_same q (λ (x : RemovalRow). nat_eq x.seq n) true (λ x h. (both_true (nat_eq x.seq n) _ h).0) (removal_rows book))
    ∙ same_from_decides {P = found removals book n ≡ removal_row n c r ∷ []} _ _ here (known_rows book (record { doc = doc; act = Removed r }) n e b shape known)
