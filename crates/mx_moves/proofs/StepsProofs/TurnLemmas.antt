-- The spans of a component of a book take turns.
use Rattle.std.proofs.Common.{◌≡◌, ◌⊎◌, inl, inr, ◌≤◌, ◌<◌, ◌+◌, ◌&&◌, ℕ, nat_eq, Bool, true, false, cond, length, List, [], ◌∷◌, ◌++◌, length-append, Some, None, refl, sym, ap, subst, ◌∙◌, append-nil, arith}
use Rattle.std.specs.Prelude.{is_none, is_some, map, filter, find}
use Rattle.std.specs.List.{AllByRecursion}
use Rattle.std.proofs.lemmas.Bool.Decides.{Decides-eqb}
use Rattle.std.proofs.lemmas.List.Elements.{filter-append}
use Rattle.sqlite_keyed.proofs.ListLemmas.{filter-map, filter_same}
use Rattle.mx_book.specs.commands.Act.{Act, Entry, Fitted, Removed}
use Rattle.mx_book.specs.commands.Shape.{has_shape}
use Rattle.mx_book.specs.declared.verdict.Verdict.TheVariants.{New}
use Rattle.mx_book.specs.Book.{IsBook, is_new}
use Rattle.mx_book.specs.Judge.{judge}
use Rattle.mx_book.specs.Span.{Span, spans}
use Rattle.mx_book.proofs.PassLemmas.{new-fitting}
use Rattle.mx_registers.specs.Registers.{next}
use Rattle.mx_registers.specs.Names.{seq_of_serial, or_zero}
use Rattle.mx_registers.proofs.NewLemmas.{fitted_is_known}
use Rattle.mx_base.specs.declared.rows.rows.SpanRow.{SpanRow}
use Rattle.mx_registers.specs.kept.Spans.{span_ended, span_rows, spans_opened}
use Rattle.mx_registers.proofs.KeptProofs.Induction.{of_each_book}
use Rattle.mx_registers.proofs.KeptProofs.SpanRegisters.{is_open_row, open_alike}
use Rattle.mx_registers.proofs.KeptProofs.SpanRows.{row_to, span_rows-more}
use Rattle.mx_moves.specs.steps.Pairing.{AreTurns}

abbrev pub Ends : SpanRow → List SpanRow → ℕ → Type 0
Ends s rest high = ((n : ℕ) × (m : ℕ) × (s.remove_seq ≡ Some n) × (s.to ≡ Some m) × (s.fit_seq < n) × AreTurns (n + 1) rest high) ⊎ ((s.remove_seq ≡ None) × (s.to ≡ None) × (rest ≡ []) × (s.fit_seq < high))

grow : (low high higher : ℕ) (xs : List SpanRow) → high ≤ higher → AreTurns low xs high → AreTurns low xs higher
grow low high higher [] le h = omega (arith, h)
grow low high higher (s ∷ rest) le h = (h.0, by h.1 (λ n. grow (n + 1) high higher rest le))
  where
    by : Ends s rest high → ((n : ℕ) → AreTurns (n + 1) rest high → AreTurns (n + 1) rest higher) → Ends s rest higher
    by (inl c) more = inl (c.0, c.1, c.2, c.3, c.4, more c.0 c.5)
    by (inr o) more = inr (o.0, o.1, o.2, omega (arith, o.3))

module _ (n m : ℕ) (q : SpanRow → Bool) where
  abbrev ended : SpanRow → SpanRow
  ended row = cond {A = SpanRow} (is_none row.to && q row) (row_to row (Some n) (Some m)) row

  closes : (low : ℕ) (xs : List SpanRow) → AreTurns low xs n → AreTurns low (map ended xs) (n + 1)
  closes low [] h = omega (arith, h)
  closes low (s ∷ rest) h = by (is_none s.to && q s) refl h.1 (λ k. closes (k + 1) rest)
    where
      by : (b : Bool) → (is_none s.to && q s) ≡ b → Ends s rest n → ((k : ℕ) → AreTurns (k + 1) rest n → AreTurns (k + 1) (map ended rest) (n + 1)) → AreTurns low (cond {A = SpanRow} b (row_to s (Some n) (Some m)) s ∷ map ended rest) (n + 1)
      by true e (inl c) more = absurd (let never : is_none (Some c.1) && q s ≡ true = subst (λ o. is_none o && q s ≡ true) c.3 e in cc)
      by true e (inr o) more = (h.0, inl (n, m, refl, refl, o.3, subst (λ r. AreTurns (n + 1) (map ended r) (n + 1)) (sym o.2) (omega arith)))
      by false e (inl c) more = (h.0, inl (c.0, c.1, c.2, c.3, c.4, more c.0 c.5))
      by false e (inr o) more = (h.0, inr (o.0, o.1, ap (map ended) o.2, omega (arith, o.3)))

opens : (n : ℕ) (s : SpanRow) (low : ℕ) (xs : List SpanRow) → s.fit_seq ≡ n → s.remove_seq ≡ None → s.to ≡ None → AllByRecursion (λ (row : SpanRow). is_none row.to ≡ false) xs → AreTurns low xs n → AreTurns low (xs ++ s ∷ []) (n + 1)
opens n s low [] e r t all h = (omega (arith, h, e), inr (r, t, refl, omega (arith, e)))
opens n s low (x ∷ xs) e r t all h = (h.0, by h.1 (λ k. opens n s (k + 1) xs e r t all.1))
  where
    by : Ends x xs n → ((k : ℕ) → AreTurns (k + 1) xs n → AreTurns (k + 1) (xs ++ s ∷ []) (n + 1)) → Ends x (xs ++ s ∷ []) (n + 1)
    by (inl c) more = inl (c.0, c.1, c.2, c.3, c.4, more c.0 c.5)
    by (inr o) more = absurd (let never : true ≡ false = subst (λ t. is_none t ≡ false) o.1 all.0 in cc)

none_found : {X : Type 0} (p : X → Bool) (xs : List X) → is_some (find p xs) ≡ false → length (filter p xs) ≡ 0
none_found p [] h = refl
none_found p (x ∷ xs) h = by (p x) h (none_found p xs)
  where
    by : (b : Bool) → is_some (cond b (Some x) (find p xs)) ≡ false → (is_some (find p xs) ≡ false → length (filter p xs) ≡ 0) → length (cond b (x ∷ filter p xs) (filter p xs)) ≡ 0
    by true e more = absurd cc
    by false e more = more e

module _ (c : ℕ) where
  abbrev is : SpanRow → Bool
  is row = nat_eq row.component c

  all_closed : (xs : List SpanRow) → length (filter (is_open_row c) xs) ≡ 0 → AllByRecursion (λ (row : SpanRow). is_none row.to ≡ false) (filter is xs)
  all_closed [] h = tt
  all_closed (x ∷ xs) h = by (is_none x.to) (is x) refl h (all_closed xs)
    where
      by : (a b : Bool) → is_none x.to ≡ a → length (cond (a && b) (x ∷ filter (is_open_row c) xs) (filter (is_open_row c) xs)) ≡ 0 → (length (filter (is_open_row c) xs) ≡ 0 → AllByRecursion (λ (row : SpanRow). is_none row.to ≡ false) (filter is xs)) → AllByRecursion (λ (row : SpanRow). is_none row.to ≡ false) (cond b (x ∷ filter is xs) (filter is xs))
      by true true e len more = absurd (omega (arith, len))
      by true false e len more = more len
      by false true e len more = (e, more len)
      by false false e len more = more len

  abbrev Turns : List Entry → Type 0
  Turns book = AreTurns 1 (filter is (span_rows book)) (next book)

  map_same : (xs : List SpanRow) → map (λ (row : SpanRow). row) xs ≡ xs
  map_same [] = refl
  map_same (x ∷ xs) = ap (λ l. x ∷ l) (map_same xs)

  stays : (book : List Entry) → Turns book → AreTurns 1 (filter is (map (λ (row : SpanRow). row) (span_rows book) ++ [])) (next book + 1)
  stays book h = subst (λ l. AreTurns 1 (filter is l) (next book + 1)) (sym (append-nil (map (λ (row : SpanRow). row) (span_rows book)) ∙ map_same (span_rows book))) (grow 1 (next book) (next book + 1) (filter is (span_rows book)) (omega arith) h)

  same_component : (n m : ℕ) (q : SpanRow → Bool) (x : SpanRow) → is (ended n m q x) ≡ is x
  same_component n m q x = by (is_none x.to && q x)
    where
      by : (b : Bool) → is (cond {A = SpanRow} b (row_to x (Some n) (Some m)) x) ≡ is x
      by true = refl
      by false = refl

  by_act : (book : List Entry) (doc : List ℕ) (act : Act) → IsBook book → judge book (record { doc = doc; act = act }) ≡ New → Turns book → AreTurns 1 (filter is (map (span_ended book act) (span_rows book) ++ spans_opened book act)) (next book + 1)
  by_act book doc (Removed r) b new h =
      let q = λ (row : SpanRow). nat_eq row.component (or_zero (seq_of_serial book r.serial)) in
      let f = ended (next book) r.moment q in
      subst (λ l. AreTurns 1 (filter is l) (next book + 1)) (sym (append-nil (map f (span_rows book))))
      (subst (λ l. AreTurns 1 l (next book + 1)) (sym (filter-map is f (span_rows book) ∙ ap (map f) (filter_same (λ x. is (f x)) is (same_component (next book) r.moment q) (span_rows book)))) (closes (next book) r.moment q 1 (filter is (span_rows book)) h))
  by_act book doc (Fitted f) b new h =
      let number = or_zero (seq_of_serial book f.serial) in
      subst (λ l. AreTurns 1 l (next book + 1)) (sym (filter-append is (map (λ (row : SpanRow). row) (span_rows book)) (spans_opened book (Fitted f))))
      (subst (λ l. AreTurns 1 (filter is l ++ filter is (spans_opened book (Fitted f))) (next book + 1)) (sym (map_same (span_rows book))) (by (nat_eq number c) refl))
    where
      by : (k : Bool) → nat_eq (or_zero (seq_of_serial book f.serial)) c ≡ k → AreTurns 1 (filter is (span_rows book) ++ cond k (spans_opened book (Fitted f)) []) (next book + 1)
      by true e =
          let known = (fitted_is_known book doc f (ap is_new new)).1 in
          let none = none_found (λ (s : Span). _) (spans book) (new-fitting book (record { doc = doc; act = Fitted f }) f new refl).1 in
          let same : c ≡ or_zero (seq_of_serial book f.serial) = sym ((Decides-eqb (or_zero (seq_of_serial book f.serial)) c).0 e) in
          opens (next book) _ 1 (filter is (span_rows book)) refl refl refl (all_closed (span_rows book) (open_alike c f.serial [] book b.judged known same ∙ none)) h
      by false e = subst (λ l. AreTurns 1 l (next book + 1)) (sym (append-nil (filter is (span_rows book)))) (grow 1 (next book) (next book + 1) (filter is (span_rows book)) (omega arith) h)
  by_act book doc act b new h = stays book h

  turns_step : (book : List Entry) (e : Entry) → IsBook book → has_shape e ≡ true → judge book e ≡ New → Turns book → Turns (book ++ e ∷ [])
  turns_step book e b shape new h =
      let more : next book + 1 ≡ next (book ++ e ∷ []) = omega (arith, length-append book (e ∷ [])) in
      subst (AreTurns 1 (filter is (span_rows (book ++ e ∷ [])))) more (subst (λ l. AreTurns 1 (filter is l) (next book + 1)) (sym (span_rows-more book e b new)) (by_act book e.doc e.act b new h))

  pub take_turns : (book : List Entry) → IsBook book → AreTurns 1 (filter (λ (row : SpanRow). nat_eq row.component c) (span_rows book)) (next book)
  take_turns = of_each_book Turns turns_step (omega arith)
