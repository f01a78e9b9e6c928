-- Spans as entries are added: each ends once, and no component and no position has two that are open.
use Rattle.std.proofs.Common.{arith, refl, sym, subst, ap, ◌∙◌, ◌≡◌, ℕ, ◌+◌, ◌≤◌, length, List, [], ◌∷◌, ◌++◌, Bool, true, false, cond, ◌&&◌, ◌||◌, Option, Some, None, append_assoc, append-nil}
use Rattle.std.specs.Prelude.{find, filter, is_some, is_none}
use Rattle.std.specs.List.{list_any}
use Rattle.std.specs.Option.{option_map, option_or}
use Rattle.std.proofs.lemmas.List.Elements.{filter_map-append}
use Rattle.std.proofs.lemmas.List.Folds.{find-append, list_any-append}
use Rattle.mx_book.specs.commands.Act.{Act, Entry, Fitted, Removed, removal_of}
use Rattle.mx_book.specs.commands.Same.{same_text}
use Rattle.mx_book.specs.declared.commands.fitting.Fitting.{Fitting}
use Rattle.mx_book.specs.declared.commands.fitting.Removal.{Removal}
use Rattle.mx_book.proofs.CommandsProofs.SameLemmas.{text_same}
use Rattle.mx_book.specs.declared.verdict.Verdict.TheVariants.{New}
use Rattle.mx_book.specs.Register.{register}
use Rattle.mx_book.specs.Span.{Span, first_removal, span_begun, spans, fitted, is_taken, is_open_on, open_spans_of, open_spans_at}
use Rattle.mx_book.specs.Judge.{judge}
use Rattle.mx_book.specs.Book.{is_new, is_book_from, IsBook}
use Rattle.mx_book.proofs.JudgeLemmas.{both_true, is_new-New}
use Rattle.mx_book.proofs.PassLemmas.{new-fitting}

-- the span of a fitting that these entries follow
abbrev span_of : Fitting → List Entry → Span
span_of f later = record { serial = f.serial; tail = f.tail; position = f.position; from = f.moment; to = first_removal f.serial later }

-- ── the first removal ──

map_either : {X Y : Type 0} (f : X → Y) (o p : Option X) → option_map f (option_or o p) ≡ option_or (option_map f o) (option_map f p)
map_either f None p = refl
map_either f (Some x) p = refl

-- the first removal among some entries, or else among the others
first_removal-append : (serial : List ℕ) (book more : List Entry) → first_removal serial (book ++ more) ≡ option_or (first_removal serial book) (first_removal serial more)
first_removal-append serial book more =
    ap (λ rs. option_map (λ (r : Removal). r.moment) (find (λ (r : Removal). same_text r.serial serial) rs)) (filter_map-append (λ (e : Entry). removal_of e.act) book more)
    ∙ ap (option_map (λ (r : Removal). r.moment)) (find-append (λ (r : Removal). same_text r.serial serial) (register removal_of book) (register removal_of more))
    ∙ map_either (λ (r : Removal). r.moment) (find (λ (r : Removal). same_text r.serial serial) (register removal_of book)) (find (λ (r : Removal). same_text r.serial serial) (register removal_of more))

neither_some : (o p : Option ℕ) → option_or o p ≡ None → o ≡ None
neither_some None p h = refl
neither_some (Some x) p h = (cc)

-- what more entries do not remove was not removed before
not_removed : (serial : List ℕ) (book more : List Entry) → first_removal serial (book ++ more) ≡ None → first_removal serial book ≡ None
not_removed serial book more h = neither_some (first_removal serial book) (first_removal serial more) (sym (first_removal-append serial book more) ∙ h)

-- ── open spans, by a test that no span passes that has ended ──

module _ (test : Span → Bool) (ended : (s : Span) (m : ℕ) → s.to ≡ Some m → test s ≡ false) where
  -- a span that is open still was open before
  was_open : (f : Fitting) (book more : List Entry) → test (span_of f (book ++ more)) ≡ true → test (span_of f book) ≡ true
  was_open f book more h = at (first_removal f.serial (book ++ more)) refl
    where
      at : (o : Option ℕ) → first_removal f.serial (book ++ more) ≡ o → test (span_of f book) ≡ true
      at (Some m) e = let shut : test (span_of f (book ++ more)) ≡ false = ended (span_of f (book ++ more)) m e in (cc)
      at None e =
          let same : first_removal f.serial (book ++ more) ≡ first_removal f.serial book = e ∙ sym (not_removed f.serial book more e) in
          subst (λ o. test (record { serial = f.serial; tail = f.tail; position = f.position; from = f.moment; to = o }) ≡ true) same h

  no_more : (s t : Span) (xs ys : List Span) (k : ℕ) → (test s ≡ true → test t ≡ true) → length xs ≤ length ys + k → (b : Bool) → test s ≡ b → (c : Bool) → test t ≡ c → length (cond b (s ∷ xs) xs) ≤ length (cond c (t ∷ ys) ys) + k
  no_more s t xs ys k h n true e true d = omega (arith, n)
  no_more s t xs ys k h n false e true d = omega (arith, n)
  no_more s t xs ys k h n false e false d = n
  no_more s t xs ys k h n true e false d = let q : test t ≡ true = h e in (cc)

  -- an entry adds no open spans but the one that it begins
  open-more : (book : List Entry) (e : Entry) → length (filter test (spans (book ++ e ∷ []))) ≤ length (filter test (spans book)) + length (filter test (span_begun e.act []))
  open-more [] e = let same = ap (λ l. length (filter test l)) (append-nil (span_begun e.act [])) in omega (arith, same)
  open-more (x ∷ book) e = at (open-more book e) x.act
    where
      at : length (filter test (spans (book ++ e ∷ []))) ≤ length (filter test (spans book)) + length (filter test (span_begun e.act []))
          → (act : Act) → length (filter test (span_begun act (book ++ e ∷ []) ++ spans (book ++ e ∷ []))) ≤ length (filter test (span_begun act book ++ spans book)) + length (filter test (span_begun e.act []))
      at n (Fitted f) =
          no_more (span_of f (book ++ e ∷ [])) (span_of f book) (filter test (spans (book ++ e ∷ []))) (filter test (spans book)) (length (filter test (span_begun e.act [])))
          (was_open f book (e ∷ [])) n (test (span_of f (book ++ e ∷ []))) refl (test (span_of f book)) refl
      at n _ = n

  module _ (free : (book : List Entry) (e : Entry) (f : Fitting) → judge book e ≡ New → e.act ≡ Fitted f → test (span_of f []) ≡ true → length (filter test (spans book)) ≡ 0) where
    one_begun : (book : List Entry) (e : Entry) → judge book e ≡ New → length (filter test (spans book)) ≤ 1 → (act : Act) → e.act ≡ act → length (filter test (spans book)) + length (filter test (span_begun act [])) ≤ 1
    one_begun book e new n (Fitted f) says = at (test (span_of f [])) refl
      where
        at : (b : Bool) → test (span_of f []) ≡ b → length (filter test (spans book)) + length (cond b (span_of f [] ∷ []) []) ≤ 1
        at true t = let none = free book e f new says t in omega (arith, none)
        at false t = omega (arith, n)
    one_begun book e new n _ says = omega (arith, n)

    one_after : (book : List Entry) (e : Entry) → judge book e ≡ New → length (filter test (spans book)) ≤ 1 → length (filter test (spans (book ++ e ∷ []))) ≤ 1
    one_after book e new n = let more = open-more book e in let begun = one_begun book e new n e.act refl in omega (arith, more, begun)

    -- where a fitting is new only if there is none yet, there is at most one
    at_most_one : (before later : List Entry) → is_book_from before later ≡ true → length (filter test (spans before)) ≤ 1 → length (filter test (spans (before ++ later))) ≤ 1
    at_most_one before [] h n = subst (λ (es : List Entry). length (filter test (spans es)) ≤ 1) (sym (append-nil before)) n
    at_most_one before (e ∷ later) h n =
        let both = both_true (is_new (judge before e)) (is_book_from (before ++ e ∷ []) later) h in
        subst (λ (es : List Entry). length (filter test (spans es)) ≤ 1) (append_assoc before (e ∷ []) later)
        (at_most_one (before ++ e ∷ []) later both.1 (one_after before e (is_new-New (judge before e) both.0) n))

-- ── components and positions ──

none_found : (test : Span → Bool) (xs : List Span) → find test xs ≡ None → length (filter test xs) ≡ 0
none_found test [] h = refl
none_found test (x ∷ xs) h = at (none_found test xs) (test x) h
  where
    at : (find test xs ≡ None → length (filter test xs) ≡ 0) → (b : Bool) → cond b (Some x) (find test xs) ≡ None → length (cond b (x ∷ filter test xs) (filter test xs)) ≡ 0
    at later true n = (cc)
    at later false n = later n

none_passes : (test : Span → Bool) (xs : List Span) → list_any test xs ≡ false → length (filter test xs) ≡ 0
none_passes test [] h = refl
none_passes test (x ∷ xs) h = at (none_passes test xs) (test x) h
  where
    at : (list_any test xs ≡ false → length (filter test xs) ≡ 0) → (b : Bool) → b || list_any test xs ≡ false → length (cond b (x ∷ filter test xs) (filter test xs)) ≡ 0
    at later true n = (cc)
    at later false n = later n

no_some : (o : Option Span) → is_some o ≡ false → o ≡ None
no_some None h = refl
no_some (Some x) h = (cc)

and_false : (p : Bool) → p && false ≡ false
and_false true = refl
and_false false = refl

ended_of : (serial : List ℕ) (s : Span) (m : ℕ) → s.to ≡ Some m → same_text s.serial serial && is_none s.to ≡ false
ended_of serial s m e = ap (λ o. same_text s.serial serial && is_none o) e ∙ and_false (same_text s.serial serial)

ended_at : (tail position : List ℕ) (s : Span) (m : ℕ) → s.to ≡ Some m → is_open_on tail s && same_text s.position position ≡ false
ended_at tail position s m e =
    ap (λ o. (same_text s.tail tail && is_none o) && same_text s.position position) e
    ∙ ap (λ b. b && same_text s.position position) (and_false (same_text s.tail tail))

free_component : (serial : List ℕ) (book : List Entry) (e : Entry) (f : Fitting) → judge book e ≡ New → e.act ≡ Fitted f → same_text f.serial serial && true ≡ true → length (open_spans_of book serial) ≡ 0
free_component serial book e f new says opened =
    let same : f.serial ≡ serial = (text_same f.serial serial).0 (both_true (same_text f.serial serial) true opened).0 in
    let nowhere = no_some (fitted book f.serial) (new-fitting book e f new says).1 in
    none_found (λ s. same_text s.serial serial && is_none s.to) (spans book) (subst (λ t. fitted book t ≡ None) same nowhere)

free_position : (tail position : List ℕ) (book : List Entry) (e : Entry) (f : Fitting) → judge book e ≡ New → e.act ≡ Fitted f → (same_text f.tail tail && true) && same_text f.position position ≡ true → length (open_spans_at book tail position) ≡ 0
free_position tail position book e f new says opened =
    let both = both_true (same_text f.tail tail && true) (same_text f.position position) opened in
    let there : f.tail ≡ tail = (text_same f.tail tail).0 (both_true (same_text f.tail tail) true both.0).0 in
    let place : f.position ≡ position = (text_same f.position position).0 both.1 in
    let untaken = (new-fitting book e f new says).0 in
    none_passes (λ s. is_open_on tail s && same_text s.position position) (spans book)
    (subst (λ t. is_taken book t position ≡ false) there (subst (λ t. is_taken book f.tail t ≡ false) place untaken))

-- a component has at most one open span
pub one_place : (book : List Entry) (serial : List ℕ) → IsBook book → length (open_spans_of book serial) ≤ 1
one_place book serial h = at_most_one (λ s. same_text s.serial serial && is_none s.to) (ended_of serial) (free_component serial) [] book h.judged (omega arith)

-- a position has at most one open span
pub one_component : (book : List Entry) (tail position : List ℕ) → IsBook book → length (open_spans_at book tail position) ≤ 1
one_component book tail position h = at_most_one (λ s. is_open_on tail s && same_text s.position position) (ended_at tail position) (free_position tail position) [] book h.judged (omega arith)

-- ── just fitted, just removed ──

either_some : (o : Option Removal) (r : Removal) → is_none (option_map (λ (r : Removal). r.moment) (option_or o (Some r))) ≡ false
either_some None r = refl
either_some (Some x) r = refl

removed_there : (book : List Entry) (doc : List ℕ) (r : Removal) → is_none (first_removal r.serial (book ++ record { doc = doc; act = Removed r } ∷ [])) ≡ false
removed_there book doc r =
    let found : find (λ (x : Removal). same_text x.serial r.serial) (r ∷ []) ≡ Some r = ap (λ b. cond b (Some r) None) ((text_same r.serial r.serial).1 refl) in
    ap (λ rs. is_none (option_map (λ (x : Removal). x.moment) (find (λ (x : Removal). same_text x.serial r.serial) rs))) (filter_map-append (λ (e : Entry). removal_of e.act) book (record { doc = doc; act = Removed r } ∷ []))
    ∙ ap (λ o. is_none (option_map (λ (x : Removal). x.moment) o)) (find-append (λ (x : Removal). same_text x.serial r.serial) (register removal_of book) (r ∷ []))
    ∙ ap (λ o. is_none (option_map (λ (x : Removal). x.moment) (option_or (find (λ (x : Removal). same_text x.serial r.serial) (register removal_of book)) o))) found
    ∙ either_some (find (λ (x : Removal). same_text x.serial r.serial) (register removal_of book)) r

shut : (book : List Entry) (doc : List ℕ) (r : Removal) (f : Fitting) (b : Bool) → same_text f.serial r.serial ≡ b → b && is_none (first_removal f.serial (book ++ record { doc = doc; act = Removed r } ∷ [])) ≡ false
shut book doc r f true e =
    subst (λ (t : List ℕ). is_none (first_removal t (book ++ record { doc = doc; act = Removed r } ∷ [])) ≡ false) (sym ((text_same f.serial r.serial).0 e)) (removed_there book doc r)
shut book doc r f false e = refl

-- a component that was just removed is fitted nowhere
pub removed_nowhere : (book : List Entry) (doc : List ℕ) (r : Removal) → fitted (book ++ record { doc = doc; act = Removed r } ∷ []) r.serial ≡ None
removed_nowhere [] doc r = refl
removed_nowhere (x ∷ book) doc r = at (removed_nowhere book doc r) x.act
  where
    at : fitted (book ++ record { doc = doc; act = Removed r } ∷ []) r.serial ≡ None → (act : Act)
        → find (λ (s : Span). same_text s.serial r.serial && is_none s.to) (span_begun act (book ++ record { doc = doc; act = Removed r } ∷ []) ++ spans (book ++ record { doc = doc; act = Removed r } ∷ [])) ≡ None
    at n (Fitted f) =
        ap (λ b. cond b (Some (span_of f (book ++ record { doc = doc; act = Removed r } ∷ []))) (fitted (book ++ record { doc = doc; act = Removed r } ∷ []) r.serial)) (shut book doc r f (same_text f.serial r.serial) refl) ∙ n
    at n _ = n

or_true : (p : Bool) → p || true ≡ true
or_true true = refl
or_true false = refl

-- a component that was just fitted takes its position
pub fitted_takes : (book : List Entry) (doc : List ℕ) (f : Fitting) → is_taken (book ++ record { doc = doc; act = Fitted f } ∷ []) f.tail f.position ≡ true
fitted_takes [] doc f =
    ap (λ b. ((b && true) && same_text f.position f.position) || false) ((text_same f.tail f.tail).1 refl)
    ∙ ap (λ b. b || false) ((text_same f.position f.position).1 refl)
fitted_takes (x ∷ book) doc f =
    list_any-append (λ (s : Span). is_open_on f.tail s && same_text s.position f.position) (span_begun x.act (book ++ record { doc = doc; act = Fitted f } ∷ [])) (spans (book ++ record { doc = doc; act = Fitted f } ∷ []))
    ∙ ap (λ b. list_any (λ (s : Span). is_open_on f.tail s && same_text s.position f.position) (span_begun x.act (book ++ record { doc = doc; act = Fitted f } ∷ [])) || b) (fitted_takes book doc f)
    ∙ or_true (list_any (λ (s : Span). is_open_on f.tail s && same_text s.position f.position) (span_begun x.act (book ++ record { doc = doc; act = Fitted f } ∷ [])))
