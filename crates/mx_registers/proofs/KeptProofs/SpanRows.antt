-- The rows of the spans of a book with one command more.
use Rattle.std.proofs.Common.{arith, refl, sym, subst, ap, ◌∙◌, ◌≡◌, ℕ, ◌+◌, length, List, [], ◌∷◌, ◌++◌, Bool, true, false, cond, ◌&&◌, Option, Some, None, append_assoc, append-nil, length-append, nat_eq}
use Rattle.std.specs.Prelude.{is_none, is_some, map, find}
use Rattle.std.specs.List.{cons_option}
use Rattle.std.specs.Option.{option_map, option_or}
use Rattle.std.proofs.lemmas.Bool.Decides.{same_from_decides, Decides-eqb}
use Rattle.std.proofs.lemmas.List.{map-append}
use Rattle.mx_book.specs.commands.Act.{Act, Entry, Fitted, Removed, removal_of}
use Rattle.mx_book.specs.commands.Same.{same_text}
use Rattle.mx_book.specs.declared.commands.fitting.Fitting.{Fitting}
use Rattle.mx_book.specs.declared.commands.fitting.Removal.{Removal}
use Rattle.mx_book.proofs.CommandsProofs.SameLemmas.{text_same}
use Rattle.mx_book.specs.declared.verdict.Verdict.TheVariants.{New}
use Rattle.mx_book.specs.Register.{register, component}
use Rattle.mx_book.specs.Book.{IsBook, is_new, is_book_from}
use Rattle.mx_book.specs.Judge.{judge}
use Rattle.mx_book.specs.Span.{first_removal, span_begun}
use Rattle.mx_book.proofs.JudgeLemmas.{both_true}
use Rattle.mx_registers.specs.Names.{serial_added, serial_at, seq_of_serial, number_from, adds_named, or_zero}
use Rattle.mx_registers.specs.Registers.{next}
use Rattle.mx_registers.proofs.NameLemmas.{serial_known}
use Rattle.mx_registers.proofs.NewLemmas.{fitted_is_known, removed_is_known}
use Rattle.mx_base.specs.declared.rows.rows.SpanRow.{SpanRow}
use Rattle.mx_registers.specs.kept.Spans.{removal_from, removes, span_ended, span_row, span_rows, span_rows_from, spans_opened}
use Rattle.mx_registers.proofs.KeptProofs.SpanGrowth.{span_of, first_removal-append, same_sym}
use Rattle.mx_registers.proofs.KeptProofs.KnownLemmas.{component_kept}

-- ── numbers of names ──

pub number-append : (name_of : Entry → Option (List ℕ)) (name : List ℕ) (k : ℕ) (book more : List Entry) → number_from name_of name k (book ++ more) ≡ option_or (number_from name_of name k book) (number_from name_of name (k + length book) more)
number-append name_of name k [] more = let e : k ≡ k + 0 = omega arith in ap (λ n. number_from name_of name n more) e
number-append name_of name k (x ∷ book) more = at (adds_named name_of name x) (number-append name_of name (k + 1) book more)
  where
    same : k + 1 + length book ≡ k + length (x ∷ book)
    same = omega arith

    at : (b : Bool) → number_from name_of name (k + 1) (book ++ more) ≡ option_or (number_from name_of name (k + 1) book) (number_from name_of name (k + 1 + length book) more)
        → cond b (Some k) (number_from name_of name (k + 1) (book ++ more)) ≡ option_or (cond b (Some k) (number_from name_of name (k + 1) book)) (number_from name_of name (k + length (x ∷ book)) more)
    at true h = refl
    at false h = h ∙ ap (λ n. option_or (number_from name_of name (k + 1) book) (number_from name_of name n more)) same

-- no number is 0
pub has_number : (named : ℕ → Option (List ℕ)) (name : List ℕ) (o : Option ℕ) → named 0 ≡ None → named (or_zero o) ≡ Some name → is_some o ≡ true
has_number named name (Some n) none e = refl
has_number named name None none e = (cc)

pub or_known : (o p : Option ℕ) → is_some o ≡ true → or_zero (option_or o p) ≡ or_zero o
or_known None p h = (cc)
or_known (Some n) p h = refl

-- the number of a component stays
pub serial_number_kept : (book more : List Entry) (serial : List ℕ) → is_some (component book serial) ≡ true → or_zero (seq_of_serial (book ++ more) serial) ≡ or_zero (seq_of_serial book serial)
serial_number_kept book more serial h =
    ap or_zero (number-append serial_added serial 1 book more)
    ∙ or_known (seq_of_serial book serial) (number_from serial_added serial (1 + length book) more) (has_number (serial_at book) serial (seq_of_serial book serial) refl (serial_known book serial h))

-- two names whose numbers name them have one number exactly where they are one
pub one_number_by : (numbers : List ℕ → Option ℕ) (named : ℕ → Option (List ℕ)) (a b : List ℕ) → named (or_zero (numbers a)) ≡ Some a → named (or_zero (numbers b)) ≡ Some b → nat_eq (or_zero (numbers a)) (or_zero (numbers b)) ≡ same_text a b
one_number_by numbers named a b h k =
    same_from_decides {P = a ≡ b} (nat_eq (or_zero (numbers a)) (or_zero (numbers b))) (same_text a b) (
      (λ e. let n = (Decides-eqb (or_zero (numbers a)) (or_zero (numbers b))).0 e in
          let p : Some a ≡ Some b = sym h ∙ ap named n ∙ k in cc),
      (λ e. (Decides-eqb (or_zero (numbers a)) (or_zero (numbers b))).1 (ap (λ (t : List ℕ). or_zero (numbers t)) e)),
    )
    (text_same a b)

-- two components of a book have one number exactly where they have one serial number
pub one_number : (book : List Entry) (a b : List ℕ) → is_some (component book a) ≡ true → is_some (component book b) ≡ true → nat_eq (or_zero (seq_of_serial book a)) (or_zero (seq_of_serial book b)) ≡ same_text a b
one_number book a b h k = one_number_by (seq_of_serial book) (serial_at book) a b (serial_known book a h) (serial_known book b k)

-- ── the number of a removal ──

removal-append : (serial : List ℕ) (k : ℕ) (later : List Entry) (e : Entry) → removal_from serial k (later ++ e ∷ []) ≡ option_or (removal_from serial k later) (cond (removes serial e.act) (Some (k + length later)) None)
removal-append serial k [] e = let n : k ≡ k + 0 = omega arith in ap (λ n. cond (removes serial e.act) (Some n) None) n
removal-append serial k (x ∷ later) e = at (removes serial x.act) (removal-append serial (k + 1) later e)
  where
    same : k + 1 + length later ≡ k + length (x ∷ later)
    same = omega arith

    at : (b : Bool) → removal_from serial (k + 1) (later ++ e ∷ []) ≡ option_or (removal_from serial (k + 1) later) (cond (removes serial e.act) (Some (k + 1 + length later)) None)
        → cond b (Some k) (removal_from serial (k + 1) (later ++ e ∷ [])) ≡ option_or (cond b (Some k) (removal_from serial (k + 1) later)) (cond (removes serial e.act) (Some (k + length (x ∷ later))) None)
    at true h = refl
    at false h = h ∙ ap (λ n. option_or (removal_from serial (k + 1) later) (cond (removes serial e.act) (Some n) None)) same

removal_alike : (serial : List ℕ) (k : ℕ) (later : List Entry) → is_none (removal_from serial k later) ≡ is_none (first_removal serial later)
removal_alike serial k [] = refl
removal_alike serial k (x ∷ later) = at x.act (removal_alike serial (k + 1) later)
  where
    if : (b : Bool) (r : Removal) → is_none (removal_from serial (k + 1) later) ≡ is_none (first_removal serial later)
        → is_none (cond b (Some k) (removal_from serial (k + 1) later)) ≡ is_none (option_map (λ (r : Removal). r.moment) (cond b (Some r) (find (λ (r : Removal). same_text r.serial serial) (register removal_of later))))
    if true r h = refl
    if false r h = h

    at : (act : Act) → is_none (removal_from serial (k + 1) later) ≡ is_none (first_removal serial later)
        → is_none (cond (removes serial act) (Some k) (removal_from serial (k + 1) later)) ≡ is_none (option_map (λ (r : Removal). r.moment) (find (λ (r : Removal). same_text r.serial serial) (cons_option (removal_of act) (register removal_of later))))
    at (Removed r) h = if (same_text r.serial serial) r h
    at _ h = h

-- ── the row of a span with one entry more ──

abbrev pub row_to : SpanRow → Option ℕ → Option ℕ → SpanRow
row_to row seq to = record row { remove_seq = seq; to = to }

ended_either : (row : SpanRow) (q o : Option ℕ) (b : Bool) (n m : ℕ) → is_none q ≡ is_none o → row_to row (option_or q (cond b (Some n) None)) (option_or o (cond b (Some m) None)) ≡ cond {A = SpanRow} (is_none o && b) (row_to row (Some n) (Some m)) (row_to row q o)
ended_either row None None true n m h = refl
ended_either row None None false n m h = refl
ended_either row (Some x) (Some y) b n m h = refl
ended_either row None (Some y) b n m h = (cc)
ended_either row (Some x) None b n m h = (cc)

kept_either : (row : SpanRow) (q o : Option ℕ) → row_to row (option_or q None) (option_or o None) ≡ row_to row q o
kept_either row None None = refl
kept_either row (Some x) (Some y) = refl
kept_either row None (Some y) = refl
kept_either row (Some x) None = refl

if_moment : (r : Removal) (b : Bool) → option_map (λ (x : Removal). x.moment) (cond b (Some r) None) ≡ cond b (Some r.moment) None
if_moment r true = refl
if_moment r false = refl

next_after : (before later : List Entry) (x : Entry) → next before + 1 + length later ≡ next (before ++ x ∷ later)
next_after before later x = omega (arith, length-append before (x ∷ later))

row_more : (before later : List Entry) (x : Entry) (f : Fitting) (doc : List ℕ) (act : Act) → is_some (component before f.serial) ≡ true → judge (before ++ x ∷ later) (record { doc = doc; act = act }) ≡ New
    → span_row before (later ++ record { doc = doc; act = act } ∷ []) (span_of f (later ++ record { doc = doc; act = act } ∷ [])) ≡ span_ended (before ++ x ∷ later) act (span_row before later (span_of f later))
row_more before later x f doc (Removed r) known new =
    let e : Entry = record { doc = doc; act = Removed r } in
    let row = span_row before later (span_of f later) in
    let q = removal_from f.serial (next before + 1) later in
    let o = first_removal f.serial later in
    let whole = before ++ x ∷ later in
    let number : nat_eq row.component (or_zero (seq_of_serial whole r.serial)) ≡ same_text f.serial r.serial =
    ap (λ n. nat_eq n (or_zero (seq_of_serial whole r.serial))) (sym (serial_number_kept before (x ∷ later) f.serial known))
    ∙ one_number whole f.serial r.serial (ap is_some (component_kept before (x ∷ later) f.serial known) ∙ known) (removed_is_known whole doc r (ap is_new new)) in
    ap (λ p. row_to row p (first_removal f.serial (later ++ e ∷ []))) (removal-append f.serial (next before + 1) later e)
    ∙ ap (row_to row (option_or q (cond (same_text r.serial f.serial) (Some (next before + 1 + length later)) None))) (first_removal-append f.serial later (e ∷ []) ∙ ap (option_or o) (if_moment r (same_text r.serial f.serial)))
    ∙ ended_either row q o (same_text r.serial f.serial) (next before + 1 + length later) r.moment (removal_alike f.serial (next before + 1) later)
    ∙ ap (λ n. cond {A = SpanRow} (is_none o && same_text r.serial f.serial) (row_to row (Some n) (Some r.moment)) row) (next_after before later x)
    ∙ ap (λ b. cond {A = SpanRow} (is_none o && b) (row_to row (Some (next whole)) (Some r.moment)) row) (same_sym r.serial f.serial ∙ sym number)
row_more before later x f doc act known new =
    let e : Entry = record { doc = doc; act = act } in
    let row = span_row before later (span_of f later) in
    ap (λ p. row_to row p (first_removal f.serial (later ++ e ∷ []))) (removal-append f.serial (next before + 1) later e)
    ∙ ap (row_to row (option_or (removal_from f.serial (next before + 1) later) None)) (first_removal-append f.serial later (e ∷ []))
    ∙ kept_either row (removal_from f.serial (next before + 1) later) (first_removal f.serial later)

rows_begun : (before later : List Entry) (xdoc : List ℕ) (x : Act) (doc : List ℕ) (act : Act) → is_new (judge before (record { doc = xdoc; act = x })) ≡ true → judge (before ++ record { doc = xdoc; act = x } ∷ later) (record { doc = doc; act = act }) ≡ New
    → map (span_row before (later ++ record { doc = doc; act = act } ∷ [])) (span_begun x (later ++ record { doc = doc; act = act } ∷ [])) ≡ map (span_ended (before ++ record { doc = xdoc; act = x } ∷ later) act) (map (span_row before later) (span_begun x later))
rows_begun before later xdoc (Fitted f) doc act known new =
    ap (λ (r : SpanRow). r ∷ []) (row_more before later (record { doc = xdoc; act = Fitted f }) f doc act (fitted_is_known before xdoc f known).1 new)
rows_begun before later xdoc _ doc act known new = refl

span_rows_from-more : (before later : List Entry) (e : Entry) → is_book_from before later ≡ true → judge (before ++ later) e ≡ New
    → span_rows_from before (later ++ e ∷ []) ≡ map (span_ended (before ++ later) e.act) (span_rows_from before later) ++ spans_opened (before ++ later) e.act
span_rows_from-more before [] e h new =
    append-nil (map (span_row before []) (span_begun e.act [])) ∙ ap (λ b. map (span_row b []) (span_begun e.act [])) (sym (append-nil before))
span_rows_from-more before (x ∷ later) e h new =
    let both = both_true (is_new (judge before x)) (is_book_from (before ++ x ∷ []) later) h in
    let rest = span_rows_from (before ++ x ∷ []) later in
    let same = append_assoc before (x ∷ []) later in
    let ended = span_ended (before ++ x ∷ later) e.act in
    let begun = map (span_row before later) (span_begun x.act later) in
    let later_rows : span_rows_from (before ++ x ∷ []) (later ++ e ∷ []) ≡ map ended rest ++ spans_opened (before ++ x ∷ later) e.act =
    subst (λ (b : List Entry). span_rows_from (before ++ x ∷ []) (later ++ e ∷ []) ≡ map (span_ended b e.act) rest ++ spans_opened b e.act) same
    (span_rows_from-more (before ++ x ∷ []) later e both.1 (subst (λ (b : List Entry). judge b e ≡ New) (sym same) new)) in
    ap (λ l. l ++ span_rows_from (before ++ x ∷ []) (later ++ e ∷ [])) (rows_begun before later x.doc x.act e.doc e.act both.0 new)
    ∙ ap (λ l. map ended begun ++ l) later_rows
    ∙ sym (append_assoc (map ended begun) (map ended rest) (spans_opened (before ++ x ∷ later) e.act))
    ∙ ap (λ l. l ++ spans_opened (before ++ x ∷ later) e.act) (sym (map-append ended begun rest))

-- the rows of the spans with a new entry: a removal ends the open one of its component, and a fitting opens one
pub span_rows-more : (book : List Entry) (e : Entry) → IsBook book → judge book e ≡ New → span_rows (book ++ e ∷ []) ≡ map (span_ended book e.act) (span_rows book) ++ spans_opened book e.act
span_rows-more book e b new = span_rows_from-more [] book e b.judged new
