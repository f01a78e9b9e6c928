-- The numbers of what is at an aircraft, by the rows of the spans.
use Rattle.std.proofs.Common.{arith, refl, sym, subst, ap, ◌∙◌, ◌≡◌, ℕ, ◌+◌, length, List, [], ◌∷◌, ◌++◌, Bool, true, false, cond, nat_eq, ◌&&◌, ◌||◌, Option, Some, append_assoc, append-nil}
use Rattle.std.specs.Prelude.{is_none, is_some, map, max, filter}
use Rattle.std.specs.List.{list_any, AllByRecursion}
use Rattle.std.proofs.lemmas.Bool.Decides.{same_from_decides, Decides-eqb}
use Rattle.mx_base.specs.declared.amounts.Use.{Use}
use Rattle.mx_book.specs.commands.Act.{Act, Entry, Flown, Fitted}
use Rattle.mx_book.specs.commands.Same.{same_text}
use Rattle.mx_book.specs.commands.Shape.{act_shape}
use Rattle.mx_book.specs.declared.commands.item.Item.{Item}
use Rattle.mx_book.specs.declared.commands.item.Item.TheVariants.{Airframe, Component}
use Rattle.mx_book.specs.declared.commands.release.Place.TheVariants as places
use Rattle.mx_book.specs.declared.commands.sector.Sector.{Sector}
use Rattle.mx_book.specs.declared.verdict.Verdict.TheVariants.{New}
use Rattle.mx_book.specs.Register.{aircraft, component}
use Rattle.mx_book.specs.Book.{IsBook, is_new, is_book_from}
use Rattle.mx_book.specs.Judge.{judge, is_at}
use Rattle.mx_book.specs.Life.{latest, clock, is_credited, use_after}
use Rattle.mx_book.specs.Span.{Span, first_removal, span_begun, spans}
use Rattle.mx_book.proofs.JudgeLemmas.{both_true}
use Rattle.mx_registers.specs.Names.{has_item, tail_added, tail_at, item_at, seq_of_tail, seq_of_serial, number_from, or_zero}
use Rattle.mx_registers.proofs.NameLemmas.{tail_known, serial_known, tail_number, serial_number}
use Rattle.mx_registers.proofs.NewLemmas.{fitted_is_known, flown_is_known}
use Rattle.mx_base.specs.declared.rows.rows.SpanRow.{SpanRow}
use Rattle.mx_base.specs.declared.rows.rows.TotalRow.{TotalRow}
use Rattle.mx_registers.specs.kept.Changes.{moments_given}
use Rattle.mx_registers.specs.kept.Items.{items}
use Rattle.mx_registers.specs.kept.Spans.{span_row, span_rows, span_rows_from}
use Rattle.mx_base.specs.rows.Spans.{has_between}
use Rattle.mx_registers.specs.kept.Totals.{credited_row, numbers_during, numbers_there, raised_row, total_grown, total_row, total_rows}
use Rattle.mx_registers.proofs.KeptProofs.SpanGrowth.{span_of, same_sym}
use Rattle.mx_registers.proofs.KeptProofs.TotalRows.{items_there, total_rows-more}
use Rattle.mx_registers.proofs.KeptProofs.KnownLemmas.{aircraft_kept, component_kept}
use Rattle.mx_registers.proofs.KeptProofs.LifeGrowth.{use_after_none}
use Rattle.mx_registers.proofs.KeptProofs.PlaceLemmas.{open_where_fitted}
use Rattle.mx_registers.proofs.KeptProofs.SpanRows.{number-append, has_number, or_known, serial_number_kept, one_number, one_number_by}
use Rattle.mx_registers.proofs.KeptProofs.ItemNumbers.{items_numbered, tail_at_item, serial_at_item, other_number}

-- ── the numbers of aircraft ──

-- the number of an aircraft stays
pub tail_number_kept : (book more : List Entry) (tail : List ℕ) → is_some (aircraft book tail) ≡ true → or_zero (seq_of_tail (book ++ more) tail) ≡ or_zero (seq_of_tail book tail)
tail_number_kept book more tail h =
    ap or_zero (number-append tail_added tail 1 book more) ∙ or_known (seq_of_tail book tail) (number_from tail_added tail (1 + length book) more) (has_number (tail_at book) tail (seq_of_tail book tail) refl (tail_known book tail h))

-- two aircraft of a book have one number exactly where they have one registration
pub one_tail_number : (book : List Entry) (a b : List ℕ) → is_some (aircraft book a) ≡ true → is_some (aircraft book b) ≡ true → nat_eq (or_zero (seq_of_tail book a)) (or_zero (seq_of_tail book b)) ≡ same_text a b
one_tail_number book a b h k = one_number_by (seq_of_tail book) (tail_at book) a b (tail_known book a h) (tail_known book b k)

pub eq_swap : (n m : ℕ) → nat_eq n m ≡ nat_eq m n
eq_swap n m = same_from_decides {P = n ≡ m} (nat_eq n m) (nat_eq m n) (Decides-eqb n m) ((λ h. sym ((Decides-eqb m n).0 h)), (λ e. (Decides-eqb m n).1 (sym e)))

-- ── the components of those spans of an aircraft whose moments pass a test ──

abbrev pub fitted_numbers : (ℕ → Option ℕ → Bool) → ℕ → List SpanRow → List ℕ
fitted_numbers w a rows = map (λ (row : SpanRow). row.component) (filter (λ (row : SpanRow). w row.from row.to && nat_eq row.aircraft a) rows)

abbrev pub is_on : (ℕ → Option ℕ → Bool) → List ℕ → Span → Bool
is_on w tail s = same_text s.tail tail && w s.from s.to

abbrev is_open : ℕ → Option ℕ → Bool
is_open from to = is_none to

either : (u v w l s : Bool) → l ≡ s → cond (w && v) (u || l) l ≡ cond u ((v && w) || s) s
either true true true l s h = refl
either true true false l s h = h
either true false true l s h = h
either true false false l s h = h
either false true true l s h = h
either false true false l s h = h
either false false true l s h = h
either false false false l s h = h

module _ (w : ℕ → Option ℕ → Bool) (tail : List ℕ) (a n : ℕ) where
  -- one row more of such a span of the aircraft adds the number of its component
  number_added : (row : SpanRow) (rows : List SpanRow) (t : Bool) → w row.from row.to && nat_eq row.aircraft a ≡ t → list_any (nat_eq n) (fitted_numbers w a (row ∷ rows)) ≡ cond t (nat_eq n row.component || list_any (nat_eq n) (fitted_numbers w a rows)) (list_any (nat_eq n) (fitted_numbers w a rows))
  number_added row rows true e = ap (λ t. list_any (nat_eq n) (map (λ (row : SpanRow). row.component) (cond t (row ∷ filter (λ (row : SpanRow). w row.from row.to && nat_eq row.aircraft a) rows) (filter (λ (row : SpanRow). w row.from row.to && nat_eq row.aircraft a) rows)))) e
  number_added row rows false e = ap (λ t. list_any (nat_eq n) (map (λ (row : SpanRow). row.component) (cond t (row ∷ filter (λ (row : SpanRow). w row.from row.to && nat_eq row.aircraft a) rows) (filter (λ (row : SpanRow). w row.from row.to && nat_eq row.aircraft a) rows)))) e

  span_added : (serial : List ℕ) (s : Span) (xs : List Span) (u : Bool) → list_any (is_on w tail) (cond u (s ∷ filter (λ (x : Span). same_text x.serial serial) xs) (filter (λ (x : Span). same_text x.serial serial) xs)) ≡ cond u (is_on w tail s || list_any (is_on w tail) (filter (λ (x : Span). same_text x.serial serial) xs)) (list_any (is_on w tail) (filter (λ (x : Span). same_text x.serial serial) xs))
  span_added serial s xs true = refl
  span_added serial s xs false = refl

  -- a component's number is among them exactly where the component has such a span on the aircraft
  pub among : (serial : List ℕ) (before later : List Entry) → is_book_from before later ≡ true → is_some (component (before ++ later) serial) ≡ true → is_some (aircraft (before ++ later) tail) ≡ true
      → n ≡ or_zero (seq_of_serial (before ++ later) serial) → a ≡ or_zero (seq_of_tail (before ++ later) tail)
      → list_any (nat_eq n) (fitted_numbers w a (span_rows_from before later)) ≡ list_any (is_on w tail) (filter (λ (x : Span). same_text x.serial serial) (spans later))
  among serial before [] h known there e f = refl
  among serial before (x ∷ later) h known there e f =
      let both = both_true (is_new (judge before x)) (is_book_from (before ++ x ∷ []) later) h in
      let same = append_assoc before (x ∷ []) later in
      at x.act both.0 (among serial (before ++ x ∷ []) later both.1 (subst (λ (b : List Entry). is_some (component b serial) ≡ true) (sym same) known) (subst (λ (b : List Entry). is_some (aircraft b tail) ≡ true) (sym same) there)
      (e ∙ ap (λ (b : List Entry). or_zero (seq_of_serial b serial)) (sym same)) (f ∙ ap (λ (b : List Entry). or_zero (seq_of_tail b tail)) (sym same)))
    where
      at : (act : Act) → is_new (judge before (record { doc = x.doc; act = act })) ≡ true
          → list_any (nat_eq n) (fitted_numbers w a (span_rows_from (before ++ x ∷ []) later)) ≡ list_any (is_on w tail) (filter (λ (x : Span). same_text x.serial serial) (spans later))
          → list_any (nat_eq n) (fitted_numbers w a (map (span_row before later) (span_begun act later) ++ span_rows_from (before ++ x ∷ []) later)) ≡ list_any (is_on w tail) (filter (λ (x : Span). same_text x.serial serial) (span_begun act later ++ spans later))
      at (Fitted f0) new rest =
          let whole = before ++ x ∷ later in
          let names = fitted_is_known before x.doc f0 new in
          let o = first_removal f0.serial later in
          let row = span_row before later (span_of f0 later) in
          let aircraft_number : nat_eq row.aircraft a ≡ same_text f0.tail tail =
          ap (nat_eq row.aircraft) f ∙ ap (λ m. nat_eq m (or_zero (seq_of_tail whole tail))) (sym (tail_number_kept before (x ∷ later) f0.tail names.0))
          ∙ one_tail_number whole f0.tail tail (ap is_some (aircraft_kept before (x ∷ later) f0.tail names.0) ∙ names.0) there in
          let component_number : nat_eq n row.component ≡ same_text f0.serial serial =
          ap (λ m. nat_eq m row.component) e ∙ ap (nat_eq (or_zero (seq_of_serial whole serial))) (sym (serial_number_kept before (x ∷ later) f0.serial names.1))
          ∙ one_number whole serial f0.serial known (ap is_some (component_kept before (x ∷ later) f0.serial names.1) ∙ names.1) ∙ same_sym serial f0.serial in
          number_added row (span_rows_from (before ++ x ∷ []) later) (w f0.moment o && same_text f0.tail tail) (ap (λ b. w f0.moment o && b) aircraft_number)
          ∙ ap (λ b. cond (w f0.moment o && same_text f0.tail tail) (b || list_any (nat_eq n) (fitted_numbers w a (span_rows_from (before ++ x ∷ []) later))) (list_any (nat_eq n) (fitted_numbers w a (span_rows_from (before ++ x ∷ []) later)))) component_number
          ∙ either (same_text f0.serial serial) (same_text f0.tail tail) (w f0.moment o) (list_any (nat_eq n) (fitted_numbers w a (span_rows_from (before ++ x ∷ []) later))) (list_any (is_on w tail) (filter (λ (x : Span). same_text x.serial serial) (spans later))) rest
          ∙ sym (span_added serial (span_of f0 later) (spans later) (same_text f0.serial serial))
      at _ new rest = rest

  if_false : (t u l : Bool) → u ≡ false → l ≡ false → cond t (u || l) l ≡ false
  if_false true true l h k = (cc)
  if_false true false l h k = k
  if_false false u l h k = k

  -- the number of an aircraft is not among those of components
  pub not_among : (t : List ℕ) (before later : List Entry) → is_book_from before later ≡ true → tail_at (before ++ later) n ≡ Some t → list_any (nat_eq n) (fitted_numbers w a (span_rows_from before later)) ≡ false
  not_among t before [] h e = refl
  not_among t before (x ∷ later) h e =
      let both = both_true (is_new (judge before x)) (is_book_from (before ++ x ∷ []) later) h in
      let same = append_assoc before (x ∷ []) later in
      at x.act both.0 (not_among t (before ++ x ∷ []) later both.1 (subst (λ (b : List Entry). tail_at b n ≡ Some t) (sym same) e))
    where
      at : (act : Act) → is_new (judge before (record { doc = x.doc; act = act })) ≡ true → list_any (nat_eq n) (fitted_numbers w a (span_rows_from (before ++ x ∷ []) later)) ≡ false
          → list_any (nat_eq n) (fitted_numbers w a (map (span_row before later) (span_begun act later) ++ span_rows_from (before ++ x ∷ []) later)) ≡ false
      at (Fitted f0) new rest =
          let whole = before ++ x ∷ later in
          let names = fitted_is_known before x.doc f0 new in
          let row = span_row before later (span_of f0 later) in
          let known : is_some (component whole f0.serial) ≡ true = ap is_some (component_kept before (x ∷ later) f0.serial names.1) ∙ names.1 in
          let other : nat_eq n row.component ≡ false = ap (nat_eq n) (sym (serial_number_kept before (x ∷ later) f0.serial names.1)) ∙ other_number whole n (or_zero (seq_of_serial whole f0.serial)) t f0.serial e (serial_known whole f0.serial known) in
          number_added row (span_rows_from (before ++ x ∷ []) later) (w row.from row.to && nat_eq row.aircraft a) refl
          ∙ if_false (w row.from row.to && nat_eq row.aircraft a) (nat_eq n row.component) (list_any (nat_eq n) (fitted_numbers w a (span_rows_from (before ++ x ∷ []) later))) other rest
      at _ new rest = rest

or_false : (b c : Bool) → c ≡ false → b || c ≡ b
or_false true c h = refl
or_false false c h = h

known_by_number : (book : List Entry) (n : ℕ) (serial : List ℕ) → IsBook book → item_at book n ≡ Some (Component serial) → is_some (component book serial) ≡ true → n ≡ or_zero (seq_of_serial book serial)
known_by_number book n serial b h known = serial_number book serial n b.judged (serial_at_item book n serial h)

-- the number of an airframe is among those of an aircraft and of components exactly where it is that aircraft
airframe_among : (w : ℕ → Option ℕ → Bool) (book : List Entry) (tail : List ℕ) (n : ℕ) (t : List ℕ) → IsBook book → is_some (aircraft book tail) ≡ true → is_some (aircraft book t) ≡ true → item_at book n ≡ Some (Airframe t)
    → list_any (nat_eq n) (or_zero (seq_of_tail book tail) ∷ fitted_numbers w (or_zero (seq_of_tail book tail)) (span_rows book)) ≡ same_text t tail
airframe_among w book tail n t b there known h =
    let at_n = tail_at_item book n t h in
    let number = tail_number book t n b.judged at_n in
    or_false (nat_eq n (or_zero (seq_of_tail book tail))) (list_any (nat_eq n) (fitted_numbers w (or_zero (seq_of_tail book tail)) (span_rows book))) (not_among w tail (or_zero (seq_of_tail book tail)) n t [] book b.judged at_n)
    ∙ ap (λ m. nat_eq m (or_zero (seq_of_tail book tail))) number ∙ one_tail_number book t tail known there

-- the number of a component is among them exactly where it has such a span on the aircraft
component_among : (w : ℕ → Option ℕ → Bool) (book : List Entry) (tail : List ℕ) (n : ℕ) (serial : List ℕ) → IsBook book → is_some (aircraft book tail) ≡ true → is_some (component book serial) ≡ true → item_at book n ≡ Some (Component serial)
    → list_any (nat_eq n) (or_zero (seq_of_tail book tail) ∷ fitted_numbers w (or_zero (seq_of_tail book tail)) (span_rows book)) ≡ list_any (is_on w tail) (filter (λ (x : Span). same_text x.serial serial) (spans book))
component_among w book tail n serial b there known h =
    let at_n = serial_at_item book n serial h in
    let number = known_by_number book n serial b h known in
    let own : nat_eq n (or_zero (seq_of_tail book tail)) ≡ false = eq_swap n (or_zero (seq_of_tail book tail)) ∙ other_number book (or_zero (seq_of_tail book tail)) n tail serial (tail_known book tail there) at_n in
    ap (λ c. c || list_any (nat_eq n) (fitted_numbers w (or_zero (seq_of_tail book tail)) (span_rows book))) own
    ∙ among w tail (or_zero (seq_of_tail book tail)) n serial [] book b.judged known there number refl

-- the number of an item is among those of what is at an aircraft exactly where the item is there
pub numbers_are_there : (book : List Entry) (tail : List ℕ) (n : ℕ) (item : Item) → IsBook book → is_some (aircraft book tail) ≡ true → has_item book item ≡ true → item_at book n ≡ Some item
    → list_any (nat_eq n) (numbers_there (or_zero (seq_of_tail book tail)) (span_rows book)) ≡ is_at book (places.Aircraft tail) item
numbers_are_there book tail n (Airframe t) b there known h = airframe_among is_open book tail n t b there known h
numbers_are_there book tail n (Component serial) b there known h = component_among is_open book tail n serial b there known h ∙ open_where_fitted book tail serial b

-- the number of an item is among those of an aircraft and of what was fitted to it throughout a sector exactly where the item is credited with the sector
pub numbers_are_credited : (book : List Entry) (s : Sector) (n : ℕ) (item : Item) → IsBook book → is_some (aircraft book s.tail) ≡ true → has_item book item ≡ true → item_at book n ≡ Some item
    → list_any (nat_eq n) (numbers_during (or_zero (seq_of_tail book s.tail)) s.off s.on (span_rows book)) ≡ is_credited book item s
numbers_are_credited book s n (Airframe t) b there known h = airframe_among (has_between s.off s.on) book s.tail n t b there known h ∙ same_sym t s.tail
numbers_are_credited book s n (Component serial) b there known h = component_among (has_between s.off s.on) book s.tail n serial b there known h

-- ── a sector, by the rows ──

abbrev row_of : ℕ → Use → ℕ → TotalRow
row_of n life clock = record { item = n; life = life; clock = clock }

joint : (a n m clk : ℕ) (u v : Use) (c d : Bool) → nat_eq n a ≡ d → row_of n (cond {A = Use} c v u) (cond d (max clk m) clk) ≡ raised_row a m (cond {A = TotalRow} c (row_of n v clk) (row_of n u clk))
joint a n m clk u v true true e = sym (ap (λ t. cond {A = TotalRow} t (row_of n v (max clk m)) (row_of n v clk)) e)
joint a n m clk u v true false e = sym (ap (λ t. cond {A = TotalRow} t (row_of n v (max clk m)) (row_of n v clk)) e)
joint a n m clk u v false true e = sym (ap (λ t. cond {A = TotalRow} t (row_of n u (max clk m)) (row_of n u clk)) e)
joint a n m clk u v false false e = sym (ap (λ t. cond {A = TotalRow} t (row_of n u (max clk m)) (row_of n u clk)) e)

credits : (c : Bool) (s : Sector) (u : Use) → use_after (cond c (s ∷ []) []) u ≡ cond {A = Use} c (use_after (s ∷ []) u) u
credits true s u = refl
credits false s u = use_after_none u

-- a new sector raises the clock of its airframe to its landing where that is later, and the clock of no other item
clocks : (book : List Entry) (doc : List ℕ) (s : Sector) (n : ℕ) (item : Item) → IsBook book → judge book (record { doc = doc; act = Flown s }) ≡ New → has_item book item ≡ true → item_at book n ≡ Some item
    → max (clock book item) (latest (moments_given book item (Flown s))) ≡ cond (nat_eq n (or_zero (seq_of_tail book s.tail))) (max (clock book item) s.on) (clock book item)
clocks book doc s n (Airframe t) b new known h =
    let there = flown_is_known book doc s (ap is_new new) in
    let number = tail_number book t n b.judged (tail_at_item book n t h) in
    let own : nat_eq n (or_zero (seq_of_tail book s.tail)) ≡ same_text s.tail t = ap (λ m. nat_eq m (or_zero (seq_of_tail book s.tail))) number ∙ one_tail_number book t s.tail known there ∙ same_sym t s.tail in
    at (same_text s.tail t) ∙ ap (λ c. cond c (max (clock book (Airframe t)) s.on) (clock book (Airframe t))) (sym own)
  where
    at : (c : Bool) → max (clock book (Airframe t)) (latest (cond c (s.on ∷ []) [])) ≡ cond c (max (clock book (Airframe t)) s.on) (clock book (Airframe t))
    at true = omega arith
    at false = omega arith
clocks book doc s n (Component serial) b new known h =
    let there = flown_is_known book doc s (ap is_new new) in
    let own : nat_eq n (or_zero (seq_of_tail book s.tail)) ≡ false = eq_swap n (or_zero (seq_of_tail book s.tail)) ∙ other_number book (or_zero (seq_of_tail book s.tail)) n s.tail serial (tail_known book s.tail there) (serial_at_item book n serial h) in
    let zero_more : max (clock book (Component serial)) 0 ≡ clock book (Component serial) = omega arith in
    zero_more ∙ ap (λ c. cond c (max (clock book (Component serial)) s.on) (clock book (Component serial))) (sym own)

pub sector_row_changed : (book : List Entry) (doc : List ℕ) (s : Sector) (x : ℕ × Item) → IsBook book → judge book (record { doc = doc; act = Flown s }) ≡ New → act_shape (Flown s) ≡ true → has_item book x.1 ≡ true → item_at book x.0 ≡ Some x.1
    → total_grown book (Flown s) x.1 (total_row book x) ≡ raised_row (or_zero (seq_of_tail book s.tail)) s.on (credited_row (numbers_during (or_zero (seq_of_tail book s.tail)) s.off s.on (span_rows book)) s (total_row book x))
sector_row_changed book doc s x b new shape known at_x =
    let a = or_zero (seq_of_tail book s.tail) in
    let row = total_row book x in
    let grown = use_after (s ∷ []) row.life in
    let there = flown_is_known book doc s (ap is_new new) in
    ap (λ u. row_of x.0 u (max row.clock (latest (moments_given book x.1 (Flown s))))) (credits (is_credited book x.1 s) s row.life)
    ∙ ap (row_of x.0 (cond {A = Use} (is_credited book x.1 s) grown row.life)) (clocks book doc s x.0 x.1 b new known at_x)
    ∙ joint a x.0 s.on row.clock row.life grown (is_credited book x.1 s) (nat_eq x.0 a) refl
    ∙ ap (λ c. raised_row a s.on (cond {A = TotalRow} c (row_of x.0 grown row.clock) row)) (sym (numbers_are_credited book s x.0 x.1 b there known at_x))

sector_rows_changed : (book : List Entry) (doc : List ℕ) (s : Sector) → IsBook book → judge book (record { doc = doc; act = Flown s }) ≡ New → act_shape (Flown s) ≡ true → (xs : List (ℕ × Item))
    → AllByRecursion (λ (x : ℕ × Item). has_item book x.1 ≡ true) xs → AllByRecursion (λ (x : ℕ × Item). item_at book x.0 ≡ Some x.1) xs
    → map (λ (x : ℕ × Item). total_grown book (Flown s) x.1 (total_row book x)) xs ≡ map (raised_row (or_zero (seq_of_tail book s.tail)) s.on) (map (credited_row (numbers_during (or_zero (seq_of_tail book s.tail)) s.off s.on (span_rows book)) s) (map (total_row book) xs))
sector_rows_changed book doc s b new shape [] h k = refl
sector_rows_changed book doc s b new shape (x ∷ xs) h k =
    ap (λ r. r ∷ map (λ (x : ℕ × Item). total_grown book (Flown s) x.1 (total_row book x)) xs) (sector_row_changed book doc s x b new shape h.0 k.0)
    ∙ ap (λ l. raised_row (or_zero (seq_of_tail book s.tail)) s.on (credited_row (numbers_during (or_zero (seq_of_tail book s.tail)) s.off s.on (span_rows book)) s (total_row book x)) ∷ l) (sector_rows_changed book doc s b new shape xs h.1 k.1)

-- the totals with a new sector: those of its aircraft and of the components that were fitted to it throughout are credited, and the clock of the aircraft is raised to its landing
pub sector_totals : (book : List Entry) (doc : List ℕ) (s : Sector) → IsBook book → judge book (record { doc = doc; act = Flown s }) ≡ New → act_shape (Flown s) ≡ true
    → total_rows (book ++ record { doc = doc; act = Flown s } ∷ []) ≡ map (raised_row (or_zero (seq_of_tail book s.tail)) s.on) (map (credited_row (numbers_during (or_zero (seq_of_tail book s.tail)) s.off s.on (span_rows book)) s) (total_rows book))
sector_totals book doc s b new shape =
    total_rows-more book doc (Flown s) b new shape
    ∙ append-nil (map (λ (x : ℕ × Item). total_grown book (Flown s) x.1 (total_row book x)) (items book))
    ∙ sector_rows_changed book doc s b new shape (items book) (items_there book b) (items_numbered book b)
