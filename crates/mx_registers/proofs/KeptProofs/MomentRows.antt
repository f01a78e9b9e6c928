-- Lives by moments, by the rows of the sectors and of the spans.
use Rattle.std.proofs.Common.{arith, refl, sym, subst, ap, ◌∙◌, ◌≡◌, ℕ, ◌+◌, ◌-◌, List, [], ◌∷◌, ◌++◌, Bool, true, false, cond, nat_eq, ◌&&◌, Option, Some, None, append_assoc}
use Rattle.std.specs.Prelude.{filter, is_some, map}
use Rattle.std.specs.List.{cons_option}
use Rattle.std.specs.Option.{option_map}
use Rattle.mx_base.specs.declared.amounts.Use.{Use}
use Rattle.mx_base.specs.declared.rows.rows.SectorRow.{SectorRow}
use Rattle.mx_base.specs.declared.rows.rows.SpanRow.{SpanRow}
use Rattle.mx_book.specs.commands.Act.{Act, Entry, Fitted, Flown, sector_of}
use Rattle.mx_book.specs.commands.Same.{same_item, same_text}
use Rattle.mx_book.specs.declared.commands.fitting.Fitting.{Fitting}
use Rattle.mx_book.specs.declared.commands.item.Item.{Item}
use Rattle.mx_book.specs.declared.commands.item.Item.TheVariants.{Airframe, Component}
use Rattle.mx_book.specs.declared.commands.sector.Sector.{Sector}
use Rattle.mx_book.specs.Book.{IsBook, is_book_from, is_new}
use Rattle.mx_book.specs.Judge.{judge}
use Rattle.mx_book.specs.Life.{cycles_of, has_landed_by, life_until, minutes_flown, minutes_of, opening_of}
use Rattle.mx_book.specs.Register.{aircraft, component, register}
use Rattle.mx_book.specs.Span.{Span, span_begun, spans}
use Rattle.mx_book.proofs.JudgeLemmas.{both_true}
use Rattle.mx_registers.specs.Names.{item_at, or_zero, seq_of_serial, seq_of_tail}
use Rattle.mx_registers.specs.Registers.{gives_by, next, sector_row, sector_rows, sectors_by}
use Rattle.mx_registers.specs.kept.Moments.{cycles_in, flown_by, flown_by_number, flown_in, flown_in_all, flown_of, flown_while, flown_while_all, flown_with, is_by, minutes_in, rows_landed, sooner, use_more}
use Rattle.mx_registers.specs.kept.Spans.{span_row, span_rows, span_rows_from}
use Rattle.mx_registers.proofs.NameLemmas.{item_known}
use Rattle.mx_registers.proofs.NewLemmas.{fitted_is_known, flown_is_known}
use Rattle.mx_registers.proofs.KeptProofs.KnownLemmas.{aircraft_kept, component_kept}
use Rattle.mx_registers.proofs.KeptProofs.MomentLemmas.{cycles_weighed, lives_by_moments, minutes_weighed}
use Rattle.mx_registers.proofs.KeptProofs.NumberLemmas.{number_same}
use Rattle.mx_registers.proofs.KeptProofs.NumbersThere.{tail_number_kept}
use Rattle.mx_registers.proofs.KeptProofs.SpanGrowth.{same_sym, span_of}
use Rattle.mx_registers.proofs.KeptProofs.SpanRows.{serial_number_kept}
use Rattle.mx_registers.proofs.KeptProofs.Weighing.{weigh}

pub minutes_total : (rows : List SectorRow) → minutes_in rows ≡ weigh (λ row. row.landed - row.took_off) rows
minutes_total [] = refl
minutes_total (row ∷ rows) = ap (λ n. row.landed - row.took_off + n) (minutes_total rows)

pub cycles_total : (rows : List SectorRow) → cycles_in rows ≡ weigh (λ row. row.cycles) rows
cycles_total [] = refl
cycles_total (row ∷ rows) = ap (λ n. row.cycles + n) (cycles_total rows)

by_landing : (until : Option ℕ) (s : Sector) → is_by until s.on ≡ has_landed_by until s
by_landing None s = refl
by_landing (Some m) s = refl

module _ (book : List Entry) (b : IsBook book) where
  -- ── the sectors of the item with a number ──

  sectors_of : (of : Sector → ℕ) (row_of : SectorRow → ℕ) → ((seq a : ℕ) (s : Sector) → row_of (sector_row seq a s) ≡ of s) → (until : Option ℕ) (number : ℕ) (item : Item) → item_at book number ≡ Some item
      → (before later : List Entry) → is_book_from before later ≡ true → before ++ later ≡ book
      → weigh row_of (rows_landed (gives_by sectors_by before later) number until) ≡ weigh of (filter (λ s. same_item (Airframe s.tail) item && has_landed_by until s) (register sector_of later))
  sectors_of of row_of same until number item h before [] judged whole = refl
  sectors_of of row_of same until number item h before (x ∷ later) judged whole =
      let both = both_true (is_new (judge before x)) (is_book_from (before ++ x ∷ []) later) judged in
      at x.act both.0 (sectors_of of row_of same until number item h (before ++ x ∷ []) later both.1 (append_assoc before (x ∷ []) later ∙ whole))
    where
      more : (c : Bool) (row : SectorRow) (s : Sector) (rows : List SectorRow) (xs : List Sector) → row_of row ≡ of s → weigh row_of rows ≡ weigh of xs → weigh row_of (cond c (row ∷ rows) rows) ≡ weigh of (cond c (s ∷ xs) xs)
      more true row s rows xs e rest = ap (λ n. n + weigh row_of rows) e ∙ ap (λ n. of s + n) rest
      more false row s rows xs e rest = rest

      at : (act : Act) → is_new (judge before (record { doc = x.doc; act = act })) ≡ true
          → weigh row_of (rows_landed (gives_by sectors_by (before ++ x ∷ []) later) number until) ≡ weigh of (filter (λ s. same_item (Airframe s.tail) item && has_landed_by until s) (register sector_of later))
          → weigh row_of (rows_landed (sectors_by before act ++ gives_by sectors_by (before ++ x ∷ []) later) number until) ≡ weigh of (filter (λ s. same_item (Airframe s.tail) item && has_landed_by until s) (cons_option (sector_of act) (register sector_of later)))
      at (Flown s) is rest =
          let known = flown_is_known before x.doc s is in
          let known_then : is_some (aircraft book s.tail) ≡ true = subst (λ (es : List Entry). is_some (aircraft es s.tail) ≡ true) whole (ap is_some (aircraft_kept before (x ∷ later) s.tail known) ∙ known) in
          let kept : or_zero (seq_of_tail before s.tail) ≡ or_zero (seq_of_tail book s.tail) = sym (tail_number_kept before (x ∷ later) s.tail known) ∙ ap (λ (es : List Entry). or_zero (seq_of_tail es s.tail)) whole in
          let own : nat_eq (or_zero (seq_of_tail before s.tail)) number ≡ same_item (Airframe s.tail) item = ap (λ m. nat_eq m number) kept ∙ number_same book (Airframe s.tail) item number b known_then h in
          let row = sector_row (next before) (or_zero (seq_of_tail before s.tail)) s in
          let rows : List SectorRow = rows_landed (gives_by sectors_by (before ++ x ∷ []) later) number until in
          ap (λ c. weigh row_of (cond (c && is_by until s.on) (row ∷ rows) rows)) own
          ∙ ap (λ c. weigh row_of (cond (same_item (Airframe s.tail) item && c) (row ∷ rows) rows)) (by_landing until s)
          ∙ more (same_item (Airframe s.tail) item && has_landed_by until s) row s rows (filter (λ s. same_item (Airframe s.tail) item && has_landed_by until s) (register sector_of later)) (same (next before) (or_zero (seq_of_tail before s.tail)) s) rest
      at _ is rest = rest

  same_landed : (tail : List ℕ) (until : Option ℕ) (xs : List Sector) → filter (λ s. same_item (Airframe s.tail) (Airframe tail) && has_landed_by until s) xs ≡ filter (λ s. same_text tail s.tail && has_landed_by until s) xs
  same_landed tail until [] = refl
  same_landed tail until (s ∷ xs) =
      ap (λ c. cond (c && has_landed_by until s) (s ∷ filter (λ s. same_item (Airframe s.tail) (Airframe tail) && has_landed_by until s) xs) (filter (λ s. same_item (Airframe s.tail) (Airframe tail) && has_landed_by until s) xs)) (same_sym s.tail tail)
      ∙ ap (λ l. cond (same_text tail s.tail && has_landed_by until s) (s ∷ l) l) (same_landed tail until xs)

  minutes_with : (tail : List ℕ) (number : ℕ) (until : Option ℕ) → item_at book number ≡ Some (Airframe tail) → (flown_with (sector_rows book) number until).minutes ≡ (flown_by book tail until).minutes
  minutes_with tail number until h =
      minutes_total (rows_landed (sector_rows book) number until)
      ∙ sectors_of minutes_flown (λ row. row.landed - row.took_off) (λ seq a s. refl) until number (Airframe tail) h [] book b.judged refl
      ∙ sym (minutes_weighed (filter (λ s. same_item (Airframe s.tail) (Airframe tail) && has_landed_by until s) (register sector_of book)))
      ∙ ap minutes_of (same_landed tail until (register sector_of book))

  cycles_with : (tail : List ℕ) (number : ℕ) (until : Option ℕ) → item_at book number ≡ Some (Airframe tail) → (flown_with (sector_rows book) number until).cycles ≡ (flown_by book tail until).cycles
  cycles_with tail number until h =
      cycles_total (rows_landed (sector_rows book) number until)
      ∙ sectors_of (λ s. s.cycles) (λ row. row.cycles) (λ seq a s. refl) until number (Airframe tail) h [] book b.judged refl
      ∙ sym (cycles_weighed (filter (λ s. same_item (Airframe s.tail) (Airframe tail) && has_landed_by until s) (register sector_of book)))
      ∙ ap cycles_of (same_landed tail until (register sector_of book))

  -- no sector is of a component
  none_landed : (serial : List ℕ) (until : Option ℕ) (xs : List Sector) → filter (λ s. same_item (Airframe s.tail) (Component serial) && has_landed_by until s) xs ≡ []
  none_landed serial until [] = refl
  none_landed serial until (s ∷ xs) = none_landed serial until xs

  abbrev used : ℕ → ℕ → Use
  used minutes cycles = record { minutes = minutes; cycles = cycles }

  none_with : (serial : List ℕ) (number : ℕ) (until : Option ℕ) → item_at book number ≡ Some (Component serial) → flown_with (sector_rows book) number until ≡ used 0 0
  none_with serial number until h =
      let minutes : minutes_in (rows_landed (sector_rows book) number until) ≡ 0 =
      minutes_total (rows_landed (sector_rows book) number until)
      ∙ sectors_of minutes_flown (λ row. row.landed - row.took_off) (λ seq a s. refl) until number (Component serial) h [] book b.judged refl
      ∙ ap (weigh minutes_flown) (none_landed serial until (register sector_of book)) in
      let cycles : cycles_in (rows_landed (sector_rows book) number until) ≡ 0 =
      cycles_total (rows_landed (sector_rows book) number until)
      ∙ sectors_of (λ s. s.cycles) (λ row. row.cycles) (λ seq a s. refl) until number (Component serial) h [] book b.judged refl
      ∙ ap (weigh (λ s. s.cycles)) (none_landed serial until (register sector_of book)) in
      ap (λ n. used n (cycles_in (rows_landed (sector_rows book) number until))) minutes ∙ ap (used 0) cycles

  flown_same : (tail : List ℕ) (number : ℕ) (until : Option ℕ) → item_at book number ≡ Some (Airframe tail) → flown_with (sector_rows book) number until ≡ flown_by book tail until
  flown_same tail number until h =
      ap (λ n. used n ((flown_with (sector_rows book) number until).cycles)) (minutes_with tail number until h)
      ∙ ap (used ((flown_by book tail until).minutes)) (cycles_with tail number until h)

  -- ── the spans of the item with a number ──

  while_same : (before : List Entry) (x : Entry) (later : List Entry) (f : Fitting) (until : Option ℕ) → before ++ x ∷ later ≡ book → is_some (aircraft before f.tail) ≡ true
      → flown_while (sector_rows book) until (span_row before later (span_of f later)) ≡ flown_in book until (span_of f later)
  while_same before x later f until whole known =
      let known_then : is_some (aircraft book f.tail) ≡ true = subst (λ (es : List Entry). is_some (aircraft es f.tail) ≡ true) whole (ap is_some (aircraft_kept before (x ∷ later) f.tail known) ∙ known) in
      let kept : or_zero (seq_of_tail before f.tail) ≡ or_zero (seq_of_tail book f.tail) = sym (tail_number_kept before (x ∷ later) f.tail known) ∙ ap (λ (es : List Entry). or_zero (seq_of_tail es f.tail)) whole in
      let there : item_at book (or_zero (seq_of_tail before f.tail)) ≡ Some (Airframe f.tail) = ap (item_at book) kept ∙ item_known book (Airframe f.tail) known_then in
      let span = span_of f later in
      ap (λ (u : Use). used (u.minutes - (flown_with (sector_rows book) (or_zero (seq_of_tail before f.tail)) (Some f.moment)).minutes) (u.cycles - (flown_with (sector_rows book) (or_zero (seq_of_tail before f.tail)) (Some f.moment)).cycles))
      (flown_same f.tail (or_zero (seq_of_tail before f.tail)) (sooner until span.to) there)
      ∙ ap (λ (u : Use). used ((flown_by book f.tail (sooner until span.to)).minutes - u.minutes) ((flown_by book f.tail (sooner until span.to)).cycles - u.cycles))
      (flown_same f.tail (or_zero (seq_of_tail before f.tail)) (Some f.moment) there)

  abbrev of_number : ℕ → List SpanRow → List SpanRow
  of_number number rows = filter (λ (row : SpanRow). nat_eq row.component number) rows

  abbrev of_serial : List ℕ → List Span → List Span
  of_serial serial zs = filter (λ (z : Span). same_text z.serial serial) zs

  own_number : (before : List Entry) (x : Entry) (later : List Entry) (f : Fitting) (number : ℕ) (item : Item) → before ++ x ∷ later ≡ book → is_some (component before f.serial) ≡ true → item_at book number ≡ Some item
      → nat_eq (or_zero (seq_of_serial before f.serial)) number ≡ same_item (Component f.serial) item
  own_number before x later f number item whole known h =
      let known_then : is_some (component book f.serial) ≡ true = subst (λ (es : List Entry). is_some (component es f.serial) ≡ true) whole (ap is_some (component_kept before (x ∷ later) f.serial known) ∙ known) in
      ap (λ m. nat_eq m number) (sym (serial_number_kept before (x ∷ later) f.serial known) ∙ ap (λ (es : List Entry). or_zero (seq_of_serial es f.serial)) whole)
      ∙ number_same book (Component f.serial) item number b known_then h

  spans_same : (number : ℕ) (serial : List ℕ) (until : Option ℕ) → item_at book number ≡ Some (Component serial) → (before later : List Entry) → is_book_from before later ≡ true → before ++ later ≡ book
      → flown_while_all (sector_rows book) until (of_number number (span_rows_from before later)) ≡ flown_in_all book until (of_serial serial (spans later))
  spans_same number serial until h before [] judged whole = refl
  spans_same number serial until h before (x ∷ later) judged whole =
      let both = both_true (is_new (judge before x)) (is_book_from (before ++ x ∷ []) later) judged in
      at x.act both.0 (spans_same number serial until h (before ++ x ∷ []) later both.1 (append_assoc before (x ∷ []) later ∙ whole))
    where
      more : (c : Bool) (row : SpanRow) (span : Span) (rows : List SpanRow) (zs : List Span) → flown_while (sector_rows book) until row ≡ flown_in book until span → flown_while_all (sector_rows book) until rows ≡ flown_in_all book until zs
          → flown_while_all (sector_rows book) until (cond c (row ∷ rows) rows) ≡ flown_in_all book until (cond c (span ∷ zs) zs)
      more true row span rows zs e rest = ap (λ u. use_more (flown_while_all (sector_rows book) until rows) u) e ∙ ap (λ u. use_more u (flown_in book until span)) rest
      more false row span rows zs e rest = rest

      at : (act : Act) → is_new (judge before (record { doc = x.doc; act = act })) ≡ true
          → flown_while_all (sector_rows book) until (of_number number (span_rows_from (before ++ x ∷ []) later)) ≡ flown_in_all book until (of_serial serial (spans later))
          → flown_while_all (sector_rows book) until (of_number number (map (span_row before later) (span_begun act later) ++ span_rows_from (before ++ x ∷ []) later)) ≡ flown_in_all book until (of_serial serial (span_begun act later ++ spans later))
      at (Fitted f) is rest =
          let names = fitted_is_known before x.doc f is in
          let row = span_row before later (span_of f later) in
          let rows : List SpanRow = of_number number (span_rows_from (before ++ x ∷ []) later) in
          ap (λ c. flown_while_all (sector_rows book) until (cond c (row ∷ rows) rows)) (own_number before x later f number (Component serial) whole names.1 h)
          ∙ more (same_text f.serial serial) row (span_of f later) rows (of_serial serial (spans later)) (while_same before x later f until whole names.0) rest
      at _ is rest = rest

  -- no span is of an aircraft
  spans_none : (number : ℕ) (tail : List ℕ) → item_at book number ≡ Some (Airframe tail) → (before later : List Entry) → is_book_from before later ≡ true → before ++ later ≡ book → of_number number (span_rows_from before later) ≡ []
  spans_none number tail h before [] judged whole = refl
  spans_none number tail h before (x ∷ later) judged whole =
      let both = both_true (is_new (judge before x)) (is_book_from (before ++ x ∷ []) later) judged in
      at x.act both.0 (spans_none number tail h (before ++ x ∷ []) later both.1 (append_assoc before (x ∷ []) later ∙ whole))
    where
      at : (act : Act) → is_new (judge before (record { doc = x.doc; act = act })) ≡ true → of_number number (span_rows_from (before ++ x ∷ []) later) ≡ [] → of_number number (map (span_row before later) (span_begun act later) ++ span_rows_from (before ++ x ∷ []) later) ≡ []
      at (Fitted f) is rest =
          let names = fitted_is_known before x.doc f is in
          let row = span_row before later (span_of f later) in
          ap (λ c. cond c (row ∷ of_number number (span_rows_from (before ++ x ∷ []) later)) (of_number number (span_rows_from (before ++ x ∷ []) later))) (own_number before x later f number (Airframe tail) whole names.1 h) ∙ rest
      at _ is rest = rest

  -- ── what an item flew ──

  plus_none : (u : Use) → use_more u (used 0 0) ≡ u
  plus_none u = let m : 0 + u.minutes ≡ u.minutes = omega arith in let c : 0 + u.cycles ≡ u.cycles = omega arith in ap (λ n. used n (0 + u.cycles)) m ∙ ap (used u.minutes) c

  none_plus : (u : Use) → use_more (used 0 0) u ≡ u
  none_plus u = let m : u.minutes + 0 ≡ u.minutes = omega arith in let c : u.cycles + 0 ≡ u.cycles = omega arith in ap (λ n. used n (u.cycles + 0)) m ∙ ap (used u.minutes) c

  number_flown : (number : ℕ) (item : Item) (until : Option ℕ) → item_at book number ≡ Some item → flown_of book item until ≡ flown_by_number (sector_rows book) (span_rows book) number until
  number_flown number (Airframe tail) until h =
      sym (ap (λ zs. use_more (flown_with (sector_rows book) number until) (flown_while_all (sector_rows book) until zs)) (spans_none number tail h [] book b.judged refl)
      ∙ plus_none (flown_with (sector_rows book) number until) ∙ flown_same tail number until h)
  number_flown number (Component serial) until h =
      sym (ap (λ u. use_more u (flown_while_all (sector_rows book) until (of_number number (span_rows book)))) (none_with serial number until h)
      ∙ none_plus (flown_while_all (sector_rows book) until (of_number number (span_rows book))) ∙ spans_same number serial until h [] book b.judged refl)

-- the life of the item with a number up to a moment, by the rows of the sectors and of the spans
pub lives_by_rows : (book : List Entry) (number : ℕ) (item : Item) (until : Option ℕ) → IsBook book → item_at book number ≡ Some item
    → life_until book item until ≡ option_map (use_more (flown_by_number (sector_rows book) (span_rows book) number until)) (opening_of book item)
lives_by_rows book number item until b h = lives_by_moments book item until b ∙ ap (λ u. option_map (use_more u) (opening_of book item)) (number_flown book b number item until h)
