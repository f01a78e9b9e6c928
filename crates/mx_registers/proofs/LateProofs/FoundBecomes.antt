-- The deferrals with the cycles at which they were found, with a new command, and that they fit their columns.
use Rattle.std.proofs.Common.{arith, refl, sym, subst, ap, ◌∙◌, ◌≡◌, ℕ, ◌+◌, ◌≤◌, ◌<◌, List, [], ◌∷◌, ◌++◌, Bool, true, false, cond, nat_eq, ◌&&◌, Some, None, append_assoc, append-nil}
use Rattle.std.specs.Prelude.{All, is_some, map, nat_le}
use Rattle.std.specs.List.{flat_map, AllByRecursion}
use Rattle.std.proofs.lemmas.Bool.Decides.{nat_tests}
use Rattle.std.proofs.lemmas.List.Concat.{flat_map-append}
use Rattle.std.proofs.lemmas.List.Elements.{All-from_recursion, recursion_from_All}
use Rattle.mx_base.specs.rows.Rows.{FitsDeferral, FitsDeferral3}
use Rattle.mx_base.specs.declared.rows.rows.Deferral3Row.{Deferral3Row}
use Rattle.mx_book.specs.commands.Act.{Act, Entry, Flown, Deferred, sector_of}
use Rattle.mx_book.specs.commands.Same.{same_text}
use Rattle.mx_book.specs.commands.Shape.{act_shape, has_shape}
use Rattle.mx_book.specs.declared.commands.item.Item.TheVariants.{Airframe}
use Rattle.mx_book.specs.declared.commands.sector.Sector.{Sector}
use Rattle.mx_book.specs.declared.verdict.Verdict.TheVariants.{New}
use Rattle.mx_book.specs.Book.{IsBook, is_book_from, is_new}
use Rattle.mx_book.specs.Judge.{judge}
use Rattle.mx_book.specs.Life.{airframe_moments, clock, if_same, latest, use_or_none}
use Rattle.mx_book.specs.Register.{aircraft}
use Rattle.mx_book.proofs.JudgeLemmas.{both_true}
use Rattle.mx_book.proofs.LifeLemmas.{life_bounded}
use Rattle.mx_registers.specs.Names.{or_zero, seq_of_tail}
use Rattle.mx_registers.specs.Registers.{deferral_row, deferral_rows, deferrals_by, gives_by, next}
use Rattle.mx_registers.specs.kept.Fits.{FitRegisters}
use Rattle.mx_registers.specs.late.Found.{cycles_at, found_added, found_become, found_by, found_moved, found_rows}
use Rattle.mx_registers.proofs.NewLemmas.{deferred_is_known, flown_is_known}
use Rattle.mx_registers.proofs.KeptProofs.BaseGrowth.{life_more_none}
use Rattle.mx_registers.proofs.KeptProofs.ClockLemmas.{latest-append}
use Rattle.mx_registers.proofs.KeptProofs.CreditLemmas.{lands_later}
use Rattle.mx_registers.proofs.KeptProofs.JudgedLemmas.{new-timely, not_passed}
use Rattle.mx_registers.proofs.KeptProofs.KnownLemmas.{aircraft_kept}
use Rattle.mx_registers.proofs.KeptProofs.NumbersThere.{one_tail_number, tail_number_kept}
use Rattle.mx_registers.proofs.KeptProofs.ReleaseBases.{life_reached}
use Rattle.mx_registers.proofs.KeptProofs.SpanGrowth.{same_sym}
use Rattle.mx_registers.proofs.LateProofs.FoundLemmas.{found_with_act, found_with_sector, row_of}

-- ── a command ──

-- a command that is no sector moves none
moves_none : (book : List Entry) (act : Act) → sector_of act ≡ None → (rows : List Deferral3Row) → map (found_moved book act) rows ≡ rows
moves_none book act none [] = refl
moves_none book (Flown s) none (row ∷ rows) = (cc)
moves_none book act none (row ∷ rows) = ap (λ l. row ∷ l) (moves_none book act none rows)

-- what a new command adds: of a deferral, which is not before the clock of its airframe, what the airframe has reached
added_now : (book : List Entry) (doc : List ℕ) (act : Act) → IsBook book → judge book (record { doc = doc; act = act }) ≡ New → act_shape act ≡ true → sector_of act ≡ None → found_by (book ++ record { doc = doc; act = act } ∷ []) book act ≡ found_added book act
added_now book doc (Deferred d) b new shape none =
    let known = deferred_is_known book doc d (ap is_new new) in
    ap (λ o. row_of (deferral_row (next book) (or_zero (seq_of_tail book d.tail)) d) ((use_or_none o).cycles) ∷ [])
    (life_more_none book doc (Deferred d) (Airframe d.tail) d.moment b new shape known refl
    ∙ life_reached book (Airframe d.tail) d.moment b (not_passed d.moment (clock book (Airframe d.tail)) (new-timely book (record { doc = doc; act = Deferred d }) new)))
added_now book doc (Flown s) b new shape none = (cc)
added_now book doc _ b new shape none = refl

not_flown : (book : List Entry) (doc : List ℕ) (act : Act) → IsBook book → judge book (record { doc = doc; act = act }) ≡ New → act_shape act ≡ true → sector_of act ≡ None
    → found_rows (book ++ record { doc = doc; act = act } ∷ []) ≡ found_become book (record { doc = doc; act = act }) (found_rows book)
not_flown book doc act b new shape none =
    found_with_act book doc act b new shape none
    ∙ ap (λ l. found_rows book ++ l) (added_now book doc act b new shape none)
    ∙ ap (λ l. l ++ found_added book act) (sym (moves_none book act none (found_rows book)))

pub found_with_command : (book : List Entry) (doc : List ℕ) (act : Act) → IsBook book → judge book (record { doc = doc; act = act }) ≡ New → has_shape (record { doc = doc; act = act }) ≡ true
    → found_rows (book ++ record { doc = doc; act = act } ∷ []) ≡ found_become book (record { doc = doc; act = act }) (found_rows book)
found_with_command book doc (Flown s) b new shape =
    found_with_sector book doc s b new (both_true _ _ shape).0 ∙ sym (append-nil (map (found_moved book (Flown s)) (found_rows book)))
found_with_command book doc act b new shape = not_flown book doc act b new (both_true _ _ shape).0 refl

-- ── a sector that takes off by the clock of its airframe ──

-- the moments of an entry of the book are by the clock of the airframe
moments_by : (book before later : List Entry) (x : Entry) (tail : List ℕ) → before ++ x ∷ later ≡ book → latest (airframe_moments tail x.act) ≤ clock book (Airframe tail)
moments_by book before later x tail whole =
    let all : latest (flat_map (λ (e : Entry). airframe_moments tail e.act) book) ≡ latest (flat_map (λ (e : Entry). airframe_moments tail e.act) before ++ (airframe_moments tail x.act ++ flat_map (λ (e : Entry). airframe_moments tail e.act) later)) =
    ap (λ (es : List Entry). latest (flat_map (λ (e : Entry). airframe_moments tail e.act) es)) (sym whole) ∙ ap latest (flat_map-append (λ (e : Entry). airframe_moments tail e.act) before (x ∷ later)) in
    let outer = latest-append (flat_map (λ (e : Entry). airframe_moments tail e.act) before) (airframe_moments tail x.act ++ flat_map (λ (e : Entry). airframe_moments tail e.act) later) in
    let inner = latest-append (airframe_moments tail x.act) (flat_map (λ (e : Entry). airframe_moments tail e.act) later) in
    omega arith

-- a defect that was found on the aircraft of a sector had been found before it landed
found_before : (s : Sector) (tail : List ℕ) (moment bound : ℕ) → latest (if_same tail s.tail moment) ≤ bound → bound ≤ s.off → s.off < s.on → same_text s.tail tail && nat_le s.on moment ≡ false
found_before s tail moment bound low by flown = at (same_text s.tail tail) refl
  where
    of_it : (c : Bool) → same_text tail s.tail ≡ c → c ≡ true → latest (cond c (moment ∷ []) []) ≤ bound → nat_le s.on moment ≡ false
    of_it true e t h = earlier h
      where
        earlier : latest (moment ∷ []) ≤ bound → nat_le s.on moment ≡ false
        earlier h = let early : moment < s.on = omega arith in grind (arith, nat_tests)
    of_it false e t h = (cc)

    at : (c : Bool) → same_text s.tail tail ≡ c → c && nat_le s.on moment ≡ false
    at false e = refl
    at true e = of_it (same_text tail s.tail) refl (same_sym tail s.tail ∙ e) low

module _ (book : List Entry) (s : Sector) (known : is_some (aircraft book s.tail) ≡ true) (by : clock book (Airframe s.tail) ≤ s.off) (flown : s.off < s.on) where
  stays_from : (before later : List Entry) → is_book_from before later ≡ true → before ++ later ≡ book → map (found_moved book (Flown s)) (gives_by (found_by book) before later) ≡ gives_by (found_by book) before later
  stays_from before [] h whole = refl
  stays_from before (x ∷ later) h whole =
      let both = both_true (is_new (judge before x)) (is_book_from (before ++ x ∷ []) later) h in
      at x.act both.0 (moments_by book before later x s.tail whole) (stays_from (before ++ x ∷ []) later both.1 (append_assoc before (x ∷ []) later ∙ whole))
    where
      at : (act : Act) → is_new (judge before (record { doc = x.doc; act = act })) ≡ true → latest (airframe_moments s.tail act) ≤ clock book (Airframe s.tail)
          → map (found_moved book (Flown s)) (gives_by (found_by book) (before ++ x ∷ []) later) ≡ gives_by (found_by book) (before ++ x ∷ []) later
          → map (found_moved book (Flown s)) (found_by book before act ++ gives_by (found_by book) (before ++ x ∷ []) later) ≡ found_by book before act ++ gives_by (found_by book) (before ++ x ∷ []) later
      at (Deferred d) is low rest =
          let there = deferred_is_known before x.doc d is in
          let there_now : is_some (aircraft book d.tail) ≡ true = subst (λ (es : List Entry). is_some (aircraft es d.tail) ≡ true) whole (ap is_some (aircraft_kept before (x ∷ later) d.tail there) ∙ there) in
          let same : or_zero (seq_of_tail before d.tail) ≡ or_zero (seq_of_tail book d.tail) = sym (tail_number_kept before (x ∷ later) d.tail there) ∙ ap (λ (es : List Entry). or_zero (seq_of_tail es d.tail)) whole in
          let own : nat_eq (or_zero (seq_of_tail before d.tail)) (or_zero (seq_of_tail book s.tail)) ≡ same_text s.tail d.tail = ap (λ m. nat_eq m (or_zero (seq_of_tail book s.tail))) same ∙ one_tail_number book d.tail s.tail there_now known ∙ same_sym d.tail s.tail in
          let deferral = deferral_row (next before) (or_zero (seq_of_tail before d.tail)) d in
          let row = row_of deferral (cycles_at book d.tail d.moment) in
          let more = row_of deferral (cycles_at book d.tail d.moment + s.cycles) in
          ap (λ c. cond {A = Deferral3Row} (c && nat_le s.on d.moment) more row ∷ map (found_moved book (Flown s)) (gives_by (found_by book) (before ++ x ∷ []) later)) own
          ∙ ap (λ c. cond {A = Deferral3Row} c more row ∷ map (found_moved book (Flown s)) (gives_by (found_by book) (before ++ x ∷ []) later)) (found_before s d.tail d.moment (clock book (Airframe s.tail)) low by flown)
          ∙ ap (λ l. row ∷ l) rest
      at _ is low rest = rest

pub found_in_order : (book : List Entry) (doc : List ℕ) (s : Sector) → IsBook book → judge book (record { doc = doc; act = Flown s }) ≡ New → act_shape (Flown s) ≡ true → clock book (Airframe s.tail) ≤ s.off
    → found_rows (book ++ record { doc = doc; act = Flown s } ∷ []) ≡ found_rows book
found_in_order book doc s b new shape by =
    found_with_sector book doc s b new shape ∙ stays_from book s (flown_is_known book doc s (ap is_new new)) by (lands_later s shape) [] book b.judged refl

-- ── the rows are those of the deferrals ──

deferred_from : (book before later : List Entry) → map (λ (row : Deferral3Row). row.deferral) (gives_by (found_by book) before later) ≡ gives_by deferrals_by before later
deferred_from book before [] = refl
deferred_from book before (x ∷ later) = at x.act (deferred_from book (before ++ x ∷ []) later)
  where
    at : (act : Act) → map (λ (row : Deferral3Row). row.deferral) (gives_by (found_by book) (before ++ x ∷ []) later) ≡ gives_by deferrals_by (before ++ x ∷ []) later
        → map (λ (row : Deferral3Row). row.deferral) (found_by book before act ++ gives_by (found_by book) (before ++ x ∷ []) later) ≡ deferrals_by before act ++ gives_by deferrals_by (before ++ x ∷ []) later
    at (Deferred d) rest = ap (λ l. deferral_row (next before) (or_zero (seq_of_tail before d.tail)) d ∷ l) rest
    at _ rest = rest

pub found_of_deferrals : (book : List Entry) → map (λ (row : Deferral3Row). row.deferral) (found_rows book) ≡ deferral_rows book
found_of_deferrals book = deferred_from book [] book

-- ── columns ──

-- where the deferrals fit theirs, since lives are bounded
fits_from : (book : List Entry) → IsBook book → (before later : List Entry) → AllByRecursion FitsDeferral (gives_by deferrals_by before later) → AllByRecursion FitsDeferral3 (gives_by (found_by book) before later)
fits_from book b before [] h = tt
fits_from book b before (x ∷ later) h = at x.act h (fits_from book b (before ++ x ∷ []) later)
  where
    at : (act : Act) → AllByRecursion FitsDeferral (deferrals_by before act ++ gives_by deferrals_by (before ++ x ∷ []) later)
        → (AllByRecursion FitsDeferral (gives_by deferrals_by (before ++ x ∷ []) later) → AllByRecursion FitsDeferral3 (gives_by (found_by book) (before ++ x ∷ []) later))
        → AllByRecursion FitsDeferral3 (found_by book before act ++ gives_by (found_by book) (before ++ x ∷ []) later)
    at (Deferred d) h rest =
        let life = life_bounded book (Airframe d.tail) (Some d.moment) b.few b.shaped in
        (record { deferral = h.0; found_cycles = omega (arith, life.cycles) }, rest h.1)
    at _ h rest = rest h

pub found_fit : (book : List Entry) → IsBook book → FitRegisters book → All FitsDeferral3 (found_rows book)
found_fit book b h = All-from_recursion FitsDeferral3 (found_rows book) (fits_from book b [] book (recursion_from_All FitsDeferral (deferral_rows book) h.deferrals))
