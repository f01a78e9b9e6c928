-- What rows near a sector that is entered late say of what it crosses.
use Rattle.std.proofs.Common.{arith, refl, sym, ap, ap₂, subst, ◌∙◌, ◌≡◌, ℕ, ◌+◌, ◌-◌, ◌≤◌, List, [], ◌∷◌, ◌++◌, Bool, true, false, cond, nat_eq, ◌&&◌, Option, Some, None, map, filter}
use Rattle.std.specs.Prelude.{find, fold, nat_le, nat_lt, slice_get}
use Rattle.std.specs.List.{flat_map, list_all, AllByRecursion}
use Rattle.std.specs.Option.{option_map}
use Rattle.std.proofs.lemmas.Bool.Decides.{nat_tests}
use Rattle.mx_base.specs.declared.rows.rows.ReleaseRow.{ReleaseRow}
use Rattle.mx_base.specs.declared.rows.rows.Sector2Row.{Sector2Row}
use Rattle.mx_base.specs.declared.rows.rows.SectorRow.{SectorRow}
use Rattle.mx_base.specs.declared.rows.rows.SpanRow.{SpanRow}
use Rattle.mx_base.specs.declared.rows.rows.TotalRow.{TotalRow}
use Rattle.mx_book.specs.commands.Act.{Act, Entry, Flown}
use Rattle.mx_book.specs.commands.Shape.{act_shape, doc_shape, has_shape, sector_shape}
use Rattle.mx_book.specs.declared.commands.item.Item.TheVariants.{Airframe}
use Rattle.mx_book.specs.declared.commands.sector.Sector.{Sector}
use Rattle.mx_book.specs.Book.{IsBook}
use Rattle.mx_book.specs.Late.{first_overlapped, first_straddled, is_during}
use Rattle.mx_book.specs.Life.{clock}
use Rattle.mx_book.proofs.JudgeLemmas.{both_true}
use Rattle.mx_registers.specs.Names.{or_zero, seq_of_tail}
use Rattle.mx_registers.specs.Registers.{gives_by, release_rows, sector_rows, sectors_by}
use Rattle.mx_registers.specs.kept.Spans.{span_rows}
use Rattle.mx_registers.specs.kept.Totals.{total_rows}
use Rattle.mx_registers.specs.late.Crossings.{crossed_by, crossed_end, crossed_in, crossed_numbers, least, overlapped_among, sooner}
use Rattle.mx_registers.proofs.LateProofs.CrossedRows.{least-append, sooner_assoc, straddle_least}
use Rattle.mx_registers.proofs.LateProofs.CrossesNone.{crosses_none}
use Rattle.mx_registers.proofs.LateProofs.CrossingLemmas.{overlap_rows}
use Rattle.mx_row_rules.specs.found.Crossings.{ended_during, is_near, is_overlapped, is_released_near, late_in, late_number, number_during, overlapped_in, soonest, straddled_moves, straddled_releases}
use Rattle.mx_row_rules.proofs.FoundProofs.LifeLemmas.{clock_found, no_clock}
use Rattle.mx_row_rules.proofs.FoundProofs.ThereLemmas.{tail_there}

-- ── what the functions make of rows ──

-- the first of rows that are held is the first that holds one
pub found_held : (s : Sector) (rows : List Sector2Row) → option_map (λ (row : Sector2Row). row.sector.seq) (find (λ (row : Sector2Row). is_overlapped s row.sector) rows) ≡ overlapped_in s (map (λ (row : Sector2Row). row.sector) rows)
found_held s [] = refl
found_held s (x ∷ rows) = at (is_overlapped s x.sector) (found_held s rows)
  where
    at : (b : Bool) → option_map (λ (row : Sector2Row). row.sector.seq) (find (λ (row : Sector2Row). is_overlapped s row.sector) rows) ≡ overlapped_in s (map (λ (row : Sector2Row). row.sector) rows)
        → option_map (λ (row : Sector2Row). row.sector.seq) (cond b (Some x) (find (λ (row : Sector2Row). is_overlapped s row.sector) rows)) ≡ option_map (λ (row : SectorRow). row.seq) (cond b (Some x.sector) (find (is_overlapped s) (map (λ (row : Sector2Row). row.sector) rows)))
    at true rest = refl
    at false rest = rest

-- one after another, the sooner of each number and those before it
pub soonest_by_fold : {X : Type 0} (number : X → Option ℕ) (xs : List X) (before : Option ℕ) → fold (λ least x. sooner least (number x)) before xs ≡ sooner before (soonest number xs)
soonest_by_fold number [] before = sym (sooner_none before)
  where
    sooner_none : (o : Option ℕ) → sooner o None ≡ o
    sooner_none None = refl
    sooner_none (Some n) = refl
soonest_by_fold number (x ∷ xs) before = soonest_by_fold number xs (sooner before (number x)) ∙ sooner_assoc before (number x) (soonest number xs)

-- ── spans and releases of an aircraft ──

module _ (n : ℕ) (s : Sector) where
  one : (b : Bool) (seq : ℕ) → least (cond b (seq ∷ []) []) ≡ cond b (Some seq) None
  one true seq = refl
  one false seq = refl

  fitted_so : (b : Bool) (row : SpanRow) → nat_eq row.aircraft n ≡ b → least (cond (nat_eq row.aircraft n && is_during s row.from) (row.fit_seq ∷ []) []) ≡ cond b (number_during s row.from row.fit_seq) None
  fitted_so true row e = ap (λ c. least (cond (c && is_during s row.from) (row.fit_seq ∷ []) [])) e ∙ one (is_during s row.from) row.fit_seq
  fitted_so false row e = ap (λ c. least (cond (c && is_during s row.from) (row.fit_seq ∷ []) [])) e

  removed_so : (b : Bool) (aircraft : ℕ) (to seq : Option ℕ) → nat_eq aircraft n ≡ b → least (crossed_end n s aircraft to seq) ≡ cond b (ended_during s to seq) None
  removed_so true aircraft (Some moment) (Some seq) e = ap (λ c. least (cond (c && is_during s moment) (seq ∷ []) [])) e ∙ one (is_during s moment) seq
  removed_so false aircraft (Some moment) (Some seq) e = ap (λ c. least (cond (c && is_during s moment) (seq ∷ []) [])) e
  removed_so true aircraft (Some moment) None e = refl
  removed_so false aircraft (Some moment) None e = refl
  removed_so true aircraft None seq e = refl
  removed_so false aircraft None seq e = refl

  moves : (rows : List SpanRow) → least (flat_map (crossed_in n s) rows) ≡ straddled_moves s (filter (λ (row : SpanRow). nat_eq row.aircraft n) rows)
  moves [] = refl
  moves (x ∷ rows) = least-append (crossed_in n s x) (flat_map (crossed_in n s) rows) ∙ at (nat_eq x.aircraft n) refl (moves rows)
    where
      begun : List ℕ
      begun = cond (nat_eq x.aircraft n && is_during s x.from) (x.fit_seq ∷ []) []

      at : (b : Bool) → nat_eq x.aircraft n ≡ b → least (flat_map (crossed_in n s) rows) ≡ straddled_moves s (filter (λ (row : SpanRow). nat_eq row.aircraft n) rows)
          → sooner (least ((cond (nat_eq x.aircraft n && is_during s x.from) (x.fit_seq ∷ []) []) ++ crossed_end n s x.aircraft x.to x.remove_seq)) (least (flat_map (crossed_in n s) rows))
          ≡ straddled_moves s (cond b (x ∷ filter (λ (row : SpanRow). nat_eq row.aircraft n) rows) (filter (λ (row : SpanRow). nat_eq row.aircraft n) rows))
      at true e rest =
          ap₂ sooner (least-append (cond (nat_eq x.aircraft n && is_during s x.from) (x.fit_seq ∷ []) []) (crossed_end n s x.aircraft x.to x.remove_seq) ∙ ap₂ sooner (fitted_so true x e) (removed_so true x.aircraft x.to x.remove_seq e)) rest
      at false e rest =
          ap₂ sooner (least-append (cond (nat_eq x.aircraft n && is_during s x.from) (x.fit_seq ∷ []) []) (crossed_end n s x.aircraft x.to x.remove_seq) ∙ ap₂ sooner (fitted_so false x e) (removed_so false x.aircraft x.to x.remove_seq e)) rest

  -- what is behind the take-off is from it on
  from_on : (m : ℕ) → nat_lt s.off m ≡ true → nat_le s.off m ≡ true
  from_on m h = grind (arith, nat_tests)

  released : (rows : List ReleaseRow) → least (flat_map (crossed_by n s) rows) ≡ straddled_releases s (filter (is_released_near n s) rows)
  released [] = refl
  released (x ∷ rows) =
      least-append (crossed_by n s x) (flat_map (crossed_by n s) rows)
      ∙ at (nat_eq x.item n) (nat_le s.off x.moment) (nat_lt s.off x.moment) (nat_lt x.moment s.on) refl refl (from_on x.moment) (released rows)
    where
      kept : List ReleaseRow
      kept = filter (is_released_near n s) rows

      at : (a l d o : Bool) → nat_lt s.off x.moment ≡ d → nat_lt x.moment s.on ≡ o → (d ≡ true → l ≡ true) → least (flat_map (crossed_by n s) rows) ≡ straddled_releases s (filter (is_released_near n s) rows)
          → sooner (least (cond (a && (d && o)) (x.seq ∷ []) [])) (least (flat_map (crossed_by n s) rows)) ≡ straddled_releases s (cond (a && (l && o)) (x ∷ filter (is_released_near n s) rows) (filter (is_released_near n s) rows))
      at false l d o e f h rest = rest
      at true true d o e f h rest = during d o e f
        where
          during : (d o : Bool) → nat_lt s.off x.moment ≡ d → nat_lt x.moment s.on ≡ o → sooner (least (cond (d && o) (x.seq ∷ []) [])) (least (flat_map (crossed_by n s) rows)) ≡ straddled_releases s (cond o (x ∷ filter (is_released_near n s) rows) (filter (is_released_near n s) rows))
          during true true e f = ap₂ sooner (sym (ap₂ (λ b c. cond (b && c) (Some x.seq) None) e f)) rest
          during false true e f = ap₂ sooner (sym (ap₂ (λ b c. cond (b && c) (Some x.seq) None) e f)) rest
          during true false e f = rest
          during false false e f = rest
      at true false true o e f h rest = let no = h refl in absurd cc
      at true false false o e f h rest = rest

-- ── sectors of an aircraft ──

-- a sector of its shape lasts no longer than a day
lasts : (s : Sector) → sector_shape s ≡ true → s.on ≤ s.off + 1440
lasts s h =
    let page = both_true _ _ h in
    let line = both_true _ _ page.1 in
    let time = both_true _ _ line.1 in
    let least = both_true (nat_le (s.off + 1) s.on) (nat_le s.on (s.off + 1440)) time.0 in
    let most : nat_le s.on (s.off + 1440) ≡ true = least.1 in
    grind (arith, nat_tests)

abbrev IsShort : SectorRow → Type 0
IsShort row = row.landed ≤ row.took_off + 1440

short_from : (before later : List Entry) → list_all has_shape later ≡ true → AllByRecursion IsShort (gives_by sectors_by before later)
short_from before [] h = tt
short_from before (e ∷ later) h =
    let both = both_true (has_shape e) (list_all has_shape later) h in
    let shape = both_true (act_shape e.act) (doc_shape e.doc e.act) both.0 in
    at e.act shape.0 (short_from (before ++ e ∷ []) later both.1)
  where
    at : (act : Act) → act_shape act ≡ true → AllByRecursion IsShort (gives_by sectors_by (before ++ e ∷ []) later) → AllByRecursion IsShort (sectors_by before act ++ gives_by sectors_by (before ++ e ∷ []) later)
    at (Flown s) shape rest = (lasts s shape, rest)
    at _ shape rest = rest

module _ (n : ℕ) (s : Sector) where
  -- one that is under way at the take-off took off late enough
  late_enough : (row : SectorRow) → IsShort row → nat_lt s.off row.landed ≡ true → nat_le (s.off - 1439) row.took_off ≡ true
  late_enough row short h = grind (arith, nat_tests)

  near : (rows : List SectorRow) → AllByRecursion IsShort rows → overlapped_among n s rows ≡ overlapped_in s (filter (is_near n s) rows)
  near [] h = refl
  near (x ∷ rows) h = at (nat_eq x.aircraft n) (nat_le (s.off - 1439) x.took_off) (nat_lt x.took_off s.on) (nat_lt s.off x.landed) refl refl (late_enough x h.0) (near rows h.1)
    where
      of : SectorRow → ℕ
      of row = row.seq

      at : (a e o d : Bool) → nat_lt x.took_off s.on ≡ o → nat_lt s.off x.landed ≡ d → (d ≡ true → e ≡ true) → overlapped_among n s rows ≡ overlapped_in s (filter (is_near n s) rows)
          → option_map (λ (row : SectorRow). row.seq) (cond (a && (o && d)) (Some x) (find (λ (row : SectorRow). nat_eq row.aircraft n && (nat_lt row.took_off s.on && nat_lt s.off row.landed)) rows))
          ≡ overlapped_in s (cond (a && (e && o)) (x ∷ filter (is_near n s) rows) (filter (is_near n s) rows))
      at false e o d p q h rest = rest
      at true true true true p q h rest = sym (ap₂ (λ b c. option_map (λ (row : SectorRow). row.seq) (cond (b && c) (Some x) (find (is_overlapped s) (filter (is_near n s) rows)))) p q)
      at true true true false p q h rest = rest ∙ sym (ap₂ (λ b c. option_map (λ (row : SectorRow). row.seq) (cond (b && c) (Some x) (find (is_overlapped s) (filter (is_near n s) rows)))) p q)
      at true true false d p q h rest = rest
      at true false true true p q h rest = let no = h refl in absurd cc
      at true false true false p q h rest = rest
      at true false false d p q h rest = rest

-- ── whether it is late ──

-- a sector that is late is of an aircraft that is there
late_there : (book : List Entry) (s : Sector) (n : ℕ) → late_number book s ≡ Some n → seq_of_tail book s.tail ≡ Some n
late_there book s n h = at (nat_lt s.off (clock book (Airframe s.tail))) h
  where
    at : (b : Bool) → cond b (seq_of_tail book s.tail) None ≡ Some n → seq_of_tail book s.tail ≡ Some n
    at true h = h
    at false h = absurd cc

-- one that is not takes off by the clock of its airframe
not_late : (book : List Entry) (s : Sector) → IsBook book → late_number book s ≡ None → clock book (Airframe s.tail) ≤ s.off
not_late book s b h = at (nat_lt s.off (clock book (Airframe s.tail))) refl h
  where
    at : (c : Bool) → nat_lt s.off (clock book (Airframe s.tail)) ≡ c → cond c (seq_of_tail book s.tail) None ≡ None → clock book (Airframe s.tail) ≤ s.off
    at true e h = let none : clock book (Airframe s.tail) ≡ 0 = no_clock book (Airframe s.tail) b h in omega (arith, none)
    at false e h = grind (arith, nat_tests)

-- its total says whether it is late
pub late_found : (book : List Entry) (s : Sector) (n : ℕ) → IsBook book → seq_of_tail book s.tail ≡ Some n → late_in s n (filter (λ (row : TotalRow). nat_eq row.item n) (total_rows book)) ≡ Some (late_number book s)
late_found book s n b h =
    by_clock (slice_get (filter (λ (row : TotalRow). nat_eq row.item n) (total_rows book)) 0) (clock_found book (Airframe s.tail) n b h)
    ∙ ap (λ o. Some (cond (nat_lt s.off (clock book (Airframe s.tail))) o None)) (sym h)
  where
    by_clock : (o : Option TotalRow) → option_map (λ (row : TotalRow). row.clock) o ≡ Some (clock book (Airframe s.tail)) → option_map (λ (row : TotalRow). cond (nat_lt s.off row.clock) (Some n) None) o ≡ Some (cond (nat_lt s.off (clock book (Airframe s.tail))) (Some n) None)
    by_clock None e = absurd cc
    by_clock (Some row) e = let same : row.clock ≡ clock book (Airframe s.tail) = cc in ap (λ m. Some (cond (nat_lt s.off m) (Some n) None)) same

-- a sector of an aircraft that is not there is not late
pub unknown_on_time : (book : List Entry) (s : Sector) → seq_of_tail book s.tail ≡ None → late_number book s ≡ None
unknown_on_time book s h = ap (λ o. cond (nat_lt s.off (clock book (Airframe s.tail))) o None) h ∙ either (nat_lt s.off (clock book (Airframe s.tail)))
  where
    either : (b : Bool) → cond {A = Option ℕ} b None None ≡ None
    either true = refl
    either false = refl

pub overlap_found : (book : List Entry) (s : Sector) (n : ℕ) → IsBook book → late_number book s ≡ Some n → overlapped_in s (filter (is_near n s) (sector_rows book)) ≡ first_overlapped book s
overlap_found book s n b h =
    let there = late_there book s n h in
    sym (near n s (sector_rows book) (short_from [] book b.shaped)) ∙ ap (λ m. overlapped_among m s (sector_rows book)) (sym (ap or_zero there)) ∙ sym (overlap_rows book s b (tail_there book s.tail n there))

pub straddle_found : (book : List Entry) (s : Sector) (n : ℕ) → IsBook book → late_number book s ≡ Some n
    → sooner (straddled_moves s (filter (λ (row : SpanRow). nat_eq row.aircraft n) (span_rows book))) (straddled_releases s (filter (is_released_near n s) (release_rows book))) ≡ first_straddled book s
straddle_found book s n b h =
    let there = late_there book s n h in
    sym (least-append (flat_map (crossed_in n s) (span_rows book)) (flat_map (crossed_by n s) (release_rows book)) ∙ ap₂ sooner (moves n s (span_rows book)) (released n s (release_rows book)))
    ∙ ap (λ m. least (crossed_numbers m s (span_rows book) (release_rows book))) (sym (ap or_zero there)) ∙ sym (straddle_least book s b (tail_there book s.tail n there))

pub no_overlap : (book : List Entry) (s : Sector) → IsBook book → late_number book s ≡ None → first_overlapped book s ≡ None
no_overlap book s b h = (crosses_none book b s (not_late book s b h)).0

pub no_straddle : (book : List Entry) (s : Sector) → IsBook book → late_number book s ≡ None → first_straddled book s ≡ None
no_straddle book s b h = (crosses_none book b s (not_late book s b h)).1
