-- What a sector crosses, by rows.
use Rattle.std.proofs.Common.{arith, refl, sym, subst, ap, ◌∙◌, ◌≡◌, ℕ, ◌+◌, length, List, [], ◌∷◌, ◌++◌, Bool, true, false, cond, nat_eq, ◌&&◌, Option, Some, None, append_assoc, length-append, take}
use Rattle.std.specs.Prelude.{find, is_none, is_some, nat_lt}
use Rattle.std.specs.List.{list_all, AllByRecursion}
use Rattle.std.specs.Option.{option_map, option_map_or, option_and_then}
use Rattle.std.proofs.lemmas.List.{take-append-le}
use Rattle.mx_book.specs.commands.Act.{Act, Entry, Flown, Fitted, Removed, Released}
use Rattle.mx_book.specs.commands.Same.{same_text}
use Rattle.mx_book.specs.commands.Shape.{has_shape}
use Rattle.mx_book.specs.declared.commands.release.Place.{Place}
use Rattle.mx_book.specs.declared.commands.release.Place.TheVariants as places
use Rattle.mx_book.specs.declared.commands.sector.Sector.{Sector}
use Rattle.mx_book.specs.declared.verdict.Verdict.TheVariants.{New}
use Rattle.mx_book.specs.Register.{aircraft}
use Rattle.mx_book.specs.Book.{IsBook, is_new, is_book_from}
use Rattle.mx_book.specs.Judge.{judge, item_at}
use Rattle.mx_book.specs.Late.{is_during, is_aircraft, overlaps, overlap_from, first_overlapped, straddles, straddle_from, first_straddled}
use Rattle.mx_book.specs.Span.{Span, spans, fitted, tail_fitted}
use Rattle.mx_book.proofs.JudgeLemmas.{both_true, is_new-New, IsBook-entered}
use Rattle.mx_registers.specs.Names.{or_zero, seq_of_tail, has_item}
use Rattle.mx_registers.specs.Registers.{gives_by, next, sectors_by, sector_rows}
use Rattle.mx_base.specs.declared.rows.rows.SectorRow.{SectorRow}
use Rattle.mx_registers.proofs.NewLemmas.{flown_is_known, fitted_is_known, released_is_known}
use Rattle.mx_registers.specs.late.Crossings.{overlapped_among}
use Rattle.mx_registers.specs.kept.Items.{number_of_tail}
use Rattle.mx_registers.proofs.KeptProofs.Induction.{empty_book}
use Rattle.mx_registers.proofs.KeptProofs.JudgedLemmas.{new-fitted}
use Rattle.mx_registers.proofs.KeptProofs.KnownLemmas.{aircraft_kept, spans_placed}
use Rattle.mx_registers.proofs.KeptProofs.NumbersThere.{tail_number_kept, one_tail_number}

-- something that was done at an aircraft at a moment, by the entry with a number
pub record Crossing : Type 0 where
  pub seq : ℕ
  pub aircraft : ℕ
  pub moment : ℕ

-- that of work at a place, where that is an aircraft
abbrev pub crossing_at : List Entry → Place → ℕ → List Crossing
crossing_at before (places.Aircraft tail) moment = record { seq = next before; aircraft = number_of_tail before tail; moment = moment } ∷ []
crossing_at before (places.Shop serial kind) moment = []

-- what an entry does at an aircraft, behind the entries before it: it fits a component there, removes one from where it is fitted, or releases work there
abbrev pub crossings_by : List Entry → Act → List Crossing
crossings_by before (Fitted f) = record { seq = next before; aircraft = number_of_tail before f.tail; moment = f.moment } ∷ []
crossings_by before (Removed r) = record { seq = next before; aircraft = or_zero (option_and_then (seq_of_tail before) (tail_fitted before r.serial)); moment = r.moment } ∷ []
crossings_by before (Released r lines) = crossing_at before r.place r.moment
crossings_by before _ = []

-- what the entries of a book did, in their order
abbrev pub crossings : List Entry → List Crossing
crossings book = gives_by crossings_by [] book

-- the first that was done at the aircraft with a number while a sector was under way
abbrev pub crossed_among : ℕ → Sector → List Crossing → Option ℕ
crossed_among aircraft s rows = option_map (λ row. row.seq) (find (λ row. nat_eq row.aircraft aircraft && is_during s row.moment) rows)

take_all : (xs : List Entry) → take (length xs) xs ≡ xs
take_all [] = refl
take_all (x ∷ xs) = ap (λ l. x ∷ l) (take_all xs)

-- the entries before are the first so many of all
first_ones : (before later : List Entry) → take (length before) (before ++ later) ≡ before
first_ones before later = take-append-le (length before) before later (omega arith) ∙ take_all before

found_if : {X : Type 0} (of : X → ℕ) (p : X → Bool) (x : X) (xs : List X) (n : ℕ) (c : Bool) (o : Option ℕ) → p x ≡ c → of x ≡ n → o ≡ option_map of (find p xs) → cond c (Some n) o ≡ option_map of (find p (x ∷ xs))
found_if of p x xs n true o e f rest = ap (λ (m : ℕ). Some m) (sym f) ∙ sym (ap (λ c. option_map of (cond c (Some x) (find p xs))) e)
found_if of p x xs n false o e f rest = rest ∙ sym (ap (λ c. option_map of (cond c (Some x) (find p xs))) e)

known_tail : (p : Span → Bool) (known : Span → Bool) (xs : List Span) → AllByRecursion (λ x. known x ≡ true) xs → (o : Option Span) → find p xs ≡ o → option_map_or known o true ≡ true
known_tail p known xs h o e = subst (λ (y : Option Span). option_map_or known y true ≡ true) e (found xs h)
  where
    found : (xs : List Span) → AllByRecursion (λ x. known x ≡ true) xs → option_map_or known (find p xs) true ≡ true
    found [] h = refl
    found (x ∷ xs) h = at (p x) (found xs h.1)
      where
        at : (b : Bool) → option_map_or known (find p xs) true ≡ true → option_map_or known (cond b (Some x) (find p xs)) true ≡ true
        at true rest = h.0
        at false rest = rest

module _ (s : Sector) (whole : List Entry) (there : is_some (aircraft whole s.tail) ≡ true) where
  abbrev a : ℕ
  a = or_zero (seq_of_tail whole s.tail)

  -- the number of an aircraft of the entries before is that of the sector's exactly where it is that one
  own : (before later : List Entry) (tail : List ℕ) → before ++ later ≡ whole → is_some (aircraft before tail) ≡ true → nat_eq (or_zero (seq_of_tail before tail)) a ≡ same_text tail s.tail
  own before later tail same known =
      let then : is_some (aircraft whole tail) ≡ true = subst (λ (es : List Entry). is_some (aircraft es tail) ≡ true) same (ap is_some (aircraft_kept before later tail known) ∙ known) in
      ap (λ m. nat_eq m a) (sym (tail_number_kept before later tail known) ∙ ap (λ (es : List Entry). or_zero (seq_of_tail es tail)) same)
      ∙ one_tail_number whole tail s.tail then there

  is_crossed : Crossing → Bool
  is_crossed row = nat_eq row.aircraft a && is_during s row.moment

  crossed_from : (before later : List Entry) → IsBook before → list_all has_shape later ≡ true → is_book_from before later ≡ true → before ++ later ≡ whole
      → straddle_from s whole (length before) later ≡ crossed_among a s (gives_by crossings_by before later)
  crossed_from before [] b shaped h same = refl
  crossed_from before (x ∷ later) b shaped h same =
      let both = both_true (is_new (judge before x)) (is_book_from (before ++ x ∷ []) later) h in
      let shape = both_true (has_shape x) (list_all has_shape later) shaped in
      let new = is_new-New (judge before x) both.0 in
      let rest = crossed_from (before ++ x ∷ []) later (IsBook-entered before x b shape.0 new) shape.1 both.1 (append_assoc before (x ∷ []) later ∙ same) in
      let count : length (before ++ x ∷ []) ≡ length before + 1 = length-append before (x ∷ []) in
      ap (λ es. cond (straddles s es x.act) (Some (length before + 1)) (straddle_from s whole (length before + 1) later)) (ap (take (length before)) (sym same) ∙ first_ones before (x ∷ later))
      ∙ at x.act new (ap (λ k. straddle_from s whole k later) (sym count) ∙ rest)
    where
      fits : (doc : List ℕ) (act : Act) → judge before (record { doc = doc; act = act }) ≡ New → (o : Option Span) → (serial : List ℕ) → fitted before serial ≡ o → is_none o ≡ false
          → nat_eq (or_zero (option_and_then (seq_of_tail before) (option_map (λ (y : Span). y.tail) o))) a ≡ option_map_or (λ t. same_text t s.tail) (option_map (λ (y : Span). y.tail) o) false
      fits doc act new None serial e some = (cc)
      fits doc act new (Some y) serial e some = own before (x ∷ later) y.tail same (known_tail (λ (z : Span). same_text z.serial serial && is_none z.to) (λ (z : Span). is_some (aircraft before z.tail)) (spans before) (spans_placed before b) (Some y) e)

      work : (place : Place) (m : ℕ) → has_item before (item_at place) ≡ true → straddle_from s whole (length before + 1) later ≡ crossed_among a s (gives_by crossings_by (before ++ x ∷ []) later)
          → cond (is_aircraft s.tail place && is_during s m) (Some (length before + 1)) (straddle_from s whole (length before + 1) later) ≡ crossed_among a s (crossing_at before place m ++ gives_by crossings_by (before ++ x ∷ []) later)
      work (places.Aircraft tail) m known rest =
          found_if (λ (row : Crossing). row.seq) (λ (row : Crossing). nat_eq row.aircraft a && is_during s row.moment) (record { seq = next before; aircraft = or_zero (seq_of_tail before tail); moment = m }) (gives_by crossings_by (before ++ x ∷ []) later)
          (length before + 1) (same_text tail s.tail && is_during s m) (straddle_from s whole (length before + 1) later)
          (ap (λ c. c && is_during s m) (own before (x ∷ later) tail same known)) refl rest
      work (places.Shop c kind) m known rest = rest

      at : (act : Act) → judge before (record { doc = x.doc; act = act }) ≡ New → straddle_from s whole (length before + 1) later ≡ crossed_among a s (gives_by crossings_by (before ++ x ∷ []) later)
          → cond (straddles s before act) (Some (length before + 1)) (straddle_from s whole (length before + 1) later) ≡ crossed_among a s (crossings_by before act ++ gives_by crossings_by (before ++ x ∷ []) later)
      at (Fitted f) new rest =
          found_if (λ (row : Crossing). row.seq) (λ (row : Crossing). nat_eq row.aircraft a && is_during s row.moment) (record { seq = next before; aircraft = or_zero (seq_of_tail before f.tail); moment = f.moment }) (gives_by crossings_by (before ++ x ∷ []) later)
          (length before + 1) (same_text f.tail s.tail && is_during s f.moment) (straddle_from s whole (length before + 1) later)
          (ap (λ c. c && is_during s f.moment) (own before (x ∷ later) f.tail same (fitted_is_known before x.doc f (ap is_new new)).0)) refl rest
      at (Removed r) new rest =
          let taken = new-fitted before x.doc r new in
          found_if (λ (row : Crossing). row.seq) (λ (row : Crossing). nat_eq row.aircraft a && is_during s row.moment)
          (record { seq = next before; aircraft = or_zero (option_and_then (seq_of_tail before) (tail_fitted before r.serial)); moment = r.moment }) (gives_by crossings_by (before ++ x ∷ []) later)
          (length before + 1) (option_map_or (λ t. same_text t s.tail) (tail_fitted before r.serial) false && is_during s r.moment) (straddle_from s whole (length before + 1) later)
          (ap (λ c. c && is_during s r.moment) (fits x.doc (Removed r) new (fitted before r.serial) r.serial refl taken)) refl rest
      at (Released r lines) new rest = work r.place r.moment (released_is_known before x.doc r lines (ap is_new new)).0 rest
      at _ new rest = rest

  overlapped_from : (before later : List Entry) → is_book_from before later ≡ true → before ++ later ≡ whole → overlap_from s (length before + 1) later ≡ overlapped_among a s (gives_by sectors_by before later)
  overlapped_from before [] h same = refl
  overlapped_from before (x ∷ later) h same =
      let both = both_true (is_new (judge before x)) (is_book_from (before ++ x ∷ []) later) h in
      let count : length (before ++ x ∷ []) ≡ length before + 1 = length-append before (x ∷ []) in
      at x.act both.0 (ap (λ k. overlap_from s (k + 1) later) (sym count) ∙ overlapped_from (before ++ x ∷ []) later both.1 (append_assoc before (x ∷ []) later ∙ same))
    where
      at : (act : Act) → is_new (judge before (record { doc = x.doc; act = act })) ≡ true → overlap_from s (length before + 1 + 1) later ≡ overlapped_among a s (gives_by sectors_by (before ++ x ∷ []) later)
          → cond (overlaps s act) (Some (length before + 1)) (overlap_from s (length before + 1 + 1) later) ≡ overlapped_among a s (sectors_by before act ++ gives_by sectors_by (before ++ x ∷ []) later)
      at (Flown o) new rest =
          found_if (λ (row : SectorRow). row.seq) (λ (row : SectorRow). nat_eq row.aircraft a && (nat_lt row.took_off s.on && nat_lt s.off row.landed)) _ (gives_by sectors_by (before ++ x ∷ []) later)
          (length before + 1) (same_text o.tail s.tail && (nat_lt o.off s.on && nat_lt s.off o.on)) (overlap_from s (length before + 1 + 1) later)
          (ap (λ c. c && (nat_lt o.off s.on && nat_lt s.off o.on)) (own before (x ∷ later) o.tail same (flown_is_known before x.doc o new))) refl rest
      at _ new rest = rest

-- the first entry that a sector straddles is the first that did something at its aircraft while it was under way
pub straddle_rows : (book : List Entry) (s : Sector) → IsBook book → is_some (aircraft book s.tail) ≡ true → first_straddled book s ≡ crossed_among (or_zero (seq_of_tail book s.tail)) s (crossings book)
straddle_rows book s b there = crossed_from s book there [] book empty_book b.shaped b.judged refl

-- the first entry that a sector overlaps is the first of the rows of sectors of its aircraft that was under way with it
pub overlap_rows : (book : List Entry) (s : Sector) → IsBook book → is_some (aircraft book s.tail) ≡ true → first_overlapped book s ≡ overlapped_among (or_zero (seq_of_tail book s.tail)) s (sector_rows book)
overlap_rows book s b there = overlapped_from s book there [] book b.judged refl
