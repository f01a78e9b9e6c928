-- The deferrals with the cycles at which they were found, with one command more.
use Rattle.std.proofs.Common.{arith, refl, sym, subst, ap, ◌∙◌, ◌≡◌, ℕ, ◌+◌, List, [], ◌∷◌, ◌++◌, Bool, true, false, cond, nat_eq, ◌&&◌, Option, None, append_assoc, append-nil}
use Rattle.std.specs.Prelude.{nat_le, is_some, map}
use Rattle.mx_base.specs.declared.amounts.Use.{Use}
use Rattle.mx_book.specs.commands.Act.{Act, Entry, Flown, Deferred, sector_of}
use Rattle.mx_book.specs.commands.Same.{same_text}
use Rattle.mx_book.specs.commands.Shape.{act_shape}
use Rattle.mx_book.specs.declared.commands.item.Item.TheVariants.{Airframe}
use Rattle.mx_book.specs.declared.commands.sector.Sector.{Sector}
use Rattle.mx_book.specs.declared.verdict.Verdict.TheVariants.{New}
use Rattle.mx_book.specs.Register.{aircraft}
use Rattle.mx_book.specs.Book.{IsBook, is_new, is_book_from}
use Rattle.mx_book.specs.Judge.{judge}
use Rattle.mx_book.specs.Life.{use_after, life_at, use_or_none}
use Rattle.mx_book.proofs.JudgeLemmas.{both_true}
use Rattle.mx_registers.specs.Names.{or_zero, seq_of_tail}
use Rattle.mx_registers.specs.Registers.{deferral_row, gives_by, next}
use Rattle.mx_registers.proofs.NewLemmas.{flown_is_known, deferred_is_known}
use Rattle.mx_registers.proofs.RegisterLemmas.{gives-more}
use Rattle.mx_base.specs.declared.rows.rows.DeferralRow.{DeferralRow}
use Rattle.mx_base.specs.declared.rows.rows.Deferral3Row.{Deferral3Row}
use Rattle.mx_registers.specs.kept.Changes.{sectors_given}
use Rattle.mx_registers.specs.late.Found.{cycles_at, found_by, found_moved, found_rows}
use Rattle.mx_registers.proofs.KeptProofs.BaseGrowth.{life_more_none}
use Rattle.mx_registers.proofs.LateProofs.DoneLate.{reached_more}
use Rattle.mx_registers.proofs.KeptProofs.KnownLemmas.{aircraft_kept}
use Rattle.mx_registers.proofs.KeptProofs.NumbersThere.{one_tail_number, tail_number_kept}
use Rattle.mx_registers.proofs.KeptProofs.SpanGrowth.{same_sym}

abbrev pub row_of : DeferralRow → ℕ → Deferral3Row
row_of deferral cycles = record { deferral = deferral; found_cycles = cycles }

cycles_more : (c : Bool) (s : Sector) (u : Use) → (use_after (cond c (s ∷ []) []) u).cycles ≡ cond c (u.cycles + s.cycles) u.cycles
cycles_more true s u = omega arith
cycles_more false s u = omega arith

late_row : (c : Bool) (deferral : DeferralRow) (cycles more : ℕ) → row_of deferral (cond c more cycles) ≡ cond {A = Deferral3Row} c (row_of deferral more) (row_of deferral cycles)
late_row true deferral cycles more = refl
late_row false deferral cycles more = refl

module _ (book : List Entry) (doc : List ℕ) (s : Sector) (b : IsBook book) (new : judge book (record { doc = doc; act = Flown s }) ≡ New) (shape : act_shape (Flown s) ≡ true) where
  abbrev after : List Entry
  after = book ++ record { doc = doc; act = Flown s } ∷ []

  found_from : (before later : List Entry) → is_book_from before later ≡ true → before ++ later ≡ book → gives_by (found_by after) before later ≡ map (found_moved book (Flown s)) (gives_by (found_by book) before later)
  found_from before [] h whole = refl
  found_from before (x ∷ later) h whole =
      let both = both_true (is_new (judge before x)) (is_book_from (before ++ x ∷ []) later) h in
      at x.act both.0 (found_from (before ++ x ∷ []) later both.1 (append_assoc before (x ∷ []) later ∙ whole))
    where
      at : (act : Act) → is_new (judge before (record { doc = x.doc; act = act })) ≡ true
          → gives_by (found_by after) (before ++ x ∷ []) later ≡ map (found_moved book (Flown s)) (gives_by (found_by book) (before ++ x ∷ []) later)
          → found_by after before act ++ gives_by (found_by after) (before ++ x ∷ []) later ≡ map (found_moved book (Flown s)) (found_by book before act ++ gives_by (found_by book) (before ++ x ∷ []) later)
      at (Deferred d) is rest =
          let known = deferred_is_known before x.doc d is in
          let known_then : is_some (aircraft book d.tail) ≡ true = subst (λ (es : List Entry). is_some (aircraft es d.tail) ≡ true) whole (ap is_some (aircraft_kept before (x ∷ later) d.tail known) ∙ known) in
          let number : or_zero (seq_of_tail before d.tail) ≡ or_zero (seq_of_tail book d.tail) = sym (tail_number_kept before (x ∷ later) d.tail known) ∙ ap (λ (es : List Entry). or_zero (seq_of_tail es d.tail)) whole in
          let own : nat_eq (or_zero (seq_of_tail before d.tail)) (or_zero (seq_of_tail book s.tail)) ≡ same_text s.tail d.tail =
          ap (λ m. nat_eq m (or_zero (seq_of_tail book s.tail))) number ∙ one_tail_number book d.tail s.tail known_then (flown_is_known book doc s (ap is_new new)) ∙ same_sym d.tail s.tail in
          let reached : cycles_at after d.tail d.moment ≡ cond (same_text s.tail d.tail && nat_le s.on d.moment) (cycles_at book d.tail d.moment + s.cycles) (cycles_at book d.tail d.moment) =
          ap (λ (u : Use). u.cycles) (reached_more book doc s (Airframe d.tail) d.moment b new shape known_then)
          ∙ cycles_more (same_text s.tail d.tail && nat_le s.on d.moment) s (use_or_none (life_at book (Airframe d.tail) d.moment)) in
          let deferral = deferral_row (next before) (or_zero (seq_of_tail before d.tail)) d in
          let row = row_of deferral (cycles_at book d.tail d.moment) in
          let head : row_of deferral (cycles_at after d.tail d.moment) ≡ found_moved book (Flown s) row =
          ap (row_of deferral) reached
          ∙ late_row (same_text s.tail d.tail && nat_le s.on d.moment) deferral (cycles_at book d.tail d.moment) (cycles_at book d.tail d.moment + s.cycles)
          ∙ ap (λ c. cond {A = Deferral3Row} (c && nat_le s.on d.moment) (row_of deferral (cycles_at book d.tail d.moment + s.cycles)) row) (sym own) in
          ap (λ r. r ∷ gives_by (found_by after) (before ++ x ∷ []) later) head
          ∙ ap (λ l. found_moved book (Flown s) row ∷ l) rest
      at _ is rest = rest

-- with a new sector the cycles of its aircraft's defects that were found when it had landed have its own added, and no others
pub found_with_sector : (book : List Entry) (doc : List ℕ) (s : Sector) → IsBook book → judge book (record { doc = doc; act = Flown s }) ≡ New → act_shape (Flown s) ≡ true
    → found_rows (book ++ record { doc = doc; act = Flown s } ∷ []) ≡ map (found_moved book (Flown s)) (found_rows book)
found_with_sector book doc s b new shape =
    gives-more (λ before x. found_by (book ++ record { doc = doc; act = Flown s } ∷ []) before x.act) [] book (record { doc = doc; act = Flown s })
    ∙ append-nil (gives_by (found_by (book ++ record { doc = doc; act = Flown s } ∷ [])) [] book)
    ∙ found_from book doc s b new shape [] book b.judged refl

-- a command that is no sector gives none
no_sector : (book : List Entry) (tail : List ℕ) (act : Act) → sector_of act ≡ None → sectors_given book (Airframe tail) act ≡ []
no_sector book tail (Flown s) h = (cc)
no_sector book tail _ h = refl

module _ (book : List Entry) (doc : List ℕ) (act : Act) (b : IsBook book) (new : judge book (record { doc = doc; act = act }) ≡ New) (shape : act_shape act ≡ true) (none : sector_of act ≡ None) where
  abbrev with_act : List Entry
  with_act = book ++ record { doc = doc; act = act } ∷ []

  kept_from : (before later : List Entry) → is_book_from before later ≡ true → before ++ later ≡ book → gives_by (found_by with_act) before later ≡ gives_by (found_by book) before later
  kept_from before [] h whole = refl
  kept_from before (x ∷ later) h whole =
      let both = both_true (is_new (judge before x)) (is_book_from (before ++ x ∷ []) later) h in
      at x.act both.0 (kept_from (before ++ x ∷ []) later both.1 (append_assoc before (x ∷ []) later ∙ whole))
    where
      at : (other : Act) → is_new (judge before (record { doc = x.doc; act = other })) ≡ true → gives_by (found_by with_act) (before ++ x ∷ []) later ≡ gives_by (found_by book) (before ++ x ∷ []) later
          → found_by with_act before other ++ gives_by (found_by with_act) (before ++ x ∷ []) later ≡ found_by book before other ++ gives_by (found_by book) (before ++ x ∷ []) later
      at (Deferred d) is rest =
          let known = deferred_is_known before x.doc d is in
          let known_then : is_some (aircraft book d.tail) ≡ true = subst (λ (es : List Entry). is_some (aircraft es d.tail) ≡ true) whole (ap is_some (aircraft_kept before (x ∷ later) d.tail known) ∙ known) in
          ap (λ (o : Option Use). row_of (deferral_row (next before) (or_zero (seq_of_tail before d.tail)) d) ((use_or_none o).cycles) ∷ gives_by (found_by with_act) (before ++ x ∷ []) later)
          (life_more_none book doc act (Airframe d.tail) d.moment b new shape known_then (no_sector book d.tail act none))
          ∙ ap (λ l. row_of (deferral_row (next before) (or_zero (seq_of_tail before d.tail)) d) (cycles_at book d.tail d.moment) ∷ l) rest
      at _ is rest = rest

-- with a command that is no sector they stay, and a deferral adds its own
pub found_with_act : (book : List Entry) (doc : List ℕ) (act : Act) → IsBook book → judge book (record { doc = doc; act = act }) ≡ New → act_shape act ≡ true → sector_of act ≡ None
    → found_rows (book ++ record { doc = doc; act = act } ∷ []) ≡ found_rows book ++ found_by (book ++ record { doc = doc; act = act } ∷ []) book act
found_with_act book doc act b new shape none =
    gives-more (λ before x. found_by (book ++ record { doc = doc; act = act } ∷ []) before x.act) [] book (record { doc = doc; act = act })
    ∙ ap (λ l. l ++ found_by (book ++ record { doc = doc; act = act } ∷ []) book act) (kept_from book doc act b new shape none [] book b.judged refl)
