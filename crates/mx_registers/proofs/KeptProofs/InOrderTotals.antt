-- The totals with a sector that takes off by the clock of its airframe, in the words of what is fitted now.
use Rattle.std.proofs.Common.{arith, refl, sym, ap, ◌∙◌, ◌≡◌, ℕ, ◌≤◌, List, [], ◌∷◌, ◌++◌, Bool, true, false, cond, nat_eq, Some}
use Rattle.std.specs.Prelude.{map, max}
use Rattle.std.specs.List.{list_any, AllByRecursion}
use Rattle.std.proofs.lemmas.Bool.Decides.{Decides-eqb}
use Rattle.mx_base.specs.declared.amounts.Use.{Use}
use Rattle.mx_book.specs.commands.Act.{Entry, Flown}
use Rattle.mx_book.specs.commands.Shape.{act_shape}
use Rattle.mx_book.specs.declared.commands.item.Item.{Item}
use Rattle.mx_book.specs.declared.commands.item.Item.TheVariants.{Airframe, Component}
use Rattle.mx_book.specs.declared.commands.sector.Sector.{Sector}
use Rattle.mx_book.specs.declared.verdict.Verdict.TheVariants.{New}
use Rattle.mx_book.specs.Book.{IsBook, is_new}
use Rattle.mx_book.specs.Judge.{judge}
use Rattle.mx_book.specs.Life.{clock, use_after}
use Rattle.mx_registers.specs.Names.{has_item, tail_at, item_at, or_zero, seq_of_tail}
use Rattle.mx_registers.proofs.NameLemmas.{tail_known}
use Rattle.mx_registers.proofs.NewLemmas.{flown_is_known}
use Rattle.mx_base.specs.declared.rows.rows.TotalRow.{TotalRow}
use Rattle.mx_registers.specs.kept.Items.{items}
use Rattle.mx_registers.specs.kept.Spans.{span_rows}
use Rattle.mx_registers.specs.kept.Totals.{credited_row, numbers_during, numbers_there, raised_row, set_row, total_row, total_rows}
use Rattle.mx_registers.proofs.KeptProofs.CreditLemmas.{lands_later, credited_there}
use Rattle.mx_registers.proofs.KeptProofs.ItemNumbers.{items_numbered, tail_at_item, serial_at_item, other_number}
use Rattle.mx_registers.proofs.KeptProofs.NumbersThere.{numbers_are_there, numbers_are_credited, sector_totals}
use Rattle.mx_registers.proofs.KeptProofs.TotalRows.{items_there}

abbrev row_of : ℕ → Use → ℕ → TotalRow
row_of n life clock = record { item = n; life = life; clock = clock }

-- a clock that is raised to a moment that is not before it is set to it
raised_set : (a n m clk : ℕ) (u : Use) (d : Bool) → nat_eq n a ≡ d → (d ≡ true → clk ≤ m) → raised_row a m (row_of n u clk) ≡ set_row a m (row_of n u clk)
raised_set a n m clk u true e by =
    let less = by refl in let top : max clk m ≡ m = omega arith in
    ap (λ c. cond {A = TotalRow} c (row_of n u (max clk m)) (row_of n u clk)) e ∙ ap (row_of n u) top ∙ sym (ap (λ c. cond {A = TotalRow} c (row_of n u m) (row_of n u clk)) e)
raised_set a n m clk u false e by =
    ap (λ c. cond {A = TotalRow} c (row_of n u (max clk m)) (row_of n u clk)) e ∙ sym (ap (λ c. cond {A = TotalRow} c (row_of n u m) (row_of n u clk)) e)

either_set : (a n m clk : ℕ) (u v : Use) (c : Bool) → (nat_eq n a ≡ true → clk ≤ m) → raised_row a m (cond {A = TotalRow} c (row_of n v clk) (row_of n u clk)) ≡ set_row a m (cond {A = TotalRow} c (row_of n v clk) (row_of n u clk))
either_set a n m clk u v true by = raised_set a n m clk v (nat_eq n a) refl by
either_set a n m clk u v false by = raised_set a n m clk u (nat_eq n a) refl by

-- the item with the number of an aircraft is its airframe
own_clock : (book : List Entry) (s : Sector) (n : ℕ) (item : Item) → tail_at book (or_zero (seq_of_tail book s.tail)) ≡ Some s.tail → item_at book n ≡ Some item → clock book (Airframe s.tail) ≤ s.off → s.off ≤ s.on → nat_eq n (or_zero (seq_of_tail book s.tail)) ≡ true → clock book item ≤ s.on
own_clock book s n (Airframe t) there h by lands e =
    let number = (Decides-eqb n (or_zero (seq_of_tail book s.tail))).0 e in
    let p : Some t ≡ Some s.tail = sym (tail_at_item book n t h) ∙ ap (tail_at book) number ∙ there in
    let same : t ≡ s.tail = cc in
    let clocks = ap (λ (x : List ℕ). clock book (Airframe x)) same in omega arith
own_clock book s n (Component c) there h by lands e =
    let number = (Decides-eqb n (or_zero (seq_of_tail book s.tail))).0 e in
    let apart = other_number book (or_zero (seq_of_tail book s.tail)) n s.tail c there (serial_at_item book n c h) in
    let same : nat_eq (or_zero (seq_of_tail book s.tail)) n ≡ true = (Decides-eqb (or_zero (seq_of_tail book s.tail)) n).1 (sym number) in
    absurd (both apart same)
  where
    both : {b : Bool} → b ≡ false → b ≡ true → ⊥
    both f t = (cc)

module _ (book : List Entry) (doc : List ℕ) (s : Sector) (b : IsBook book) (new : judge book (record { doc = doc; act = Flown s }) ≡ New) (shape : act_shape (Flown s) ≡ true) (timely : clock book (Airframe s.tail) ≤ s.off) where
  abbrev a : ℕ
  a = or_zero (seq_of_tail book s.tail)

  one_row : (x : ℕ × Item) → has_item book x.1 ≡ true → item_at book x.0 ≡ Some x.1
      → raised_row a s.on (credited_row (numbers_during a s.off s.on (span_rows book)) s (total_row book x)) ≡ set_row a s.on (credited_row (numbers_there a (span_rows book)) s (total_row book x))
  one_row x known number =
      let there = flown_is_known book doc s (ap is_new new) in
      let lands = lands_later s shape in
      let row = total_row book x in
      let same : list_any (nat_eq x.0) (numbers_during a s.off s.on (span_rows book)) ≡ list_any (nat_eq x.0) (numbers_there a (span_rows book)) =
      numbers_are_credited book s x.0 x.1 b there known number ∙ credited_there book x.1 s b lands timely ∙ sym (numbers_are_there book s.tail x.0 x.1 b there known number) in
      ap (λ c. raised_row a s.on (cond {A = TotalRow} c (record row { life = use_after (s ∷ []) row.life }) row)) same
      ∙ either_set a x.0 s.on row.clock row.life (use_after (s ∷ []) row.life) (list_any (nat_eq x.0) (numbers_there a (span_rows book)))
      (own_clock book s x.0 x.1 (tail_known book s.tail there) number timely (omega arith))

  each_row : (xs : List (ℕ × Item)) → AllByRecursion (λ (x : ℕ × Item). has_item book x.1 ≡ true) xs → AllByRecursion (λ (x : ℕ × Item). item_at book x.0 ≡ Some x.1) xs
      → map (raised_row a s.on) (map (credited_row (numbers_during a s.off s.on (span_rows book)) s) (map (total_row book) xs)) ≡ map (set_row a s.on) (map (credited_row (numbers_there a (span_rows book)) s) (map (total_row book) xs))
  each_row [] h k = refl
  each_row (x ∷ xs) h k =
      ap (λ r. r ∷ map (raised_row a s.on) (map (credited_row (numbers_during a s.off s.on (span_rows book)) s) (map (total_row book) xs))) (one_row x h.0 k.0)
      ∙ ap (λ l. set_row a s.on (credited_row (numbers_there a (span_rows book)) s (total_row book x)) ∷ l) (each_row xs h.1 k.1)

-- the totals with a sector that takes off by the clock of its airframe: those of its aircraft and of what is fitted to it are credited, and the clock of the aircraft is set to its landing
pub in_order_totals : (book : List Entry) (doc : List ℕ) (s : Sector) → IsBook book → judge book (record { doc = doc; act = Flown s }) ≡ New → act_shape (Flown s) ≡ true → clock book (Airframe s.tail) ≤ s.off
    → total_rows (book ++ record { doc = doc; act = Flown s } ∷ []) ≡ map (set_row (or_zero (seq_of_tail book s.tail)) s.on) (map (credited_row (numbers_there (or_zero (seq_of_tail book s.tail)) (span_rows book)) s) (total_rows book))
in_order_totals book doc s b new shape timely = sector_totals book doc s b new shape ∙ each_row book doc s b new shape timely (items book) (items_there book b) (items_numbered book b)
