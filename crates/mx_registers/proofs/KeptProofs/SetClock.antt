-- The totals of a book with a new release: the clock of its place.
use Rattle.std.proofs.Common.{arith, refl, sym, subst, ap, ◌∙◌, ◌≡◌, ℕ, ◌≤◌, List, [], ◌∷◌, ◌++◌, Bool, true, false, cond, nat_eq, Some, append-nil}
use Rattle.std.specs.Prelude.{map, max}
use Rattle.std.specs.List.{AllByRecursion}
use Rattle.std.proofs.lemmas.Bool.Decides.{same_from_decides, Decides-eqb}
use Rattle.mx_base.specs.declared.amounts.Use.{Use}
use Rattle.mx_book.specs.commands.Act.{Entry, Released}
use Rattle.mx_book.specs.commands.Same.{same_text, same_item}
use Rattle.mx_book.specs.commands.Shape.{act_shape}
use Rattle.mx_book.specs.declared.commands.item.Item.{Item}
use Rattle.mx_book.specs.declared.commands.item.Item.TheVariants.{Airframe, Component}
use Rattle.mx_book.specs.declared.commands.release.Line.{Line}
use Rattle.mx_book.specs.declared.commands.release.Place.{Place}
use Rattle.mx_book.specs.declared.commands.release.Place.TheVariants as places
use Rattle.mx_book.specs.declared.commands.release.Release.{Release}
use Rattle.mx_book.specs.declared.verdict.Verdict.TheVariants.{New}
use Rattle.mx_book.specs.Book.{IsBook, is_new}
use Rattle.mx_book.specs.Judge.{judge, item_at as item_of_place}
use Rattle.mx_book.specs.Life.{latest, clock}
use Rattle.mx_registers.specs.Names.{item_at}
use Rattle.mx_registers.proofs.NewLemmas.{released_is_known}
use Rattle.mx_base.specs.declared.rows.rows.TotalRow.{TotalRow}
use Rattle.mx_registers.specs.kept.Changes.{moments_given}
use Rattle.mx_registers.specs.kept.Items.{items, number_of_place}
use Rattle.mx_registers.specs.kept.Totals.{set_row, total_grown, total_row, total_rows}
use Rattle.mx_registers.proofs.KeptProofs.DoneLemmas.{item_same}
use Rattle.mx_registers.proofs.KeptProofs.ItemNumbers.{items_numbered}
use Rattle.mx_registers.proofs.KeptProofs.LifeGrowth.{use_after_none}
use Rattle.mx_registers.proofs.KeptProofs.TotalRows.{total_rows-more}
use Rattle.mx_registers.proofs.KeptProofs.NumberLemmas.{number_same}
use Rattle.mx_registers.proofs.KeptProofs.JudgedLemmas.{new-timely, not_passed}

pub if_latest : (c : Bool) (m : ℕ) → latest (cond c (m ∷ []) []) ≡ cond c m 0
if_latest true m = omega arith
if_latest false m = refl

-- a release gives the clock of its place its moment, and no other clock one
pub given_there : (before : List Entry) (place : Place) (m : ℕ) (lines : List Line) (item : Item) → latest (moments_given before item (Released (record { place = place; moment = m }) lines)) ≡ cond (same_item (item_of_place place) item) m 0
given_there before (places.Aircraft tail) m lines (Airframe t) = if_latest (same_text tail t) m
given_there before (places.Aircraft tail) m lines (Component s) = refl
given_there before (places.Shop serial kind) m lines (Airframe t) = refl
given_there before (places.Shop serial kind) m lines (Component s) = if_latest (same_text serial s) m

raised : (c : Bool) (clk m : ℕ) → (c ≡ true → clk ≤ m) → max clk (cond c m 0) ≡ cond c m clk
raised true clk m by = let le = by refl in omega arith
raised false clk m by = omega arith

pub eq_swap : (n m : ℕ) → nat_eq n m ≡ nat_eq m n
eq_swap n m = same_from_decides {P = n ≡ m} (nat_eq n m) (nat_eq m n) (Decides-eqb n m) ((λ h. sym ((Decides-eqb m n).0 h)), (λ e. (Decides-eqb m n).1 (sym e)))

abbrev row_of : ℕ → Use → ℕ → TotalRow
row_of n life clock = record { item = n; life = life; clock = clock }

turn : (c : Bool) (n : ℕ) (life : Use) (clk m : ℕ) → row_of n life (cond c m clk) ≡ cond {A = TotalRow} c (record (row_of n life clk) { clock = m }) (row_of n life clk)
turn true n life clk m = refl
turn false n life clk m = refl

module _ (book : List Entry) (doc : List ℕ) (r : Release) (lines : List Line) (b : IsBook book) (new : judge book (record { doc = doc; act = Released r lines }) ≡ New) where
  timely : clock book (item_of_place r.place) ≤ r.moment
  timely = not_passed r.moment (clock book (item_of_place r.place)) (new-timely book (record { doc = doc; act = Released r lines }) new)

  row_changed : (x : ℕ × Item) → item_at book x.0 ≡ Some x.1 → total_grown book (Released r lines) x.1 (total_row book x) ≡ set_row (number_of_place book r.place) r.moment (total_row book x)
  row_changed x at_x =
      let row = total_row book x in
      let n = number_of_place book r.place in
      let own : nat_eq x.0 n ≡ same_item (item_of_place r.place) x.1 = eq_swap x.0 n ∙ number_same book (item_of_place r.place) x.1 x.0 b (released_is_known book doc r lines (ap is_new new)).0 at_x in
      let clocks : max row.clock (latest (moments_given book x.1 (Released r lines))) ≡ cond (same_item (item_of_place r.place) x.1) r.moment row.clock =
      ap (max row.clock) (given_there book r.place r.moment lines x.1)
      ∙ raised (same_item (item_of_place r.place) x.1) row.clock r.moment (λ e. subst (λ i. clock book i ≤ r.moment) (item_same (item_of_place r.place) x.1 e) timely) in
      ap (λ u. row_of x.0 u (max row.clock (latest (moments_given book x.1 (Released r lines))))) (use_after_none row.life)
      ∙ ap (row_of x.0 row.life) (clocks ∙ ap (λ c. cond c r.moment row.clock) (sym own))
      ∙ turn (nat_eq x.0 n) x.0 row.life row.clock r.moment

  rows_changed : (xs : List (ℕ × Item)) → AllByRecursion (λ (x : ℕ × Item). item_at book x.0 ≡ Some x.1) xs
      → map (λ (x : ℕ × Item). total_grown book (Released r lines) x.1 (total_row book x)) xs ≡ map (set_row (number_of_place book r.place) r.moment) (map (total_row book) xs)
  rows_changed [] h = refl
  rows_changed (x ∷ xs) h =
      ap (λ row. row ∷ map (λ (x : ℕ × Item). total_grown book (Released r lines) x.1 (total_row book x)) xs) (row_changed x h.0)
      ∙ ap (λ l. set_row (number_of_place book r.place) r.moment (total_row book x) ∷ l) (rows_changed xs h.1)

-- the totals with a new release: the clock of its place is its moment
pub released_totals : (book : List Entry) (doc : List ℕ) (r : Release) (lines : List Line) → IsBook book → judge book (record { doc = doc; act = Released r lines }) ≡ New → act_shape (Released r lines) ≡ true
    → total_rows (book ++ record { doc = doc; act = Released r lines } ∷ []) ≡ map (set_row (number_of_place book r.place) r.moment) (total_rows book)
released_totals book doc r lines b new shape =
    total_rows-more book doc (Released r lines) b new shape
    ∙ append-nil (map (λ (x : ℕ × Item). total_grown book (Released r lines) x.1 (total_row book x)) (items book))
    ∙ rows_changed book doc r lines b new (items book) (items_numbered book b)
