-- The rows of a table as a step of a move goes on.
use Rattle.std.proofs.Common.{arith, refl, sym, subst, ap, ◌∙◌, ◌≡◌, ℕ, ◌+◌, ◌≤◌, ◌<◌, zero, suc, length, List, [], ◌∷◌, ◌++◌, Bool, true, false, cond, ◌&&◌, Some, take, drop}
use Rattle.std.specs.Prelude.{nat_le, filter, fold, map, not}
use Rattle.std.proofs.Math.Seq.{drop-nil, take-nil}
use mathlib.Core.List.{map-map}
use Rattle.std.proofs.lemmas.Bool.Decides.{nat_tests}
use Rattle.std.proofs.lemmas.List.Elements.{filter_agree}
use Rattle.mx_book.specs.commands.Act.{Entry}
use Rattle.mx_book.specs.Book.{IsBook}
use Rattle.mx_book.specs.Programme.{last_of}
use Rattle.mx_base.specs.declared.rows.rows.SectorRow.{SectorRow}
use Rattle.mx_base.specs.rows.Rising.{IsRising}
use Rattle.mx_base.specs.declared.rows.rows.DeferralRow.{DeferralRow}
use Rattle.mx_base.specs.declared.rows.rows.Deferral3Row.{Deferral3Row}
use Rattle.mx_registers.specs.Registers.{deferral_rows, sector_rows}
use Rattle.mx_registers.specs.late.Found.{found_rows}
use Rattle.mx_registers.proofs.LateProofs.FoundBecomes.{found_of_deferrals}
use Rattle.mx_registers.proofs.RegisterLemmas.{deferral_rows-rising, sector_rows-rising}
use Rattle.mx_registers.specs.points.Moves.{BringsFound, MovesDeferrals, MovesSectors, deferrals_mark, found_next, last_moved}
use Rattle.mx_registers.specs.points.Points.{moving_from}
use Rattle.mx_registers.specs.points.Tables.{deferrals_3, rows_at}
use Rattle.mx_registers.proofs.PointsProofs.OneBook.{filter_through}

pub le_true : (a b : ℕ) → a ≤ b → nat_le a b ≡ true
le_true a b h = grind (arith, nat_tests)

pub le_false : (a b : ℕ) → b < a → nat_le a b ≡ false
le_false a b h = grind (arith, nat_tests)

module _ {Row : Type 0} (number : Row → ℕ) where
  abbrev pub below : ℕ → Row → Bool
  below mark row = nat_le (number row) mark

  abbrev pub above : ℕ → Row → Bool
  above mark row = not (nat_le (number row) mark)

  none_below : (mark low high : ℕ) (xs : List Row) → mark < low → IsRising number low xs high → filter (below mark) xs ≡ []
  none_below mark low high [] h up = refl
  none_below mark low high (x ∷ xs) h up = ap (λ b. cond b (x ∷ filter (below mark) xs) (filter (below mark) xs)) (le_false (number x) mark (omega (arith, up.0))) ∙ none_below mark (number x + 1) high xs (omega (arith, up.0)) up.1

  pub all_above : (mark low high : ℕ) (xs : List Row) → mark < low → IsRising number low xs high → filter (above mark) xs ≡ xs
  all_above mark low high [] h up = refl
  all_above mark low high (x ∷ xs) h up = ap (λ b. cond (not b) (x ∷ filter (above mark) xs) (filter (above mark) xs)) (le_false (number x) mark (omega (arith, up.0))) ∙ ap (λ l. x ∷ l) (all_above mark (number x + 1) high xs (omega (arith, up.0)) up.1)

  last_above : (mark low high n : ℕ) (xs : List Row) → mark ≤ low → IsRising number low xs high → mark ≤ last_moved number mark (take n xs)
  last_above mark low high zero xs h up = omega arith
  last_above mark low high (suc n) [] h up = omega arith
  last_above mark low high (suc n) (x ∷ xs) h up = let rest = last_above (number x) (number x + 1) high n xs (omega arith) up.1 in omega (arith, up.0)

  -- where all are above the mark, those up to the last of the first n are the first n
  taken_below : (mark low high n : ℕ) (xs : List Row) → mark < low → IsRising number low xs high → filter (below (last_moved number mark (take n xs))) xs ≡ take n xs
  taken_below mark low high zero xs h up = none_below mark low high xs h up
  taken_below mark low high (suc n) [] h up = refl
  taken_below mark low high (suc n) (x ∷ xs) h up =
      let last = last_moved number (number x) (take n xs) in
      ap (λ b. cond b (x ∷ filter (below last) xs) (filter (below last) xs)) (le_true (number x) last (last_above (number x) (number x + 1) high n xs (omega arith) up.1))
      ∙ ap (λ l. x ∷ l) (taken_below (number x) (number x + 1) high n xs (omega arith) up.1)

  left_above : (mark low high n : ℕ) (xs : List Row) → mark < low → IsRising number low xs high → filter (above (last_moved number mark (take n xs))) xs ≡ drop n xs
  left_above mark low high zero xs h up = all_above mark low high xs h up
  left_above mark low high (suc n) [] h up = refl
  left_above mark low high (suc n) (x ∷ xs) h up =
      let last = last_moved number (number x) (take n xs) in
      ap (λ b. cond (not b) (x ∷ filter (above last) xs) (filter (above last) xs)) (le_true (number x) last (last_above (number x) (number x + 1) high n xs (omega arith) up.1))
      ∙ left_above (number x) (number x + 1) high n xs (omega arith) up.1

  last_grows : (mark low high n : ℕ) (xs : List Row) → IsRising number low xs high → mark ≤ last_moved number mark (take n (filter (above mark) xs))
  last_grows mark low high n [] up = at n
    where
      at : (n : ℕ) → mark ≤ last_moved number mark (take n [])
      at zero = omega arith
      at (suc n) = omega arith
  last_grows mark low high n (x ∷ xs) up = at (nat_le (number x) mark) refl (last_grows mark (number x + 1) high n xs up.1)
    where
      at : (b : Bool) → nat_le (number x) mark ≡ b → mark ≤ last_moved number mark (take n (filter (above mark) xs)) → mark ≤ last_moved number mark (take n (cond (not b) (x ∷ filter (above mark) xs) (filter (above mark) xs)))
      at true e rest = rest
      at false e rest =
          let over : mark < number x = grind (arith, nat_tests) in
          let same = all_above mark (number x + 1) high xs (omega arith) up.1 in
          last_above mark (number x) high n (x ∷ filter (above mark) xs) (omega arith) (omega arith, subst (λ (l : List Row). IsRising number (number x + 1) l high) (sym same) up.1)

  -- the rows up to the last of the next n are those up to the mark, and the next n
  pub moved_more : (mark low high n : ℕ) (xs : List Row) → IsRising number low xs high → filter (below (last_moved number mark (take n (filter (above mark) xs)))) xs ≡ filter (below mark) xs ++ take n (filter (above mark) xs)
  moved_more mark low high n [] up = sym (take-nil n)
  moved_more mark low high n (x ∷ xs) up = at (nat_le (number x) mark) refl (moved_more mark (number x + 1) high n xs up.1)
    where
      at : (b : Bool) → nat_le (number x) mark ≡ b → filter (below (last_moved number mark (take n (filter (above mark) xs)))) xs ≡ filter (below mark) xs ++ take n (filter (above mark) xs)
          → filter (below (last_moved number mark (take n (cond (not b) (x ∷ filter (above mark) xs) (filter (above mark) xs))))) (x ∷ xs) ≡ (cond b (x ∷ filter (below mark) xs) (filter (below mark) xs)) ++ take n (cond (not b) (x ∷ filter (above mark) xs) (filter (above mark) xs))
      at true e rest =
          let last = last_moved number mark (take n (filter (above mark) xs)) in
          let grows = last_grows mark (number x + 1) high n xs up.1 in
          let by : number x ≤ mark = grind (arith, nat_tests) in
          ap (λ b. cond b (x ∷ filter (below last) xs) (filter (below last) xs)) (le_true (number x) last (omega arith)) ∙ ap (λ l. x ∷ l) rest
      at false e rest =
          let over : mark < number x = grind (arith, nat_tests) in
          let same = all_above mark (number x + 1) high xs (omega arith) up.1 in
          let none = none_below mark (number x + 1) high xs (omega arith) up.1 in
          ap (λ l. filter (below (last_moved number mark (take n (x ∷ l)))) (x ∷ xs)) same
          ∙ taken_below mark (number x) high n (x ∷ xs) over (omega arith, up.1)
          ∙ ap (λ l. take n (x ∷ l)) (sym same) ∙ ap (λ l. l ++ take n (x ∷ filter (above mark) xs)) (sym none)

  -- the rows above the last of the next n are those above the mark, without the next n
  pub left_less : (mark low high n : ℕ) (xs : List Row) → IsRising number low xs high → filter (above (last_moved number mark (take n (filter (above mark) xs)))) xs ≡ drop n (filter (above mark) xs)
  left_less mark low high n [] up = sym (drop-nil n)
  left_less mark low high n (x ∷ xs) up = at (nat_le (number x) mark) refl (left_less mark (number x + 1) high n xs up.1)
    where
      at : (b : Bool) → nat_le (number x) mark ≡ b → filter (above (last_moved number mark (take n (filter (above mark) xs)))) xs ≡ drop n (filter (above mark) xs)
          → filter (above (last_moved number mark (take n (cond (not b) (x ∷ filter (above mark) xs) (filter (above mark) xs))))) (x ∷ xs) ≡ drop n (cond (not b) (x ∷ filter (above mark) xs) (filter (above mark) xs))
      at true e rest =
          let last = last_moved number mark (take n (filter (above mark) xs)) in
          let grows = last_grows mark (number x + 1) high n xs up.1 in
          let by : number x ≤ mark = grind (arith, nat_tests) in
          ap (λ b. cond (not b) (x ∷ filter (above last) xs) (filter (above last) xs)) (le_true (number x) last (omega arith)) ∙ rest
      at false e rest =
          let over : mark < number x = grind (arith, nat_tests) in
          let same = all_above mark (number x + 1) high xs (omega arith) up.1 in
          ap (λ l. filter (above (last_moved number mark (take n (x ∷ l)))) (x ∷ xs)) same
          ∙ left_above mark (number x) high n (x ∷ xs) over (omega arith, up.1)
          ∙ ap (λ l. drop n (x ∷ l)) (sym same)

-- ── the next point ──

filter_map_number : {Row : Type 0} (number : Row → ℕ) (mark : ℕ) (xs : List Row) → filter (λ n. not (nat_le n mark)) (map number xs) ≡ map number (filter (λ row. not (nat_le (number row) mark)) xs)
filter_map_number number mark [] = refl
filter_map_number number mark (x ∷ xs) = at (not (nat_le (number x) mark)) (filter_map_number number mark xs)
  where
    at : (b : Bool) → filter (λ n. not (nat_le n mark)) (map number xs) ≡ map number (filter (λ row. not (nat_le (number row) mark)) xs)
        → cond b (number x ∷ filter (λ n. not (nat_le n mark)) (map number xs)) (filter (λ n. not (nat_le n mark)) (map number xs)) ≡ map number (cond b (x ∷ filter (λ row. not (nat_le (number row) mark)) xs) (filter (λ row. not (nat_le (number row) mark)) xs))
    at true h = ap (λ l. number x ∷ l) h
    at false h = h

take_map : {X Y : Type 0} (f : X → Y) (n : ℕ) (xs : List X) → take n (map f xs) ≡ map f (take n xs)
take_map f zero xs = refl
take_map f (suc n) [] = refl
take_map f (suc n) (x ∷ xs) = ap (λ l. f x ∷ l) (take_map f n xs)

last_number : {Row : Type 0} (number : Row → ℕ) (mark : ℕ) (xs : List Row) → fold (λ before n. Some n) (Some mark) (map number xs) ≡ Some (last_moved number mark xs)
last_number number mark [] = refl
last_number number mark (x ∷ xs) = last_number number (number x) xs

-- the mark that comes next is the number of the last row of the next n, where there are any
pub next_number : {Row : Type 0} (number : Row → ℕ) (mark n : ℕ) (xs : List Row) (row : Row) (rows : List Row) → take n (filter (λ row. not (nat_le (number row) mark)) xs) ≡ row ∷ rows
    → last_of (take n (filter (λ k. not (nat_le k mark)) (map number xs))) ≡ Some (last_moved number mark (take n (filter (λ row. not (nat_le (number row) mark)) xs)))
next_number number mark n xs row rows e =
    ap (λ l. last_of (take n l)) (filter_map_number number mark xs)
    ∙ ap last_of (take_map number n (filter (λ row. not (nat_le (number row) mark)) xs))
    ∙ ap (λ l. last_of (map number l)) e ∙ last_number number (number row) rows
    ∙ ap (λ l. Some (last_moved number mark l)) (sym e)

-- ── a commit that moves up to 64 rows ──

and_true : (b : Bool) → b && true ≡ b
and_true true = refl
and_true false = refl

-- with the next rows, at most 64, the new table has what it had and these, and the old the others
batch_moved : {Row : Type 0} (number : Row → ℕ) (mark high : ℕ) (xs : List Row) → IsRising number 1 xs high
    → (filter (λ row. nat_le (number row) (last_moved number mark (take 64 (filter (above number mark) xs))) && true) xs ≡ filter (λ row. nat_le (number row) mark && true) xs ++ take 64 (filter (above number mark) xs))
    × (filter (above number (last_moved number mark (take 64 (filter (above number mark) xs)))) xs ≡ drop 64 (filter (above number mark) xs))
batch_moved number mark high xs up =
    let batch = take 64 (filter (above number mark) xs) in
    (there (last_moved number mark batch) ∙ moved_more number mark 1 high 64 xs up ∙ ap (λ l. l ++ batch) (sym (there mark)), left_less number mark 1 high 64 xs up)
  where
    there : (m : ℕ) → filter (λ row. nat_le (number row) m && true) xs ≡ filter (below number m) xs
    there m = filter_agree _ (below number m) (λ row. and_true (nat_le (number row) m)) xs

pub sectors_moved : (book : List Entry) (mark : ℕ) → IsBook book → MovesSectors book mark
sectors_moved book mark b = let h = batch_moved (λ (row : SectorRow). row.seq) mark (length book + 1) (sector_rows book) (sector_rows-rising book b.shaped) in record { brought = h.0; taken = h.1 }

-- ── deferrals, which come with the cycles at which they were found ──

abbrev deferral_in : Deferral3Row → DeferralRow
deferral_in row = row.deferral

-- the mark behind rows is that behind what they have
last_through : {New Old : Type 0} (f : New → Old) (number : Old → ℕ) (mark : ℕ) (rows : List New) → last_moved number mark (map f rows) ≡ last_moved (λ row. number (f row)) mark rows
last_through f number mark [] = refl
last_through f number mark (row ∷ rows) = last_through f number (number (f row)) rows

-- rows rise if what they have does
rise_through : {New Old : Type 0} (f : New → Old) (number : Old → ℕ) (low high : ℕ) (rows : List New) → IsRising number low (map f rows) high → IsRising (λ row. number (f row)) low rows high
rise_through f number low high [] up = up
rise_through f number low high (row ∷ rows) up = (up.0, rise_through f number (number (f row) + 1) high rows up.1)

pub found_numbers : (book : List Entry) → map (λ (row : Deferral3Row). row.deferral.seq) (found_rows book) ≡ map (λ (row : DeferralRow). row.seq) (deferral_rows book)
found_numbers book = sym (map-map (λ (row : DeferralRow). row.seq) deferral_in (found_rows book)) ∙ ap (map (λ (row : DeferralRow). row.seq)) (found_of_deferrals book)

-- those that come next are those that go
pub found_brought : (book : List Entry) (mark : ℕ) → BringsFound book mark
found_brought book mark =
    let beyond = above (λ (row : DeferralRow). row.seq) mark in
    sym (take_map deferral_in 64 (filter (λ row. beyond (deferral_in row)) (found_rows book)))
    ∙ ap (take 64) (sym (filter_through deferral_in beyond (found_rows book)) ∙ ap (filter beyond) (found_of_deferrals book))

pub deferrals_moved : (book : List Entry) (mark : ℕ) → IsBook book → MovesDeferrals book mark
deferrals_moved book mark b =
    let old = λ (row : DeferralRow). row.seq in
    let new = λ (row : Deferral3Row). row.deferral.seq in
    let high = length book + 1 in
    let rise = deferral_rows-rising book b.shaped in
    let up : IsRising new 1 (found_rows book) high = rise_through deferral_in old 1 high (found_rows book) (subst (λ rows. IsRising old 1 rows high) (sym (found_of_deferrals book)) rise) in
    let to : last_moved new mark (found_next book mark) ≡ deferrals_mark book mark = sym (last_through deferral_in old mark (found_next book mark)) ∙ ap (last_moved old mark) (found_brought book mark) in
    record {
      brought = subst (λ m. rows_at deferrals_3 (moving_from 2 1 m) book ≡ rows_at deferrals_3 (moving_from 2 1 mark) book ++ found_next book mark) to (batch_moved new mark high (found_rows book) up).0;
      taken = (batch_moved old mark high (deferral_rows book) rise).1;
    }
