-- Totals that are looked up one after another, by numbers that rise.
use Rattle.std.proofs.Common.{arith, ◌≡◌, ◌≢◌, ◌≤◌, ◌<◌, ℕ, zero, suc, ◌+◌, ◌-◌, Ok, Bool, true, false, cond, ◌||◌, nat_eq, List, [], ◌∷◌, ◌++◌, All, Some, filter, take, length, get_or, refl, sym, ap, subst, ◌∙◌}
use Rattle.std.specs.List.{list_any, cons_option, AllByRecursion}
use Rattle.std.specs.List.Sorted.{IsPermutation}
use Rattle.std.proofs.lemmas.Bool.Decides.{Decides-eqb, nat_tests}
use Rattle.std.proofs.lemmas.List.Elements.{All-append, All-cons, All-nil, All-from_recursion, recursion_from_All}
use Rattle.std.proofs.lemmas.List.Folds.{list_any-append}
use Rattle.std.proofs.lemmas.List.Sorted.{list_any-IsPermutation}
use Rattle.std.proofs.Math.Seq.{take-suc}
use Rattle.sqlite_keyed.proofs.ListLemmas.{filter_same}
use Rattle.sqlite.specs.State.{State}
use Rattle.mx_book.specs.commands.Act.{Entry}
use Rattle.mx_base.specs.rows.Rising.{IsRising}
use Rattle.mx_base.specs.declared.rows.rows.TotalRow.{TotalRow}
use Rattle.mx_registers.specs.kept.Totals.{is_among, total_in, total_rows}
use Rattle.mx_registers.proofs.KeptProofs.ItemOrder.{total_rows-rising}
use Rattle.mx_lookups.specs.numbers.Reads.{Reads}
use Rattle.mx_lookups.proofs.NumbersProofs.ReadLemmas.{reads_then, told}

abbrev item : TotalRow → ℕ
item row = row.item

-- the total with a number, alone
abbrev one_in : List TotalRow → ℕ → List TotalRow
one_in xs n = cons_option (total_in xs n) []

abbrev of_one : ℕ → TotalRow → Bool
of_one n row = nat_eq row.item n

not_among : (ns : List ℕ) (m n : ℕ) → AllByRecursion (λ k. k < n) ns → n ≤ m → list_any (nat_eq m) ns ≡ false
not_among [] m n below low = refl
not_among (k ∷ ns) m n below low =
    let other : nat_eq m k ≡ false = (let h = below.0 in grind (arith, nat_tests)) in
    ap (λ b. b || list_any (nat_eq m) ns) other ∙ not_among ns m n below.1 low

not_one : (m n : ℕ) → n < m → nat_eq m n ≡ false
not_one m n less = grind (arith, nat_tests)

-- rows above the numbers
above : (ns : List ℕ) (n low high : ℕ) (xs : List TotalRow) → AllByRecursion (λ k. k < n) ns → IsRising item low xs high → n < low → (filter (is_among ns) xs ≡ []) × (filter (of_one n) xs ≡ [])
above ns n low high [] below up less = (refl, refl)
above ns n low high (x ∷ xs) below up less =
    let rest = above ns n (x.item + 1) high xs below up.1 (omega (arith, up.0)) in (
      ap (λ b. cond b (x ∷ filter (is_among ns) xs) (filter (is_among ns) xs)) (not_among ns x.item n below (omega (arith, up.0))) ∙ rest.0,
      ap (λ b. cond b (x ∷ filter (of_one n) xs) (filter (of_one n) xs)) (not_one x.item n (omega (arith, up.0))) ∙ rest.1,
    )

-- one row at most has a number
one_only : (n low high : ℕ) (xs : List TotalRow) → IsRising item low xs high → filter (of_one n) xs ≡ one_in xs n
one_only n low high [] up = refl
one_only n low high (x ∷ xs) up = at (nat_eq x.item n) refl (one_only n (x.item + 1) high xs up.1)
  where
    at : (b : Bool) → nat_eq x.item n ≡ b → filter (of_one n) xs ≡ one_in xs n → cond b (x ∷ filter (of_one n) xs) (filter (of_one n) xs) ≡ cons_option (cond b (Some x) (total_in xs n)) []
    at true e rest = let same : x.item ≡ n = (Decides-eqb x.item n).0 e in ap (λ l. x ∷ l) (above [] n (x.item + 1) high xs tt up.1 (omega (arith, same))).1
    at false e rest = rest

or_true : (a b : Bool) → b ≡ true → a || (b || false) ≡ true
or_true true b h = refl
or_true false true h = refl
or_true false false h = absurd cc

or_false : (a b : Bool) → b ≡ false → a || (b || false) ≡ a
or_false true b h = refl
or_false false true h = absurd cc
or_false false false h = refl

-- one number more, above the others
more : (ns : List ℕ) (n low high : ℕ) (xs : List TotalRow) → AllByRecursion (λ k. k < n) ns → IsRising item low xs high → filter (is_among (ns ++ n ∷ [])) xs ≡ filter (is_among ns) xs ++ filter (of_one n) xs
more ns n low high [] below up = refl
more ns n low high (x ∷ xs) below up = at (nat_eq x.item n) refl (more ns n (x.item + 1) high xs below up.1)
  where
    both : is_among (ns ++ n ∷ []) x ≡ is_among ns x || (of_one n x || false)
    both = list_any-append (nat_eq x.item) ns (n ∷ [])

    at : (b : Bool) → nat_eq x.item n ≡ b → filter (is_among (ns ++ n ∷ [])) xs ≡ filter (is_among ns) xs ++ filter (of_one n) xs → filter (is_among (ns ++ n ∷ [])) (x ∷ xs) ≡ filter (is_among ns) (x ∷ xs) ++ filter (of_one n) (x ∷ xs)
    at true e rest =
        let same : x.item ≡ n = (Decides-eqb x.item n).0 e in
        let none = above ns n (x.item + 1) high xs below up.1 (omega (arith, same)) in
        let not_there : is_among ns x ≡ false = not_among ns x.item n below (omega (arith, same)) in
        rw (both ∙ or_true (is_among ns x) (of_one n x) e, not_there, e, rest, none.0, none.1) refl
    at false e rest =
        let same : is_among (ns ++ n ∷ []) x ≡ is_among ns x = both ∙ or_false (is_among ns x) (of_one n x) e in
        ap (λ b. cond b (x ∷ filter (is_among (ns ++ n ∷ [])) xs) (filter (is_among (ns ++ n ∷ [])) xs)) same
        ∙ by (is_among ns x) ∙ ap (λ b. cond (is_among ns x) (x ∷ filter (is_among ns) xs) (filter (is_among ns) xs) ++ cond b (x ∷ filter (of_one n) xs) (filter (of_one n) xs)) (sym e)
      where
        by : (c : Bool) → cond c (x ∷ filter (is_among (ns ++ n ∷ [])) xs) (filter (is_among (ns ++ n ∷ [])) xs) ≡ cond c (x ∷ filter (is_among ns) xs) (filter (is_among ns) xs) ++ filter (of_one n) xs
        by true = ap (λ l. x ∷ l) rest
        by false = rest

one_more : (ns : List ℕ) (n low high : ℕ) (xs : List TotalRow) → All (λ k. k < n) ns → IsRising item low xs high → filter (is_among (ns ++ n ∷ [])) xs ≡ filter (is_among ns) xs ++ one_in xs n
one_more ns n low high xs below up = more ns n low high xs (recursion_from_All (λ k. k < n) ns below) up ∙ ap (λ l. filter (is_among ns) xs ++ l) (one_only n low high xs up)

-- a number that is there already
one_again : (ns : List ℕ) (n : ℕ) (xs : List TotalRow) → list_any (λ k. nat_eq n k) ns ≡ true → filter (is_among (ns ++ n ∷ [])) xs ≡ filter (is_among ns) xs
one_again ns n xs there = filter_same (is_among (ns ++ n ∷ [])) (is_among ns) same xs
  where
    same : (x : TotalRow) → is_among (ns ++ n ∷ []) x ≡ is_among ns x
    same x = list_any-append (nat_eq x.item) ns (n ∷ []) ∙ at (nat_eq x.item n) refl
      where
        at : (b : Bool) → nat_eq x.item n ≡ b → is_among ns x || (nat_eq x.item n || false) ≡ is_among ns x
        at true e =
            let here : is_among ns x ≡ true = ap (λ m. list_any (nat_eq m) ns) ((Decides-eqb x.item n).0 e) ∙ there in
            or_true (is_among ns x) (nat_eq x.item n) e ∙ sym here
        at false e = or_false (is_among ns x) (nat_eq x.item n) e

-- ── numbers in order ──

weaker : (m n : ℕ) (xs : List ℕ) → m ≤ n → AllByRecursion (λ k. k ≤ m) xs → AllByRecursion (λ k. k ≤ n) xs
weaker m n [] less h = tt
weaker m n (x ∷ xs) less h = (omega (arith, h.0), weaker m n xs less h.1)

last_on : (m n : ℕ) (xs : List ℕ) → m ≤ n → All (λ k. k ≤ m) xs → All (λ k. k ≤ n) (xs ++ n ∷ [])
last_on m n xs less h =
    All-append (λ k. k ≤ n) xs (n ∷ []) (All-from_recursion (λ k. k ≤ n) xs (weaker m n xs less (recursion_from_All (λ k. k ≤ m) xs h))) (All-cons (λ k. k ≤ n) n [] (omega arith) (All-nil (λ k. k ≤ n)))

up_to : (ns : List ℕ) (d : ℕ) → ((k : ℕ) → k + 1 < length ns → get_or ns k d ≤ get_or ns (k + 1) d) → (i : ℕ) → i < length ns → All (λ k. k ≤ get_or ns i d) (take (suc i) ns)
up_to ns d sorted zero low = subst (All (λ k. k ≤ get_or ns zero d)) (sym (take-suc ns zero d low)) (All-cons (λ k. k ≤ get_or ns zero d) (get_or ns zero d) [] (omega arith) (All-nil (λ k. k ≤ get_or ns zero d)))
up_to ns d sorted (suc i) low =
    let one : suc i ≡ i + 1 = omega arith in
    let less : get_or ns i d ≤ get_or ns (suc i) d = subst (λ j. get_or ns i d ≤ get_or ns j d) (sym one) (sorted i (omega (arith, low))) in
    subst (All (λ k. k ≤ get_or ns (suc i) d)) (sym (take-suc ns (suc i) d low)) (last_on (get_or ns i d) (get_or ns (suc i) d) (take (suc i) ns) less (up_to ns d sorted i (omega (arith, low))))

-- the numbers before one that is another than the last of them are below it
pub below_next : (ns : List ℕ) (d : ℕ) → ((k d : ℕ) → k + 1 < length ns → get_or ns k d ≤ get_or ns (k + 1) d) → (i : ℕ) → 1 ≤ i → i < length ns → get_or ns (i - 1) d ≢ get_or ns i d → All (λ k. k < get_or ns i d) (take i ns)
below_next ns d sorted zero some low other = absurd (omega (arith, some))
below_next ns d sorted (suc j) some low other =
    let one : suc j ≡ j + 1 = omega arith in
    let back : suc j - 1 ≡ j = omega arith in
    let less : get_or ns j d ≤ get_or ns (suc j) d = subst (λ k. get_or ns j d ≤ get_or ns k d) (sym one) (sorted j d (omega (arith, low))) in
    let apart : get_or ns j d ≢ get_or ns (suc j) d = subst (λ k. get_or ns k d ≢ get_or ns (suc j) d) back other in
    let strict : get_or ns j d < get_or ns (suc j) d = omega (arith, less, apart) in
    All-from_recursion (λ k. k < get_or ns (suc j) d) (take (suc j) ns) (lower (get_or ns j d) (get_or ns (suc j) d) (take (suc j) ns) strict (recursion_from_All (λ k. k ≤ get_or ns j d) (take (suc j) ns) (up_to ns d (λ k high. sorted k d high) j (omega (arith, low)))))
  where
    lower : (m n : ℕ) (xs : List ℕ) → m < n → AllByRecursion (λ k. k ≤ m) xs → AllByRecursion (λ k. k < n) xs
    lower m n [] less h = tt
    lower m n (x ∷ xs) less h = (omega (arith, h.0, less), lower m n xs less h.1)

same_as : (m n : ℕ) → m ≡ n → nat_eq n m ≡ true
same_as m n e = (Decides-eqb n m).1 (sym e)

-- one that is the last of them is there
pub there_already : (ns : List ℕ) (d : ℕ) (i : ℕ) → 1 ≤ i → i < length ns → get_or ns (i - 1) d ≡ get_or ns i d → list_any (nat_eq (get_or ns i d)) (take i ns) ≡ true
there_already ns d zero some low same = absurd (omega (arith, some))
there_already ns d (suc j) some low same =
    let back : suc j - 1 ≡ j = omega arith in
    let equal : get_or ns j d ≡ get_or ns (suc j) d = subst (λ k. get_or ns k d ≡ get_or ns (suc j) d) back same in
    subst (λ xs. list_any (nat_eq (get_or ns (suc j) d)) xs ≡ true) (sym (take-suc ns j d (omega (arith, low))))
    (list_any-append (nat_eq (get_or ns (suc j) d)) (take j ns) (get_or ns j d ∷ []) ∙ or_true (list_any (nat_eq (get_or ns (suc j) d)) (take j ns)) (nat_eq (get_or ns (suc j) d) (get_or ns j d)) (same_as (get_or ns j d) (get_or ns (suc j) d) equal))

-- ── of a book ──

abbrev pub among : List ℕ → List Entry → List TotalRow
among ns book = filter (is_among ns) (total_rows book)

totals_more : (book : List Entry) (ns : List ℕ) (n : ℕ) → All (λ k. k < n) ns → among (ns ++ n ∷ []) book ≡ among ns book ++ one_in (total_rows book) n
totals_more book ns n below = one_more ns n 1 _ (total_rows book) below (total_rows-rising book)

-- the first number
pub first_read : (ns : List ℕ) (n : ℕ) (was now : List TotalRow) (old new : State) {U : Type 0} (u : U) → was ≡ [] → n ∷ [] ≡ ns → Reads {V = U} (λ book done. now ≡ was ++ one_in (total_rows book) n) old new (Ok u) → Reads {V = ℕ} (λ book done. now ≡ among ns book) old new (Ok 0)
first_read ns n was now old new u none is one =
    told _ _ old new u 0 (λ book b this. this ∙ ap (λ l. l ++ one_in (total_rows book) n) none ∙ sym (totals_more book [] n (All-nil (λ k. k < n)) ∙ ap (λ l. l ++ one_in (total_rows book) n) (none_among (total_rows book))) ∙ ap (λ xs. among xs book) is) one
  where
    none_among : (xs : List TotalRow) → filter (is_among []) xs ≡ []
    none_among [] = refl
    none_among (x ∷ xs) = none_among xs

-- one look-up more
pub one_read : (ns more : List ℕ) (n : ℕ) (was now : List TotalRow) (first mid new : State) {U : Type 0} (u : U) → ns ++ n ∷ [] ≡ more → All (λ k. k < n) ns
    → Reads {V = ℕ} (λ book done. was ≡ among ns book) first mid (Ok 0) → Reads {V = U} (λ book done. now ≡ was ++ one_in (total_rows book) n) mid new (Ok u)
    → Reads {V = ℕ} (λ book done. now ≡ among more book) first new (Ok 0)
one_read ns more n was now first mid new u is below one two =
    told _ _ first new u 0 (λ book b both. both.1 ∙ ap (λ xs. xs ++ one_in (total_rows book) n) both.0 ∙ sym (totals_more book ns n below) ∙ ap (λ xs. among xs book) is)
    (reads_then _ _ first mid new 0 (Ok u) one two)

-- none more is needed
pub none_read : (ns more : List ℕ) (n : ℕ) (was : List TotalRow) (first mid : State) → ns ++ n ∷ [] ≡ more → list_any (nat_eq n) ns ≡ true
    → Reads {V = ℕ} (λ book done. was ≡ among ns book) first mid (Ok 0) → Reads {V = ℕ} (λ book done. was ≡ among more book) first mid (Ok 0)
none_read ns more n was first mid is there one =
    told _ _ first mid 0 0 (λ book b so. so ∙ sym (one_again ns n (total_rows book) there) ∙ ap (λ xs. among xs book) is) one

-- in another order the numbers are the same
pub in_another_order : (book : List Entry) (numbers sorted : List ℕ) → IsPermutation numbers sorted → among sorted book ≡ among numbers book
in_another_order book numbers sorted same = filter_same (is_among sorted) (is_among numbers) (λ r. sym (list_any-IsPermutation (nat_eq r.item) numbers sorted same)) (total_rows book)
