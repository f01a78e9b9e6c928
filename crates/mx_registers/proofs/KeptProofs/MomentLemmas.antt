-- Lives by moments: what a component is credited with is what its aircraft flew between the moments of its spans.
use Rattle.std.proofs.Common.{arith, refl, sym, subst, ap, ◌∙◌, ◌≡◌, ℕ, ◌+◌, ◌-◌, ◌≤◌, ◌<◌, List, [], ◌∷◌, Bool, true, false, cond, not, ◌&&◌, ◌||◌, Option, Some, None}
use Rattle.std.specs.Prelude.{filter, nat_le}
use Rattle.std.specs.List.{AllByRecursion, list_any}
use Rattle.std.specs.Option.{option_map, option_map_or}
use Rattle.std.proofs.lemmas.Bool.Decides.{nat_tests}
use Rattle.mx_base.specs.declared.amounts.Use.{Use}
use Rattle.mx_book.specs.commands.Act.{Entry, sector_of}
use Rattle.mx_book.specs.commands.Same.{same_text}
use Rattle.mx_book.specs.declared.commands.item.Item.{Item}
use Rattle.mx_book.specs.declared.commands.item.Item.TheVariants.{Airframe, Component}
use Rattle.mx_book.specs.declared.commands.sector.Sector.{Sector}
use Rattle.mx_book.specs.Book.{IsBook}
use Rattle.mx_book.specs.Life.{clock, credited, cycles_of, has_landed_by, is_within, life_until, minutes_flown, minutes_of, opening_of, use_after}
use Rattle.mx_book.specs.Register.{register}
use Rattle.mx_book.specs.Span.{Span, spans, spans_of}
use Rattle.mx_book.proofs.CommandsProofs.SameLemmas.{text_same}
use Rattle.mx_book.specs.Late.{is_during}
use Rattle.mx_registers.specs.kept.Moments.{IsUncut, flown_by, flown_in_all, landed_by, life_by_moments, sooner, use_more}
use Rattle.mx_registers.proofs.KeptProofs.CreditLemmas.{IsFlownBy, sectors_flown}
use Rattle.mx_registers.proofs.KeptProofs.SpanGrowth.{same_sym}
use Rattle.mx_registers.proofs.KeptProofs.UncutLemmas.{all_uncut}
use Rattle.mx_registers.proofs.KeptProofs.Weighing.{either_weighed, filter_twice, less_weighed, rest_weighed, same_filter, weigh}
use Rattle.mx_registers.proofs.KeptProofs.DoneLemmas.{both}
use Rattle.mx_registers.proofs.LateProofs.SpansApart.{AreApart, IsBefore, none_within, spans_apart}

pub minutes_weighed : (xs : List Sector) → minutes_of xs ≡ weigh minutes_flown xs
minutes_weighed [] = refl
minutes_weighed (s ∷ xs) = ap (λ n. minutes_flown s + n) (minutes_weighed xs)

pub cycles_weighed : (xs : List Sector) → cycles_of xs ≡ weigh (λ s. s.cycles) xs
cycles_weighed [] = refl
cycles_weighed (s ∷ xs) = ap (λ n. s.cycles + n) (cycles_weighed xs)

-- ── one span ──

-- a sector that is not under way at the beginning of a span took off from then on exactly where it had not landed by then
took_off : (s : Sector) (from : ℕ) → s.off < s.on → is_during s from ≡ false → nat_le from s.off ≡ not (nat_le s.on from)
took_off s from lands h = grind (arith, nat_tests)

-- by the end of a span and by a moment is by the sooner of both
by_both : (until to : Option ℕ) (s : Sector) → option_map_or (λ m. nat_le s.on m) to true && has_landed_by until s ≡ has_landed_by (sooner until to) s
by_both None None s = refl
by_both None (Some m) s = at (nat_le s.on m)
  where
    at : (c : Bool) → c && true ≡ c
    at true = refl
    at false = refl
by_both (Some n) None s = refl
by_both (Some n) (Some m) s = grind (arith, nat_tests)

and_three : (p q r : Bool) → (p && q) && r ≡ (q && r) && p
and_three true q r = at (q && r)
  where
    at : (c : Bool) → c ≡ c && true
    at true = refl
    at false = refl
and_three false q r = at (q && r)
  where
    at : (c : Bool) → false ≡ c && false
    at true = refl
    at false = refl

module _ (until : Option ℕ) (y : Span) where
  -- it had landed by the end of the span and by the moment
  abbrev later : Sector → Bool
  later s = same_text y.tail s.tail && has_landed_by (sooner until y.to) s

  -- it had landed by the beginning of the span
  abbrev earlier : Sector → Bool
  earlier s = same_text y.tail s.tail && has_landed_by (Some y.from) s

  abbrev inside : Sector → Bool
  inside s = is_within s y && has_landed_by until s

  between : (s : Sector) → s.off < s.on → IsUncut s y → inside s ≡ later s && not (earlier s)
  between s lands uncut = at (same_text y.tail s.tail) refl
    where
      of_it : same_text y.tail s.tail ≡ true → (nat_le y.from s.off && option_map_or (λ to. nat_le s.on to) y.to true) && has_landed_by until s ≡ has_landed_by (sooner until y.to) s && not (nat_le s.on y.from)
      of_it same =
          and_three (nat_le y.from s.off) (option_map_or (λ to. nat_le s.on to) y.to true) (has_landed_by until s)
          ∙ ap (λ c. c && nat_le y.from s.off) (by_both until y.to s)
          ∙ ap (λ c. has_landed_by (sooner until y.to) s && c) (took_off s y.from lands (uncut same).0)

      at : (c : Bool) → same_text y.tail s.tail ≡ c
          → (c && (nat_le y.from s.off && option_map_or (λ to. nat_le s.on to) y.to true)) && has_landed_by until s ≡ (c && has_landed_by (sooner until y.to) s) && not (c && nat_le s.on y.from)
      at true e = of_it e
      at false e = refl

  -- one of both tests is passed only where the other is
  by_then : (t : ℕ) (s : Sector) → y.from ≤ t → nat_le s.on y.from ≡ true → nat_le s.on t ≡ true
  by_then t s h e = grind (arith, nat_tests)

  before_then : (t : ℕ) (s : Sector) → t < y.from → nat_le s.on t ≡ true → nat_le s.on y.from ≡ true
  before_then t s h e = grind (arith, nat_tests)

  weaker : (c p q : Bool) → (p ≡ true → q ≡ true) → c && p ≡ true → c && q ≡ true
  weaker true p q h e = h e
  weaker false p q h e = (cc)

  for_all : (P : Sector → Type 0) → ((s : Sector) → P s) → (xs : List Sector) → AllByRecursion P xs
  for_all P each [] = tt
  for_all P each (s ∷ xs) = (each s, for_all P each xs)

  none_of : (p q : Bool) → (p ≡ true → q ≡ true) → p && not q ≡ false
  none_of true true h = refl
  none_of true false h = let no : false ≡ true = h refl in (cc)
  none_of false q h = refl

  nothing : (of : Sector → ℕ) (test : Sector → Bool) (xs : List Sector) → AllByRecursion (λ s. test s ≡ false) xs → weigh of (filter test xs) ≡ 0
  nothing of test [] h = refl
  nothing of test (s ∷ xs) h = ap (λ c. weigh of (cond c (s ∷ filter test xs) (filter test xs))) h.0 ∙ nothing of test xs h.1

  -- what lies between is the difference, also where the span begins behind the moment
  difference : (of : Sector → ℕ) (xs : List Sector) → weigh of (filter (λ s. later s && not (earlier s)) xs) ≡ weigh of (filter later xs) - weigh of (filter earlier xs)
  difference of xs = at (sooner until y.to) refl
    where
      begun : (o : Option ℕ) → sooner until y.to ≡ o → ((s : Sector) → nat_le s.on y.from ≡ true → has_landed_by o s ≡ true) → weigh of (filter (λ s. later s && not (earlier s)) xs) ≡ weigh of (filter later xs) - weigh of (filter earlier xs)
      begun o e h =
          rest_weighed of later earlier xs
          (for_all (λ s. earlier s ≡ true → later s ≡ true) (λ s. weaker (same_text y.tail s.tail) (nat_le s.on y.from) (has_landed_by (sooner until y.to) s) (λ early. ap (λ (x : Option ℕ). has_landed_by x s) e ∙ h s early)) xs)

      unbegun : (t : ℕ) → sooner until y.to ≡ Some t → t < y.from → weigh of (filter (λ s. later s && not (earlier s)) xs) ≡ weigh of (filter later xs) - weigh of (filter earlier xs)
      unbegun t e h =
          let passes : (s : Sector) → later s ≡ true → earlier s ≡ true =
          λ s. weaker (same_text y.tail s.tail) (has_landed_by (sooner until y.to) s) (nat_le s.on y.from) (λ late. before_then t s h (ap (λ (x : Option ℕ). has_landed_by x s) (sym e) ∙ late)) in
          let less = less_weighed of later earlier xs (for_all (λ s. later s ≡ true → earlier s ≡ true) passes xs) in
          let none = nothing of (λ s. later s && not (earlier s)) xs (for_all (λ s. later s && not (earlier s) ≡ false) (λ s. none_of (later s) (earlier s) (passes s)) xs) in
          omega arith

      sided : (t : ℕ) → sooner until y.to ≡ Some t → (b : Bool) → nat_le y.from t ≡ b → weigh of (filter (λ s. later s && not (earlier s)) xs) ≡ weigh of (filter later xs) - weigh of (filter earlier xs)
      sided t e true f = begun (Some t) e (λ s early. by_then t s (grind (arith, nat_tests)) early)
      sided t e false f = unbegun t e (grind (arith, nat_tests))

      at : (o : Option ℕ) → sooner until y.to ≡ o → weigh of (filter (λ s. later s && not (earlier s)) xs) ≡ weigh of (filter later xs) - weigh of (filter earlier xs)
      at None e = begun None e (λ s early. refl)
      at (Some t) e = sided t e (nat_le y.from t) refl

-- ── the spans of a component ──

-- the sector lands after it takes off, and none of the spans cuts it
abbrev IsClear : List Span → Sector → Type 0
IsClear zs s = (s.off < s.on) × AllByRecursion (IsUncut s) zs

module _ (until : Option ℕ) (serial : List ℕ) (xs : List Sector) where
  abbrev mine : List Span → List Span
  mine zs = filter (λ (z : Span). same_text z.serial serial) zs

  abbrev any_of : List Span → Sector → Bool
  any_of zs s = list_any (is_within s) (mine zs)

  abbrev added : (Sector → ℕ) → List Span → ℕ
  added of [] = 0
  added of (y ∷ ys) = added of ys + (weigh of (filter (later until y) xs) - weigh of (filter (earlier until y) xs))

  and_or : (a b l : Bool) → (a || b) && l ≡ (a && l) || (b && l)
  and_or true b true = refl
  and_or true true false = refl
  and_or true false false = refl
  and_or false b l = refl

  apart_here : (z : Span) (zs : List Span) (s : Sector) → s.off < s.on → z.serial ≡ serial → AllByRecursion (IsBefore z) zs → is_within s z && has_landed_by until s ≡ true → any_of zs s && has_landed_by until s ≡ false
  apart_here z zs s lands own before h =
      let inside_z = both (same_text z.tail s.tail) (nat_le z.from s.off && option_map_or (λ to. nat_le s.on to) z.to true) (both (is_within s z) (has_landed_by until s) h).0 in
      let none : any_of zs s ≡ false = subst (λ (c : List ℕ). list_any (is_within s) (filter (λ (y : Span). same_text y.serial c) zs) ≡ false) own (none_within s.off s.on s.tail z zs lands inside_z.1 before) in
      ap (λ c. c && has_landed_by until s) none

  some_of : (P Q : Sector → Type 0) → ((s : Sector) → P s → Q s) → (ss : List Sector) → AllByRecursion P ss → AllByRecursion Q ss
  some_of P Q each [] h = tt
  some_of P Q each (s ∷ ss) h = (each s h.0, some_of P Q each ss h.1)

  no_span : (of : Sector → ℕ) (ss : List Sector) → weigh of (filter (has_landed_by until) (filter (λ s. false) ss)) ≡ 0
  no_span of [] = refl
  no_span of (s ∷ ss) = no_span of ss

  summed : (of : Sector → ℕ) (zs : List Span) → AreApart zs → AllByRecursion (IsClear zs) xs → weigh of (filter (has_landed_by until) (filter (any_of zs) xs)) ≡ added of (mine zs)
  summed of [] apart clear = no_span of xs
  summed of (z ∷ zs) apart clear =
      at (same_text z.serial serial) refl (summed of zs apart.1 (some_of (IsClear (z ∷ zs)) (IsClear zs) (λ s h. (h.0, h.1.1)) xs clear))
    where
      own : same_text z.serial serial ≡ true → weigh of (filter (has_landed_by until) (filter (any_of zs) xs)) ≡ added of (mine zs)
          → weigh of (filter (has_landed_by until) (filter (λ s. is_within s z || any_of zs s) xs)) ≡ added of (mine zs) + (weigh of (filter (later until z) xs) - weigh of (filter (earlier until z) xs))
      own e rest =
          let one : weigh of (filter (inside until z) xs) ≡ weigh of (filter (later until z) xs) - weigh of (filter (earlier until z) xs) =
          ap (weigh of) (same_filter (inside until z) (λ s. later until z s && not (earlier until z s)) xs (some_of (IsClear (z ∷ zs)) (λ s. inside until z s ≡ later until z s && not (earlier until z s)) (λ s h. between until z s h.0 h.1.0) xs clear))
          ∙ difference until z of xs in
          let others : weigh of (filter (λ s. any_of zs s && has_landed_by until s) xs) ≡ added of (mine zs) = ap (weigh of) (sym (filter_twice (has_landed_by until) (any_of zs) xs)) ∙ rest in
          let parts : weigh of (filter (has_landed_by until) (filter (λ s. is_within s z || any_of zs s) xs)) ≡ weigh of (filter (inside until z) xs) + weigh of (filter (λ s. any_of zs s && has_landed_by until s) xs) =
          ap (weigh of) (filter_twice (has_landed_by until) (λ s. is_within s z || any_of zs s) xs
          ∙ same_filter (λ s. (is_within s z || any_of zs s) && has_landed_by until s) (λ s. inside until z s || any_of zs s && has_landed_by until s) xs
          (some_of (IsClear (z ∷ zs)) (λ s. (is_within s z || any_of zs s) && has_landed_by until s ≡ inside until z s || any_of zs s && has_landed_by until s) (λ s h. and_or (is_within s z) (any_of zs s) (has_landed_by until s)) xs clear))
          ∙ either_weighed of (inside until z) (λ s. any_of zs s && has_landed_by until s) xs
          (some_of (IsClear (z ∷ zs)) (λ s. inside until z s ≡ true → any_of zs s && has_landed_by until s ≡ false) (λ s h. apart_here z zs s h.0 ((text_same z.serial serial).0 e) apart.0) xs clear) in
          omega arith

      at : (c : Bool) → same_text z.serial serial ≡ c → weigh of (filter (has_landed_by until) (filter (any_of zs) xs)) ≡ added of (mine zs)
          → weigh of (filter (has_landed_by until) (filter (λ s. list_any (is_within s) (cond c (z ∷ mine zs) (mine zs))) xs)) ≡ added of (cond c (z ∷ mine zs) (mine zs))
      at true e rest = own e rest
      at false e rest = rest

-- ── lives ──

lives_same : (xs : List Sector) (more : Use) (o : Option Use) → minutes_of xs ≡ more.minutes → cycles_of xs ≡ more.cycles → option_map (use_after xs) o ≡ option_map (use_more more) o
lives_same xs more None m c = refl
lives_same xs more (Some u) m c = ap (λ n. Some (used (u.minutes + n) (u.cycles + cycles_of xs))) m ∙ ap (λ n. Some (used (u.minutes + more.minutes) (u.cycles + n))) c
  where
    used : ℕ → ℕ → Use
    used minutes cycles = record { minutes = minutes; cycles = cycles }

minutes_in_all : (book : List Entry) (until : Option ℕ) (serial : List ℕ) (ys : List Span) → (flown_in_all book until ys).minutes ≡ added until serial (register sector_of book) minutes_flown ys
minutes_in_all book until serial [] = refl
minutes_in_all book until serial (y ∷ ys) =
    let rest = minutes_in_all book until serial ys in
    let late = minutes_weighed (landed_by book y.tail (sooner until y.to)) in
    let early = minutes_weighed (landed_by book y.tail (Some y.from)) in
    omega arith

cycles_in_all : (book : List Entry) (until : Option ℕ) (serial : List ℕ) (ys : List Span) → (flown_in_all book until ys).cycles ≡ added until serial (register sector_of book) (λ s. s.cycles) ys
cycles_in_all book until serial [] = refl
cycles_in_all book until serial (y ∷ ys) =
    let rest = cycles_in_all book until serial ys in
    let late = cycles_weighed (landed_by book y.tail (sooner until y.to)) in
    let early = cycles_weighed (landed_by book y.tail (Some y.from)) in
    omega arith

all_clear : (book : List Entry) → IsBook book → AllByRecursion (IsClear (spans book)) (register sector_of book)
all_clear book b = joined (register sector_of book) (sectors_flown book b.shaped) (all_uncut book b)
  where
    joined : (xs : List Sector) → AllByRecursion (IsFlownBy (λ t. clock book (Airframe t))) xs → AllByRecursion (λ (s : Sector). AllByRecursion (IsUncut s) (spans book)) xs → AllByRecursion (IsClear (spans book)) xs
    joined [] f u = tt
    joined (s ∷ xs) f u = ((f.0.0, u.0), joined xs f.1 u.1)

same_tails : (tail : List ℕ) (until : Option ℕ) (xs : List Sector) → filter (has_landed_by until) (filter (λ s. same_text s.tail tail) xs) ≡ filter (λ s. same_text tail s.tail && has_landed_by until s) xs
same_tails tail until xs = filter_twice (has_landed_by until) (λ s. same_text s.tail tail) xs ∙ each xs
  where
    each : (xs : List Sector) → filter (λ s. same_text s.tail tail && has_landed_by until s) xs ≡ filter (λ s. same_text tail s.tail && has_landed_by until s) xs
    each [] = refl
    each (s ∷ xs) =
        ap (λ c. cond (c && has_landed_by until s) (s ∷ filter (λ s. same_text s.tail tail && has_landed_by until s) xs) (filter (λ s. same_text s.tail tail && has_landed_by until s) xs)) (same_sym s.tail tail)
        ∙ ap (λ l. cond (same_text tail s.tail && has_landed_by until s) (s ∷ l) l) (each xs)

-- the life of an item up to a moment is its opening and what was flown between the moments of its spans
pub lives_by_moments : (book : List Entry) (item : Item) (until : Option ℕ) → IsBook book → life_until book item until ≡ life_by_moments book item until
lives_by_moments book (Airframe tail) until b =
    lives_same (filter (has_landed_by until) (credited book (Airframe tail))) (flown_by book tail until) (opening_of book (Airframe tail))
    (ap minutes_of (same_tails tail until (register sector_of book))) (ap cycles_of (same_tails tail until (register sector_of book)))
lives_by_moments book (Component serial) until b =
    let xs : List Sector = register sector_of book in
    let apart = spans_apart book b in
    let clear = all_clear book b in
    lives_same (filter (has_landed_by until) (credited book (Component serial))) (flown_in_all book until (spans_of book serial)) (opening_of book (Component serial))
    (minutes_weighed (filter (has_landed_by until) (credited book (Component serial))) ∙ summed until serial xs minutes_flown (spans book) apart clear ∙ sym (minutes_in_all book until serial (spans_of book serial)))
    (cycles_weighed (filter (has_landed_by until) (credited book (Component serial))) ∙ summed until serial xs (λ s. s.cycles) (spans book) apart clear ∙ sym (cycles_in_all book until serial (spans_of book serial)))
