-- No sector is under way when a component is fitted to its aircraft or removed from it.
use Rattle.std.proofs.Common.{arith, refl, sym, subst, ap, ◌∙◌, ◌≡◌, ℕ, ◌≤◌, List, [], ◌∷◌, ◌++◌, Bool, true, false, cond, ◌&&◌, Option, Some, None}
use Rattle.std.specs.Prelude.{IfSome, is_none, map, max, nat_lt}
use Rattle.std.specs.List.{AllByRecursion, cons_option}
use Rattle.std.specs.Option.{option_map, option_map_or}
use Rattle.std.proofs.lemmas.Bool.Decides.{nat_tests}
use Rattle.std.proofs.lemmas.List.Elements.{filter_map-append}
use Rattle.mx_book.specs.commands.Act.{Act, Entry, Flown, Fitted, Removed, sector_of}
use Rattle.mx_book.specs.commands.Same.{same_text}
use Rattle.mx_book.specs.declared.commands.fitting.Removal.{Removal}
use Rattle.mx_book.specs.declared.commands.item.Item.TheVariants.{Airframe, Component}
use Rattle.mx_book.specs.declared.commands.sector.Sector.{Sector}
use Rattle.mx_book.specs.declared.verdict.Verdict.TheVariants.{New}
use Rattle.mx_book.specs.Book.{IsBook}
use Rattle.mx_book.specs.Judge.{clock_where_fitted, judge, too_early}
use Rattle.mx_book.specs.Life.{clock}
use Rattle.mx_book.specs.Register.{register}
use Rattle.mx_book.specs.Span.{Span, fitted, span_begun, spans, tail_fitted}
use Rattle.mx_book.proofs.CommandsProofs.SameLemmas.{text_same}
use Rattle.mx_registers.specs.kept.Changes.{IsTimed, ended_by}
use Rattle.mx_book.specs.Late.{is_during}
use Rattle.mx_registers.specs.kept.Moments.{IsUncut}
use Rattle.mx_registers.proofs.KeptProofs.ClockLemmas.{spans_timed}
use Rattle.mx_registers.proofs.KeptProofs.CreditLemmas.{IsFlownBy, all_of, sectors_flown}
use Rattle.mx_registers.proofs.KeptProofs.Induction.{of_each_book}
use Rattle.mx_registers.proofs.KeptProofs.JudgedLemmas.{new-timely, not_passed}
use Rattle.mx_registers.proofs.KeptProofs.KnownLemmas.{all_append}
use Rattle.mx_registers.proofs.KeptProofs.PlaceLemmas.{open_is_fitted}
use Rattle.mx_registers.proofs.KeptProofs.ReleaseBases.{all_both}
use Rattle.mx_registers.proofs.KeptProofs.SpanGrowth.{spans-more}

all_mapped_by : {X : Type 0} (P : X → Type 0) (f : X → X) → (xs : List X) → AllByRecursion (λ x. P (f x)) xs → AllByRecursion P (map f xs)
all_mapped_by P f [] h = tt
all_mapped_by P f (x ∷ xs) h = (h.0, all_mapped_by P f xs h.1)

-- ── a sector that lies before a moment, or behind it ──

and_no : (p : Bool) → p && false ≡ false
and_no true = refl
and_no false = refl

landed : (s : Sector) (m : ℕ) → s.on ≤ m → is_during s m ≡ false
landed s m h = let no : nat_lt m s.on ≡ false = grind (arith, nat_tests) in ap (λ c. nat_lt s.off m && c) no ∙ and_no (nat_lt s.off m)

not_begun : (s : Sector) (m : ℕ) → m ≤ s.off → is_during s m ≡ false
not_begun s m h = let no : nat_lt s.off m ≡ false = grind (arith, nat_tests) in ap (λ c. c && nat_lt m s.on) no

-- ── behind a new entry ──

-- a removal of what is fitted to the aircraft of a sector comes when that had landed
removed_late : (book : List Entry) (r : Removal) (s : Sector) (tail : List ℕ) → too_early book (Removed r) ≡ None → s.on ≤ clock book (Airframe s.tail) → tail_fitted book r.serial ≡ Some tail → same_text tail s.tail ≡ true → s.on ≤ r.moment
removed_late book r s tail timely flown there same =
    let by = not_passed r.moment (max (clock_where_fitted book r.serial) (clock book (Component r.serial))) timely in
    let where_it_is : clock_where_fitted book r.serial ≡ clock book (Airframe tail) = ap (λ o. option_map_or (λ t. clock book (Airframe t)) o 0) there in
    let on : s.on ≤ clock book (Airframe tail) = subst (λ (t : List ℕ). s.on ≤ clock book (Airframe t)) (sym ((text_same tail s.tail).0 same)) flown in
    omega arith

-- a span that leaves a sector of the book uncut still does
ended_uncut : (book : List Entry) (act : Act) (s : Sector) (x : Span) → too_early book act ≡ None → s.on ≤ clock book (Airframe s.tail) → ((serial : List ℕ) → same_text x.serial serial && is_none x.to ≡ true → fitted book serial ≡ Some x) → IsUncut s x → IsUncut s (ended_by act x)
ended_uncut book (Removed r) s x timely flown only uncut = at (same_text x.serial r.serial) x.to refl refl
  where
    there : is_none x.to && same_text x.serial r.serial ≡ true → tail_fitted book r.serial ≡ Some x.tail
    there h = ap (option_map (λ (y : Span). y.tail)) (only r.serial (swap (is_none x.to) (same_text x.serial r.serial) h))
      where
        swap : (p q : Bool) → p && q ≡ true → q && p ≡ true
        swap true true h = refl
        swap true false h = (cc)
        swap false q h = (cc)

    at : (b : Bool) (o : Option ℕ) → same_text x.serial r.serial ≡ b → x.to ≡ o → IsUncut s (cond {A = Span} (is_none x.to && same_text x.serial r.serial) (record x { to = Some r.moment }) x)
    at b (Some m) e f = subst (λ c. IsUncut s (cond {A = Span} c (record x { to = Some r.moment }) x)) (sym (ap (λ o. is_none o && same_text x.serial r.serial) f)) uncut
    at false None e f = subst (λ c. IsUncut s (cond {A = Span} c (record x { to = Some r.moment }) x)) (sym (ap (λ o. is_none o && same_text x.serial r.serial) f ∙ e)) uncut
    at true None e f =
        let ends : is_none x.to && same_text x.serial r.serial ≡ true = ap (λ o. is_none o && same_text x.serial r.serial) f ∙ e in
        subst (λ c. IsUncut s (cond {A = Span} c (record x { to = Some r.moment }) x)) (sym ends)
        (λ tail. ((uncut tail).0, landed s r.moment (removed_late book r s x.tail timely flown (there ends) tail)))
ended_uncut book act s x timely flown only uncut = uncut

-- so does a span that an entry begins
begun_uncut : (book : List Entry) (act : Act) (s : Sector) → too_early book act ≡ None → s.on ≤ clock book (Airframe s.tail) → AllByRecursion (IsUncut s) (span_begun act [])
begun_uncut book (Fitted f) s timely flown =
    let by = not_passed f.moment (max (clock book (Airframe f.tail)) (clock book (Component f.serial))) timely in
    ((λ tail. (landed s f.moment (let on : s.on ≤ clock book (Airframe f.tail) = subst (λ (t : List ℕ). s.on ≤ clock book (Airframe t)) (sym ((text_same f.tail s.tail).0 tail)) flown in omega arith), tt)), tt)
begun_uncut book _ s timely flown = tt

more_uncut : (book : List Entry) (e : Entry) (s : Sector) → IsBook book → too_early book e.act ≡ None → s.on ≤ clock book (Airframe s.tail) → AllByRecursion (IsUncut s) (spans book) → AllByRecursion (IsUncut s) (spans (book ++ e ∷ []))
more_uncut book e s b timely flown uncut =
    subst (AllByRecursion (IsUncut s)) (sym (spans-more book e))
    (all_append (IsUncut s) (map (ended_by e.act) (spans book)) (span_begun e.act [])
    (all_mapped_by (IsUncut s) (ended_by e.act) (spans book) (each (spans book) (λ serial. open_is_fitted book serial b) uncut)) (begun_uncut book e.act s timely flown))
  where
    each : (xs : List Span) → ((serial : List ℕ) → AllByRecursion (λ (x : Span). same_text x.serial serial && is_none x.to ≡ true → fitted book serial ≡ Some x) xs) → AllByRecursion (IsUncut s) xs → AllByRecursion (λ x. IsUncut s (ended_by e.act x)) xs
    each [] only c = tt
    each (x ∷ xs) only c = (ended_uncut book e.act s x timely flown (λ serial. (only serial).0) c.0, each xs (λ serial. (only serial).1) c.1)

-- ── the sector of a new entry ──

-- a sector that takes off by the clock of its airframe lies behind all spans there
timed_uncut : (book : List Entry) (s : Sector) (x : Span) → clock book (Airframe s.tail) ≤ s.off → IsTimed book x → IsUncut s x
timed_uncut book s x by timed tail =
    let same = (text_same x.tail s.tail).0 tail in
    let own : clock book (Airframe x.tail) ≤ s.off = subst (λ (t : List ℕ). clock book (Airframe t) ≤ s.off) (sym same) by in
    (not_begun s x.from (omega (arith, timed.0)), at x.to timed.1 own)
  where
    at : (o : Option ℕ) → IfSome o (λ m. (m ≤ clock book (Airframe x.tail)) × (m ≤ clock book (Component x.serial))) → clock book (Airframe x.tail) ≤ s.off → IfSome o (λ m. is_during s m ≡ false)
    at None t own = tt
    at (Some m) t own = not_begun s m (omega (arith, t.0))

own_uncut : (book : List Entry) (doc : List ℕ) (act : Act) → judge book (record { doc = doc; act = act }) ≡ New → AllByRecursion (λ (s : Sector). AllByRecursion (IsUncut s) (spans (book ++ record { doc = doc; act = act } ∷ []))) (cons_option (sector_of act) [])
own_uncut book doc (Flown s) new =
    let by = not_passed s.off (clock book (Airframe s.tail)) (new-timely book (record { doc = doc; act = Flown s }) new) in (
      subst (AllByRecursion (IsUncut s)) (sym (spans-more book (record { doc = doc; act = Flown s })))
          (all_append (IsUncut s) (map (ended_by (Flown s)) (spans book)) [] (all_mapped_by (IsUncut s) (ended_by (Flown s)) (spans book) (all_of (IsTimed book) (IsUncut s) (λ x timed. timed_uncut book s x by timed) (spans book) (spans_timed book))) tt),
      tt,
    )
own_uncut book doc _ new = tt

abbrev AreAllUncut : List Entry → Type 0
AreAllUncut book = AllByRecursion (λ (s : Sector). AllByRecursion (IsUncut s) (spans book)) (register sector_of book)

pub all_uncut : (book : List Entry) → IsBook book → AreAllUncut book
all_uncut = of_each_book AreAllUncut (λ book e b shape new before.
    let timely = new-timely book e new in
    subst (AllByRecursion (λ (s : Sector). AllByRecursion (IsUncut s) (spans (book ++ e ∷ [])))) (sym (filter_map-append (λ (x : Entry). sector_of x.act) book (e ∷ [])))
    (all_append (λ (s : Sector). AllByRecursion (IsUncut s) (spans (book ++ e ∷ []))) (register sector_of book) (register sector_of (e ∷ []))
    (all_of (λ (s : Sector). IsFlownBy (λ t. clock book (Airframe t)) s × AllByRecursion (IsUncut s) (spans book)) (λ (s : Sector). AllByRecursion (IsUncut s) (spans (book ++ e ∷ [])))
    (λ s h. more_uncut book e s b timely h.0.1 h.1) (register sector_of book)
    (all_both (IsFlownBy (λ t. clock book (Airframe t))) (λ (s : Sector). AllByRecursion (IsUncut s) (spans book)) (λ (s : Sector). IsFlownBy (λ t. clock book (Airframe t)) s × AllByRecursion (IsUncut s) (spans book)) (λ s f u. (f, u)) (register sector_of book) (sectors_flown book b.shaped) before))
    (own_uncut book e.doc e.act new))) tt
