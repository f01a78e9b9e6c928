-- To which components a sector is credited that no movement of its aircraft cuts: those that were fitted to it before the movements behind its take-off.
use Rattle.std.proofs.Common.{arith, refl, sym, subst, ap, ◌∙◌, ◌≡◌, ℕ, ◌≤◌, ◌<◌, List, [], ◌∷◌, ◌++◌, Bool, true, false, cond, ◌&&◌, ◌||◌, Option, Some, None}
use Rattle.std.specs.Prelude.{filter, is_none, map, nat_le, nat_lt, not}
use Rattle.std.specs.List.{list_any, AllByRecursion}
use Rattle.std.specs.Option.{option_map, option_map_or}
use Rattle.std.proofs.lemmas.Bool.Decides.{nat_tests}
use Rattle.std.proofs.lemmas.List.Elements.{filter-append}
use Rattle.std.proofs.lemmas.List.Folds.{list_any-append}
use Rattle.mx_book.specs.commands.Act.{Act, Entry, Fitted, Removed}
use Rattle.mx_book.specs.commands.Same.{same_text}
use Rattle.mx_book.specs.commands.Shape.{has_shape}
use Rattle.mx_book.specs.declared.commands.fitting.Fitting.{Fitting}
use Rattle.mx_book.specs.declared.commands.fitting.Removal.{Removal}
use Rattle.mx_book.specs.declared.commands.item.Item.TheVariants.{Airframe, Component}
use Rattle.mx_book.specs.declared.commands.sector.Sector.{Sector}
use Rattle.mx_book.proofs.CommandsProofs.SameLemmas.{text_same}
use Rattle.mx_book.specs.declared.verdict.Verdict.TheVariants.{New}
use Rattle.mx_book.specs.Book.{IsBook}
use Rattle.mx_book.specs.Judge.{judge}
use Rattle.mx_book.specs.Life.{clock, is_credited, is_within}
use Rattle.mx_book.specs.Span.{Span, fitted, span_begun, spans, tail_fitted, is_fitted_to}
use Rattle.mx_book.proofs.JudgeLemmas.{IsBook-entered}
use Rattle.mx_book.proofs.PassLemmas.{new-fitting}
use Rattle.mx_book.proofs.SpanLemmas.{removed_nowhere}
use Rattle.mx_registers.specs.kept.Changes.{ended_by}
use Rattle.mx_book.specs.Late.{is_during}
use Rattle.mx_registers.proofs.KeptProofs.CreditLemmas.{all_of, credited_there, serial_kept}
use Rattle.mx_registers.proofs.KeptProofs.Induction.{of_each_book}
use Rattle.mx_registers.proofs.KeptProofs.JudgedLemmas.{new-timely}
use Rattle.mx_registers.proofs.KeptProofs.PlaceLemmas.{fitted_kept, moves, open_is_fitted}
use Rattle.mx_registers.proofs.KeptProofs.SpanGrowth.{span_of, spans-more}
use Rattle.mx_indexed_book.specs.maps.Movements.{behind, fitted_before, movement, movements, with_movement}
use Rattle.mx_indexed_book.specs.declared.maps.movements.Movement.{Movement}
use Rattle.mx_indexed_book.proofs.MapsProofs.MovementLemmas.{clock_moved, moved_by_clock, movements-more, not_before}
use Rattle.mx_indexed_book.proofs.MapsProofs.PlaceLemmas.{just_fitted, tail_of_place}
use Rattle.mx_indexed_book.proofs.MapsProofs.RegisterLemmas.{none_of}

-- ── lists ──

-- a change of each that no test sees
any_same : {X : Type 0} (p q : X → Bool) (f : X → X) (xs : List X) → AllByRecursion (λ x. (q (f x) ≡ q x) × (p (f x) ≡ p x)) xs → list_any p (filter q (map f xs)) ≡ list_any p (filter q xs)
any_same p q f [] h = refl
any_same p q f (x ∷ xs) h = ap (λ b. list_any p (cond b (f x ∷ filter q (map f xs)) (filter q (map f xs)))) h.0.0 ∙ at (q x) (any_same p q f xs h.1)
  where
    at : (b : Bool) → list_any p (filter q (map f xs)) ≡ list_any p (filter q xs) → list_any p (cond b (f x ∷ filter q (map f xs)) (filter q (map f xs))) ≡ list_any p (cond b (x ∷ filter q xs) (filter q xs))
    at true rest = ap (λ c. c || list_any p (filter q (map f xs))) h.0.1 ∙ ap (λ c. p x || c) rest
    at false rest = rest

and_no : (p : Bool) → p && false ≡ false
and_no true = refl
and_no false = refl

or_no : (p : Bool) → p || false ≡ p
or_no true = refl
or_no false = refl

-- ── where a component was before a movement ──

-- whether a component was at an aircraft before a movement, if any, where it is now or is not
abbrev was : List ℕ → List ℕ → Option (List ℕ × Movement) → Bool → Bool
was tail serial None now = now
was tail serial (Some g) now = cond (same_text g.0 tail && same_text g.1.serial serial) (not g.1.is_fitting) now

module _ (tail serial : List ℕ) (book : List Entry) (doc : List ℕ) where
  abbrev with : Act → List Entry
  with act = book ++ record { doc = doc; act = act } ∷ []

  -- what an entry does not move stays where it is
  still : (act : Act) → moves act serial ≡ false → is_fitted_to book tail serial ≡ is_fitted_to (with act) tail serial
  still act m = ap (λ (o : Option Span). option_map_or (λ t. same_text t tail) (option_map (λ (s : Span). s.tail) o) false) (sym (fitted_kept serial book (record { doc = doc; act = act }) m))

  abbrev there : Option (List ℕ) → Bool
  there o = option_map_or (λ t. same_text t tail) o false

  by_fitting : (f : Fitting) → judge book (record { doc = doc; act = Fitted f }) ≡ New → (b : Bool) → same_text f.serial serial ≡ b → is_fitted_to book tail serial ≡ cond (same_text f.tail tail && b) false (is_fitted_to (with (Fitted f)) tail serial)
  by_fitting f new false e = still (Fitted f) e ∙ ap (λ c. cond c false (is_fitted_to (with (Fitted f)) tail serial)) (sym (and_no (same_text f.tail tail)))
  by_fitting f new true e =
      let same = (text_same f.serial serial).0 e in
      let before : fitted book f.serial ≡ None = none_of (fitted book f.serial) (new-fitting book (record { doc = doc; act = Fitted f }) f new refl).1 in
      let nowhere : is_fitted_to book tail serial ≡ false = ap (is_fitted_to book tail) (sym same) ∙ ap (λ (o : Option Span). there (option_map (λ (s : Span). s.tail) o)) before in
      let here : is_fitted_to (with (Fitted f)) tail serial ≡ same_text f.tail tail = ap (is_fitted_to (with (Fitted f)) tail) (sym same) ∙ ap there (tail_of_place (with (Fitted f)) f.serial ∙ ap (option_map (λ (p : List ℕ × List ℕ). p.0)) (just_fitted book doc f new)) in
      nowhere ∙ at (same_text f.tail tail) ∙ ap (λ c. cond (same_text f.tail tail && true) false c) (sym here)
    where
      at : (c : Bool) → false ≡ cond (c && true) false c
      at true = refl
      at false = refl

  by_removal : (r : Removal) (o : Option (List ℕ)) → tail_fitted book r.serial ≡ o → (b : Bool) → same_text r.serial serial ≡ b
      → is_fitted_to book tail serial ≡ was tail serial (option_map (λ t. (t, record { serial = r.serial; moment = r.moment; is_fitting = false })) o) (is_fitted_to (with (Removed r)) tail serial)
  by_removal r None is false e = still (Removed r) e
  by_removal r (Some t) is false e = still (Removed r) e ∙ ap (λ c. cond c true (is_fitted_to (with (Removed r)) tail serial)) (sym (ap (λ c. same_text t tail && c) e ∙ and_no (same_text t tail)))
  by_removal r o is true e = before ∙ at o
    where
      same : r.serial ≡ serial
      same = (text_same r.serial serial).0 e

      before : is_fitted_to book tail serial ≡ there o
      before = ap (is_fitted_to book tail) (sym same) ∙ ap there is

      gone : is_fitted_to (with (Removed r)) tail serial ≡ false
      gone = ap (is_fitted_to (with (Removed r)) tail) (sym same) ∙ ap (λ (x : Option Span). there (option_map (λ (s : Span). s.tail) x)) (removed_nowhere book doc r)

      decided : (c : Bool) → c ≡ cond (c && true) true false
      decided true = refl
      decided false = refl

      at : (x : Option (List ℕ)) → there x ≡ was tail serial (option_map (λ t. (t, record { serial = r.serial; moment = r.moment; is_fitting = false })) x) (is_fitted_to (with (Removed r)) tail serial)
      at None = sym gone
      at (Some t) =
          decided (same_text t tail)
          ∙ ap (λ c. cond (same_text t tail && c) true false) (sym e)
          ∙ ap (λ c. cond (same_text t tail && same_text r.serial serial) true c) (sym gone)

  was_there : (act : Act) → judge book (record { doc = doc; act = act }) ≡ New → is_fitted_to book tail serial ≡ was tail serial (movement book act) (is_fitted_to (with act) tail serial)
  was_there (Fitted f) new = by_fitting f new (same_text f.serial serial) refl
  was_there (Removed r) new = by_removal r (tail_fitted book r.serial) refl (same_text r.serial serial) refl
  was_there act new = still act refl

-- no movement of its aircraft came while the sector was under way
abbrev pub IsNotCut : Sector → List Entry → Type 0
IsNotCut s book = AllByRecursion (λ (m : Movement). is_during s m.moment ≡ false) (movements book s.tail)

-- ── a sector that had landed by a movement ──

module _ (s : Sector) (lands : s.off < s.on) (serial : List ℕ) where
  -- each movement of the aircraft of the sector came when it had landed
  abbrev IsLandedBy : Option (List ℕ × Movement) → Type 0
  IsLandedBy o = (g : List ℕ × Movement) → o ≡ Some g → same_text g.0 s.tail ≡ true → s.on ≤ g.1.moment

  not_within : (f : Fitting) → (same_text f.tail s.tail ≡ true → s.on ≤ f.moment) → is_within s (span_of f []) ≡ false
  not_within f landed = at (same_text f.tail s.tail) refl
    where
      at : (b : Bool) → same_text f.tail s.tail ≡ b → b && (nat_le f.moment s.off && true) ≡ false
      at true e = let by = landed e in let no : nat_le f.moment s.off ≡ false = grind (arith, nat_tests) in ap (λ c. c && true) no
      at false e = refl

  -- the span that the entry begins has no part in it
  none_begun : (book : List Entry) (act : Act) → IsLandedBy (movement book act) → list_any (is_within s) (filter (λ (x : Span). same_text x.serial serial) (span_begun act [])) ≡ false
  none_begun book (Fitted f) landed = at (same_text f.serial serial)
    where
      at : (b : Bool) → list_any (is_within s) (cond b (span_of f [] ∷ []) []) ≡ false
      at true = ap (λ b. b || false) (not_within f (λ same. landed (f.tail, record { serial = f.serial; moment = f.moment; is_fitting = true }) refl same))
      at false = refl
  none_begun book _ landed = refl

  -- and a span that it ends had it before
  ended_same : (book : List Entry) (act : Act) (x : Span) → IsLandedBy (movement book act) → ((name : List ℕ) → same_text x.serial name && is_none x.to ≡ true → fitted book name ≡ Some x) → is_within s (ended_by act x) ≡ is_within s x
  ended_same book (Removed r) x landed only = at x.to (same_text x.serial r.serial) refl refl
    where
      by : same_text x.serial r.serial && is_none x.to ≡ true → same_text x.tail s.tail ≡ true → s.on ≤ r.moment
      by is same = landed (x.tail, record { serial = r.serial; moment = r.moment; is_fitting = false })
          (ap (λ (o : Option Span). option_map (λ t. (t, record { serial = r.serial; moment = r.moment; is_fitting = false })) (option_map (λ (y : Span). y.tail) o)) (only r.serial is)) same

      closed : (b : Bool) → same_text x.tail s.tail ≡ b → same_text x.serial r.serial && is_none x.to ≡ true → b && (nat_le x.from s.off && nat_le s.on r.moment) ≡ b && (nat_le x.from s.off && true)
      closed true e is = let landed = by is e in let yes : nat_le s.on r.moment ≡ true = grind (arith, nat_tests) in ap (λ c. nat_le x.from s.off && c) yes
      closed false e is = refl

      at : (o : Option ℕ) (b : Bool) → x.to ≡ o → same_text x.serial r.serial ≡ b → is_within s (cond {A = Span} (is_none x.to && same_text x.serial r.serial) (record x { to = Some r.moment }) x) ≡ is_within s x
      at None true e f =
          ap (λ b. is_within s (cond {A = Span} b (record x { to = Some r.moment }) x)) (ap (λ o. is_none o && same_text x.serial r.serial) e ∙ f)
          ∙ closed (same_text x.tail s.tail) refl (ap (λ b. b && is_none x.to) f ∙ ap is_none e)
          ∙ ap (λ o. same_text x.tail s.tail && (nat_le x.from s.off && option_map_or (λ to. nat_le s.on to) o true)) (sym e)
      at None false e f = ap (λ b. is_within s (cond {A = Span} b (record x { to = Some r.moment }) x)) (ap (λ o. is_none o && same_text x.serial r.serial) e ∙ f)
      at (Some m) b e f = ap (λ b. is_within s (cond {A = Span} b (record x { to = Some r.moment }) x)) (ap (λ o. is_none o && same_text x.serial r.serial) e)
  ended_same book _ x landed only = refl

  all_ended : (book : List Entry) (act : Act) → IsLandedBy (movement book act) → (xs : List Span) → ((name : List ℕ) → AllByRecursion (λ (x : Span). same_text x.serial name && is_none x.to ≡ true → fitted book name ≡ Some x) xs)
      → AllByRecursion (λ (x : Span). (same_text (ended_by act x).serial serial ≡ same_text x.serial serial) × (is_within s (ended_by act x) ≡ is_within s x)) xs
  all_ended book act landed [] only = tt
  all_ended book act landed (x ∷ xs) only =
      ((ap (λ (t : List ℕ). same_text t serial) (serial_kept act x), ended_same book act x landed (λ name. (only name).0)), all_ended book act landed xs (λ name. (only name).1))

  -- so it is credited to whom it was
  credit_kept : (book : List Entry) (e : Entry) → IsBook book → IsLandedBy (movement book e.act) → is_credited (book ++ e ∷ []) (Component serial) s ≡ is_credited book (Component serial) s
  credit_kept book e b landed =
      let of_it : Span → Bool = λ x. same_text x.serial serial in
      ap (λ l. list_any (is_within s) (filter of_it l)) (spans-more book e)
      ∙ ap (list_any (is_within s)) (filter-append of_it (map (ended_by e.act) (spans book)) (span_begun e.act []))
      ∙ list_any-append (is_within s) (filter of_it (map (ended_by e.act) (spans book))) (filter of_it (span_begun e.act []))
      ∙ ap (λ c. list_any (is_within s) (filter of_it (map (ended_by e.act) (spans book))) || c) (none_begun book e.act landed)
      ∙ or_no (list_any (is_within s) (filter of_it (map (ended_by e.act) (spans book))))
      ∙ any_same (is_within s) of_it (ended_by e.act) (spans book) (all_ended book e.act landed (spans book) (λ name. open_is_fitted book name b))

  -- ── each sector that is not cut ──

  abbrev before_movements : List Entry → Bool
  before_movements book = fitted_before serial (is_fitted_to book s.tail serial) (behind s.off (movements book s.tail))

  -- a movement that came behind its take-off came when it had landed
  landed : (m : Movement) → nat_lt s.off m.moment ≡ true → is_during s m.moment ≡ false → s.on ≤ m.moment
  landed m late cut = let no : nat_lt m.moment s.on ≡ false = ap (λ c. c && nat_lt m.moment s.on) (sym late) ∙ cut in grind (arith, nat_tests)

  step : (book : List Entry) (e : Entry) → IsBook book → has_shape e ≡ true → judge book e ≡ New → (IsNotCut s book → is_credited book (Component serial) s ≡ before_movements book) → IsNotCut s (book ++ e ∷ [])
      → is_credited (book ++ e ∷ []) (Component serial) s ≡ before_movements (book ++ e ∷ [])
  step book e b shape new law uncut = at (movement book e.act) refl
    where
      then : is_fitted_to book s.tail serial ≡ was s.tail serial (movement book e.act) (is_fitted_to (book ++ e ∷ []) s.tail serial)
      then = was_there s.tail serial book e.doc e.act new

      cut_by : AllByRecursion (λ (m : Movement). is_during s m.moment ≡ false) (with_movement s.tail (movement book e.act) (movements book s.tail))
      cut_by = subst (AllByRecursion (λ (m : Movement). is_during s m.moment ≡ false)) (movements-more book e s.tail) uncut

      -- the entry moves nothing there
      elsewhere : IsLandedBy (movement book e.act) → IsNotCut s book → is_fitted_to book s.tail serial ≡ is_fitted_to (book ++ e ∷ []) s.tail serial → with_movement s.tail (movement book e.act) (movements book s.tail) ≡ movements book s.tail
          → is_credited (book ++ e ∷ []) (Component serial) s ≡ before_movements (book ++ e ∷ [])
      elsewhere landed cut same none =
          credit_kept book e b landed ∙ law cut
          ∙ ap (λ c. fitted_before serial c (behind s.off (movements book s.tail))) same
          ∙ ap (λ l. fitted_before serial (is_fitted_to (book ++ e ∷ []) s.tail serial) (behind s.off l)) (sym (movements-more book e s.tail ∙ none))

      -- it moves something when the sector had landed
      behind_it : (g : List ℕ × Movement) → movement book e.act ≡ Some g → same_text g.0 s.tail ≡ true → nat_lt s.off g.1.moment ≡ true → is_during s g.1.moment ≡ false → IsNotCut s book
          → is_credited (book ++ e ∷ []) (Component serial) s ≡ fitted_before serial (is_fitted_to (book ++ e ∷ []) s.tail serial) (behind s.off (g.1 ∷ movements book s.tail))
      behind_it g is same late cut rest =
          credit_kept book e b (λ h found there. let one : g ≡ h = cc in subst (λ (x : List ℕ × Movement). s.on ≤ x.1.moment) one (landed g.1 late cut)) ∙ law rest
          ∙ ap (λ c. fitted_before serial c (behind s.off (movements book s.tail))) (then ∙ ap (λ o. was s.tail serial o (is_fitted_to (book ++ e ∷ []) s.tail serial)) is ∙ ap (λ c. cond (c && same_text g.1.serial serial) (not g.1.is_fitting) (is_fitted_to (book ++ e ∷ []) s.tail serial)) same)
          ∙ ap (λ c. fitted_before serial (is_fitted_to (book ++ e ∷ []) s.tail serial) (cond c (g.1 ∷ behind s.off (movements book s.tail)) [])) (sym late)

      -- it moves something before the sector took off, so that all else came before it
      ahead_of_it : (g : List ℕ × Movement) → movement book e.act ≡ Some g → same_text g.0 s.tail ≡ true → nat_lt s.off g.1.moment ≡ false
          → is_credited (book ++ e ∷ []) (Component serial) s ≡ fitted_before serial (is_fitted_to (book ++ e ∷ []) s.tail serial) (behind s.off (g.1 ∷ movements book s.tail))
      ahead_of_it g is same early =
          let earlier : clock book (Airframe s.tail) ≤ g.1.moment = subst (λ (t : List ℕ). clock book (Airframe t) ≤ g.1.moment) ((text_same g.0 s.tail).0 same) (not_before book e.act g (new-timely book e new) is) in
          let moved = clock_moved book e g s.tail b is same in
          let off : g.1.moment ≤ s.off = grind (arith, nat_tests) in
          credited_there (book ++ e ∷ []) (Component serial) s (IsBook-entered book e b shape new) lands (omega arith)
          ∙ ap (λ c. fitted_before serial (is_fitted_to (book ++ e ∷ []) s.tail serial) (cond c (g.1 ∷ behind s.off (movements book s.tail)) [])) (sym early)

      there : (g : List ℕ × Movement) (c : Bool) → movement book e.act ≡ Some g → same_text g.0 s.tail ≡ true → nat_lt s.off g.1.moment ≡ c → AllByRecursion (λ (m : Movement). is_during s m.moment ≡ false) (g.1 ∷ movements book s.tail)
          → is_credited (book ++ e ∷ []) (Component serial) s ≡ fitted_before serial (is_fitted_to (book ++ e ∷ []) s.tail serial) (behind s.off (g.1 ∷ movements book s.tail))
      there g true is same late cut = behind_it g is same late cut.0 cut.1
      there g false is same early cut = ahead_of_it g is same early

      both : (g : List ℕ × Movement) (c : Bool) → movement book e.act ≡ Some g → same_text g.0 s.tail ≡ c → is_credited (book ++ e ∷ []) (Component serial) s ≡ before_movements (book ++ e ∷ [])
      both g true is same =
          let whole : with_movement s.tail (movement book e.act) (movements book s.tail) ≡ g.1 ∷ movements book s.tail = ap (λ o. with_movement s.tail o (movements book s.tail)) is ∙ ap (λ c. cond c (g.1 ∷ movements book s.tail) (movements book s.tail)) same in
          there g (nat_lt s.off g.1.moment) is same refl (subst (AllByRecursion (λ (m : Movement). is_during s m.moment ≡ false)) whole cut_by)
          ∙ ap (λ l. fitted_before serial (is_fitted_to (book ++ e ∷ []) s.tail serial) (behind s.off l)) (sym (movements-more book e s.tail ∙ whole))
      both g false is other =
          let whole : with_movement s.tail (movement book e.act) (movements book s.tail) ≡ movements book s.tail = ap (λ o. with_movement s.tail o (movements book s.tail)) is ∙ ap (λ c. cond c (g.1 ∷ movements book s.tail) (movements book s.tail)) other in
          elsewhere (λ h found there. let one : g ≡ h = cc in let yes : same_text g.0 s.tail ≡ true = ap (λ (x : List ℕ × Movement). same_text x.0 s.tail) one ∙ there in absurd (cc)) (subst (AllByRecursion (λ (m : Movement). is_during s m.moment ≡ false)) whole cut_by)
          (then ∙ ap (λ o. was s.tail serial o (is_fitted_to (book ++ e ∷ []) s.tail serial)) is ∙ ap (λ c. cond (c && same_text g.1.serial serial) (not g.1.is_fitting) (is_fitted_to (book ++ e ∷ []) s.tail serial)) other) whole

      at : (o : Option (List ℕ × Movement)) → movement book e.act ≡ o → is_credited (book ++ e ∷ []) (Component serial) s ≡ before_movements (book ++ e ∷ [])
      at None is =
          let whole : with_movement s.tail (movement book e.act) (movements book s.tail) ≡ movements book s.tail = ap (λ o. with_movement s.tail o (movements book s.tail)) is in
          elsewhere (λ h found there. absurd (cc)) (subst (AllByRecursion (λ (m : Movement). is_during s m.moment ≡ false)) whole cut_by) (then ∙ ap (λ o. was s.tail serial o (is_fitted_to (book ++ e ∷ []) s.tail serial)) is) whole
      at (Some g) is = both g (same_text g.0 s.tail) is refl

  -- a sector that no movement cuts is credited to the components that were fitted before the movements behind its take-off
  pub credited_before : (book : List Entry) → IsBook book → IsNotCut s book → is_credited book (Component serial) s ≡ before_movements book
  credited_before = of_each_book (λ book. IsNotCut s book → is_credited book (Component serial) s ≡ before_movements book) step (λ cut. refl)

-- ── a sector in order ──

-- a sector that takes off by the clock of its airframe is cut by no movement
pub in_order_uncut : (book : List Entry) (s : Sector) → IsBook book → clock book (Airframe s.tail) ≤ s.off → IsNotCut s book
in_order_uncut book s b by = all_of (λ (m : Movement). m.moment ≤ clock book (Airframe s.tail)) (λ (m : Movement). is_during s m.moment ≡ false) each (movements book s.tail) (moved_by_clock s.tail book b)
  where
    each : (m : Movement) → m.moment ≤ clock book (Airframe s.tail) → is_during s m.moment ≡ false
    each m h = let no : nat_lt s.off m.moment ≡ false = grind (arith, nat_tests) in ap (λ c. c && nat_lt m.moment s.on) no
