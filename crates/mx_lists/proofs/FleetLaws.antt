-- Of the lists of all aircraft, the rows of one registration are those of its own list.
use Rattle.std.proofs.Common.{◌≡◌, ◌∙◌, ℕ, List, [], ◌∷◌, ◌++◌, Bool, true, false, cond, Option, Some, None, refl, sym, ap, subst, map, append_assoc, append-nil}
use Rattle.std.specs.Prelude.{filter, find, is_some}
use Rattle.std.specs.Cmp.{IsStrictWeakOrder}
use Rattle.std.specs.List.{cons_option, filter_map, flat_map}
use Rattle.std.specs.Option.{option_map, option_map_or, option_or, option_to_list}
use Rattle.std.proofs.lemmas.List.Elements.{filter-append, filter_map-append}
use Rattle.std.proofs.lemmas.List.Folds.{find-append}
use Rattle.mx_book.specs.Book.{IsBook, is_book_from, is_new}
use Rattle.mx_book.specs.commands.Act.{Act, Entry, Added, aircraft_of}
use Rattle.mx_book.specs.commands.Same.{same_text}
use Rattle.mx_book.specs.Defect.{open_defects}
use Rattle.mx_book.specs.Judge.{judge}
use Rattle.mx_book.specs.Register.{aircraft, register}
use Rattle.mx_book.specs.declared.commands.aircraft.Aircraft.{Aircraft}
use Rattle.mx_book.specs.declared.defects.Defect.{Defect}
use Rattle.mx_book.specs.declared.verdict.Verdict.TheVariants.{New}
use Rattle.mx_book.proofs.CommandsProofs.SameLemmas.{text_same}
use Rattle.mx_book.proofs.JudgeLemmas.{both_true, is_new-New}
use Rattle.mx_book.proofs.PassLemmas.{new-passes_as}
use Rattle.mx_lists.specs.declared.due_row.DueList.{DueList}
use Rattle.mx_lists.specs.declared.fleet_row.FleetRow.{FleetRow}
use Rattle.mx_lists.specs.declared.forecast.ForecastList.{ForecastList}
use Rattle.mx_lists.specs.declared.limit_list.LimitRow.{LimitRow}
use Rattle.mx_lists.specs.DueRow.{row_before}
use Rattle.mx_lists.specs.DueList.{rows_by_place}
use Rattle.mx_lists.specs.Fleet.{all_open, deferred, deferred_row, dues_of, fleet, is_on, outlook, reached_of, rows_of_all, rows_of_one, rows_with_tail, tails}
use Rattle.mx_lists.specs.FleetRow.{fleet_before, with_tail}
use Rattle.mx_lists.specs.Forecast.{forecast_row, sooner}
use Rattle.mx_lists.specs.LimitList.{limit_before, limit_row, limit_rows}
use Rattle.mx_lists.specs.Order.{in_order, placed, put_in, text_before}
use Rattle.mx_lists.specs.Ranks.{due_rows_rank, fleet_rank, forecast_rank, limits_rank, tails_rank}
use Rattle.mx_lists.proofs.AmongAll.{own_of_all}
use Rattle.mx_lists.proofs.OrderLaws.{filter-in_order, in_order-again}

-- the row is of this aircraft
abbrev is_of : {X : Type 0} → List ℕ → FleetRow X → Bool
is_of tail r = same_text r.tail tail

module _ {X : Type 0} (before : X → X → Bool) (tail : List ℕ) where
  map-placed : (x : X) (ys : List X) → placed (fleet_before before) (with_tail tail x) (map (with_tail tail) ys) ≡ map (with_tail tail) (placed before x ys)
  map-placed x [] = refl
  map-placed x (y ∷ ys) = at (map-placed x ys) (before x y)
    where
      at : placed (fleet_before before) (with_tail tail x) (map (with_tail tail) ys) ≡ map (with_tail tail) (placed before x ys)
          → (b : Bool) → cond b (with_tail tail x ∷ with_tail tail y ∷ map (with_tail tail) ys) (with_tail tail y ∷ placed (fleet_before before) (with_tail tail x) (map (with_tail tail) ys)) ≡ map (with_tail tail) (cond b (x ∷ y ∷ ys) (y ∷ placed before x ys))
      at later true = refl
      at later false = ap (λ l. with_tail tail y ∷ l) later

  map-put_in : (done xs : List X) → put_in (fleet_before before) (map (with_tail tail) done) (map (with_tail tail) xs) ≡ map (with_tail tail) (put_in before done xs)
  map-put_in done [] = refl
  map-put_in done (x ∷ xs) = ap (λ l. put_in (fleet_before before) l (map (with_tail tail) xs)) (map-placed x done) ∙ map-put_in (placed before x done) xs

  of_one : (t : List ℕ) (b : Bool) → same_text t tail ≡ b → (ys : List X) → filter (is_of tail) (map (with_tail t) ys) ≡ cond b (map (with_tail t) ys) []
  of_one t true e [] = refl
  of_one t true e (y ∷ ys) =
      ap (λ b. cond b (with_tail t y ∷ filter (is_of tail) (map (with_tail t) ys)) (filter (is_of tail) (map (with_tail t) ys))) e ∙ ap (λ l. with_tail t y ∷ l) (of_one t true e ys)
  of_one t false e [] = refl
  of_one t false e (y ∷ ys) =
      ap (λ b. cond b (with_tail t y ∷ filter (is_of tail) (map (with_tail t) ys)) (filter (is_of tail) (map (with_tail t) ys))) e ∙ of_one t false e ys

  of_these : (rows : List ℕ → List X) (ts : List (List ℕ)) → filter (is_of tail) (flat_map (rows_of_one rows) ts) ≡ flat_map (rows_of_one rows) (filter (λ t. same_text t tail) ts)
  of_these rows [] = refl
  of_these rows (t ∷ ts) =
      filter-append (is_of tail) (rows_of_one rows t) (flat_map (rows_of_one rows) ts)
      ∙ ap (λ l. l ++ filter (is_of tail) (flat_map (rows_of_one rows) ts)) (of_one t (same_text t tail) refl (rows t))
      ∙ at (of_these rows ts) (same_text t tail)
    where
      at : filter (is_of tail) (flat_map (rows_of_one rows) ts) ≡ flat_map (rows_of_one rows) (filter (λ t. same_text t tail) ts)
          → (b : Bool) → cond b (map (with_tail t) (rows t)) [] ++ filter (is_of tail) (flat_map (rows_of_one rows) ts) ≡ flat_map (rows_of_one rows) (cond b (t ∷ filter (λ t. same_text t tail) ts) (filter (λ t. same_text t tail) ts))
      at later true = ap (λ l. rows_of_one rows t ++ l) later
      at later false = later

  rows_back : (ys : List X) → map (λ (r : FleetRow X). r.row) (map (with_tail tail) ys) ≡ ys
  rows_back [] = refl
  rows_back (y ∷ ys) = ap (λ l. y ∷ l) (rows_back ys)

  -- the rows of an aircraft whose registration stands once, or of none, are its own
  rows_if_known : (o : IsStrictWeakOrder before) (rows : List ℕ → List X) (known : Bool) → in_order before (rows tail) ≡ rows tail → (known ≡ false → rows tail ≡ [])
      → map (λ (r : FleetRow X). r.row) (in_order (fleet_before before) (flat_map (rows_of_one rows) (cond known (tail ∷ []) []))) ≡ rows tail
  rows_if_known o rows true ordered none =
      ap (λ l. map (λ (r : FleetRow X). r.row) (in_order (fleet_before before) l)) (append-nil (rows_of_one rows tail))
      ∙ ap (map (λ (r : FleetRow X). r.row)) (map-put_in [] (rows tail) ∙ ap (map (with_tail tail)) ordered) ∙ rows_back (rows tail)
  rows_if_known o rows false ordered none = sym (none refl)

  in_order_if : (known : Bool) → in_order text_before (cond known (tail ∷ []) []) ≡ cond known (tail ∷ []) []
  in_order_if true = refl
  in_order_if false = refl

  pub rows_of_tail : (o : IsStrictWeakOrder before) (rows : List ℕ → List X) (ts : List (List ℕ)) (known : Bool) → filter (λ t. same_text t tail) ts ≡ cond known (tail ∷ []) []
      → in_order before (rows tail) ≡ rows tail → (known ≡ false → rows tail ≡ []) → rows_with_tail tail (rows_of_all before rows (in_order text_before ts)) ≡ rows tail
  rows_of_tail o rows ts known once ordered none =
      ap (map (λ (r : FleetRow X). r.row))
      (filter-in_order (fleet_before before) (fleet_rank o) (is_of tail) (flat_map (rows_of_one rows) (in_order text_before ts))
      ∙ ap (in_order (fleet_before before)) (of_these rows (in_order text_before ts)
      ∙ ap (flat_map (rows_of_one rows)) (filter-in_order text_before tails_rank (λ t. same_text t tail) ts ∙ ap (in_order text_before) once ∙ in_order_if known)))
      ∙ rows_if_known o rows known ordered none

-- ── a registration stands once among the aircraft of a book ──

-- of those with a registration there is the first alone
abbrev IsOnce : List Aircraft → Type 0
IsOnce xs = (tail : List ℕ) → filter (λ (a : Aircraft). same_text a.tail tail) xs ≡ option_to_list (find (λ (a : Aircraft). same_text a.tail tail) xs)

or_none : {X : Type 0} (o : Option X) → option_to_list (option_or o None) ≡ option_to_list o
or_none None = refl
or_none (Some x) = refl

once_more : (xs : List Aircraft) (a : Aircraft) → find (λ (b : Aircraft). same_text b.tail a.tail) xs ≡ None → IsOnce xs → IsOnce (xs ++ a ∷ [])
once_more xs a new once tail =
    filter-append (λ (b : Aircraft). same_text b.tail tail) xs (a ∷ []) ∙ at (same_text a.tail tail) refl
    ∙ sym (ap option_to_list (find-append (λ (b : Aircraft). same_text b.tail tail) xs (a ∷ [])))
  where
    at : (b : Bool) → same_text a.tail tail ≡ b → filter (λ (b : Aircraft). same_text b.tail tail) xs ++ cond b (a ∷ []) [] ≡ option_to_list (option_or (find (λ (b : Aircraft). same_text b.tail tail) xs) (cond b (Some a) None))
    at true e =
        let same : a.tail ≡ tail = (text_same a.tail tail).0 e in
        let none : find (λ (b : Aircraft). same_text b.tail tail) xs ≡ None = subst (λ t. find (λ (b : Aircraft). same_text b.tail t) xs ≡ None) same new in
        ap (λ l. l ++ a ∷ []) (once tail ∙ ap option_to_list none) ∙ sym (ap (λ o. option_to_list (option_or o (Some a))) none)
    at false e = append-nil (filter (λ (b : Aircraft). same_text b.tail tail) xs) ∙ once tail ∙ sym (or_none (find (λ (b : Aircraft). same_text b.tail tail) xs))

none_is : {X : Type 0} (o : Option X) → is_some o ≡ false → o ≡ None
none_is None h = refl
none_is (Some x) h = (cc)

once_entry : (book : List Entry) (e : Entry) → judge book e ≡ New → IsOnce (register aircraft_of book) → IsOnce (register aircraft_of (book ++ e ∷ []))
once_entry book e new once =
    subst IsOnce (sym (filter_map-append (λ (entry : Entry). aircraft_of entry.act) book (e ∷ []))) (at e.act refl)
  where
    at : (act : Act) → e.act ≡ act → IsOnce (register aircraft_of book ++ cons_option (aircraft_of act) [])
    at (Added a positions) says =
        once_more (register aircraft_of book) a (none_is (aircraft book a.tail) (new-passes_as book e (Added a positions) new says).aircraft_exists) once
    at _ says = subst IsOnce (sym (append-nil (register aircraft_of book))) once

once_book : (before later : List Entry) → is_book_from before later ≡ true → IsOnce (register aircraft_of before) → IsOnce (register aircraft_of (before ++ later))
once_book before [] h once = subst (λ (es : List Entry). IsOnce (register aircraft_of es)) (sym (append-nil before)) once
once_book before (e ∷ later) h once =
    let both = both_true (is_new (judge before e)) (is_book_from (before ++ e ∷ []) later) h in
    subst (λ (es : List Entry). IsOnce (register aircraft_of es)) (append_assoc before (e ∷ []) later)
    (once_book (before ++ e ∷ []) later both.1 (once_entry before e (is_new-New (judge before e) both.0) once))

filter-names : (tail : List ℕ) (xs : List Aircraft) → filter (λ t. same_text t tail) (map (λ (a : Aircraft). a.tail) xs) ≡ map (λ (a : Aircraft). a.tail) (filter (λ (a : Aircraft). same_text a.tail tail) xs)
filter-names tail [] = refl
filter-names tail (x ∷ xs) = at (filter-names tail xs) (same_text x.tail tail)
  where
    at : filter (λ t. same_text t tail) (map (λ (a : Aircraft). a.tail) xs) ≡ map (λ (a : Aircraft). a.tail) (filter (λ (a : Aircraft). same_text a.tail tail) xs)
        → (b : Bool) → cond b (x.tail ∷ filter (λ t. same_text t tail) (map (λ (a : Aircraft). a.tail) xs)) (filter (λ t. same_text t tail) (map (λ (a : Aircraft). a.tail) xs)) ≡ map (λ (a : Aircraft). a.tail) (cond b (x ∷ filter (λ (a : Aircraft). same_text a.tail tail) xs) (filter (λ (a : Aircraft). same_text a.tail tail) xs))
    at later true = ap (λ l. x.tail ∷ l) later
    at later false = later

found_passes : (tail : List ℕ) (xs : List Aircraft) (a : Aircraft) → find (λ (b : Aircraft). same_text b.tail tail) xs ≡ Some a → a.tail ≡ tail
found_passes tail [] a h = (cc)
found_passes tail (x ∷ xs) a h = at (found_passes tail xs a) (same_text x.tail tail) refl h
  where
    at : (find (λ (b : Aircraft). same_text b.tail tail) xs ≡ Some a → a.tail ≡ tail) → (b : Bool) → same_text x.tail tail ≡ b → cond b (Some x) (find (λ (b : Aircraft). same_text b.tail tail) xs) ≡ Some a → a.tail ≡ tail
    at later true e h = let same : x.tail ≡ tail = (text_same x.tail tail).0 e in cc
    at later false e h = later h

-- the registration stands once where it is known, and not at all where it is not
tails_once : (book : List Entry) (tail : List ℕ) → IsBook book → filter (λ t. same_text t tail) (tails book) ≡ cond (is_some (aircraft book tail)) (tail ∷ []) []
tails_once book tail is =
    filter-names tail (register aircraft_of book)
    ∙ ap (map (λ (a : Aircraft). a.tail)) (once_book [] book is.judged (λ t. refl) tail) ∙ named (aircraft book tail) refl
  where
    named : (o : Option Aircraft) → aircraft book tail ≡ o → map (λ (a : Aircraft). a.tail) (option_to_list o) ≡ cond (is_some o) (tail ∷ []) []
    named None e = refl
    named (Some a) e = ap (λ t. t ∷ []) (found_passes tail (register aircraft_of book) a e)

-- ── the lists ──

if_listed : {X L : Type 0} (before : X → X → Bool) (rows : L → List X) (list : Aircraft → L) (o : Option Aircraft) → ((a : Aircraft) → in_order before (rows (list a)) ≡ rows (list a))
    → in_order before (option_map_or rows (option_map list o) []) ≡ option_map_or rows (option_map list o) []
if_listed before rows list None ordered = refl
if_listed before rows list (Some a) ordered = ordered a

unlisted : {X L : Type 0} (rows : L → List X) (list : Aircraft → L) (o : Option Aircraft) → is_some o ≡ false → option_map_or rows (option_map list o) [] ≡ []
unlisted rows list None h = refl
unlisted rows list (Some a) h = (cc)

module _ (book : List Entry) (tail : List ℕ) (is : IsBook book) where
  pub dues_back : (day : ℕ) → rows_with_tail tail (fleet book day).rows ≡ dues_of book day tail
  dues_back day =
      rows_of_tail row_before tail due_rows_rank (dues_of book day) (tails book) (is_some (aircraft book tail)) (tails_once book tail is)
      (if_listed row_before (λ (list : DueList). list.rows) _ (aircraft book tail) (λ a. in_order-again row_before due_rows_rank (rows_by_place book tail a.kind day)))
      (unlisted (λ (list : DueList). list.rows) _ (aircraft book tail))

  pub reached_back : (day days minutes cycles : ℕ) → rows_with_tail tail (outlook book day days minutes cycles).rows ≡ reached_of book day days minutes cycles tail
  reached_back day days minutes cycles =
      rows_of_tail sooner tail forecast_rank (reached_of book day days minutes cycles) (tails book) (is_some (aircraft book tail)) (tails_once book tail is)
      (if_listed sooner (λ (list : ForecastList). list.rows) _ (aircraft book tail) (λ a. in_order-again sooner forecast_rank (filter_map (forecast_row day days minutes cycles) (rows_by_place book tail a.kind day))))
      (unlisted (λ (list : ForecastList). list.rows) _ (aircraft book tail))

limits_kept : (book : List Entry) (day : ℕ) (tail : List ℕ) (ds : List Defect)
    → filter (is_of tail) (map (deferred_row book day) ds) ≡ map (with_tail tail) (map (limit_row book day) (filter (is_on tail) ds))
limits_kept book day tail [] = refl
limits_kept book day tail (d ∷ ds) = at (limits_kept book day tail ds) (same_text d.deferral.tail tail) refl
  where
    at : filter (is_of tail) (map (deferred_row book day) ds) ≡ map (with_tail tail) (map (limit_row book day) (filter (is_on tail) ds))
        → (s : Bool) → same_text d.deferral.tail tail ≡ s
        → filter (is_of tail) (map (deferred_row book day) (d ∷ ds)) ≡ map (with_tail tail) (map (limit_row book day) (cond s (d ∷ filter (is_on tail) ds) (filter (is_on tail) ds)))
    at later true e =
        let same : d.deferral.tail ≡ tail = (text_same d.deferral.tail tail).0 e in
        ap (λ b. cond b (deferred_row book day d ∷ filter (is_of tail) (map (deferred_row book day) ds)) (filter (is_of tail) (map (deferred_row book day) ds))) e
        ∙ ap (λ t. with_tail t (limit_row book day d) ∷ filter (is_of tail) (map (deferred_row book day) ds)) same
        ∙ ap (λ l. with_tail tail (limit_row book day d) ∷ l) later
    at later false e =
        ap (λ b. cond b (deferred_row book day d ∷ filter (is_of tail) (map (deferred_row book day) ds)) (filter (is_of tail) (map (deferred_row book day) ds))) e
        ∙ later

pub limits_back : (book : List Entry) (tail : List ℕ) (day : ℕ) → rows_with_tail tail (deferred book day).rows ≡ limit_rows book tail day
limits_back book tail day =
    ap (map (λ (r : FleetRow LimitRow). r.row))
    (filter-in_order (fleet_before limit_before) (fleet_rank limits_rank) (is_of tail) (map (deferred_row book day) (all_open book))
    ∙ ap (in_order (fleet_before limit_before)) (limits_kept book day tail (all_open book) ∙ ap (λ ds. map (with_tail tail) (map (limit_row book day) ds)) (own_of_all book tail))
    ∙ map-put_in limit_before tail [] (map (limit_row book day) (open_defects book tail)))
    ∙ rows_back limit_before tail (limit_rows book tail day)
