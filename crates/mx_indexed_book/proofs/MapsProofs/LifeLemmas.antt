-- What an entry changes of the lives.
use Rattle.std.proofs.Common.{arith, refl, sym, ap, ◌∙◌, ◌≡◌, ℕ, ◌+◌, List, [], ◌∷◌, ◌++◌, Bool, true, false, cond, ◌&&◌, Option, Some, None}
use Rattle.std.specs.Prelude.{ℤ, filter, pos, ◌-ℤ◌, is_none, is_some, not}
use Rattle.std.specs.Option.{option_map, option_map_or, option_or}
use Rattle.std.specs.Ordering.{nat_cmp}
use Rattle.std.specs.Cmp.Lexicographic.{slice_cmp}
use Rattle.mx_base.specs.declared.amounts.Use.{Use}
use Rattle.mx_book.specs.commands.Act.{Act, Entry, Added, Listed, Loaded, Opened, Flown, Fitted, Removed, Released, Deferred, Extended, sector_of}
use Rattle.mx_book.specs.commands.Same.{same_text}
use Rattle.mx_book.specs.commands.Shape.{act_shape, has_shape, doc_shape}
use Rattle.mx_book.specs.declared.commands.item.Item.TheVariants.{Airframe, Component}
use Rattle.mx_book.specs.declared.commands.aircraft.Aircraft.{Aircraft}
use Rattle.mx_book.specs.declared.commands.component.Component.{Component as Listing}
use Rattle.mx_book.specs.declared.commands.sector.Sector.{Sector}
use Rattle.mx_book.proofs.CommandsProofs.SameLemmas.{text_same}
use Rattle.mx_book.specs.declared.verdict.Verdict.TheVariants.{New}
use Rattle.mx_book.specs.Book.{IsBook, is_new}
use Rattle.mx_book.specs.Judge.{judge}
use Rattle.mx_book.specs.Life.{clock, credited, cycles_of, has_landed_by, is_credited, minutes_of, use_after, use_or_none}
use Rattle.mx_book.specs.Span.{Span, fitted, spans, tail_fitted, is_fitted_to}
use Rattle.mx_book.specs.Register.{aircraft, component}
use Rattle.mx_book.specs.due.Due.{IsLife}
use Rattle.mx_book.proofs.JudgeLemmas.{both_true}
use Rattle.mx_book.proofs.LifeLemmas.{life_bounded}
use Rattle.mx_book.proofs.SpanLemmas.{removed_nowhere}
use Rattle.mx_registers.proofs.NewLemmas.{added_is_unknown, flown_is_known, listed_is_unknown}
use Rattle.mx_registers.proofs.KeptProofs.CreditLemmas.{lands_later}
use Rattle.mx_registers.proofs.KeptProofs.JudgedLemmas.{new-timely, not_passed}
use Rattle.mx_registers.proofs.KeptProofs.SpanGrowth.{same_sym}
use Rattle.mx_registers.proofs.KeptProofs.LifeGrowth.{life_now-more, use_after_none}
use Rattle.mx_indexed_book.specs.maps.Lives.{airframe_changed, airframe_life, component_life, components_changed, flown_if, lead, lead_over, lead_with, leads_moved, life_where_fitted}
use Rattle.mx_indexed_book.specs.maps.Movements.{behind, fitted_before, movements}
use Rattle.mx_indexed_book.specs.declared.maps.movements.Movement.{Movement}
use Rattle.mx_indexed_book.proofs.MapsProofs.CreditLemmas.{IsNotCut, credited_before, in_order_uncut}
use Rattle.mx_indexed_book.specs.declared.maps.lives.Lead.{Lead}
use Rattle.mx_registers.proofs.KeptProofs.KnownLemmas.{other_name, spans_known, spans_placed}
use Rattle.mx_registers.proofs.KeptProofs.PlaceLemmas.{fitted_kept, moves}
use Rattle.mx_indexed_book.proofs.MapsProofs.PlaceLemmas.{all_found, found_passes, just_fitted, tail_of_place}
use Rattle.mx_indexed_book.specs.maps.Maps.{changed, changed_all}
use Rattle.mx_indexed_book.proofs.MapsProofs.MapLemmas.{tie}
use Rattle.mx_indexed_book.proofs.MapsProofs.RegisterLemmas.{none_of}

-- a life to which nothing is added
same_life : (o : Option Use) → option_or (option_map (use_after []) o) None ≡ o
same_life None = refl
same_life (Some u) = ap (λ (v : Use). Some v) (use_after_none u)

or_none : {X : Type 0} (o : Option X) → option_or o None ≡ o
or_none None = refl
or_none (Some x) = refl

-- ── airframes ──

unknown_life : (book : List Entry) (tail : List ℕ) → is_some (aircraft book tail) ≡ false → airframe_life book tail ≡ None
unknown_life book tail h = ap (λ (o : Option Aircraft). option_map (use_after (filter (has_landed_by None) (credited book (Airframe tail)))) (option_map (λ (a : Aircraft). a.opening) o)) (none_of (aircraft book tail) h)

begun : (b : Bool) (a : Aircraft) (old : Option Use) → (b ≡ true → old ≡ None) → option_or (option_map (use_after []) old) (option_map (λ (x : Aircraft). x.opening) (cond b (Some a) None)) ≡ cond b (Some a.opening) old
begun true a old h = ap (λ (o : Option Use). option_or (option_map (use_after []) o) (Some a.opening)) (h refl)
begun false a old h = same_life old

flown : (book : List Entry) (s : Sector) (tail : List ℕ) (b : Bool) → same_text s.tail tail ≡ b
    → option_or (option_map (use_after (cond b (s ∷ []) [])) (airframe_life book tail)) None ≡ cond b (option_map (use_after (s ∷ [])) (airframe_life book s.tail)) (airframe_life book tail)
flown book s tail true e = or_none (option_map (use_after (s ∷ [])) (airframe_life book tail)) ∙ ap (λ (t : List ℕ). option_map (use_after (s ∷ [])) (airframe_life book t)) (sym ((text_same s.tail tail).0 e))
flown book s tail false e = same_life (airframe_life book tail)

module _ (book : List Entry) (is_book : IsBook book) (doc : List ℕ) where
  abbrev with : Act → List Entry
  with act = book ++ record { doc = doc; act = act } ∷ []

  airframe_by : (act : Act) → judge book (record { doc = doc; act = act }) ≡ New → act_shape act ≡ true → (tail : List ℕ)
      → airframe_life (with act) tail ≡ changed (slice_cmp nat_cmp) (airframe_changed book act) tail (airframe_life book tail)
  airframe_by (Added a ps) new shape tail =
      life_now-more book doc (Added a ps) (Airframe tail) is_book new shape
      ∙ begun (same_text a.tail tail) a (airframe_life book tail) (λ e. unknown_life book tail (ap (λ (t : List ℕ). is_some (aircraft book t)) (sym ((text_same a.tail tail).0 e)) ∙ added_is_unknown book doc a ps (ap is_new new)))
      ∙ ap (λ b. cond b (Some a.opening) (airframe_life book tail)) (sym (tie a.tail tail))
  airframe_by (Flown s) new shape tail =
      life_now-more book doc (Flown s) (Airframe tail) is_book new shape
      ∙ flown book s tail (same_text s.tail tail) refl
      ∙ ap (λ b. cond b (option_map (use_after (s ∷ [])) (airframe_life book s.tail)) (airframe_life book tail)) (sym (tie s.tail tail))
  airframe_by act new shape tail = life_now-more book doc act (Airframe tail) is_book new shape ∙ same_life (airframe_life book tail)

pub airframe_moves : (book : List Entry) (entry : Entry) → IsBook book → has_shape entry ≡ true → judge book entry ≡ New → (tail : List ℕ)
    → airframe_life (book ++ entry ∷ []) tail ≡ changed (slice_cmp nat_cmp) (airframe_changed book entry.act) tail (airframe_life book tail)
airframe_moves book entry b shape new = airframe_by book b entry.doc entry.act new (both_true (act_shape entry.act) (doc_shape entry.doc entry.act) shape).0

-- ── components ──

pub where_kept : (book more : List Entry) (serial : List ℕ) → ((t : List ℕ) → tail_fitted book serial ≡ Some t → airframe_life more t ≡ airframe_life book t)
    → tail_fitted more serial ≡ tail_fitted book serial → life_where_fitted more serial ≡ life_where_fitted book serial
where_kept book more serial h same = ap (λ (o : Option (List ℕ)). option_map_or (λ t. use_or_none (airframe_life more t)) o (use_or_none None)) same ∙ at (tail_fitted book serial) h
  where
    at : (o : Option (List ℕ)) → ((t : List ℕ) → o ≡ Some t → airframe_life more t ≡ airframe_life book t)
        → option_map_or (λ t. use_or_none (airframe_life more t)) o (use_or_none None) ≡ option_map_or (λ t. use_or_none (airframe_life book t)) o (use_or_none None)
    at None g = refl
    at (Some t) g = ap use_or_none (g t refl)

lead_by : (more : List Entry) (serial : List ℕ) (other : Use) (life : Option Use) → life_where_fitted more serial ≡ other → component_life more serial ≡ life → lead more serial ≡ option_map (lead_over other) life
lead_by more serial other life w l = ap (λ (u : Use). option_map (lead_over u) (component_life more serial)) w ∙ ap (option_map (lead_over other)) l

at_name : (book more : List Entry) (name serial : List ℕ) (value : Option Lead) → lead more name ≡ value → (same_text name serial ≡ false → lead more serial ≡ lead book serial)
    → lead more serial ≡ changed (slice_cmp nat_cmp) (Some (name, value)) serial (lead book serial)
at_name book more name serial value there others = at (same_text name serial) refl ∙ ap (λ b. cond b value (lead book serial)) (sym (tie name serial))
  where
    at : (b : Bool) → same_text name serial ≡ b → lead more serial ≡ cond b value (lead book serial)
    at true e = ap (lead more) (sym ((text_same name serial).0 e)) ∙ there
    at false e = others e

fitted_where : (book : List Entry) (serial t : List ℕ) → tail_fitted book serial ≡ Some t → (s : Span) × (fitted book serial ≡ Some s) × (s.tail ≡ t)
fitted_where book serial t h = at (fitted book serial) h
  where
    at : (o : Option Span) → option_map (λ (s : Span). s.tail) o ≡ Some t → (s : Span) × (o ≡ Some s) × (s.tail ≡ t)
    at None g = absurd (cc)
    at (Some s) g = let same : s.tail ≡ t = cc in (s, refl, same)

-- the aircraft that a component is fitted to is known
placed : (book : List Entry) → IsBook book → (serial t : List ℕ) → tail_fitted book serial ≡ Some t → is_some (aircraft book t) ≡ true
placed book b serial t h =
    let s = fitted_where book serial t h in
    ap (λ (x : List ℕ). is_some (aircraft book x)) (sym s.2) ∙ all_found (λ (x : Span). is_some (aircraft book x.tail) ≡ true) (λ x. same_text x.serial serial && is_none x.to) (spans book) s.0 (spans_placed book b) s.1

-- a component that is unknown is fitted nowhere
unfitted : (book : List Entry) → IsBook book → (serial : List ℕ) → is_some (component book serial) ≡ false → tail_fitted book serial ≡ None
unfitted book b serial unknown = at (fitted book serial) refl
  where
    at : (o : Option Span) → fitted book serial ≡ o → option_map (λ (s : Span). s.tail) o ≡ None
    at None e = refl
    at (Some s) e =
        let known = all_found (λ (x : Span). is_some (component book x.serial) ≡ true) (λ x. same_text x.serial serial && is_none x.to) (spans book) s (spans_known book b) e in
        let of = both_true (same_text s.serial serial) (is_none s.to) (found_passes (λ x. same_text x.serial serial && is_none x.to) (spans book) s e) in
        let same : is_some (component book serial) ≡ true = ap (λ (x : List ℕ). is_some (component book x)) (sym ((text_same s.serial serial).0 of.0)) ∙ known in
        absurd (cc)

tail_kept : (book : List Entry) (entry : Entry) (serial : List ℕ) → moves entry.act serial ≡ false → tail_fitted (book ++ entry ∷ []) serial ≡ tail_fitted book serial
tail_kept book entry serial m = ap (option_map (λ (s : Span). s.tail)) (fitted_kept serial book entry m)

ahead_same : (v u x : ℕ) → pos (v + x) -ℤ pos (u + x) ≡ pos v -ℤ pos u
ahead_same v u x = grind arith

both_flown : (s : Sector) (u v : Use) → Some (lead_over u v) ≡ Some (lead_over (use_after (s ∷ []) u) (use_after (s ∷ []) v))
both_flown s u v = sym (
    ap (λ (m : ℤ). Some (record { minutes = m; cycles = pos (v.cycles + cycles_of (s ∷ [])) -ℤ pos (u.cycles + cycles_of (s ∷ [])) })) (ahead_same v.minutes u.minutes (minutes_of (s ∷ [])))
    ∙ ap (λ (n : ℤ). Some (record { minutes = pos v.minutes -ℤ pos u.minutes; cycles = n })) (ahead_same v.cycles u.cycles (cycles_of (s ∷ []))))

flown_or_not : (s : Sector) (b : Bool) (life : Option Use) → option_or (option_map (use_after (cond b (s ∷ []) [])) life) None ≡ option_map (flown_if b s) life
flown_or_not s true life = or_none (option_map (use_after (s ∷ [])) life)
flown_or_not s false None = refl
flown_or_not s false (Some u) = ap (λ (v : Use). Some v) (use_after_none u)

some_life : (book : List Entry) (tail : List ℕ) → is_some (aircraft book tail) ≡ true → is_some (airframe_life book tail) ≡ true
some_life book tail h = at (aircraft book tail) h
  where
    at : (o : Option Aircraft) → is_some o ≡ true → is_some (option_map (use_after (filter (has_landed_by None) (credited book (Airframe tail)))) (option_map (λ (a : Aircraft). a.opening) o)) ≡ true
    at None g = absurd (cc)
    at (Some a) g = refl

unknown_component_life : (book : List Entry) (serial : List ℕ) → is_some (component book serial) ≡ false → component_life book serial ≡ None
unknown_component_life book serial h =
    ap (λ (o : Option Listing). option_map (use_after (filter (has_landed_by None) (credited book (Component serial)))) (option_map (λ (c : Listing). c.opening) o)) (none_of (component book serial) h)

listed : (b : Bool) (c : Listing) (old : Option Use) → b ≡ false → option_or (option_map (use_after []) old) (option_map (λ (x : Listing). x.opening) (cond b (Some c) None)) ≡ old
listed true c old e = absurd (cc)
listed false c old e = same_life old

just_listed : (b : Bool) (c : Listing) (old : Option Use) → b ≡ true → old ≡ None → option_or (option_map (use_after []) old) (option_map (λ (x : Listing). x.opening) (cond b (Some c) None)) ≡ Some c.opening
just_listed true c old e h = ap (λ (o : Option Use). option_or (option_map (use_after []) o) (Some c.opening)) h
just_listed false c old e h = absurd (cc)

module _ (book : List Entry) (is_book : IsBook book) (doc : List ℕ) where
  abbrev with_one : Act → List Entry
  with_one act = book ++ record { doc = doc; act = act } ∷ []

  -- the lead of a component that an entry leaves where it is, with its life and that of its airframe
  left_alone : (act : Act) (serial : List ℕ) → moves act serial ≡ false → ((t : List ℕ) → tail_fitted book serial ≡ Some t → airframe_life (with_one act) t ≡ airframe_life book t)
      → component_life (with_one act) serial ≡ component_life book serial → lead (with_one act) serial ≡ lead book serial
  left_alone act serial still airframes life =
      lead_by (with_one act) serial (life_where_fitted book serial) (component_life book serial)
      (where_kept book (with_one act) serial airframes (tail_kept book (record { doc = doc; act = act }) serial still)) life

  -- of an entry that changes no life
  quiet : (act : Act) → judge book (record { doc = doc; act = act }) ≡ New → act_shape act ≡ true → airframe_changed book act ≡ None → (t : List ℕ) → airframe_life (with_one act) t ≡ airframe_life book t
  quiet act new shape none t = airframe_by book is_book doc act new shape t ∙ ap (λ (o : Option (List ℕ × Option Use)). changed (slice_cmp nat_cmp) o t (airframe_life book t)) none

  -- a sector adds to the life of a component what it is credited with, and to that of its aircraft all
  lead_credited : (s : Sector) → judge book (record { doc = doc; act = Flown s }) ≡ New → act_shape (Flown s) ≡ true → (serial : List ℕ) → lead (with_one (Flown s)) serial ≡ lead_with book s (is_credited book (Component serial) s) serial
  lead_credited s new shape serial =
      lead_by (with_one (Flown s)) serial (flown_if (is_fitted_to book s.tail serial) s (life_where_fitted book serial)) (option_map (flown_if (is_credited book (Component serial) s) s) (component_life book serial))
      (ap (λ (o : Option (List ℕ)). option_map_or (λ t. use_or_none (airframe_life (with_one (Flown s)) t)) o (use_or_none None)) (tail_kept book (record { doc = doc; act = Flown s }) serial refl) ∙ where_it_is (tail_fitted book serial))
      (life_now-more book doc (Flown s) (Component serial) is_book new shape ∙ flown_or_not s (is_credited book (Component serial) s) (component_life book serial))
      ∙ in_one (component_life book serial)
    where
      own : (o : Option Use) → airframe_life book s.tail ≡ o → is_some o ≡ true → use_or_none (option_map (use_after (s ∷ [])) o) ≡ use_after (s ∷ []) (use_or_none o)
      own None life known = absurd (cc)
      own (Some u) life known = refl

      of_tail : (t : List ℕ) (b : Bool) → same_text t s.tail ≡ b → use_or_none (airframe_life (with_one (Flown s)) t) ≡ flown_if b s (use_or_none (airframe_life book t))
      of_tail t true e =
          ap use_or_none (airframe_by book is_book doc (Flown s) new shape t ∙ ap (λ b. cond b (option_map (use_after (s ∷ [])) (airframe_life book s.tail)) (airframe_life book t)) (tie s.tail t ∙ same_sym s.tail t ∙ e))
          ∙ own (airframe_life book s.tail) refl (some_life book s.tail (flown_is_known book doc s (ap is_new new)))
          ∙ ap (λ (x : List ℕ). use_after (s ∷ []) (use_or_none (airframe_life book x))) (sym ((text_same t s.tail).0 e))
      of_tail t false e =
          ap use_or_none (airframe_by book is_book doc (Flown s) new shape t ∙ ap (λ b. cond b (option_map (use_after (s ∷ [])) (airframe_life book s.tail)) (airframe_life book t)) (tie s.tail t ∙ same_sym s.tail t ∙ e))

      where_it_is : (o : Option (List ℕ)) → option_map_or (λ t. use_or_none (airframe_life (with_one (Flown s)) t)) o (use_or_none None) ≡ flown_if (option_map_or (λ t. same_text t s.tail) o false) s (option_map_or (λ t. use_or_none (airframe_life book t)) o (use_or_none None))
      where_it_is None = refl
      where_it_is (Some t) = of_tail t (same_text t s.tail) refl

      in_one : (o : Option Use) → option_map (lead_over (flown_if (is_fitted_to book s.tail serial) s (life_where_fitted book serial))) (option_map (flown_if (is_credited book (Component serial) s) s) o)
          ≡ option_map (λ life. lead_over (flown_if (is_fitted_to book s.tail serial) s (life_where_fitted book serial)) (flown_if (is_credited book (Component serial) s) s life)) o
      in_one None = refl
      in_one (Some u) = refl

  -- one that both are credited with, or neither, changes no lead
  lead_as_fitted : (s : Sector) (serial : List ℕ) → lead book serial ≡ lead_with book s (is_fitted_to book s.tail serial) serial
  lead_as_fitted s serial = at (is_fitted_to book s.tail serial) (component_life book serial)
    where
      at : (b : Bool) (o : Option Use) → option_map (lead_over (life_where_fitted book serial)) o ≡ option_map (λ life. lead_over (flown_if b s (life_where_fitted book serial)) (flown_if b s life)) o
      at b None = refl
      at true (Some v) = both_flown s (life_where_fitted book serial) v
      at false (Some v) = refl

  -- the leads of the components that were moved, one after the other
  leads_by : (s : Sector) (serial : List ℕ) (now : Bool) (moved : List Movement) → changed_all (slice_cmp nat_cmp) (leads_moved book s moved) serial (lead_with book s now serial) ≡ lead_with book s (fitted_before serial now moved) serial
  leads_by s serial now [] = refl
  leads_by s serial now (m ∷ moved) = ap (changed_all (slice_cmp nat_cmp) (leads_moved book s moved) serial) (at (same_text m.serial serial) refl) ∙ leads_by s serial (cond (same_text m.serial serial) (not m.is_fitting) now) moved
    where
      at : (b : Bool) → same_text m.serial serial ≡ b → changed (slice_cmp nat_cmp) (Some (m.serial, lead_with book s (not m.is_fitting) m.serial)) serial (lead_with book s now serial) ≡ lead_with book s (cond b (not m.is_fitting) now) serial
      at true e = ap (λ b. cond b (lead_with book s (not m.is_fitting) m.serial) (lead_with book s now serial)) (tie m.serial serial ∙ e) ∙ ap (lead_with book s (not m.is_fitting)) ((text_same m.serial serial).0 e)
      at false e = ap (λ b. cond b (lead_with book s (not m.is_fitting) m.serial) (lead_with book s now serial)) (tie m.serial serial ∙ e)

  -- a sector that no movement cuts changes the leads of those alone that were moved behind its take-off
  pub lead_by_sector : (s : Sector) → judge book (record { doc = doc; act = Flown s }) ≡ New → act_shape (Flown s) ≡ true → IsNotCut s book → (serial : List ℕ)
      → lead (with_one (Flown s)) serial ≡ changed_all (slice_cmp nat_cmp) (components_changed book (Flown s)) serial (lead book serial)
  lead_by_sector s new shape uncut serial =
      lead_credited s new shape serial
      ∙ ap (λ b. lead_with book s b serial) (credited_before s (lands_later s shape) serial book is_book uncut)
      ∙ sym (leads_by s serial (is_fitted_to book s.tail serial) (behind s.off (movements book s.tail)))
      ∙ ap (changed_all (slice_cmp nat_cmp) (leads_moved book s (behind s.off (movements book s.tail))) serial) (sym (lead_as_fitted s serial))

  lead_by_act : (act : Act) → judge book (record { doc = doc; act = act }) ≡ New → act_shape act ≡ true → (serial : List ℕ) → lead (with_one act) serial ≡ changed_all (slice_cmp nat_cmp) (components_changed book act) serial (lead book serial)
  lead_by_act (Added a ps) new shape serial =
      left_alone (Added a ps) serial refl
      (λ t there. airframe_by book is_book doc (Added a ps) new shape t
      ∙ ap (λ b. cond b (Some a.opening) (airframe_life book t)) (tie a.tail t ∙ same_sym a.tail t ∙ other_name (λ (x : List ℕ). is_some (aircraft book x)) t a.tail (placed book is_book serial t there) (added_is_unknown book doc a ps (ap is_new new))))
      (life_now-more book doc (Added a ps) (Component serial) is_book new shape ∙ same_life (component_life book serial))
  lead_by_act (Listed c) new shape serial =
      let unknown = listed_is_unknown book doc c (ap is_new new) in
      let nowhere = unfitted book is_book c.serial unknown in
      at_name book (with_one (Listed c)) c.serial serial (Some (lead_over (use_or_none None) c.opening))
      (lead_by (with_one (Listed c)) c.serial (use_or_none None) (Some c.opening)
      (where_kept book (with_one (Listed c)) c.serial (λ t _. quiet (Listed c) new shape refl t) (tail_kept book (record { doc = doc; act = Listed c }) c.serial refl)
      ∙ ap (λ (o : Option (List ℕ)). option_map_or (λ t. use_or_none (airframe_life book t)) o (use_or_none None)) nowhere)
      (life_now-more book doc (Listed c) (Component c.serial) is_book new shape
      ∙ just_listed (same_text c.serial c.serial) c (component_life book c.serial) ((text_same c.serial c.serial).1 refl) (unknown_component_life book c.serial unknown)))
      (λ other. left_alone (Listed c) serial refl (λ t _. quiet (Listed c) new shape refl t)
      (life_now-more book doc (Listed c) (Component serial) is_book new shape ∙ listed (same_text c.serial serial) c (component_life book serial) other))
  lead_by_act (Fitted f) new shape serial =
      at_name book (with_one (Fitted f)) f.serial serial (option_map (lead_over (use_or_none (airframe_life book f.tail))) (component_life book f.serial))
      (lead_by (with_one (Fitted f)) f.serial (use_or_none (airframe_life book f.tail)) (component_life book f.serial)
      (ap (λ (o : Option (List ℕ)). option_map_or (λ t. use_or_none (airframe_life (with_one (Fitted f)) t)) o (use_or_none None))
      (tail_of_place (with_one (Fitted f)) f.serial ∙ ap (option_map (λ (p : List ℕ × List ℕ). p.0)) (just_fitted book doc f new))
      ∙ ap use_or_none (quiet (Fitted f) new shape refl f.tail))
      (life_now-more book doc (Fitted f) (Component f.serial) is_book new shape ∙ same_life (component_life book f.serial)))
      (λ other. left_alone (Fitted f) serial other (λ t _. quiet (Fitted f) new shape refl t)
      (life_now-more book doc (Fitted f) (Component serial) is_book new shape ∙ same_life (component_life book serial)))
  lead_by_act (Removed r) new shape serial =
      at_name book (with_one (Removed r)) r.serial serial (option_map (lead_over (use_or_none None)) (component_life book r.serial))
      (lead_by (with_one (Removed r)) r.serial (use_or_none None) (component_life book r.serial)
      (ap (λ (o : Option Span). option_map_or (λ t. use_or_none (airframe_life (with_one (Removed r)) t)) (option_map (λ (s : Span). s.tail) o) (use_or_none None)) (removed_nowhere book doc r))
      (life_now-more book doc (Removed r) (Component r.serial) is_book new shape ∙ same_life (component_life book r.serial)))
      (λ other. left_alone (Removed r) serial other (λ t _. quiet (Removed r) new shape refl t)
      (life_now-more book doc (Removed r) (Component serial) is_book new shape ∙ same_life (component_life book serial)))
  lead_by_act (Flown s) new shape serial =
      let by = not_passed s.off (clock book (Airframe s.tail)) (new-timely book (record { doc = doc; act = Flown s }) new) in
      lead_by_sector s new shape (in_order_uncut book s is_book by) serial
  lead_by_act (Loaded p tasks) new shape serial = left_alone (Loaded p tasks) serial refl (λ t _. quiet (Loaded p tasks) new shape refl t) (life_now-more book doc (Loaded p tasks) (Component serial) is_book new shape ∙ same_life (component_life book serial))
  lead_by_act (Opened o) new shape serial = left_alone (Opened o) serial refl (λ t _. quiet (Opened o) new shape refl t) (life_now-more book doc (Opened o) (Component serial) is_book new shape ∙ same_life (component_life book serial))
  lead_by_act (Released r lines) new shape serial = left_alone (Released r lines) serial refl (λ t _. quiet (Released r lines) new shape refl t) (life_now-more book doc (Released r lines) (Component serial) is_book new shape ∙ same_life (component_life book serial))
  lead_by_act (Deferred d) new shape serial = left_alone (Deferred d) serial refl (λ t _. quiet (Deferred d) new shape refl t) (life_now-more book doc (Deferred d) (Component serial) is_book new shape ∙ same_life (component_life book serial))
  lead_by_act (Extended x) new shape serial = left_alone (Extended x) serial refl (λ t _. quiet (Extended x) new shape refl t) (life_now-more book doc (Extended x) (Component serial) is_book new shape ∙ same_life (component_life book serial))

pub lead_moves : (book : List Entry) (entry : Entry) → IsBook book → has_shape entry ≡ true → judge book entry ≡ New → (serial : List ℕ)
    → lead (book ++ entry ∷ []) serial ≡ changed_all (slice_cmp nat_cmp) (components_changed book entry.act) serial (lead book serial)
lead_moves book entry b shape new = lead_by_act book b entry.doc entry.act new (both_true (act_shape entry.act) (doc_shape entry.doc entry.act) shape).0

-- ── what the code cites ──

-- the life of the airframe that a component is fitted to is within the bounds of a life
pub where_bounded : (book : List Entry) (serial : List ℕ) → IsBook book → IsLife (life_where_fitted book serial)
where_bounded book serial b = at (tail_fitted book serial)
  where
    at : (o : Option (List ℕ)) → IsLife (option_map_or (λ t. use_or_none (airframe_life book t)) o (use_or_none None))
    at None = record { minutes = omega arith; cycles = omega arith }
    at (Some t) = life_bounded book (Airframe t) None b.few b.shaped

pub flown_changed : (book : List Entry) (act : Act) (s : Sector) → sector_of act ≡ Some s → (life : Option Use) → life ≡ option_map (use_after (s ∷ [])) (airframe_life book s.tail) → Some (s.tail, life) ≡ airframe_changed book act
flown_changed book (Flown x) s h life is =
    let same : x ≡ s = cc in
    ap (λ (o : Option Use). Some (s.tail, o)) is ∙ ap (λ (y : Sector). Some (y.tail, option_map (use_after (y ∷ [])) (airframe_life book y.tail))) (sym same)
flown_changed book _ s h life is = absurd cc

-- the life that is so much ahead
pub ahead_is : (other : Use) (life : Option Use) (l : Lead) (u : Use) → Some l ≡ option_map (lead_over other) life → ((v : Use) → life ≡ Some v → l ≡ lead_over other v → u ≡ v) → Some u ≡ life
ahead_is other None l u h each = absurd (cc)
ahead_is other (Some v) l u h each = ap (λ (x : Use). Some x) (each v refl (cc))
