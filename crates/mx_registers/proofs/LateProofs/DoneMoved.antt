-- The rows of the accomplishments of a task of an item with a late sector, by what they were.
use Rattle.std.proofs.Common.{arith, refl, sym, subst, ap, ◌∙◌, ◌≡◌, ℕ, ◌+◌, ◌-◌, ◌≤◌, length, List, [], ◌∷◌, ◌++◌, Bool, true, false, cond, ◌&&◌, ◌||◌, Option, Some, None, append-nil}
use Rattle.std.specs.Prelude.{map, filter, nat_eq}
use Rattle.std.specs.List.{list_any, AllByRecursion}
use Rattle.std.specs.Option.{option_map, option_map_or, option_and_then}
use Rattle.mx_base.specs.declared.amounts.Base.{Base}
use Rattle.mx_base.specs.declared.amounts.Limit.{Limit}
use Rattle.mx_book.specs.commands.Act.{Act, Entry, Opened, Flown, Released}
use Rattle.mx_book.specs.commands.Same.{same_text, same_item}
use Rattle.mx_book.specs.declared.commands.item.Item.{Item}
use Rattle.mx_book.specs.declared.commands.opening.Opening.{Opening}
use Rattle.mx_book.specs.declared.commands.programme.Task.{Task}
use Rattle.mx_book.specs.declared.commands.release.Line.{Line}
use Rattle.mx_book.specs.declared.commands.release.Line.TheVariants.{Done, Rectified}
use Rattle.mx_book.specs.declared.commands.release.Place.{Place}
use Rattle.mx_book.specs.declared.commands.release.Release.{Release}
use Rattle.mx_book.specs.declared.commands.sector.Sector.{Sector}
use Rattle.mx_book.proofs.CommandsProofs.SameLemmas.{text_same}
use Rattle.mx_book.specs.due.Due.{counted_from, due_after, first_due, lesser}
use Rattle.mx_book.specs.declared.verdict.Verdict.TheVariants.{New}
use Rattle.mx_book.specs.Base.{Accomplishment, Stated, DoneIn, accomplished_by, accomplishments, base_of, task_then}
use Rattle.mx_book.specs.Book.{IsBook}
use Rattle.mx_book.specs.Judge.{judge, line_of_retirement}
use Rattle.mx_book.specs.Programme.{is_done, task_at}
use Rattle.mx_book.specs.Register.{birth}
use Rattle.mx_book.proofs.PassLemmas.{new-passes}
use Rattle.mx_registers.proofs.KeptProofs.BaseGrowth.{birth_kept, task_kept}
use Rattle.mx_registers.proofs.KeptProofs.DoneLemmas.{IsKept, accomplishments-more, all_kept, both, neither}
use Rattle.mx_registers.proofs.KeptProofs.Induction.{of_each_book}
use Rattle.mx_registers.proofs.KeptProofs.KnownLemmas.{all_append}
use Rattle.mx_registers.proofs.KeptProofs.ReleaseBases.{all_both, task_now}
use Rattle.mx_base.specs.declared.rows.rows.DoneRow.{DoneRow}
use Rattle.mx_book.specs.due.Moved.{due_moved, lesser_of, moved, moved_by, row_with}
use Rattle.mx_registers.specs.late.Done.{Placed, credited_late, done_chain, done_row, done_rows_of, due_anew, due_limit, is_behind, limit_or_none, placed, rebased, value_more}
use Rattle.mx_registers.proofs.LateProofs.DoneLate.{placed-more}
use Rattle.mx_registers.proofs.LateProofs.DoneChain.{Says, all_mapped, anew, lesser_is_base, placed_kept, placed_said, placed_what}

-- ── what was done did not retire its item ──

-- the task in force where an accomplishment was certified does not retire the item
abbrev DoesNotRetire : List Entry → List ℕ → Accomplishment → Type 0
DoesNotRetire book id (Stated o) = Unit {0}
DoesNotRetire book id (DoneIn k r) = option_map_or (λ t. t.retire) (task_then book k r id) false ≡ false

line_stays : (book : List Entry) (place : Place) (item : Item) (id : List ℕ) (line : Line) → is_done item id line ≡ true → line_of_retirement book place line ≡ false → option_map_or (λ t. t.retire) (task_at book place id) false ≡ false
line_stays book place item id (Done done task) h e = ap (λ (i : List ℕ). option_map_or (λ t. t.retire) (task_at book place i) false) (sym ((text_same task id).0 (both (same_item done item) (same_text task id) h).1)) ∙ e
line_stays book place item id (Rectified doc) h e = (cc)

lines_stay : (book : List Entry) (place : Place) (item : Item) (id : List ℕ) (lines : List Line) → list_any (is_done item id) lines ≡ true → list_any (line_of_retirement book place) lines ≡ false → option_map_or (λ t. t.retire) (task_at book place id) false ≡ false
lines_stay book place item id [] h e = (cc)
lines_stay book place item id (line ∷ lines) h e =
    let here = neither (line_of_retirement book place line) (list_any (line_of_retirement book place) lines) e in
    at (is_done item id line) refl h (λ rest. lines_stay book place item id lines rest here.1) here.0
  where
    at : (c : Bool) → is_done item id line ≡ c → c || list_any (is_done item id) lines ≡ true → (list_any (is_done item id) lines ≡ true → option_map_or (λ t. t.retire) (task_at book place id) false ≡ false)
        → line_of_retirement book place line ≡ false → option_map_or (λ t. t.retire) (task_at book place id) false ≡ false
    at true f h rest e = line_stays book place item id line f e
    at false f h rest e = rest h

each_line : (P : Accomplishment → Type 0) (k : ℕ) (r : Release) (test : Line → Bool) (lines : List Line) → (list_any test lines ≡ true → P (DoneIn k r)) → AllByRecursion P (map (λ (line : Line). DoneIn k r) (filter test lines))
each_line P k r test [] h = tt
each_line P k r test (line ∷ lines) h = at (test line) h (each_line P k r test lines)
  where
    at : (c : Bool) → (c || list_any test lines ≡ true → P (DoneIn k r)) → ((list_any test lines ≡ true → P (DoneIn k r)) → AllByRecursion P (map (λ (line : Line). DoneIn k r) (filter test lines)))
        → AllByRecursion P (map (λ (line : Line). DoneIn k r) (cond c (line ∷ filter test lines) (filter test lines)))
    at true h rest = (h refl, rest (λ _. h refl))
    at false h rest = rest h

newly_stated : (P : Accomplishment → Type 0) (o : Opening) (p q : Bool) → P (Stated o) → AllByRecursion P (cond p (cond q (Stated o ∷ []) []) [])
newly_stated P o true true h = (h, tt)
newly_stated P o true false h = tt
newly_stated P o false q h = tt

newly : (book : List Entry) (doc : List ℕ) (act : Act) (item : Item) (id : List ℕ) → judge book (record { doc = doc; act = act }) ≡ New → AllByRecursion (DoesNotRetire (book ++ record { doc = doc; act = act } ∷ []) id) (accomplished_by (length book + 1) item id act)
newly book doc (Opened o) item id new = newly_stated (DoesNotRetire (book ++ record { doc = doc; act = Opened o } ∷ []) id) o (same_item o.item item) (same_text o.task id) tt
newly book doc (Released r lines) item id new =
    let retires = (new-passes book (record { doc = doc; act = Released r lines }) new).life_limit in
    each_line (DoesNotRetire (book ++ record { doc = doc; act = Released r lines } ∷ []) id) (length book + 1) r (is_done item id) lines
    (λ done. ap (λ o. option_map_or (λ t. t.retire) o false) (task_now book doc r lines id new) ∙ lines_stay book r.place item id lines done retires)
newly book doc _ item id new = tt

still : (book : List Entry) (e : Entry) (item : Item) (id : List ℕ) (a : Accomplishment) → IsKept book item a → DoesNotRetire book id a → DoesNotRetire (book ++ e ∷ []) id a
still book e item id (Stated o) h stays = tt
still book e item id (DoneIn k r) h stays = ap (λ o. option_map_or (λ t. t.retire) o false) (task_kept book (e ∷ []) k r id h.entered h.kind_known) ∙ stays

abbrev RetiresNone : List Entry → Type 0
RetiresNone book = (item : Item) (id : List ℕ) → AllByRecursion (DoesNotRetire book id) (accomplishments book item id)

pub retires_none : (book : List Entry) → IsBook book → RetiresNone book
retires_none = of_each_book RetiresNone (λ book e b shape new before item id.
    subst (AllByRecursion (DoesNotRetire (book ++ e ∷ []) id)) (sym (accomplishments-more book e item id))
    (all_append (DoesNotRetire (book ++ e ∷ []) id) (accomplishments book item id) (accomplished_by (length book + 1) item id e.act)
    (all_both (IsKept book item) (DoesNotRetire book id) (DoesNotRetire (book ++ e ∷ []) id) (still book e item id) (accomplishments book item id) (all_kept book b item id) (before item id))
    (newly book e.doc e.act item id new))) (λ item id. tt)

-- ── bases that have grown ──

abbrev AreMoved : Option Base → Option Base → Type 0
AreMoved None None = Unit {0}
AreMoved (Some old) (Some new) = (old.minutes ≤ new.minutes) × (old.cycles ≤ new.cycles) × (old.day ≤ new.day)
AreMoved _ _ = ⊥

moved_dimension : (old new : ℕ) (l : Option ℕ) → old ≤ new → option_map (λ n. new + n) l ≡ moved_by old new (option_map (λ n. old + n) l)
moved_dimension old new None h = refl
moved_dimension old new (Some n) h = let e : new + n ≡ old + n + (new - old) = omega arith in ap (λ (m : ℕ). Some m) e

abbrev limits : Option ℕ → Option ℕ → Option ℕ → Limit
limits m c d = record { minutes = m; cycles = c; days = d }

moved_limit : (old new : Base) (l : Limit) → (old.minutes ≤ new.minutes) × (old.cycles ≤ new.cycles) × (old.day ≤ new.day) → counted_from new l ≡ due_moved (Some old) (Some new) (counted_from old l)
moved_limit old new l h =
    ap (λ m. limits m (option_map (λ n. new.cycles + n) l.cycles) (option_map (λ n. new.day + n) l.days)) (moved_dimension old.minutes new.minutes l.minutes h.0)
    ∙ ap (λ c. limits (moved_by old.minutes new.minutes (option_map (λ n. old.minutes + n) l.minutes)) c (option_map (λ n. new.day + n) l.days)) (moved_dimension old.cycles new.cycles l.cycles h.1)
    ∙ ap (λ d. limits (moved_by old.minutes new.minutes (option_map (λ n. old.minutes + n) l.minutes)) (moved_by old.cycles new.cycles (option_map (λ n. old.cycles + n) l.cycles)) d) (moved_dimension old.day new.day l.days h.2)

-- the due behind a base that was moved is moved as far
moved_due : (old new : Option Base) (birth : ℕ) (o : Option Task) → AreMoved old new → option_map_or (λ t. t.retire) o false ≡ false
    → limit_or_none (option_and_then (due_after new birth) o) ≡ due_moved old new (limit_or_none (option_and_then (due_after old birth) o))
moved_due None None birth o h stays = refl
moved_due None (Some new) birth o h stays = absurd h
moved_due (Some old) None birth o h stays = absurd h
moved_due (Some old) (Some new) birth None h stays = refl
moved_due (Some old) (Some new) birth (Some t) h stays = at t.retire t.repeat stays
  where
    at : (b : Bool) (repeat : Option Limit) → b ≡ false → limit_or_none (cond b (Some (first_due birth t)) (option_map (counted_from new) repeat)) ≡ due_moved (Some old) (Some new) (limit_or_none (cond b (Some (first_due birth t)) (option_map (counted_from old) repeat)))
    at true repeat e = (cc)
    at false None e = refl
    at false (Some l) e = moved_limit old new l h

lesser_grows : (v more o n : ℕ) (d : Option ℕ) → v ≤ more → lesser v d ≤ lesser more (moved_by o n d)
lesser_grows v more o n None h = h
lesser_grows v more o n (Some x) h = omega arith

-- ── the rows ──

record IsCredited (row more : DoneRow) : Type 0 where
  same_seq : more.seq ≡ row.seq
  same_due : more.due ≡ row.due
  same_base : more.base ≡ row.base
  minutes_grow : row.value.minutes ≤ more.value.minutes
  cycles_grow : row.value.cycles ≤ more.value.cycles
  day_grows : row.value.day ≤ more.value.day

credited : (book : List Entry) (numbers : List ℕ) (s : Sector) (row : DoneRow) → IsCredited row (credited_late book numbers s row)
credited book numbers s row = at (list_any (nat_eq row.item) numbers && is_behind book s row)
  where
    at : (b : Bool) → IsCredited row (cond {A = DoneRow} b (record row { value = value_more s row.value }) row)
    at true = record { same_seq = refl; same_due = refl; same_base = refl; minutes_grow = omega arith; cycles_grow = omega arith; day_grows = omega arith }
    at false = record { same_seq = refl; same_due = refl; same_base = refl; minutes_grow = omega arith; cycles_grow = omega arith; day_grows = omega arith }

module _ (book : List Entry) (doc : List ℕ) (act : Act) (n : ℕ) (item : Item) (id : List ℕ) (credit : DoneRow → DoneRow) (grows : (row : DoneRow) → IsCredited row (credit row)) where
  abbrev after : List Entry
  after = book ++ record { doc = doc; act = act } ∷ []

  -- the due of an accomplishment with the entry, behind a base that was moved
  due_then : (old new : Option Base) (a : Accomplishment) → AreMoved old new → IsKept book item a → DoesNotRetire book id a → due_limit after item id new a ≡ due_moved old new (due_limit book item id old a)
  due_then None None (Stated o) h kept stays = refl
  due_then None (Some new) (Stated o) h kept stays = absurd h
  due_then (Some old) None (Stated o) h kept stays = absurd h
  due_then (Some old) (Some new) (Stated o) h kept stays = refl
  due_then old new (DoneIn k r) h kept stays =
      ap (λ m. limit_or_none (option_and_then (due_after new m) (task_then after k r id))) (birth_kept book (record { doc = doc; act = act } ∷ []) item kept.item_known)
      ∙ ap (λ o. limit_or_none (option_and_then (due_after new (birth book item)) o)) (task_kept book (record { doc = doc; act = act } ∷ []) k r id kept.entered kept.kind_known)
      ∙ moved_due old new (birth book item) (task_then book k r id) h stays

  grown : (old new : Option Base) (value more : Base) (due : Limit) → (value.minutes ≤ more.minutes) × (value.cycles ≤ more.cycles) × (value.day ≤ more.day) → AreMoved old new
      → AreMoved (Some (lesser_of value due)) (Some (lesser_of more (due_moved old new due)))
  grown None None value more due v h = (least value.minutes more.minutes due.minutes v.0, least value.cycles more.cycles due.cycles v.1, least value.day more.day due.days v.2)
    where
      least : (v more : ℕ) (d : Option ℕ) → v ≤ more → lesser v d ≤ lesser more d
      least v more None h = h
      least v more (Some x) h = omega arith
  grown None (Some new) value more due v h = absurd h
  grown (Some old) None value more due v h = absurd h
  grown (Some old) (Some new) value more due v h =
      (lesser_grows value.minutes more.minutes old.minutes new.minutes due.minutes v.0, lesser_grows value.cycles more.cycles old.cycles new.cycles due.cycles v.1, lesser_grows value.day more.day old.day new.day due.days v.2)

  -- due and base anew are what they were, moved
  moved_chain : (old new : Option Base) (ps : List Placed) → AreMoved old new → AllByRecursion (λ (p : Placed). Says after p.seq p.what) ps → AllByRecursion (λ (p : Placed). IsKept book item p.what) ps → AllByRecursion (λ (p : Placed). DoesNotRetire book id p.what) ps
      → rebased after item id new (map credit (done_chain book n item id old ps)) ≡ moved old new (map credit (done_chain book n item id old ps))
  moved_chain old new [] h says kept stays = refl
  moved_chain old new (p ∷ ps) h says kept stays =
      let row = done_row book n item id old p in
      let more = credit row in
      let g = grows row in
      let rest : List DoneRow = map credit (done_chain book n item id (Some (base_of book item id old p.what)) ps) in
      let due : due_anew after item id new more ≡ due_moved old new more.due =
      anew after item id new more p.what (subst (λ k. Says after k p.what) (sym g.same_seq) says.0)
      ∙ due_then old new p.what h kept.0 stays.0
      ∙ ap (due_moved old new) (sym g.same_due) in
      let base : lesser_of row.value row.due ≡ more.base = lesser_is_base book item id old p.what ∙ sym g.same_base in
      let next : AreMoved (Some (base_of book item id old p.what)) (Some (lesser_of more.value (due_moved old new more.due))) =
      subst (λ (b : Base). AreMoved (Some b) (Some (lesser_of more.value (due_moved old new more.due)))) (lesser_is_base book item id old p.what)
      (subst (λ (l : Limit). AreMoved (Some (lesser_of row.value row.due)) (Some (lesser_of more.value (due_moved old new l)))) (sym g.same_due)
      (grown old new row.value more.value row.due (g.minutes_grow, g.cycles_grow, g.day_grows) h)) in
      ap (λ (d : Limit). row_with more d ∷ rebased after item id (Some (lesser_of more.value d)) rest) due
      ∙ ap (λ l. row_with more (due_moved old new more.due) ∷ l)
      (moved_chain (Some (base_of book item id old p.what)) (Some (lesser_of more.value (due_moved old new more.due))) ps next says.1 kept.1 stays.1
      ∙ ap (λ (b : Base). moved (Some b) (Some (lesser_of more.value (due_moved old new more.due))) rest) (sym g.same_base))

-- so the rows of a task of an item with a late sector follow from what they were, whatever programmes there are
pub late_moved : (book : List Entry) (doc : List ℕ) (s : Sector) (numbers : List ℕ) (n : ℕ) (item : Item) (id : List ℕ) → IsBook book
    → rebased (book ++ record { doc = doc; act = Flown s } ∷ []) item id None (map (credited_late book numbers s) (done_rows_of book n item id)) ≡ moved None None (map (credited_late book numbers s) (done_rows_of book n item id))
late_moved book doc s numbers n item id b =
    let e : Entry = record { doc = doc; act = Flown s } in
    let same : placed (book ++ e ∷ []) item id ≡ placed book item id = placed-more book e item id ∙ append-nil (placed book item id) in
    moved_chain book doc (Flown s) n item id (credited_late book numbers s) (credited book numbers s) None None (placed book item id) tt
    (subst (AllByRecursion (λ (p : Placed). Says (book ++ e ∷ []) p.seq p.what)) same (placed_said (book ++ e ∷ []) item id))
    (placed_kept book b item id)
    (all_mapped (λ (p : Placed). p.what) (DoesNotRetire book id) (placed book item id) (subst (AllByRecursion (DoesNotRetire book id)) (sym (placed_what book item id)) (retires_none book b item id)))
