-- The rows of the accomplishments of a task of an item with one command more.
use Rattle.std.proofs.Common.{arith, refl, sym, ap, ◌∙◌, ◌≡◌, ℕ, ◌+◌, ◌/◌, length, List, [], ◌∷◌, ◌++◌, Bool, true, false, cond, nat_eq, ◌&&◌, Option, Some, None, append_assoc, append-nil}
use Rattle.std.specs.Prelude.{nat_le, map, filter, fold, is_some}
use Rattle.std.specs.List.{list_any, AllByRecursion}
use Rattle.std.specs.Option.{option_map, option_map_or, option_or, option_and_then}
use Rattle.mx_base.specs.declared.amounts.Base.{Base}
use Rattle.mx_base.specs.declared.amounts.Limit.{Limit}
use Rattle.mx_base.specs.declared.amounts.Use.{Use}
use Rattle.mx_book.specs.commands.Act.{Act, Entry, Flown}
use Rattle.mx_book.specs.commands.Shape.{act_shape}
use Rattle.mx_book.specs.declared.commands.item.Item.{Item}
use Rattle.mx_book.specs.declared.commands.item.Item.TheVariants.{Airframe, Component}
use Rattle.mx_book.specs.declared.commands.release.Release.{Release}
use Rattle.mx_book.specs.declared.commands.sector.Sector.{Sector}
use Rattle.mx_book.specs.due.Due.{due_after}
use Rattle.mx_book.specs.declared.verdict.Verdict.TheVariants.{New}
use Rattle.mx_book.specs.Register.{birth}
use Rattle.mx_book.specs.Book.{IsBook, is_new}
use Rattle.mx_book.specs.Judge.{judge}
use Rattle.mx_book.specs.Life.{credited, is_credited, has_landed_by, minutes_flown, use_after, life_at, opening_of, use_or_none}
use Rattle.mx_book.specs.Base.{Accomplishment, Stated, DoneIn, base, base_of, base_from, task_then, base_at, value_of}
use Rattle.mx_registers.specs.Names.{item_at, or_zero, seq_of_tail, has_item}
use Rattle.mx_registers.proofs.NewLemmas.{flown_is_known}
use Rattle.mx_base.specs.declared.rows.rows.DoneRow.{DoneRow}
use Rattle.mx_registers.specs.kept.Changes.{sectors_given, sectors_late}
use Rattle.mx_registers.specs.kept.Spans.{span_rows}
use Rattle.mx_registers.specs.kept.Totals.{numbers_during}
use Rattle.mx_registers.specs.late.Done.{Placed, placed_by, placed_from, placed, limit_or_none, due_limit, done_row, done_chain, done_rows_of, release_at, is_behind, value_more, credited_late, rebased, valued, last_base}
use Rattle.mx_registers.proofs.KeptProofs.LifeGrowth.{life-more, opening_known}
use Rattle.mx_registers.proofs.KeptProofs.NumbersThere.{numbers_are_credited}
use Rattle.mx_registers.proofs.KeptProofs.DoneLemmas.{IsKept}
use Rattle.mx_registers.proofs.KeptProofs.BaseGrowth.{life_kept, base_kept, birth_kept, task_kept}
use Rattle.mx_registers.proofs.LateProofs.DoneChain.{Says, placed_said, placed_what, placed_kept, rebased_rows}

-- ── a sector more ──

or_nothing : (o : Option Use) → option_or o None ≡ o
or_nothing None = refl
or_nothing (Some u) = refl

flown_opens_none : (doc : List ℕ) (s : Sector) (item : Item) → opening_of (record { doc = doc; act = Flown s } ∷ []) item ≡ None
flown_opens_none doc s (Airframe tail) = refl
flown_opens_none doc s (Component serial) = refl

some_map : {X Y : Type 0} (f : X → Y) (o : Option X) → is_some (option_map f o) ≡ is_some o
some_map f None = refl
some_map f (Some x) = refl

used_map : (f : Use → Use) (o : Option Use) → is_some o ≡ true → use_or_none (option_map f o) ≡ f (use_or_none o)
used_map f None h = (cc)
used_map f (Some u) h = refl

-- the sectors that one gives an item, by a moment
given_by : (c : Bool) (s : Sector) (m : ℕ) → filter (has_landed_by (Some m)) (cond c (s ∷ []) []) ≡ cond (c && nat_le s.on m) (s ∷ []) []
given_by true s m = refl
given_by false s m = refl

-- what an item had reached by a moment, with a sector more: that is added where the item is credited with it and it had landed
pub reached_more : (book : List Entry) (doc : List ℕ) (s : Sector) (item : Item) (m : ℕ) → IsBook book → judge book (record { doc = doc; act = Flown s }) ≡ New → act_shape (Flown s) ≡ true → has_item book item ≡ true
    → use_or_none (life_at (book ++ record { doc = doc; act = Flown s } ∷ []) item m) ≡ use_after (cond (is_credited book item s && nat_le s.on m) (s ∷ []) []) (use_or_none (life_at book item m))
reached_more book doc s item m b new shape known =
    ap use_or_none (life-more book doc (Flown s) item (Some m) b new shape)
    ∙ ap (λ o. use_or_none (option_or (option_map (use_after (filter (has_landed_by (Some m)) (sectors_given book item (Flown s)))) (life_at book item m)) o)) (flown_opens_none doc s item)
    ∙ ap use_or_none (or_nothing (option_map (use_after (filter (has_landed_by (Some m)) (sectors_given book item (Flown s)))) (life_at book item m)))
    ∙ used_map (use_after (filter (has_landed_by (Some m)) (sectors_given book item (Flown s)))) (life_at book item m)
    (some_map (use_after (filter (has_landed_by (Some m)) (credited book item))) (opening_of book item) ∙ opening_known book item ∙ known)
    ∙ ap (λ l. use_after l (use_or_none (life_at book item m))) (given_by (is_credited book item s) s m)

abbrev based : ℕ → ℕ → ℕ → Base
based m c d = record { minutes = m; cycles = c; day = d }

value_added : (c : Bool) (s : Sector) (u : Use) (day : ℕ) → base_at (use_after (cond c (s ∷ []) []) u) day ≡ cond {A = Base} c (value_more s (base_at u day)) (base_at u day)
value_added true s u day =
    let m : u.minutes + (minutes_flown s + 0) ≡ u.minutes + minutes_flown s = omega arith in
    let c : u.cycles + (s.cycles + 0) ≡ u.cycles + s.cycles = omega arith in
    ap (λ n. based n (u.cycles + (s.cycles + 0)) day) m ∙ ap (λ n. based (u.minutes + minutes_flown s) n day) c
value_added false s u day =
    let m : u.minutes + 0 ≡ u.minutes = omega arith in
    let c : u.cycles + 0 ≡ u.cycles = omega arith in
    ap (λ n. based n (u.cycles + 0) day) m ∙ ap (λ n. based u.minutes n day) c

abbrev row_of : ℕ → List ℕ → ℕ → ℕ → Base → Limit → Base → DoneRow
row_of n id seq line value due base = record { item = n; task = id; seq = seq; line = line; value = value; due = due; base = base }

-- a sector is behind no opening, and a release is behind it where it had landed
abbrev credits : List Entry → Item → Sector → Accomplishment → Bool
credits book item s (Stated o) = false
credits book item s (DoneIn k r) = is_credited book item s && nat_le s.on r.moment

and_false : (b : Bool) → b && false ≡ false
and_false true = refl
and_false false = refl

credited_row : (b : Bool) (n : ℕ) (id : List ℕ) (seq line : ℕ) (value more : Base) (due : Limit) (base : Base)
    → (cond {A = DoneRow} b (record (row_of n id seq line value due base) { value = more }) (row_of n id seq line value due base)) ≡ row_of n id seq line (cond {A = Base} b more value) due base
credited_row true n id seq line value more due base = refl
credited_row false n id seq line value more due base = refl

module _ (book : List Entry) (doc : List ℕ) (s : Sector) (n : ℕ) (item : Item) (id : List ℕ) (b : IsBook book) (new : judge book (record { doc = doc; act = Flown s }) ≡ New) (shape : act_shape (Flown s) ≡ true)
    (known : has_item book item ≡ true) (number : item_at book n ≡ Some item) where
  abbrev after : List Entry
  after = book ++ record { doc = doc; act = Flown s } ∷ []

  abbrev numbers : List ℕ
  numbers = numbers_during (or_zero (seq_of_tail book s.tail)) s.off s.on (span_rows book)

  among : list_any (nat_eq n) numbers ≡ is_credited book item s
  among = numbers_are_credited book s n item b (flown_is_known book doc s (ap is_new new)) known number

  chosen : (before : Option Base) (p : Placed) → Says book p.seq p.what → list_any (nat_eq n) numbers && is_behind book s (done_row book n item id before p) ≡ credits book item s p.what
  chosen before p says = at p.what says
    where
      at : (a : Accomplishment) → Says book p.seq a → list_any (nat_eq n) numbers && option_map_or (λ (r : Release). nat_le s.on r.moment) (release_at book p.seq) false ≡ credits book item s a
      at (Stated o) h = ap (λ x. list_any (nat_eq n) numbers && option_map_or (λ (r : Release). nat_le s.on r.moment) x false) h ∙ and_false (list_any (nat_eq n) numbers)
      at (DoneIn k r) h =
          ap (λ x. list_any (nat_eq n) numbers && option_map_or (λ (r : Release). nat_le s.on r.moment) x false) h.1
          ∙ ap (λ c. c && nat_le s.on r.moment) among

  value_then : (a : Accomplishment) → value_of after item a ≡ cond {A = Base} (credits book item s a) (value_more s (value_of book item a)) (value_of book item a)
  value_then (Stated o) = refl
  value_then (DoneIn k r) =
      ap (λ u. base_at u (r.moment / 1440)) (reached_more book doc s item r.moment b new shape known)
      ∙ value_added (is_credited book item s && nat_le s.on r.moment) s (use_or_none (life_at book item r.moment)) (r.moment / 1440)

  -- the row of an accomplishment, credited late, has the value that the accomplishment has with the sector
  credited_value : (before : Option Base) (p : Placed) → Says book p.seq p.what
      → credited_late book numbers s (done_row book n item id before p) ≡ row_of n id p.seq p.line (value_of after item p.what) (due_limit book item id before p.what) (base_of book item id before p.what)
  credited_value before p says =
      ap (λ c. cond {A = DoneRow} c (record (done_row book n item id before p) { value = value_more s (value_of book item p.what) }) (done_row book n item id before p)) (chosen before p says)
      ∙ credited_row (credits book item s p.what) n id p.seq p.line (value_of book item p.what) (value_more s (value_of book item p.what)) (due_limit book item id before p.what) (base_of book item id before p.what)
      ∙ ap (λ v. row_of n id p.seq p.line v (due_limit book item id before p.what) (base_of book item id before p.what)) (sym (value_then p.what))

  credited_chain : (before other : Option Base) (ps : List Placed) → AllByRecursion (λ (p : Placed). Says book p.seq p.what) ps
      → map valued (map (credited_late book numbers s) (done_chain book n item id before ps)) ≡ map valued (done_chain after n item id other ps)
  credited_chain before other [] h = refl
  credited_chain before other (p ∷ ps) h =
      ap (λ r. valued r ∷ map valued (map (credited_late book numbers s) (done_chain book n item id (Some (base_of book item id before p.what)) ps))) (credited_value before p h.0)
      ∙ ap (λ l. valued (done_row after n item id other p) ∷ l) (credited_chain (Some (base_of book item id before p.what)) (Some (base_of after item id other p.what)) ps h.1)

-- ── the accomplishments with one entry more ──

from-more : (k : ℕ) (item : Item) (id : List ℕ) (book : List Entry) (e : Entry) → placed_from k item id (book ++ e ∷ []) ≡ placed_from k item id book ++ placed_by (k + length book) item id e.act
from-more k item id [] e =
    let same : k ≡ k + 0 = omega arith in append-nil (placed_by k item id e.act) ∙ ap (λ n. placed_by n item id e.act) same
from-more k item id (x ∷ book) e =
    let same : k + 1 + length book ≡ k + length (x ∷ book) = omega arith in
    ap (λ l. placed_by k item id x.act ++ l) (from-more (k + 1) item id book e ∙ ap (λ n. placed_from (k + 1) item id book ++ placed_by n item id e.act) same)
    ∙ sym (append_assoc (placed_by k item id x.act) (placed_from (k + 1) item id book) (placed_by (k + length (x ∷ book)) item id e.act))

pub placed-more : (book : List Entry) (e : Entry) (item : Item) (id : List ℕ) → placed (book ++ e ∷ []) item id ≡ placed book item id ++ placed_by (length book + 1) item id e.act
placed-more book e item id =
    let same : 1 + length book ≡ length book + 1 = omega arith in
    from-more 1 item id book e ∙ ap (λ n. placed book item id ++ placed_by n item id e.act) same

-- the values of the rows with a sector more: those of the items credited with it, whose release was behind its landing, have it added
pub credited_values : (book : List Entry) (doc : List ℕ) (s : Sector) (n : ℕ) (item : Item) (id : List ℕ) → IsBook book → judge book (record { doc = doc; act = Flown s }) ≡ New → act_shape (Flown s) ≡ true
    → has_item book item ≡ true → item_at book n ≡ Some item
    → map valued (map (credited_late book (numbers_during (or_zero (seq_of_tail book s.tail)) s.off s.on (span_rows book)) s) (done_rows_of book n item id)) ≡ map valued (done_rows_of (book ++ record { doc = doc; act = Flown s } ∷ []) n item id)
credited_values book doc s n item id b new shape known number =
    let after = book ++ record { doc = doc; act = Flown s } ∷ [] in
    credited_chain book doc s n item id b new shape known number None None (placed book item id) (placed_said book item id)
    ∙ ap (λ ps. map valued (done_chain after n item id None ps)) (sym (placed-more book (record { doc = doc; act = Flown s }) item id ∙ append-nil (placed book item id)))

-- so the rows credited late, due and base anew, are those of the book with the sector
pub credited_rebased : (book : List Entry) (doc : List ℕ) (s : Sector) (n : ℕ) (item : Item) (id : List ℕ) → IsBook book → judge book (record { doc = doc; act = Flown s }) ≡ New → act_shape (Flown s) ≡ true
    → has_item book item ≡ true → item_at book n ≡ Some item
    → rebased (book ++ record { doc = doc; act = Flown s } ∷ []) item id None (map (credited_late book (numbers_during (or_zero (seq_of_tail book s.tail)) s.off s.on (span_rows book)) s) (done_rows_of book n item id))
    ≡ done_rows_of (book ++ record { doc = doc; act = Flown s } ∷ []) n item id
credited_rebased book doc s n item id b new shape known number =
    rebased_rows (book ++ record { doc = doc; act = Flown s } ∷ []) n item id (map (credited_late book (numbers_during (or_zero (seq_of_tail book s.tail)) s.off s.on (span_rows book)) s) (done_rows_of book n item id))
    (credited_values book doc s n item id b new shape known number)

-- ── a command that gives the item no sector late ──

chain-append : (book : List Entry) (n : ℕ) (item : Item) (id : List ℕ) (before : Option Base) (ps qs : List Placed)
    → done_chain book n item id before (ps ++ qs) ≡ done_chain book n item id before ps ++ done_chain book n item id (base_from book item id before (map (λ (p : Placed). p.what) ps)) qs
chain-append book n item id before [] qs = refl
chain-append book n item id before (p ∷ ps) qs = ap (λ l. done_row book n item id before p ∷ l) (chain-append book n item id (Some (base_of book item id before p.what)) ps qs)

module _ (book : List Entry) (doc : List ℕ) (act : Act) (n : ℕ) (item : Item) (id : List ℕ) (b : IsBook book) (new : judge book (record { doc = doc; act = act }) ≡ New) (shape : act_shape act ≡ true) (late : sectors_late book item act ≡ []) where
  abbrev with_act : List Entry
  with_act = book ++ record { doc = doc; act = act } ∷ []

  row_kept : (before : Option Base) (p : Placed) → IsKept book item p.what → done_row with_act n item id before p ≡ done_row book n item id before p
  row_kept before p kept =
      ap (λ v. row_of n id p.seq p.line v (due_limit with_act item id before p.what) (base_of with_act item id before p.what)) (value_same p.what kept)
      ∙ ap (λ d. row_of n id p.seq p.line (value_of book item p.what) d (base_of with_act item id before p.what)) (due_same p.what kept)
      ∙ ap (row_of n id p.seq p.line (value_of book item p.what) (due_limit book item id before p.what)) (base_kept book doc act item id b new shape late p.what kept before)
    where
      value_same : (a : Accomplishment) → IsKept book item a → value_of with_act item a ≡ value_of book item a
      value_same (Stated o) h = refl
      value_same (DoneIn k r) h = ap (λ o. base_at (use_or_none o) (r.moment / 1440)) (life_kept book doc act item r.moment b new shape h.item_known late h.timely)

      due_same : (a : Accomplishment) → IsKept book item a → due_limit with_act item id before a ≡ due_limit book item id before a
      due_same (Stated o) h = refl
      due_same (DoneIn k r) h =
          ap (λ m. limit_or_none (option_and_then (due_after before m) (task_then with_act k r id))) (birth_kept book (record { doc = doc; act = act } ∷ []) item h.item_known)
          ∙ ap (λ o. limit_or_none (option_and_then (due_after before (birth book item)) o)) (task_kept book (record { doc = doc; act = act } ∷ []) k r id h.entered h.kind_known)

  chain_kept : (before : Option Base) (ps : List Placed) → AllByRecursion (λ (p : Placed). IsKept book item p.what) ps → done_chain with_act n item id before ps ≡ done_chain book n item id before ps
  chain_kept before [] h = refl
  chain_kept before (p ∷ ps) h =
      ap (λ r. r ∷ done_chain with_act n item id (Some (base_of with_act item id before p.what)) ps) (row_kept before p h.0)
      ∙ ap (λ x. done_row book n item id before p ∷ done_chain with_act n item id (Some x) ps) (base_kept book doc act item id b new shape late p.what h.0 before)
      ∙ ap (λ l. done_row book n item id before p ∷ l) (chain_kept (Some (base_of book item id before p.what)) ps h.1)

  from_kept : (before : Option Base) (ps : List Placed) → AllByRecursion (λ (p : Placed). IsKept book item p.what) ps → base_from with_act item id before (map (λ (p : Placed). p.what) ps) ≡ base_from book item id before (map (λ (p : Placed). p.what) ps)
  from_kept before [] h = refl
  from_kept before (p ∷ ps) h =
      ap (λ x. base_from with_act item id (Some x) (map (λ (p : Placed). p.what) ps)) (base_kept book doc act item id b new shape late p.what h.0 before)
      ∙ from_kept (Some (base_of book item id before p.what)) ps h.1

-- a command that gives the item no sector late adds its rows behind those of the book
pub done_rows-more : (book : List Entry) (doc : List ℕ) (act : Act) (n : ℕ) (item : Item) (id : List ℕ) → IsBook book → judge book (record { doc = doc; act = act }) ≡ New → act_shape act ≡ true → sectors_late book item act ≡ []
    → done_rows_of (book ++ record { doc = doc; act = act } ∷ []) n item id
    ≡ done_rows_of book n item id ++ done_chain (book ++ record { doc = doc; act = act } ∷ []) n item id (base book item id) (placed_by (length book + 1) item id act)
done_rows-more book doc act n item id b new shape late =
    let after : List Entry = book ++ record { doc = doc; act = act } ∷ [] in
    let more = placed_by (length book + 1) item id act in
    let kept = placed_kept book b item id in
    ap (done_chain after n item id None) (placed-more book (record { doc = doc; act = act }) item id)
    ∙ chain-append after n item id None (placed book item id) more
    ∙ ap (λ l. l ++ done_chain after n item id (base_from after item id None (map (λ (p : Placed). p.what) (placed book item id))) more) (chain_kept book doc act n item id b new shape late None (placed book item id) kept)
    ∙ ap (λ x. done_rows_of book n item id ++ done_chain after n item id x more)
    (from_kept book doc act n item id b new shape late None (placed book item id) kept ∙ ap (base_from book item id None) (placed_what book item id))

-- ── the last base ──

last_of_chain : (book : List Entry) (n : ℕ) (item : Item) (id : List ℕ) (before : Option Base) (ps : List Placed)
    → fold (λ (b : Option Base) (row : DoneRow). Some row.base) before (done_chain book n item id before ps) ≡ base_from book item id before (map (λ (p : Placed). p.what) ps)
last_of_chain book n item id before [] = refl
last_of_chain book n item id before (p ∷ ps) = last_of_chain book n item id (Some (base_of book item id before p.what)) ps

-- the base of the last row of a task of an item is the task's base
pub last_base_done : (book : List Entry) (n : ℕ) (item : Item) (id : List ℕ) → last_base (done_rows_of book n item id) ≡ base book item id
last_base_done book n item id = last_of_chain book n item id None (placed book item id) ∙ ap (base_from book item id None) (placed_what book item id)
