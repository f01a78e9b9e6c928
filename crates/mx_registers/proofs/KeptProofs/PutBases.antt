-- The last bases of a book with a new command.
use Rattle.std.proofs.Common.{refl, sym, ap, ◌∙◌, ◌≡◌, ℕ, ◌/◌, List, [], ◌∷◌, ◌++◌, Bool, true, false, cond, ◌&&◌, ◌||◌, Option, Some, None}
use Rattle.std.specs.Prelude.{IsPermutation}
use Rattle.std.specs.List.{list_any, filter_map}
use Rattle.mx_base.specs.declared.amounts.Base.{Base}
use Rattle.mx_book.specs.commands.Act.{Act, Entry, Flown, Opened, Released}
use Rattle.mx_book.specs.commands.Same.{same_text, same_item}
use Rattle.mx_book.specs.commands.Shape.{act_shape, has_shape}
use Rattle.mx_book.specs.declared.commands.item.Item.{Item}
use Rattle.mx_book.specs.declared.commands.item.Item.TheVariants.{Airframe}
use Rattle.mx_book.specs.declared.commands.release.Line.{Line}
use Rattle.mx_book.specs.declared.commands.release.Line.TheVariants.{Done, Rectified}
use Rattle.mx_book.specs.declared.commands.release.Release.{Release}
use Rattle.mx_book.proofs.CommandsProofs.SameLemmas.{text_same}
use Rattle.mx_book.specs.due.Due.{base_done}
use Rattle.mx_book.specs.declared.verdict.Verdict.TheVariants.{New}
use Rattle.mx_book.specs.Base.{base}
use Rattle.mx_book.specs.Book.{IsBook, is_new}
use Rattle.mx_book.specs.Judge.{judge}
use Rattle.mx_book.specs.Life.{clock, life_now, use_or_none}
use Rattle.mx_book.specs.Programme.{is_done}
use Rattle.mx_book.proofs.JudgeLemmas.{IsBook-entered, both_true}
use Rattle.mx_registers.specs.Names.{has_item, item_at, or_zero, seq_of_item}
use Rattle.mx_registers.proofs.NameLemmas.{item_known, item_number}
use Rattle.mx_registers.proofs.NewLemmas.{HasLines, opened_is_known, released_is_known}
use Rattle.mx_base.specs.declared.rows.rows.BaseRow.{BaseRow}
use Rattle.mx_base.specs.rows.Rows.{base_in_row, base_row_with}
use Rattle.mx_registers.specs.kept.Bases.{base_in, base_put, base_rows, base_set, base_stated, bases_by, bases_put}
use Rattle.mx_registers.specs.kept.Changes.{due_at, sectors_late}
use Rattle.mx_registers.proofs.KeptProofs.BaseGrowth.{timely_none_late}
use Rattle.mx_registers.proofs.KeptProofs.BaseRows.{base_in_rows}
use Rattle.mx_registers.proofs.KeptProofs.DoneLemmas.{both, item_same}
use Rattle.mx_registers.proofs.KeptProofs.KeyedLemmas.{base_rows_once, bases_decided}
use Rattle.mx_registers.proofs.KeptProofs.ReleaseBases.{opened-base, released-base, unaccomplished-base}
use Rattle.mx_registers.proofs.KeptProofs.PutLemmas.{put_in, puts_once}
use Rattle.mx_registers.proofs.KeptProofs.NumberLemmas.{no_rows, number_other, number_same, unknown_unbased}
use Rattle.mx_registers.proofs.KeptProofs.ItemNumbers.{item_at_kept}
use Rattle.mx_registers.proofs.KeptProofs.JudgedLemmas.{new-timely, not_passed}

-- ── the lines of a release, one after another ──

module _ (book : List Entry) (b : IsBook book) (r : Release) (n : ℕ) (id : List ℕ) where
  abbrev reached : Item → List ℕ → Base
  reached item task = base_done (use_or_none (life_now book item)) (r.moment / 1440) (due_at book r.place item task)

  abbrev row_set : Item → List ℕ → BaseRow
  row_set item task = base_row_with (or_zero (seq_of_item book item)) task (reached item task)

  first_or_rest : (c any : Bool) (own value : Base) (o : Option Base) → (c ≡ true → own ≡ value) → cond any (Some value) (cond c (Some own) o) ≡ cond (c || any) (Some value) o
  first_or_rest true true own value o same = refl
  first_or_rest true false own value o same = ap Some (same refl)
  first_or_rest false any own value o same = refl

  -- of an item: what it has reached, where a line certifies the task, and else what there was
  pub lines_put : (item : Item) → item_at book n ≡ Some item → (lines : List Line) → HasLines book lines → (rows : List BaseRow)
      → base_in (bases_put (filter_map (base_set book r) lines) rows) n id ≡ cond (list_any (is_done item id) lines) (Some (reached item id)) (base_in rows n id)
  lines_put item h [] known rows = refl
  lines_put item h (Done done task ∷ lines) known rows =
      lines_put item h lines known.1 (base_put (row_set done task) rows)
      ∙ ap (cond (list_any (is_done item id) lines) (Some (reached item id)))
      (put_in (row_set done task) rows n id ∙ ap (λ c. cond (c && same_text task id) (Some (reached done task)) (base_in rows n id)) (number_same book done item n b known.0 h))
      ∙ first_or_rest (same_item done item && same_text task id) (list_any (is_done item id) lines) (reached done task) (reached item id) (base_in rows n id)
      (λ e. let parts = both (same_item done item) (same_text task id) e in ap (λ i. reached i task) (item_same done item parts.0) ∙ ap (reached item) ((text_same task id).0 parts.1))
  lines_put item h (Rectified doc ∷ lines) known rows = lines_put item h lines known.1 rows

  -- of a number that no item has: what there was
  pub lines_leave : item_at book n ≡ None → (lines : List Line) → HasLines book lines → (rows : List BaseRow) → base_in (bases_put (filter_map (base_set book r) lines) rows) n id ≡ base_in rows n id
  lines_leave h [] known rows = refl
  lines_leave h (Done done task ∷ lines) known rows =
      lines_leave h lines known.1 (base_put (row_set done task) rows)
      ∙ put_in (row_set done task) rows n id
      ∙ ap (λ c. cond (c && same_text task id) (Some (reached done task)) (base_in rows n id)) (number_other book done n known.0 h)
  lines_leave h (Rectified doc ∷ lines) known rows = lines_leave h lines known.1 rows

-- ── a new command ──

-- by the rules of today, no sector is late: each takes off by the clock of its airframe
pub none_late : (book : List Entry) (doc : List ℕ) (act : Act) → IsBook book → judge book (record { doc = doc; act = act }) ≡ New → act_shape act ≡ true → (item : Item) → sectors_late book item act ≡ []
none_late book doc (Flown s) b new shape item = timely_none_late book s item b shape (not_passed s.off (clock book (Airframe s.tail)) (new-timely book (record { doc = doc; act = Flown s }) new))
none_late book doc _ b new shape item = refl

module _ (book : List Entry) (doc : List ℕ) (n : ℕ) (id : List ℕ) (b : IsBook book) where
  -- of an item of the book
  of_item : (act : Act) (item : Item) → judge book (record { doc = doc; act = act }) ≡ New → act_shape act ≡ true → sectors_late book item act ≡ [] → item_at book n ≡ Some item
      → base_in (bases_put (bases_by book act) (base_rows book)) n id ≡ base (book ++ record { doc = doc; act = act } ∷ []) item id
  of_item (Opened o) item new shape late h =
      put_in (base_stated book o) (base_rows book) n id
      ∙ ap (λ c. cond (c && same_text o.task id) (Some (base_in_row (base_stated book o))) (base_in (base_rows book) n id)) (number_same book o.item item n b (opened_is_known book doc o (ap is_new new)) h)
      ∙ ap (cond (same_item o.item item && same_text o.task id) (Some (base_in_row (base_stated book o)))) (base_in_rows book n item id b h)
      ∙ sym (opened-base book doc o item id b new shape)
  of_item (Released r lines) item new shape late h =
      lines_put book b r n id item h lines (released_is_known book doc r lines (ap is_new new)).1 (base_rows book)
      ∙ ap (cond (list_any (is_done item id) lines) (Some (base_done (use_or_none (life_now book item)) (r.moment / 1440) (due_at book r.place item id)))) (base_in_rows book n item id b h)
      ∙ sym (released-base book doc r lines item id b new shape)
  of_item act item new shape late h = base_in_rows book n item id b h ∙ sym (unaccomplished-base book doc act item id b new shape late refl)

  -- of a number that no item of the book has
  of_none : (act : Act) → judge book (record { doc = doc; act = act }) ≡ New → item_at book n ≡ None → base_in (bases_put (bases_by book act) (base_rows book)) n id ≡ None
  of_none (Opened o) new h =
      put_in (base_stated book o) (base_rows book) n id
      ∙ ap (λ c. cond (c && same_text o.task id) (Some (base_in_row (base_stated book o))) (base_in (base_rows book) n id)) (number_other book o.item n (opened_is_known book doc o (ap is_new new)) h)
      ∙ no_rows book n id b h
  of_none (Released r lines) new h = lines_leave book b r n id h lines (released_is_known book doc r lines (ap is_new new)).1 (base_rows book) ∙ no_rows book n id b h
  of_none act new h = no_rows book n id b h

  module _ (act : Act) (new : judge book (record { doc = doc; act = act }) ≡ New) (shape : act_shape act ≡ true) (late : (item : Item) → sectors_late book item act ≡ []) (after : IsBook (book ++ record { doc = doc; act = act } ∷ [])) where
    abbrev c : Entry
    c = record { doc = doc; act = act }

    -- an item whose number is new is not in the book
    pub new_item : (item : Item) → item_at book n ≡ None → item_at (book ++ c ∷ []) n ≡ Some item → has_item book item ≡ false
    new_item item none h = at (has_item book item) refl
      where
        at : (t : Bool) → has_item book item ≡ t → t ≡ false
        at true e =
            let m = or_zero (seq_of_item book item) in
            let there = item_known book item e in
            let number : n ≡ m = item_number (book ++ c ∷ []) item n after.judged h ∙ sym (item_number (book ++ c ∷ []) item m after.judged (item_at_kept book (c ∷ []) m item there)) in
            let p : None ≡ Some item = sym none ∙ ap (item_at book) number ∙ there in (cc)
        at false e = refl

    with_command : (o : Option Item) → item_at book n ≡ None → item_at (book ++ c ∷ []) n ≡ o → base_in (base_rows (book ++ c ∷ [])) n id ≡ None
    with_command None none h = no_rows (book ++ c ∷ []) n id after h
    with_command (Some item) none h =
        let absent = new_item item none h in
        base_in_rows (book ++ c ∷ []) n item id after h ∙ unknown_unbased book c item id b new absent

    pub says_same : (o : Option Item) → item_at book n ≡ o → base_in (bases_put (bases_by book act) (base_rows book)) n id ≡ base_in (base_rows (book ++ c ∷ [])) n id
    says_same (Some item) h = of_item act item new shape (late item) h ∙ sym (base_in_rows (book ++ c ∷ []) n item id after (item_at_kept book (c ∷ []) n item h))
    says_same None h = of_none act new h ∙ sym (with_command (item_at (book ++ c ∷ []) n) h refl)

-- the last bases with a new command that gives no item a sector late are those that it sets in place of what they were
pub timely_bases : (book : List Entry) (doc : List ℕ) (act : Act) → IsBook book → judge book (record { doc = doc; act = act }) ≡ New → has_shape (record { doc = doc; act = act }) ≡ true → ((item : Item) → sectors_late book item act ≡ [])
    → IsPermutation (bases_put (bases_by book act) (base_rows book)) (base_rows (book ++ record { doc = doc; act = act } ∷ []))
timely_bases book doc act b new shape late =
    let c : Entry = record { doc = doc; act = act } in
    let after = IsBook-entered book c b shape new in
    bases_decided (book ++ c ∷ []) (bases_put (bases_by book act) (base_rows book)) (puts_once (bases_by book act) (base_rows book) (base_rows_once book))
    (λ n id. says_same book doc n id b act new (both_true _ _ shape).0 late after (item_at book n) refl)

-- the last bases with a new command
pub command_bases : (book : List Entry) (doc : List ℕ) (act : Act) → IsBook book → judge book (record { doc = doc; act = act }) ≡ New → has_shape (record { doc = doc; act = act }) ≡ true
    → IsPermutation (bases_put (bases_by book act) (base_rows book)) (base_rows (book ++ record { doc = doc; act = act } ∷ []))
command_bases book doc act b new shape = timely_bases book doc act b new shape (none_late book doc act b new (both_true _ _ shape).0)
