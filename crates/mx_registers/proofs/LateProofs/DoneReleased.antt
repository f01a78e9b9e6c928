-- The rows that a new release adds to the accomplishments.
use Rattle.std.proofs.Common.{refl, sym, ap, ◌∙◌, ◌≡◌, ℕ, ◌+◌, ◌/◌, length, List, [], ◌∷◌, ◌++◌, Bool, true, false, cond}
use Rattle.std.specs.Prelude.{map}
use Rattle.std.specs.List.{list_any}
use Rattle.std.specs.Option.{option_and_then}
use Rattle.mx_book.specs.commands.Act.{Entry, Released}
use Rattle.mx_book.specs.commands.Shape.{act_shape}
use Rattle.mx_book.specs.declared.commands.item.Item.{Item}
use Rattle.mx_book.specs.declared.commands.release.Line.{Line}
use Rattle.mx_book.specs.declared.commands.release.Release.{Release}
use Rattle.mx_book.specs.due.Due.{due_after}
use Rattle.mx_book.specs.declared.verdict.Verdict.TheVariants.{New}
use Rattle.mx_book.specs.Register.{birth}
use Rattle.mx_book.specs.Book.{IsBook}
use Rattle.mx_book.specs.Judge.{judge}
use Rattle.mx_book.specs.Life.{life_now, use_or_none}
use Rattle.mx_book.specs.Programme.{is_done}
use Rattle.mx_book.specs.Base.{Accomplishment, DoneIn, base, task_then, base_at, value_of}
use Rattle.mx_registers.specs.kept.Changes.{due_at}
use Rattle.mx_book.specs.due.Moved.{lesser_of}
use Rattle.mx_registers.specs.late.Done.{Placed, placed_by, limit_or_none, due_limit, done_row, done_chain, row_done}
use Rattle.mx_registers.proofs.KeptProofs.DoneLemmas.{done_there}
use Rattle.mx_registers.proofs.KeptProofs.BaseGrowth.{life_more_none, birth_kept}
use Rattle.mx_registers.proofs.KeptProofs.JudgedLemmas.{new-distinct}
use Rattle.mx_registers.proofs.KeptProofs.ReleaseBases.{life_at_release, one_line, task_now}
use Rattle.mx_registers.proofs.LateProofs.DoneChain.{by_what, lesser_is_base}

module _ (book : List Entry) (doc : List ℕ) (r : Release) (lines : List Line) (n : ℕ) (item : Item) (id : List ℕ) (b : IsBook book) (new : judge book (record { doc = doc; act = Released r lines }) ≡ New) (shape : act_shape (Released r lines) ≡ true) where
  abbrev after : List Entry
  after = book ++ record { doc = doc; act = Released r lines } ∷ []

  abbrev work : Accomplishment
  work = DoneIn (length book + 1) r

  value_now : list_any (is_done item id) lines ≡ true → value_of after item work ≡ base_at (use_or_none (life_now book item)) (r.moment / 1440)
  value_now h =
      let there = done_there book doc r lines item id new h in
      ap (λ o. base_at (use_or_none o) (r.moment / 1440)) (life_more_none book doc (Released r lines) item r.moment b new shape there.1 refl ∙ life_at_release book doc r lines item id b new h)

  due_now : list_any (is_done item id) lines ≡ true → due_limit after item id (base book item id) work ≡ limit_or_none (due_at book r.place item id)
  due_now h =
      let there = done_there book doc r lines item id new h in
      ap (λ m. limit_or_none (option_and_then (due_after (base book item id) m) (task_then after (length book + 1) r id))) (birth_kept book (record { doc = doc; act = Released r lines } ∷ []) item there.1)
      ∙ ap (λ o. limit_or_none (option_and_then (due_after (base book item id) (birth book item)) o)) (task_now book doc r lines id new)

  row_now : (p : Placed) → list_any (is_done item id) lines ≡ true → p.what ≡ work → done_row after n item id (base book item id) p ≡ row_done book r n item id p.seq p.line
  row_now p h e =
      ap (λ a. done_row after n item id (base book item id) (record { seq = p.seq; line = p.line; what = a })) e
      ∙ ap (λ x. record { item = n; task = id; seq = p.seq; line = p.line; value = value_of after item work; due = due_limit after item id (base book item id) work; base = x }) (sym (lesser_is_base after item id (base book item id) work))
      ∙ ap (λ v. record { item = n; task = id; seq = p.seq; line = p.line; value = v; due = due_limit after item id (base book item id) work; base = lesser_of v (due_limit after item id (base book item id) work) }) (value_now h)
      ∙ ap (λ d. record { item = n; task = id; seq = p.seq; line = p.line; value = base_at (use_or_none (life_now book item)) (r.moment / 1440); due = d; base = lesser_of (base_at (use_or_none (life_now book item)) (r.moment / 1440)) d }) (due_now h)

  rows_now : (c : Bool) (ps : List Placed) → list_any (is_done item id) lines ≡ c → map (λ (p : Placed). p.what) ps ≡ cond c (work ∷ []) [] → done_chain after n item id (base book item id) ps ≡ map (λ (p : Placed). row_done book r n item id p.seq p.line) ps
  rows_now c [] h e = refl
  rows_now true (p ∷ []) h e = let what : p.what ≡ work = cc in ap (λ x. x ∷ []) (row_now p h what)
  rows_now true (p ∷ q ∷ ps) h e = (cc)
  rows_now false (p ∷ ps) h e = (cc)

-- the rows that a new release adds to those of a task are those of its lines that certify it: what the item has reached now, and when the task was due by the programme in force at the place
pub released_chain : (book : List Entry) (doc : List ℕ) (r : Release) (lines : List Line) (n : ℕ) (item : Item) (id : List ℕ) → IsBook book → judge book (record { doc = doc; act = Released r lines }) ≡ New → act_shape (Released r lines) ≡ true
    → done_chain (book ++ record { doc = doc; act = Released r lines } ∷ []) n item id (base book item id) (placed_by (length book + 1) item id (Released r lines))
    ≡ map (λ (p : Placed). row_done book r n item id p.seq p.line) (placed_by (length book + 1) item id (Released r lines))
released_chain book doc r lines n item id b new shape =
    rows_now book doc r lines n item id b new shape (list_any (is_done item id) lines) (placed_by (length book + 1) item id (Released r lines)) refl
    (by_what (length book + 1) item id (Released r lines) ∙ one_line (DoneIn (length book + 1) r) item id lines (new-distinct book doc r lines new))
