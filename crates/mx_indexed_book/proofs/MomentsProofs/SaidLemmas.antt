-- What the entries of a book accomplish, and the accomplishments of each task.
use Rattle.std.proofs.Common.{arith, refl, sym, subst, ap, ◌∙◌, ◌≡◌, ℕ, ◌+◌, length, List, [], ◌∷◌, ◌++◌, Bool, true, false, cond, ◌&&◌, nat_eq, Option, Some, None, append_assoc, length-append}
use Rattle.std.specs.Prelude.{filter, is_some, map}
use Rattle.std.proofs.lemmas.Bool.Decides.{Decides-eqb}
use Rattle.std.proofs.lemmas.List.Elements.{filter-append}
use Rattle.mx_base.specs.declared.amounts.Base.{Base}
use Rattle.mx_book.specs.commands.Act.{Act, Entry, Opened, Released}
use Rattle.mx_book.specs.commands.Same.{same_text, same_item}
use Rattle.mx_book.specs.declared.commands.item.Item.{Item}
use Rattle.mx_book.specs.declared.commands.item.Item.TheVariants.{Airframe, Component}
use Rattle.mx_book.specs.declared.commands.opening.Opening.{Opening}
use Rattle.mx_book.specs.declared.commands.release.Line.{Line}
use Rattle.mx_book.specs.declared.commands.release.Line.TheVariants.{Done, Rectified}
use Rattle.mx_book.specs.declared.commands.release.Release.{Release}
use Rattle.mx_book.specs.declared.verdict.Verdict.TheVariants.{New}
use Rattle.mx_book.specs.Base.{Accomplishment, Stated, DoneIn, base_at, base_of, task_then}
use Rattle.mx_book.specs.Book.{IsBook, is_book_from, is_new}
use Rattle.mx_book.specs.Judge.{judge}
use Rattle.mx_book.specs.Programme.{task_at}
use Rattle.mx_book.proofs.JudgeLemmas.{both_true, is_new-New}
use Rattle.mx_book.proofs.CommandsProofs.SameLemmas.{text_same}
use Rattle.mx_registers.specs.Names.{has_item, item_at, or_zero, seq_of_item}
use Rattle.mx_registers.specs.Registers.{gives_by, next}
use Rattle.mx_registers.specs.late.Done.{Placed, done_chain, placed, placed_by, placed_from, placed_lines}
use Rattle.mx_registers.proofs.NewLemmas.{HasLines, opened_is_known, released_is_known}
use Rattle.mx_registers.proofs.KeptProofs.BaseGrowth.{task_kept}
use Rattle.mx_registers.proofs.KeptProofs.DoneLemmas.{both, kind_kept, kind_known}
use Rattle.mx_registers.proofs.KeptProofs.KnownLemmas.{item_kept}
use Rattle.mx_registers.proofs.KeptProofs.NumberLemmas.{number_same}
use Rattle.mx_registers.proofs.KeptProofs.NumbersThere.{tail_number_kept}
use Rattle.mx_registers.proofs.KeptProofs.ReleaseBases.{task_now}
use Rattle.mx_registers.proofs.KeptProofs.SpanRows.{serial_number_kept}
use Rattle.mx_indexed_book.specs.declared.moments.done.Accomplished.{Accomplished}
use Rattle.mx_indexed_book.specs.declared.moments.done.Said.{Said}
use Rattle.mx_indexed_book.specs.declared.moments.done.Said.TheVariants.{ByOpening, ByRelease}
use Rattle.mx_indexed_book.specs.moments.Done.{accomplished, accomplished_by, certified, is_said_of, said_chain, said_row}

map-append : {X Y : Type 0} (f : X → Y) (xs ys : List X) → map f (xs ++ ys) ≡ map f xs ++ map f ys
map-append f [] ys = refl
map-append f (x ∷ xs) ys = ap (λ l. f x ∷ l) (map-append f xs ys)

-- what the first line certifies stands before what the others do
pub certified-step : (before : List Entry) (r : Release) (number : ℕ) (line : Line) (later : List Line) → certified before r number (line ∷ later) ≡ certified before r number (line ∷ []) ++ certified before r (number + 1) later
certified-step before r number (Done item task) later = refl
certified-step before r number (Rectified doc) later = refl

module _ (book : List Entry) (b : IsBook book) (number : ℕ) (item : Item) (id : List ℕ) (there : item_at book number ≡ Some item) where
  -- ── what is said of an accomplishment ──

  abbrev said_of : Accomplishment → Said
  said_of (Stated o) = ByOpening (base_at o.use_then o.day)
  said_of (DoneIn k r) = ByRelease r.moment (task_then book k r id)

  abbrev of_placed : Placed → Accomplished
  of_placed p = record { item = number; task = id; seq = p.seq; line = p.line; said = said_of p.what }

  abbrev mine : Accomplished → Bool
  mine a = is_said_of number id a

  abbrev number_of : List Entry → Item → ℕ
  number_of before done = or_zero (seq_of_item before done)

  -- the number of an item stays
  kept_number : (before more : List Entry) (done : Item) → has_item before done ≡ true → number_of (before ++ more) done ≡ number_of before done
  kept_number before more (Airframe tail) known = tail_number_kept before more tail known
  kept_number before more (Component serial) known = serial_number_kept before more serial known

  -- an item stays
  kept_item : (before more : List Entry) (done : Item) → before ++ more ≡ book → has_item before done ≡ true → nat_eq (number_of before done) number ≡ same_item done item
  kept_item before more done whole known =
      ap (λ m. nat_eq m number) (sym (kept_number before more done known) ∙ ap (λ (es : List Entry). number_of es done) whole)
      ∙ number_same book done item number b (subst (λ (es : List Entry). has_item es done ≡ true) whole (item_kept before more done known)) there

  -- the number and the name of a task of the item
  as_own : {X : Type 0} (row : ℕ → List ℕ → X) (before more : List Entry) (done : Item) (task : List ℕ) → before ++ more ≡ book → has_item before done ≡ true → same_item done item && same_text task id ≡ true → row (number_of before done) task ≡ row number id
  as_own row before more done task whole known e =
      let parts = both (same_item done item) (same_text task id) e in
      let own : number_of before done ≡ number = (Decides-eqb (number_of before done) number).0 (kept_item before more done whole known ∙ parts.0) in
      ap (λ m. row m task) own ∙ ap (row number) ((text_same task id).0 parts.1)

  -- ── by one entry ──

  -- the task in force where a release was made is that of the entries before it
  then_now : (before : List Entry) (doc : List ℕ) (r : Release) (lines : List Line) (later : List Entry) → before ++ record { doc = doc; act = Released r lines } ∷ later ≡ book → judge before (record { doc = doc; act = Released r lines }) ≡ New
      → task_then book (length before + 1) r id ≡ task_at before r.place id
  then_now before doc r lines later whole new =
      let e : Entry = record { doc = doc; act = Released r lines } in
      ap (λ (es : List Entry). task_then es (length before + 1) r id) (sym (append_assoc before (e ∷ []) later ∙ whole))
      ∙ task_kept (before ++ e ∷ []) later (length before + 1) r id (omega (arith, length-append before (e ∷ []))) (ap is_some (kind_kept before (e ∷ []) r.place (kind_known before doc r lines new)) ∙ kind_known before doc r lines new)
      ∙ task_now before doc r lines id new

  lines_said : (before more : List Entry) (r : Release) (k : ℕ) (lines : List Line) → before ++ more ≡ book → task_then book (length before + 1) r id ≡ task_at before r.place id → HasLines before lines
      → filter mine (certified before r k lines) ≡ map of_placed (placed_lines (length before + 1) k item id r lines)
  lines_said before more r k [] whole now known = refl
  lines_said before more r k (Rectified doc ∷ lines) whole now known = lines_said before more r (k + 1) lines whole now known.1
  lines_said before more r k (Done done task ∷ lines) whole now known =
      ap (λ c. cond (c && same_text task id) (said (number_of before done) task ∷ rest) rest) (kept_item before more done whole known.0)
      ∙ at (same_item done item && same_text task id) refl (lines_said before more r (k + 1) lines whole now known.1)
    where
      rest : List Accomplished
      rest = filter mine (certified before r (k + 1) lines)

      said : ℕ → List ℕ → Accomplished
      said m name = record { item = m; task = name; seq = next before; line = k; said = ByRelease r.moment (task_at before r.place name) }

      at : (c : Bool) → same_item done item && same_text task id ≡ c → rest ≡ map of_placed (placed_lines (length before + 1) (k + 1) item id r lines)
          → cond c (said (number_of before done) task ∷ rest) rest ≡ map of_placed (cond c (record { seq = length before + 1; line = k; what = DoneIn (length before + 1) r } ∷ []) [] ++ placed_lines (length before + 1) (k + 1) item id r lines)
      at true e h =
          ap (λ a. a ∷ rest) (as_own said before more done task whole known.0 e ∙ ap (λ t. record { item = number; task = id; seq = length before + 1; line = k; said = ByRelease r.moment t }) (sym now))
          ∙ ap (λ l. of_placed (record { seq = length before + 1; line = k; what = DoneIn (length before + 1) r }) ∷ l) h
      at false e h = h

  opening_said : (before more : List Entry) (o : Opening) → before ++ more ≡ book → has_item before o.item ≡ true → filter mine (accomplished_by before (Opened o)) ≡ map of_placed (placed_by (length before + 1) item id (Opened o))
  opening_said before more o whole known =
      ap (λ c. cond (c && same_text o.task id) (said (number_of before o.item) o.task ∷ []) []) (kept_item before more o.item whole known)
      ∙ at (same_item o.item item) (same_text o.task id) refl
    where
      said : ℕ → List ℕ → Accomplished
      said m name = record { item = m; task = name; seq = next before; line = 0; said = ByOpening (base_at o.use_then o.day) }

      at : (c d : Bool) → same_item o.item item && same_text o.task id ≡ c && d
          → cond (c && d) (said (number_of before o.item) o.task ∷ []) [] ≡ map of_placed (cond c (cond d (record { seq = length before + 1; line = 0; what = Stated o } ∷ []) []) [])
      at true true e = ap (λ a. a ∷ []) (as_own said before more o.item o.task whole known e)
      at true false e = refl
      at false d e = refl

  entry_said : (before : List Entry) (doc : List ℕ) (act : Act) (later : List Entry) → before ++ record { doc = doc; act = act } ∷ later ≡ book → judge before (record { doc = doc; act = act }) ≡ New
      → filter mine (accomplished_by before act) ≡ map of_placed (placed_by (length before + 1) item id act)
  entry_said before doc (Opened o) later whole new = opening_said before (record { doc = doc; act = Opened o } ∷ later) o whole (opened_is_known before doc o (ap is_new new))
  entry_said before doc (Released r lines) later whole new =
      lines_said before (record { doc = doc; act = Released r lines } ∷ later) r 1 lines whole (then_now before doc r lines later whole new) (released_is_known before doc r lines (ap is_new new)).1
  entry_said before doc _ later whole new = refl

  -- ── by all ──

  from_said : (before later : List Entry) (k : ℕ) → is_book_from before later ≡ true → before ++ later ≡ book → k ≡ length before + 1 → filter mine (gives_by accomplished_by before later) ≡ map of_placed (placed_from k item id later)
  from_said before [] k judged whole at = refl
  from_said before (x ∷ later) k judged whole at =
      let parts = both_true (is_new (judge before x)) (is_book_from (before ++ x ∷ []) later) judged in
      let step : k + 1 ≡ length (before ++ x ∷ []) + 1 = omega (arith, length-append before (x ∷ [])) in
      filter-append mine (accomplished_by before x.act) (gives_by accomplished_by (before ++ x ∷ []) later)
      ∙ ap (λ l. l ++ filter mine (gives_by accomplished_by (before ++ x ∷ []) later)) (entry_said before x.doc x.act later whole (is_new-New (judge before x) parts.0))
      ∙ ap (λ l. map of_placed (placed_by (length before + 1) item id x.act) ++ l) (from_said (before ++ x ∷ []) later (k + 1) parts.1 (append_assoc before (x ∷ []) later ∙ whole) step)
      ∙ sym (map-append of_placed (placed_by (length before + 1) item id x.act) (placed_from (k + 1) item id later))
      ∙ ap (λ n. map of_placed (placed_by n item id x.act ++ placed_from (k + 1) item id later)) (sym at)

  chain_said : (before : Option Base) (ps : List Placed) → said_chain book item before (map of_placed ps) ≡ done_chain book number item id before ps
  chain_said before [] = refl
  chain_said before (p ∷ ps) = at p.what (λ b. chain_said b ps)
    where
      at : (w : Accomplishment) → ((b : Option Base) → said_chain book item b (map of_placed ps) ≡ done_chain book number item id b ps)
          → said_chain book item before (map of_placed (record { seq = p.seq; line = p.line; what = w } ∷ ps)) ≡ done_chain book number item id before (record { seq = p.seq; line = p.line; what = w } ∷ ps)
      at (Stated o) rest = ap (λ l. said_row book item before (of_placed (record { seq = p.seq; line = p.line; what = Stated o })) ∷ l) (rest (Some (base_of book item id before (Stated o))))
      at (DoneIn k r) rest = ap (λ l. said_row book item before (of_placed (record { seq = p.seq; line = p.line; what = DoneIn k r })) ∷ l) (rest (Some (base_of book item id before (DoneIn k r))))

  -- the rows of what is said of a task of an item are those of its accomplishments
  pub task_said : said_chain book item None (filter mine (accomplished book)) ≡ done_chain book number item id None (placed book item id)
  task_said = ap (said_chain book item None) (from_said [] book 1 b.judged refl (omega arith)) ∙ chain_said None (placed book item id)
