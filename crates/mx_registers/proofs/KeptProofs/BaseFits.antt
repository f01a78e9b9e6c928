-- The rows of last bases fit their columns.
use Rattle.std.proofs.Common.{arith, ℕ, ◌+◌, ◌/◌, ◌^◌, ◌≤◌, ◌<◌, List, [], ◌∷◌, Bool, true, false, cond, Option, Some, None}
use Rattle.std.specs.Prelude.{All, IfSome, filter, map, not}
use Rattle.std.specs.List.{filter_map, flat_map, cons_option, AllByRecursion}
use Rattle.std.specs.Option.{option_map, option_and_then}
use Rattle.std.proofs.lemmas.List.Elements.{All-from_recursion}
use Rattle.mx_base.specs.Calendar.{last_day, last_moment}
use Rattle.mx_base.specs.Identifier.{IsIdentifier, is_graphic}
use Rattle.mx_base.specs.declared.amounts.Base.{Base}
use Rattle.mx_base.specs.declared.amounts.Limit.{Limit}
use Rattle.mx_base.specs.declared.amounts.Use.{Use}
use Rattle.mx_book.specs.commands.Act.{Act, Entry, Opened, Released}
use Rattle.mx_book.specs.commands.Same.{same_text, same_item}
use Rattle.mx_book.specs.declared.commands.item.Item.{Item}
use Rattle.mx_book.specs.declared.commands.release.Line.{Line}
use Rattle.mx_book.specs.declared.commands.release.Line.TheVariants.{Done, Rectified}
use Rattle.mx_book.specs.declared.commands.release.Release.{Release}
use Rattle.mx_book.specs.due.Due.{IsLife, base_done, due_after, lesser}
use Rattle.mx_book.specs.Base.{Accomplishment, Stated, DoneIn, accomplished_by, accomplished_from, accomplishments, base, base_from, base_of, task_then}
use Rattle.mx_book.specs.Book.{IsBook}
use Rattle.mx_book.specs.Life.{life_at, use_or_none}
use Rattle.mx_book.specs.Programme.{is_done}
use Rattle.mx_book.specs.Register.{birth}
use Rattle.mx_book.proofs.LifeLemmas.{life_bounded}
use Rattle.mx_base.specs.rows.Rows.{FitsBase, FitsBaseValue, base_row_with}
use Rattle.mx_registers.specs.kept.Bases.{base_row, base_rows, base_rows_of, each_once, task_done, tasks_accomplished, tasks_by}
use Rattle.mx_registers.specs.kept.Fits.{FitRegisters}
use Rattle.mx_registers.specs.kept.Items.{items}
use Rattle.mx_registers.proofs.KeptProofs.FitLemmas.{items_low, IsLow}
use Rattle.mx_registers.proofs.KeptProofs.KnownLemmas.{all_append}
use Rattle.mx_registers.proofs.KeptProofs.SaidLemmas.{all_said, LineFits, SaysFit, SayFit}

-- ── tasks ──

abbrev pub IsTask : List ℕ → Type 0
IsTask = IsIdentifier is_graphic 16

lines_fit : (item : Item) (lines : List Line) → AllByRecursion LineFits lines → AllByRecursion IsTask (filter_map (task_done item) lines)
lines_fit item [] h = tt
lines_fit item (Done done task ∷ lines) h = at (same_item done item) (lines_fit item lines h.1)
  where
    at : (c : Bool) → AllByRecursion IsTask (filter_map (task_done item) lines) → AllByRecursion IsTask (cons_option (cond c (Some task) None) (filter_map (task_done item) lines))
    at true rest = (h.0, rest)
    at false rest = rest
lines_fit item (Rectified doc ∷ lines) h = lines_fit item lines h.1

act_tasks : (item : Item) (act : Act) → SaysFit act → AllByRecursion IsTask (tasks_by item act)
act_tasks item (Opened o) h = at (same_item o.item item)
  where
    at : (c : Bool) → AllByRecursion IsTask (cond c (o.task ∷ []) [])
    at true = (h.0, tt)
    at false = tt
act_tasks item (Released r lines) h = lines_fit item lines h.1
act_tasks item _ h = tt

pub book_tasks : (item : Item) (book : List Entry) → SayFit book → AllByRecursion IsTask (flat_map (λ (e : Entry). tasks_by item e.act) book)
book_tasks item [] h = tt
book_tasks item (x ∷ book) h = all_append IsTask (tasks_by item x.act) (flat_map (λ (e : Entry). tasks_by item e.act) book) (act_tasks item x.act h.0) (book_tasks item book h.1)

some_of : {X : Type 0} (P : X → Type 0) (p : X → Bool) (xs : List X) → AllByRecursion P xs → AllByRecursion P (filter p xs)
some_of P p [] h = tt
some_of P p (x ∷ xs) h = at (p x) (some_of P p xs h.1)
  where
    at : (c : Bool) → AllByRecursion P (filter p xs) → AllByRecursion P (cond c (x ∷ filter p xs) (filter p xs))
    at true rest = (h.0, rest)
    at false rest = rest

pub once_fit : (xs : List (List ℕ)) → AllByRecursion IsTask xs → AllByRecursion IsTask (each_once xs)
once_fit [] h = tt
once_fit (x ∷ xs) h = (h.0, some_of IsTask (λ other. not (same_text other x)) (each_once xs) (once_fit xs h.1))

-- ── values ──

-- what an accomplishment says fits columns
abbrev AccomplishmentFits : Accomplishment → Type 0
AccomplishmentFits (Stated o) = (o.use_then.minutes < 2 ^ 32) × (o.use_then.cycles < 2 ^ 32) × (o.day ≤ last_day)
AccomplishmentFits (DoneIn k r) = r.moment ≤ last_moment

pub lesser_low : (value bound : ℕ) (due : Option ℕ) → value ≤ bound → lesser value due ≤ bound
lesser_low value bound None h = h
lesser_low value bound (Some d) h = omega arith

done_fits : (life : Use) (day : ℕ) (due : Option Limit) → IsLife life → day ≤ last_day → FitsBaseValue (base_done life day due)
done_fits life day None h low = record { minutes = omega (arith, h.minutes); cycles = omega (arith, h.cycles); day = low }
done_fits life day (Some due) h low =
    let minutes = lesser_low life.minutes 1540000000 due.minutes h.minutes in
    let cycles = lesser_low life.cycles 51000000 due.cycles h.cycles in
    record { minutes = omega arith; cycles = omega arith; day = lesser_low day last_day due.days low }

pub day_low : (moment : ℕ) → moment ≤ last_moment → moment / 1440 ≤ last_day
day_low moment h = omega arith

module _ (book : List Entry) (b : IsBook book) (item : Item) (id : List ℕ) where
  value_fits : (before : Option Base) (a : Accomplishment) → AccomplishmentFits a → FitsBaseValue (base_of book item id before a)
  value_fits before (Stated o) h = record { minutes = h.0; cycles = h.1; day = h.2 }
  value_fits before (DoneIn k r) h =
      done_fits (use_or_none (life_at book item r.moment)) (r.moment / 1440) (option_and_then (due_after before (birth book item)) (task_then book k r id))
      (life_bounded book item (Some r.moment) b.few b.shaped) (day_low r.moment h)

  chain_fits : (before : Option Base) (more : List Accomplishment) → IfSome before FitsBaseValue → AllByRecursion AccomplishmentFits more → IfSome (base_from book item id before more) FitsBaseValue
  chain_fits before [] k h = k
  chain_fits before (a ∷ more) k h = chain_fits (Some (base_of book item id before a)) more (value_fits before a h.0) h.1

  line_each : (k : ℕ) (r : Release) (lines : List Line) → r.moment ≤ last_moment → AllByRecursion AccomplishmentFits (map (λ (line : Line). DoneIn k r) lines)
  line_each k r [] h = tt
  line_each k r (line ∷ lines) h = (h, line_each k r lines h)

  act_accomplishments : (k : ℕ) (act : Act) → SaysFit act → AllByRecursion AccomplishmentFits (accomplished_by k item id act)
  act_accomplishments k (Opened o) h = at (same_item o.item item) (same_text o.task id)
    where
      at : (c d : Bool) → AllByRecursion AccomplishmentFits (cond c (cond d (Stated o ∷ []) []) [])
      at true true = ((h.1, h.2, h.3), tt)
      at true false = tt
      at false d = tt
  act_accomplishments k (Released r lines) h = line_each k r (filter (is_done item id) lines) h.0
  act_accomplishments k _ h = tt

  all_accomplishments : (k : ℕ) (entries : List Entry) → SayFit entries → AllByRecursion AccomplishmentFits (accomplished_from k item id entries)
  all_accomplishments k [] h = tt
  all_accomplishments k (x ∷ entries) h = all_append AccomplishmentFits (accomplished_by k item id x.act) (accomplished_from (k + 1) item id entries) (act_accomplishments k x.act h.0) (all_accomplishments (k + 1) entries h.1)

  base_fits : SayFit book → IfSome (base book item id) FitsBaseValue
  base_fits h = chain_fits None (accomplishments book item id) tt (all_accomplishments 1 book h)

-- ── rows ──

module _ (book : List Entry) (b : IsBook book) (h : SayFit book) where
  rows_of : (x : ℕ × Item) → IsLow x → (ids : List (List ℕ)) → AllByRecursion IsTask ids → AllByRecursion FitsBase (filter_map (base_row book x) ids)
  rows_of x low [] k = tt
  rows_of x low (id ∷ ids) k = at (base book x.1 id) (base_fits book b x.1 id h) (rows_of x low ids k.1)
    where
      at : (o : Option Base) → IfSome o FitsBaseValue → AllByRecursion FitsBase (filter_map (base_row book x) ids) → AllByRecursion FitsBase (cons_option (option_map (λ base. base_row_with x.0 id base) o) (filter_map (base_row book x) ids))
      at None fits rest = rest
      at (Some value) fits rest = (record { item = low; task = k.0; base = fits }, rest)

  rows_of_all : (xs : List (ℕ × Item)) → AllByRecursion IsLow xs → AllByRecursion FitsBase (flat_map (base_rows_of book) xs)
  rows_of_all [] low = tt
  rows_of_all (x ∷ xs) low =
      all_append FitsBase (base_rows_of book x) (flat_map (base_rows_of book) xs)
      (rows_of x low.0 (tasks_accomplished book x.1) (once_fit (flat_map (λ (e : Entry). tasks_by x.1 e.act) book) (book_tasks x.1 book h))) (rows_of_all xs low.1)

pub bases_fit : (book : List Entry) → IsBook book → FitRegisters book → All FitsBase (base_rows book)
bases_fit book b h = All-from_recursion FitsBase (base_rows book) (rows_of_all book b (all_said book h) (items book) (items_low book b))
