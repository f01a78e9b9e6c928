-- The base of a task is within the bounds of a life.
use Rattle.std.proofs.Common.{arith, ℕ, ◌+◌, ◌/◌, ◌≤◌, Bool, true, false, cond, List, [], ◌∷◌, ◌≡◌, filter, map, Option, Some, None}
use Rattle.std.specs.Prelude.{IfSome}
use Rattle.std.specs.List.{list_all, AllByRecursion}
use Rattle.std.specs.Option.{option_and_then}
use Rattle.mx_base.specs.declared.amounts.Base.{Base}
use Rattle.mx_base.specs.declared.amounts.Limit.{Limit}
use Rattle.mx_base.specs.declared.amounts.Use.{Use}
use Rattle.mx_book.specs.commands.Act.{Act, Entry, Opened, Released}
use Rattle.mx_book.specs.commands.Same.{same_text, same_item}
use Rattle.mx_book.specs.commands.Shape.{act_shape, doc_shape, has_shape, use_shape}
use Rattle.mx_book.specs.declared.commands.item.Item.{Item}
use Rattle.mx_book.specs.declared.commands.release.Line.{Line}
use Rattle.mx_book.specs.declared.commands.release.Release.{Release}
use Rattle.mx_book.specs.due.Due.{IsLife, base_done, due_after, lesser}
use Rattle.mx_book.specs.Base.{Accomplishment, Stated, DoneIn, accomplished_by, accomplished_from, accomplishments, base, base_from, base_of, task_then}
use Rattle.mx_book.specs.Book.{IsBook}
use Rattle.mx_book.specs.Life.{life_at, use_or_none}
use Rattle.mx_book.specs.Programme.{is_done}
use Rattle.mx_book.specs.Register.{birth}
use Rattle.mx_book.proofs.JudgeLemmas.{both_true}
use Rattle.mx_book.proofs.LifeLemmas.{life_bounded, opening_bounds}
use Rattle.mx_registers.proofs.KeptProofs.KnownLemmas.{all_append}
use Rattle.mx_row_rules.specs.found.Lives.{life_in_base}

-- what an opening states has its shape
abbrev IsStatedWell : Accomplishment → Type 0
IsStatedWell (Stated o) = use_shape o.use_then ≡ true
IsStatedWell (DoneIn k r) = Unit {0}

lesser_low : (value bound : ℕ) (due : Option ℕ) → value ≤ bound → lesser value due ≤ bound
lesser_low value bound None h = h
lesser_low value bound (Some d) h = omega arith

done_low : (life : Use) (day : ℕ) (due : Option Limit) → IsLife life → IsLife (life_in_base (base_done life day due))
done_low life day None h = h
done_low life day (Some due) h = record { minutes = lesser_low life.minutes 1540000000 due.minutes h.minutes; cycles = lesser_low life.cycles 51000000 due.cycles h.cycles }

module _ (book : List Entry) (b : IsBook book) (item : Item) (id : List ℕ) where
  abbrev IsLow : Base → Type 0
  IsLow base = IsLife (life_in_base base)

  value_low : (before : Option Base) (a : Accomplishment) → IsStatedWell a → IsLow (base_of book item id before a)
  value_low before (Stated o) h = let low = opening_bounds o.use_then h in record { minutes = omega (arith, low.0); cycles = omega (arith, low.1) }
  value_low before (DoneIn k r) h =
      done_low (use_or_none (life_at book item r.moment)) (r.moment / 1440) (option_and_then (due_after before (birth book item)) (task_then book k r id)) (life_bounded book item (Some r.moment) b.few b.shaped)

  chain_low : (before : Option Base) (more : List Accomplishment) → IfSome before IsLow → AllByRecursion IsStatedWell more → IfSome (base_from book item id before more) IsLow
  chain_low before [] k h = k
  chain_low before (a ∷ more) k h = chain_low (Some (base_of book item id before a)) more (value_low before a h.0) h.1

  lines_well : (k : ℕ) (r : Release) (lines : List Line) → AllByRecursion IsStatedWell (map (λ (line : Line). DoneIn k r) lines)
  lines_well k r [] = tt
  lines_well k r (line ∷ lines) = (tt, lines_well k r lines)

  act_well : (k : ℕ) (act : Act) → act_shape act ≡ true → AllByRecursion IsStatedWell (accomplished_by k item id act)
  act_well k (Opened o) h = at (same_item o.item item) (same_text o.task id)
    where
      at : (c d : Bool) → AllByRecursion IsStatedWell (cond c (cond d (Stated o ∷ []) []) [])
      at true true = (h, tt)
      at true false = tt
      at false d = tt
  act_well k (Released r lines) h = lines_well k r (filter (is_done item id) lines)
  act_well k _ h = tt

  all_well : (k : ℕ) (entries : List Entry) → list_all has_shape entries ≡ true → AllByRecursion IsStatedWell (accomplished_from k item id entries)
  all_well k [] h = tt
  all_well k (e ∷ entries) h =
      let both = both_true (has_shape e) (list_all has_shape entries) h in
      all_append IsStatedWell (accomplished_by k item id e.act) (accomplished_from (k + 1) item id entries) (act_well k e.act (both_true (act_shape e.act) (doc_shape e.doc e.act) both.0).0) (all_well (k + 1) entries both.1)

  -- of a book
  pub base_low : IfSome (base book item id) (λ base. IsLife (life_in_base base))
  base_low = chain_low None (accomplishments book item id) tt (all_well 1 book b.shaped)
