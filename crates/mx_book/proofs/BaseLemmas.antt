-- Where a task of an item has a base.
use Rattle.std.proofs.Common.{refl, ap, ◌∙◌, ◌≡◌, ℕ, ◌+◌, List, [], ◌∷◌, ◌++◌, Bool, true, false, cond, ◌&&◌, ◌||◌, Option, Some, None}
use Rattle.std.specs.Prelude.{is_some, filter, fold, map}
use Rattle.std.specs.List.{list_any}
use Rattle.mx_base.specs.declared.amounts.Base.{Base}
use Rattle.mx_book.specs.commands.Act.{Act, Entry, Opened, Released}
use Rattle.mx_book.specs.commands.Same.{same_text, same_item}
use Rattle.mx_book.specs.declared.commands.item.Item.{Item}
use Rattle.mx_book.specs.declared.commands.opening.Opening.{Opening}
use Rattle.mx_book.specs.declared.commands.release.Line.{Line}
use Rattle.mx_book.specs.declared.commands.release.Release.{Release}
use Rattle.mx_book.specs.Programme.{is_done, accomplishes, is_accomplished}
use Rattle.mx_book.specs.Base.{Accomplishment, Stated, DoneIn, accomplished_by, accomplished_from, base, base_of}

module _ (item : Item) (id : List ℕ) (next : Option Base → Accomplishment → Base) where
  -- there is a base behind some accomplishments, where each gives one
  abbrev is_based : Option Base → List Accomplishment → Bool
  is_based before more = is_some (fold (λ b a. Some (next b a)) before more)

  stays : (more : List Accomplishment) (b : Base) → is_based (Some b) more ≡ true
  stays [] b = refl
  stays (a ∷ more) b = stays more (next (Some b) a)

  opened : (o : Opening) (more : List Accomplishment) (p q : Bool) → is_based None (cond p (cond q (Stated o ∷ []) []) [] ++ more) ≡ (p && q) || is_based None more
  opened o more true true = stays more (next None (Stated o))
  opened o more true false = refl
  opened o more false q = refl

  lined : (k : ℕ) (r : Release) (line : Line) (lines : List Line) (more : List Accomplishment) (b : Bool)
      → is_based None (map (λ (l : Line). DoneIn k r) (filter (is_done item id) lines) ++ more) ≡ list_any (is_done item id) lines || is_based None more
      → is_based None (map (λ (l : Line). DoneIn k r) (cond b (line ∷ filter (is_done item id) lines) (filter (is_done item id) lines)) ++ more) ≡ (b || list_any (is_done item id) lines) || is_based None more
  lined k r line lines more true h = stays (map (λ (l : Line). DoneIn k r) (filter (is_done item id) lines) ++ more) (next None (DoneIn k r))
  lined k r line lines more false h = h

  released : (k : ℕ) (r : Release) (lines : List Line) (more : List Accomplishment)
      → is_based None (map (λ (l : Line). DoneIn k r) (filter (is_done item id) lines) ++ more) ≡ list_any (is_done item id) lines || is_based None more
  released k r [] more = refl
  released k r (line ∷ lines) more = lined k r line lines more (is_done item id line) (released k r lines more)

  by_act : (k : ℕ) (act : Act) (more : List Accomplishment) → is_based None (accomplished_by k item id act ++ more) ≡ accomplishes item id act || is_based None more
  by_act k (Opened o) more = opened o more (same_item o.item item) (same_text o.task id)
  by_act k (Released r lines) more = released k r lines more
  by_act k _ more = refl

  by_entries : (k : ℕ) (entries : List Entry) → is_based None (accomplished_from k item id entries) ≡ is_accomplished entries item id
  by_entries k [] = refl
  by_entries k (e ∷ later) =
      by_act k e.act (accomplished_from (k + 1) item id later)
      ∙ ap (λ b. accomplishes item id e.act || b) (by_entries (k + 1) later)

-- a task of an item has a base exactly where it was accomplished
pub accomplished-base : (book : List Entry) (item : Item) (id : List ℕ) → is_some (base book item id) ≡ is_accomplished book item id
accomplished-base book item id = by_entries item id (base_of book item id) 1 book
