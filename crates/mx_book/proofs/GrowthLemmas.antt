-- Lives as entries are added, and runs one after the other.
use Rattle.std.proofs.Common.{arith, refl, sym, ap, ◌∙◌, ◌≡◌, ℕ, ◌+◌, ◌≤◌, List, [], ◌∷◌, ◌++◌, Bool, true, false, cond, Option, Some, None}
use Rattle.std.specs.Prelude.{find, filter, IfSome, IsSomeAnd}
use Rattle.std.specs.List.{list_all}
use Rattle.std.specs.Option.{option_map, option_or}
use Rattle.std.proofs.lemmas.List.Elements.{filter-append, filter_map-append}
use Rattle.std.proofs.lemmas.List.Folds.{find-append}
use Rattle.mx_book.specs.commands.Act.{Entry, aircraft_of, sector_of}
use Rattle.mx_book.specs.commands.Same.{same_text}
use Rattle.mx_book.specs.commands.Shape.{has_shape}
use Rattle.mx_book.specs.declared.commands.aircraft.Aircraft.{Aircraft}
use Rattle.mx_book.specs.declared.commands.sector.Sector.{Sector}
use Rattle.mx_book.specs.declared.commands.item.Item.TheVariants.{Airframe}
use Rattle.mx_book.specs.Register.{register, aircraft}
use Rattle.mx_book.specs.Life.{minutes_of, cycles_of, credited, has_landed_by, use_after, life_now}
use Rattle.mx_book.specs.Judge.{judge}
use Rattle.mx_book.specs.Book.{is_new, IsBook}
use Rattle.mx_book.specs.Run.{reply, replies, book_after, book_run}
use Rattle.mx_book.proofs.JudgeLemmas.{both_true, is_new-New, IsBook-entered}

pub minutes_of-append : (xs ys : List Sector) → minutes_of (xs ++ ys) ≡ minutes_of xs + minutes_of ys
minutes_of-append [] ys = sym (omega arith)
minutes_of-append (x ∷ xs) ys = let rest = minutes_of-append xs ys in omega arith

pub cycles_of-append : (xs ys : List Sector) → cycles_of (xs ++ ys) ≡ cycles_of xs + cycles_of ys
cycles_of-append [] ys = sym (omega arith)
cycles_of-append (x ∷ xs) ys = let rest = cycles_of-append xs ys in omega arith

-- the sectors of an airframe are those of the first entries, and then those of the others
credited-append : (book more : List Entry) (tail : List ℕ) → credited (book ++ more) (Airframe tail) ≡ credited book (Airframe tail) ++ credited more (Airframe tail)
credited-append book more tail =
    ap (filter (λ s. same_text s.tail tail)) (filter_map-append (λ e. sector_of e.act) book more)
    ∙ filter-append (λ s. same_text s.tail tail) (register sector_of book) (register sector_of more)

landed-append : (book more : List Entry) (tail : List ℕ) → filter (has_landed_by None) (credited (book ++ more) (Airframe tail)) ≡ filter (has_landed_by None) (credited book (Airframe tail)) ++ filter (has_landed_by None) (credited more (Airframe tail))
landed-append book more tail =
    ap (filter (has_landed_by None)) (credited-append book more tail)
    ∙ filter-append (has_landed_by None) (credited book (Airframe tail)) (credited more (Airframe tail))

-- an aircraft that is found stays the one that is found
aircraft-append : (book more : List Entry) (tail : List ℕ) (a : Aircraft) → aircraft book tail ≡ Some a → aircraft (book ++ more) tail ≡ Some a
aircraft-append book more tail a h =
    ap (find (λ (b : Aircraft). same_text b.tail tail)) (filter_map-append (λ e. aircraft_of e.act) book more)
    ∙ find-append (λ (b : Aircraft). same_text b.tail tail) (register aircraft_of book) (register aircraft_of more)
    ∙ ap (λ o. option_or o (find (λ b. same_text b.tail tail) (register aircraft_of more))) h

life_grows : (book more : List Entry) (tail : List ℕ) (o : Option Aircraft) → aircraft book tail ≡ o
    → IfSome (option_map (use_after (filter (has_landed_by None) (credited book (Airframe tail)))) (option_map (λ (a : Aircraft). a.opening) o)) (λ before. IsSomeAnd (life_now (book ++ more) (Airframe tail)) (λ after. (before.minutes ≤ after.minutes) × (before.cycles ≤ after.cycles)))
life_grows book more tail None h = tt
life_grows book more tail (Some a) h =
    let before = filter (has_landed_by None) (credited book (Airframe tail)) in
    let since = filter (has_landed_by None) (credited more (Airframe tail)) in
    let after : life_now (book ++ more) (Airframe tail) ≡ Some (use_after (before ++ since) a.opening) =
    ap (λ o. option_map (use_after (filter (has_landed_by None) (credited (book ++ more) (Airframe tail)))) (option_map (λ (b : Aircraft). b.opening) o)) (aircraft-append book more tail a h)
    ∙ ap (λ sectors. Some (use_after sectors a.opening)) (landed-append book more tail) in
    rw after (omega (arith, minutes_of-append before since), omega (arith, cycles_of-append before since))

pub life_never_falls : (book more : List Entry) (tail : List ℕ) → IfSome (life_now book (Airframe tail)) (λ before. IsSomeAnd (life_now (book ++ more) (Airframe tail)) (λ after. (before.minutes ≤ after.minutes) × (before.cycles ≤ after.cycles)))
life_never_falls book more tail = life_grows book more tail (aircraft book tail) refl

-- ── runs ──

pub book_run-append : (book commands more : List Entry) → book_run book (commands ++ more) ≡ book_run (book_run book commands) more
book_run-append book [] more = refl
book_run-append book (c ∷ commands) more = book_run-append (book_after book c) commands more

pub replies-append : (book commands more : List Entry) → replies book (commands ++ more) ≡ replies book commands ++ replies (book_run book commands) more
replies-append book [] more = refl
replies-append book (c ∷ commands) more = ap (λ rest. reply book c ∷ rest) (replies-append (book_after book c) commands more)

IsBook-after : (book : List Entry) (command : Entry) → IsBook book → has_shape command ≡ true → (b : Bool) → is_new (judge book command) ≡ b → IsBook (cond b (book ++ command ∷ []) book)
IsBook-after book command h shape true new = IsBook-entered book command h shape (is_new-New (judge book command) new)
IsBook-after book command h shape false new = h

-- a run over commands of their shape makes a book of a book
pub IsBook-run : (book commands : List Entry) → IsBook book → list_all has_shape commands ≡ true → IsBook (book_run book commands)
IsBook-run book [] h shapes = h
IsBook-run book (c ∷ commands) h shapes =
    let both = both_true (has_shape c) (list_all has_shape commands) shapes in
    IsBook-run (book_after book c) commands (IsBook-after book c h both.0 (is_new (judge book c)) refl) both.1
