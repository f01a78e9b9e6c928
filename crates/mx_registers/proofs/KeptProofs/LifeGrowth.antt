-- The life of an item with one entry more.
use Rattle.std.proofs.Common.{arith, refl, sym, ap, ◌∙◌, ◌≡◌, ℕ, ◌+◌, List, [], ◌∷◌, ◌++◌, true, false, Option, Some, None}
use Rattle.std.specs.Prelude.{filter, is_some}
use Rattle.std.specs.Option.{option_map, option_or}
use Rattle.std.proofs.lemmas.List.Elements.{filter-append}
use Rattle.mx_base.specs.declared.amounts.Use.{Use}
use Rattle.mx_book.specs.commands.Act.{Act, Entry, Flown}
use Rattle.mx_book.specs.commands.Shape.{act_shape}
use Rattle.mx_book.specs.declared.commands.aircraft.Aircraft.{Aircraft}
use Rattle.mx_book.specs.declared.commands.component.Component.{Component as ComponentAdded}
use Rattle.mx_book.specs.declared.commands.item.Item.{Item}
use Rattle.mx_book.specs.declared.commands.item.Item.TheVariants.{Airframe, Component}
use Rattle.mx_book.specs.declared.commands.sector.Sector.{Sector}
use Rattle.mx_book.specs.declared.verdict.Verdict.TheVariants.{New}
use Rattle.mx_book.specs.Register.{aircraft, component}
use Rattle.mx_book.specs.Book.{IsBook}
use Rattle.mx_book.specs.Judge.{judge}
use Rattle.mx_book.specs.Life.{minutes_of, cycles_of, use_after, credited, opening_of, has_landed_by, life_until}
use Rattle.mx_book.proofs.GrowthLemmas.{minutes_of-append, cycles_of-append}
use Rattle.mx_registers.specs.kept.Changes.{sectors_given}
use Rattle.mx_registers.proofs.KeptProofs.KnownLemmas.{aircraft-more, component-more, unknown_uncredited}
use Rattle.mx_registers.proofs.KeptProofs.CreditLemmas.{credited_by}
use Rattle.mx_registers.specs.Names.{has_item}

abbrev use_of : ℕ → ℕ → Use
use_of m c = record { minutes = m; cycles = c }

-- the use after some sectors and then some others
pub use_after-append : (xs ys : List Sector) (u : Use) → use_after (xs ++ ys) u ≡ use_after ys (use_after xs u)
use_after-append xs ys u =
    let m : u.minutes + minutes_of (xs ++ ys) ≡ u.minutes + minutes_of xs + minutes_of ys = omega (arith, minutes_of-append xs ys) in
    let c : u.cycles + cycles_of (xs ++ ys) ≡ u.cycles + cycles_of xs + cycles_of ys = omega (arith, cycles_of-append xs ys) in
    ap (λ n. use_of n (u.cycles + cycles_of (xs ++ ys))) m ∙ ap (use_of (u.minutes + minutes_of xs + minutes_of ys)) c

-- no sectors add nothing
pub use_after_none : (u : Use) → use_after [] u ≡ u
use_after_none u =
    let m : u.minutes + 0 ≡ u.minutes = omega arith in
    let c : u.cycles + 0 ≡ u.cycles = omega arith in
    ap (λ n. use_of n (u.cycles + 0)) m ∙ ap (use_of u.minutes) c

map_or : {X Y : Type 0} (f : X → Y) (o p : Option X) → option_map f (option_or o p) ≡ option_or (option_map f o) (option_map f p)
map_or f None p = refl
map_or f (Some x) p = refl

-- the use that an item brought with it is that among the first entries, or else that among the others
pub opening-more : (book more : List Entry) (item : Item) → opening_of (book ++ more) item ≡ option_or (opening_of book item) (opening_of more item)
opening-more book more (Airframe tail) = ap (option_map (λ (a : Aircraft). a.opening)) (aircraft-more book more tail) ∙ map_or (λ (a : Aircraft). a.opening) (aircraft book tail) (aircraft more tail)
opening-more book more (Component serial) = ap (option_map (λ (c : ComponentAdded). c.opening)) (component-more book more serial) ∙ map_or (λ (c : ComponentAdded). c.opening) (component book serial) (component more serial)

some_map : {X Y : Type 0} (f : X → Y) (o : Option X) → is_some (option_map f o) ≡ is_some o
some_map f None = refl
some_map f (Some x) = refl

pub opening_known : (book : List Entry) (item : Item) → is_some (opening_of book item) ≡ has_item book item
opening_known book (Airframe tail) = some_map (λ (a : Aircraft). a.opening) (aircraft book tail)
opening_known book (Component serial) = some_map (λ (c : ComponentAdded). c.opening) (component book serial)

none_given : (book : List Entry) (doc : List ℕ) (act : Act) (item : Item) (u : Use) → opening_of (record { doc = doc; act = act } ∷ []) item ≡ Some u → sectors_given book item act ≡ []
none_given book doc (Flown s) (Airframe tail) u h = (cc)
none_given book doc (Flown s) (Component serial) u h = (cc)
none_given book doc _ item u h = refl

-- the life of an item: the sectors that a new entry gives are added to it, and one that the entry adds begins with its opening
pub life-more : (book : List Entry) (doc : List ℕ) (act : Act) (item : Item) (until : Option ℕ) → IsBook book → judge book (record { doc = doc; act = act }) ≡ New → act_shape act ≡ true
    → life_until (book ++ record { doc = doc; act = act } ∷ []) item until
    ≡ option_or (option_map (use_after (filter (has_landed_by until) (sectors_given book item act))) (life_until book item until)) (opening_of (record { doc = doc; act = act } ∷ []) item)
life-more book doc act item until b new shape =
    ap (λ l. option_map (use_after (filter (has_landed_by until) l)) (opening_of (book ++ record { doc = doc; act = act } ∷ []) item)) grown
    ∙ ap (λ o. option_map (use_after (filter (has_landed_by until) (credited book item ++ sectors_given book item act))) o) (opening-more book (record { doc = doc; act = act } ∷ []) item)
    ∙ at (opening_of book item) refl
  where
    grown : credited (book ++ record { doc = doc; act = act } ∷ []) item ≡ credited book item ++ sectors_given book item act
    grown = credited_by book doc act item b new shape

    begun : has_item book item ≡ false → (p : Option Use) → opening_of (record { doc = doc; act = act } ∷ []) item ≡ p → option_map (use_after (filter (has_landed_by until) (credited book item ++ sectors_given book item act))) p ≡ p
    begun unknown None e = refl
    begun unknown (Some u) e =
        ap (λ l. Some (use_after (filter (has_landed_by until) l) u)) (ap (λ l. l ++ sectors_given book item act) (unknown_uncredited book item b unknown) ∙ none_given book doc act item u e)
        ∙ ap (λ (v : Use). Some v) (use_after_none u)

    at : (o : Option Use) → opening_of book item ≡ o → option_map (use_after (filter (has_landed_by until) (credited book item ++ sectors_given book item act))) (option_or o (opening_of (record { doc = doc; act = act } ∷ []) item))
        ≡ option_or (option_map (use_after (filter (has_landed_by until) (sectors_given book item act))) (option_map (use_after (filter (has_landed_by until) (credited book item))) o)) (opening_of (record { doc = doc; act = act } ∷ []) item)
    at (Some u) e =
        ap (λ l. Some (use_after l u)) (filter-append (has_landed_by until) (credited book item) (sectors_given book item act))
        ∙ ap (λ (v : Use). Some v) (use_after-append (filter (has_landed_by until) (credited book item)) (filter (has_landed_by until) (sectors_given book item act)) u)
    at None e = begun (sym (opening_known book item) ∙ ap is_some e) (opening_of (record { doc = doc; act = act } ∷ []) item) refl

filter_every : (xs : List Sector) → filter (has_landed_by None) xs ≡ xs
filter_every [] = refl
filter_every (x ∷ xs) = ap (λ l. x ∷ l) (filter_every xs)

-- the life of an item now
pub life_now-more : (book : List Entry) (doc : List ℕ) (act : Act) (item : Item) → IsBook book → judge book (record { doc = doc; act = act }) ≡ New → act_shape act ≡ true
    → life_until (book ++ record { doc = doc; act = act } ∷ []) item None
    ≡ option_or (option_map (use_after (sectors_given book item act)) (life_until book item None)) (opening_of (record { doc = doc; act = act } ∷ []) item)
life_now-more book doc act item b new shape =
    life-more book doc act item None b new shape
    ∙ ap (λ l. option_or (option_map (use_after l) (life_until book item None)) (opening_of (record { doc = doc; act = act } ∷ []) item)) (filter_every (sectors_given book item act))
