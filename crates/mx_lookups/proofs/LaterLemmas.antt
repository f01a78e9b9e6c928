-- The deferrals and accomplishments of layout 3: what they say of a book, and what is damaged where what they name is not there.
use Rattle.std.proofs.Common.{◌≡◌, ◌∙◌, ◌⊎◌, inl, inr, ℕ, pos, Bool, true, cond, List, [], ◌∷◌, map, filter, Option, None, Some, refl, sym, ap, ap₂, subst, arith}
use Rattle.std.specs.Prelude.{All, IfSome, IsSomeAnd, fold, is_some, nat_eq, not, slice_get}
use Rattle.std.specs.HashSet.{HashSet, contains}
use Rattle.std.specs.List.{AllByRecursion, cons_option, filter_map}
use Rattle.std.specs.Option.{option_and_then, option_map}
use Rattle.std.proofs.lemmas.List.Elements.{recursion_from_All}
use Rattle.sqlite.specs.Order.{Row}
use Rattle.sqlite.specs.Tree.{Trees}
use Rattle.sqlite.specs.declared.types.Value.TheVariants.{Int}
use Rattle.sqlite_keyed.proofs.ListLemmas.{filter-map}
use Rattle.sqlite_rules.specs.Lists.{Has}
use Rattle.mx_base.specs.declared.amounts.Base.{Base}
use Rattle.mx_base.specs.declared.rows.rows.AircraftRow.{AircraftRow}
use Rattle.mx_base.specs.declared.rows.rows.Deferral3Row.{Deferral3Row}
use Rattle.mx_base.specs.declared.rows.rows.DeferralRow.{DeferralRow}
use Rattle.mx_base.specs.declared.rows.rows.DoneRow.{DoneRow}
use Rattle.mx_base.specs.declared.rows.rows.EntryKind.TheVariants as kinds
use Rattle.mx_base.specs.rows.Rows.{FitsBaseValue, FitsDone, kind_number}
use Rattle.mx_book.specs.commands.Act.{Entry}
use Rattle.mx_book.specs.declared.defects.Defect.{Defect}
use Rattle.mx_book.specs.due.Due.{IsLife}
use Rattle.mx_book.specs.Book.{IsBook}
use Rattle.mx_book.specs.Defect.{defect, defects, is_rectified, open_defects}
use Rattle.mx_registers.specs.Names.{seq_of_defect, seq_of_tail, tail_at}
use Rattle.mx_registers.specs.Registers.{aircraft_rows, deferral_rows}
use Rattle.mx_registers.specs.late.Done.{last_base}
use Rattle.mx_registers.specs.late.Found.{found_rows}
use Rattle.mx_registers.proofs.LateProofs.DoneChain.{all_mapped}
use Rattle.mx_registers.proofs.LateProofs.FoundBecomes.{found_of_deferrals}
use Rattle.mx_layout.specs.declared.fault.Table.TheVariants as table
use Rattle.mx_layout.specs.kept.Cells.{kept_aircraft, kept_defect3, kept_done3, kept_entry}
use Rattle.mx_table_rows.specs.chosen.Choices.{has_value}
use Rattle.mx_row_rules.specs.found.Defects.{deferral_aircraft, deferred_said, defect_in, defect_said, is_rectified_at, left_said, open_said}
use Rattle.mx_row_rules.specs.found.Lives.{life_in_base}
use Rattle.mx_row_rules.specs.found.Names.{doc_at}
use Rattle.mx_row_rules.proofs.FoundProofs.DeferralLemmas.{defect_found, defect_there}
use Rattle.mx_row_rules.proofs.FoundProofs.FoundLemmas.{tail_numbered}
use Rattle.mx_row_rules.proofs.FoundProofs.OpenDefectLemmas.{all_open_found, all_there, entries_there, open_found}
use Rattle.mx_lookups.specs.numbers.AnyRows.{AreSaid, Gives}
use Rattle.mx_lookups.specs.numbers.Damage.{IsDamaged, IsKept}
use Rattle.mx_lookups.specs.numbers.Given.{DefectNumber, DefectOfRow, DocOfNumber, TailOfNumber}
use Rattle.mx_lookups.specs.numbers.Later.{DeferralFound}
use Rattle.mx_lookups.proofs.DamageLemmas.{deferral_says, defers}
use Rattle.mx_lookups.proofs.FleetLemmas.{SaysBut, said_but, said_same}
use Rattle.mx_lookups.proofs.NumbersProofs.AnyLemmas.{chosen_kept, kept_unmet, unmet}
use Rattle.mx_lookups.proofs.NumbersProofs.LookupLemmas.{number_is}

abbrev deferral : Deferral3Row → DeferralRow
deferral row = row.deferral

-- ── deferrals of a book ──

-- those that pass a test say the deferrals of layout 2 that pass it
deferrals_of : (p : DeferralRow → Bool) (book : List Entry) → map deferral (filter (λ row. p row.deferral) (found_rows book)) ≡ filter p (deferral_rows book)
deferrals_of p book = sym (filter-map p deferral (found_rows book)) ∙ ap (filter p) (found_of_deferrals book)

said_of : {X : Type 0} (says : DeferralRow → Option X) (rows : List Deferral3Row) → filter_map (λ row. says row.deferral) rows ≡ filter_map says (map deferral rows)
said_of says [] = refl
said_of says (row ∷ rows) = ap (cons_option (says row.deferral)) (said_of says rows)

-- those of an aircraft say its open defects
pub open_by_found : (book : List Entry) (tail : List ℕ) (n : ℕ) → IsBook book → seq_of_tail book tail ≡ Some n
    → filter_map (λ (row : Deferral3Row). open_said book tail row.deferral) (filter (λ (row : Deferral3Row). nat_eq row.deferral.aircraft n) (found_rows book)) ≡ open_defects book tail
open_by_found book tail n b h = said_of (open_said book tail) _ ∙ ap (filter_map (open_said book tail)) (deferrals_of (λ row. nat_eq row.aircraft n) book) ∙ open_found book tail n b h

-- and the entry of each is there
pub entries_of_found : (book : List Entry) (n : ℕ) → AllByRecursion (λ (row : Deferral3Row). is_some (doc_at book row.deferral.seq) ≡ true) (filter (λ (row : Deferral3Row). nat_eq row.deferral.aircraft n) (found_rows book))
entries_of_found book n =
    let There : DeferralRow → Type 0 = λ row. is_some (doc_at book row.seq) ≡ true in
    all_mapped deferral There _ (subst (AllByRecursion There) (sym (deferrals_of (λ row. nat_eq row.aircraft n) book)) (entries_there book n))

-- all of them say those of all aircraft
pub all_by_found : (book : List Entry) → IsBook book → filter_map (λ (row : Deferral3Row). left_said book row.deferral) (found_rows book) ≡ filter (λ d. not (is_rectified book d.doc)) (defects book)
all_by_found book b = said_of (left_said book) (found_rows book) ∙ ap (filter_map (left_said book)) (found_of_deferrals book) ∙ all_open_found book b

pub all_found_there : (book : List Entry) → IsBook book → AllByRecursion (λ (row : Deferral3Row). is_some (deferred_said book row.deferral) ≡ true) (found_rows book)
all_found_there book b =
    let There : DeferralRow → Type 0 = λ row. is_some (deferred_said book row) ≡ true in
    all_mapped deferral There (found_rows book) (subst (AllByRecursion There) (sym (found_of_deferrals book)) (all_there book b))

-- what a deferral says, but for those with one of the numbers
abbrev pub said_but_found : {S : Type 0} → HashSet ℕ S → List Entry → Deferral3Row → Option Defect
said_but_found rectified book row = said_but rectified book row.deferral

-- where these are the numbers of the defects that were rectified, the open ones are left
pub but_found_left : {S : Type 0} (rectified : HashSet ℕ S) (book : List Entry) → ((n : ℕ) → contains nat_eq rectified n ≡ is_rectified_at book n) → (rows : List Deferral3Row)
    → filter_map (said_but_found rectified book) rows ≡ filter_map (λ (row : Deferral3Row). left_said book row.deferral) rows
but_found_left rectified book known rows = said_same (said_but_found rectified book) (λ (row : Deferral3Row). left_said book row.deferral) (λ row. ap (λ t. cond t None (deferred_said book row.deferral)) (known row.deferral.seq)) rows

-- ── the defect with a number ──

module _ (book : List Entry) (b : IsBook book) (doc : List ℕ) (n : ℕ) (number : seq_of_defect book doc ≡ Some n) where
  abbrev rows : List Deferral3Row
  rows = filter (λ (row : Deferral3Row). nat_eq row.deferral.seq n) (found_rows book)

  abbrev named : ℕ → List AircraftRow
  named m = filter (λ (row : AircraftRow). nat_eq row.seq m) (aircraft_rows book)

  -- there is a first deferral, and it says the defect with the registration of its aircraft
  abbrev Says : Option Deferral3Row → Type 0
  Says o = IsSomeAnd o (λ row. option_map (λ tail. defect_said doc tail row.deferral) (tail_at book row.deferral.aircraft) ≡ defect book doc)

  of_rows : (found : List Deferral3Row) → IsSomeAnd (deferral_aircraft (map deferral found)) (λ m. defect_in doc (map deferral found) (named m) ≡ defect book doc) → Says (slice_get found 0)
  of_rows [] h = h
  of_rows (row ∷ found) h = sym (ap (option_map (λ tail. defect_said doc tail row.deferral)) (tail_numbered book row.deferral.aircraft)) ∙ h

  says : Says (slice_get rows 0)
  says = of_rows rows (subst (λ r. IsSomeAnd (deferral_aircraft r) (λ m. defect_in doc r (named m) ≡ defect book doc)) (sym (deferrals_of (λ row. nat_eq row.seq n) book)) (defect_found book b doc n number))

  -- with its registration it is the defect
  pub found_said : (row : Deferral3Row) (tail : List ℕ) → slice_get rows 0 ≡ Some row → tail_at book row.deferral.aircraft ≡ Some tail → Some (defect_said doc tail row.deferral) ≡ defect book doc
  found_said row tail is at = sym (ap (option_map (λ t. defect_said doc t row.deferral)) at) ∙ subst Says is says

  -- it is there
  pub found_there : slice_get rows 0 ≡ None → ⊥
  found_there is = subst Says is says

  -- and so is its aircraft
  pub found_named : (row : Deferral3Row) → slice_get rows 0 ≡ Some row → tail_at book row.deferral.aircraft ≡ None → ⊥
  found_named row is at =
      let none : None ≡ defect book doc = sym (ap (option_map (λ t. defect_said doc t row.deferral)) at) ∙ subst Says is says in
      let e = ap is_some none ∙ defect_there book doc n number in
      absurd cc

-- ── over any rows ──

-- what a deferral says so, where these are the numbers that lines have
abbrev pub SaysButFound : {S : Type 0} → HashSet ℕ S → Trees → Deferral3Row → Option Defect → Type 0
SaysButFound rectified trees row = SaysBut rectified trees row.deferral

-- what each says is said where one says it as the other does
pub each_said : {X V : Type 0} (One Two : X → Option V → Type 0) → ((x : X) (said : Option V) → One x said → Two x said) → (xs : List X) (answer : List V) → AreSaid One xs answer → AreSaid Two xs answer
each_said One Two so [] answer h = h
each_said One Two so (x ∷ xs) answer h = (h.0, h.1, so x h.0 h.2, each_said One Two so xs h.1 h.3, h.4)

-- the entry of a deferral is not there
pub found_entry_unmet : (trees : Trees) (row : Deferral3Row) → IsKept kept_defect3 trees row → DocOfNumber row.deferral.seq trees None → IsDamaged table.Defect3 trees
unfolding IsDamaged
found_entry_unmet trees row kept none = inr (inl (_, (9, omega arith, refl), refl, kept_unmet kept_defect3 kept_entry 0 (λ r. r.deferral.seq) (λ r. refl) _ table.Defect3 (λ r. r.doc) row kept refl refl none))

-- its aircraft is not there
pub found_aircraft_unmet : (trees : Trees) (row : Deferral3Row) → IsKept kept_defect3 trees row → TailOfNumber row.deferral.aircraft trees None → IsDamaged table.Defect3 trees
unfolding IsDamaged
found_aircraft_unmet trees row kept none = inr (inl (_, (10, omega arith, refl), refl, kept_unmet kept_defect3 kept_aircraft 1 (λ r. r.deferral.aircraft) (λ r. refl) _ table.Defect3 (λ r. r.tail) row kept refl refl none))

-- the aircraft that the first deferral names is not there
pub found_named_unmet : (trees : Trees) (n : ℕ) (row : Deferral3Row) → DeferralFound n trees (Some row) → TailOfNumber row.deferral.aircraft trees None → IsDamaged table.Defect3 trees
unfolding IsDamaged
found_named_unmet trees n row one none =
    inr (inl (_, (10, omega arith, refl), refl, unmet kept_defect3 kept_aircraft 1 (λ r. r.deferral.aircraft) (λ r. refl) table.Defect3 (λ r. r.tail) (one.0, one.1, ap (option_map (λ (r : Deferral3Row). r.deferral.aircraft)) one.2) none))

-- one of these is not
pub found_lacking : (trees : Trees) (row : Deferral3Row) → IsKept kept_defect3 trees row → DefectOfRow row.deferral trees None → IsDamaged table.Defect3 trees
found_lacking trees row kept (inl gone) = found_entry_unmet trees row kept gone
found_lacking trees row kept (inr gone) = found_aircraft_unmet trees row kept gone.2

-- an entry that defers a defect has no deferral
pub found_unmet : (trees : Trees) (doc : List ℕ) (n : ℕ) → DefectNumber doc trees (Some n) → DeferralFound n trees None → IsDamaged table.Defect3 trees
unfolding IsDamaged
found_unmet trees doc n one none =
    let row = deferral_says one.0 n _ refl one.2 in
    let kind : kind_number row.0.kind ≡ kind_number kinds.Defer = ap kind_number (defers row.0.kind row.2) in
    inr (inl (
      _,
      (8, omega arith, refl),
      refl,
      kept_unmet kept_entry kept_defect3 0 (λ r. r.seq) (λ r. refl) _ table.Defect3 (λ (r : Deferral3Row). r.deferral.aircraft) row.0 (chosen_kept kept_entry row.0 one.0 row.1 one.1)
          (number_is (kind_number row.0.kind) (kind_number kinds.Defer) ∙ ap (λ m. nat_eq m (kind_number kinds.Defer)) kind) row.3 (none.0, none.1, ap (option_map (λ (r : Deferral3Row). r.deferral.aircraft)) none.2),
    ))

-- ── accomplishments ──

last_has : (o : Option Base) (rows : List DoneRow) (base : Base) → fold (λ before (row : DoneRow). Some row.base) o rows ≡ Some base → (o ≡ Some base) ⊎ ((row : DoneRow) × Has rows row × (row.base ≡ base))
last_has o [] base h = inl h
last_has o (row ∷ rows) base h = elim (last_has (Some row.base) rows base h) [ inl same ↦ inr (row, inl refl, cc) | inr later ↦ inr (later.0, inr later.1, later.2) ]

-- the last accomplishment of a task leaves a base past a life
pub done_past : {chosen : Row → Bool} (trees : Trees) (base : Base) → ¬ IsLife (life_in_base base) → Gives kept_done3 chosen last_base trees (Some base) → IsDamaged table.Done3 trees
unfolding IsDamaged
done_past trees base past gave =
    elim (last_has None gave.0 base (sym gave.2)) [
      | inl none ↦ absurd cc
      | inr row ↦ inr (inr (row.0, chosen_kept kept_done3 row.0 gave.0 row.1 gave.1, λ low. past (subst (λ b. IsLife (life_in_base b)) row.2 low)))
    ]

last_fits : (o : Option Base) (rows : List DoneRow) → IfSome o FitsBaseValue → AllByRecursion FitsDone rows → IfSome (fold (λ before (row : DoneRow). Some row.base) o rows) FitsBaseValue
last_fits o [] h all = h
last_fits o (row ∷ rows) h all = last_fits (Some row.base) rows all.0.base all.1

-- a last base fits where the rows do
pub last_base_fits : (rows : List DoneRow) → All FitsDone rows → IfSome (last_base rows) FitsBaseValue
last_base_fits rows fits = last_fits None rows tt (recursion_from_All FitsDone rows fits)
