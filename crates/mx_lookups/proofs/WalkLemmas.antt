-- Rows of a table that are gone through one by one, with a look-up for each.
use Rattle.std.proofs.Common.{◌≡◌, inr, ℕ, List, [], ◌∷◌, ◌++◌, Bool, length, Option, Result, None, Some, Ok, Err, refl, sym, ap, ap₂, subst, arith, ◌∙◌, append_assoc, append-nil}
use Rattle.std.specs.Prelude.{IsErrAnd}
use Rattle.std.specs.List.{AllByRecursion, filter_map, cons_option}
use Rattle.sqlite.specs.Order.{Row}
use Rattle.sqlite.specs.State.{State}
use Rattle.sqlite.specs.Tree.{Trees}
use Rattle.sqlite_rules.specs.Lists.{Has}
use Rattle.sqlite_rules.proofs.ListLemmas.{all_from, contains_had, has_contained}
use Rattle.mx_base.specs.declared.point.Point.{Point}
use Rattle.mx_book.specs.commands.Act.{Entry}
use Rattle.mx_book.specs.Book.{IsBook}
use Rattle.mx_layout.specs.TableName.{TableName}
use Rattle.mx_layout.specs.Crash.{IsWithin}
use Rattle.mx_layout.specs.declared.fault.TableFault.{TableFault}
use Rattle.mx_layout.specs.declared.fault.TableFault.TheVariants as fault
use Rattle.mx_layout.specs.kept.Kept.{Kept}
use Rattle.mx_table_rows.specs.chosen.Calls.{ReadsFirst}
use Rattle.mx_lookups.specs.numbers.AnyRows.{AreChosen, AreSaid, GivesEach, ReadsAnyAt}
use Rattle.mx_lookups.specs.numbers.Damage.{IsDamaged, IsKept}
use Rattle.mx_lookups.specs.numbers.Reads.{ReadsAt, rows_point}
use Rattle.mx_lookups.specs.numbers.Told.{Damage, DamageEach, IsChosen, TellsDamageAt}
use Rattle.mx_lookups.proofs.NumbersProofs.AnyLemmas.{any_later, empty_is, chosen_kept, gives}
use Rattle.mx_lookups.proofs.NumbersProofs.ReadLemmas.{no_memory, reads_then, refused, stopped, told}
use Rattle.mx_lookups.proofs.NumbersProofs.TableLemmas.{IsTableAt}
use Rattle.mx_lookups.proofs.NumbersProofs.ToldLemmas.{told_later}

-- what each row of a book says, where it says anything, and what is there for each; the rows that are gone through, and what each says over any rows
module _ {R X : Type 0} (k : Kept R) (rows : List Entry → List R) (said : List Entry → R → Option X) (There : List Entry → R → Type 0) (chosen : Row → Bool) (Says : Trees → R → Option X → Type 0) where
  -- the rows that are left have what is to be there for each, and what was said so far and what they say is what all rows say
  abbrev IsLeft : List X → List R → List Entry → Type 0
  IsLeft done left book = AllByRecursion (There book) left × (filter_map (said book) (rows book) ≡ done ++ filter_map (said book) left)

  -- over any rows those that are left are of the chosen rows, and what they say comes behind what was said so far in what the chosen rows say
  abbrev IsBehind : List X → List R → Trees → Type 0
  IsBehind done left trees = (all : List R) × AreChosen k None k.order chosen trees all × AllByRecursion (IsChosen k chosen trees) left × ((later : List X) → AreSaid (Says trees) left later → AreSaid (Says trees) all (done ++ later))

  -- from one state to the other, at the point, so much was said, and these rows are left
  abbrev pub WalksAt : Point → State → State → List X → List R → Type 0
  WalksAt at old new done left = ReadsAt {V = ℕ} at (λ book n. IsLeft done left book) old new (Ok 0) × ReadsAnyAt {V = ℕ} at (λ trees n. IsBehind done left trees) old new (Ok 0)

  -- so at the point at which rows are looked up
  abbrev pub Walks : State → State → List X → List R → Type 0
  Walks = WalksAt rows_point

  pub walk_begun : {at : Point} {V : Type 0} (items : V → List R) (old new : State) (v : V) (done : List X) (left : List R) {book_rows : List Entry → List R} → done ≡ [] → left ≡ items v → ((book : List Entry) → IsBook book → AllByRecursion (There book) (rows book))
      → IsTableAt at k book_rows → ReadsFirst k None k.order chosen items old new (Ok v) → ReadsAt at (λ book w. items w ≡ rows book) old new (Ok v) → WalksAt at old new done left
  walk_begun items old new v done left none all law it raw =
      λ r. (
        told _ _ old new v 0 (λ book b is. (
          subst (AllByRecursion (There book)) (sym (all ∙ is)) (law book b),
          ap (filter_map (said book)) (sym (all ∙ is)) ∙ ap (λ l. l ++ filter_map (said book) left) (sym none),
        )) r,
        record {
          found = λ clean has.
              let gave = (gives it {items = items} (λ found. found) all raw).found clean has in (
                gave.0,
                gave.1,
                all_from (IsChosen k chosen old.now.trees) left (λ x here. (gave.0, gave.1, contains_had gave.0 x (subst (λ l. Has l x) gave.2 here))),
                λ later said. subst (λ l. AreSaid (Says old.now.trees) l (done ++ later)) gave.2 (subst (λ before. AreSaid (Says old.now.trees) left (before ++ later)) (sym none) said),
              );
        },
      )

  module _ {at : Point} (a b c : State) (done : List X) (left later : List R) (row : R) (walks : WalksAt at a b done left) (is : left ≡ row ∷ later) where
    here : WalksAt at a b done (row ∷ later)
    here = subst (WalksAt at a b done) is walks

    both : {V : Type 0} (P : List Entry → V → Type 0) (v : V) → ReadsAt at P b c (Ok v) → ReadsAt {V = V} at (λ book w. IsLeft done (row ∷ later) book × P book w) a c (Ok v)
    both P v r = reads_then _ P a b c 0 (Ok v) here.0 r

    -- over any rows it says this, before what those behind it say
    behind : {V : Type 0} (P : List Entry → V → Type 0) (Any : Trees → V → Type 0) (v : V) (one : Option X) (longer : List X) → ((rest : List X) → longer ++ rest ≡ done ++ cons_option one rest) → ((trees : Trees) → Any trees v → Says trees row one)
        → ReadsAt at P b c (Ok v) → ReadsAnyAt at Any b c (Ok v) → ReadsAnyAt {V = ℕ} at (λ trees n. IsBehind longer later trees) a c (Ok 0)
    behind P Any v one longer more so r any = record {
      found = λ clean has.
          let was = here.1.found (omega (arith, clean, r.within.survives.clean)) has in (
            was.0,
            was.1,
            was.2.1,
            λ rest said. subst (AreSaid (Says a.now.trees) was.0) (sym (more rest)) (was.3 (cons_option one rest) (one, rest, so a.now.trees ((any_later _ Any a b c 0 v here.0 r.within any).found clean has), said, refl)),
          );
    }

    -- the row says one thing more
    pub said_more : {V : Type 0} (P : List Entry → V → Type 0) (Any : Trees → V → Type 0) (v : V) (x : X) (longer : List X) → longer ≡ done ++ x ∷ [] → ((book : List Entry) → P book v → said book row ≡ Some x) → ((trees : Trees) → Any trees v → Says trees row (Some x))
        → ReadsAt at P b c (Ok v) → ReadsAnyAt at Any b c (Ok v) → WalksAt at a c longer later
    said_more P Any v x longer more so says r any = (
      told _ _ a c v 0 (λ book is_book h. (
        h.0.0.1,
        h.0.1 ∙ ap (λ o. done ++ cons_option o (filter_map (said book) later)) (so book h.1)
            ∙ sym (append_assoc done (x ∷ []) (filter_map (said book) later)) ∙ ap (λ l. l ++ filter_map (said book) later) (sym more),
      )) (both P v r),
      behind P Any v (Some x) longer (λ rest. ap (λ l. l ++ rest) more ∙ append_assoc done (x ∷ []) rest) says r any,
    )

    -- the row says nothing
    pub passed_by : {V : Type 0} (P : List Entry → V → Type 0) (Any : Trees → V → Type 0) (v : V) → ((book : List Entry) → P book v → said book row ≡ None) → ((trees : Trees) → Any trees v → Says trees row None) → ReadsAt at P b c (Ok v) → ReadsAnyAt at Any b c (Ok v) → WalksAt at a c done later
    passed_by P Any v so says r any = (
      told _ _ a c v 0 (λ book is_book h. (h.0.0.1, h.0.1 ∙ ap (λ o. done ++ cons_option o (filter_map (said book) later)) (so book h.1))) (both P v r),
      behind P Any v None done (λ rest. refl) says r any,
    )

    -- it is kept in the table
    kept_of : (trees : Trees) → IsChosen k chosen trees row → IsKept k trees row
    kept_of trees one = chosen_kept k row one.0 (has_contained one.0 row one.2) one.1

    -- what is looked up for the row is damaged
    pub told_each : {W : Type 0} (Then : R → Damage) (result : Result W TableFault) → IsWithin b c → TellsDamageAt at (Then row) b c result → TellsDamageAt at (DamageEach k chosen Then) a c result
    told_each Then result within more = record {
      told = λ clean has name is. inr (row, (here.1.found (omega (arith, clean, within.survives.clean)) has).2.0, (told_later {Of = Then row} here.0 within more).told clean has name is);
    }

    -- what is to be there for the row is not
    pub missing : {V W : Type 0} (P : List Entry → V → Type 0) (Q : List Entry → W → Type 0) (Any : Trees → V → Type 0) (v : V) (name : TableName) → ((book : List Entry) → There book row → P book v → ⊥) → ((trees : Trees) → IsKept k trees row → Any trees v → IsDamaged name trees)
        → ReadsAt at P b c (Ok v) → ReadsAnyAt at Any b c (Ok v) → ReadsAt at Q a c (Err (fault.Damaged name))
    missing P Q Any v name never reason r any =
        refused _ Q a c v name (λ book is_book h. never book h.0.0.0 h.1)
        (λ clean has. reason a.now.trees (kept_of a.now.trees (here.1.found (omega (arith, clean, r.within.survives.clean)) has).2.0) ((any_later _ Any a b c 0 v here.0 r.within any).found clean has)) (both P v r)

    pub walk_starved : {V W : Type 0} (P : List Entry → V → Type 0) (Q : List Entry → W → Type 0) (v : V) (result : Result W TableFault) → IsErrAnd result (λ e. e ≡ fault.Memory) → ReadsAt at P b c (Ok v) → ReadsAt at Q a c result
    walk_starved P Q v result is r = stopped Q Q a c fault.Memory result is (no_memory _ Q a c v (both P v r))

  -- the row says nothing, and nothing is looked up for it
  pub skipped : {at : Point} (a b : State) (done : List X) (left later : List R) (row : R) → WalksAt at a b done left → left ≡ row ∷ later → ((book : List Entry) → said book row ≡ None) → ((trees : Trees) → Says trees row None) → WalksAt at a b done later
  skipped {at} a b done left later row walks is so says =
      let here : WalksAt at a b done (row ∷ later) = subst (WalksAt at a b done) is walks in (
        told _ _ a b 0 0 (λ book is_book h. (h.0.1, h.1 ∙ ap (λ o. done ++ cons_option o (filter_map (said book) later)) (so book))) here.0,
        record {
          found = λ clean has.
              let was = here.1.found clean has in
              (was.0, was.1, was.2.1, λ rest of_rest. was.3 rest (None, rest, says a.now.trees, of_rest, refl));
        },
      )

  pub walk_stopped : {at : Point} {V W : Type 0} (a b c : State) (done : List X) (rest : List R) → WalksAt at a b done rest → (P : List Entry → V → Type 0) (Q : List Entry → W → Type 0) (e : TableFault) (result : Result W TableFault) → IsErrAnd result (λ f. f ≡ e)
      → ReadsAt at P b c (Err e) → ReadsAt at Q a c result
  walk_stopped {V = V} a b c done rest walks P Q e result is r = stopped {V = V} _ Q a c e result is (reads_then _ P a b c 0 (Err e) walks.0 r)

  -- no row is left
  pub walk_ended : {at : Point} {V : Type 0} (items : V → List X) (a b : State) (v : V) (rest : List R) → length rest ≡ 0 → WalksAt at a b (items v) rest → ReadsAt at (λ book w. items w ≡ filter_map (said book) (rows book)) a b (Ok v)
  walk_ended items a b v rest none walks =
      told _ _ a b 0 v (λ book is_book h. sym (h.1 ∙ ap (λ l. items v ++ filter_map (said book) l) (empty_is rest none) ∙ append-nil (items v))) walks.0

  -- and the chosen rows, whatever they are, said what there is
  pub walk_said : {at : Point} {V : Type 0} (items : V → List X) (a b : State) (v : V) (rest : List R) → length rest ≡ 0 → WalksAt at a b (items v) rest → ReadsAnyAt at (λ trees w. GivesEach k chosen Says trees (items w)) a b (Ok v)
  walk_said items a b v rest none walks = record {
    found = λ clean has.
        let was = walks.1.found clean has in (
          was.0,
          was.1,
          subst (AreSaid (Says a.now.trees) was.0) (append-nil (items v)) (was.3 [] (subst (λ l. AreSaid (Says a.now.trees) l []) (sym (empty_is rest none)) refl)),
        );
  }
