-- Look-ups one behind another, and what is made of their answers, are look-ups.
use Rattle.std.proofs.Common.{◌≡◌, ◌∙◌, ℕ, inr, Bool, List, Option, Some, None, Result, Ok, Err, refl, sym, subst, arith}
use Rattle.std.specs.Prelude.{IsErrAnd}
use Rattle.std.specs.declared.cmp.Ordering.{Ordering}
use Rattle.sqlite.specs.Effect.{Database}
use Rattle.sqlite.specs.Held.{state}
use Rattle.sqlite.specs.Order.{Row}
use Rattle.sqlite.specs.State.{State, HasCleanDisk}
use Rattle.sqlite.specs.Store.{Ghosts}
use Rattle.sqlite.specs.Tree.{Trees}
use Rattle.sqlite.specs.declared.transaction.Transaction.{Transaction}
use Rattle.mx_base.specs.declared.point.Point.{Point}
use Rattle.mx_book.specs.Book.{IsBook}
use Rattle.mx_book.specs.commands.Act.{Entry}
use Rattle.mx_layout.specs.Crash.{IsWithin}
use Rattle.mx_layout.specs.TableName.{TableName}
use Rattle.mx_layout.specs.declared.fault.TableFault.{TableFault}
use Rattle.mx_layout.specs.declared.fault.TableFault.TheVariants.{Damaged, Memory}
use Rattle.mx_layout.specs.kept.Kept.{Kept}
use Rattle.mx_table_rows.specs.chosen.Calls.{ReadsFirst}
use Rattle.mx_lookups.specs.numbers.AnyRows.{AreChosen, GivesBy, GivesFirst, ReadsAnyAt}
use Rattle.mx_lookups.specs.numbers.Damage.{IsDamaged}
use Rattle.mx_lookups.specs.numbers.LookUp.{IsLookUpAt, LooksUp}
use Rattle.mx_lookups.specs.numbers.Reads.{HasTablesOfRowsAt, IsRowsPoint, ReadsAt, later_point, rows_point}
use Rattle.mx_lookups.specs.numbers.Told.{Damage, TellsDamageAt, UnreadFirst}
use Rattle.mx_lookups.proofs.NumbersProofs.AnyLemmas.{any_so, silent}
use Rattle.mx_lookups.proofs.NumbersProofs.ReadLemmas.{follows, map_ok, no_memory, reads_then, refused, stopped, told}
use Rattle.mx_lookups.proofs.NumbersProofs.TableLemmas.{IsInEachAt, IsTableAt, at_each, later, now}
use Rattle.mx_lookups.proofs.NumbersProofs.ToldLemmas.{handed, told_as, told_here, told_later, unread_in}

-- ── over states ──

any_chosen : {at : Point} {X V : Type 0} {k : Kept X} (is_in : IsInEachAt at k) {most : Option ℕ} {order : Row → Row → Ordering} {picks : Row → Bool} {items : V → List X} {old new : State} (result : Result V TableFault)
    → ReadsFirst k most order picks items old new result → ReadsAnyAt at (λ trees v. AreChosen k most order picks trees (items v)) old new result
any_chosen {k = k} is_in (Ok v) r = record { found = λ clean has. record { are = r.rows clean (is_in _ has); fit = r.fits } }
any_chosen is_in (Err e) r = record { found = λ clean has. tt }

told_chosen : {at : Point} {X V : Type 0} {k : Kept X} (is_in : IsInEachAt at k) {most : Option ℕ} {order : Row → Row → Ordering} {picks : Row → Bool} {items : V → List X} {old new : State} (result : Result V TableFault)
    → ReadsFirst k most order picks items old new result → TellsDamageAt at (UnreadFirst k most order picks) old new result
told_chosen is_in (Ok v) r = record { told = λ clean has name is. absurd cc }
told_chosen is_in (Err e) r = unread_in is_in refl r

any_both : {at : Point} {V W : Type 0} {P : List Entry → V → Type 0} (A : Trees → V → Type 0) (B : Trees → W → Type 0) {a b c : State} {v : V} (result : Result W TableFault) → ReadsAt at P a b (Ok v) → ReadsAnyAt at A a b (Ok v) → IsWithin b c → ReadsAnyAt at B b c result
    → ReadsAnyAt at (λ trees w. A trees v × B trees w) a c result
any_both {at = at} A B {a = a} {b = b} result one first within two = record {
  found = λ clean has.
      let early : HasCleanDisk b = omega (arith, within.survives.clean) in
      let same : b.now ≡ a.now = one.unchanged early has in
      map_ok _ _ result (λ w is. (first.found early has, subst (λ (d : Database). B d.trees w) same is)) (two.found clean (subst (λ (d : Database). HasTablesOfRowsAt at d.schema) (sym same) has));
}

told_both : {at : Point} {V W : Type 0} {P : List Entry → V → Type 0} (A : Trees → V → Type 0) (Why : Damage) {a b c : State} {v : V} (result : Result W TableFault) → ReadsAt at P a b (Ok v) → ReadsAnyAt at A a b (Ok v) → IsWithin b c → TellsDamageAt at Why b c result
    → TellsDamageAt at (λ name trees. A trees v × Why name trees) a c result
told_both A Why result one first within two = record {
  told = λ clean has name is. (first.found (omega (arith, within.survives.clean)) has, (told_later one within two).told clean has name is);
}

-- ── look-ups ──

module _ {S : Type 0} {at : Point} {g : Ghosts S} where
  -- the rows that are chosen from a table that stands at the point
  pub chosen_in : {X V : Type 0} {k : Kept X} (is_in : IsInEachAt at k) {most : Option ℕ} {order : Row → Row → Ordering} {picks : Row → Bool} {items : V → List X} {P : List Entry → V → Type 0} {old new : Transaction S} {result : Result V TableFault}
      → new.conn.ghost_name ≡ old.conn.ghost_name → ReadsAt at P (state g old.conn.now) (state g new.conn.now) result → ReadsFirst k most order picks items (state g old.conn.now) (state g new.conn.now) result
      → IsLookUpAt at g P (λ trees v. AreChosen k most order picks trees (items v)) (UnreadFirst k most order picks) old new result
  chosen_in is_in {result = result} same reads raw = record { same_reference = same; reads = reads; any_rows = any_chosen is_in result raw; damage = told_chosen is_in result raw }

  -- so of a table of which it is known what it keeps
  pub chosen : {X V : Type 0} {k : Kept X} {book_rows : List Entry → List X} (it : IsTableAt at k book_rows) {most : Option ℕ} {order : Row → Row → Ordering} {picks : Row → Bool} {items : V → List X} {P : List Entry → V → Type 0} {old new : Transaction S} {result : Result V TableFault}
      → new.conn.ghost_name ≡ old.conn.ghost_name → ReadsAt at P (state g old.conn.now) (state g new.conn.now) result → ReadsFirst k most order picks items (state g old.conn.now) (state g new.conn.now) result
      → IsLookUpAt at g P (λ trees v. AreChosen k most order picks trees (items v)) (UnreadFirst k most order picks) old new result
  chosen it = chosen_in it.is_in

  -- what follows from what was answered
  pub answers : {V W : Type 0} {P : List Entry → V → Type 0} {A : Trees → V → Type 0} {Why : Damage} {Q : List Entry → W → Type 0} {B : Trees → W → Type 0} {Other : Damage} {old new : Transaction S} {v : V} {w : W}
      → IsLookUpAt at g P A Why old new (Ok v) → ((book : List Entry) → IsBook book → P book v → Q book w) → ((trees : Trees) → A trees v → B trees w) → IsLookUpAt at g Q B Other old new (Ok w)
  answers l so any = record {
    same_reference = l.same_reference;
    reads = told _ _ _ _ _ _ so l.reads;
    any_rows = any_so _ _ _ _ _ _ any l.any_rows;
    damage = record { told = λ clean has name is. absurd cc };
  }

  -- the fault is handed on
  pub hands : {V W : Type 0} {P : List Entry → V → Type 0} {A : Trees → V → Type 0} {Why : Damage} {Q : List Entry → W → Type 0} {B : Trees → W → Type 0} {Other : Damage} {old new : Transaction S} {e : TableFault} {result : Result W TableFault}
      → IsErrAnd result (λ f. f ≡ e) → ((name : TableName) (trees : Trees) → Why name trees → Other name trees) → IsLookUpAt {V = V} at g P A Why old new (Err e) → IsLookUpAt at g Q B Other old new result
  hands is why l = record { same_reference = l.same_reference; reads = stopped _ _ _ _ _ _ is l.reads; any_rows = silent _ _ _ _ _ is; damage = handed why is l.damage }

  -- what was answered, or stopped it, is handed on
  pub implies : {V : Type 0} {P : List Entry → V → Type 0} {A : Trees → V → Type 0} {Why : Damage} {Q : List Entry → V → Type 0} {B : Trees → V → Type 0} {Other : Damage} {old new : Transaction S} (result : Result V TableFault)
      → ((book : List Entry) (v : V) → IsBook book → P book v → Q book v) → ((trees : Trees) (v : V) → A trees v → B trees v) → ((name : TableName) (trees : Trees) → Why name trees → Other name trees)
      → IsLookUpAt at g P A Why old new result → IsLookUpAt at g Q B Other old new result
  implies result so any why l = record {
    same_reference = l.same_reference;
    reads = follows _ _ _ _ result so l.reads;
    any_rows = record { found = λ clean has. map_ok _ _ result (any _) (l.any_rows.found clean has) };
    damage = told_as why l.damage;
  }

  -- one behind another
  pub behind : {V W : Type 0} {P : List Entry → V → Type 0} {A : Trees → V → Type 0} {Why : Damage} {Q : List Entry → W → Type 0} {B : Trees → W → Type 0} {Other : Damage} {a b c : Transaction S} {v : V} {result : Result W TableFault}
      → IsLookUpAt at g P A Why a b (Ok v) → IsLookUpAt at g Q B Other b c result → IsLookUpAt at g (λ book w. P book v × Q book w) (λ trees w. A trees v × B trees w) (λ name trees. A trees v × Other name trees) a c result
  behind {A = A} {B = B} {Other = Other} {result = result} one two = record {
    same_reference = two.same_reference ∙ one.same_reference;
    reads = reads_then _ _ _ _ _ _ _ one.reads two.reads;
    any_rows = any_both A B result one.reads one.any_rows two.reads.within two.any_rows;
    damage = told_both A Other result one.reads one.any_rows two.reads.within two.damage;
  }

  -- what was answered is so of no book, and this table is damaged
  pub refuses : {V W : Type 0} {P : List Entry → V → Type 0} {A : Trees → V → Type 0} {Why : Damage} {Q : List Entry → W → Type 0} {B : Trees → W → Type 0} {Other : Damage} {old new : Transaction S} {v : V} (name : TableName)
      → IsLookUpAt at g P A Why old new (Ok v) → ((book : List Entry) → IsBook book → P book v → ⊥) → ((trees : Trees) → A trees v → IsDamaged name trees) → ((trees : Trees) → A trees v → Other name trees)
      → IsLookUpAt {V = W} at g Q B Other old new (Err (Damaged name))
  refuses name l never damaged why = record {
    same_reference = l.same_reference;
    reads = refused _ _ _ _ _ name never (λ clean has. damaged _ (l.any_rows.found clean has)) l.reads;
    any_rows = record { found = λ clean has. tt };
    damage = told_here name (λ clean has. why _ (l.any_rows.found clean has));
  }

  -- what the chosen rows of a table give, as a book says it
  pub rows_give : {X V W : Type 0} {k : Kept X} {book_rows : List Entry → List X} (it : IsTableAt at k book_rows) {most : Option ℕ} {order : Row → Row → Ordering} {picks : Row → Bool} {items : V → List X} {P : List Entry → V → Type 0} {Why : Damage} {what : List Entry → W} {old new : Transaction S} {v : V} {w : W} (of : List X → W)
      → new.conn.ghost_name ≡ old.conn.ghost_name → ReadsAt at P (state g old.conn.now) (state g new.conn.now) (Ok v) → ReadsFirst k most order picks items (state g old.conn.now) (state g new.conn.now) (Ok v)
      → w ≡ of (items v) → ((book : List Entry) → IsBook book → P book v → of (items v) ≡ what book) → IsLookUpAt at g (λ book found. found ≡ what book) (GivesFirst k most order picks of) Why old new (Ok w)
  rows_give it of same reads raw made so = answers (chosen it same reads raw) (λ book b p. made ∙ so book b p) (λ trees are. (_, are, made))

-- what is looked up alike at each point is so now and at layout 3
pub at_points : {S V : Type 0} {g : Ghosts S} {P : List Entry → V → Type 0} {A : Trees → V → Type 0} {Why : Damage} {old new : Transaction S} {result : Result V TableFault} → ((at : Point) → IsRowsPoint at → IsLookUpAt at g P A Why old new result) → LooksUp g P A Why old new result
at_points so = record { now = so rows_point now; later = so later_point later }

-- and at each such point
pub at_point : {S V : Type 0} {g : Ghosts S} {P : List Entry → V → Type 0} {A : Trees → V → Type 0} {Why : Damage} {old new : Transaction S} {result : Result V TableFault} → LooksUp g P A Why old new result → {at : Point} → IsRowsPoint at → IsLookUpAt at g P A Why old new result
at_point {g = g} {P = P} {A = A} {Why = Why} {old = old} {new = new} {result = result} l = at_each (λ at. IsLookUpAt at g P A Why old new result) l.now l.later

-- ── a second look-up, by what the first found ──

-- what is looked up by what was found
pub some_given : {A V : Type 0} {First : Trees → Option A → Type 0} {none : V} {Then : A → Trees → V → Type 0} {trees : Trees} {found : Option A} {n : A} {w : V} → found ≡ Some n → First trees found → Then n trees w → GivesBy First none Then trees w
some_given {First = First} {trees = trees} {n = n} is first then = record { found = Some n; first = subst (First trees) is first; then = then }

-- nothing was found
pub none_given : {A V : Type 0} {First : Trees → Option A → Type 0} {none : V} {Then : A → Trees → V → Type 0} {trees : Trees} {found : Option A} {w : V} → found ≡ None → First trees found → w ≡ none → GivesBy First none Then trees w
none_given {First = First} {trees = trees} is first made = record { found = None; first = subst (First trees) is first; then = made }

-- what the first look-up gave, as it is known now
pub by_first : {A : Type 0} (First : Trees → Option A → Type 0) {trees : Trees} {found : Option A} {n : A} → found ≡ Some n → First trees found → First trees (Some n)
by_first First {trees = trees} is first = subst (First trees) is first
