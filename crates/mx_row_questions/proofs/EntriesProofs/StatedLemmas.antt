-- What the first of the rows that were read states, by what was looked up behind it.
use Rattle.std.proofs.Common.{◌≡◌, ℕ, List, Bool, Option, Result, Vec, None, Some, Ok, Err, refl, sym, ap, ap₂, subst, arith, ◌∙◌}
use Rattle.std.specs.Prelude.{IsErrAnd}
use Rattle.std.specs.Option.{option_and_then, option_map}
use Rattle.std.specs.declared.alloc.Global.{Global}
use Rattle.std.specs.declared.cmp.Ordering.{Ordering}
use Rattle.sqlite.specs.Order.{Row}
use Rattle.sqlite.specs.State.{State, HasCleanDisk}
use Rattle.sqlite.specs.Tree.{Trees}
use Rattle.mx_book.specs.commands.Act.{Act, Entry, act_of}
use Rattle.mx_book.specs.declared.commands.body.Body.{Body}
use Rattle.mx_layout.specs.Crash.{IsWithin}
use Rattle.mx_layout.specs.declared.fault.TableFault.{TableFault}
use Rattle.mx_layout.specs.declared.fault.TableFault.TheVariants.{Memory}
use Rattle.mx_layout.specs.kept.Kept.{Kept}
use Rattle.mx_table_rows.specs.chosen.Calls.{ReadsFirst}
use Rattle.mx_lookups.specs.numbers.AnyRows.{AreChosen, Gives, ReadsAny}
use Rattle.mx_lookups.specs.numbers.Reads.{Reads}
use Rattle.mx_lookups.proofs.NumbersProofs.AnyLemmas.{any_later, given_in}
use Rattle.mx_lookups.proofs.NumbersProofs.ReadLemmas.{no_memory, reads_then, stopped, told}
use Rattle.mx_lookups.proofs.NumbersProofs.TableLemmas.{IsInEach}
use Rattle.mx_row_questions.specs.entries.Names.{ByRow, WithName}

-- memory ran out behind what was answered
pub starved : {V W : Type 0} (P : List Entry → V → Type 0) (Q : List Entry → W → Type 0) (old new : State) (v : V) (result : Result W TableFault) → IsErrAnd result (λ e. e ≡ Memory) → Reads P old new (Ok v) → Reads Q old new result
starved P Q old new v result is r = stopped Q Q old new Memory result is (no_memory P Q old new v r)

-- ── over any rows ──

-- all rows that were chosen
pub all_chosen : {X V : Type 0} {k : Kept X} (is_in : IsInEach k) {most : Option ℕ} {order : Row → Row → Ordering} {chosen : Row → Bool} {items : V → List X} {old new : State} {v : V} → ReadsFirst k most order chosen items old new (Ok v) → ReadsAny (AreChosen k most order chosen) old new (Ok (items v))
all_chosen {k = k} is_in r = record { found = λ clean has. record { are = r.rows clean (is_in _ has); fit = r.fits } }

-- two look-ups one after the other
pub any_both : {V W : Type 0} (P : List Entry → V → Type 0) (A : Trees → V → Type 0) (B : Trees → W → Type 0) (a b c : State) (v : V) (w : W) → Reads P a b (Ok v) → ReadsAny A a b (Ok v) → IsWithin b c → ReadsAny B b c (Ok w) → ReadsAny (λ trees w. A trees v × B trees w) a c (Ok w)
any_both P A B a b c v w one first within second = record { found = λ clean has. (first.found (omega (arith, within.survives.clean)) has, (any_later P B a b c v w one within second).found clean has) }

-- what is said with a name that was looked up
pub any_named : {Name Said : Type 0} (NameOf : ℕ → Trees → Option Name → Type 0) (n : ℕ) (says : Name → Said) {old new : State} {name : Option Name} {said : Option Said} → said ≡ option_map says name → ReadsAny (NameOf n) old new (Ok name) → ReadsAny (WithName NameOf n says) old new (Ok said)
any_named NameOf n says {name = name} so r = record { found = λ clean has. (name, r.found clean has, so) }

-- a fact of a thing that is this one
pub any_as : {K V : Type 0} (Is : K → Trees → V → Type 0) {k known : K} {old new : State} {result : Result V TableFault} → k ≡ known → ReadsAny (Is known) old new result → ReadsAny (Is k) old new result
any_as Is {old = old} {new = new} {result = result} same r = subst (λ x. ReadsAny (Is x) old new result) (sym same) r

module _ {It Said R : Type 0} (First : Trees → Option It → Type 0) (Then : It → Trees → Option Said → Type 0) (view : R → Option Said) where
  -- there is no row
  pub any_none : (a b : State) (first : Option It) (r : R) → first ≡ None → view r ≡ None → ReadsAny First a b (Ok first) → ReadsAny (λ trees v. ByRow First Then trees (view v)) a b (Ok r)
  any_none a b first r none nothing found = record { found = λ clean has. record { row = None; first = subst (First a.now.trees) none (found.found clean has); says = nothing } }

  -- the row says what was looked up behind it
  pub any_this : {V W : Type 0} (P : List Entry → V → Type 0) (Q : Trees → W → Type 0) (a b c : State) (v : V) (w : W) (first : Option It) (it : It) (r : R) → first ≡ Some it → Reads P a b (Ok v) → ReadsAny First a b (Ok first)
      → IsWithin b c → ((trees : Trees) → Q trees w → Then it trees (view r)) → ReadsAny Q b c (Ok w) → ReadsAny (λ trees v. ByRow First Then trees (view v)) a c (Ok r)
  any_this P Q a b c v w first it r this one found within so two = record {
    found = λ clean has.
        let early : HasCleanDisk b = omega (arith, within.survives.clean) in
        record {
          row = Some it;
          first = subst (First a.now.trees) this (found.found early has);
          says = so a.now.trees ((any_later P Q a b c v w one within two).found clean has);
        };
  }

-- ── entries with one row ──

-- a kind of entry: the table and the rows that are chosen from it, what is taken of them, what that says in a book and over any rows, and what a book has to be taken
pub record Kind (X It : Type 0) : Type 1 where
  pub kept : Kept X
  pub chosen : Row → Bool
  pub first : List X → Option It
  pub says : List Entry → It → Option Act
  pub Says : It → Trees → Option Act → Type 0
  pub wanted : List Entry → Option It
  pub is_in : IsInEach kept
  pub found : (old new : State) (result : Result (Vec X Global) TableFault) → ReadsFirst kept None kept.order chosen (λ rows. rows.items) old new result → Reads (λ book rows. first rows.items ≡ wanted book) old new result

module _ {X It : Type 0} (kind : Kind X It) where
  -- the rows were read
  abbrev pub IsRead : State → State → Result (Vec X Global) TableFault → Type 0
  IsRead old new result = ReadsFirst kind.kept None kind.kept.order kind.chosen (λ rows. rows.items) old new result

  -- what a book has says this
  abbrev pub IsStated : List Entry → Option Body → Type 0
  IsStated book said = option_map act_of said ≡ option_and_then (kind.says book) (kind.wanted book)

  -- and what any rows have
  abbrev pub AnyStated : Trees → Option Body → Type 0
  AnyStated trees said = ByRow (Gives kind.kept kind.chosen kind.first) kind.Says trees (option_map act_of said)

  -- the rows were not read
  pub unread : {a b : State} {e : TableFault} {result : Result (Option Body) TableFault} → IsErrAnd result (λ f. f ≡ e) → IsRead a b (Err e) → Reads IsStated a b result
  unread {a} {b} {e} {result} is r = stopped _ IsStated a b e result is (kind.found a b (Err e) r)

  -- there is none
  pub none_said : {a b : State} {rows : Vec X Global} → kind.first rows.items ≡ None → IsRead a b (Ok rows) → Reads IsStated a b (Ok None)
  none_said {a} {b} {rows} none r = told _ IsStated a b rows None (λ book b is. ap (option_and_then (kind.says book)) (sym none ∙ is)) (kind.found a b (Ok rows) r)

  pub none_said-any : {a b : State} {rows : Vec X Global} → kind.first rows.items ≡ None → IsRead a b (Ok rows) → ReadsAny AnyStated a b (Ok None)
  none_said-any {a} {b} {rows} none r = any_none (Gives kind.kept kind.chosen kind.first) kind.Says (option_map act_of) a b (kind.first rows.items) None none refl (given_in kind.is_in kind.first refl r)

  module _ {W : Type 0} (Q : List Entry → W → Type 0) {a b c : State} {rows : Vec X Global} (r : IsRead a b (Ok rows)) where
    -- what it says was not looked up
    pub unnamed : {e : TableFault} {result : Result (Option Body) TableFault} → IsErrAnd result (λ f. f ≡ e) → Reads Q b c (Err e) → Reads IsStated a c result
    unnamed {e} {result} is named = stopped _ IsStated a c e result is (reads_then _ Q a b c rows (Err e) (kind.found a b (Ok rows) r) named)

    -- it says what was looked up
    pub it_said : {w : W} (it : It) (said : Option Body) → kind.first rows.items ≡ Some it → ((book : List Entry) → Q book w → option_map act_of said ≡ kind.says book it) → Reads Q b c (Ok w) → Reads IsStated a c (Ok said)
    it_said {w} it said this so named =
        told _ IsStated a c w said (λ book is_book both. so book both.1 ∙ ap (option_and_then (kind.says book)) (sym this ∙ both.0)) (reads_then _ Q a b c rows (Ok w) (kind.found a b (Ok rows) r) named)

    pub it_said-any : {w : W} (it : It) (said : Option Body) (Any : Trees → W → Type 0) → kind.first rows.items ≡ Some it → ((trees : Trees) → Any trees w → kind.Says it trees (option_map act_of said)) → Reads Q b c (Ok w) → ReadsAny Any b c (Ok w) → ReadsAny AnyStated a c (Ok said)
    it_said-any {w} it said Any this so named any =
        any_this (Gives kind.kept kind.chosen kind.first) kind.Says (option_map act_of) _ Any a b c rows w (kind.first rows.items) it said this (kind.found a b (Ok rows) r) (given_in kind.is_in kind.first refl r) named.within so any

-- ── entries with rows on lines besides ──

pub both_said : {X Y : Type 0} (states : List X → List Y → Option Act) {Lines : List Entry → List X} {Rows : List Entry → List Y} {a b c : State} {lines : Vec X Global} {rows : Vec Y Global} (said : Option Body) → option_map act_of said ≡ states lines.items rows.items
    → Reads (λ book v. v.items ≡ Lines book) a b (Ok lines) → Reads (λ book v. v.items ≡ Rows book) b c (Ok rows) → Reads (λ book v. option_map act_of v ≡ states (Lines book) (Rows book)) a c (Ok said)
both_said states {a = a} {b = b} {c = c} {lines = lines} {rows = rows} said so one two = told _ _ a c rows said (λ book is_book both. so ∙ ap₂ states both.0 both.1) (reads_then _ _ a b c lines (Ok rows) one two)

pub both_said-any : {X Y : Type 0} {k : Kept X} {other : Kept Y} (lines_in : IsInEach k) (rows_in : IsInEach other) (states : List X → List Y → Option Act) {Lines : List Entry → List X} {chosen also : Row → Bool} {a b c : State} {lines : Vec X Global} {rows : Vec Y Global} (said : Option Body)
    → option_map act_of said ≡ states lines.items rows.items → Reads (λ book v. v.items ≡ Lines book) a b (Ok lines) → ReadsFirst k None k.order chosen (λ v. v.items) a b (Ok lines) → ReadsFirst other None other.order also (λ v. v.items) b c (Ok rows)
    → ReadsAny {V = Option Body} (λ trees v. (on_lines : List X) × AreChosen k None k.order chosen trees on_lines × Gives other also (states on_lines) trees (option_map act_of v)) a c (Ok said)
both_said-any {k = k} {other = other} lines_in rows_in states {chosen = chosen} {also = also} {a = a} {b = b} {c = c} {lines = lines} {rows = rows} said so one first second = record {
  found = λ clean has.
      let early : HasCleanDisk b = omega (arith, second.within.survives.clean) in
      let later = any_later _ (Gives other also (states lines.items)) a b c lines (option_map act_of said) one second.within (given_in rows_in (states lines.items) so second) in
      (lines.items, (all_chosen lines_in first).found early has, later.found clean has);
}
