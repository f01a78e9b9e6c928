-- What is made of what was looked up, over any rows.
use Rattle.std.proofs.Common.{◌≡◌, arith, ℕ, Bool, List, [], ◌∷◌, ◌++◌, Option, None, Some, Result, Ok, Err, Vec, sym, subst, append_assoc, append-nil}
use Rattle.std.specs.Prelude.{MatchOption}
use Rattle.std.specs.Option.{option_and_then}
use Rattle.std.specs.declared.alloc.Global.{Global}
use Rattle.std.specs.declared.cmp.Ordering.{Ordering}
use Rattle.sqlite.specs.Order.{Row}
use Rattle.sqlite.specs.State.{State}
use Rattle.sqlite.specs.Tree.{Trees}
use Rattle.mx_base.specs.declared.amounts.Base.{Base}
use Rattle.mx_base.specs.declared.amounts.Limit.{Limit}
use Rattle.mx_book.specs.commands.Act.{Act, Entry}
use Rattle.mx_book.specs.declared.commands.programme.Task.{Task}
use Rattle.mx_book.specs.declared.commands.release.Line.{Line}
use Rattle.mx_book.specs.declared.commands.release.Place.{Place}
use Rattle.mx_base.specs.declared.rows.rows.EntryRow.{EntryRow}
use Rattle.mx_layout.specs.declared.fault.TableFault.{TableFault}
use Rattle.mx_layout.specs.Crash.{IsWithin}
use Rattle.mx_layout.specs.kept.Kept.{Kept}
use Rattle.mx_lookups.specs.numbers.AnyRows.{AreChosen, ReadsAny}
use Rattle.mx_lookups.specs.numbers.Given.{ItemNumber, TaskOf}
use Rattle.mx_lookups.specs.numbers.Reads.{Reads}
use Rattle.mx_lookups.proofs.NumbersProofs.AnyLemmas.{any_later, any_so}
use Rattle.mx_lookups.proofs.NumbersProofs.TableLemmas.{IsTable}
use Rattle.mx_table_rows.specs.chosen.Calls.{ReadsFirst}
use Rattle.mx_book.specs.due.Due.{due_after}
use Rattle.mx_book.specs.Judge.{item_at}
use Rattle.mx_book.specs.Register.{birth_in}
use Rattle.mx_book.specs.declared.found.Found.{Found}
use Rattle.mx_row_rules.specs.declared.changes.releases.Certified.{Certified}
use Rattle.mx_row_rules.specs.declared.changes.rows.CommandRows.{CommandRows}
use Rattle.mx_apply.specs.made.Found.{AreLinesFound, AreLinesAt, AreRowsBy, AreRowsFor, IsEntryBehind, IsLineFound, KindAt, NumberBy}

-- ── one look-up behind another ──

-- what both answered, of the rows that there were before the first
pub any_then : {V W : Type 0} (P : List Entry → V → Type 0) (F : Trees → V → Type 0) (G : Trees → W → Type 0) (a b c : State) (v : V) (w : W) → Reads P a b (Ok v) → ReadsAny F a b (Ok v) → IsWithin b c → ReadsAny G b c (Ok w) → ReadsAny (λ trees it. F trees v × G trees it) a c (Ok w)
any_then P F G a b c v w one first within later = record {
  found = λ clean has. (first.found (omega (arith, within.survives.clean)) has, (any_later P G a b c v w one within later).found clean has);
}

-- so where the second may not have answered
pub any_both : {V W : Type 0} (P : List Entry → V → Type 0) (F : Trees → V → Type 0) (G : Trees → W → Type 0) (a b c : State) (v : V) (result : Result W TableFault) → Reads P a b (Ok v) → ReadsAny F a b (Ok v) → IsWithin b c → ReadsAny G b c result → ReadsAny (λ trees it. F trees v × G trees it) a c result
any_both P F G a b c v (Ok w) one first within later = record { found = (any_then P F G a b c v w one first within (record { found = later.found })).found }
any_both P F G a b c v (Err e) one first within later = record { found = λ clean has. tt }

-- what follows from what was answered, where it was
pub any_follows : {V : Type 0} (P Q : Trees → V → Type 0) (old new : State) (result : Result V TableFault) → ((trees : Trees) (v : V) → P trees v → Q trees v) → ReadsAny P old new result → ReadsAny Q old new result
any_follows P Q old new (Ok v) so r = record { found = λ clean has. so old.now.trees v (r.found clean has) }
any_follows P Q old new (Err e) so r = record { found = λ clean has. tt }

-- the rows that a raw look-up chose
pub chosen_read : {X A : Type 0} {k : Kept X} {book_rows : List Entry → List X} (it : IsTable k book_rows) {most : Option ℕ} {order : Row → Row → Ordering} {chosen : Row → Bool} {old new : State} {rows : Vec X A} → ReadsFirst k most order chosen (λ (v : Vec X A). v.items) old new (Ok rows)
    → ReadsAny (λ trees (v : Vec X A). AreChosen k most order chosen trees v.items) old new (Ok rows)
chosen_read {k = k} it r = record { found = λ clean has. record { are = r.rows clean (it.is_in _ has); fit = r.fits } }

-- ── when a task is due ──

abbrev Falls : Trees → List ℕ → Option Base → Found → Option Limit → List ℕ → Type 0
Falls trees id last found due k = (known : Option (Option Task)) × TaskOf k id trees known × (due ≡ option_and_then (due_after last (birth_in found)) (option_and_then (λ task. task) known))

pub due_falls : (trees : Trees) (kind : Option (List ℕ)) (k id : List ℕ) (last : Option Base) (found : Found) (due : Option Limit) (known : Option (Option Task)) → kind ≡ Some k → TaskOf k id trees known → due ≡ option_and_then (due_after last (birth_in found)) (option_and_then (λ task. task) known)
    → MatchOption kind (due ≡ None) (Falls trees id last found due)
due_falls trees kind k id last found due known some of is = subst (λ o. MatchOption o (due ≡ None) (Falls trees id last found due)) (sym some) (known, of, is)

pub due_never : (trees : Trees) (kind : Option (List ℕ)) (id : List ℕ) (last : Option Base) (found : Found) (due : Option Limit) → kind ≡ None → due ≡ None → MatchOption kind (due ≡ None) (Falls trees id last found due)
due_never trees kind id last found due none never = subst (λ o. MatchOption o (due ≡ None) (Falls trees id last found due)) (sym none) never

-- ── the rows of a command, by its entry and by what it says ──

pub command_by : (command : Entry) (act : Act) (a b c : State) (entry : EntryRow) (P : List Entry → EntryRow → Type 0) (result : Result CommandRows TableFault) → act ≡ command.act → Reads P a b (Ok entry) → ReadsAny (IsEntryBehind command) a b (Ok entry) → IsWithin b c → ReadsAny (AreRowsBy act entry) b c result
    → ReadsAny (AreRowsFor command) a c result
command_by command act a b c entry P result is one first within later =
    any_follows _ _ a c result
    (λ trees rows both.
    let same : entry ≡ rows.entry = sym both.1.made.entry in
    record {
      behind = subst (IsEntryBehind command trees) same both.0;
      rows_by = subst (λ e. AreRowsBy command.act e trees rows) same (subst (λ x. AreRowsBy x entry trees rows) is both.1);
    })
    (any_both P _ _ a b c entry result one first within later)

-- so of rows that are made of the entry alone
pub command_by_entry : (command : Entry) (act : Act) (a b : State) (entry : EntryRow) (rows : CommandRows) → act ≡ command.act → ((trees : Trees) → AreRowsBy act entry trees rows) → ReadsAny (IsEntryBehind command) a b (Ok entry) → ReadsAny (AreRowsFor command) a b (Ok rows)
command_by_entry command act a b entry rows is made first =
    any_so _ _ a b entry rows
    (λ trees behind.
    let all = made trees in
    let same : entry ≡ rows.entry = sym all.made.entry in
    record {
      behind = subst (IsEntryBehind command trees) same behind;
      rows_by = subst (λ e. AreRowsBy command.act e trees rows) same (subst (λ x. AreRowsBy x entry trees rows) is all);
    })
    first

-- ── lines of a release, one after another ──

module _ (place : Place) (lines : List Line) (number : ℕ) (kind : Option (List ℕ)) where
  -- the number and the kind are those of the place, and what was looked up for some lines comes before what is looked up for those that are left
  abbrev IsWalkedBy : List Certified → List Line → Trees → Type 0
  IsWalkedBy done left trees = (NumberBy (ItemNumber (item_at place)) trees number × KindAt place trees kind) × ((more : List Certified) → AreLinesFound kind trees left more → AreLinesFound kind trees lines (done ++ more))

  abbrev pub AnyWalk : State → State → List Certified → List Line → Type 0
  AnyWalk old new done left = ReadsAny {V = ℕ} (λ trees v. IsWalkedBy done left trees) old new (Ok 0)

  pub any_begun : (old new : State) (done : List Certified) (left : List Line) → done ≡ [] → left ≡ lines → ReadsAny {V = ℕ × Option (List ℕ)} (λ trees v. NumberBy (ItemNumber (item_at place)) trees v.0 × KindAt place trees v.1) old new (Ok (number, kind)) → AnyWalk old new done left
  any_begun old new done left none all = any_so _ _ old new (number, kind) 0 (λ trees is. (is, λ more h. subst (λ d. AreLinesFound kind trees lines (d ++ more)) (sym none) (subst (λ l. AreLinesFound kind trees l more) all h)))

  module _ (a b c : State) (done : List Certified) (left later : List Line) (line : Line) (is : left ≡ line ∷ later) where
    one_more : (trees : Trees) (known : Certified) (longer : List Certified) → longer ≡ done ++ known ∷ [] → IsWalkedBy done left trees → IsLineFound kind trees line known → IsWalkedBy longer later trees
    one_more trees known longer more was this =
        (was.0, λ rest h. subst (λ d. AreLinesFound kind trees lines (d ++ rest)) (sym more) (subst (AreLinesFound kind trees lines) (sym (append_assoc done (known ∷ []) rest)) (was.1 (known ∷ rest) (subst (λ l. AreLinesFound kind trees l (known ∷ rest)) (sym is) (this, h)))))

    pub any_more : (P : List Entry → ℕ → Type 0) (known : Certified) (longer : List Certified) → longer ≡ done ++ known ∷ [] → Reads P a b (Ok 0) → AnyWalk a b done left → IsWithin b c → ReadsAny (λ trees v. IsLineFound kind trees line v) b c (Ok known) → AnyWalk a c longer later
    any_more P known longer more one walk within found = any_so _ _ a c known 0 (λ trees both. one_more trees known longer more both.0 both.1) (any_then P _ _ a b c 0 known one walk within found)

  pub any_ended : (a b : State) (known : Vec Certified Global) (left : List Line) → left ≡ [] → AnyWalk a b known.items left → ReadsAny {V = ℕ × Vec Certified Global} (λ trees v. NumberBy (ItemNumber (item_at place)) trees v.0 × AreLinesAt place lines trees v.1.items) a b (Ok (number, known))
  any_ended a b known left none =
      any_so _ _ a b 0 (number, known) (λ trees was. (was.0.0, (kind, was.0.1, subst (AreLinesFound kind trees lines) (append-nil known.items) (was.1 [] (subst (λ l. AreLinesFound kind trees l []) (sym none) tt)))))
