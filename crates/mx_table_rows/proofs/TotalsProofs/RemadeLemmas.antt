-- Rows that are read, all made anew, and then written in place of what they were.
use Rattle.std.proofs.Common.{◌≡◌, ◌⊎◌, inl, inr, Bool, List, All, None, Vec, Ok, Err, Result, IfOk, IfErr, refl, sym, subst}
use Rattle.sqlite.specs.Order.{Row}
use Rattle.sqlite.specs.State.{State}
use Rattle.mx_layout.specs.declared.fault.TableFault.{TableFault}
use Rattle.mx_layout.specs.declared.fault.TableFault.TheVariants.{Memory, Damaged}
use Rattle.mx_layout.specs.Names.{table_named}
use Rattle.mx_layout.specs.kept.Kept.{Kept}
use Rattle.mx_table_rows.specs.chosen.Calls.{ReadsFirst}
use Rattle.mx_table_rows.specs.totals.Calls.{Becomes, ReadsFrom}
use Rattle.mx_table_rows.specs.totals.Puts.{WritesRows, rows_instead}
use Rattle.mx_table_rows.specs.totals.Remade.{AreRemade, CanRemake, CantRemake, IsRemade, RemakesRows}
use Rattle.mx_table_rows.specs.totals.Several.{AreExactly, HasUnreadable}
use Rattle.mx_table_rows.proofs.TotalsProofs.ReadLemmas.{reads_exactly, reads_of, reads_worse}
use Rattle.mx_table_rows.proofs.TotalsProofs.WriteLemmas.{read_then_written}

module _ {X V : Type 0} (k : Kept X) (test : Row → Bool) (remade : List X → List X) (items : V → List X) where
  abbrev Are : List Row → V → Type 0
  Are stored v = AreRemade k test remade stored (items v)

  -- what is made of the rows that were read, or that it does not fit
  pub remade_read : {A : Type 0} (rows : Vec X A) (answer : Result V TableFault) (old new : State) → IfOk answer (λ v. items v ≡ remade rows.items) → (All k.Fits rows.items → IfOk answer (λ v. All k.Fits (items v)))
      → IfErr answer (λ e. (e ≡ Memory) ⊎ ((e ≡ Damaged k.name) × ¬ All k.Fits (remade rows.items))) → ReadsFirst k None k.order test (λ read. read.items) old new (Ok rows) → ReadsFrom k Are (CantRemake k test remade) old new answer
  remade_read rows (Ok v) old new are fit why r =
      reads_of k test Are (CantRemake k test remade) old new rows v (λ stored exactly. record { can = record { were = rows.items; exactly = exactly; fit = subst (All k.Fits) are (fit exactly.fit) }; are = are }) r
  remade_read rows (Err e) old new are fit (inl memory) r =
      subst (λ f. ReadsFrom k Are (CantRemake k test remade) old new (Err f)) (sym memory) (record { value = λ _ _. tt; cause = inl refl; damaged = λ _ _ is. (absurd cc); unchanged = λ _ _. tt; inside = λ _ _. tt; within = r.within })
  remade_read rows (Err e) old new are fit (inr past) r =
      subst (λ f. ReadsFrom k Are (CantRemake k test remade) old new (Err f)) (sym past.0)
      (reads_worse k (λ stored read. AreExactly k test stored read.items) Are (HasUnreadable k test) (CantRemake k test remade) old new rows (λ stored exactly. inr (record { were = rows.items; exactly = exactly; misfit = past.1 })) (reads_exactly k test old new (Ok rows) r))

  -- it comes in place of the rows
  pub remade_written : {W : Type 0} (v : V) (old mid new : State) (result : Result W TableFault) → ReadsFrom k Are (CantRemake k test remade) old mid (Ok v) → WritesRows k (rows_instead k test (items v)) mid new result → RemakesRows k test remade old new result
  remade_written v old mid new result one two =
      read_then_written k Are (rows_instead k test (items v)) (IsRemade k test remade) (CanRemake k test remade) (CantRemake k test remade) v old mid new result one two
      (λ _ are becomes. record { were = are.can.were; exactly = are.can.exactly; becomes = subst (λ xs. Becomes (table_named k.name) (rows_instead k test xs) old.now new.now) are.are becomes }) (λ are. are.can)
