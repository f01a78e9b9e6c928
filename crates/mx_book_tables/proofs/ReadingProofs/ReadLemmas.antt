-- Tables that were read, and what is made of their rows.
use Rattle.std.proofs.Common.{◌≡◌, inl, Ok, Err, Result, refl, sym, subst}
use Rattle.std.specs.Prelude.{IsErrAnd}
use Rattle.sqlite.specs.Schema.{Schema}
use Rattle.sqlite.specs.State.{State}
use Rattle.sqlite.specs.Tree.{Trees}
use Rattle.mx_layout.specs.declared.fault.TableFault.{TableFault}
use Rattle.mx_layout.specs.declared.fault.TableFault.TheVariants as fault
use Rattle.mx_tables.specs.inserts.Sets.{ReadsTables}

module _ {V W : Type 0} (IsIn Has : Schema → Type 0) (AreRead : Trees → V → Type 0) (Are : Trees → W → Type 0) (has : (schema : Schema) → Has schema → IsIn schema) (old new : State) where
  -- what follows from the rows that were read
  pub read_told : (v : V) (w : W) → ((trees : Trees) → AreRead trees v → Are trees w) → ReadsTables IsIn AreRead old new (Ok v) → ReadsTables Has Are old new (Ok w)
  read_told v w so r = record {
    rows = λ clean there. so old.now.trees (r.rows clean (has old.now.schema there));
    cause = tt;
    damaged = λ _ _ _. tt;
    there = λ _ _ _. tt;
    unchanged = λ clean there. r.unchanged clean (has old.now.schema there);
    inside = r.inside;
    within = r.within;
  }

  -- memory ran out behind them
  pub read_no_memory : (v : V) (result : Result W TableFault) → IsErrAnd result (λ f. f ≡ fault.Memory) → ReadsTables IsIn AreRead old new (Ok v) → ReadsTables Has Are old new result
  read_no_memory v (Ok w) is r = absurd is
  read_no_memory v (Err e) is r =
      subst (λ (f : TableFault). ReadsTables Has Are old new (Err f)) (sym is)
      (record {
        rows = λ _ _. tt;
        cause = inl refl;
        damaged = λ _ _ name same. absurd cc;
        there = λ schema _ name same. absurd cc;
        unchanged = λ _ _. tt;
        inside = λ _ _. tt;
        within = r.within;
      })

  -- the fault is handed on
  pub read_stopped : (e : TableFault) (result : Result W TableFault) → IsErrAnd result (λ f. f ≡ e) → ReadsTables IsIn AreRead old new (Err e) → ReadsTables Has Are old new result
  read_stopped e (Ok w) is r = absurd is
  read_stopped e (Err f) is r =
      subst (λ (x : TableFault). ReadsTables Has Are old new (Err x)) (sym is)
      (record {
        rows = λ _ _. tt;
        cause = r.cause;
        damaged = λ clean there. r.damaged clean (has old.now.schema there);
        there = λ schema there. r.there schema (has schema there);
        unchanged = λ clean there. r.unchanged clean (has old.now.schema there);
        inside = r.inside;
        within = r.within;
      })

-- what was read says more
pub read_too : {V : Type 0} (IsIn Has : Schema → Type 0) (AreRead Are : Trees → V → Type 0) → ((schema : Schema) → Has schema → IsIn schema) → ((trees : Trees) (v : V) → AreRead trees v → Are trees v)
    → (old new : State) (result : Result V TableFault) → ReadsTables IsIn AreRead old new result → ReadsTables Has Are old new result
read_too IsIn Has AreRead Are has so old new (Ok v) r = read_told IsIn Has AreRead Are has old new v v (λ trees are. so trees v are) r
read_too IsIn Has AreRead Are has so old new (Err e) r = read_stopped IsIn Has AreRead Are has old new e (Err e) refl r
