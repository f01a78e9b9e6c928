-- Look-ups after which a table may be told damaged for a reason of its own.
use Rattle.std.proofs.Common.{◌≡◌, inl, inr, List, Ok, Err, Result, ap, subst, ◌∙◌, arith, sym}
use Rattle.std.specs.Prelude.{⊤, IsErrAnd}
use Rattle.sqlite.specs.Effect.{Database}
use Rattle.sqlite.specs.State.{State, HasCleanDisk}
use Rattle.sqlite.specs.Tree.{Trees}
use Rattle.mx_book.specs.commands.Act.{Entry}
use Rattle.mx_book.specs.Book.{IsBook}
use Rattle.mx_layout.specs.TableName.{TableName}
use Rattle.mx_layout.specs.declared.fault.TableFault.{TableFault}
use Rattle.mx_layout.specs.declared.fault.TableFault.TheVariants.{Damaged}
use Rattle.mx_lookups.specs.numbers.Reads.{HasTablesOfRows, Reads}
use Rattle.mx_lookups.proofs.NumbersProofs.ReadLemmas.{reads_then, stopped, told}
use Rattle.mx_row_questions.specs.entries.Damage.{ReadsOr}

-- what was looked up is so of no book, and this is the reason
pub refuses : {V W : Type 0} (Why : TableName → Trees → Type 0) (P : List Entry → V → Type 0) (Q : List Entry → W → Type 0) (old new : State) (v : V) (name : TableName) (result : Result W TableFault) → result ≡ Err (Damaged name) → ((book : List Entry) → IsBook book → P book v → ⊥)
    → (HasCleanDisk new → HasTablesOfRows old.now.schema → Why name old.now.trees) → Reads P old new (Ok v) → ReadsOr Why Q old new result
refuses Why P Q old new v name result is never why r = inr (record { name = name; told = is; asked = told P (λ book (u : ⊤). ⊥) old new v tt never r; why = why })

-- what was answered was looked up
pub answered : {V : Type 0} (Why : TableName → Trees → Type 0) (P : List Entry → V → Type 0) (old new : State) (v : V) → ReadsOr Why P old new (Ok v) → Reads P old new (Ok v)
answered Why P old new v (inl r) = r
answered Why P old new v (inr refusal) = let never = refusal.told in absurd cc

-- the fault is handed on behind another look-up, for whatever reason
pub handed_on : {U V W : Type 0} (Why More : TableName → Trees → Type 0) → ((name : TableName) (trees : Trees) → Why name trees → More name trees) → (P : List Entry → U → Type 0) (Q : List Entry → V → Type 0) (R : List Entry → W → Type 0) (a b c : State) (u : U) (e : TableFault) (result : Result W TableFault)
    → IsErrAnd result (λ f. f ≡ e) → Reads P a b (Ok u) → ReadsOr Why Q b c (Err e) → ReadsOr More R a c result
handed_on Why More more P Q R a b c u e result is one (inl r) = inl (stopped _ R a c e result is (reads_then P Q a b c u (Err e) one r))
handed_on Why More more P Q R a b c u e (Ok w) is one (inr refusal) = absurd is
handed_on Why More more P Q R a b c u e (Err f) is one (inr refusal) = inr (record {
  name = refusal.name;
  told = (let both = refusal.told in let same : e ≡ Damaged refusal.name = cc in ap Err (is ∙ same));
  asked = told _ (λ book (u : ⊤). ⊥) a c tt tt (λ book b both. both.1) (reads_then P (λ book (u : ⊤). ⊥) a b c u (Ok tt) one refusal.asked);
  why = λ clean has.
      let early : HasCleanDisk b = omega (arith, refusal.asked.within.survives.clean) in
      let same : b.now ≡ a.now = one.unchanged early has in
      more refusal.name a.now.trees (subst (λ (d : Database). Why refusal.name d.trees) same (refusal.why clean (subst (λ (d : Database). HasTablesOfRows d.schema) (sym same) has)));
})
