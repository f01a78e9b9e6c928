-- What a reader answers.
use Rattle.std.proofs.Common.{◌≡◌, ◌⊎◌, inl, inr, List, map, Ok, Err, Result, IfOk, IfErr, refl, sym, subst}
use Rattle.std.specs.Prelude.{IsErr}
use Rattle.std.specs.declared.cmp.Ordering.{Ordering}
use Rattle.std.proofs.lemmas.Result.{IfOk-weaker}
use Rattle.sqlite.specs.Table.{Table}
use Rattle.sqlite.specs.Tree.{Trees}
use Rattle.sqlite.specs.declared.error.Error.{Error}
use Rattle.sqlite.specs.Order.{Row}
use Rattle.mx_layout.specs.TableName.{TableName}
use Rattle.mx_layout.specs.declared.fault.TableFault.{TableFault}
use Rattle.mx_layout.specs.declared.fault.TableFault.TheVariants.{Memory, Store, NotOurs, Exists, Damaged}
use Rattle.mx_layout.specs.Contents.{rows_in}
use Rattle.mx_layout.specs.Point.{IsFaultOf}
use Rattle.mx_layout.specs.Reading.{AreAllBy, HasOther}
use Rattle.mx_layout.proofs.ReadLemmas.{other_in}
use Rattle.mx_tables.specs.Calls.{OnDamaged, OnRead}

pub on_read : {T P : Type 0} (r : Result T TableFault) → P → OnRead r P
on_read (Ok rows) p = p
on_read (Err Memory) p = tt
on_read (Err Store) p = tt
on_read (Err NotOurs) p = tt
on_read (Err Exists) p = tt
on_read (Err (Damaged t)) p = p

-- the fault of a call is no damaged table
pub not_damaged : (fault : TableFault) → (fault ≡ Memory) ⊎ (fault ≡ Store) → (t : TableName) → fault ≡ Damaged t → ⊥
not_damaged fault (inl memory) t is = cc
not_damaged fault (inr store) t is = cc

pub never_damaged : {T : Type 0} (fault : TableFault) → (fault ≡ Memory) ⊎ (fault ≡ Store) → {t : TableName} → ◌≡◌ {A = Result T TableFault} (Err fault) (Err (Damaged t)) → ⊥
never_damaged fault why {t} is = let same : fault ≡ Damaged t = cc in not_damaged fault why t same

pub not_read : (P : Type 0) (fault : TableFault) → (fault ≡ Memory) ⊎ (fault ≡ Store) → OnDamaged fault P
not_read P Memory why = tt
not_read P Store why = tt
not_read P NotOurs why = tt
not_read P Exists why = tt
not_read P (Damaged t) why = absurd (not_damaged (Damaged t) why t refl)

-- ── what a query answered, and what was made of it ──

pub stopped_ok : {W : Type 0} (P : W → Type 0) (result : Result W TableFault) → IsErr result → IfOk result P
stopped_ok P (Ok w) is = absurd (cc)
stopped_ok P (Err e) is = tt

stopped_read : {W : Type 0} (P : Type 0) (error : Error) (result : Result W TableFault) → IsErr result × IfErr result (IsFaultOf error) → OnRead result P
stopped_read P error (Ok w) stopped = let is = stopped.0 in absurd (cc)
stopped_read P error (Err fault) stopped = not_read P fault stopped.1.0

pub stopped_damaged : {W : Type 0} (error : Error) (result : Result W TableFault) (t : TableName) → IsErr result × IfErr result (IsFaultOf error) → result ≡ Err (Damaged t) → ⊥
stopped_damaged error (Ok w) t stopped is = cc
stopped_damaged error (Err fault) t stopped is = never_damaged fault stopped.1.0 is

-- where there is no answer, the fault is the one that the error is
abbrev pub Stops : {V W : Type 0} → Result V Error → Result W TableFault → Type 0
Stops answer result = IfErr answer (λ error. IsErr result × IfErr result (IsFaultOf error))

-- what holds where there is an answer holds where the reader answered
pub answer_read : {V W : Type 0} (P : Type 0) (answer : Result V Error) (result : Result W TableFault) → Stops answer result → IfOk answer (λ _. P) → OnRead result P
answer_read P (Ok v) result stopped ok = on_read result ok
answer_read P (Err error) result stopped ok = stopped_read P error result stopped

-- the rows that were made of an answer are those of the table
pub answer_rows : {V W X : Type 0} (items : V → List Row) (xs : W → List X) (as_cells : X → Row) (order : Row → Row → Ordering) (table : Table) (trees : Trees) (answer : Result V Error) (result : Result W TableFault) → Stops answer result
    → IfOk answer (λ v. AreAllBy order table trees (items v)) → IfOk answer (λ v. IfOk result (λ w. map as_cells (xs w) ≡ items v)) → IfOk result (λ w. AreAllBy order table trees (map as_cells (xs w)))
answer_rows items xs as_cells order table trees (Ok v) result stopped all same = IfOk-weaker result _ _ (λ w is. subst (AreAllBy order table trees) (sym is) all) same
answer_rows items xs as_cells order table trees (Err error) result stopped all same = stopped_ok _ result stopped.0

-- a row of an answer that is none of the type is one of the table
pub answer_damaged : {V W : Type 0} (items : V → List Row) (IsGood : Row → Type 0) (order : Row → Row → Ordering) (table : Table) (trees : Trees) (name : TableName) (answer : Result V Error) (result : Result W TableFault) → Stops answer result
    → IfOk answer (λ v. AreAllBy order table trees (items v)) → IfOk answer (λ v. result ≡ Err (Damaged name) → HasOther IsGood (items v)) → result ≡ Err (Damaged name) → HasOther IsGood (rows_in table trees)
answer_damaged items IsGood order table trees name (Ok v) result stopped all other is = other_in IsGood table trees (items v) all (other is)
answer_damaged items IsGood order table trees name (Err error) result stopped all other is = absurd (stopped_damaged error result name stopped is)
