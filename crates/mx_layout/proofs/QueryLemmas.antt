-- What the answer and the refusal of a query say, whatever its text is.
use Rattle.std.proofs.Common.{◌⊎◌, inl, inr, ℕ, List, Option, Some, None, Ok, Err, Result, IfOk, IfErr, IsTrue}
use Rattle.sqlite.specs.Order.{Row}
use Rattle.sqlite.specs.Clock.{timed}
use Rattle.sqlite.specs.declared.error.Error.{Error}
use Rattle.sqlite.specs.declared.error.Error.TheVariants.{SqlInputError}
use Rattle.sqlite_resolve.specs.declared.error.CompileError.{CompileError}
use Rattle.sqlite_resolve.specs.declared.compiled.Compiled.{Compiled}
use Rattle.sqlite_schema.specs.declared.command.Returning.{Returning}
use Rattle.sqlite.specs.State.{State, HasCleanDisk, IsUnchanged, Shown, ShowsRows, FailsToQuery, FailsToShow, IsNotRun, IsTooLate, Survives}
use Rattle.mx_layout.specs.Crash.{IsWithin}
use Rattle.mx_layout.proofs.InsideLemmas.{shown_keeps, query_keeps}
use Rattle.mx_layout.proofs.ReadLemmas.{not_store}

show_refused : (old new : State) (sql : List ℕ) (c : Compiled) (params : Row) (fault : CompileError) (returning : Option Returning) → FailsToShow old new sql c params (SqlInputError fault) returning → IsUnchanged old new
show_refused old new sql c params fault None h = h.3
show_refused old new sql c params fault (Some what) (inl refused) = refused.1
show_refused old new sql c params fault (Some what) (inr failed) = absurd (not_store fault failed.0 failed.1)

query_refused : (old new : State) (sql : List ℕ) (params : Row) (fault : CompileError) → FailsToQuery sql params old new (SqlInputError fault) → IsUnchanged old new
unfolding FailsToQuery IsNotRun
query_refused old new sql params fault (inl (inl refused)) = refused.1
query_refused old new sql params fault (inl (inr failed)) = absurd (not_store fault failed.0 failed.1)
query_refused old new sql params fault (inr ran) = show_refused old new sql ran.0 (timed params ran.0.formats ran.1.now) fault ran.0.returning ran.2

-- a query that is refused because of its text changes nothing
pub refused_unchanged : (old new : State) (sql : List ℕ) (params : Row) (fault : CompileError) → FailsToQuery sql params old new (SqlInputError fault) ⊎ IsTooLate sql params old new (SqlInputError fault) → IsUnchanged old new
refused_unchanged old new sql params fault (inl fails) = query_refused old new sql params fault fails
refused_unchanged old new sql params fault (inr late) = late.5

-- and it is refused as it stands, not because the transaction is over
pub refused_query : (old new : State) (sql : List ℕ) (params : Row) (fault : CompileError) → FailsToQuery sql params old new (SqlInputError fault) ⊎ IsTooLate sql params old new (SqlInputError fault) → FailsToQuery sql params old new (SqlInputError fault)
refused_query old new sql params fault (inl fails) = fails
refused_query old new sql params fault (inr late) = absurd (let e = late.4 in cc)

shows_open : (old new : State) (sql : List ℕ) (c : Compiled) (params : Row) (rows : List Row) (returning : Option Returning) → ShowsRows old new sql c params rows returning → IsTrue old.is_open
shows_open old new sql c params rows None h = h.3.0.was_open
shows_open old new sql c params rows (Some what) h = h.1.shown.was_open

-- a query that is answered found the connection open
pub shown_open : (old new : State) (sql : List ℕ) (params : Row) (rows : List Row) → Shown sql params old new rows → IsTrue old.is_open
unfolding Shown
shown_open old new sql params rows h = shows_open old new sql h.0 (timed params h.0.formats h.1.now) rows h.0.returning h.2

-- a query inside a transaction, whatever it answers
pub query_within : {V : Type 0} (items : V → List Row) (old new : State) (sql : List ℕ) (params : Row) (r : Result V Error) → Survives old new (λ _. ⊥)
    → (HasCleanDisk new → IfOk r (λ v. Shown sql params old new (items v))) → (HasCleanDisk new → IfErr r (λ e. FailsToQuery sql params old new e ⊎ IsTooLate sql params old new e)) → IsWithin old new
query_within items old new sql params (Ok v) survives ok err = record { survives = survives; kept = λ clean inside. shown_keeps old new sql params (items v) inside (ok clean) }
query_within items old new sql params (Err e) survives ok err = record { survives = survives; kept = λ clean _. query_keeps old new sql params e (err clean) }
