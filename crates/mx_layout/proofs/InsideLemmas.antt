-- What a call inside a transaction keeps, whatever its text is.
use Rattle.std.proofs.Common.{◌⊎◌, inl, inr, ℕ, Option, Some, None, IsTrue, cond, false, List, Ok, Err, Result, OnOk, refl, ap, ◌∙◌}
use Rattle.sqlite.specs.Order.{Row}
use Rattle.sqlite.specs.Table.{Table}
use Rattle.sqlite_schema.specs.declared.command.Returning.{Returning}
use Rattle.sqlite_resolve.specs.declared.compiled.Compiled.{Compiled}
use Rattle.sqlite.specs.declared.error.Error.{Error}
use Rattle.sqlite.specs.Clock.{timed}
use Rattle.sqlite.specs.State.{State, Shown, ShowsRows, FailsToQuery, FailsToShow, IsNotRun, IsTooLate, IsUnchanged, IsRolledBack, KeepsCommit, ExecutesInside, Executes}
use Rattle.sqlite.proofs.InsideLemmas.{unchanged_keeps, inside_keeps}
use Rattle.mx_layout.specs.Crash.{StaysInside}
use Rattle.mx_layout.specs.Writing.{Inserts, Gains}

pub stays_inside : (old new : State) (sql : List ℕ) (params : Row) (r : Result ℕ Error) → ExecutesInside 0 sql params old new r → OnOk r (StaysInside old new)
stays_inside old new sql params (Ok count) h = h.1
stays_inside old new sql params (Err e) h = tt

pub keeps_commit : (old new : State) (sql : List ℕ) (params : Row) (r : Result ℕ Error) → ExecutesInside 0 sql params old new r → KeepsCommit old new
keeps_commit old new sql params r h = inside_keeps old new 0 false sql params r h

pub gains : (old new : State) (sql : List ℕ) (params : Row) (table : Table) (row : Row) (r : Result ℕ Error)
    → ((count : ℕ) → Executes sql params old new (Ok count) → Inserts table row old new) → ExecutesInside 0 sql params old new r → OnOk r (Gains table row old.now new.now)
gains old new sql params table row (Ok count) inserts h = let it = inserts count h.0 in record { schema = it.schema; adds = it.adds; sound = it.sound }
gains old new sql params table row (Err e) inserts h = tt

module _ (old new : State) (sql : List ℕ) where
  shows_keeps : (c : Compiled) (params : Row) (rows : List Row) (returning : Option Returning) → IsTrue old.in_transaction → ShowsRows old new sql c params rows returning → KeepsCommit old new × IsTrue old.is_open
  shows_keeps c params rows None inside h = (unchanged_keeps old new (inl h.3), h.3.0.was_open)
  shows_keeps c params rows (Some what) inside h =
      let shown = h.1.shown in
      (record { was_open = λ _. shown.was_open; committed = λ _. shown.committed_is ∙ ap (λ b. cond b old.committed new.now) inside }, shown.was_open)

  pub shown_keeps : (params : Row) (rows : List Row) → IsTrue old.in_transaction → Shown sql params old new rows → KeepsCommit old new
  unfolding Shown
  shown_keeps params rows inside h = (shows_keeps h.0 (timed params h.0.formats h.1.now) rows h.0.returning inside h.2).0

  shows_stays : (c : Compiled) (params : Row) (rows : List Row) (returning : Option Returning) → IsTrue old.in_transaction → ShowsRows old new sql c params rows returning → StaysInside old new
  shows_stays c params rows None inside h =
      let shown = h.3.0 in
      record { was_open = shown.was_open; is_open = shown.is_open; now_is = refl; committed_is = shown.committed_is; mode = shown.mode ∙ inside }
  shows_stays c params rows (Some what) inside h =
      let shown = h.1.shown in
      record { was_open = shown.was_open; is_open = shown.is_open; now_is = refl; committed_is = shown.committed_is ∙ ap (λ b. cond b old.committed new.now) inside; mode = shown.mode ∙ inside }

  pub shown_stays : (params : Row) (rows : List Row) → IsTrue old.in_transaction → Shown sql params old new rows → StaysInside old new
  unfolding Shown
  shown_stays params rows inside h = shows_stays h.0 (timed params h.0.formats h.1.now) rows h.0.returning inside h.2

  fails_show : (c : Compiled) (params : Row) (e : Error) (returning : Option Returning) → FailsToShow old new sql c params e returning → IsUnchanged old new ⊎ IsRolledBack old new
  fails_show c params e None h = inl h.3
  fails_show c params e (Some what) (inl refused) = inl refused.1
  fails_show c params e (Some what) (inr failed) = inr failed.3

  fails_query : (params : Row) (e : Error) → FailsToQuery sql params old new e → IsUnchanged old new ⊎ IsRolledBack old new
  unfolding FailsToQuery IsNotRun
  fails_query params e (inl (inl refused)) = inl refused.1
  fails_query params e (inl (inr failed)) = inr failed.3
  fails_query params e (inr ran) = fails_show ran.0 (timed params ran.0.formats ran.1.now) e ran.0.returning ran.2

  pub query_keeps : (params : Row) (e : Error) → FailsToQuery sql params old new e ⊎ IsTooLate sql params old new e → KeepsCommit old new
  query_keeps params e (inl fails) = unchanged_keeps old new (fails_query params e fails)
  query_keeps params e (inr late) = unchanged_keeps old new (inl late.5)
